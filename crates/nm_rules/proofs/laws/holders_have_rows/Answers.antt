use Rattle.nm_rules.proofs.HolderLaws.{among-holders, parties_rise-holders}
use Rattle.nm_rules.proofs.laws.holders_have_rows.Goals as goal

pub returns : goal.returns
returns c = record { rise = parties_rise-holders; exact = λ s party. among-holders party s }
