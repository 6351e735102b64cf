use Rattle.nm_rules.proofs.HolderLaws.{holders_fit, rows_grow}
use Rattle.nm_rules.proofs.laws.rows_grow_by_two.Goals as goal

pub returns : goal.returns
returns c = record { fit = holders_fit; grow = rows_grow }
