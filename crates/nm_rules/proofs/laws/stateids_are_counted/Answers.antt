use Rattle.nm_rules.proofs.StateidLaws.{last-seen, told-seen}
use Rattle.nm_rules.proofs.laws.stateids_are_counted.Goals as goal

pub returns : goal.returns
returns c = record { last = last-seen; told = told-seen }
