use Rattle.std.proofs.Common.{ap}
use Rattle.nm_rules.specs.Seqids.{is_fresh}
use Rattle.nm_rules.proofs.OwnerLaws.{old-after}
use Rattle.nm_rules.proofs.laws.repeats_change_nothing.Goals as goal

pub returns : goal.returns
returns c s call verdict reply again = old-after s call verdict reply (ap is_fresh again)
