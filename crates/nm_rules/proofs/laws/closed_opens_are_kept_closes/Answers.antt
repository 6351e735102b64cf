use Rattle.nm_rules.proofs.ClosedLaws.{closed-seen}
use Rattle.nm_rules.proofs.laws.closed_opens_are_kept_closes.Goals as goal

pub returns : goal.returns
returns c fs grants es legal owner = closed-seen fs grants es legal owner
