use Rattle.nm_rules.proofs.KnownLaws.{known-seen}
use Rattle.nm_rules.proofs.laws.owners_of_opens_are_known.Goals as goal

pub returns : goal.returns
returns c fs grants es legal = known-seen fs grants es legal
