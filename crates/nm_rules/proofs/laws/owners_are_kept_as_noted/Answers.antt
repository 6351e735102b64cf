use Rattle.nm_rules.proofs.OwnerLaws.{owner-seen}
use Rattle.nm_rules.proofs.laws.owners_are_kept_as_noted.Goals as goal

pub returns : goal.returns
returns c fs grants es legal owner = owner-seen fs grants es owner legal
