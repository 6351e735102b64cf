use Rattle.nm_rules.proofs.LimitLaws.{limits-seen}
use Rattle.nm_rules.proofs.laws.files_stay_within_their_limits.Goals as goal

pub returns : goal.returns
returns c fs grants es legal = limits-seen fs grants es legal
