use Rattle.nm_rules.proofs.RowLimit.{rows-seen}
use Rattle.nm_rules.proofs.laws.rows_stay_within_the_limit.Goals as goal

pub returns : goal.returns
returns c fs grants es legal = rows-seen fs grants es legal
