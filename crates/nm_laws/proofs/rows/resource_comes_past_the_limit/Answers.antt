use Rattle.nm_laws.proofs.RowsExact.{exact-seen}
use Rattle.nm_laws.proofs.rows.resource_comes_past_the_limit.Goals as goal

pub returns : goal.returns
returns c fs grants es call verdict legal limited goes = exact-seen fs grants es call verdict legal limited goes
