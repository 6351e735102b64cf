use Rattle.nm_laws.proofs.AccessLaws.{sizes-seen}
use Rattle.nm_laws.proofs.data.sizes_meet_no_deny.Goals as goal

pub returns : goal.returns
returns c fs grants es call verdict args word words legal its sized it = sizes-seen fs grants es call verdict args word words legal its sized it
