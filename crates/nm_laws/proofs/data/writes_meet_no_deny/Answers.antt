use Rattle.nm_laws.proofs.AccessLaws.{writes-seen}
use Rattle.nm_laws.proofs.data.writes_meet_no_deny.Goals as goal

pub returns : goal.returns
returns c fs grants es call verdict args ok legal its it = writes-seen fs grants es call verdict args ok legal its it
