use Rattle.nm_laws.proofs.AccessLaws.{reads-seen}
use Rattle.nm_laws.proofs.data.reads_meet_no_deny.Goals as goal

pub returns : goal.returns
returns c fs grants es call verdict args ok legal its it = reads-seen fs grants es call verdict args ok legal its it
