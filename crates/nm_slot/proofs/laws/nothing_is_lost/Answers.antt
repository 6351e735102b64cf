use Rattle.nm_slot.proofs.HistoryLaws.{is_whole}
use Rattle.nm_slot.proofs.laws.nothing_is_lost.Goals as goal

pub returns : goal.returns
returns c home h dest number ends it = is_whole home h dest number ends it
