use Rattle.nm_slot.proofs.HistoryLaws.{stay_legal}
use Rattle.nm_slot.proofs.laws.entries_stay_legal.Goals as goal

pub returns : goal.returns
returns c home h it = stay_legal home h it
