use Rattle.nm_slot.proofs.HistoryLaws.{door_accounted}
use Rattle.nm_slot.proofs.laws.the_door_is_accounted_for.Goals as goal

pub returns : goal.returns
returns c home h s a it = door_accounted home h s a it.0.answered
