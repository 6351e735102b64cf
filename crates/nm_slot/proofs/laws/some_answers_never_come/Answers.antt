use Rattle.nm_slot.proofs.NeverComes.{never_come}
use Rattle.nm_slot.proofs.laws.some_answers_never_come.Goals as goal

pub returns : goal.returns
returns c home h x it = never_come home h x it
