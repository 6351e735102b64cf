use Rattle.nm_slot.proofs.SlotsFollow.{own_slot, other_slots}
use Rattle.nm_slot.proofs.laws.slots_follow_the_phase.Goals as goal

pub returns-clause-own : goal.returns-clause-own
returns-clause-own c home h x it = own_slot home h x it

pub returns-clause-others : goal.returns-clause-others
returns-clause-others c home h x it s ne = other_slots home h x it s ne
