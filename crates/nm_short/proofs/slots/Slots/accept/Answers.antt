use Rattle.std.proofs.Common.{arith}
use Rattle.nm_short.proofs.SlotLemmas.{stepped_of}
use Rattle.nm_short.proofs.slots.Slots.accept.Goals as goal

pub invariant_of-self-2 : goal.invariant_of-self-2
invariant_of-self-2 c =
    stepped_of _ _ _ _ _ _ c.self.invariant (grind arith) c.index_mut-slot.ensures.value c.in_ok-accept.ensures.after c.accept.ensures.spent
