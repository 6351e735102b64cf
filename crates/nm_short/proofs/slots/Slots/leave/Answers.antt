use Rattle.std.proofs.Common.{arith}
use Rattle.nm_short.proofs.SlotLemmas.{stepped_of}
use Rattle.nm_short.proofs.slots.Slots.leave.Goals as goal

pub invariant_of-self : goal.invariant_of-self
invariant_of-self c =
    stepped_of _ _ _ _ _ _ c.self.invariant (grind arith) c.index_mut.ensures.value c.leave.ensures.after c.leave.ensures.spent
