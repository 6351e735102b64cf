use Rattle.std.proofs.Common.{arith}
use Rattle.nm_short.proofs.SlotLemmas.{unspent_of}
use Rattle.nm_short.proofs.slots.Slots.abandon.Goals as goal

pub invariant_of-self-2 : goal.invariant_of-self-2
invariant_of-self-2 c =
    unspent_of _ _ _ _ _ _ c.self.invariant (grind arith) c.index_mut-slot.ensures.value (c.abandon.ensures.after (grind arith)) (grind arith)
