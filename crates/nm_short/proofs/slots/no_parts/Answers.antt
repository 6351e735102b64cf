use Rattle.std.proofs.Common.{ap}
use Rattle.nm_short.proofs.SlotLemmas.{one_more}
use Rattle.nm_short.proofs.slots.no_parts.Goals as goal

pub loop-count-preserved : goal.loop-count-preserved
loop-count-preserved c =
    rw c.in_ok-push.ensures.items (one_more c.args.fs c.loop-count._count c.loop-count.list.items c.in_ok-new.field-0 c.loop-count.invariant
    (ap (λ slot. slot.view) c.in_ok-new.ensures))
