use Rattle.std.proofs.Common.{ap}
use Rattle.nm_short.proofs.SlotLemmas.{no_parts_of, first_of, slots_first}
use Rattle.nm_short.proofs.slots.Slots.new.Goals as goal

pub invariant_of-result : goal.invariant_of-result
invariant_of-result c = no_parts_of c.args.fs c.args.servers c.in_ok-list.list.items c.in_ok-list.ensures

pub invariant_of-result-2 : goal.invariant_of-result-2
invariant_of-result-2 c =
    first_of c.args.fs c.args.servers c.number-place.result c.in_ok-list.list.items c.in_ok-list-2.field-0 c.in_ok-list.ensures
    (ap (λ slot. slot.view) c.in_ok-list-2.ensures)

pub returns : goal.returns
returns c =
    slots_first c.args.fs c.args.servers c.args.at c.number-place.result c.in_ok-list.list.items c.in_ok-list-2.field-0 c.number-place.ensures.value
    c.in_ok-list.ensures (ap (λ slot. slot.view) c.in_ok-list-2.ensures)
