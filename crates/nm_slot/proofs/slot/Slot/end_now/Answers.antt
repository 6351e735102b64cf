use Rattle.std.proofs.Common.{◌≡◌, ◌+◌, refl, ap, arith}
use Rattle.nm_slot.specs.SlotNow.{SlotNow}
use Rattle.nm_slot.proofs.StateLemmas.{kept_with, carried_count}
use Rattle.nm_slot.proofs.slot.Slot.end_now.Goals as goal

pub invariant_of-self-2 : goal.invariant_of-self-2
invariant_of-self-2 c =
    let count : c.self.inside.count ≡ c.args.self.now.view.own.count = ap (λ (s : SlotNow). s.view.own.count) c.self.view_is in (
      kept_with _ _ _ _ _ _ _ _ _ _ _ c.self.invariant.0 (c.end-number.ensures.kept _ _ _ c.self.invariant.0.stage) refl
          (carried_count c.end-number.new.self (c.self.inside.count + c.end-number.result) (omega (arith, c.requires, count, c.end-number.ensures.few))),
      record { fits = omega (arith, c.in_ok-reserve.ensures.ok, c.mark.ensures.len, c.mark.ensures.capacity) },
    )
