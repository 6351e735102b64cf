use Rattle.std.proofs.Common.{◌≡◌, ◌+◌, arith, ap}
use Rattle.nm_slot.specs.SlotNow.{SlotNow}
use Rattle.nm_slot.proofs.StateLemmas.{kept_with, carried_count}
use Rattle.nm_slot.proofs.slot.Slot.take_event.Goals as goal

pub invariant_of-self-in-Ok : goal.invariant_of-self-in-Ok
invariant_of-self-in-Ok c =
    let count : c.self.inside.count ≡ c.args.self.now.view.own.count = ap (λ (s : SlotNow). s.view.own.count) c.self.view_is in (
      kept_with _ _ _ _ _ _ _ _ _ _ _ c.self.invariant.0
          (c.apply.ensures.kept _ _ _ _ (c.end_earlier-ended.ensures.kept _ _ _ c.self.invariant.0.stage)
          (omega (arith, c.in_ok-reserve_two_more.ensures.ok, c.rows.ensures, c.end_earlier-ended.ensures.rows)))
          c.reserve_two_more.ensures.items
          (carried_count c.apply.new.self (c.self.inside.count + (c.end_earlier-ended.result + 1)) (omega (arith, c.requires.room, count, c.end_earlier-ended.ensures.few))),
      record { fits = omega (arith, c.in_ok-reserve.ensures.ok, c.note_lease.ensures.len, c.note_lease.ensures.capacity) },
    )

pub invariant_of-self-in-Err : goal.invariant_of-self-in-Err
invariant_of-self-in-Err c =
    let count : c.self.inside.count ≡ c.args.self.now.view.own.count = ap (λ (s : SlotNow). s.view.own.count) c.self.view_is in (
      kept_with _ _ _ _ _ _ _ _ _ _ _ c.self.invariant.0
          (c.apply.ensures.kept _ _ _ _ (c.end_earlier-ended.ensures.kept _ _ _ c.self.invariant.0.stage)
          (omega (arith, c.in_ok-reserve_two_more.ensures.ok, c.rows.ensures, c.end_earlier-ended.ensures.rows)))
          c.reserve_two_more.ensures.items
          (carried_count c.apply.new.self c.self.inside.count (omega (arith, c.requires.room, count))),
      record { fits = omega (arith, c.in_ok-reserve.ensures.ok) },
    )
