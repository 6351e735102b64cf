use Rattle.std.proofs.Common.{◌≡◌, refl, ap, arith}
use Rattle.nm_slot.specs.SlotNow.{SlotNow}
use Rattle.nm_slot.proofs.StateLemmas.{kept_with, begins_numbered, carried_count}
use Rattle.nm_slot.proofs.slot.Slot.begin.Goals as goal

pub invariant_of-self : goal.invariant_of-self
invariant_of-self c =
    let count : c.self.inside.count ≡ c.args.self.now.view.own.count = ap (λ (s : SlotNow). s.view.own.count) c.self.view_is in (
      kept_with _ _ _ _ _ _ _ _ _ _ _ c.self.invariant.0
          (c.turn.ensures.kept _ _ _ c.self.invariant.0.stage
          (begins_numbered c.self.inside.epoch _ _ c.args.dest c.in-Begun.number c.in-Begun.ensures.numbered (ap (λ (s : SlotNow). s.view.own.epoch) c.self.view_is)))
          refl (carried_count c.turn.new.self c.self.inside.count (omega (arith, count, c.in-Begun.ensures.numbered.2))),
      c.self.invariant.1,
    )
