use Rattle.std.proofs.Common.{ap, sym, ◌∙◌, arith}
use Rattle.std.specs.Vec.{vec_capacity}
use Rattle.nm_state.specs.State.{StateNow}
use Rattle.nm_slot.specs.Eras.{ends_brought}
use Rattle.nm_slot.specs.SlotNow.{SlotNow}
use Rattle.nm_slot.proofs.StateLemmas.{took_some, installed_staged}
use Rattle.nm_slot.proofs.slot.Slot.install.Goals as goal

pub returns-in-Some-clause-spent : goal.returns-in-Some-clause-spent
returns-in-Some-clause-spent c =
    let took = took_some c.args.number c.self.inside.stage c.in-Some.image _ c.in-Some.ensures in
    c.end_brought-ended.ensures.spent ∙ ap (λ (s : StateNow). s.spent) c.into_state-state.ensures ∙ (took.well _ _ _ c.self.invariant.0.stage).unspent ∙ sym took.unspent ∙ ap (λ (s : SlotNow). s.spent) c.self.view_is

pub invariant_of-self : goal.invariant_of-self
invariant_of-self c =
    let took = took_some c.args.number c.self.inside.stage c.in-Some.image _ c.in-Some.ensures in (
      record {
        stage = installed_staged c.self.inside.fs (vec_capacity c.self.inside.room) _ c.in-Some.image c.end_brought-ended.new.state
            (ends_brought c.deref.result.now c.deref-in-Some.result.now c.in-Some.image.state.seen)
            (took.well c.self.inside.fs (vec_capacity c.self.inside.room) c.self.inside.epoch c.self.invariant.0.stage) (rw (← c.into_state-state.ensures) c.end_brought-ended.ensures.seen)
            (omega (arith, c.clear-in-Some.ensures.capacity, c.end_brought-ended.ensures.capacity, ap (λ v. v.cap) c.replace-room.ensures.value));
        count = omega arith;
        passes = c.self.invariant.0.passes;
        empty = c.clear-in-Some.ensures.items;
      },
      record { fits = rw c.clear.ensures.items (omega (arith, c.note_all.ensures.len)) },
    )
