use Rattle.std.proofs.Common.{◌≡◌, ◌+◌, false, ap, sym, ◌∙◌, arith}
use Rattle.nm_slot.specs.Kept.{stage_of, held_of, spent_of, is_serving}
use Rattle.nm_slot.specs.Answers.{ends_abandoned, abandon_ends}
use Rattle.nm_slot.specs.Changes.{stage_ended}
use Rattle.nm_slot.specs.SlotNow.{SlotNow}
use Rattle.nm_slot.proofs.StateLemmas.{kept_with, staged_wider, serving_count, late_after}
use Rattle.nm_slot.proofs.slot.Slot.end_late.Goals as goal

pub invariant_of-self : goal.invariant_of-self
invariant_of-self c = (
  kept_with _ _ _ _ _ _ _ _ _ _ _ c.self.invariant.0
      (staged_wider _ _ _ _ _ (omega (arith, c.clear.ensures.capacity, c.end_late-due.ensures.capacity, ap (λ v. v.cap) c.replace-room.ensures.value))
      (c.end_late-due.ensures.kept _ _ _ c.self.invariant.0.stage))
      (c.clear.ensures.items ∙ sym c.self.invariant.0.empty)
      (rw (c.end_late-due.ensures.count (c.self.inside.count + c.len.result))
      (serving_count c.self.inside.stage (c.self.inside.count + c.len.result) (ap (λ (s : SlotNow). is_serving s.view.stage) c.self.view_is ∙ c.requires.serving))),
  c.self.invariant.1,
)

pub returns-clause-after : goal.returns-clause-after
unfolding abandon_ends
returns-clause-after c = λ unspent.
    let spent : spent_of c.self.inside.stage ≡ false = ap (λ (s : SlotNow). s.spent) c.self.view_is ∙ unspent in
    ap (λ (s : SlotNow). record s.view {
      stage = stage_of c.end_late-due.new.self;
      own = record s.view.own { held = held_of c.end_late-due.new.self; count = c.self.inside.count + c.len.result };
    }) c.self.view_is
    ∙ late_after c.args.self.now (stage_of c.end_late-due.new.self) (held_of c.end_late-due.new.self) (c.self.inside.count + c.len.result) c.end_late-due.result.items
    (c.end_late-due.ensures.ends c.self.inside.fs c.self.inside.epoch spent (rw c.replace-room.ensures.value c.self.invariant.0.stage)
    ∙ ap (λ rows. ends_abandoned rows (stage_of c.self.inside.stage)) c.deref.ensures.value
    ∙ ap (λ (s : SlotNow). ends_abandoned s.view.own.eras s.view.stage) c.self.view_is)
    (c.end_late-due.ensures.after ∙ ap (λ (s : SlotNow). stage_ended c.end_late-due.result.items s.view.stage) c.self.view_is)
    (c.end_late-due.ensures.held ∙ ap (λ (s : SlotNow). s.view.own.held) c.self.view_is)
    (omega (arith, ap (λ (s : SlotNow). s.view.own.count) c.self.view_is, c.len.ensures))
