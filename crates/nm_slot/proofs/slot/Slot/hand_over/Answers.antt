use Rattle.std.proofs.Common.{◌≡◌, false, ap, ◌∙◌}
use Rattle.nm_slot.specs.Kept.{spent_of, stage_of, holders_at}
use Rattle.nm_slot.specs.SlotNow.{SlotNow}
use Rattle.nm_slot.proofs.slot.Slot.hand_over.Goals as goal

pub returns-clause-holders : goal.returns-clause-holders
returns-clause-holders c = λ unspent.
    let spent : spent_of c.self.inside.stage ≡ false = ap (λ (s : SlotNow). s.spent) c.self.view_is ∙ unspent in
    c.list_holders.ensures.value c.self.inside.fs c.self.inside.epoch (ap spent_of c.replace-stage.ensures.value ∙ spent)
    (rw (c.replace-stage.ensures.value, c.replace-room.ensures.value) c.self.invariant.0.stage)
    ∙ ap (λ stage. holders_at (stage_of stage)) c.replace-stage.ensures.value
    ∙ ap (λ (s : SlotNow). holders_at s.view.stage) c.self.view_is
