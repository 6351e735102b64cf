use Rattle.std.proofs.Common.{sym, ap, ◌∙◌}
use Rattle.std.specs.Prelude.{option_copied}
use Rattle.nm_slot.specs.Answers.{apply_ends}
use Rattle.nm_slot.specs.SlotNow.{SlotNow}
use Rattle.nm_slot.proofs.StateLemmas.{called_after}
use Rattle.nm_slot.proofs.slot.Slot.apply.Goals as goal

pub returns-in-Some-clause-after : goal.returns-in-Some-clause-after
returns-in-Some-clause-after c = sym (c.in-Some.ensures.same _ _ _ _ _)

pub returns-in_ok-reply-in-None-clause-after : goal.returns-in_ok-reply-in-None-clause-after
unfolding apply_ends
returns-in_ok-reply-in-None-clause-after c =
    c.in_ok-reply-in-None.ensures.after
    ∙ called_after c.args.self.now.view c.args.pass.now.epoch (option_copied c.args.lease) c.args.call.now c.args.verdict c.in_ok-reply-in-None.reply c.self-in-None.inside.count
    (ap (λ (s : SlotNow). s.view.own.count) c.self-in-None.view_is ∙ ap (λ v. v.own.count) c.in_ok-reply-in-None.ensures.after)
