use Rattle.nm_slot.proofs.StateLemmas.{stage_applied}
use Rattle.nm_slot.proofs.stage.Stage.apply.Goals as goal

pub returns-in-Ok-clause-kept : goal.returns-in-Ok-clause-kept
returns-in-Ok-clause-kept c = stage_applied c.args.self.now c.in-Here.doing c.in-Here.state c.apply.new.self c.args.event.now c.in-Ok.reply c.in-Here.is c.in-Ok.ensures.applies
