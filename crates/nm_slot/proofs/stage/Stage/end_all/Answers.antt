use Rattle.nm_slot.proofs.StateLemmas.{stage_all_kept}
use Rattle.nm_slot.proofs.stage.Stage.end_all.Goals as goal

pub returns-in-Here-clause-kept : goal.returns-in-Here-clause-kept
returns-in-Here-clause-kept c =
    stage_all_kept c.args.self.now c.in-Here.doing c.in-Here.state c.end_all.new.state c.args.instances.now c.in-Here.is c.end_all.ensures.seen c.end_all.ensures.spent
