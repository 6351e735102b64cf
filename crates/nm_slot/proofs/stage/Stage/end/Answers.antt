use Rattle.nm_slot.proofs.StateLemmas.{stage_ended_kept, stage_ended_rows}
use Rattle.nm_slot.proofs.stage.Stage.end.Goals as goal

pub returns-else-not-has-clause-rows : goal.returns-else-not-has-clause-rows
returns-else-not-has-clause-rows c = stage_ended_rows c.args.self.now c.in-Here.doing c.in-Here.state c.end.new.self c.args.instance.now c.in-Here.is c.end.ensures

pub returns-else-not-has-clause-kept : goal.returns-else-not-has-clause-kept
returns-else-not-has-clause-kept c = stage_ended_kept c.args.self.now c.in-Here.doing c.in-Here.state c.end.new.self c.args.instance.now c.in-Here.is c.end.ensures
