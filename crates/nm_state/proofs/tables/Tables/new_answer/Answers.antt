use Rattle.std.proofs.Common.{refl}
use Rattle.nm_state.proofs.TurnLemmas.{new_turn, told_as}
use Rattle.nm_state.proofs.tables.Tables.new_answer.Goals as goal

pub returns-in-Answered : goal.returns-in-Answered
returns-in-Answered c = (new_turn c.args.self.now c.args.call.now c.args.args.now c.args.new.now c.args.verdict _ _ c.requires c.in_ok-reply.ensures c.in-Answered.is).answer

pub returns : goal.returns
returns c =
    told_as c.args.self.now c.args.call.now c.args.call.now c.args.verdict _ _ refl
    (new_turn c.args.self.now c.args.call.now c.args.args.now c.args.new.now c.args.verdict _ _ c.requires c.in_ok-reply.ensures c.in-Of.is) c.in_ok-new_reply-in-Of.ensures
