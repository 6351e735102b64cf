use Rattle.nm_types.specs.declared.calls.Deed.TheVariants.{Close}
use Rattle.nm_state.proofs.TurnLemmas.{call_is, close_turn, told_as}
use Rattle.nm_state.proofs.tables.Tables.close_answer.Goals as goal

pub returns-in-Answered : goal.returns-in-Answered
returns-in-Answered c =
    (close_turn c.args.self.now c.args.call.now c.args.args.now c.args.verdict _ _ _ c.requires c.resolved.ensures c.in_ok-reply.ensures c.in-Answered.is).answer

pub returns : goal.returns
returns c =
    told_as c.args.self.now c.args.call.now _ c.args.verdict _ _ (call_is c.args.call.now (Close c.args.args.now) c.requires)
    (close_turn c.args.self.now c.args.call.now c.args.args.now c.args.verdict _ _ _ c.requires c.resolved.ensures c.in_ok-reply.ensures c.in-Of.is)
    c.close_reply.ensures
