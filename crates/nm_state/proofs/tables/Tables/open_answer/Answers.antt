use Rattle.nm_types.specs.declared.calls.Deed.TheVariants.{Open}
use Rattle.nm_state.proofs.TurnLemmas.{nobody_opens, open_is, open_let_pass, open_turn, told_as}
use Rattle.nm_state.proofs.tables.Tables.open_answer.Goals as goal

pub returns-in_default : goal.returns-in_default
returns-in_default c =
    rw c.reply.ensures (nobody_opens c.args.self.now c.args.call.now c.args.args.now c.args.verdict c.in_default.is c.requires).answer

pub returns-in-Answered : goal.returns-in-Answered
returns-in-Answered c =
    (open_turn c.args.self.now c.args.call.now c.in-Some.party c.args.args.now c.args.verdict _ _ c.in-Some.is c.requires c.in_ok-reply.ensures c.in-Answered.is).answer

pub open_reply-requires-clause-passes : goal.open_reply-requires-clause-passes
open_reply-requires-clause-passes c =
    open_let_pass c.args.self.now c.args.call.now c.in-Some.party c.args.args.now c.args.verdict _ c.in-Some.is c.requires
    (open_turn c.args.self.now c.args.call.now c.in-Some.party c.args.args.now c.args.verdict _ _ c.in-Some.is c.requires c.in_ok-reply.ensures c.in-Of.is)

pub returns : goal.returns
returns c =
    told_as c.args.self.now c.args.call.now _ c.args.verdict _ _ (open_is c.args.call.now c.in-Some.party (Open c.args.args.now) c.in-Some.is c.requires)
    (open_turn c.args.self.now c.args.call.now c.in-Some.party c.args.args.now c.args.verdict _ _ c.in-Some.is c.requires c.in_ok-reply.ensures c.in-Of.is)
    c.in_ok-open_reply-in-Of.ensures
