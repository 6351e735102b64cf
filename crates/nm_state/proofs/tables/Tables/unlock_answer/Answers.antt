use Rattle.nm_types.specs.declared.calls.Deed.TheVariants.{Unlock}
use Rattle.nm_state.proofs.TurnLemmas.{call_is, told_as, unlock_turn}
use Rattle.nm_state.proofs.tables.Tables.unlock_answer.Goals as goal

pub returns-in-Answered : goal.returns-in-Answered
returns-in-Answered c =
    (unlock_turn c.args.self.now c.args.call.now c.args.args.now c.args.verdict _ _ _ c.requires c.lock_named.ensures c.in_ok-reply.ensures c.in-Answered.is).answer

pub returns : goal.returns
returns c =
    told_as c.args.self.now c.args.call.now _ c.args.verdict _ _ (call_is c.args.call.now (Unlock c.args.args.now) c.requires)
    (unlock_turn c.args.self.now c.args.call.now c.args.args.now c.args.verdict _ _ _ c.requires c.lock_named.ensures c.in_ok-reply.ensures c.in-Of.is)
    c.unlock_reply.ensures
