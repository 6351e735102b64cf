use Rattle.nm_types.specs.declared.calls.Deed.TheVariants.{Unlock}
use Rattle.nm_state.proofs.TurnLemmas.{call_is, noted_as, unlock_turn}
use Rattle.nm_state.proofs.tables.Tables.unlock.Goals as goal

pub returns-in-Answered : goal.returns-in-Answered
returns-in-Answered c =
    unlock_turn c.args.self.now c.args.call.now c.args.args.now c.args.verdict _ _ _ c.requires c.lock_named.ensures c.in_ok-reply.ensures c.in-Answered.is

pub returns-in_ok-note-in-Of : goal.returns-in_ok-note-in-Of
returns-in_ok-note-in-Of c =
    noted_as c.args.self.now c.args.call.now _ c.args.verdict _ _ _ _ _ (call_is c.args.call.now (Unlock c.args.args.now) c.requires)
    (unlock_turn c.args.self.now c.args.call.now c.args.args.now c.args.verdict _ _ _ c.requires c.lock_named.ensures c.in_ok-reply.ensures c.in-Of.is)
    c.in_ok-reply-in-Of.ensures c.in_ok-note-in-Of.ensures
