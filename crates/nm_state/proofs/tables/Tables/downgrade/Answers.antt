use Rattle.nm_types.specs.declared.calls.Deed.TheVariants.{OpenDowngrade}
use Rattle.nm_state.proofs.TurnLemmas.{call_is, downgrade_turn, noted_as}
use Rattle.nm_state.proofs.tables.Tables.downgrade.Goals as goal

pub returns-in-Answered : goal.returns-in-Answered
returns-in-Answered c =
    downgrade_turn c.args.self.now c.args.call.now c.args.args.now c.args.verdict _ _ _ c.requires c.resolved.ensures c.in_ok-reply.ensures c.in-Answered.is

pub returns-in_ok-note-in-Of : goal.returns-in_ok-note-in-Of
returns-in_ok-note-in-Of c =
    noted_as c.args.self.now c.args.call.now _ c.args.verdict _ _ _ _ _ (call_is c.args.call.now (OpenDowngrade c.args.args.now) c.requires)
    (downgrade_turn c.args.self.now c.args.call.now c.args.args.now c.args.verdict _ _ _ c.requires c.resolved.ensures c.in_ok-reply.ensures c.in-Of.is)
    c.downgrade_in_turn-reply.ensures c.in_ok-note-in-Of.ensures
