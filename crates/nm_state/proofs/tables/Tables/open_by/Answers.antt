use Rattle.nm_types.specs.declared.calls.Deed.TheVariants.{Open}
use Rattle.nm_state.proofs.TurnLemmas.{noted_as, open_is, open_its, open_let_pass, open_turn}
use Rattle.nm_state.proofs.tables.Tables.open_by.Goals as goal

pub returns-in-Answered : goal.returns-in-Answered
returns-in-Answered c =
    open_turn c.args.self.now c.args.call.now c.args.party c.args.args.now c.args.verdict _ _ c.requires.caller c.requires.deed c.in_ok-reply.ensures c.in-Answered.is

pub open_in_turn-requires-clause-passes : goal.open_in_turn-requires-clause-passes
open_in_turn-requires-clause-passes c =
    open_let_pass c.args.self.now c.args.call.now c.args.party c.args.args.now c.args.verdict _ c.requires.caller c.requires.deed
    (open_turn c.args.self.now c.args.call.now c.args.party c.args.args.now c.args.verdict _ _ c.requires.caller c.requires.deed c.in_ok-reply.ensures c.in-Of.is)

pub returns : goal.returns
returns c =
    noted_as c.args.self.now c.args.call.now _ c.args.verdict c.args.owner.now _ _ _ _ (open_is c.args.call.now c.args.party (Open c.args.args.now) c.requires.caller c.requires.deed)
    (open_its c.args.self.now c.args.call.now c.args.party c.args.args.now c.args.verdict _ c.args.owner.now c.requires.caller c.requires.deed c.requires.owner
    (open_turn c.args.self.now c.args.call.now c.args.party c.args.args.now c.args.verdict _ _ c.requires.caller c.requires.deed c.in_ok-reply.ensures c.in-Of.is))
    c.in_ok-reply-in-Of.ensures c.in_ok-note-in-Of.ensures
