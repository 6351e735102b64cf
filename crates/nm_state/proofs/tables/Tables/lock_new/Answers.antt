use Rattle.nm_state.proofs.TurnLemmas.{new_turn, started_as}
use Rattle.nm_state.proofs.tables.Tables.lock_new.Goals as goal

pub returns-in-Answered : goal.returns-in-Answered
returns-in-Answered c = new_turn c.args.self.now c.args.call.now c.args.args.now c.args.new.now c.args.verdict _ _ c.requires c.in_ok-reply.ensures c.in-Answered.is

pub returns-in_ok-start-in-Of : goal.returns-in_ok-start-in-Of
returns-in_ok-start-in-Of c =
    started_as c.args.self.now c.args.call.now c.args.args.now c.args.new.now c.args.verdict _ _ _ _ _ _ c.requires
    (new_turn c.args.self.now c.args.call.now c.args.args.now c.args.new.now c.args.verdict _ _ c.requires c.in_ok-reply.ensures c.in-Of.is)
    c.in_ok-reply-in-Of.ensures c.in_ok-note-in-Of.ensures c.in_ok-start-in-Of.ensures
