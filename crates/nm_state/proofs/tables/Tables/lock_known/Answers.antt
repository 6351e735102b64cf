use Rattle.std.proofs.Common.{refl}
use Rattle.nm_state.proofs.TurnLemmas.{known_turn, noted_as}
use Rattle.nm_state.proofs.tables.Tables.lock_known.Goals as goal

pub returns-in-Answered : goal.returns-in-Answered
returns-in-Answered c = known_turn c.args.self.now c.args.call.now c.args.args.now c.args.stateid c.args.lock_seqid c.args.verdict _ _ _ c.requires c.lock_named.ensures c.in_ok-reply.ensures c.in-Answered.is

pub returns-in_ok-note-in-Of : goal.returns-in_ok-note-in-Of
returns-in_ok-note-in-Of c =
    noted_as c.args.self.now c.args.call.now c.args.call.now c.args.verdict _ _ _ _ _ refl
    (known_turn c.args.self.now c.args.call.now c.args.args.now c.args.stateid c.args.lock_seqid c.args.verdict _ _ _ c.requires c.lock_named.ensures c.in_ok-reply.ensures c.in-Of.is)
    c.in_ok-reply-in-Of.ensures c.in_ok-note-in-Of.ensures
