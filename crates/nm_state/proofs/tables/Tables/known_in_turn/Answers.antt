use Rattle.std.proofs.Common.{sym, ◌∙◌}
use Rattle.nm_state.proofs.LockLemmas.{known_goes, known_names, known_refused, known_went}
use Rattle.nm_state.proofs.tables.Tables.known_in_turn.Goals as goal

pub returns-in-Some : goal.returns-in-Some
returns-in-Some c = known_refused c.args.self.now c.args.call.now c.args.args.now c.args.stateid c.args.lock_seqid c.args.verdict c.in-Some.reply c.requires (sym c.in-Some.is ∙ c.in_ok-reply.ensures)

pub changed_lock-id-requires : goal.changed_lock-id-requires
changed_lock-id-requires c = known_names c.args.self.now c.args.call.now.file c.args.args.now c.args.stateid c.args.verdict (sym c.in-None.is ∙ c.in_ok-reply.ensures)

pub give_known-requires-clause-live : goal.give_known-requires-clause-live
give_known-requires-clause-live c = (known_goes c.args.self.now c.args.call.now.file c.args.args.now c.args.stateid c.args.verdict c.changed_lock-id.result (sym c.in-None.is ∙ c.in_ok-reply.ensures) c.changed_lock-id.ensures).on

pub give_known-requires-clause-range : goal.give_known-requires-clause-range
give_known-requires-clause-range c = (known_goes c.args.self.now c.args.call.now.file c.args.args.now c.args.stateid c.args.verdict c.changed_lock-id.result (sym c.in-None.is ∙ c.in_ok-reply.ensures) c.changed_lock-id.ensures).range

pub give_known-requires-clause-free : goal.give_known-requires-clause-free
give_known-requires-clause-free c = (known_goes c.args.self.now c.args.call.now.file c.args.args.now c.args.stateid c.args.verdict c.changed_lock-id.result (sym c.in-None.is ∙ c.in_ok-reply.ensures) c.changed_lock-id.ensures).free

pub returns-in_ok-give_known-in-None : goal.returns-in_ok-give_known-in-None
returns-in_ok-give_known-in-None c =
    rw (c.reply.ensures, c.in_ok-give_known-in-None.ensures)
    (known_went c.args.self.now c.args.call.now c.args.args.now c.args.stateid c.args.lock_seqid c.args.verdict c.changed_lock-id.result c.requires (sym c.in-None.is ∙ c.in_ok-reply.ensures) c.changed_lock-id.ensures)
