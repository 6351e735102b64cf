use Rattle.std.proofs.Common.{sym, ◌∙◌}
use Rattle.nm_state.proofs.LockLemmas.{known_names, known_refused, known_went}
use Rattle.nm_state.proofs.tables.Tables.known_reply.Goals as goal

pub returns-in-Some : goal.returns-in-Some
returns-in-Some c = (known_refused c.args.self.now c.args.call.now c.args.args.now c.args.stateid c.args.lock_seqid c.args.verdict c.in-Some.reply c.requires (sym c.in-Some.is ∙ c.in_ok-reply.ensures)).answer

pub changed_lock-requires : goal.changed_lock-requires
changed_lock-requires c = known_names c.args.self.now c.args.call.now.file c.args.args.now c.args.stateid c.args.verdict (sym c.in-None.is ∙ c.in_ok-reply.ensures)

pub returns-in-None : goal.returns-in-None
returns-in-None c =
    rw c.reply.ensures (known_went c.args.self.now c.args.call.now c.args.args.now c.args.stateid c.args.lock_seqid c.args.verdict c.changed_lock.result c.requires (sym c.in-None.is ∙ c.in_ok-reply.ensures) c.changed_lock.ensures).answer
