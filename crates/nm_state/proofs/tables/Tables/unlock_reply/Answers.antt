use Rattle.std.proofs.Common.{refl}
use Rattle.nm_types.specs.declared.calls.Call.{Call}
use Rattle.nm_types.specs.declared.calls.Deed.TheVariants.{Unlock}
use Rattle.nm_state.proofs.LockLemmas.{told_unlock, unlock_names}
use Rattle.nm_state.proofs.WentLemmas.{went_refused}
use Rattle.nm_state.proofs.tables.Tables.unlock_reply.Goals as goal

pub returns-in-Some : goal.returns-in-Some
returns-in-Some c =
    let call : Call = record { caller = c.args.call.now.caller; file = c.args.call.now.file; deed = Unlock c.args.args.now } in
    rw c.reply.ensures (went_refused c.args.self.now call c.args.verdict c.in-Some.status refl c.in-Some.ensures).answer

pub changed_lock-id-requires : goal.changed_lock-id-requires
changed_lock-id-requires c = unlock_names c.args.self.now c.args.call.now.caller c.args.call.now.file c.args.args.now c.args.verdict c.in_default.ensures

pub returns : goal.returns
returns c = rw c.reply-2.ensures (told_unlock c.args.self.now c.args.call.now.caller c.args.call.now.file c.args.args.now c.args.verdict c.changed_lock-id.result c.in_default.ensures c.changed_lock-id.ensures)
