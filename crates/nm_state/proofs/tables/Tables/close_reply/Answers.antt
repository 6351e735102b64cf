use Rattle.std.proofs.Common.{refl}
use Rattle.nm_types.specs.declared.calls.Call.{Call}
use Rattle.nm_types.specs.declared.calls.Deed.TheVariants.{Close}
use Rattle.nm_state.proofs.WentLemmas.{close_names, told_close, went_refused}
use Rattle.nm_state.proofs.tables.Tables.close_reply.Goals as goal

pub returns-in-Some : goal.returns-in-Some
returns-in-Some c =
    let call : Call = record { caller = c.args.call.now.caller; file = c.args.call.now.file; deed = Close c.args.args.now } in
    rw c.reply.ensures (went_refused c.args.self.now call c.args.verdict c.in-Some.status refl c.in-Some.ensures).answer

pub changed_stateid-id-requires : goal.changed_stateid-id-requires
changed_stateid-id-requires c = close_names c.args.self.now c.args.call.now.caller c.args.call.now.file c.args.args.now c.args.verdict c.in_default.ensures

pub returns : goal.returns
returns c =
    rw c.reply-2.ensures
    (told_close c.args.self.now c.args.call.now.caller c.args.call.now.file c.args.args.now c.args.verdict c.changed_stateid-id.result
    c.in_default.ensures c.changed_stateid-id.ensures)
