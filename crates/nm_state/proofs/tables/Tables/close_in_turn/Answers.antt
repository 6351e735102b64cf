use Rattle.std.proofs.Common.{refl}
use Rattle.nm_types.specs.declared.calls.Call.{Call}
use Rattle.nm_types.specs.declared.calls.Deed.TheVariants.{Close}
use Rattle.nm_state.proofs.WentLemmas.{changed_live, close_names, went_close, went_refused}
use Rattle.nm_state.proofs.tables.Tables.close_in_turn.Goals as goal

pub returns-in-Some : goal.returns-in-Some
returns-in-Some c =
    let call : Call = record { caller = c.args.call.now.caller; file = c.args.call.now.file; deed = Close c.args.args.now } in
    rw c.reply.ensures (went_refused c.args.self.now call c.args.verdict c.in-Some.status refl c.in-Some.ensures)

pub changed_stateid-id-requires : goal.changed_stateid-id-requires
changed_stateid-id-requires c = close_names c.args.self.now c.args.call.now.caller c.args.call.now.file c.args.args.now c.args.verdict c.in_default.ensures

pub closed_row-requires : goal.closed_row-requires
closed_row-requires c =
    changed_live c.args.self.now c.args.args.now.stateid c.changed_stateid-id.result
    (close_names c.args.self.now c.args.call.now.caller c.args.call.now.file c.args.args.now c.args.verdict c.in_default.ensures) c.changed_stateid-id.ensures

pub returns : goal.returns
returns c =
    rw (c.reply-reply.ensures, c.drop_open.ensures)
    (went_close c.args.self.now c.args.call.now.caller c.args.call.now.file c.args.args.now c.args.verdict c.changed_stateid-id.result c.in_ok-row.row
    c.in_default.ensures c.changed_stateid-id.ensures c.in_ok-row.ensures)
