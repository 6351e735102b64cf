use Rattle.std.proofs.Common.{refl}
use Rattle.nm_types.specs.declared.calls.Call.{Call}
use Rattle.nm_types.specs.declared.calls.Deed.TheVariants.{OpenConfirm}
use Rattle.nm_state.proofs.WentLemmas.{changed_live, confirm_names, went_confirm, went_refused}
use Rattle.nm_state.proofs.tables.Tables.confirm_in_turn.Goals as goal

pub returns-in-Some : goal.returns-in-Some
returns-in-Some c =
    let call : Call = record { caller = c.args.call.now.caller; file = c.args.call.now.file; deed = OpenConfirm c.args.args.now } in
    rw c.reply.ensures (went_refused c.args.self.now call c.args.verdict c.in-Some.status refl c.in-Some.ensures)

pub changed_stateid-id-requires : goal.changed_stateid-id-requires
changed_stateid-id-requires c = confirm_names c.args.self.now c.args.call.now.caller c.args.call.now.file c.args.args.now c.args.verdict c.in_default.ensures

pub confirm_open-requires : goal.confirm_open-requires
confirm_open-requires c =
    changed_live c.args.self.now c.args.args.now.stateid c.changed_stateid-id.result
    (confirm_names c.args.self.now c.args.call.now.caller c.args.call.now.file c.args.args.now c.args.verdict c.in_default.ensures) c.changed_stateid-id.ensures

pub returns : goal.returns
returns c =
    rw (c.reply-2.ensures, c.confirm_open.ensures)
    (went_confirm c.args.self.now c.args.call.now.caller c.args.call.now.file c.args.args.now c.args.verdict c.changed_stateid-id.result
    c.in_default.ensures c.changed_stateid-id.ensures)
