use Rattle.std.proofs.Common.{refl}
use Rattle.nm_types.specs.declared.calls.Call.{Call}
use Rattle.nm_types.specs.declared.calls.Deed.TheVariants.{OpenDowngrade}
use Rattle.nm_state.proofs.WentLemmas.{changed_live, downgrade_names, went_downgrade, went_refused, downgrade_narrows}
use Rattle.nm_state.proofs.tables.Tables.downgrade_in_turn.Goals as goal

pub returns-in-Some : goal.returns-in-Some
returns-in-Some c =
    let call : Call = record { caller = c.args.call.now.caller; file = c.args.call.now.file; deed = OpenDowngrade c.args.args.now } in
    rw c.reply.ensures (went_refused c.args.self.now call c.args.verdict c.in-Some.status refl c.in-Some.ensures)

pub changed_stateid-id-requires : goal.changed_stateid-id-requires
changed_stateid-id-requires c = downgrade_names c.args.self.now c.args.call.now.caller c.args.call.now.file c.args.args.now c.args.verdict c.in_default.ensures

pub narrow_open-requires-clause-live : goal.narrow_open-requires-clause-live
narrow_open-requires-clause-live c =
    changed_live c.args.self.now c.args.args.now.stateid c.changed_stateid-id.result
    (downgrade_names c.args.self.now c.args.call.now.caller c.args.call.now.file c.args.args.now c.args.verdict c.in_default.ensures) c.changed_stateid-id.ensures

pub narrow_open-requires-clause-narrower : goal.narrow_open-requires-clause-narrower
narrow_open-requires-clause-narrower c =
    downgrade_narrows c.args.self.now c.args.call.now.caller c.args.call.now.file c.args.args.now c.args.verdict c.changed_stateid-id.result
    c.in_default.ensures c.changed_stateid-id.ensures

pub returns : goal.returns
returns c =
    rw (c.reply-2.ensures, c.narrow_open.ensures)
    (went_downgrade c.args.self.now c.args.call.now.caller c.args.call.now.file c.args.args.now c.args.verdict c.changed_stateid-id.result
    c.in_default.ensures c.changed_stateid-id.ensures)
