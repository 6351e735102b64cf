use Rattle.std.proofs.Common.{Some, refl}
use Rattle.nm_types.specs.declared.calls.Call.{Call}
use Rattle.nm_types.specs.declared.calls.Deed.TheVariants.{Open}
use Rattle.nm_state.proofs.WentLemmas.{told_open, went_refused}
use Rattle.nm_state.proofs.tables.Tables.open_reply.Goals as goal

pub returns-in-Some : goal.returns-in-Some
returns-in-Some c =
    let call : Call = record { caller = Some c.args.party; file = c.args.call.now.file; deed = Open c.args.args.now } in
    rw c.reply.ensures (went_refused c.args.self.now call c.args.verdict c.in-Some.status refl c.in-Some.ensures).answer

pub returns : goal.returns
returns c =
    rw c.reply-2.ensures
    (told_open c.args.self.now c.args.party c.args.call.now.file c.args.args.now c.args.verdict c.in_ok-opened.opened c.in_default.ensures c.in_ok-opened.ensures)
