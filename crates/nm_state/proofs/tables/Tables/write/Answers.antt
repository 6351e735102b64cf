use Rattle.std.proofs.Common.{refl}
use Rattle.nm_rules.specs.Past.{seqid_owner}
use Rattle.nm_types.specs.declared.calls.Call.{Call}
use Rattle.nm_types.specs.declared.calls.Deed.TheVariants.{Write}
use Rattle.nm_state.proofs.AppliedLemmas.{applied_write, write_goes}
use Rattle.nm_state.proofs.OpeningLemmas.{applied_refused}
use Rattle.nm_state.proofs.tables.Tables.write.Goals as goal

pub returns-in-Some : goal.returns-in-Some
unfolding seqid_owner
returns-in-Some c =
    let call : Call = record { caller = c.args.caller; file = c.args.file; deed = Write c.args.args.now } in
    rw c.reply.ensures (applied_refused c.args.self.now call c.args.verdict c.in-Some.status refl refl c.in-Some.ensures)

pub write_bytes-requires : goal.write_bytes-requires
write_bytes-requires c = write_goes c.args.self.now c.args.caller c.args.file c.args.args.now c.args.verdict c.in_default.ensures

pub returns : goal.returns
returns c =
    rw (c.reply-2.ensures, c.write_value.ensures, c.in_ok-write_bytes.ensures)
    (applied_write c.args.self.now c.args.caller c.args.file c.args.args.now c.args.verdict c.in_default.ensures)
