use Rattle.std.proofs.Common.{refl}
use Rattle.nm_rules.specs.Past.{seqid_owner}
use Rattle.nm_types.specs.declared.calls.Call.{Call}
use Rattle.nm_types.specs.declared.calls.Deed.TheVariants.{Create}
use Rattle.nm_state.proofs.AppliedLemmas.{applied_create, create_goes}
use Rattle.nm_state.proofs.OpeningLemmas.{applied_refused}
use Rattle.nm_state.proofs.tables.Tables.create.Goals as goal

pub returns-in-Some : goal.returns-in-Some
unfolding seqid_owner
returns-in-Some c =
    let call : Call = record { caller = c.args.caller; file = c.args.file; deed = Create c.args.args.now } in
    rw c.reply.ensures (applied_refused c.args.self.now call c.args.verdict c.in-Some.status refl refl c.in-Some.ensures)

pub make_directory-requires : goal.make_directory-requires
make_directory-requires c = create_goes c.args.self.now c.args.file c.args.args.now c.args.verdict c.in_default.ensures

pub returns : goal.returns
returns c =
    rw (c.reply-2.ensures, c.in_ok-make_directory.ensures)
    (applied_create c.args.self.now c.args.caller c.args.file c.args.args.now c.args.verdict _ c.in_default.ensures c.in_ok-created.ensures)
