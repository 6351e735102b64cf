use Rattle.std.proofs.Common.{refl}
use Rattle.nm_rules.specs.Past.{seqid_owner}
use Rattle.nm_types.specs.declared.calls.Call.{Call}
use Rattle.nm_types.specs.declared.calls.Deed.TheVariants.{Remove}
use Rattle.nm_state.proofs.AppliedLemmas.{applied_remove, remove_goes}
use Rattle.nm_state.proofs.OpeningLemmas.{applied_refused}
use Rattle.nm_state.proofs.tables.Tables.remove.Goals as goal

pub returns-in-Some : goal.returns-in-Some
unfolding seqid_owner
returns-in-Some c =
    let call : Call = record { caller = c.args.caller; file = c.args.file; deed = Remove c.args.args.now } in
    rw c.reply.ensures (applied_refused c.args.self.now call c.args.verdict c.in-Some.status refl refl c.in-Some.ensures)

pub drop_name-requires : goal.drop_name-requires
drop_name-requires c = remove_goes c.args.self.now c.args.file c.args.args.now c.args.verdict c.in_default.ensures

pub returns : goal.returns
returns c =
    rw (c.reply-2.ensures, c.changed_dir-change.ensures, c.drop_name.ensures, c.items.ensures)
    (applied_remove c.args.self.now c.args.caller c.args.file c.args.args.now c.args.verdict c.in_default.ensures)
