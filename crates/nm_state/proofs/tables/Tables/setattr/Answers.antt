use Rattle.std.proofs.Common.{refl}
use Rattle.nm_rules.specs.Past.{seqid_owner}
use Rattle.nm_types.specs.declared.calls.Call.{Call}
use Rattle.nm_types.specs.declared.calls.Deed.TheVariants.{SetAttr}
use Rattle.nm_state.proofs.AppliedLemmas.{applied_set, set_goes}
use Rattle.nm_state.proofs.OpeningLemmas.{applied_refused}
use Rattle.nm_state.proofs.tables.Tables.setattr.Goals as goal

pub returns-in-Some : goal.returns-in-Some
unfolding seqid_owner
returns-in-Some c =
    let call : Call = record { caller = c.args.caller; file = c.args.file; deed = SetAttr c.args.args.now } in
    rw (c.reply.ensures, c.new.ensures) (applied_refused c.args.self.now call c.args.verdict c.in-Some.status refl refl c.in-Some.ensures)

pub set_attributes-requires : goal.set_attributes-requires
set_attributes-requires c =
    rw c.asks_of.ensures (set_goes c.args.self.now c.args.caller c.args.file c.args.args.now c.args.verdict c.in_default.ensures)

pub returns : goal.returns
returns c =
    rw (c.reply-2.ensures, c.in_ok-words.ensures, c.in_ok-set_attributes.ensures, c.asks_of.ensures)
    (applied_set c.args.self.now c.args.caller c.args.file c.args.args.now c.args.verdict c.in_default.ensures)
