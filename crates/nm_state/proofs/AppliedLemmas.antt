-- What an operation that nothing stops leaves.
use Rattle.std.proofs.Common.{◌≡◌, ℕ, ◌+◌, Bool, true, false, cond, Option, Some, None, refl, ap, sym, ◌∙◌}
use Rattle.nm_rules.specs.Attributes.{asked_mode, asked_size, asks_of, has_size, set_words}
use Rattle.nm_rules.specs.Checks.{Checks, first}
use Rattle.nm_rules.specs.Contents.TreeWord.{Made, Removed}
use Rattle.nm_rules.specs.Data.{mode_checks, set_limit, setattr_checks, setattr_value, size_checks, write_checks, write_limit, write_value}
use Rattle.nm_rules.specs.LockRows.{locks_after, ranges_after}
use Rattle.nm_rules.specs.Files.{changed_dir, changes_past_end, create_checks, create_value, current, makes_past_end, remove_checks}
use Rattle.nm_types.specs.Parties.{Party}
use Rattle.nm_rules.specs.Past.{new_directory, seqid_owner, set_tree, write_tree}
use Rattle.nm_rules.specs.Seen.{Seen, look, after_words}
use Rattle.nm_rules.specs.Seqids.{closed_after, owners_after}
use Rattle.nm_rules.specs.Shares.{opens_after}
use Rattle.nm_rules.specs.Answer.{reply_with}
use Rattle.nm_types.specs.declared.args.CreateArgs.{CreateArgs}
use Rattle.nm_types.specs.declared.args.RemoveArgs.{RemoveArgs}
use Rattle.nm_types.specs.declared.args.SetAttrArgs.{SetAttrArgs}
use Rattle.nm_types.specs.declared.args.WriteArgs.{WriteArgs}
use Rattle.nm_types.specs.declared.calls.Deed.TheVariants as deed
use Rattle.nm_types.specs.declared.calls.Event.TheVariants.{Asked}
use Rattle.nm_types.specs.declared.calls.ReplyValue.TheVariants as told
use Rattle.nm_types.specs.declared.calls.Verdict.{Verdict}
use Rattle.nm_types.specs.declared.results.Created.{Created}
use Rattle.nm_types.specs.declared.status.OpStatus.{OpStatus}
use Rattle.nm_types.specs.declared.status.OpStatus.TheVariants.{Nfs4Ok, Resource}
use Rattle.nm_rules.proofs.Classes.{all_free, refuse_if-none}
use Rattle.nm_state.proofs.OpeningLemmas.{applied}
use Rattle.nm_state.specs.Opening.{Applied, after_word}

-- ---- WRITE

pub write_goes : (s : Seen) (caller : Option Party) (file : ℕ) (args : WriteArgs) (verdict : Verdict)
    → None ≡ first (write_checks s caller file args verdict) → write_limit s file args ≡ None
unfolding write_checks
write_goes s caller file args verdict goes = (all_free (write_checks s caller file args verdict) (sym goes)).limit

pub applied_write : (s : Seen) (caller : Option Party) (file : ℕ) (args : WriteArgs) (verdict : Verdict)
    → None ≡ first (write_checks s caller file args verdict)
    → Applied s (Asked (record { caller = caller; file = file; deed = deed.Write args }) verdict) (reply_with Nfs4Ok (told.Write (write_value args)))
    (after_word (write_tree (current s file) file args) s)
unfolding after_word after_words opens_after owners_after closed_after locks_after ranges_after seqid_owner look write_value
applied_write s caller file args verdict goes =
    applied s (record { caller = caller; file = file; deed = deed.Write args }) verdict _ _ refl refl goes refl refl

-- ---- SETATTR

by_size : (b : Bool) (x y : Checks) (limit : Option OpStatus) → x.limit ≡ limit → y.limit ≡ limit → first (cond b x y) ≡ None → limit ≡ None
by_size true x y limit a b none = sym a ∙ (all_free x none).limit
by_size false x y limit a b none = sym b ∙ (all_free y none).limit

pub set_goes : (s : Seen) (caller : Option Party) (file : ℕ) (args : SetAttrArgs) (verdict : Verdict)
    → None ≡ first (setattr_checks s caller file args verdict) → set_limit s file (asks_of args.attributes) ≡ None
unfolding setattr_checks size_checks mode_checks
set_goes s caller file args verdict goes =
    by_size (has_size args.attributes.words) (size_checks s caller file args verdict) (mode_checks s file args verdict) _ refl refl (sym goes)

pub applied_set : (s : Seen) (caller : Option Party) (file : ℕ) (args : SetAttrArgs) (verdict : Verdict)
    → None ≡ first (setattr_checks s caller file args verdict)
    → Applied s (Asked (record { caller = caller; file = file; deed = deed.SetAttr args }) verdict) (reply_with Nfs4Ok (told.SetAttr (setattr_value args)))
    (after_word (set_tree (current s file) file (asks_of args.attributes) (set_words (asked_size (asks_of args.attributes)) (asked_mode (asks_of args.attributes)))) s)
unfolding after_word after_words opens_after owners_after closed_after locks_after ranges_after seqid_owner look setattr_value
applied_set s caller file args verdict goes =
    applied s (record { caller = caller; file = file; deed = deed.SetAttr args }) verdict _ _ refl refl goes refl refl

-- ---- CREATE and REMOVE

pub create_goes : (s : Seen) (dir : ℕ) (args : CreateArgs) (verdict : Verdict)
    → None ≡ first (create_checks s dir args verdict) → makes_past_end s ≡ false
unfolding create_checks
create_goes s dir args verdict goes =
    refuse_if-none (makes_past_end s) Resource (all_free (create_checks s dir args verdict) (sym goes)).limit

pub applied_create : (s : Seen) (caller : Option Party) (dir : ℕ) (args : CreateArgs) (verdict : Verdict) (created : Created)
    → None ≡ first (create_checks s dir args verdict) → Some created ≡ create_value s dir args
    → Applied s (Asked (record { caller = caller; file = dir; deed = deed.Create args }) verdict) (reply_with Nfs4Ok (told.Create (Some created)))
    (after_word (Made (new_directory (s.tree.last_file + 1) dir args.name (asks_of args.attributes))) s)
unfolding after_word after_words opens_after owners_after closed_after locks_after ranges_after seqid_owner create_value
applied_create s caller dir args verdict created goes value =
    applied s (record { caller = caller; file = dir; deed = deed.Create args }) verdict _ _ refl refl goes (ap (λ v. told.Create v) value) refl

pub remove_goes : (s : Seen) (dir : ℕ) (args : RemoveArgs) (verdict : Verdict)
    → None ≡ first (remove_checks s dir args verdict) → changes_past_end s ≡ false
unfolding remove_checks
remove_goes s dir args verdict goes =
    refuse_if-none (changes_past_end s) Resource (all_free (remove_checks s dir args verdict) (sym goes)).limit

pub applied_remove : (s : Seen) (caller : Option Party) (dir : ℕ) (args : RemoveArgs) (verdict : Verdict)
    → None ≡ first (remove_checks s dir args verdict)
    → Applied s (Asked (record { caller = caller; file = dir; deed = deed.Remove args }) verdict) (reply_with Nfs4Ok (told.Remove (Some (changed_dir s dir))))
    (after_word (Removed dir args.name) s)
unfolding after_word after_words opens_after owners_after closed_after locks_after ranges_after seqid_owner
applied_remove s caller dir args verdict goes =
    applied s (record { caller = caller; file = dir; deed = deed.Remove args }) verdict _ _ refl refl goes refl refl
