-- The tables of every legal list are sound, and show what stands.
use Rattle.std.proofs.Common.{◌≡◌, ℕ, ◌+◌, Bool, true, false, cond, List, [], ◌∷◌, Option, Some, None, refl, ap, sym, subst, ◌∙◌, arith}
use Rattle.std.specs.Prelude.{map, is_none, not, ◌==◌, ◌||◌, ◌&&◌, filter, find, option_map, unwrap_or}
use Rattle.std.specs.Option.{option_or}
use Rattle.std.specs.Str.{bytes_eq}
use mathlib.Core.Path.{fun_ext}
use Rattle.std.proofs.lemmas.Bool.{not-false, true≢false, and_parts}
use Rattle.nm_types.specs.Parties.{Party, same_party}
use Rattle.nm_rules.specs.Lists.{is_empty}
use Rattle.nm_rules.specs.Attributes.{Asks, asks_of, asked_size, asked_mode, has_size}
use Rattle.nm_rules.specs.Contents.{TreeNow, TreeWord, FileEdit, root_row, taken, file_at, child_at, is_named, stamped, edited_at, tree_after}
use Rattle.nm_rules.specs.Contents.TreeWord.{Untouched, Made, Edited, Removed}
use Rattle.nm_rules.specs.Contents.FileEdit.{Wrote, Set}
use Rattle.nm_rules.specs.Seqids.{OwnerWord, owner_at, judged, is_fresh}
use Rattle.nm_types.specs.Calls.{locker_seqid, seqid_of}
use Rattle.nm_rules.specs.Seqids.OwnerWord.{Stays}
use Rattle.nm_rules.specs.Shares.{open_at, open_of, opened_row, is_opposed, put_open, renewed_row, narrowed_row, opens_after, OpenWord}
use Rattle.nm_rules.specs.Shares.OpenWord.{Put, Drop, DropOf}
use Rattle.nm_rules.specs.Past.{Past, Now, Words, now, left, acts, words, no_words, deed_words, judgement, judgement_for, named_by, lock_named_by, locker_owner, seqid_owner, noted, owner_word, started_by, with_owners, nothing_yet, open_words, close_words, lock_words, unlock_words, confirm_words, downgrade_words, opener, open_tree, claimed_in, claimed_name, cuts, parent_of, set_tree, write_tree}
use Rattle.nm_types.specs.Statuses.{is_done}
use Rattle.nm_rules.specs.Seen.{Seen, empty, seen, look, after, after_words}
use Rattle.nm_rules.specs.Checks.{Stop, first, refusal, arguments_fault}
use Rattle.nm_rules.specs.Checks.Stop.{Refuse, Repeat}
use Rattle.nm_rules.specs.Data.{read_checks, write_checks, write_value, setattr_checks, size_checks, mode_checks, commit_checks}
use Rattle.nm_rules.specs.Files.{file_checks, dir_checks, lookup_checks, create_checks, create_value, remove_checks, readdir_checks}
use Rattle.nm_rules.specs.Opens.{open_checks, GoesOpen, open_value, close_checks, confirm_checks, downgrade_checks, changed_stateid, next_stateid, is_narrower, row_to_open, file_to_open, target, target_at, claim_arguments, open_fault, claim_fault, is_share, open_limit, tree_limit}
use Rattle.nm_rules.specs.LockOps.{lock_value, locked_stateid, changed_lock, next_lock_stateid, lock_checks, test_checks, unlock_checks, release_checks}
use Rattle.nm_rules.specs.LockRows.{LockWord, lock_at}
use Rattle.nm_rules.specs.LockRows.LockWord.{ClosedWith, EndedOf}
use Rattle.nm_rules.specs.Stateids.{open_named, lock_named, resolved, unresolved_at, lock_unresolved, owner_stop, owner_stop_at, lock_owner_stop_at, judged_stop}
use Rattle.nm_rules.specs.Answer.{answer_to, reply_by, refused_value, refusal_value, ok_value, checks, IsLegal}
use Rattle.nm_rules.specs.Sound.{IsSound, rises, all_apart, files_rise}
use Rattle.nm_types.specs.declared.args.CreateArgs.{CreateArgs}
use Rattle.nm_types.specs.declared.args.OpenArgs.{OpenArgs}
use Rattle.nm_types.specs.declared.args.OpenType.{OpenType}
use Rattle.nm_types.specs.declared.args.OpenDowngradeArgs.{OpenDowngradeArgs}
use Rattle.nm_types.specs.declared.args.LockArgs.{LockArgs}
use Rattle.nm_types.specs.declared.args.Locker.{Locker}
use Rattle.nm_types.specs.declared.args.Locker.TheVariants.{New, Known}
use Rattle.nm_types.specs.declared.args.LockTestArgs.{LockTestArgs}
use Rattle.nm_types.specs.declared.args.SetAttrArgs.{SetAttrArgs}
use Rattle.nm_types.specs.declared.args.UnlockArgs.{UnlockArgs}
use Rattle.nm_types.specs.declared.args.WriteArgs.{WriteArgs}
use Rattle.nm_types.specs.declared.calls.Call.{Call}
use Rattle.nm_types.specs.declared.calls.Deed.{Deed}
use Rattle.nm_types.specs.declared.calls.Deed.TheVariants as deed
use Rattle.nm_types.specs.declared.calls.Owner.{Owner}
use Rattle.nm_types.specs.declared.calls.Verdict.{Verdict}
use Rattle.nm_types.specs.declared.calls.Event.{Event}
use Rattle.nm_types.specs.declared.calls.Event.TheVariants.{Asked, Ended}
use Rattle.nm_types.specs.declared.calls.Reply.{Reply}
use Rattle.nm_types.specs.declared.calls.StateRef.{StateRef}
use Rattle.nm_types.specs.declared.calls.StateRef.TheVariants.{Zeros, Ones, Named}
use Rattle.nm_types.specs.declared.owners.Judgement.{Judgement}
use Rattle.nm_types.specs.declared.owners.Judgement.TheVariants as judged_as
use Rattle.nm_types.specs.declared.owners.OwnerRow.{OwnerRow}
use Rattle.nm_types.specs.declared.calls.ReplyValue.{ReplyValue}
use Rattle.nm_types.specs.declared.calls.ReplyValue.TheVariants as told
use Rattle.nm_types.specs.declared.results.LockOutcome.TheVariants.{Locked, Denied as IsDenied}
use Rattle.nm_types.specs.declared.rows.FileRow.{FileRow}
use Rattle.nm_types.specs.declared.results.Denied.{Denied}
use Rattle.nm_types.specs.declared.rows.LockRow.{LockRow}
use Rattle.nm_types.specs.declared.rows.OpenRow.{OpenRow}
use Rattle.nm_types.specs.declared.status.OpStatus.{OpStatus}
use Rattle.nm_types.specs.declared.status.OpStatus.TheVariants.{Exist, ShareDenied, Resource, Inval}
use Rattle.nm_rules.proofs.Classes.{or_none, refuse_if-none, IsFree, all_free, first_repeats}
use Rattle.nm_rules.proofs.FileRows.{stamped_keeps, edited_keeps, files_rise-map, files_rise-filter, files_rise-push}
use Rattle.nm_rules.proofs.NameRows.{NamesNew, names-after}
use Rattle.nm_rules.proofs.OpenRows.{open_at-past, open_at-in, in-open_at, rises-filter, rises-higher, rises-put_new, rises-put_old}
use Rattle.nm_rules.proofs.Apart.{all_apart-filter, all_apart-put, opened_suits, renewed_suits, narrowed_suits, open_of-in, Suits}
use Rattle.nm_rules.proofs.Looks.{look-after_words}
use Rattle.nm_rules.proofs.Refusals.{by_refusal}

-- what an OPEN that no row opposes puts, by the counter that it answers
abbrev pub put_row : List OpenRow → ℕ → Owner → ℕ → ℕ → ℕ → OpenRow
put_row rows counter owner file access deny = opened_row (open_at counter rows) counter file owner access deny

-- the row that the answer tells is the one that is put
pub same_row : (last : ℕ) (rows : List OpenRow) (owner : Owner) (file access deny : ℕ) → rises 0 last rows ≡ true
    → (o : Option OpenRow) → open_of owner file rows ≡ o
    → put_row rows (opened_row o (last + 1) file owner access deny).counter owner file access deny ≡ opened_row o (last + 1) file owner access deny
unfolding opened_row
same_row last rows owner file access deny rising None none =
    ap (λ o. opened_row o (last + 1) file owner access deny) (open_at-past 0 last rows (last + 1) rising (omega arith))
same_row last rows owner file access deny rising (Some row) found =
    ap (λ o. opened_row o row.counter file owner access deny) (in-open_at 0 last rows row rising (open_of-in owner file rows row found).0).0

-- after it the counters rise, and all rows are apart
pub record StaysSound (last : ℕ) (rows : List OpenRow) : Type 0 where
  pub rising : rises 0 last rows ≡ true
  pub apart : all_apart rows ≡ true

-- a counter is drawn just where the owner had no open of the file
pub drew_new : (last : ℕ) (rows : List OpenRow) (owner : Owner) (file access deny : ℕ) → rises 0 last rows ≡ true
    → (o : Option OpenRow) → open_of owner file rows ≡ o
    → is_none (open_at (opened_row o (last + 1) file owner access deny).counter rows) ≡ is_none o
unfolding opened_row
drew_new last rows owner file access deny rising None none =
    ap (λ (r : Option OpenRow). is_none r) (open_at-past 0 last rows (last + 1) rising (omega arith))
drew_new last rows owner file access deny rising (Some row) found =
    ap (λ (r : Option OpenRow). is_none r) (in-open_at 0 last rows row rising (open_of-in owner file rows row found).0).0

pub opened_sound : (last : ℕ) (rows : List OpenRow) (owner : Owner) (file access deny : ℕ) → rises 0 last rows ≡ true → all_apart rows ≡ true
    → is_opposed owner file access deny rows ≡ false
    → (o : Option OpenRow) → open_of owner file rows ≡ o
    → (row : OpenRow) → row ≡ opened_row o (last + 1) file owner access deny
    → StaysSound (cond (is_none (open_at row.counter rows)) (last + 1) last) (put_open row rows)
unfolding opened_row
opened_sound last rows owner file access deny rising apart free None none row it =
    let absent : open_at row.counter rows ≡ None = open_at-past 0 last rows row.counter rising (omega (arith, ap (λ (r : OpenRow). r.counter) it)) in
    rw absent (record {
      rising = rises-put_new 0 last rows row rising (ap (λ (r : OpenRow). r.counter) it);
      apart = all_apart-put 0 last row rows rising apart (subst (λ (r : OpenRow). Suits r rows) (ap (λ o. opened_row o (last + 1) file owner access deny) none ∙ sym it) (opened_suits owner file (last + 1) access deny rows apart free));
    })
opened_sound last rows owner file access deny rising apart free (Some old) found row it =
    let there : open_at row.counter rows ≡ Some old = rw it (in-open_at 0 last rows old rising (open_of-in owner file rows old found).0).0 in
    rw there (record {
      rising = rises-put_old 0 last rows row old rising there;
      apart = all_apart-put 0 last row rows rising apart (subst (λ (r : OpenRow). Suits r rows) (ap (λ o. opened_row o (last + 1) file owner access deny) found ∙ sym it) (opened_suits owner file (last + 1) access deny rows apart free));
    })

-- ---- what nothing stops

valid_arguments : (invalid : Bool) (name : List ℕ) (asks : Asks) → arguments_fault invalid name asks ≡ None → invalid ≡ false
unfolding arguments_fault
valid_arguments true name asks h = cc
valid_arguments false name asks h = refl

valid_claim : (invalid : Bool) (name : Option (List ℕ)) (asks : Asks) → claim_arguments invalid name asks ≡ None → invalid ≡ false
unfolding claim_arguments
valid_claim true None asks h = cc
valid_claim false None asks h = refl
valid_claim invalid (Some name) asks h = valid_arguments invalid name asks h

pub open_goes : (s : Seen) (party : Party) (file : ℕ) (args : OpenArgs) (verdict : Verdict) → first (open_checks s (Some party) file args verdict) ≡ None
    → GoesOpen s party file args
unfolding open_checks open_fault open_limit
open_goes s party file args verdict none =
    let free : IsFree (open_checks s (Some party) file args verdict) = all_free _ none in
    let limits = or_none (tree_limit s (target s file args) args.opentype) _ free.limit in
    record {
      share = not-false (is_share args.access args.deny) (valid_claim _ _ _ (or_none _ (claim_fault args.claim) free.arguments).0);
      free = refuse_if-none _ ShareDenied free.conflict;
      counter = refuse_if-none _ Resource (or_none _ _ limits.1).0;
      room = limits.0;
    }

-- ---- seqids

-- what the class of the seqid says of the judgement
abbrev pub SeqidTells : Option Stop → Judgement → Type 0
SeqidTells None j = is_fresh j ≡ true
SeqidTells (Some (Refuse status)) j = Unit {0}
SeqidTells (Some (Repeat kept)) j = is_fresh j ≡ false

judged_tells : (kept : Reply) (j : Judgement) → SeqidTells (judged_stop kept j) j
judged_tells kept judged_as.Unknown = refl
judged_tells kept judged_as.Fresh = refl
judged_tells kept judged_as.Again = refl
judged_tells kept judged_as.Bad = tt

full_tells : (full : Bool) → SeqidTells (cond full (Some (Refuse Resource)) None) judged_as.Unknown
full_tells true = tt
full_tells false = refl

stop_tells : (full : Bool) (o : Option OwnerRow) (seqid : ℕ) (caller : Option Party) (file : ℕ) (d : Deed)
    → SeqidTells (owner_stop full o seqid caller file d) (judged o seqid caller file d)
unfolding owner_stop judged
stop_tells full None seqid caller file d = full_tells full
stop_tells full (Some row) seqid caller file d = judged_tells row.reply (judged (Some row) seqid caller file d)

-- what is resolvable in the file system is named by its counter
pub named_resolved : (s : Seen) (stateid : StateRef) (row : OpenRow) → resolved s stateid ≡ Some row → named_by (look s) stateid ≡ Some row
unfolding resolved named_by look
named_resolved s Zeros row found = cc
named_resolved s Ones row found = cc
named_resolved s (Named id) row found = by_fs (id.fs == s.fs) found
  where
    by_fs : (b : Bool) → cond b (option_or (open_at id.counter s.opens) (open_at id.counter s.closed)) None ≡ Some row
        → option_or (open_at id.counter s.opens) (open_at id.counter s.closed) ≡ Some row
    by_fs true here = here
    by_fs false elsewhere = cc

-- the judgement of an operation on an open, by its row's owner
abbrev at_row : Seen → Option Party → ℕ → Deed → ℕ → Option OpenRow → Judgement
at_row s caller file d seqid o = by_owner (option_map (λ row. row.owner) o)
  where
    by_owner : Option Owner → Judgement
    by_owner None = judged_as.Fresh
    by_owner (Some owner) = judged (owner_at owner s.owners) seqid caller file d

row_tells : (s : Seen) (caller : Option Party) (file : ℕ) (d : Deed) (seqid : ℕ) (stateid : StateRef) (o : Option OpenRow)
    → resolved s stateid ≡ o → unresolved_at caller o ≡ None
    → SeqidTells (owner_stop_at s o seqid caller file d) (at_row s caller file d seqid (named_by (look s) stateid))
unfolding owner_stop_at
row_tells s caller file d seqid stateid None found own = cc
row_tells s caller file d seqid stateid (Some row) found own =
    rw (named_resolved s stateid row found) (stop_tells false (owner_at row.owner s.owners) seqid caller file d)

-- a lock owner's stateid is named by its counter
pub named_lock : (s : Seen) (stateid : StateRef) (row : LockRow) → lock_named s stateid ≡ Some row → lock_named_by (look s) stateid ≡ Some row
unfolding lock_named lock_named_by look
named_lock s Zeros row found = cc
named_lock s Ones row found = cc
named_lock s (Named id) row found = by_fs (id.fs == s.fs) found
  where
    by_fs : (b : Bool) → cond b (lock_at id.counter s.locks) None ≡ Some row → lock_at id.counter s.locks ≡ Some row
    by_fs true here = here
    by_fs false elsewhere = cc

-- the judgement of an operation on the locks of an owner
abbrev at_lock : Seen → Option Party → ℕ → Deed → ℕ → Option LockRow → Judgement
at_lock s caller file d seqid o = by_owner (option_map (λ row. row.owner) o)
  where
    by_owner : Option Owner → Judgement
    by_owner None = judged_as.Fresh
    by_owner (Some owner) = judged (owner_at owner s.owners) seqid caller file d

lock_tells : (s : Seen) (caller : Option Party) (file : ℕ) (d : Deed) (seqid : ℕ) (stateid : StateRef) (o : Option LockRow)
    → lock_named s stateid ≡ o → lock_unresolved caller o ≡ None
    → SeqidTells (lock_owner_stop_at s o seqid caller file d) (at_lock s caller file d seqid (lock_named_by (look s) stateid))
unfolding lock_owner_stop_at
lock_tells s caller file d seqid stateid None found own = cc
lock_tells s caller file d seqid stateid (Some row) found own =
    rw (named_lock s stateid row found) (stop_tells false (owner_at row.owner s.owners) seqid caller file d)

-- a newcomer that may not come is refused
or_refused : (stop : Option Stop) (more : Option OpStatus) (j : Judgement) → SeqidTells stop j → SeqidTells (option_or stop (refusal more)) j
or_refused (Some (Refuse status)) more j tells = tt
or_refused (Some (Repeat kept)) more j tells = tells
or_refused None None j tells = tells
or_refused None (Some status) j tells = tt

-- the judgement of an operation by its owner
abbrev at_owner : Seen → Option Party → ℕ → Deed → ℕ → Option Owner → Judgement
at_owner s caller file d seqid None = judged_as.Fresh
at_owner s caller file d seqid (Some owner) = judged (owner_at owner s.owners) seqid caller file d

locker_tells : (s : Seen) (caller : Option Party) (file : ℕ) (args : LockArgs) (verdict : Verdict) (locker : Locker)
    → (lock_checks s caller file args locker verdict).unresolved ≡ None
    → SeqidTells (lock_checks s caller file args locker verdict).seqid (at_owner s caller file (deed.Lock args) (locker_seqid locker) (locker_owner (look s) locker))
unfolding lock_checks look
locker_tells s None file args verdict (New open_seqid stateid lock_seqid text) own = cc
locker_tells s (Some party) file args verdict (New open_seqid stateid lock_seqid text) own =
    or_refused _ _ _ (row_tells s (Some party) file (deed.Lock args) open_seqid stateid (resolved s stateid) refl own)
locker_tells s caller file args verdict (Known stateid lock_seqid) own =
    lock_tells s caller file (deed.Lock args) lock_seqid stateid (lock_named s stateid) refl own

by_size_tells : (s : Seen) (caller : Option Party) (file : ℕ) (args : SetAttrArgs) (verdict : Verdict) (b : Bool)
    → SeqidTells (cond b (size_checks s caller file args verdict) (mode_checks s file args verdict)).seqid judged_as.Fresh
unfolding size_checks mode_checks
by_size_tells s caller file args verdict true = refl
by_size_tells s caller file args verdict false = refl

pub seqid_tells : (s : Seen) (caller : Option Party) (file : ℕ) (verdict : Verdict) (d : Deed) → (checks s caller file verdict d).unresolved ≡ None
    → SeqidTells (checks s caller file verdict d).seqid (judgement (look s) (record { caller = caller; file = file; deed = d }))
unfolding file_checks dir_checks lookup_checks create_checks remove_checks readdir_checks read_checks write_checks setattr_checks commit_checks open_checks close_checks confirm_checks downgrade_checks test_checks unlock_checks release_checks judgement_for seqid_owner seqid_of look
seqid_tells s caller file verdict (deed.Access _) own = refl
seqid_tells s caller file verdict (deed.Close args) own = row_tells s caller file (deed.Close args) args.seqid args.stateid (resolved s args.stateid) refl own
seqid_tells s caller file verdict (deed.Commit _) own = refl
seqid_tells s caller file verdict (deed.Create args) own = refl
seqid_tells s caller file verdict (deed.GetAttr _) own = refl
seqid_tells s caller file verdict (deed.Lock args) own = locker_tells s caller file args verdict args.locker own
seqid_tells s None file verdict (deed.LockTest args) own = cc
seqid_tells s (Some party) file verdict (deed.LockTest args) own = refl
seqid_tells s caller file verdict (deed.Lookup args) own = refl
seqid_tells s caller file verdict deed.LookupP own = refl
seqid_tells s None file verdict (deed.Open args) own = cc
seqid_tells s (Some party) file verdict (deed.Open args) own = stop_tells _ (owner_at (opener party args) s.owners) args.seqid (Some party) file (deed.Open args)
seqid_tells s caller file verdict (deed.OpenConfirm args) own = row_tells s caller file (deed.OpenConfirm args) args.seqid args.stateid (resolved s args.stateid) refl own
seqid_tells s caller file verdict (deed.OpenDowngrade args) own = row_tells s caller file (deed.OpenDowngrade args) args.seqid args.stateid (resolved s args.stateid) refl own
seqid_tells s caller file verdict (deed.Read _) own = refl
seqid_tells s caller file verdict (deed.ReadDir _) own = refl
seqid_tells s None file verdict (deed.ReleaseLockOwner _) own = cc
seqid_tells s (Some party) file verdict (deed.ReleaseLockOwner _) own = refl
seqid_tells s caller file verdict (deed.Remove _) own = refl
seqid_tells s caller file verdict (deed.SetAttr args) own = by_size_tells s caller file args verdict (has_size args.attributes.words)
seqid_tells s caller file verdict (deed.Unlock args) own = lock_tells s caller file (deed.Unlock args) args.seqid args.stateid (lock_named s args.stateid) refl own
seqid_tells s caller file verdict (deed.Write _) own = refl

-- What nothing stops is fresh.
pub free_is_fresh : (s : Seen) (call : Call) (verdict : Verdict) → first (checks s call.caller call.file verdict call.deed) ≡ None
    → is_fresh (judgement (look s) call) ≡ true
free_is_fresh s call verdict goes =
    let free : IsFree (checks s call.caller call.file verdict call.deed) = all_free _ goes in
    subst (λ o. SeqidTells o (judgement (look s) call)) free.seqid (seqid_tells s call.caller call.file verdict call.deed free.unresolved)

-- What gets a kept reply came before.
pub repeat_is_old : (s : Seen) (call : Call) (verdict : Verdict) (kept : Reply) → first (checks s call.caller call.file verdict call.deed) ≡ Some (Repeat kept)
    → is_fresh (judgement (look s) call) ≡ false
repeat_is_old s call verdict kept repeats =
    let parts = first_repeats (checks s call.caller call.file verdict call.deed) kept repeats in
    subst (λ o. SeqidTells o (judgement (look s) call)) parts.1 (seqid_tells s call.caller call.file verdict call.deed parts.0)

-- A call that came before changes nothing.
pub words-old : (n : Now) (call : Call) (verdict : Verdict) (r : Reply) → is_fresh (judgement n call) ≡ false → words n (Asked call verdict) r ≡ no_words
unfolding words
words-old n call verdict r old = rw old refl

-- ---- a refusal changes nothing

pub either_way : {A : Type 0} (b : Bool) (x : A) → cond b x x ≡ x
either_way true x = refl
either_way false x = refl

-- what a refusal's value says to a call
pub record SaysNothing (n : Now) (call : Call) (r : Reply) (d : Deed) (value : ReplyValue) : Type 0 where
  pub changes : (b : Bool) (caller : Option Party) → cond b (deed_words n caller call.file d value) no_words ≡ no_words
  pub starts : (b : Bool) → cond b (started_by n call r d value) Stays ≡ Stays

pub refused_says : (n : Now) (call : Call) (r : Reply) (d : Deed) → SaysNothing n call r d (refused_value d)
unfolding set_tree is_empty started_by
refused_says n call r (deed.Access _) = record { changes = λ b caller. either_way b no_words; starts = λ b. either_way b Stays }
refused_says n call r (deed.Close _) = record { changes = λ b caller. either_way b no_words; starts = λ b. either_way b Stays }
refused_says n call r (deed.Commit _) = record { changes = λ b caller. either_way b no_words; starts = λ b. either_way b Stays }
refused_says n call r (deed.Create _) = record { changes = λ b caller. either_way b no_words; starts = λ b. either_way b Stays }
refused_says n call r (deed.GetAttr _) = record { changes = λ b caller. either_way b no_words; starts = λ b. either_way b Stays }
refused_says n call r (deed.Lock _) = record { changes = λ b caller. either_way b no_words; starts = λ b. either_way b Stays }
refused_says n call r (deed.LockTest _) = record { changes = λ b caller. either_way b no_words; starts = λ b. either_way b Stays }
refused_says n call r (deed.Lookup _) = record { changes = λ b caller. either_way b no_words; starts = λ b. either_way b Stays }
refused_says n call r deed.LookupP = record { changes = λ b caller. either_way b no_words; starts = λ b. either_way b Stays }
refused_says n call r (deed.Open args) = record { changes = by_caller; starts = λ b. either_way b Stays }
  where
    by_caller : (b : Bool) (caller : Option Party) → cond b (deed_words n caller call.file (deed.Open args) (refused_value (deed.Open args))) no_words ≡ no_words
    by_caller b None = either_way b no_words
    by_caller b (Some party) = either_way b no_words
refused_says n call r (deed.OpenConfirm _) = record { changes = λ b caller. either_way b no_words; starts = λ b. either_way b Stays }
refused_says n call r (deed.OpenDowngrade _) = record { changes = λ b caller. either_way b no_words; starts = λ b. either_way b Stays }
refused_says n call r (deed.Read _) = record { changes = λ b caller. either_way b no_words; starts = λ b. either_way b Stays }
refused_says n call r (deed.ReadDir _) = record { changes = λ b caller. either_way b no_words; starts = λ b. either_way b Stays }
refused_says n call r (deed.ReleaseLockOwner _) = record { changes = λ b caller. either_way b no_words; starts = λ b. either_way b Stays }
refused_says n call r (deed.Remove _) = record { changes = λ b caller. either_way b no_words; starts = λ b. either_way b Stays }
refused_says n call r (deed.SetAttr _) = record { changes = λ b caller. either_way b no_words; starts = λ b. either_way b Stays }
refused_says n call r (deed.Unlock _) = record { changes = λ b caller. either_way b no_words; starts = λ b. either_way b Stays }
refused_says n call r (deed.Write _) = record { changes = λ b caller. either_way b no_words; starts = λ b. either_way b Stays }

pub denial_says : (n : Now) (call : Call) (r : Reply) (args : LockArgs) (o : Option Denied) → SaysNothing n call r (deed.Lock args) (told.Lock (option_map IsDenied o))
unfolding started_by
denial_says n call r args None = record { changes = λ b caller. either_way b no_words; starts = λ b. either_way b Stays }
denial_says n call r args (Some denied) = record { changes = λ b caller. either_way b no_words; starts = λ b. either_way b Stays }

pub test_says : (n : Now) (call : Call) (r : Reply) (args : LockTestArgs) (o : Option Denied) → SaysNothing n call r (deed.LockTest args) (told.LockTest o)
unfolding started_by
test_says n call r args o = record { changes = λ b caller. either_way b no_words; starts = λ b. either_way b Stays }

pub refusal_says : (s : Seen) (call : Call) (r : Reply) (status : OpStatus) → SaysNothing (look s) call r call.deed (refusal_value s call.caller call.file call.deed status)
refusal_says s call r status = by_refusal (λ d value. SaysNothing (look s) call r d value)
    (refused_says (look s) call r) (denial_says (look s) call r) (test_says (look s) call r) s call.caller call.file call.deed status

pub words-refused : (s : Seen) (call : Call) (verdict : Verdict) (status : OpStatus)
    → words (look s) (Asked call verdict) (reply_by s call (Some (Refuse status)))
    ≡ with_owners no_words (owner_word (look s) call (reply_by s call (Some (Refuse status)))) Stays
unfolding words
words-refused s call verdict status =
    let r : Reply = reply_by s call (Some (Refuse status)) in
    let says = refusal_says s call r status in
    rw (says.starts (acts (look s) call r))
    (ap (λ w. with_owners w (owner_word (look s) call r) Stays) (says.changes (acts (look s) call r) call.caller))

-- ---- each word keeps the tables sound

-- what is made has the next number
abbrev pub MakesNext : TreeWord → ℕ → Type 0
MakesNext Untouched last = Unit {0}
MakesNext (Made row) last = row.number ≡ last + 1
MakesNext (Edited _ _ _) last = Unit {0}
MakesNext (Removed _ _) last = Unit {0}

pub tree_rises : (word : TreeWord) (tree : TreeNow) → MakesNext word tree.last_file → files_rise 0 tree.last_file tree.table ≡ true
    → files_rise 0 (tree_after word tree).last_file (tree_after word tree).table ≡ true
unfolding tree_after
tree_rises Untouched tree next rising = rising
tree_rises (Made row) tree next rising =
    files_rise-push 0 tree.last_file (map (stamped (tree.change + 1) row.parent) tree.table) (record row { change = tree.change + 1 }) (files_rise-map (stamped (tree.change + 1) row.parent) (stamped_keeps (tree.change + 1) row.parent) 0 tree.last_file tree.table rising) next
tree_rises (Edited dir number edit) tree next rising =
    files_rise-map (edited_at (tree.change + 1) dir number edit) (edited_keeps (tree.change + 1) dir number edit) 0 tree.last_file tree.table rising
tree_rises (Removed dir name) tree next rising =
    files_rise-map (stamped (tree.change + 1) dir) (stamped_keeps (tree.change + 1) dir) 0 tree.last_file
    (filter (λ row. not (is_named dir name row)) tree.table)
    (files_rise-filter (λ row. not (is_named dir name row)) 0 tree.last_file tree.table rising)

sound_same : (s : Seen) → IsSound s → IsSound (after_words s no_words)
unfolding after_words opens_after tree_after
sound_same s sound = record { rising = sound.rising; apart = sound.apart; numbers = sound.numbers; names = sound.names }

-- what an owner moves on to has no part in it
sound_with : (s : Seen) (w : Words) (word start : OwnerWord) → IsSound (after_words s w) → IsSound (after_words s (with_owners w word start))
unfolding after_words
sound_with s w word start sound = record { rising = sound.rising; apart = sound.apart; numbers = sound.numbers; names = sound.names }

sound_tree : (s : Seen) (word : TreeWord) → MakesNext word s.tree.last_file → NamesNew word s.tree.table → IsSound s → IsSound (after_words s (record no_words { tree = word }))
unfolding after_words opens_after
sound_tree s word next new sound = record {
  rising = sound.rising;
  apart = sound.apart;
  numbers = tree_rises word s.tree next sound.numbers;
  names = names-after word s.tree new sound.names;
}

sound_drop : (s : Seen) (word : OpenWord) (p : OpenRow → Bool) → opens_after word s.opens ≡ filter p s.opens → IsSound s
    → IsSound (after_words s (record no_words { opens = word }))
unfolding after_words tree_after
sound_drop s word p filters sound = record {
  rising = rw filters (rises-filter p 0 s.last s.opens sound.rising);
  apart = rw filters (all_apart-filter p s.opens sound.apart);
  numbers = sound.numbers;
  names = sound.names;
}

-- nor has what locks do, but that a counter may be drawn
sound_locks : (s : Seen) (w : Words) (word : LockWord) → IsSound (after_words s w) → IsSound (after_words s (record w { locks = word }))
unfolding after_words
sound_locks s w word sound = record { rising = sound.rising; apart = sound.apart; numbers = sound.numbers; names = sound.names }

sound_drawn : (s : Seen) (word : LockWord) → IsSound s → IsSound (after_words s (record no_words { drew = true; locks = word }))
unfolding after_words opens_after tree_after
sound_drawn s word sound = record { rising = rises-higher 0 s.last (s.last + 1) s.opens (omega arith) sound.rising; apart = sound.apart; numbers = sound.numbers; names = sound.names }

-- the file that a claim names is found in what stands as in the tables
pub claimed_is_target : (rows : List FileRow) (file : ℕ) (name : Option (List ℕ)) → claimed_in (λ dir n. child_at dir n rows) file name ≡ target_at rows file name
unfolding target_at
claimed_is_target rows file None = refl
claimed_is_target rows file (Some name) = refl

-- what is edited, or not, makes nothing
edits_or_not : (b : Bool) (dir number : ℕ) (edit : FileEdit) (last : ℕ) → MakesNext (cond b (Edited dir number edit) Untouched) last
edits_or_not true dir number edit last = tt
edits_or_not false dir number edit last = tt

edits_no_name : (b : Bool) (dir number : ℕ) (edit : FileEdit) (rows : List FileRow) → NamesNew (cond b (Edited dir number edit) Untouched) rows
edits_no_name true dir number edit rows = tt
edits_no_name false dir number edit rows = tt

edits_none_named : (b : Bool) (dir number : ℕ) (edit : FileEdit) (rows : List FileRow) → NamesNew (cond b Untouched (Edited dir number edit)) rows
edits_none_named true dir number edit rows = tt
edits_none_named false dir number edit rows = tt

edits_unless : (b : Bool) (dir number : ℕ) (edit : FileEdit) (last : ℕ) → MakesNext (cond b Untouched (Edited dir number edit)) last
edits_unless true dir number edit last = tt
edits_unless false dir number edit last = tt

open_makes_next : (row : Option FileRow) (dir : ℕ) (name : Option (List ℕ)) (opentype : OpenType) (o : Option ℕ) (last : ℕ)
    → MakesNext (open_tree row dir name opentype o (unwrap_or o (last + 1))) last
unfolding open_tree
open_makes_next row dir name opentype None last = refl
open_makes_next row dir name opentype (Some child) last = edits_or_not (cuts opentype) (parent_of row) child (Set (Some 0) None) last

-- what an OPEN makes has a name that isn't there
open_names_new : (rows : List FileRow) (row : Option FileRow) (dir : ℕ) (name : Option (List ℕ)) (opentype : OpenType) (number : ℕ)
    → NamesNew (open_tree row dir name opentype (target_at rows dir name) number) rows
unfolding open_tree target_at
open_names_new rows row dir None opentype number = edits_no_name (cuts opentype) (parent_of row) number (Set (Some 0) None) rows
open_names_new rows row dir (Some name) opentype number = by_target (child_at dir name rows) refl
  where
    by_target : (o : Option ℕ) → child_at dir name rows ≡ o → NamesNew (open_tree row dir (Some name) opentype o number) rows
    by_target None none = none
    by_target (Some child) found = edits_no_name (cuts opentype) (parent_of row) number (Set (Some 0) None) rows

-- the words of an OPEN that acted, by the row that it puts
sound_opened : (s : Seen) (party : Party) (file : ℕ) (args : OpenArgs) → IsSound s
    → is_opposed (opener party args) (file_to_open s file args) args.access args.deny s.opens ≡ false
    → IsSound (after_words s (open_words (look s) (Some party) file args (told.Open (open_value s (Some party) file args))))
unfolding after_words opens_after row_to_open look open_value
sound_opened s party file args sound free =
    let owner : Owner = opener party args in
    let its_file : ℕ = file_to_open s file args in
    let row : OpenRow = opened_row (open_of owner its_file s.opens) (s.last + 1) its_file owner args.access args.deny in
    let same : put_row s.opens row.counter owner its_file args.access args.deny ≡ row =
    same_row s.last s.opens owner its_file args.access args.deny sound.rising (open_of owner its_file s.opens) refl in
    let stays : StaysSound (cond (is_none (open_at row.counter s.opens)) (s.last + 1) s.last) (put_open row s.opens) =
    opened_sound s.last s.opens owner its_file args.access args.deny sound.rising sound.apart free (open_of owner its_file s.opens) refl row refl in
    record {
      rising = subst (λ (r : OpenRow). rises 0 (cond (is_none (open_at row.counter s.opens)) (s.last + 1) s.last) (put_open r s.opens) ≡ true) (sym same) stays.rising;
      apart = subst (λ (r : OpenRow). all_apart (put_open r s.opens) ≡ true) (sym same) stays.apart;
      numbers = tree_rises _ s.tree
          (rw (claimed_is_target s.tree.table file (claimed_name args.claim)) (open_makes_next _ file (claimed_name args.claim) args.opentype (target s file args) s.tree.last_file)) sound.numbers;
      names = names-after _ s.tree
          (rw (claimed_is_target s.tree.table file (claimed_name args.claim)) (open_names_new s.tree.table _ file (claimed_name args.claim) args.opentype its_file)) sound.names;
    }

-- the open that a stateid names is found by its counter
pub named_is_live : (s : Seen) (id : StateRef) (row : OpenRow) → open_named s id ≡ Some row → open_at row.counter s.opens ≡ Some row
unfolding open_named
named_is_live s Zeros row found = cc
named_is_live s Ones row found = cc
named_is_live s (Named id) row found = by_fs (id.fs == s.fs) found
  where
    by_fs : (b : Bool) → cond b (open_at id.counter s.opens) None ≡ Some row → open_at row.counter s.opens ≡ Some row
    by_fs true here = ap (λ k. open_at k s.opens) (open_at-in id.counter s.opens row here).1 ∙ here
    by_fs false elsewhere = cc

sound_closed : (s : Seen) (o : Option OpenRow) → IsSound s → IsSound (after_words s (close_words (told.Close (option_map (next_stateid s.fs) o))))
unfolding opens_after
sound_closed s None sound = sound_same s sound
sound_closed s (Some row) sound = sound_locks s _ (ClosedWith row.counter) (sound_drop s (Drop row.counter) (λ x. not (x.counter == row.counter)) refl sound)

-- a live open is changed in its place
sound_put : (s : Seen) (old new : OpenRow) → new.counter ≡ old.counter → open_at old.counter s.opens ≡ Some old → Suits new s.opens → IsSound s
    → IsSound (after_words s (record no_words { opens = Put new }))
unfolding after_words opens_after tree_after
sound_put s old new same live suits sound = record {
  rising = rises-put_old 0 s.last s.opens new old sound.rising (rw same live);
  apart = all_apart-put 0 s.last new s.opens sound.rising sound.apart suits;
  numbers = sound.numbers;
  names = sound.names;
}

sound_confirmed : (s : Seen) (o : Option OpenRow) → ((row : OpenRow) → o ≡ Some row → open_at row.counter s.opens ≡ Some row) → IsSound s
    → IsSound (after_words s (confirm_words (look s) (told.OpenConfirm (option_map (next_stateid s.fs) o))))
unfolding look
sound_confirmed s None live sound = sound_same s sound
sound_confirmed s (Some row) live sound = rw (live row refl)
    (sound_put s row (renewed_row row) refl (live row refl) (renewed_suits row s.opens sound.apart (open_at-in row.counter s.opens row (live row refl)).0) sound)

sound_narrowed : (s : Seen) (args : OpenDowngradeArgs) (o : Option OpenRow) → ((row : OpenRow) → o ≡ Some row → open_at row.counter s.opens ≡ Some row)
    → is_narrower args.access args.deny o ≡ true → IsSound s
    → IsSound (after_words s (downgrade_words (look s) args (told.OpenDowngrade (option_map (next_stateid s.fs) o))))
unfolding look is_narrower
sound_narrowed s args None live narrower sound = sound_same s sound
sound_narrowed s args (Some row) live narrower sound = rw (live row refl)
    (let parts = and_parts _ _ narrower in
    sound_put s row (narrowed_row args.access args.deny row) refl (live row refl)
    (narrowed_suits row args.access args.deny s.opens sound.apart (open_at-in row.counter s.opens row (live row refl)).0 (and_parts _ _ parts.0).1 parts.1) sound)

-- an OPEN_DOWNGRADE that nothing stops asks for no more than there is
pub downgrade_goes : (s : Seen) (caller : Option Party) (file : ℕ) (args : OpenDowngradeArgs) (verdict : Verdict)
    → first (downgrade_checks s caller file args verdict) ≡ None → is_narrower args.access args.deny (open_named s args.stateid) ≡ true
unfolding downgrade_checks
downgrade_goes s caller file args verdict goes =
    let free : IsFree (downgrade_checks s caller file args verdict) = all_free _ goes in
    not-false (is_narrower args.access args.deny (open_named s args.stateid)) (refuse_if-none _ Inval free.arguments)

set_makes_none : (row : Option FileRow) (file last : ℕ) (asks : Asks) (told_words : List ℕ) → MakesNext (set_tree row file asks told_words) last
unfolding set_tree
set_makes_none row file last asks told_words =
    edits_unless (is_empty told_words) (parent_of row) file (Set (asked_size asks) (asked_mode asks)) last

write_makes_none : (row : Option FileRow) (file last : ℕ) (args : WriteArgs) → MakesNext (write_tree row file args) last
unfolding write_tree
write_makes_none row file last args =
    edits_unless (is_empty (taken args.«data»)) (parent_of row) file (Wrote args.offset (taken args.«data»)) last

set_names_none : (row : Option FileRow) (file : ℕ) (rows : List FileRow) (asks : Asks) (told_words : List ℕ) → NamesNew (set_tree row file asks told_words) rows
unfolding set_tree
set_names_none row file rows asks told_words = edits_none_named (is_empty told_words) (parent_of row) file (Set (asked_size asks) (asked_mode asks)) rows

write_names_none : (row : Option FileRow) (file : ℕ) (rows : List FileRow) (args : WriteArgs) → NamesNew (write_tree row file args) rows
unfolding write_tree
write_names_none row file rows args = edits_none_named (is_empty (taken args.«data»)) (parent_of row) file (Wrote args.offset (taken args.«data»)) rows

-- a CREATE that nothing stops makes a name that isn't there
create_goes : (s : Seen) (dir : ℕ) (args : CreateArgs) (verdict : Verdict) → first (create_checks s dir args verdict) ≡ None → child_at dir args.name s.tree.table ≡ None
unfolding create_checks
create_goes s dir args verdict goes =
    let free : IsFree (create_checks s dir args verdict) = all_free _ goes in
    none_there (child_at dir args.name s.tree.table) (refuse_if-none _ Exist free.name)
  where
    none_there : (o : Option ℕ) → not (is_none o) ≡ false → o ≡ None
    none_there None h = refl
    none_there (Some number) h = absurd (true≢false h)

-- a lock, an unlock
sound_locked : (s : Seen) (caller : Option Party) (file : ℕ) (args : LockArgs) (locker : Locker) → IsSound s
    → IsSound (after_words s (lock_words (look s) caller file (record args { locker = locker }) (told.Lock (lock_value s (record args { locker = locker })))))
unfolding locked_stateid changed_lock
sound_locked s None file args (New open_seqid stateid lock_seqid text) sound = sound_same s sound
sound_locked s (Some party) file args (New open_seqid stateid lock_seqid text) sound = sound_drawn s _ sound
sound_locked s caller file args (Known stateid lock_seqid) sound = by_row (lock_named s stateid)
  where
    by_row : (o : Option LockRow) → IsSound (after_words s (lock_words (look s) caller file (record args { locker = Known stateid lock_seqid }) (told.Lock (option_map Locked (option_map (next_lock_stateid s.fs) o)))))
    by_row None = sound_same s sound
    by_row (Some row) = sound_locks s no_words _ (sound_same s sound)

sound_unlocked : (s : Seen) (args : UnlockArgs) (o : Option LockRow) → IsSound s
    → IsSound (after_words s (unlock_words (look s) args (told.Unlock (option_map (next_lock_stateid s.fs) o))))
sound_unlocked s args None sound = sound_same s sound
sound_unlocked s args (Some row) sound = sound_locks s no_words _ (sound_same s sound)

-- the words of a call that nothing stops
sound_goes : (s : Seen) (caller : Option Party) (file : ℕ) (verdict : Verdict) (d : Deed) → IsSound s
    → first (checks s caller file verdict d) ≡ None
    → IsSound (after_words s (deed_words (look s) caller file d (ok_value s caller file d)))
unfolding open_checks changed_stateid create_value write_value changed_lock
sound_goes s caller file verdict (deed.Access _) sound goes = sound_same s sound
sound_goes s caller file verdict (deed.Close args) sound goes = sound_closed s (open_named s args.stateid) sound
sound_goes s caller file verdict (deed.Commit _) sound goes = sound_same s sound
sound_goes s caller file verdict (deed.Create args) sound goes = sound_tree s (Made _) refl (create_goes s file args verdict goes) sound
sound_goes s caller file verdict (deed.GetAttr _) sound goes = sound_same s sound
sound_goes s caller file verdict (deed.Lock args) sound goes = sound_locked s caller file args args.locker sound
sound_goes s caller file verdict (deed.LockTest _) sound goes = sound_same s sound
sound_goes s caller file verdict (deed.Lookup _) sound goes = sound_same s sound
sound_goes s caller file verdict deed.LookupP sound goes = sound_same s sound
sound_goes s None file verdict (deed.Open args) sound goes = cc
sound_goes s (Some party) file verdict (deed.Open args) sound goes = sound_opened s party file args sound (open_goes s party file args verdict goes).free
sound_goes s caller file verdict (deed.OpenConfirm args) sound goes = sound_confirmed s (open_named s args.stateid) (named_is_live s args.stateid) sound
sound_goes s caller file verdict (deed.OpenDowngrade args) sound goes =
    sound_narrowed s args (open_named s args.stateid) (named_is_live s args.stateid) (downgrade_goes s caller file args verdict goes) sound
sound_goes s caller file verdict (deed.Read _) sound goes = sound_same s sound
sound_goes s caller file verdict (deed.ReadDir _) sound goes = sound_same s sound
sound_goes s None file verdict (deed.ReleaseLockOwner args) sound goes = sound_same s sound
sound_goes s (Some party) file verdict (deed.ReleaseLockOwner args) sound goes = sound_locks s no_words _ (sound_same s sound)
sound_goes s caller file verdict (deed.Remove args) sound goes = sound_tree s (Removed file args.name) tt tt sound
sound_goes s caller file verdict (deed.SetAttr args) sound goes = sound_tree s _ (set_makes_none _ file s.tree.last_file (asks_of args.attributes) _)
    (set_names_none _ file s.tree.table (asks_of args.attributes) _) sound
sound_goes s caller file verdict (deed.Unlock args) sound goes = sound_unlocked s args (lock_named s args.stateid) sound
sound_goes s caller file verdict (deed.Write args) sound goes = sound_tree s _ (write_makes_none _ file s.tree.last_file args)
    (write_names_none _ file s.tree.table args) sound

-- what a call that nothing stops leaves, with what its owner moves on to
pub words-free : (s : Seen) (call : Call) (verdict : Verdict) → first (checks s call.caller call.file verdict call.deed) ≡ None
    → words (look s) (Asked call verdict) (reply_by s call None)
    ≡ with_owners (deed_words (look s) call.caller call.file call.deed (ok_value s call.caller call.file call.deed))
    (noted (look s) call (reply_by s call None) (seqid_owner (look s) call.caller call.deed))
    (started_by (look s) call (reply_by s call None) call.deed (ok_value s call.caller call.file call.deed))
unfolding words is_done
words-free s call verdict goes = rw (free_is_fresh s call verdict goes) refl

-- an event that is answered keeps the tables sound
pub sound-after : (s : Seen) (event : Event) → IsSound s → IsSound (after s event (answer_to s event))
unfolding answer_to words opens_after
sound-after s (Ended party) sound = sound_with s (record no_words { opens = DropOf party; locks = EndedOf party }) _ _ (sound_locks s _ _ (sound_drop s (DropOf party) (λ x. not (same_party party x.owner.instance)) refl sound))
sound-after s (Asked call verdict) sound =
    by_stop (first (checks s call.caller call.file verdict call.deed)) refl
  where
    by_stop : (x : Option Stop) → first (checks s call.caller call.file verdict call.deed) ≡ x → IsSound (after s (Asked call verdict) (reply_by s call x))
    by_stop (Some (Refuse status)) refused = subst (λ w. IsSound (after_words s w)) (sym (words-refused s call verdict status)) (sound_with s no_words _ _ (sound_same s sound))
    by_stop (Some (Repeat kept)) repeats = subst (λ w. IsSound (after_words s w)) (sym (words-old (look s) call verdict kept (repeat_is_old s call verdict kept repeats))) (sound_same s sound)
    by_stop None goes = subst (λ w. IsSound (after_words s w)) (sym (words-free s call verdict goes))
        (sound_with s _ _ _ (sound_goes s call.caller call.file verdict call.deed sound goes))

-- The tables of a legal list are sound.
pub sound-seen : (fs : ℕ) (grants : Bool) (es : Past) → IsLegal fs grants es → IsSound (seen fs grants es)
unfolding seen
sound-seen fs grants [] legal = record { rising = refl; apart = refl; numbers = refl; names = refl }
sound-seen fs grants (x ∷ earlier) legal =
    rw legal.0 (sound-after (seen fs grants earlier) x.event (sound-seen fs grants earlier legal.1))

look-empty : (fs : ℕ) (grants : Bool) → look (empty fs grants) ≡ nothing_yet
unfolding look file_at child_at open_at owner_at
look-empty fs grants = λ i. record {
  file_by = λ k. find (λ row. row.number == k) (root_row ∷ []);
  child_by = fun_ext (λ dir. fun_ext (λ name. no_child dir name)) i;
  open_by = λ k. None;
  owner_by = λ owner. None;
  closed = [];
  locks = [];
  ranges = [];
  last = 0;
  last_file = 15;
  change = 0;
}
  where
    no_child : (dir : ℕ) (name : List ℕ) → option_map (λ (row : FileRow). row.number) (find (is_named dir name) (root_row ∷ [])) ≡ None
    no_child dir name = by_test (1 == dir)
      where
        by_test : (b : Bool) → option_map (λ (row : FileRow). row.number) (cond ((b && false) && bytes_eq [] name) (Some root_row) None) ≡ None
        by_test true = refl
        by_test false = refl

-- They show what stands.
pub look-seen : (fs : ℕ) (grants : Bool) (es : Past) → IsLegal fs grants es → look (seen fs grants es) ≡ now es
unfolding seen now
look-seen fs grants [] legal = look-empty fs grants
look-seen fs grants (x ∷ earlier) legal =
    let sound : IsSound (seen fs grants earlier) = sound-seen fs grants earlier legal.1 in
    look-after_words (seen fs grants earlier) (words (look (seen fs grants earlier)) x.event x.reply) sound.rising sound.numbers
    ∙ ap (λ n. left n (words n x.event x.reply)) (look-seen fs grants earlier legal.1)
