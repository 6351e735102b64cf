-- Closed opens are of owners that open, and lock stateids of owners that lock.
use Rattle.std.proofs.Common.{◌≡◌, ℕ, Bool, true, false, cond, List, [], ◌∷◌, Option, Some, None, refl, ap, ◌∙◌}
use Rattle.std.specs.Prelude.{◌==◌, not, filter, option_map}
use Rattle.std.specs.List.{list_all}
use Rattle.std.proofs.lemmas.Bool.{and_from, and_parts, false≢true}
use Rattle.std.proofs.lemmas.List.Folds.{list_all-append}
use Rattle.nm_rules.specs.Answer.{IsLegal, answer_to, ok_value, reply_by}
use Rattle.nm_rules.specs.Checks.Stop.{Refuse}
use Rattle.nm_rules.specs.Data.{write_value}
use Rattle.nm_rules.specs.Files.{create_value}
use Rattle.nm_rules.specs.LockAsks.{last_of}
use Rattle.nm_rules.specs.LockOps.{changed_lock, lock_value}
use Rattle.nm_rules.specs.LockRows.{LockWord, claim_if, clear_if, lock_at, locks_after, renewed_lock}
use Rattle.nm_rules.specs.LockRows.LockWord.{AsIs, Claimed, Cleared, ClosedWith, EndedOf, Released}
use Rattle.nm_rules.specs.Opens.{changed_stateid, next_stateid, open_value}
use Rattle.nm_rules.specs.Past.{Now, Past, Words, close_words, closed_by, confirm_words, deed_words, downgrade_words, ended, is_locked, is_released, lock_words, locked_words, no_words, noted, noted_row, owner_word, judgement, seqid_owner, started, started_by, unlock_words, words}
use Rattle.nm_rules.specs.Seen.{Seen, after, after_words, look, seen}
use Rattle.nm_rules.specs.Seqids.{OwnerWord, closed_after, is_fresh, listed}
use Rattle.nm_rules.specs.Seqids.OwnerWord.{Gone, GoneOf, Noted, Stays}
use Rattle.nm_rules.specs.Shares.{open_at, renewed_row}
use Rattle.nm_rules.specs.Sound.{is_opener}
use Rattle.nm_rules.specs.Stateids.{open_named}
use Rattle.nm_types.specs.Calls.{seqid_of}
use Rattle.nm_types.specs.Owners.{same_kind, same_owner}
use Rattle.nm_types.specs.Parties.{Party, same_party}
use Rattle.nm_types.specs.Statuses.{advances}
use Rattle.nm_types.specs.declared.args.LockArgs.{LockArgs}
use Rattle.nm_types.specs.declared.args.Locker.{Locker}
use Rattle.nm_types.specs.declared.args.Locker.TheVariants as locker
use Rattle.nm_types.specs.declared.args.UnlockArgs.{UnlockArgs}
use Rattle.nm_types.specs.declared.calls.Call.{Call}
use Rattle.nm_types.specs.declared.calls.Deed.{Deed}
use Rattle.nm_types.specs.declared.calls.Deed.TheVariants as deed
use Rattle.nm_types.specs.declared.calls.Event.{Event}
use Rattle.nm_types.specs.declared.calls.Event.TheVariants.{Asked, Ended}
use Rattle.nm_types.specs.declared.calls.Owner.{Owner}
use Rattle.nm_types.specs.declared.calls.OwnerKind.{OwnerKind}
use Rattle.nm_types.specs.declared.calls.OwnerKind.TheVariants.{Opens, Locks}
use Rattle.nm_types.specs.declared.calls.Reply.{Reply}
use Rattle.nm_types.specs.declared.calls.ReplyValue.{ReplyValue}
use Rattle.nm_types.specs.declared.calls.ReplyValue.TheVariants as told
use Rattle.nm_types.specs.declared.calls.StateId.{StateId}
use Rattle.nm_types.specs.declared.results.LockKind.{LockKind}
use Rattle.nm_types.specs.declared.results.LockOutcome.{LockOutcome}
use Rattle.nm_types.specs.declared.results.LockOutcome.TheVariants.{Locked, Denied as IsDenied}
use Rattle.nm_types.specs.declared.rows.LockRow.{LockRow}
use Rattle.nm_types.specs.declared.rows.OpenRow.{OpenRow}
use Rattle.nm_rules.proofs.KnownLaws.{all_at, lock_all_at, known-seen}
use Rattle.nm_rules.proofs.LockRowLaws.{list_all-filter, list_all-put}
use Rattle.nm_rules.proofs.OwnerLemmas.{same_owner-Decides}
use Rattle.nm_laws.proofs.AnswerWords.{by_answer}

abbrev pub is_lockers : LockRow → Bool
is_lockers row = same_kind row.owner.kind Locks

pub record KindsStand (s : Seen) : Type 0 where
  pub closed : list_all is_opener s.closed ≡ true
  pub locks : list_all is_lockers s.locks ≡ true

-- one owner isn't of both kinds
pub kinds_differ : (a b : Owner) → same_kind a.kind Locks ≡ true → same_kind b.kind Opens ≡ true → same_owner a b ≡ false
kinds_differ a b locks opens = by_test (same_owner a b) refl
  where
    both : (k : OwnerKind) → same_kind k Locks ≡ true → same_kind k Opens ≡ true → ⊥
    both Opens one other = false≢true one
    both Locks one other = false≢true other

    by_test : (t : Bool) → same_owner a b ≡ t → t ≡ false
    by_test true same = absurd (both a.kind locks (ap (λ (o : Owner). same_kind o.kind Opens) ((same_owner-Decides a b).0 same) ∙ opens))
    by_test false other = refl

-- so no closed open goes with a lock owner
pub closed_stay : (owner : Owner) (rows : List OpenRow) → same_kind owner.kind Locks ≡ true → list_all is_opener rows ≡ true
    → filter (λ x. not (same_owner owner x.owner)) rows ≡ rows
closed_stay owner [] locks all = refl
closed_stay owner (x ∷ xs) locks all =
    let parts = and_parts (is_opener x) (list_all is_opener xs) all in
    rw (kinds_differ owner x.owner locks parts.0) (ap (λ ys. x ∷ ys) (closed_stay owner xs locks parts.1))

-- ---- what is closed

-- what the word closes is such an open
abbrev pub Closes : (OpenRow → Bool) → OwnerWord → Type 0
Closes q Stays = Unit {0}
Closes q (Noted row closed) = list_all q (listed closed) ≡ true
Closes q (Gone owner) = Unit {0}
Closes q (GoneOf party) = Unit {0}

-- and so is each live one, once it is closed
abbrev pub LiveAre : (OpenRow → Bool) → Seen → Type 0
LiveAre q s = (k : ℕ) (row : OpenRow) → open_at k s.opens ≡ Some row → q (renewed_row row) ≡ true

pub closed_kept : (q : OpenRow → Bool) (word : OwnerWord) (rows : List OpenRow) → Closes q word → list_all q rows ≡ true → list_all q (closed_after word rows) ≡ true
unfolding closed_after
closed_kept q Stays rows fits all = all
closed_kept q (Noted row closed) rows fits all =
    list_all-append q (filter (λ x. not (same_owner row.owner x.owner)) rows) (listed closed)
    ∙ and_from _ _ (list_all-filter q (λ x. not (same_owner row.owner x.owner)) rows all) fits
closed_kept q (Gone owner) rows fits all = list_all-filter q (λ x. not (same_owner owner x.owner)) rows all
closed_kept q (GoneOf party) rows fits all = list_all-filter q (λ x. not (same_party party x.owner.instance)) rows all

closes_live : (q : OpenRow → Bool) (s : Seen) (d : Deed) (value : ReplyValue) → LiveAre q s → list_all q (listed (closed_by (look s) d value)) ≡ true
unfolding closed_by look
closes_live q s (deed.Close args) (told.Close (Some id)) live = by_row (open_at id.counter s.opens) refl
  where
    by_row : (o : Option OpenRow) → open_at id.counter s.opens ≡ o → list_all q (listed (option_map renewed_row o)) ≡ true
    by_row None none = refl
    by_row (Some x) found = and_from (q (renewed_row x)) true (live id.counter x found) refl
closes_live q s _ _ live = refl

pub noted_closes : (q : OpenRow → Bool) (s : Seen) (call : Call) (r : Reply) (o : Option Owner) → LiveAre q s → Closes q (noted (look s) call r o)
unfolding noted
noted_closes q s call r None live = tt
noted_closes q s call r (Some owner) live = by_test (advances r.status)
  where
    by_test : (b : Bool) → Closes q (cond b (Noted (noted_row ((look s).owner_by owner) owner (seqid_of call.deed) call r) (closed_by (look s) call.deed r.value)) Stays)
    by_test true = closes_live q s call.deed r.value live
    by_test false = tt

pub word_closes : (q : OpenRow → Bool) (s : Seen) (call : Call) (r : Reply) → LiveAre q s → Closes q (owner_word (look s) call r)
word_closes q s call r live = by_test (is_fresh (judgement (look s) call))
  where
    by_test : (b : Bool) → Closes q (cond b (noted (look s) call r (seqid_owner (look s) call.caller call.deed)) Stays)
    by_test true = noted_closes q s call r (seqid_owner (look s) call.caller call.deed) live
    by_test false = tt

pub start_closes : (q : OpenRow → Bool) (n : Now) (call : Call) (r : Reply) (d : Deed) (value : ReplyValue) → Closes q (started_by n call r d value)
unfolding started_by
start_closes q n call r (deed.Lock args) value = by_lock (is_locked value) call.caller args.locker
  where
    by_lock : (b : Bool) (caller : Option Party) (its : Locker) → Closes q (cond b (started n call r caller its) Stays)
    by_lock false caller its = tt
    by_lock true None (locker.New open_seqid stateid lock_seqid text) = tt
    by_lock true None (locker.Known stateid lock_seqid) = tt
    by_lock true (Some party) (locker.New open_seqid stateid lock_seqid text) = refl
    by_lock true (Some party) (locker.Known stateid lock_seqid) = tt
start_closes q n call r (deed.ReleaseLockOwner args) value = by_release (is_released value) call.caller
  where
    by_release : (b : Bool) (caller : Option Party) → Closes q (cond b (ended caller args.owner) Stays)
    by_release false caller = tt
    by_release true None = tt
    by_release true (Some party) = tt
start_closes q n call r _ value = tt

-- ---- who takes and gives up ranges

abbrev TakesLockers : LockWord → Type 0
TakesLockers AsIs = Unit {0}
TakesLockers (Claimed row kind from to) = is_lockers row ≡ true
TakesLockers (Cleared row from to) = is_lockers row ≡ true
TakesLockers (ClosedWith counter) = Unit {0}
TakesLockers (Released owner) = Unit {0}
TakesLockers (EndedOf party) = Unit {0}

locks_kept : (word : LockWord) (rows : List LockRow) → TakesLockers word → list_all is_lockers rows ≡ true → list_all is_lockers (locks_after word rows) ≡ true
unfolding locks_after
locks_kept AsIs rows takes all = all
locks_kept (Claimed row kind from to) rows takes all = list_all-put is_lockers row rows all takes
locks_kept (Cleared row from to) rows takes all = list_all-put is_lockers row rows all takes
locks_kept (ClosedWith counter) rows takes all = list_all-filter is_lockers (λ x. not (x.opened == counter)) rows all
locks_kept (Released owner) rows takes all = list_all-filter is_lockers (λ x. not (same_owner owner x.owner)) rows all
locks_kept (EndedOf party) rows takes all = list_all-filter is_lockers (λ x. not (same_party party x.owner.instance)) rows all

lock_takes : (s : Seen) (caller : Option Party) (file : ℕ) (args : LockArgs) (o : Option LockOutcome) → list_all is_lockers s.locks ≡ true
    → TakesLockers (lock_words (look s) caller file args (told.Lock o)).locks
unfolding look
lock_takes s caller file args None all = tt
lock_takes s caller file args (Some (IsDenied denied)) all = tt
lock_takes s caller file args (Some (Locked id)) all = by_locker caller args.locker
  where
    by_row : (o : Option LockRow) → lock_at id.counter s.locks ≡ o → (kind : LockKind) (from to : ℕ) → TakesLockers (claim_if (option_map renewed_lock o) kind from to)
    by_row None none kind from to = tt
    by_row (Some x) found kind from to = lock_all_at is_lockers id.counter s.locks x all found

    by_locker : (its_caller : Option Party) (its : Locker) → TakesLockers (locked_words (look s) its_caller file args id.counter its).locks
    by_locker None (locker.New open_seqid stateid lock_seqid text) = tt
    by_locker (Some party) (locker.New open_seqid stateid lock_seqid text) = refl
    by_locker its_caller (locker.Known stateid lock_seqid) = by_row (lock_at id.counter s.locks) refl _ _ _

unlock_takes : (s : Seen) (args : UnlockArgs) (o : Option StateId) → list_all is_lockers s.locks ≡ true → TakesLockers (unlock_words (look s) args (told.Unlock o)).locks
unfolding look
unlock_takes s args None all = tt
unlock_takes s args (Some id) all = by_row (lock_at id.counter s.locks) refl
  where
    by_row : (o : Option LockRow) → lock_at id.counter s.locks ≡ o → TakesLockers (clear_if (option_map renewed_lock o) args.offset (last_of args.offset args.length))
    by_row None none = tt
    by_row (Some x) found = lock_all_at is_lockers id.counter s.locks x all found

-- the operations that take no range
deed_takes : (s : Seen) (caller : Option Party) (file : ℕ) (d : Deed) → list_all is_lockers s.locks ≡ true
    → TakesLockers (deed_words (look s) caller file d (ok_value s caller file d)).locks
unfolding create_value write_value changed_stateid open_value
deed_takes s caller file (deed.Close args) all = by_told (option_map (next_stateid s.fs) (open_named s args.stateid))
  where
    by_told : (o : Option StateId) → TakesLockers (close_words (told.Close o)).locks
    by_told None = tt
    by_told (Some id) = tt
deed_takes s caller file (deed.Lock args) all = lock_takes s caller file args (lock_value s args) all
deed_takes s None file (deed.Open args) all = tt
deed_takes s (Some party) file (deed.Open args) all = tt
deed_takes s caller file (deed.OpenConfirm args) all = by_told (option_map (next_stateid s.fs) (open_named s args.stateid))
  where
    by_told : (o : Option StateId) → TakesLockers (confirm_words (look s) (told.OpenConfirm o)).locks
    by_told None = tt
    by_told (Some id) = tt
deed_takes s caller file (deed.OpenDowngrade args) all = by_told (option_map (next_stateid s.fs) (open_named s args.stateid))
  where
    by_told : (o : Option StateId) → TakesLockers (downgrade_words (look s) args (told.OpenDowngrade o)).locks
    by_told None = tt
    by_told (Some id) = tt
deed_takes s None file (deed.ReleaseLockOwner args) all = tt
deed_takes s (Some party) file (deed.ReleaseLockOwner args) all = tt
deed_takes s caller file (deed.Unlock args) all = unlock_takes s args (changed_lock s args.stateid) all
deed_takes s caller file (deed.Access _) all = tt
deed_takes s caller file (deed.Commit _) all = tt
deed_takes s caller file (deed.Create _) all = tt
deed_takes s caller file (deed.GetAttr _) all = tt
deed_takes s caller file (deed.LockTest _) all = tt
deed_takes s caller file (deed.Lookup _) all = tt
deed_takes s caller file deed.LookupP all = tt
deed_takes s caller file (deed.Read _) all = tt
deed_takes s caller file (deed.ReadDir _) all = tt
deed_takes s caller file (deed.Remove _) all = tt
deed_takes s caller file (deed.SetAttr _) all = tt
deed_takes s caller file (deed.Write _) all = tt

-- ---- events

kinds-words : (s : Seen) (w : Words) → KindsStand s → Closes is_opener w.owners → Closes is_opener w.starts → TakesLockers w.locks → KindsStand (after_words s w)
unfolding after_words
kinds-words s w stand owners starts locks = record {
  closed = closed_kept is_opener w.starts (closed_after w.owners s.closed) starts (closed_kept is_opener w.owners s.closed owners stand.closed);
  locks = locks_kept w.locks s.locks locks stand.locks;
}

kinds-event : (s : Seen) (event : Event) → list_all is_opener s.opens ≡ true → KindsStand s → KindsStand (after s event (answer_to s event))
unfolding words
kinds-event s (Ended party) opens stand = kinds-words s _ stand tt tt tt
kinds-event s (Asked call verdict) opens stand =
    by_answer (λ w. KindsStand (after_words s w)) s call verdict
    (λ status refused. kinds-words s _ stand (word_closes is_opener s call (reply_by s call (Some (Refuse status))) live) tt tt)
    (kinds-words s no_words stand tt tt tt)
    (λ goes. kinds-words s _ stand (noted_closes is_opener s call (reply_by s call None) (seqid_owner (look s) call.caller call.deed) live)
    (start_closes is_opener (look s) call (reply_by s call None) call.deed (ok_value s call.caller call.file call.deed))
    (deed_takes s call.caller call.file call.deed stand.locks))
  where
    live : LiveAre is_opener s
    live k row found = all_at is_opener k s.opens row opens found

pub kinds-seen : (fs : ℕ) (grants : Bool) (es : Past) → IsLegal fs grants es → KindsStand (seen fs grants es)
unfolding seen
kinds-seen fs grants [] legal = record { closed = refl; locks = refl }
kinds-seen fs grants (x ∷ earlier) legal =
    rw legal.0 (kinds-event (seen fs grants earlier) x.event (known-seen fs grants earlier legal.1).kinds (kinds-seen fs grants earlier legal.1))
