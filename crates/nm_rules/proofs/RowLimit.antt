-- No more rows are taken than there may be.
use Rattle.std.proofs.Common.{◌≡◌, ◌≤◌, ℕ, ◌+◌, Bool, true, false, cond, List, [], ◌∷◌, ◌++◌, Option, Some, None, refl, ap, sym, subst, ◌∙◌, arith, eqb-true}
use Rattle.std.specs.Prelude.{length, not, is_none, nat_le, nat_lt, find, filter, map, option_map, ◌==◌}
use Rattle.std.specs.Option.{option_or}
use Rattle.std.proofs.lemmas.Bool.{false≢true, true≢false, ltb-false}
use Rattle.std.proofs.lemmas.Bool.Decides.{nat_tests}
use Rattle.nm_types.specs.Parties.{Party, same_party}
use Rattle.nm_types.specs.Owners.{same_owner}
use Rattle.nm_rules.specs.Seqids.{OwnerWord, is_fresh, owner_at, put_owner, owners_after, closed_after, listed}
use Rattle.nm_types.specs.Statuses.{advances}
use Rattle.nm_types.specs.Calls.{seqid_of}
use Rattle.nm_rules.specs.Seqids.OwnerWord.{Stays, Noted, Gone, GoneOf}
use Rattle.nm_rules.specs.Shares.{OpenWord, open_at, open_of, opened_row, renewed_row, narrowed_row, put_if, put_open, opens_after}
use Rattle.nm_rules.specs.Past.{Past, Now, Words, no_words, lock_named_by, lock_owner_named, locker_owner, started, started_by, lock_starts, lock_words, unlock_words, deed_words, noted, noted_row, closed_by, judgement, named_by, owner_named, seqid_owner, with_owners, words, opener, open_words, close_words, confirm_words, downgrade_words}
use Rattle.nm_rules.specs.Seen.{Seen, seen, look, after, after_words}
use Rattle.nm_rules.specs.Checks.{Stop, first, refusal, behind_seqid}
use Rattle.nm_rules.specs.Checks.Stop.{Refuse, Repeat}
use Rattle.nm_rules.specs.Data.{write_value}
use Rattle.nm_rules.specs.Files.{create_value}
use Rattle.nm_rules.specs.Opens.{changed_stateid, next_stateid, open_value, open_checks, claim_unresolved, rows_limit, rows_taken, rows_with_open, one_if, file_to_open, target, tree_limit, open_limit, row_to_open}
use Rattle.nm_rules.specs.Locks.{cleared, set_to}
use Rattle.nm_rules.specs.LockAsks.{kind_of, access_for, last_of, lock_owner, counter_of}
use Rattle.nm_rules.specs.LockOps.{lock_checks, new_checks, known_checks, unlock_checks, new_limit, rows_with_new, rows_with_known, ranges_with, ranges_without, lock_value, locked_stateid, changed_lock, next_lock_stateid}
use Rattle.nm_rules.specs.LockRows.{LockWord, lock_at, new_lock, renewed_lock, put_lock, put_ranges, ranges_on, ranges_taken, locks_after, ranges_after, without, has_ranges, is_held_by}
use Rattle.nm_rules.specs.LockRows.LockWord.{AsIs, Claimed, Cleared, ClosedWith, Released, EndedOf}
use Rattle.nm_rules.specs.Stateids.{open_named, lock_named, owner_stop, live_stop, lock_stop, lock_live_stop}
use Rattle.nm_rules.specs.Answer.{answer_to, reply_by, reply_with, ok_value, checks, IsLegal}
use Rattle.nm_rules.specs.Sound.{is_known, is_locker, OwnersAreKnown, IsSound}
use Rattle.nm_types.specs.declared.args.Claim.{Claim}
use Rattle.nm_types.specs.declared.args.Claim.TheVariants.{Null, Previous, DelegateCur, DelegatePrev}
use Rattle.nm_types.specs.declared.args.CloseArgs.{CloseArgs}
use Rattle.nm_types.specs.declared.args.LockArgs.{LockArgs}
use Rattle.nm_types.specs.declared.args.Locker.{Locker}
use Rattle.nm_types.specs.declared.args.Locker.TheVariants as locker
use Rattle.nm_types.specs.declared.args.OpenArgs.{OpenArgs}
use Rattle.nm_types.specs.declared.args.OpenConfirmArgs.{OpenConfirmArgs}
use Rattle.nm_types.specs.declared.args.OpenDowngradeArgs.{OpenDowngradeArgs}
use Rattle.nm_types.specs.declared.args.UnlockArgs.{UnlockArgs}
use Rattle.nm_types.specs.declared.calls.Call.{Call}
use Rattle.nm_types.specs.declared.calls.Deed.{Deed}
use Rattle.nm_types.specs.declared.calls.Deed.TheVariants as deed
use Rattle.nm_types.specs.declared.calls.Event.{Event}
use Rattle.nm_types.specs.declared.calls.Event.TheVariants.{Asked, Ended}
use Rattle.nm_types.specs.declared.calls.Owner.{Owner}
use Rattle.nm_types.specs.declared.calls.Reply.{Reply}
use Rattle.nm_types.specs.declared.calls.ReplyValue.{ReplyValue}
use Rattle.nm_types.specs.declared.calls.ReplyValue.TheVariants as told
use Rattle.nm_types.specs.declared.calls.StateId.{StateId}
use Rattle.nm_types.specs.declared.calls.StateRef.{StateRef}
use Rattle.nm_types.specs.declared.calls.StateRef.TheVariants.{Zeros, Ones, Named}
use Rattle.nm_types.specs.declared.calls.Verdict.{Verdict}
use Rattle.nm_types.specs.declared.owners.OwnerRow.{OwnerRow}
use Rattle.nm_types.specs.declared.results.LockOutcome.TheVariants.{Locked}
use Rattle.nm_types.specs.declared.results.Opened.{Opened}
use Rattle.nm_types.specs.declared.rows.FileLocks.{FileLocks}
use Rattle.nm_types.specs.declared.rows.Held.{Held}
use Rattle.nm_types.specs.declared.rows.LockRow.{LockRow}
use Rattle.nm_types.specs.declared.rows.OpenRow.{OpenRow}
use Rattle.nm_types.specs.declared.status.OpStatus.{OpStatus}
use Rattle.nm_types.specs.declared.status.OpStatus.TheVariants.{Nfs4Ok, BadStateId, Resource}
use Rattle.nm_rules.proofs.Legal.{words-free, words-old, words-refused, repeat_is_old, sound-seen, drew_new, same_row, put_row}
use Rattle.nm_rules.proofs.Classes.{IsFree, all_free, or_none, refuse_if-none}
use Rattle.nm_rules.proofs.ClosedLaws.{live_named}
use Rattle.nm_rules.proofs.KnownLaws.{all_at, lock_all_at, noted_done, refusal_closes, known-seen}
use Rattle.nm_rules.proofs.OwnerRows.{owner_at-put}
use Rattle.nm_rules.proofs.Refusals.{lock_keeps, unlock_keeps}
use Rattle.nm_rules.proofs.LockRowLaws.{lock_at-counter}
use Rattle.nm_rules.proofs.OpenRows.{open_at-in}

-- ---- lengths

pub length-filter : {A : Type 0} (p : A → Bool) (rows : List A) → length (filter p rows) ≤ length rows
length-filter p [] = omega arith
length-filter p (x ∷ xs) = by_head (p x) (length-filter p xs)
  where
    by_head : (b : Bool) → length (filter p xs) ≤ length xs → length (cond b (x ∷ filter p xs) (filter p xs)) ≤ length (x ∷ xs)
    by_head true later = omega (arith, later)
    by_head false later = omega (arith, later)

length-listed : (xs : List OpenRow) (o : Option OpenRow) → length (xs ++ listed o) ≡ length xs + one_if (not (is_none o))
length-listed [] None = refl
length-listed [] (Some x) = refl
length-listed (y ∷ ys) o = omega (arith, length-listed ys o)

length-put_owner : (row : OwnerRow) (rows : List OwnerRow) → length (put_owner row rows) ≡ length rows + one_if (is_none (owner_at row.owner rows))
unfolding owner_at
length-put_owner row [] = refl
length-put_owner row (x ∷ xs) = by_head (same_owner row.owner x.owner) (length-put_owner row xs)
  where
    by_head : (b : Bool) → length (put_owner row xs) ≡ length xs + one_if (is_none (find (λ r. same_owner row.owner r.owner) xs))
        → length (cond b (row ∷ xs) (x ∷ put_owner row xs)) ≡ length (x ∷ xs) + one_if (is_none (cond b (Some x) (find (λ r. same_owner row.owner r.owner) xs)))
    by_head true later = omega arith
    by_head false later = omega (arith, later)

length-put_open : (row : OpenRow) (rows : List OpenRow) → length (put_open row rows) ≡ length rows + one_if (is_none (open_at row.counter rows))
unfolding open_at
length-put_open row [] = refl
length-put_open row (x ∷ xs) = by_head (x.counter == row.counter) (length-put_open row xs)
  where
    by_head : (b : Bool) → length (put_open row xs) ≡ length xs + one_if (is_none (find (λ r. r.counter == row.counter) xs))
        → length (cond b (row ∷ xs) (x ∷ put_open row xs)) ≡ length (x ∷ xs) + one_if (is_none (cond b (Some x) (find (λ r. r.counter == row.counter) xs)))
    by_head true later = omega arith
    by_head false later = omega (arith, later)

-- an open that goes was one of them
length-drop : (k : ℕ) (rows : List OpenRow) → length (filter (λ x. not (x.counter == k)) rows) + one_if (not (is_none (open_at k rows))) ≤ length rows
unfolding open_at
length-drop k [] = omega arith
length-drop k (x ∷ xs) = by_head (x.counter == k) (length-drop k xs)
  where
    rest : List OpenRow
    rest = filter (λ y. not (y.counter == k)) xs

    by_head : (b : Bool) → length rest + one_if (not (is_none (find (λ r. r.counter == k) xs))) ≤ length xs
        → length (cond (not b) (x ∷ rest) rest) + one_if (not (is_none (cond b (Some x) (find (λ r. r.counter == k) xs)))) ≤ length (x ∷ xs)
    by_head true later = omega (arith, length-filter (λ (y : OpenRow). not (y.counter == k)) xs)
    by_head false later = omega (arith, later)

-- ---- owners that move on

-- how many rows the word of an owner adds to the owners and the closed opens
abbrev owner_rows : OwnerWord → Seen → ℕ
owner_rows word s = length (owners_after word s.owners) + length (closed_after word s.closed)

-- the rows of locks
abbrev held_rows : Seen → ℕ
held_rows s = length s.locks + ranges_taken s.ranges

-- the owner was known
abbrev WasKnown : OwnerWord → List OwnerRow → Type 0
WasKnown Stays owners = Unit {0}
WasKnown (Noted row closed) owners = is_none (owner_at row.owner owners) ≡ false
WasKnown (Gone owner) owners = Unit {0}
WasKnown (GoneOf party) owners = Unit {0}

abbrev closes : OwnerWord → ℕ
closes Stays = 0
closes (Noted row closed) = one_if (not (is_none closed))
closes (Gone owner) = 0
closes (GoneOf party) = 0

-- A word of an owner that was known adds no row but the open that it closes.
known_rows : (word : OwnerWord) (s : Seen) → WasKnown word s.owners → owner_rows word s ≤ length s.owners + length s.closed + closes word
unfolding owners_after closed_after
known_rows Stays s known = omega arith
known_rows (Noted row closed) s known =
    rw (length-put_owner row s.owners, known, length-listed (filter (λ x. not (same_owner row.owner x.owner)) s.closed) closed)
    (omega (arith, length-filter (λ (x : OpenRow). not (same_owner row.owner x.owner)) s.closed))
known_rows (Gone owner) s known =
    omega (arith, length-filter (λ (x : OwnerRow). not (same_owner owner x.owner)) s.owners, length-filter (λ (x : OpenRow). not (same_owner owner x.owner)) s.closed)
known_rows (GoneOf party) s known =
    omega (arith, length-filter (λ (x : OwnerRow). not (same_party party x.owner.instance)) s.owners, length-filter (λ (x : OpenRow). not (same_party party x.owner.instance)) s.closed)

one_if-le : (b : Bool) → one_if b ≤ 1
one_if-le true = omega arith
one_if-le false = omega arith

-- Any word adds at most one owner, beside what it closes.
any_rows : (word : OwnerWord) (s : Seen) → owner_rows word s ≤ length s.owners + length s.closed + closes word + 1
unfolding owners_after closed_after
any_rows Stays s = omega arith
any_rows (Noted row closed) s =
    rw (length-put_owner row s.owners, length-listed (filter (λ x. not (same_owner row.owner x.owner)) s.closed) closed)
    (omega (arith, one_if-le (is_none (owner_at row.owner s.owners)), length-filter (λ (x : OpenRow). not (same_owner row.owner x.owner)) s.closed))
any_rows (Gone owner) s =
    omega (arith, length-filter (λ (x : OwnerRow). not (same_owner owner x.owner)) s.owners, length-filter (λ (x : OpenRow). not (same_owner owner x.owner)) s.closed)
any_rows (GoneOf party) s =
    omega (arith, length-filter (λ (x : OwnerRow). not (same_party party x.owner.instance)) s.owners, length-filter (λ (x : OpenRow). not (same_party party x.owner.instance)) s.closed)

-- the owner of what a stateid names is known
named_known : (s : Seen) (stateid : StateRef) (row : OpenRow) → OwnersAreKnown s → named_by (look s) stateid ≡ Some row → is_none (owner_at row.owner s.owners) ≡ false
unfolding named_by look
named_known s Zeros row known found = cc
named_known s Ones row known found = cc
named_known s (Named id) row known found = by_live (open_at id.counter s.opens) refl found
  where
    not-true : (b : Bool) → not b ≡ true → b ≡ false
    not-true true h = absurd (false≢true h)
    not-true false h = refl

    by_live : (o : Option OpenRow) → open_at id.counter s.opens ≡ o → option_or o (open_at id.counter s.closed) ≡ Some row → is_none (owner_at row.owner s.owners) ≡ false
    by_live None none found = not-true (is_none (owner_at row.owner s.owners)) (all_at (is_known s.owners) id.counter s.closed row known.closed found)
    by_live (Some x) live found = not-true (is_none (owner_at row.owner s.owners)) (all_at (is_known s.owners) id.counter s.opens row known.opens (live ∙ found))

named_was_known : (s : Seen) (stateid : StateRef) (call : Call) (r : Reply) → OwnersAreKnown s → WasKnown (noted (look s) call r (owner_named (look s) stateid)) s.owners
unfolding noted
named_was_known s stateid call r known = by_row (named_by (look s) stateid) refl
  where
    by_row : (o : Option OpenRow) → named_by (look s) stateid ≡ o → WasKnown (noted (look s) call r (option_map (λ row. row.owner) o)) s.owners
    by_row None none = tt
    by_row (Some row) found = by_test (advances r.status)
      where
        by_test : (b : Bool) → WasKnown (cond b (Noted (noted_row ((look s).owner_by row.owner) row.owner (seqid_of call.deed) call r) (closed_by (look s) call.deed r.value)) Stays) s.owners
        by_test true = named_known s stateid row known found
        by_test false = tt

-- and so is the lock owner of what a stateid names
lock_named_known : (s : Seen) (stateid : StateRef) (row : LockRow) → OwnersAreKnown s → lock_named_by (look s) stateid ≡ Some row → is_none (owner_at row.owner s.owners) ≡ false
unfolding lock_named_by look
lock_named_known s Zeros row known found = cc
lock_named_known s Ones row known found = cc
lock_named_known s (Named id) row known found =
    not-true (is_none (owner_at row.owner s.owners)) (lock_all_at (is_locker s.owners) id.counter s.locks row known.locks found)
  where
    not-true : (b : Bool) → not b ≡ true → b ≡ false
    not-true true h = absurd (false≢true h)
    not-true false h = refl

lock_was_known : (s : Seen) (stateid : StateRef) (call : Call) (r : Reply) → OwnersAreKnown s → WasKnown (noted (look s) call r (lock_owner_named (look s) stateid)) s.owners
unfolding noted
lock_was_known s stateid call r known = by_row (lock_named_by (look s) stateid) refl
  where
    by_row : (o : Option LockRow) → lock_named_by (look s) stateid ≡ o → WasKnown (noted (look s) call r (option_map (λ row. row.owner) o)) s.owners
    by_row None none = tt
    by_row (Some row) found = by_test (advances r.status)
      where
        by_test : (b : Bool) → WasKnown (cond b (Noted (noted_row ((look s).owner_by row.owner) row.owner (seqid_of call.deed) call r) (closed_by (look s) call.deed r.value)) Stays) s.owners
        by_test true = lock_named_known s stateid row known found
        by_test false = tt

locker_was_known : (s : Seen) (locker : Locker) (call : Call) (r : Reply) → OwnersAreKnown s → WasKnown (noted (look s) call r (locker_owner (look s) locker)) s.owners
locker_was_known s (locker.New open_seqid stateid lock_seqid text) call r known = named_was_known s stateid call r known
locker_was_known s (locker.Known stateid lock_seqid) call r known = lock_was_known s stateid call r known

-- what an operation of an owner closes
noted_closes : (n : Now) (call : Call) (r : Reply) (o : Option Owner) → closes (noted n call r o) ≤ one_if (not (is_none (closed_by n call.deed r.value)))
unfolding noted
noted_closes n call r None = omega arith
noted_closes n call r (Some owner) = by_test (advances r.status)
  where
    by_test : (b : Bool) → closes (cond b (Noted (noted_row (n.owner_by owner) owner (seqid_of call.deed) call r) (closed_by n call.deed r.value)) Stays)
        ≤ one_if (not (is_none (closed_by n call.deed r.value)))
    by_test true = omega arith
    by_test false = omega arith

-- ---- refusals

refused_is : {a b : OpStatus} → Some (Refuse a) ≡ Some (Refuse b) → a ≡ b
refused_is e = cc

-- a class tells nothing, or that a stateid stands for nothing
abbrev IsBadOrNone : Option OpStatus → Type 0
IsBadOrNone None = Unit {0}
IsBadOrNone (Some status) = status ≡ BadStateId

claim_bad : (claim : Claim) → IsBadOrNone (claim_unresolved claim)
unfolding claim_unresolved
claim_bad (Null _) = tt
claim_bad (Previous _) = tt
claim_bad (DelegateCur _ _) = refl
claim_bad (DelegatePrev _) = tt

room_by : (o : Option OpStatus) (full : Bool) (more : Option Stop) (status : OpStatus) → IsBadOrNone o
    → option_or (refusal o) (option_or (cond full (Some (Refuse Resource)) None) more) ≡ Some (Refuse status) → advances status ≡ true → full ≡ false
unfolding advances
room_by None false more status bad refused moves = refl
room_by None true more status bad refused moves = absurd (true≢false (sym moves ∙ sym (ap advances (refused_is refused))))
room_by (Some o) full more status bad refused moves = absurd (true≢false (sym moves ∙ ap advances (sym (refused_is refused) ∙ bad)))

-- Where an OPEN of an owner that isn't known is refused with a status that moves it on, there was room for a row.
had_room : (s : Seen) (party : Party) (file : ℕ) (args : OpenArgs) (verdict : Verdict) (status : OpStatus)
    → first (open_checks s (Some party) file args verdict) ≡ Some (Refuse status) → advances status ≡ true → owner_at (opener party args) s.owners ≡ None
    → rows_taken s + 1 ≤ rows_limit
unfolding open_checks owner_stop
had_room s party file args verdict status refused moves unknown =
    room_left (room_by (claim_unresolved args.claim) (nat_le rows_limit (rows_taken s)) (refusal (behind_seqid (open_checks s (Some party) file args verdict))) status
    (claim_bad args.claim)
    (subst (λ o. option_or (refusal (claim_unresolved args.claim)) (option_or (owner_stop (nat_le rows_limit (rows_taken s)) o args.seqid (Some party) file (deed.Open args)) (refusal (behind_seqid (open_checks s (Some party) file args verdict)))) ≡ Some (Refuse status)) unknown refused) moves)
  where
    room_left : nat_le rows_limit (rows_taken s) ≡ false → rows_taken s + 1 ≤ rows_limit
    room_left left = less rows_limit (rows_taken s) left
      where
        less : (m n : ℕ) → nat_le m n ≡ false → n + 1 ≤ m
        less m n left = grind (arith, nat_tests)

-- what an operation of an owner that was known leaves where it is refused
known_refused : (s : Seen) (call : Call) (r : Reply) (o : Option Owner) → closed_by (look s) call.deed r.value ≡ None → WasKnown (noted (look s) call r o) s.owners
    → rows_taken s ≤ rows_limit → owner_rows (noted (look s) call r o) s + length s.opens + held_rows s ≤ rows_limit
known_refused s call r o none known within =
    omega (arith, known_rows (noted (look s) call r o) s known, noted_closes (look s) call r o, ap (λ (c : Option OpenRow). one_if (not (is_none c))) none, within)

noted_known : (s : Seen) (call : Call) (r : Reply) (owner : Owner) → is_none (owner_at owner s.owners) ≡ false → WasKnown (noted (look s) call r (Some owner)) s.owners
unfolding noted
noted_known s call r owner there = by_test (advances r.status)
  where
    by_test : (b : Bool) → WasKnown (cond b (Noted (noted_row ((look s).owner_by owner) owner (seqid_of call.deed) call r) (closed_by (look s) call.deed r.value)) Stays) s.owners
    by_test true = there
    by_test false = tt

-- an owner that a status doesn't move on adds no row
noted_stays : (s : Seen) (call : Call) (r : Reply) (owner : Owner) → advances r.status ≡ false → rows_taken s ≤ rows_limit
    → owner_rows (noted (look s) call r (Some owner)) s + length s.opens + held_rows s ≤ rows_limit
unfolding noted owners_after closed_after
noted_stays s call r owner stays within = by_test (advances r.status) stays
  where
    by_test : (b : Bool) → b ≡ false → owner_rows (cond b (Noted (noted_row ((look s).owner_by owner) owner (seqid_of call.deed) call r) (closed_by (look s) call.deed r.value)) Stays) s + length s.opens + held_rows s ≤ rows_limit
    by_test true on = absurd (true≢false on)
    by_test false off = omega (arith, within)

named_refused : (s : Seen) (call : Call) (r : Reply) (stateid : StateRef) → closed_by (look s) call.deed r.value ≡ None → OwnersAreKnown s → rows_taken s ≤ rows_limit
    → owner_rows (noted (look s) call r (owner_named (look s) stateid)) s + length s.opens + held_rows s ≤ rows_limit
named_refused s call r stateid none known within =
    known_refused s call r (owner_named (look s) stateid) none (named_was_known s stateid call r known) within

open_refused : (s : Seen) (party : Party) (file : ℕ) (args : OpenArgs) (verdict : Verdict) (status : OpStatus) (r : Reply)
    → closed_by (look s) (deed.Open args) r.value ≡ None → r.status ≡ status → OwnersAreKnown s → rows_taken s ≤ rows_limit
    → first (checks s (Some party) file verdict (deed.Open args)) ≡ Some (Refuse status)
    → owner_rows (noted (look s) (record { caller = Some party; file = file; deed = deed.Open args }) r (Some (opener party args))) s + length s.opens + held_rows s ≤ rows_limit
open_refused s party file args verdict status r none its known within refused =
    by_owner (is_none (owner_at (opener party args) s.owners)) refl
  where
    call : Call
    call = record { caller = Some party; file = file; deed = deed.Open args }

    none_is : (o : Option OwnerRow) → is_none o ≡ true → o ≡ None
    none_is None h = refl
    none_is (Some x) h = absurd (false≢true h)

    by_owner : (b : Bool) → is_none (owner_at (opener party args) s.owners) ≡ b
        → owner_rows (noted (look s) call r (Some (opener party args))) s + length s.opens + held_rows s ≤ rows_limit
    by_owner false there = known_refused s call r (Some (opener party args)) none (was_known there) within
      where
        was_known : is_none (owner_at (opener party args) s.owners) ≡ false → WasKnown (noted (look s) call r (Some (opener party args))) s.owners
        was_known there = noted_known s call r (opener party args) there
    by_owner true unknown = by_status (advances r.status) refl
      where
        by_status : (b : Bool) → advances r.status ≡ b → owner_rows (noted (look s) call r (Some (opener party args))) s + length s.opens + held_rows s ≤ rows_limit
        by_status true moves =
            omega (
              arith,
              any_rows (noted (look s) call r (Some (opener party args))) s,
              noted_closes (look s) call r (Some (opener party args)),
              ap (λ (c : Option OpenRow). one_if (not (is_none c))) none,
              had_room s party file args verdict status refused (ap advances (sym its) ∙ moves) (none_is (owner_at (opener party args) s.owners) unknown),
            )
        by_status false stays = noted_stays s call r (opener party args) stays within

-- the rows after a refusal
refused_rows : (s : Seen) (caller : Option Party) (file : ℕ) (d : Deed) (verdict : Verdict) (status : OpStatus) (r : Reply)
    → closed_by (look s) d r.value ≡ None → r.status ≡ status → OwnersAreKnown s → rows_taken s ≤ rows_limit
    → first (checks s caller file verdict d) ≡ Some (Refuse status)
    → owner_rows (noted (look s) (record { caller = caller; file = file; deed = d }) r (seqid_owner (look s) caller d)) s + length s.opens + held_rows s ≤ rows_limit
unfolding seqid_owner noted owners_after closed_after
refused_rows s caller file (deed.Access _) verdict status r none its known within refused = omega (arith, within)
refused_rows s caller file (deed.Close args) verdict status r none its known within refused =
    named_refused s (record { caller = caller; file = file; deed = deed.Close args }) r args.stateid none known within
refused_rows s caller file (deed.Commit _) verdict status r none its known within refused = omega (arith, within)
refused_rows s caller file (deed.Create _) verdict status r none its known within refused = omega (arith, within)
refused_rows s caller file (deed.GetAttr _) verdict status r none its known within refused = omega (arith, within)
refused_rows s caller file (deed.Lock args) verdict status r none its known within refused =
    known_refused s (record { caller = caller; file = file; deed = deed.Lock args }) r (locker_owner (look s) args.locker) none
    (locker_was_known s args.locker (record { caller = caller; file = file; deed = deed.Lock args }) r known) within
refused_rows s caller file (deed.LockTest _) verdict status r none its known within refused = omega (arith, within)
refused_rows s caller file (deed.Lookup _) verdict status r none its known within refused = omega (arith, within)
refused_rows s caller file deed.LookupP verdict status r none its known within refused = omega (arith, within)
refused_rows s None file (deed.Open _) verdict status r none its known within refused = omega (arith, within)
refused_rows s (Some party) file (deed.Open args) verdict status r none its known within refused = open_refused s party file args verdict status r none its known within refused
refused_rows s caller file (deed.OpenConfirm args) verdict status r none its known within refused =
    named_refused s (record { caller = caller; file = file; deed = deed.OpenConfirm args }) r args.stateid none known within
refused_rows s caller file (deed.OpenDowngrade args) verdict status r none its known within refused =
    named_refused s (record { caller = caller; file = file; deed = deed.OpenDowngrade args }) r args.stateid none known within
refused_rows s caller file (deed.Read _) verdict status r none its known within refused = omega (arith, within)
refused_rows s caller file (deed.ReadDir _) verdict status r none its known within refused = omega (arith, within)
refused_rows s caller file (deed.ReleaseLockOwner _) verdict status r none its known within refused = omega (arith, within)
refused_rows s caller file (deed.Remove _) verdict status r none its known within refused = omega (arith, within)
refused_rows s caller file (deed.SetAttr _) verdict status r none its known within refused = omega (arith, within)
refused_rows s caller file (deed.Unlock args) verdict status r none its known within refused =
    known_refused s (record { caller = caller; file = file; deed = deed.Unlock args }) r (lock_owner_named (look s) args.stateid) none
    (lock_was_known s args.stateid (record { caller = caller; file = file; deed = deed.Unlock args }) r known) within
refused_rows s caller file (deed.Write _) verdict status r none its known within refused = omega (arith, within)

-- ---- what is carried out

-- an open that is there is changed in its place
length-changed : (change : OpenRow → OpenRow) → ((x : OpenRow) → (change x).counter ≡ x.counter) → (k : ℕ) (rows : List OpenRow)
    → length (opens_after (put_if (option_map change (open_at k rows))) rows) ≡ length rows
unfolding opens_after
length-changed change keeps k rows = by_row (open_at k rows) refl
  where
    by_row : (o : Option OpenRow) → open_at k rows ≡ o → length (opens_after (put_if (option_map change o)) rows) ≡ length rows
    by_row None none = refl
    by_row (Some x) found =
        length-put_open (change x) rows
        ∙ rw (keeps x, (open_at-in k rows x found).1, found) (omega arith)

open_closes_none : (n : Now) (args : OpenArgs) (value : ReplyValue) → closed_by n (deed.Open args) value ≡ None
unfolding closed_by
open_closes_none n args value = refl

confirm_closes_none : (n : Now) (args : OpenConfirmArgs) (value : ReplyValue) → one_if (not (is_none (closed_by n (deed.OpenConfirm args) value))) ≡ 0
unfolding closed_by
confirm_closes_none n args value = refl

downgrade_closes_none : (n : Now) (args : OpenDowngradeArgs) (value : ReplyValue) → one_if (not (is_none (closed_by n (deed.OpenDowngrade args) value))) ≡ 0
unfolding closed_by
downgrade_closes_none n args value = refl

-- what an operation on an open leaves of the rows, where it keeps the opens
kept_goes : (s : Seen) (call : Call) (r : Reply) (stateid : StateRef) (word : OpenWord) → OwnersAreKnown s → rows_taken s ≤ rows_limit
    → length (opens_after word s.opens) + one_if (not (is_none (closed_by (look s) call.deed r.value))) ≤ length s.opens
    → length (opens_after word s.opens) + owner_rows (noted (look s) call r (owner_named (look s) stateid)) s + held_rows s ≤ rows_limit
kept_goes s call r stateid word known within fewer =
    omega (arith, known_rows (noted (look s) call r (owner_named (look s) stateid)) s (named_was_known s stateid call r known), noted_closes (look s) call r (owner_named (look s) stateid), fewer, within)

close_fewer : (s : Seen) (args : CloseArgs) (o : Option OpenRow)
    → length (opens_after (close_words (told.Close (option_map (next_stateid s.fs) o))).opens s.opens)
    + one_if (not (is_none (closed_by (look s) (deed.Close args) (told.Close (option_map (next_stateid s.fs) o))))) ≤ length s.opens
unfolding opens_after closed_by look
close_fewer s args None = omega arith
close_fewer s args (Some row) = omega (arith, length-drop row.counter s.opens, closed_one (open_at row.counter s.opens))
  where
    closed_one : (o : Option OpenRow) → one_if (not (is_none (option_map renewed_row o))) ≡ one_if (not (is_none o))
    closed_one None = refl
    closed_one (Some x) = refl

confirm_same : (s : Seen) (o : Option OpenRow) → length (opens_after (confirm_words (look s) (told.OpenConfirm (option_map (next_stateid s.fs) o))).opens s.opens) ≡ length s.opens
unfolding look opens_after
confirm_same s None = refl
confirm_same s (Some row) = length-changed renewed_row (λ x. refl) row.counter s.opens

downgrade_same : (s : Seen) (args : OpenDowngradeArgs) (o : Option OpenRow)
    → length (opens_after (downgrade_words (look s) args (told.OpenDowngrade (option_map (next_stateid s.fs) o))).opens s.opens) ≡ length s.opens
unfolding look opens_after
downgrade_same s args None = refl
downgrade_same s args (Some row) = length-changed (narrowed_row args.access args.deny) (λ x. refl) row.counter s.opens

-- an OPEN that nothing stops leaves no more rows than there may be
open_room : (s : Seen) (party : Party) (file : ℕ) (args : OpenArgs) (verdict : Verdict) → first (open_checks s (Some party) file args verdict) ≡ None
    → rows_with_open s (opener party args) (file_to_open s file args) ≤ rows_limit
unfolding open_checks open_limit
open_room s party file args verdict goes =
    let free : IsFree (open_checks s (Some party) file args verdict) = all_free _ goes in
    let limits = or_none (tree_limit s (target s file args) args.opentype) _ free.limit in
    ltb-false rows_limit (rows_with_open s (opener party args) (file_to_open s file args)) (refuse_if-none _ Resource (or_none _ _ limits.1).1)
  where
    ltb-false : (m n : ℕ) → nat_lt m n ≡ false → n ≤ m
    ltb-false m n h = grind (arith, nat_tests)

-- ---- locks

length-put_lock : (row : LockRow) (rows : List LockRow) → length (put_lock row rows) ≡ length rows + one_if (is_none (lock_at row.counter rows))
unfolding lock_at
length-put_lock row [] = refl
length-put_lock row (x ∷ xs) = by_head (x.counter == row.counter) (length-put_lock row xs)
  where
    by_head : (b : Bool) → length (put_lock row xs) ≡ length xs + one_if (is_none (find (λ r. r.counter == row.counter) xs))
        → length (cond b (row ∷ xs) (x ∷ put_lock row xs)) ≡ length (x ∷ xs) + one_if (is_none (cond b (Some x) (find (λ r. r.counter == row.counter) xs)))
    by_head true later = omega arith
    by_head false later = omega (arith, later)

-- with an instance its ranges go
without_fewer : (party : Party) (locks : List LockRow) (ranges : List FileLocks) → ranges_taken (filter has_ranges (map (without party locks) ranges)) ≤ ranges_taken ranges
unfolding ranges_taken
without_fewer party locks [] = omega arith
without_fewer party locks (x ∷ xs) = by_head (has_ranges (without party locks x)) (without_fewer party locks xs)
  where
    rest : List FileLocks
    rest = filter has_ranges (map (without party locks) xs)

    fewer : length (without party locks x).ranges ≤ length x.ranges
    fewer = length-filter (λ (h : Held). not (is_held_by party locks h.owner)) x.ranges

    by_head : (b : Bool) → ranges_taken rest ≤ ranges_taken xs → ranges_taken (cond b (without party locks x ∷ rest) rest) ≤ length x.ranges + ranges_taken xs
    by_head true later = omega (arith, later, fewer)
    by_head false later = omega (arith, later)

-- the rows of locks after a word
abbrev held_after : LockWord → Seen → ℕ
held_after word s = length (locks_after word s.locks) + ranges_taken (ranges_after word s.locks s.ranges)

-- a word that takes and gives up no range adds none
abbrev AddsNone : LockWord → Type 0
AddsNone AsIs = Unit {0}
AddsNone (Claimed row kind from to) = ⊥
AddsNone (Cleared row from to) = ⊥
AddsNone (ClosedWith counter) = Unit {0}
AddsNone (Released owner) = Unit {0}
AddsNone (EndedOf party) = Unit {0}

held_fewer : (word : LockWord) (s : Seen) → AddsNone word → held_after word s ≤ held_rows s
unfolding locks_after ranges_after
held_fewer AsIs s adds = omega arith
held_fewer (Claimed row kind from to) s adds = absurd adds
held_fewer (Cleared row from to) s adds = absurd adds
held_fewer (ClosedWith counter) s adds = omega (arith, length-filter (λ (x : LockRow). not (x.opened == counter)) s.locks)
held_fewer (Released owner) s adds = omega (arith, length-filter (λ (x : LockRow). not (same_owner owner x.owner)) s.locks)
held_fewer (EndedOf party) s adds = omega (arith, length-filter (λ (x : LockRow). not (same_party party x.owner.instance)) s.locks, without_fewer party s.locks s.ranges)

-- nothing starts
abbrev StartsNone : OwnerWord → Type 0
StartsNone Stays = Unit {0}
StartsNone (Noted row closed) = ⊥
StartsNone (Gone owner) = Unit {0}
StartsNone (GoneOf party) = ⊥

-- the rows of owners and closed opens after both words
abbrev rows_by : OwnerWord → OwnerWord → Seen → ℕ
rows_by word start s = length (owners_after start (owners_after word s.owners)) + length (closed_after start (closed_after word s.closed))

starts_fewer : (word start : OwnerWord) (s : Seen) → StartsNone start → rows_by word start s ≤ owner_rows word s
unfolding owners_after closed_after
starts_fewer word Stays s none = omega arith
starts_fewer word (Noted row closed) s none = absurd none
starts_fewer word (Gone owner) s none =
    omega (arith, length-filter (λ (x : OwnerRow). not (same_owner owner x.owner)) (owners_after word s.owners), length-filter (λ (x : OpenRow). not (same_owner owner x.owner)) (closed_after word s.closed))
starts_fewer word (GoneOf party) s none = absurd none

-- a range is taken or given up by a stateid that is there
pub named_lock_at : (s : Seen) (stateid : StateRef) (row : LockRow) → lock_named s stateid ≡ Some row → (lock_at row.counter s.locks ≡ Some row) × (counter_of stateid ≡ row.counter)
unfolding lock_named counter_of
named_lock_at s Zeros row found = cc
named_lock_at s Ones row found = cc
named_lock_at s (Named id) row found = by_fs (id.fs == s.fs) found
  where
    by_fs : (b : Bool) → cond b (lock_at id.counter s.locks) None ≡ Some row → (lock_at row.counter s.locks ≡ Some row) × (id.counter ≡ row.counter)
    by_fs true here =
        let same : row.counter ≡ id.counter = lock_at-counter id.counter s.locks row here in
        (ap (λ k. lock_at k s.locks) same ∙ here, sym same)
    by_fs false elsewhere = cc

known_locks : (s : Seen) (row : LockRow) → lock_at row.counter s.locks ≡ Some row → length (put_lock (renewed_lock row) s.locks) ≡ length s.locks
known_locks s row found = length-put_lock (renewed_lock row) s.locks ∙ rw found (omega arith)

unlock_room : (s : Seen) (caller : Option Party) (file : ℕ) (args : UnlockArgs) (verdict : Verdict) → first (unlock_checks s caller file args verdict) ≡ None
    → rows_with_known s file (ranges_without s (counter_of args.stateid) file args.offset args.length) ≤ rows_limit
unfolding unlock_checks
unlock_room s caller file args verdict goes =
    let free : IsFree (unlock_checks s caller file args verdict) = all_free _ goes in
    ltb-false rows_limit _ (refuse_if-none _ Resource free.limit)

-- the file of a stateid that goes
stop_file : (its file : ℕ) (o : Option OpStatus) (status : OpStatus) → cond (its == file) o (Some status) ≡ None → its ≡ file
stop_file its file o status goes = by_test (its == file) refl goes
  where
    by_test : (b : Bool) → (its == file) ≡ b → cond b o (Some status) ≡ None → its ≡ file
    by_test true same goes = eqb-true its file same
    by_test false other goes = cc

pub live_lock_file : (s : Seen) (file : ℕ) (stateid : StateRef) (access : ℕ) (row : LockRow) → lock_live_stop s file stateid access (Some row) ≡ None → row.file ≡ file
unfolding lock_live_stop lock_stop
live_lock_file s file stateid access row goes = stop_file row.file file _ BadStateId goes

-- what an operation on lock stateids leaves of the owners' rows
lock_owner_rows : (s : Seen) (call : Call) (r : Reply) (stateid : StateRef) → closed_by (look s) call.deed r.value ≡ None → OwnersAreKnown s
    → owner_rows (noted (look s) call r (lock_owner_named (look s) stateid)) s ≤ length s.owners + length s.closed
lock_owner_rows s call r stateid none known =
    omega (
      arith,
      known_rows (noted (look s) call r (lock_owner_named (look s) stateid)) s (lock_was_known s stateid call r known),
      noted_closes (look s) call r (lock_owner_named (look s) stateid),
      ap (λ (c : Option OpenRow). one_if (not (is_none c))) none,
    )

-- LOCKU: the range is given up by its stateid, and no more rows are left than were counted
unlock_rows : (s : Seen) (caller : Option Party) (file : ℕ) (args : UnlockArgs) (verdict : Verdict) (call : Call) (r : Reply)
    → first (unlock_checks s caller file args verdict) ≡ None → closed_by (look s) call.deed r.value ≡ None → OwnersAreKnown s
    → (o : Option LockRow) → lock_named s args.stateid ≡ o → lock_live_stop s file args.stateid 0 o ≡ None
    → length s.opens + owner_rows (noted (look s) call r (lock_owner_named (look s) args.stateid)) s
    + held_after (unlock_words (look s) args (told.Unlock (option_map (next_lock_stateid s.fs) o))).locks s ≤ rows_limit
unfolding look locks_after ranges_after ranges_without lock_live_stop
unlock_rows s caller file args verdict call r goes none known None named live = cc
unlock_rows s caller file args verdict call r goes none known (Some row) named live =
    let at = named_lock_at s args.stateid row named in
    rw at.0 (omega (
      arith,
      lock_owner_rows s call r args.stateid none known,
      unlock_room s caller file args verdict goes,
      known_locks s row at.0,
      ap (λ k. ranges_taken (put_ranges file (cleared k args.offset (last_of args.offset args.length) (ranges_on file s.ranges)) s.ranges)) at.1,
      ap (λ f. ranges_taken (put_ranges f (cleared row.counter args.offset (last_of args.offset args.length) (ranges_on f s.ranges)) s.ranges)) (live_lock_file s file args.stateid 0 row live),
    ))

-- LOCK of a stateid that is there
known_rows_of : (s : Seen) (caller : Option Party) (file : ℕ) (args : LockArgs) (stateid : StateRef) (lock_seqid : ℕ) (verdict : Verdict) (call : Call) (r : Reply)
    → first (known_checks s caller file args stateid lock_seqid verdict) ≡ None → closed_by (look s) call.deed r.value ≡ None → OwnersAreKnown s
    → (o : Option LockRow) → lock_named s stateid ≡ o → lock_live_stop s file stateid (access_for (kind_of args.kind)) o ≡ None
    → length s.opens + owner_rows (noted (look s) call r (lock_owner_named (look s) stateid)) s
    + held_after (lock_words (look s) caller file (record args { locker = locker.Known stateid lock_seqid }) (told.Lock (option_map Locked (option_map (next_lock_stateid s.fs) o)))).locks s ≤ rows_limit
unfolding look locks_after ranges_after ranges_with lock_live_stop
known_rows_of s caller file args stateid lock_seqid verdict call r goes none known None named live = cc
known_rows_of s caller file args stateid lock_seqid verdict call r goes none known (Some row) named live =
    let at = named_lock_at s stateid row named in
    let free : IsFree (known_checks s caller file args stateid lock_seqid verdict) = all_free _ goes in
    rw at.0 (omega (
      arith,
      lock_owner_rows s call r stateid none known,
      ltb-false rows_limit (rows_with_known s file (ranges_with s (counter_of stateid) file args.kind args.offset args.length)) (refuse_if-none _ Resource free.limit),
      known_locks s row at.0,
      ap (λ k. ranges_taken (put_ranges file (set_to k (kind_of args.kind) args.offset (last_of args.offset args.length) (ranges_on file s.ranges)) s.ranges)) at.1,
      ap (λ f. ranges_taken (put_ranges f (set_to row.counter (kind_of args.kind) args.offset (last_of args.offset args.length) (ranges_on f s.ranges)) s.ranges))
          (live_lock_file s file stateid (access_for (kind_of args.kind)) row live),
    ))

-- LOCK of a new lock owner
owner_and : (row start : OwnerRow) (owners : List OwnerRow)
    → length (put_owner start (put_owner row owners)) ≤ length owners + one_if (is_none (owner_at row.owner owners)) + one_if (is_none (owner_at start.owner owners))
owner_and row start owners =
    omega (arith, length-put_owner start (put_owner row owners), length-put_owner row owners, fewer)
  where
    fewer : one_if (is_none (owner_at start.owner (put_owner row owners))) ≤ one_if (is_none (owner_at start.owner owners))
    fewer = rw (owner_at-put row owners start.owner) (by_test (same_owner start.owner row.owner))
      where
        by_test : (b : Bool) → one_if (is_none (cond b (Some row) (owner_at start.owner owners))) ≤ one_if (is_none (owner_at start.owner owners))
        by_test true = omega arith
        by_test false = omega arith

closed_and : (owner its : Owner) (closed : List OpenRow)
    → length (filter (λ x. not (same_owner its x.owner)) (filter (λ x. not (same_owner owner x.owner)) closed ++ []) ++ []) ≤ length (filter (λ x. not (same_owner owner x.owner)) closed)
closed_and owner its closed =
    omega (
      arith,
      length-listed (filter (λ x. not (same_owner its x.owner)) (filter (λ x. not (same_owner owner x.owner)) closed ++ [])) None,
      length-filter (λ (x : OpenRow). not (same_owner its x.owner)) (filter (λ x. not (same_owner owner x.owner)) closed ++ []),
      length-listed (filter (λ x. not (same_owner owner x.owner)) closed) None,
    )

new_rows : (s : Seen) (party : Party) (file : ℕ) (args : LockArgs) (open_seqid : ℕ) (stateid : StateRef) (lock_seqid : ℕ) (text : List ℕ) (verdict : Verdict) (call starting : Call) (r : Reply)
    → first (new_checks s party file args open_seqid stateid lock_seqid text verdict) ≡ None → r.status ≡ Nfs4Ok → closed_by (look s) call.deed r.value ≡ None → OwnersAreKnown s
    → (o : Option OpenRow) → open_named s stateid ≡ o → live_stop s file stateid (access_for (kind_of args.kind)) o ≡ None
    → length s.opens
    + rows_by (noted (look s) call r (owner_named (look s) stateid))
    (Noted (noted_row ((look s).owner_by (lock_owner party text)) (lock_owner party text) lock_seqid starting r) None) s
    + held_after (Claimed (new_lock (s.last + 1) (lock_owner party text) (counter_of stateid) file) (kind_of args.kind) args.offset (last_of args.offset args.length)) s ≤ rows_limit
unfolding owners_after closed_after locks_after ranges_after ranges_with live_stop new_limit
new_rows s party file args open_seqid stateid lock_seqid text verdict call starting r goes done none known None named live = cc
new_rows s party file args open_seqid stateid lock_seqid text verdict call starting r goes done none known (Some row) named live =
    let free : IsFree (new_checks s party file args open_seqid stateid lock_seqid text verdict) = all_free _ goes in
    let its : named_by (look s) stateid ≡ Some row = live_named s stateid row named in
    let noting : noted (look s) call r (owner_named (look s) stateid) ≡ Noted (noted_row ((look s).owner_by row.owner) row.owner (seqid_of call.deed) call r) None =
    ap (λ o. noted (look s) call r (option_map (λ (x : OpenRow). x.owner) o)) its ∙ noted_done (look s) call r row.owner done
    ∙ ap (λ c. Noted (noted_row ((look s).owner_by row.owner) row.owner (seqid_of call.deed) call r) c) none in
    let room : rows_with_new s (open_named s stateid) (lock_owner party text) file args ≤ rows_limit =
    ltb-false rows_limit _ (refuse_if-none _ Resource (or_none _ _ free.limit).1) in
    let counted : rows_with_new s (Some row) (lock_owner party text) file args ≤ rows_limit =
    subst (λ o. rows_with_new s o (lock_owner party text) file args ≤ rows_limit) named room in
    rw noting (omega (
      arith,
      counted,
      owner_and (noted_row ((look s).owner_by row.owner) row.owner (seqid_of call.deed) call r)
          (noted_row ((look s).owner_by (lock_owner party text)) (lock_owner party text) lock_seqid starting r) s.owners,
      closed_and row.owner (lock_owner party text) s.closed,
      ap one_if (named_known s stateid row known its),
      length-put_lock (new_lock (s.last + 1) (lock_owner party text) (counter_of stateid) file) s.locks,
      one_if-le (is_none (lock_at (s.last + 1) s.locks)),
    ))

-- ---- all operations

-- the rows after the words of a call
abbrev rows_of : Words → OwnerWord → OwnerWord → Seen → ℕ
rows_of w word start s = length (opens_after w.opens s.opens) + rows_by word start s + held_after w.locks s

plain_rows : (w : Words) (word start : OwnerWord) (s : Seen) → AddsNone w.locks → StartsNone start
    → length (opens_after w.opens s.opens) + owner_rows word s + held_rows s ≤ rows_limit → rows_of w word start s ≤ rows_limit
plain_rows w word start s adds starts bound = omega (arith, held_fewer w.locks s adds, starts_fewer word start s starts, bound)

locked_rows : (s : Seen) (caller : Option Party) (file : ℕ) (args : LockArgs) (verdict : Verdict) (its : Locker) (call : Call) (r : Reply)
    → first (lock_checks s caller file args its verdict) ≡ None → r.status ≡ Nfs4Ok → closed_by (look s) call.deed r.value ≡ None → OwnersAreKnown s
    → rows_of (lock_words (look s) caller file (record args { locker = its }) (told.Lock (lock_value s (record args { locker = its }))))
    (noted (look s) call r (locker_owner (look s) its)) (lock_starts (look s) (record call { caller = caller }) r its (told.Lock (lock_value s (record args { locker = its })))) s ≤ rows_limit
unfolding lock_checks locked_stateid changed_lock opens_after
locked_rows s None file args verdict (locker.New open_seqid stateid lock_seqid text) call r goes done none known = cc
locked_rows s (Some party) file args verdict (locker.New open_seqid stateid lock_seqid text) call r goes done none known =
    let free : IsFree (new_checks s party file args open_seqid stateid lock_seqid text verdict) = all_free _ goes in
    new_rows s party file args open_seqid stateid lock_seqid text verdict call (record call { caller = Some party }) r goes done none known (open_named s stateid) refl free.stale
locked_rows s caller file args verdict (locker.Known stateid lock_seqid) call r goes done none known = by_row (lock_named s stateid) refl free.stale
  where
    free : IsFree (known_checks s caller file args stateid lock_seqid verdict)
    free = all_free _ goes

    starts_none : (o : Option StateId) → StartsNone (lock_starts (look s) (record call { caller = caller }) r (locker.Known stateid lock_seqid) (told.Lock (option_map Locked o)))
    starts_none None = tt
    starts_none (Some id) = by_caller caller
      where
        by_caller : (c : Option Party) → StartsNone (started (look s) (record call { caller = caller }) r c (locker.Known stateid lock_seqid))
        by_caller None = tt
        by_caller (Some party) = tt

    by_row : (o : Option LockRow) → lock_named s stateid ≡ o → lock_live_stop s file stateid (access_for (kind_of args.kind)) o ≡ None
        → rows_of (lock_words (look s) caller file (record args { locker = locker.Known stateid lock_seqid }) (told.Lock (option_map Locked (option_map (next_lock_stateid s.fs) o))))
        (noted (look s) call r (lock_owner_named (look s) stateid))
        (lock_starts (look s) (record call { caller = caller }) r (locker.Known stateid lock_seqid) (told.Lock (option_map Locked (option_map (next_lock_stateid s.fs) o)))) s ≤ rows_limit
    by_row o named live =
        let w : Words = lock_words (look s) caller file (record args { locker = locker.Known stateid lock_seqid }) (told.Lock (option_map Locked (option_map (next_lock_stateid s.fs) o))) in
        omega (
          arith,
          known_rows_of s caller file args stateid lock_seqid verdict call r goes none known o named live,
          starts_fewer (noted (look s) call r (lock_owner_named (look s) stateid))
              (lock_starts (look s) (record call { caller = caller }) r (locker.Known stateid lock_seqid) (told.Lock (option_map Locked (option_map (next_lock_stateid s.fs) o)))) s
              (starts_none (option_map (next_lock_stateid s.fs) o)),
          ap (λ word. length (opens_after word s.opens)) (lock_keeps (look s) caller file (record args { locker = locker.Known stateid lock_seqid }) (option_map Locked (option_map (next_lock_stateid s.fs) o))).opens,
        )

lock_closes_none : (n : Now) (args : LockArgs) (value : ReplyValue) → closed_by n (deed.Lock args) value ≡ None
unfolding closed_by
lock_closes_none n args value = refl

unlock_closes_none : (n : Now) (args : UnlockArgs) (value : ReplyValue) → closed_by n (deed.Unlock args) value ≡ None
unfolding closed_by
unlock_closes_none n args value = refl

pub unlock_stale : (s : Seen) (caller : Option Party) (file : ℕ) (args : UnlockArgs) (verdict : Verdict) → IsFree (unlock_checks s caller file args verdict)
    → lock_live_stop s file args.stateid 0 (lock_named s args.stateid) ≡ None
unfolding unlock_checks
unlock_stale s caller file args verdict free = free.stale

-- an OPEN leaves the rows that its class counts
open_goes_rows : (s : Seen) (party : Party) (file : ℕ) (args : OpenArgs) (verdict : Verdict) → IsSound s
    → first (open_checks s (Some party) file args verdict) ≡ None → (call : Call) (r : Reply) → r.status ≡ Nfs4Ok → closed_by (look s) call.deed r.value ≡ None
    → length (opens_after (open_words (look s) (Some party) file args (told.Open (open_value s (Some party) file args))).opens s.opens)
    + owner_rows (noted (look s) call r (Some (opener party args))) s + held_rows s ≤ rows_limit
unfolding open_value look opens_after row_to_open owners_after closed_after
open_goes_rows s party file args verdict sound goes call r done none =
    rw (noted_done (look s) call r owner done, none)
    (omega (
      arith,
      opens_rows,
      length-put_owner (noted_row (owner_at owner s.owners) owner (seqid_of call.deed) call r) s.owners,
      length-listed (filter (λ x. not (same_owner owner x.owner)) s.closed) None,
      open_room s party file args verdict goes,
    ))
  where
    owner : Owner
    owner = opener party args

    its_file : ℕ
    its_file = file_to_open s file args

    row : OpenRow
    row = opened_row (open_of owner its_file s.opens) (s.last + 1) its_file owner args.access args.deny

    opens_rows : length (put_open (put_row s.opens row.counter owner its_file args.access args.deny) s.opens) ≡ length s.opens + one_if (is_none (open_of owner its_file s.opens))
    opens_rows =
        ap (λ (x : OpenRow). length (put_open x s.opens)) (same_row s.last s.opens owner its_file args.access args.deny sound.rising (open_of owner its_file s.opens) refl)
        ∙ length-put_open row s.opens
        ∙ ap (λ b. length s.opens + one_if b) (drew_new s.last s.opens owner its_file args.access args.deny sound.rising (open_of owner its_file s.opens) refl)

-- the words of a call that nothing stops
goes_rows : (s : Seen) (caller : Option Party) (file : ℕ) (d : Deed) (verdict : Verdict) (r : Reply) → IsSound s → OwnersAreKnown s → rows_taken s ≤ rows_limit
    → first (checks s caller file verdict d) ≡ None → r ≡ reply_with Nfs4Ok (ok_value s caller file d)
    → rows_of (deed_words (look s) caller file d (ok_value s caller file d)) (noted (look s) (record { caller = caller; file = file; deed = d }) r (seqid_owner (look s) caller d))
    (started_by (look s) (record { caller = caller; file = file; deed = d }) r d (ok_value s caller file d)) s ≤ rows_limit
unfolding seqid_owner noted owners_after closed_after opens_after create_value write_value changed_stateid changed_lock started_by locks_after ranges_after
goes_rows s caller file (deed.Access _) verdict r sound known within goes its = omega (arith, within)
goes_rows s caller file (deed.Close args) verdict r sound known within goes its =
    rw its (plain_rows (close_words (told.Close (option_map (next_stateid s.fs) (open_named s args.stateid)))) _ Stays s (adds_none (option_map (next_stateid s.fs) (open_named s args.stateid))) tt
    (kept_goes s (record { caller = caller; file = file; deed = deed.Close args }) (reply_with Nfs4Ok (told.Close (option_map (next_stateid s.fs) (open_named s args.stateid)))) args.stateid
    (close_words (told.Close (option_map (next_stateid s.fs) (open_named s args.stateid)))).opens known within (close_fewer s args (open_named s args.stateid))))
  where
    adds_none : (o : Option StateId) → AddsNone (close_words (told.Close o)).locks
    adds_none None = tt
    adds_none (Some id) = tt
goes_rows s caller file (deed.Commit _) verdict r sound known within goes its = omega (arith, within)
goes_rows s caller file (deed.Create _) verdict r sound known within goes its = omega (arith, within)
goes_rows s caller file (deed.GetAttr _) verdict r sound known within goes its = omega (arith, within)
goes_rows s caller file (deed.Lock args) verdict r sound known within goes its =
    locked_rows s caller file args verdict args.locker (record { caller = caller; file = file; deed = deed.Lock args }) r goes (ap (λ (x : Reply). x.status) its)
    (lock_closes_none (look s) args r.value) known
goes_rows s caller file (deed.LockTest _) verdict r sound known within goes its = omega (arith, within)
goes_rows s caller file (deed.Lookup _) verdict r sound known within goes its = omega (arith, within)
goes_rows s caller file deed.LookupP verdict r sound known within goes its = omega (arith, within)
goes_rows s None file (deed.Open _) verdict r sound known within goes its = omega (arith, within)
goes_rows s (Some party) file (deed.Open args) verdict r sound known within goes its =
    rw its (plain_rows (open_words (look s) (Some party) file args (told.Open (open_value s (Some party) file args))) _ Stays s (adds_none (open_value s (Some party) file args)) tt
    (open_goes_rows s party file args verdict sound goes (record { caller = Some party; file = file; deed = deed.Open args }) (reply_with Nfs4Ok (told.Open (open_value s (Some party) file args))) refl
    (open_closes_none (look s) args (told.Open (open_value s (Some party) file args)))))
  where
    adds_none : (o : Option Opened) → AddsNone (open_words (look s) (Some party) file args (told.Open o)).locks
    adds_none None = tt
    adds_none (Some opened) = tt
goes_rows s caller file (deed.OpenConfirm args) verdict r sound known within goes its =
    rw its (plain_rows (confirm_words (look s) (told.OpenConfirm (option_map (next_stateid s.fs) (open_named s args.stateid)))) _ Stays s (adds_none (option_map (next_stateid s.fs) (open_named s args.stateid))) tt
    (kept_goes s (record { caller = caller; file = file; deed = deed.OpenConfirm args }) (reply_with Nfs4Ok (told.OpenConfirm (option_map (next_stateid s.fs) (open_named s args.stateid)))) args.stateid
    (confirm_words (look s) (told.OpenConfirm (option_map (next_stateid s.fs) (open_named s args.stateid)))).opens known within
    (omega (arith, confirm_same s (open_named s args.stateid), confirm_closes_none (look s) args (told.OpenConfirm (option_map (next_stateid s.fs) (open_named s args.stateid)))))))
  where
    adds_none : (o : Option StateId) → AddsNone (confirm_words (look s) (told.OpenConfirm o)).locks
    adds_none None = tt
    adds_none (Some id) = tt
goes_rows s caller file (deed.OpenDowngrade args) verdict r sound known within goes its =
    rw its (plain_rows (downgrade_words (look s) args (told.OpenDowngrade (option_map (next_stateid s.fs) (open_named s args.stateid)))) _ Stays s (adds_none (option_map (next_stateid s.fs) (open_named s args.stateid))) tt
    (kept_goes s (record { caller = caller; file = file; deed = deed.OpenDowngrade args }) (reply_with Nfs4Ok (told.OpenDowngrade (option_map (next_stateid s.fs) (open_named s args.stateid)))) args.stateid
    (downgrade_words (look s) args (told.OpenDowngrade (option_map (next_stateid s.fs) (open_named s args.stateid)))).opens known within
    (omega (arith, downgrade_same s args (open_named s args.stateid), downgrade_closes_none (look s) args (told.OpenDowngrade (option_map (next_stateid s.fs) (open_named s args.stateid)))))))
  where
    adds_none : (o : Option StateId) → AddsNone (downgrade_words (look s) args (told.OpenDowngrade o)).locks
    adds_none None = tt
    adds_none (Some id) = tt
goes_rows s caller file (deed.Read _) verdict r sound known within goes its = omega (arith, within)
goes_rows s caller file (deed.ReadDir _) verdict r sound known within goes its = omega (arith, within)
goes_rows s None file (deed.ReleaseLockOwner args) verdict r sound known within goes its = omega (arith, within)
goes_rows s (Some party) file (deed.ReleaseLockOwner args) verdict r sound known within goes its =
    omega (
      arith,
      within,
      length-filter (λ (x : OwnerRow). not (same_owner (lock_owner party args.owner) x.owner)) s.owners,
      length-filter (λ (x : OpenRow). not (same_owner (lock_owner party args.owner) x.owner)) s.closed,
      length-filter (λ (x : LockRow). not (same_owner (lock_owner party args.owner) x.owner)) s.locks,
    )
goes_rows s caller file (deed.Remove _) verdict r sound known within goes its = omega (arith, within)
goes_rows s caller file (deed.SetAttr _) verdict r sound known within goes its = omega (arith, within)
goes_rows s caller file (deed.Unlock args) verdict r sound known within goes its =
    let free : IsFree (unlock_checks s caller file args verdict) = all_free _ goes in
    omega (
      arith,
      unlock_rows s caller file args verdict (record { caller = caller; file = file; deed = deed.Unlock args }) r goes (unlock_closes_none (look s) args r.value) known
          (lock_named s args.stateid) refl (unlock_stale s caller file args verdict free),
      ap (λ word. length (opens_after word s.opens)) (unlock_keeps (look s) args (option_map (next_lock_stateid s.fs) (lock_named s args.stateid))).opens,
    )
goes_rows s caller file (deed.Write _) verdict r sound known within goes its = omega (arith, within)

rows-event : (s : Seen) (event : Event) → IsSound s → OwnersAreKnown s → rows_taken s ≤ rows_limit → rows_taken (after s event (answer_to s event)) ≤ rows_limit
unfolding answer_to words after_words opens_after owners_after closed_after locks_after ranges_after
rows-event s (Ended party) sound known within =
    omega (
      arith,
      length-filter (λ (x : OwnerRow). not (same_party party x.owner.instance)) s.owners,
      length-filter (λ (x : OpenRow). not (same_party party x.owner.instance)) s.opens,
      length-filter (λ (x : OpenRow). not (same_party party x.owner.instance)) s.closed,
      length-filter (λ (x : LockRow). not (same_party party x.owner.instance)) s.locks,
      without_fewer party s.locks s.ranges,
      within,
    )
rows-event s (Asked call verdict) sound known within = by_stop (first (checks s call.caller call.file verdict call.deed)) refl
  where
    by_fresh : (status : OpStatus) → first (checks s call.caller call.file verdict call.deed) ≡ Some (Refuse status) → (b : Bool)
        → rows_taken (after_words s (with_owners no_words (cond b (noted (look s) call (reply_by s call (Some (Refuse status))) (seqid_owner (look s) call.caller call.deed)) Stays) Stays)) ≤ rows_limit
    by_fresh status refused true =
        omega (
          arith,
          refused_rows s call.caller call.file call.deed verdict status (reply_by s call (Some (Refuse status)))
              (refusal_closes s call.caller call.file call.deed status) refl known within refused,
        )
    by_fresh status refused false = within

    by_stop : (x : Option Stop) → first (checks s call.caller call.file verdict call.deed) ≡ x → rows_taken (after s (Asked call verdict) (reply_by s call x)) ≤ rows_limit
    by_stop (Some (Refuse status)) refused = subst (λ w. rows_taken (after_words s w) ≤ rows_limit) (sym (words-refused s call verdict status))
        (by_fresh status refused (is_fresh (judgement (look s) call)))
    by_stop (Some (Repeat kept)) repeats = subst (λ w. rows_taken (after_words s w) ≤ rows_limit) (sym (words-old (look s) call verdict kept (repeat_is_old s call verdict kept repeats))) within
    by_stop None goes = subst (λ w. rows_taken (after_words s w) ≤ rows_limit) (sym (words-free s call verdict goes))
        (omega (arith, goes_rows s call.caller call.file call.deed verdict (reply_by s call None) sound known within goes refl))

pub rows-seen : (fs : ℕ) (grants : Bool) (es : Past) → IsLegal fs grants es → rows_taken (seen fs grants es) ≤ rows_limit
unfolding seen ranges_taken
rows-seen fs grants [] legal = omega arith
rows-seen fs grants (x ∷ earlier) legal =
    rw legal.0 (rows-event (seen fs grants earlier) x.event (sound-seen fs grants earlier legal.1) (known-seen fs grants earlier legal.1) (rows-seen fs grants earlier legal.1))
