-- The table of lock stateids has the stateid of each lock owner as the entries tell it.
use Rattle.std.proofs.Common.{◌≡◌, ℕ, ◌+◌, Bool, true, false, cond, List, [], ◌∷◌, Option, Some, None, refl, ap, sym, ◌∙◌, arith, eqb-true}
use Rattle.std.proofs.lemmas.Bool.{both_ways}
use Rattle.std.specs.Prelude.{not, ◌==◌, ◌&&◌, filter, find, option_map}
use Rattle.nm_types.specs.Owners.{same_owner}
use Rattle.nm_types.specs.Parties.{same_party}
use Rattle.nm_rules.specs.Answer.{answer_to, IsLegal}
use Rattle.nm_rules.specs.LockRows.{lock_at, lock_of, is_lock_of, put_lock, locks_after, new_lock, renewed_lock, locks_rise, all_differ}
use Rattle.nm_rules.specs.LockRows.{LockWord}
use Rattle.nm_rules.specs.Past.{Past, Words, now, words}
use Rattle.nm_rules.specs.Seen.{Seen, seen, look, after, after_words}
use Rattle.nm_rules.specs.StateidReadings.{stateids_made}
use Rattle.nm_types.specs.declared.calls.Owner.{Owner}
use Rattle.nm_types.specs.declared.rows.LockRow.{LockRow}
use Rattle.nm_rules.proofs.LegalLocks.{stand-seen}
use Rattle.nm_rules.proofs.LockRowLaws.{same_number, some_is, lock_parts, lock_is, lock_at-counter, lock_of-put, lock_of-filter, kept_by, fits-new, fits-known, found_of, found_by}
use Rattle.nm_rules.proofs.OwnerLemmas.{same_owner-sym}
use Rattle.nm_rules.proofs.StateidLaws.{last-seen}
use Rattle.nm_laws.specs.StateidNow.{StateidWord, event_word, seqid_after, relocked, closed_with, lock_after, lock_now}
use Rattle.nm_laws.specs.StateidNow.StateidWord.{Nothing, OpenedFor, RenewedAt, ClosedAt, LockedFor, RelockedAt, ReleasedFor, EndedFor}
use Rattle.nm_laws.specs.StateidRows.{lock_stateid, lock_in, lock_row_of}
use Rattle.nm_laws.proofs.OpenStateids.{leaves_of}
use Rattle.nm_laws.proofs.StateidTurns.{Leaves}

-- rows of lock owners that rise, each for an owner and a file of its own
pub record LocksApart (last : ℕ) (rows : List LockRow) : Type 0 where
  pub rising : locks_rise 0 last rows ≡ true
  pub owners : all_differ rows ≡ true

-- ---- the one of an owner on a file

-- a put of the row that is there changes nothing
put_same : (row : LockRow) (rows : List LockRow) → lock_at row.counter rows ≡ Some row → put_lock row rows ≡ rows
unfolding lock_at
put_same row [] at = cc
put_same row (x ∷ xs) at = by_test (x.counter == row.counter) at (put_same row xs)
  where
    by_test : (b : Bool) → cond b (Some x) (find (λ y. y.counter == row.counter) xs) ≡ Some row
        → (find (λ y. y.counter == row.counter) xs ≡ Some row → put_lock row xs ≡ xs) → cond b (row ∷ xs) (x ∷ put_lock row xs) ≡ x ∷ xs
    by_test true here later = ap (λ y. y ∷ xs) (sym (some_is here))
    by_test false there later = ap (λ ys. x ∷ ys) (later there)

-- the row with its counter, which is of this owner on this file, is the owner's
lock_owned : (last : ℕ) (rows : List LockRow) (owner : Owner) (file : ℕ) (row : LockRow) → LocksApart last rows
    → lock_at row.counter rows ≡ Some row → is_lock_of owner file row ≡ true → lock_of owner file rows ≡ Some row
lock_owned last rows owner file row stand at its =
    ap (lock_of owner file) (sym (put_same row rows at))
    ∙ lock_of-put row rows owner file (fits-known 0 last rows row row stand.rising stand.owners at (lock_is row.owner row.file row refl refl))
    ∙ ap (λ b. cond b (Some row) (lock_of owner file rows)) its

-- ---- what an event leaves of it

lock-locked : (last : ℕ) (rows : List LockRow) (its : Owner) (its_file opened : ℕ) (owner : Owner) (file : ℕ) → LocksApart last rows → lock_of its its_file rows ≡ None
    → lock_in owner file (put_lock (new_lock (last + 1) its opened its_file) rows)
    ≡ lock_after (last + 1) (LockedFor its its_file opened) owner file (lock_in owner file rows)
unfolding lock_in lock_after
lock-locked last rows its its_file opened owner file stand fresh =
    ap (option_map lock_stateid)
    (lock_of-put (new_lock (last + 1) its opened its_file) rows owner file
    (fits-new 0 last rows (new_lock (last + 1) its opened its_file) stand.rising (omega arith) fresh))
    ∙ by_test ((its_file == file) && same_owner owner its)
  where
    by_test : (b : Bool)
        → option_map lock_stateid (cond b (Some (new_lock (last + 1) its opened its_file)) (lock_of owner file rows))
        ≡ cond b (Some (record { counter = last + 1; seqid = 1; opened = opened })) (option_map lock_stateid (lock_of owner file rows))
    by_test true = refl
    by_test false = refl

lock-relocked : (last : ℕ) (rows : List LockRow) (k : ℕ) (old : LockRow) (owner : Owner) (file : ℕ) → LocksApart last rows → lock_at k rows ≡ Some old
    → lock_in owner file (put_lock (renewed_lock old) rows) ≡ relocked k (lock_in owner file rows)
unfolding lock_in seqid_after
lock-relocked last rows k old owner file stand live =
    ap (option_map lock_stateid)
    (lock_of-put (renewed_lock old) rows owner file
    (fits-known 0 last rows (renewed_lock old) old stand.rising stand.owners live_too (lock_is old.owner old.file old refl refl)))
    ∙ by_test (is_lock_of owner file old) refl (lock_of owner file rows) refl
  where
    at_k : old.counter ≡ k
    at_k = lock_at-counter k rows old live

    live_too : lock_at old.counter rows ≡ Some old
    live_too = ap (λ n. lock_at n rows) at_k ∙ live

    raised : Some (lock_stateid (renewed_lock old)) ≡ relocked k (Some (lock_stateid old))
    raised = rw (same_number old.counter k at_k) refl

    stays : (x : LockRow) → is_lock_of owner file old ≡ false → lock_of owner file rows ≡ Some x → (b : Bool) → (x.counter == k) ≡ b
        → Some (lock_stateid x) ≡ cond b (Some (record { counter = x.counter; seqid = seqid_after x.seqid; opened = x.opened })) (Some (lock_stateid x))
    stays x other found true same =
        let one : x ≡ old = some_is (sym (found_by owner file last rows x stand.rising found) ∙ ap (λ n. lock_at n rows) (eqb-true x.counter k same) ∙ live) in
        absurd (both_ways (is_lock_of owner file old) other (ap (is_lock_of owner file) (sym one) ∙ found_of owner file 0 last rows x stand.rising found))
    stays x other found false differ = refl

    by_test : (b : Bool) → is_lock_of owner file old ≡ b → (o : Option LockRow) → lock_of owner file rows ≡ o
        → option_map lock_stateid (cond b (Some (renewed_lock old)) o) ≡ relocked k (option_map lock_stateid o)
    by_test true its o found =
        let one : Some old ≡ o = sym (lock_owned last rows owner file old stand live_too its) ∙ found in
        raised ∙ ap (λ p. relocked k (option_map lock_stateid p)) one
    by_test false other None none = refl
    by_test false other (Some x) found = stays x other found (x.counter == k) refl

lock-closed : (last : ℕ) (rows : List LockRow) (k : ℕ) (owner : Owner) (file : ℕ) → LocksApart last rows
    → lock_in owner file (filter (λ x. not (x.opened == k)) rows) ≡ closed_with k (lock_in owner file rows)
unfolding lock_in
lock-closed last rows k owner file stand =
    ap (option_map lock_stateid) (lock_of-filter (λ x. not (x.opened == k)) owner file rows stand.owners) ∙ by_lock (lock_of owner file rows)
  where
    by_test : (x : LockRow) (b : Bool) → option_map lock_stateid (cond (not b) (Some x) None) ≡ cond b None (Some (lock_stateid x))
    by_test x true = refl
    by_test x false = refl

    by_lock : (o : Option LockRow) → option_map lock_stateid (kept_by (λ x. not (x.opened == k)) o) ≡ closed_with k (option_map lock_stateid o)
    by_lock None = refl
    by_lock (Some x) = by_test x (x.opened == k)

-- what goes by its owner
lock-gone : (last : ℕ) (rows : List LockRow) (gone : Owner → Bool) (owner : Owner) (file : ℕ) → LocksApart last rows
    → lock_in owner file (filter (λ x. not (gone x.owner)) rows) ≡ cond (gone owner) None (lock_in owner file rows)
unfolding lock_in
lock-gone last rows gone owner file stand =
    ap (option_map lock_stateid) (lock_of-filter (λ x. not (gone x.owner)) owner file rows stand.owners) ∙ by_lock (lock_of owner file rows) refl
  where
    either_none : (b : Bool) → None ≡ cond b None (option_map lock_stateid None)
    either_none true = refl
    either_none false = refl

    by_test : (x : LockRow) (b : Bool) → option_map lock_stateid (cond (not b) (Some x) None) ≡ cond b None (Some (lock_stateid x))
    by_test x true = refl
    by_test x false = refl

    by_lock : (o : Option LockRow) → lock_of owner file rows ≡ o
        → option_map lock_stateid (kept_by (λ x. not (gone x.owner)) o) ≡ cond (gone owner) None (option_map lock_stateid o)
    by_lock None none = either_none (gone owner)
    by_lock (Some x) found =
        by_test x (gone x.owner)
        ∙ ap (λ o. cond (gone o) None (Some (lock_stateid x))) (sym (lock_parts owner file x (found_of owner file 0 last rows x stand.rising found)).1)

-- ---- each word

at_locks : (s : Seen) (owner : Owner) (file : ℕ) (w v : LockWord) → w ≡ v → lock_in owner file (locks_after w s.locks) ≡ lock_in owner file (locks_after v s.locks)
at_locks s owner file w v e = ap (λ x. lock_in owner file (locks_after x s.locks)) e

lock_stateid_after : (s : Seen) (word : StateidWord) (w : Words) (owner : Owner) (file : ℕ) → Leaves s word w → LocksApart s.last s.locks
    → lock_in owner file (locks_after w.locks s.locks) ≡ lock_after (s.last + 1) word owner file (lock_in owner file s.locks)
unfolding locks_after lock_after
lock_stateid_after s Nothing w owner file leaves stand = at_locks s owner file _ _ leaves.1
lock_stateid_after s (OpenedFor its its_file) w owner file leaves stand = at_locks s owner file _ _ leaves.rest
lock_stateid_after s (RenewedAt k) w owner file leaves stand = at_locks s owner file _ _ leaves.rest
lock_stateid_after s (ClosedAt k) w owner file leaves stand = at_locks s owner file _ _ leaves.1 ∙ lock-closed s.last s.locks k owner file stand
lock_stateid_after s (LockedFor its its_file counter) w owner file leaves stand =
    ap (lock_in owner file) leaves.puts ∙ lock-locked s.last s.locks its its_file counter owner file stand leaves.fresh
lock_stateid_after s (RelockedAt k) w owner file leaves stand =
    ap (lock_in owner file) leaves.puts ∙ lock-relocked s.last s.locks k leaves.old owner file stand leaves.live
lock_stateid_after s (ReleasedFor its) w owner file leaves stand =
    at_locks s owner file _ _ leaves.2
    ∙ lock-gone s.last s.locks (same_owner its) owner file stand
    ∙ ap (λ b. cond b None (lock_in owner file s.locks)) (same_owner-sym its owner)
lock_stateid_after s (EndedFor party) w owner file leaves stand =
    at_locks s owner file _ _ leaves.1 ∙ lock-gone s.last s.locks (λ o. same_party party o.instance) owner file stand

-- those of every legal list are apart
pub locks_apart : (fs : ℕ) (grants : Bool) (es : Past) → IsLegal fs grants es → LocksApart (seen fs grants es).last (seen fs grants es).locks
locks_apart fs grants es legal =
    let stand = stand-seen fs grants es legal in
    record { rising = stand.rising; owners = stand.owners }

-- The table of lock stateids has those that the entries tell.
pub locks_told : (fs : ℕ) (grants : Bool) (es : Past) (owner : Owner) (file : ℕ) → IsLegal fs grants es
    → lock_in owner file (seen fs grants es).locks ≡ lock_now es owner file
unfolding seen lock_now after_words lock_in lock_of
locks_told fs grants [] owner file legal = refl
locks_told fs grants (x ∷ earlier) owner file legal =
    let s : Seen = seen fs grants earlier in
    let r = answer_to s x.event in
    ap (λ y. lock_in owner file (after s x.event y).locks) legal.0
    ∙ lock_stateid_after s (event_word (now earlier) x.event r) (words (look s) x.event r) owner file
    (leaves_of fs grants earlier x.event legal.1) (locks_apart fs grants earlier legal.1)
    ∙ ap (λ y. lock_after (s.last + 1) (event_word (now earlier) x.event y) owner file (lock_in owner file s.locks)) (sym legal.0)
    ∙ ap (λ n. lock_after (n + 1) (event_word (now earlier) x.event x.reply) owner file (lock_in owner file s.locks)) (last-seen fs grants earlier legal.1)
    ∙ ap (lock_after (stateids_made earlier + 1) (event_word (now earlier) x.event x.reply) owner file) (locks_told fs grants earlier owner file legal.1)

-- A row is its stateid, its owner and its file.
whole_lock : (owner : Owner) (file : ℕ) (row : LockRow) → owner ≡ row.owner → row.file ≡ file → Some row ≡ lock_row_of owner file (Some (lock_stateid row))
whole_lock owner file row owners files = rw (owners, ← files) refl

pub locks_whole : (fs : ℕ) (grants : Bool) (es : Past) (owner : Owner) (file : ℕ) → IsLegal fs grants es
    → lock_of owner file (seen fs grants es).locks ≡ lock_row_of owner file (lock_now es owner file)
unfolding lock_in
locks_whole fs grants es owner file legal =
    by_lock (lock_of owner file rows) refl
    ∙ ap (lock_row_of owner file) (locks_told fs grants es owner file legal)
  where
    rows : List LockRow
    rows = (seen fs grants es).locks

    by_lock : (o : Option LockRow) → lock_of owner file rows ≡ o → o ≡ lock_row_of owner file (option_map lock_stateid o)
    by_lock None none = refl
    by_lock (Some row) found =
        let its = lock_parts owner file row (found_of owner file 0 (seen fs grants es).last rows row (locks_apart fs grants es legal).rising found) in
        whole_lock owner file row its.1 its.0
