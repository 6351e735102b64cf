-- No counter is both an open's and a lock owner's.
use Rattle.std.proofs.Common.{◌≡◌, ◌≤◌, ℕ, ◌+◌, Bool, true, false, cond, List, [], ◌∷◌, Option, Some, None, refl, ap, sym, ◌∙◌, arith, eqb-true}
use Rattle.std.proofs.lemmas.Bool.{false≢true, and_parts}
use Rattle.std.proofs.lemmas.Bool.Decides.{nat_tests}
use Rattle.std.specs.Prelude.{not, ◌==◌, ◌||◌, is_none, nat_lt, filter}
use Rattle.nm_types.specs.Owners.{same_owner}
use Rattle.nm_types.specs.Parties.{Party, same_party}
use Rattle.nm_rules.specs.Answer.{answer_to, IsLegal}
use Rattle.nm_rules.specs.LockRows.{lock_at, put_lock, locks_after, new_lock, renewed_lock, locks_rise}
use Rattle.nm_rules.specs.Past.{Past, Words, now, words}
use Rattle.nm_rules.specs.Seen.{Seen, seen, look, after, after_words}
use Rattle.nm_rules.specs.Shares.{open_at, open_of, opened_row, put_open, opens_after, open_left}
use Rattle.nm_rules.specs.Shares.OpenWord.{DropOf}
use Rattle.nm_rules.specs.Sound.{IsSound, rises}
use Rattle.nm_types.specs.declared.calls.Owner.{Owner}
use Rattle.nm_types.specs.declared.rows.LockRow.{LockRow}
use Rattle.nm_types.specs.declared.rows.OpenRow.{OpenRow}
use Rattle.nm_rules.proofs.Apart.{open_of-in}
use Rattle.nm_rules.proofs.Legal.{sound-seen}
use Rattle.nm_rules.proofs.LockRowLaws.{lock_at-counter, lock_at-past, kept_by}
use Rattle.nm_rules.proofs.OpenRows.{open_at-past, open_at-put, open_at-drop, open_at-drop_of, open_at-in, in-open_at}
use Rattle.nm_laws.specs.StateidNow.{StateidWord, event_word}
use Rattle.nm_laws.specs.StateidNow.StateidWord.{Nothing, OpenedFor, RenewedAt, ClosedAt, LockedFor, RelockedAt, ReleasedFor, EndedFor}
use Rattle.nm_laws.specs.StateidRows.{is_one}
use Rattle.nm_laws.proofs.LockStateids.{locks_apart}
use Rattle.nm_laws.proofs.OpenStateids.{leaves_of}
use Rattle.nm_laws.proofs.StateidTurns.{Leaves}

-- ---- the stateid of a lock owner with a counter

lock_at-below : (above last : ℕ) (rows : List LockRow) (k : ℕ) → locks_rise above last rows ≡ true → k ≤ above → lock_at k rows ≡ None
unfolding lock_at
lock_at-below above last [] k rising low = refl
lock_at-below above last (row ∷ rows) k rising low = grind (arith, nat_tests, lock_at-below row.counter last rows k)

pub lock_at-put : (row : LockRow) (rows : List LockRow) (k : ℕ) → lock_at k (put_lock row rows) ≡ cond (row.counter == k) (Some row) (lock_at k rows)
unfolding lock_at
lock_at-put row [] k = refl
lock_at-put row (x ∷ xs) k = grind (arith, nat_tests, lock_at-put row xs k)

pub lock_at-filter : (p : LockRow → Bool) (above last : ℕ) (rows : List LockRow) (k : ℕ) → locks_rise above last rows ≡ true
    → lock_at k (filter p rows) ≡ kept_by p (lock_at k rows)
unfolding lock_at
lock_at-filter p above last [] k rising = refl
lock_at-filter p above last (x ∷ xs) k rising = by_cases (p x) (x.counter == k) refl refl (lock_at-filter p x.counter last xs k rest)
  where
    rest : locks_rise x.counter last xs ≡ true
    rest = (and_parts (nat_lt above x.counter) (locks_rise x.counter last xs) rising).1

    by_cases : (b c : Bool) → p x ≡ b → (x.counter == k) ≡ c → lock_at k (filter p xs) ≡ kept_by p (lock_at k xs)
        → lock_at k (cond b (x ∷ filter p xs) (filter p xs)) ≡ kept_by p (cond c (Some x) (lock_at k xs))
    by_cases true true its same later = rw (its, same) refl
    by_cases true false its other later = rw other later
    by_cases false true its same later =
        rw its (later ∙ ap (kept_by p) (lock_at-below x.counter last xs k rest (omega (arith, eqb-true x.counter k same))))
    by_cases false false its other later = later

-- ---- one counter

one_open-put : (opens : List OpenRow) (new : OpenRow) (locks : List LockRow) (k : ℕ)
    → (is_none (open_at new.counter opens) ≡ true → lock_at new.counter locks ≡ None) → is_one k opens locks ≡ true → is_one k (put_open new opens) locks ≡ true
unfolding is_one
one_open-put opens new locks k placed one =
    ap (λ o. is_none o || is_none (lock_at k locks)) (open_at-put new opens k) ∙ by_test (new.counter == k) refl
  where
    by_there : new.counter ≡ k → (c : Bool) → is_none (open_at k opens) ≡ c → (c || is_none (lock_at k locks)) ≡ true → is_none (lock_at k locks) ≡ true
    by_there same true none either = ap (λ n. is_none (lock_at n locks)) (sym same) ∙ ap is_none (placed (ap (λ n. is_none (open_at n opens)) same ∙ none))
    by_there same false there either = either

    by_test : (b : Bool) → (new.counter == k) ≡ b → (is_none (cond b (Some new) (open_at k opens)) || is_none (lock_at k locks)) ≡ true
    by_test true same = by_there (eqb-true new.counter k same) (is_none (open_at k opens)) refl one
    by_test false other = one

one_lock-put : (opens : List OpenRow) (new : LockRow) (locks : List LockRow) (k : ℕ)
    → (is_none (lock_at new.counter locks) ≡ true → open_at new.counter opens ≡ None) → is_one k opens locks ≡ true → is_one k opens (put_lock new locks) ≡ true
unfolding is_one
one_lock-put opens new locks k placed one =
    ap (λ o. is_none (open_at k opens) || is_none o) (lock_at-put new locks k) ∙ by_test (new.counter == k) refl
  where
    by_there : new.counter ≡ k → (c : Bool) → is_none (lock_at k locks) ≡ c → (is_none (open_at k opens) || c) ≡ true → (is_none (open_at k opens) || false) ≡ true
    by_there same true none either =
        ap (λ n. is_none (open_at n opens) || false) (sym same) ∙ ap (λ o. is_none o || false) (placed (ap (λ n. is_none (lock_at n locks)) same ∙ none))
    by_there same false there either = either

    by_test : (b : Bool) → (new.counter == k) ≡ b → (is_none (open_at k opens) || is_none (cond b (Some new) (lock_at k locks))) ≡ true
    by_test true same = by_there (eqb-true new.counter k same) (is_none (lock_at k locks)) refl one
    by_test false other = one

-- where rows go, none comes
fewer : (a b c d : Bool) → (a ≡ true → c ≡ true) → (b ≡ true → d ≡ true) → (a || b) ≡ true → (c || d) ≡ true
fewer true b c d opens locks either = ap (λ x. x || d) (opens refl)
fewer false true true d opens locks either = refl
fewer false true false d opens locks either = locks refl
fewer false false c d opens locks either = absurd (false≢true either)

one-fewer : (opens later : List OpenRow) (locks later_locks : List LockRow) (k : ℕ)
    → (is_none (open_at k opens) ≡ true → is_none (open_at k later) ≡ true) → (is_none (lock_at k locks) ≡ true → is_none (lock_at k later_locks) ≡ true)
    → is_one k opens locks ≡ true → is_one k later later_locks ≡ true
unfolding is_one
one-fewer opens later locks later_locks k opens_go locks_go one = fewer _ _ _ _ opens_go locks_go one

none-dropped : (b : Bool) (o : Option OpenRow) → is_none o ≡ true → is_none (cond b None o) ≡ true
none-dropped true o none = refl
none-dropped false o none = none

none-left : (party : Party) (k : ℕ) (o : Option OpenRow) → is_none o ≡ true → is_none (open_left (DropOf party) k o) ≡ true
unfolding open_left
none-left party k None none = refl
none-left party k (Some x) none = absurd (false≢true none)

none-kept : (p : LockRow → Bool) (o : Option LockRow) → is_none o ≡ true → is_none (kept_by p o) ≡ true
none-kept p None none = refl
none-kept p (Some x) none = absurd (false≢true none)

not_none : {A : Type 0} (o : Option A) (x : A) → o ≡ Some x → is_none o ≡ true → ⊥
not_none o x at none = false≢true (ap is_none (sym at) ∙ none)

locks_go : (p : LockRow → Bool) (last : ℕ) (locks : List LockRow) (k : ℕ) → locks_rise 0 last locks ≡ true → is_none (lock_at k locks) ≡ true
    → is_none (lock_at k (filter p locks)) ≡ true
locks_go p last locks k rising none = ap is_none (lock_at-filter p 0 last locks k rising) ∙ none-kept p (lock_at k locks) none

-- ---- each word

-- the counter of the row that an OPEN leaves is no lock owner's, where there was none with it
opened_placed : (last : ℕ) (rows : List OpenRow) (locks : List LockRow) (file access deny : ℕ) (its : Owner) → rises 0 last rows ≡ true → locks_rise 0 last locks ≡ true
    → (o : Option OpenRow) → open_of its file rows ≡ o
    → is_none (open_at (opened_row o (last + 1) file its access deny).counter rows) ≡ true → lock_at (opened_row o (last + 1) file its access deny).counter locks ≡ None
unfolding opened_row
opened_placed last rows locks file access deny its rising locks_rising None found none = lock_at-past 0 last locks (last + 1) locks_rising (omega arith)
opened_placed last rows locks file access deny its rising locks_rising (Some row) found none =
    absurd (not_none (open_at row.counter rows) row (in-open_at 0 last rows row rising (open_of-in its file rows row found).0).0 none)

-- the tables that words leave
pub as_tables : {A : Type 0} (f : List OpenRow → List LockRow → A) (a b : List OpenRow) (c d : List LockRow) → a ≡ b → c ≡ d → f a c ≡ f b d
as_tables f a b c d e g = ap (λ x. f x c) e ∙ ap (f b) g

one_after : (s : Seen) (word : StateidWord) (w : Words) (k : ℕ) → Leaves s word w → rises 0 s.last s.opens ≡ true → locks_rise 0 s.last s.locks ≡ true
    → is_one k s.opens s.locks ≡ true → is_one k (opens_after w.opens s.opens) (locks_after w.locks s.locks) ≡ true
unfolding opens_after locks_after
one_after s Nothing w k leaves rising locks_rising one =
    as_tables (is_one k) _ _ _ _ (ap (λ x. opens_after x s.opens) leaves.0) (ap (λ x. locks_after x s.locks) leaves.1) ∙ one
one_after s (OpenedFor its its_file) w k leaves rising locks_rising one =
    as_tables (is_one k) _ _ _ _ (ap (λ x. opens_after x s.opens) leaves.puts) (ap (λ x. locks_after x s.locks) leaves.rest)
    ∙ one_open-put s.opens (opened_row (open_of its its_file s.opens) (s.last + 1) its_file its leaves.access leaves.deny) s.locks k
    (opened_placed s.last s.opens s.locks its_file leaves.access leaves.deny its rising locks_rising (open_of its its_file s.opens) refl) one
one_after s (RenewedAt m) w k leaves rising locks_rising one =
    as_tables (is_one k) _ _ _ _ (ap (λ x. opens_after x s.opens) leaves.puts) (ap (λ x. locks_after x s.locks) leaves.rest)
    ∙ one_open-put s.opens leaves.new s.locks k
    (λ none. absurd (not_none (open_at leaves.new.counter s.opens) leaves.old
    (ap (λ n. open_at n s.opens) (leaves.counter ∙ (open_at-in m s.opens leaves.old leaves.live).1) ∙ leaves.live) none)) one
one_after s (ClosedAt m) w k leaves rising locks_rising one =
    as_tables (is_one k) _ _ _ _ (ap (λ x. opens_after x s.opens) leaves.0) (ap (λ x. locks_after x s.locks) leaves.1)
    ∙ one-fewer s.opens (filter (λ x. not (x.counter == m)) s.opens) s.locks (filter (λ x. not (x.opened == m)) s.locks) k
    (λ none. ap is_none (open_at-drop m s.opens k) ∙ none-dropped (m == k) (open_at k s.opens) none)
    (locks_go (λ x. not (x.opened == m)) s.last s.locks k locks_rising) one
one_after s (LockedFor its its_file counter) w k leaves rising locks_rising one =
    as_tables (is_one k) _ _ _ _ (ap (λ x. opens_after x s.opens) leaves.rest) leaves.puts
    ∙ one_lock-put s.opens (new_lock (s.last + 1) its counter its_file) s.locks k
    (λ none. open_at-past 0 s.last s.opens (s.last + 1) rising (omega arith)) one
one_after s (RelockedAt m) w k leaves rising locks_rising one =
    as_tables (is_one k) _ _ _ _ (ap (λ x. opens_after x s.opens) leaves.rest) leaves.puts
    ∙ one_lock-put s.opens (renewed_lock leaves.old) s.locks k
    (λ none. absurd (not_none (lock_at leaves.old.counter s.locks) leaves.old
    (ap (λ n. lock_at n s.locks) (lock_at-counter m s.locks leaves.old leaves.live) ∙ leaves.live) none)) one
one_after s (ReleasedFor its) w k leaves rising locks_rising one =
    as_tables (is_one k) _ _ _ _ (ap (λ x. opens_after x s.opens) leaves.1) (ap (λ x. locks_after x s.locks) leaves.2)
    ∙ one-fewer s.opens s.opens s.locks (filter (λ x. not (same_owner its x.owner)) s.locks) k
    (λ none. none)
    (locks_go (λ x. not (same_owner its x.owner)) s.last s.locks k locks_rising) one
one_after s (EndedFor party) w k leaves rising locks_rising one =
    as_tables (is_one k) _ _ _ _ (ap (λ x. opens_after x s.opens) leaves.0) (ap (λ x. locks_after x s.locks) leaves.1)
    ∙ one-fewer s.opens (filter (λ x. not (same_party party x.owner.instance)) s.opens) s.locks (filter (λ x. not (same_party party x.owner.instance)) s.locks) k
    (λ none. ap is_none (open_at-drop_of party 0 s.last s.opens k rising) ∙ none-left party k (open_at k s.opens) none)
    (locks_go (λ x. not (same_party party x.owner.instance)) s.last s.locks k locks_rising) one

-- No counter is both an open's and a lock owner's.
pub one_each : (fs : ℕ) (grants : Bool) (es : Past) (k : ℕ) → IsLegal fs grants es → is_one k (seen fs grants es).opens (seen fs grants es).locks ≡ true
unfolding seen after_words is_one open_at
one_each fs grants [] k legal = refl
one_each fs grants (x ∷ earlier) k legal =
    let s : Seen = seen fs grants earlier in
    let r = answer_to s x.event in
    let sound : IsSound s = sound-seen fs grants earlier legal.1 in
    ap (λ y. is_one k (after s x.event y).opens (after s x.event y).locks) legal.0
    ∙ one_after s (event_word (now earlier) x.event r) (words (look s) x.event r) k (leaves_of fs grants earlier x.event legal.1) sound.rising
    (locks_apart fs grants earlier legal.1).rising (one_each fs grants earlier k legal.1)
