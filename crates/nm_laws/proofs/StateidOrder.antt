-- The table of what is held rises by counter.
use Rattle.std.proofs.Common.{◌≡◌, ◌<◌, ℕ, Bool, true, false, cond, List, [], ◌∷◌, Some, refl, ap, sym, ◌∙◌, arith}
use Rattle.std.proofs.lemmas.Bool.{false≢true, and_parts}
use Rattle.std.proofs.lemmas.Bool.Decides.{nat_tests}
use Rattle.std.specs.Prelude.{◌==◌, ◌||◌, is_none, nat_lt, find, map}
use Rattle.std.specs.List.{list_any}
use Rattle.nm_rules.specs.Answer.{IsLegal}
use Rattle.nm_rules.specs.Held.{held_row, held_lock, put_held, with_locks, held_table}
use Rattle.nm_rules.specs.LockRows.{lock_at, locks_rise}
use Rattle.nm_rules.specs.Past.{Past}
use Rattle.nm_rules.specs.Seen.{Seen, seen}
use Rattle.nm_rules.specs.Shares.{open_at}
use Rattle.nm_rules.specs.Sound.{rises}
use Rattle.nm_types.specs.declared.rows.FileLocks.{FileLocks}
use Rattle.nm_types.specs.declared.rows.FileRow.{FileRow}
use Rattle.nm_types.specs.declared.rows.LockRow.{LockRow}
use Rattle.nm_types.specs.declared.rows.OpenRow.{OpenRow}
use Rattle.nm_types.specs.declared.table.HeldRow.{HeldRow}
use Rattle.nm_rules.proofs.Legal.{sound-seen}
use Rattle.nm_laws.specs.StateidRows.{is_one, held_rises}
use Rattle.nm_laws.proofs.LockStateids.{locks_apart}
use Rattle.nm_laws.proofs.StateidOnce.{one_each}

-- a row with that counter is among them
abbrev pub has : ℕ → List HeldRow → Bool
has k rows = list_any (λ row. row.counter == k) rows

abbrev pub has_lock : ℕ → List LockRow → Bool
has_lock k rows = list_any (λ row. row.counter == k) rows

-- ---- one row in its place

put-rises : (above : ℕ) (row : HeldRow) (rows : List HeldRow) → above < row.counter → has row.counter rows ≡ false → held_rises above rows ≡ true
    → held_rises above (put_held row rows) ≡ true
put-rises above row [] low other rising = grind (arith, nat_tests)
put-rises above row (x ∷ xs) low other rising = grind (arith, nat_tests, put-rises x.counter row xs)

put-has : (row : HeldRow) (rows : List HeldRow) (k : ℕ) → has k (put_held row rows) ≡ ((row.counter == k) || has k rows)
put-has row [] k = refl
put-has row (x ∷ xs) k = by_test (nat_lt row.counter x.counter) (put-has row xs k)
  where
    swapped : (a b c : Bool) → (a || (b || c)) ≡ (b || (a || c))
    swapped true true c = refl
    swapped true false c = refl
    swapped false b c = refl

    by_test : (b : Bool) → has k (put_held row xs) ≡ ((row.counter == k) || has k xs)
        → has k (cond b (row ∷ x ∷ xs) (x ∷ put_held row xs)) ≡ ((row.counter == k) || ((x.counter == k) || has k xs))
    by_test true later = refl
    by_test false later = ap (λ c. (x.counter == k) || c) later ∙ swapped (x.counter == k) (row.counter == k) (has k xs)

-- ---- the stateids of lock owners among the opens

-- those that rise above a counter have greater ones
above_all : (above last : ℕ) (rows : List LockRow) (k : ℕ) → locks_rise above last rows ≡ true → has_lock k rows ≡ true → above < k
above_all above last [] k rising there = absurd (false≢true there)
above_all above last (x ∷ xs) k rising there = grind (arith, nat_tests, above_all x.counter last xs k)

with-rises : (files : List FileRow) (ranges : List FileLocks) (above last : ℕ) (locks : List LockRow) (held : List HeldRow) → locks_rise above last locks ≡ true
    → held_rises 0 held ≡ true → ((k : ℕ) → has_lock k locks ≡ true → has k held ≡ false) → held_rises 0 (with_locks files ranges locks held) ≡ true
unfolding with_locks held_lock
with-rises files ranges above last [] held rising held_rising apart = held_rising
with-rises files ranges above last (x ∷ xs) held rising held_rising apart =
    with-rises files ranges x.counter last xs (put_held (held_lock files ranges x) held) parts.1
    (put-rises 0 (held_lock files ranges x) held (grind (arith, nat_tests, parts.0)) (apart x.counter first) held_rising)
    later
  where
    parts : (nat_lt above x.counter ≡ true) × (locks_rise x.counter last xs ≡ true)
    parts = and_parts _ _ rising

    first : has_lock x.counter (x ∷ xs) ≡ true
    first = grind (arith, nat_tests)

    or_right : (a b : Bool) → b ≡ true → (a || b) ≡ true
    or_right true b it = refl
    or_right false b it = it

    other : (m n : ℕ) → m < n → (m == n) ≡ false
    other m n lt = grind (arith, nat_tests)

    later : (k : ℕ) → has_lock k xs ≡ true → has k (put_held (held_lock files ranges x) held) ≡ false
    later k there =
        put-has (held_lock files ranges x) held k
        ∙ ap (λ b. b || has k held) (other x.counter k (above_all x.counter last xs k parts.1 there))
        ∙ apart k (or_right (x.counter == k) (has_lock k xs) there)

-- ---- the opens

opens-rise : (files : List FileRow) (above last : ℕ) (opens : List OpenRow) → rises above last opens ≡ true → held_rises above (map (held_row files) opens) ≡ true
unfolding held_row
opens-rise files above last [] rising = refl
opens-rise files above last (x ∷ xs) rising =
    let parts = and_parts (nat_lt above x.counter) (rises x.counter last xs) rising in
    rw (parts.0, opens-rise files x.counter last xs parts.1) refl

no_open : (files : List FileRow) (k : ℕ) (opens : List OpenRow) → is_none (open_at k opens) ≡ true → has k (map (held_row files) opens) ≡ false
unfolding held_row open_at
no_open files k [] none = refl
no_open files k (x ∷ xs) none = by_test (x.counter == k) none (no_open files k xs)
  where
    by_test : (b : Bool) → is_none (cond b (Some x) (find (λ (row : OpenRow). row.counter == k) xs)) ≡ true
        → (is_none (find (λ (row : OpenRow). row.counter == k) xs) ≡ true → has k (map (held_row files) xs) ≡ false)
        → (b || has k (map (held_row files) xs)) ≡ false
    by_test true here later = absurd (false≢true here)
    by_test false there later = later there

lock_there : (k : ℕ) (locks : List LockRow) → has_lock k locks ≡ true → is_none (lock_at k locks) ≡ false
unfolding lock_at
lock_there k [] there = absurd (false≢true there)
lock_there k (x ∷ xs) there = by_test (x.counter == k) there (lock_there k xs)
  where
    by_test : (b : Bool) → (b || has_lock k xs) ≡ true
        → (has_lock k xs ≡ true → is_none (find (λ (row : LockRow). row.counter == k) xs) ≡ false)
        → is_none (cond b (Some x) (find (λ (row : LockRow). row.counter == k) xs)) ≡ false
    by_test true here later = refl
    by_test false behind later = later behind

one_none : (a b : Bool) → (a || b) ≡ true → b ≡ false → a ≡ true
one_none true b either other = refl
one_none false b either other = absurd (false≢true (sym other ∙ either))

-- The table rises by counter.
pub held_in_order : (fs : ℕ) (grants : Bool) (es : Past) → IsLegal fs grants es → held_rises 0 (held_table (seen fs grants es)) ≡ true
unfolding held_table is_one
held_in_order fs grants es legal =
    let s : Seen = seen fs grants es in
    with-rises s.tree.table s.ranges 0 s.last s.locks (map (held_row s.tree.table) s.opens) (locks_apart fs grants es legal).rising
    (opens-rise s.tree.table 0 s.last s.opens (sound-seen fs grants es legal).rising)
    (λ k there. no_open s.tree.table k s.opens
    (one_none (is_none (open_at k s.opens)) (is_none (lock_at k s.locks)) (one_each fs grants es k legal) (lock_there k s.locks there)))
