-- What is held, as it is listed.
use Rattle.std.proofs.Common.{◌≡◌, ◌<◌, ◌≤◌, ℕ, ◌+◌, Bool, true, false, cond, List, [], ◌∷◌, ◌++◌, Some, None, refl, ap, ◌∙◌, suc, arith, length, take, drop, get_or, map}
use Rattle.std.proofs.lemmas.List.{drop_all, drop_more, take_more}
use Rattle.std.proofs.lemmas.Bool.Decides.{nat_tests}
use Rattle.std.specs.Prelude.{◌==◌, not, nat_lt, filter, insert}
use Rattle.std.specs.List.{position, position_or_len}
use Rattle.nm_rules.specs.Held.{held_lock, put_held, range_of, ranges_of, with_locks}
use Rattle.nm_types.specs.declared.rows.FileLocks.{FileLocks}
use Rattle.nm_types.specs.declared.rows.FileRow.{FileRow}
use Rattle.nm_types.specs.declared.rows.Held.{Held}
use Rattle.nm_types.specs.declared.rows.LockRow.{LockRow}
use Rattle.nm_types.specs.declared.table.HeldRow.{HeldRow}
use Rattle.nm_state.specs.Listing.{is_behind, range_if}

-- one range more
pub ranges_more : (counter : ℕ) (rows : List Held) (i : ℕ) (d : Held) → i < length rows
    → ranges_of counter (take (i + 1) rows) ≡ ranges_of counter (take i rows) ++ range_if counter (get_or rows i d)
unfolding ranges_of
ranges_more counter rows i d within = ap (ranges_of counter) (take_more rows i d within) ∙ behind (take i rows) (get_or rows i d)
  where
    behind : (xs : List Held) (x : Held)
        → map range_of (filter (λ h. h.owner == counter) (xs ++ x ∷ [])) ≡ map range_of (filter (λ h. h.owner == counter) xs) ++ range_if counter x
    behind [] x = by_test (x.owner == counter)
      where
        by_test : (b : Bool) → map range_of (cond b (x ∷ []) []) ≡ cond b (range_of x ∷ []) []
        by_test true = refl
        by_test false = refl
    behind (y ∷ ys) x = by_test (y.owner == counter) (behind ys x)
      where
        by_test : (b : Bool)
            → map range_of (filter (λ h. h.owner == counter) (ys ++ x ∷ [])) ≡ map range_of (filter (λ h. h.owner == counter) ys) ++ range_if counter x
            → map range_of (cond b (y ∷ filter (λ h. h.owner == counter) (ys ++ x ∷ [])) (filter (λ h. h.owner == counter) (ys ++ x ∷ [])))
            ≡ map range_of (cond b (y ∷ filter (λ h. h.owner == counter) ys) (filter (λ h. h.owner == counter) ys)) ++ range_if counter x
        by_test true later = ap (λ r. range_of y ∷ r) later
        by_test false later = later

-- ---- a row in its place

put_at : (row : HeldRow) (rows : List HeldRow) → position_or_len (is_behind row.counter) rows < length rows
    → insert rows (position_or_len (is_behind row.counter) rows) row ≡ put_held row rows
put_at row [] within = absurd (omega (arith, within))
put_at row (x ∷ xs) within = by_head (is_behind row.counter x) within (put_at row xs)
  where
    by_head : (b : Bool) → cond (not b) (1 + position_or_len (is_behind row.counter) xs) 0 < length (x ∷ xs)
        → (position_or_len (is_behind row.counter) xs < length xs → insert xs (position_or_len (is_behind row.counter) xs) row ≡ put_held row xs)
        → insert (x ∷ xs) (cond (not b) (1 + position_or_len (is_behind row.counter) xs) 0) row ≡ cond b (row ∷ x ∷ xs) (x ∷ put_held row xs)
    by_head true within later = refl
    by_head false within later =
        let more : 1 + position_or_len (is_behind row.counter) xs ≡ suc (position_or_len (is_behind row.counter) xs) = omega arith in
        rw more (ap (λ rest. x ∷ rest) (later (omega (arith, within))))

put_behind : (row : HeldRow) (rows : List HeldRow) → nat_lt (position_or_len (is_behind row.counter) rows) (length rows) ≡ false
    → rows ++ row ∷ [] ≡ put_held row rows
put_behind row [] past = refl
put_behind row (x ∷ xs) past = by_head (is_behind row.counter x) past (put_behind row xs)
  where
    by_head : (b : Bool) → nat_lt (cond (not b) (1 + position_or_len (is_behind row.counter) xs) 0) (length (x ∷ xs)) ≡ false
        → (nat_lt (position_or_len (is_behind row.counter) xs) (length xs) ≡ false → xs ++ row ∷ [] ≡ put_held row xs)
        → x ∷ (xs ++ row ∷ []) ≡ cond b (row ∷ x ∷ xs) (x ∷ put_held row xs)
    by_head true past later = absurd (grind (arith, nat_tests))
    by_head false past later = ap (λ rest. x ∷ rest) (later (grind (arith, nat_tests)))

pub record IsPut (row : HeldRow) (rows : List HeldRow) (at : ℕ) : Type 0 where
  pub within : at < length rows
  pub put : insert rows at row ≡ put_held row rows

pub put_found : (row : HeldRow) (rows : List HeldRow) (at : ℕ) → position (is_behind row.counter) rows ≡ Some at → IsPut row rows at
put_found row rows at found = by_test (nat_lt (position_or_len (is_behind row.counter) rows) (length rows)) refl found
  where
    by_test : (b : Bool) → nat_lt (position_or_len (is_behind row.counter) rows) (length rows) ≡ b
        → cond b (Some (position_or_len (is_behind row.counter) rows)) None ≡ Some at → IsPut row rows at
    by_test true within same =
        let place : at ≡ position_or_len (is_behind row.counter) rows = cc in
        let less : position_or_len (is_behind row.counter) rows < length rows = grind (arith, nat_tests) in
        record { within = rw place less; put = ap (λ i. insert rows i row) place ∙ put_at row rows less }
    by_test false past same = cc

pub put_last : (row : HeldRow) (rows : List HeldRow) → position (is_behind row.counter) rows ≡ None → rows ++ row ∷ [] ≡ put_held row rows
put_last row rows none = by_test (nat_lt (position_or_len (is_behind row.counter) rows) (length rows)) refl none
  where
    by_test : (b : Bool) → nat_lt (position_or_len (is_behind row.counter) rows) (length rows) ≡ b
        → cond b (Some (position_or_len (is_behind row.counter) rows)) None ≡ None → rows ++ row ∷ [] ≡ put_held row rows
    by_test true within same = cc
    by_test false past same = put_behind row rows past

-- ---- one stateid more

pub locks_more : (files : List FileRow) (ranges : List FileLocks) (locks : List LockRow) (i : ℕ) (d : LockRow) (held : List HeldRow) → i < length locks
    → with_locks files ranges (drop i locks) held ≡ with_locks files ranges (drop (i + 1) locks) (put_held (held_lock files ranges (get_or locks i d)) held)
unfolding with_locks
locks_more files ranges locks i d held within = ap (λ ls. with_locks files ranges ls held) (drop_more locks i d within)

pub locks_end : (files : List FileRow) (ranges : List FileLocks) (locks : List LockRow) (i : ℕ) (held : List HeldRow) → length locks ≤ i
    → with_locks files ranges (drop i locks) held ≡ held
unfolding with_locks
locks_end files ranges locks i held past = ap (λ ls. with_locks files ranges ls held) (drop_all i locks past)
