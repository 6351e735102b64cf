-- Laws of the table of opens: look-ups by counter after each word, and rising counters.
use Rattle.std.proofs.Common.{◌≡◌, ◌≢◌, ◌<◌, eqb-true, ◌≤◌, ℕ, ◌+◌, Bool, true, false, cond, List, [], ◌∷◌, Some, None, refl, ap, ◌∙◌, inl, inr, arith}
use Rattle.std.proofs.lemmas.Bool.{false≢true, and_parts}
use Rattle.std.specs.Prelude.{◌==◌, ◌&&◌, ◌⊎◌, not, filter, nat_lt}
use Rattle.std.proofs.lemmas.Bool.Decides.{nat_tests}
use Rattle.nm_types.specs.Parties.{Party, same_party}
use Rattle.nm_rules.specs.Shares.{open_at, open_left, put_open}
use Rattle.nm_rules.specs.Shares.OpenWord.{DropOf}
use Rattle.nm_rules.specs.Sound.{rises}
use Rattle.nm_types.specs.declared.rows.OpenRow.{OpenRow}

-- the row is one of these
abbrev pub IsIn : OpenRow → List OpenRow → Type 0
IsIn row [] = ⊥
IsIn row (x ∷ xs) = (row ≡ x) ⊎ IsIn row xs

-- Rows that rise above a number up to another one: the first is at most the second.
pub rises-le : (above last : ℕ) (rows : List OpenRow) → rises above last rows ≡ true → above ≤ last
rises-le above last [] rising = grind (arith, nat_tests)
rises-le above last (row ∷ rows) rising = grind (arith, nat_tests, rises-le row.counter last rows)

-- Above the greatest counter there is no row.
pub open_at-past : (above last : ℕ) (rows : List OpenRow) (k : ℕ) → rises above last rows ≡ true → last < k → open_at k rows ≡ None
unfolding open_at
open_at-past above last [] k rising past = refl
open_at-past above last (row ∷ rows) k rising past = grind (arith, nat_tests, rises-le row.counter last rows, open_at-past row.counter last rows k)

-- Up to the counter above which the rows rise there is none.
pub open_at-below : (above last : ℕ) (rows : List OpenRow) (k : ℕ) → rises above last rows ≡ true → k ≤ above → open_at k rows ≡ None
unfolding open_at
open_at-below above last [] k rising low = refl
open_at-below above last (row ∷ rows) k rising low = grind (arith, nat_tests, open_at-below row.counter last rows k)

pub open_at-put : (row : OpenRow) (rows : List OpenRow) (k : ℕ) → open_at k (put_open row rows) ≡ cond (row.counter == k) (Some row) (open_at k rows)
unfolding open_at
open_at-put row [] k = refl
open_at-put row (x ∷ xs) k = grind (arith, nat_tests, open_at-put row xs k)

pub open_at-drop : (counter : ℕ) (rows : List OpenRow) (k : ℕ) → open_at k (filter (λ x. not (x.counter == counter)) rows) ≡ cond (counter == k) None (open_at k rows)
unfolding open_at
open_at-drop counter [] k = grind (arith, nat_tests)
open_at-drop counter (x ∷ xs) k = grind (arith, nat_tests, open_at-drop counter xs k)

-- The end of an instance takes its open from under each counter.
pub open_at-drop_of : (party : Party) (above last : ℕ) (rows : List OpenRow) (k : ℕ) → rises above last rows ≡ true
    → open_at k (filter (λ x. not (same_party party x.owner.instance)) rows) ≡ open_left (DropOf party) k (open_at k rows)
unfolding open_at open_left
open_at-drop_of party above last [] k rising = refl
open_at-drop_of party above last (x ∷ xs) k rising =
    by_cases (same_party party x.owner.instance) (x.counter == k) refl refl
    (open_at-drop_of party x.counter last xs k (and_parts (nat_lt above x.counter) (rises x.counter last xs) rising).1)
  where
    kept : OpenRow → Bool
    kept row = not (same_party party row.owner.instance)

    by_cases : (b c : Bool) → same_party party x.owner.instance ≡ b → (x.counter == k) ≡ c
        → open_at k (filter kept xs) ≡ open_left (DropOf party) k (open_at k xs)
        → open_at k (cond (not b) (x ∷ filter kept xs) (filter kept xs)) ≡ open_left (DropOf party) k (cond c (Some x) (open_at k xs))
    by_cases true true its same later = rw its (later ∙ ap (open_left (DropOf party) k) (open_at-below x.counter last xs k (and_parts (nat_lt above x.counter) (rises x.counter last xs) rising).1 (omega (arith, eqb-true x.counter k same))))
    by_cases true false its other later = later
    by_cases false true its same later = rw (its, same) refl
    by_cases false false its other later = rw other later

-- A look-up finds a row of the table, with that counter.
pub open_at-in : (k : ℕ) (rows : List OpenRow) (row : OpenRow) → open_at k rows ≡ Some row → IsIn row rows × (row.counter ≡ k)
unfolding open_at
open_at-in k [] row found = cc
open_at-in k (x ∷ xs) row found = at_head (x.counter == k) refl found (open_at-in k xs row)
  where
    at_head : (b : Bool) → (x.counter == k) ≡ b → cond b (Some x) (open_at k xs) ≡ Some row
        → (open_at k xs ≡ Some row → IsIn row xs × (row.counter ≡ k)) → IsIn row (x ∷ xs) × (row.counter ≡ k)
    at_head true same this later = (inl cc, grind (arith, nat_tests))
    at_head false other rest later = (inr (later rest).0, (later rest).1)

-- Where the counters rise, a row of the table is found by its counter.
pub in-open_at : (above last : ℕ) (rows : List OpenRow) (row : OpenRow) → rises above last rows ≡ true → IsIn row rows → (open_at row.counter rows ≡ Some row) × (above < row.counter)
unfolding open_at
in-open_at above last [] row rising none = absurd none
in-open_at above last (x ∷ xs) row rising (inl here) = (grind (arith, nat_tests), grind (arith, nat_tests))
in-open_at above last (x ∷ xs) row rising (inr there) =
    let rest : (open_at row.counter xs ≡ Some row) × (x.counter < row.counter) =
    in-open_at x.counter last xs row (and_parts (nat_lt above x.counter) (rises x.counter last xs) rising).1 there in
    (grind (arith, nat_tests), grind (arith, nat_tests))

-- The rows that a put leaves: the one that was put, and those of other counters.
pub in-put : (above last : ℕ) (rows : List OpenRow) (put x : OpenRow) → rises above last rows ≡ true → IsIn x (put_open put rows) → (x ≡ put) ⊎ (IsIn x rows × (x.counter ≢ put.counter))
in-put above last [] put x rising (inl here) = inl here
in-put above last [] put x rising (inr there) = absurd there
in-put above last (y ∷ ys) put x rising within = at_head (y.counter == put.counter) refl within (in-put y.counter last ys put x (and_parts _ _ rising).1)
  where
    further : (x ≡ put) ⊎ (IsIn x ys × (x.counter ≢ put.counter)) → (x ≡ put) ⊎ (IsIn x (y ∷ ys) × (x.counter ≢ put.counter))
    further (inl it) = inl it
    further (inr old) = inr (inr old.0, old.1)

    at_head : (b : Bool) → (y.counter == put.counter) ≡ b → IsIn x (cond b (put ∷ ys) (y ∷ put_open put ys))
        → (IsIn x (put_open put ys) → (x ≡ put) ⊎ (IsIn x ys × (x.counter ≢ put.counter)))
        → (x ≡ put) ⊎ (IsIn x (y ∷ ys) × (x.counter ≢ put.counter))
    at_head true same (inl here) later = inl here
    at_head true same (inr there) later =
        let later_counter : y.counter < x.counter =
        (in-open_at y.counter last ys x (and_parts (nat_lt above y.counter) (rises y.counter last ys) rising).1 there).1 in
        inr (inr there, λ e. absurd (omega (arith, e, eqb-true y.counter put.counter same, later_counter)))
    at_head false other (inl here) later = inr (inl here, λ e. grind (arith, nat_tests, ap (λ (r : OpenRow). r.counter) here))
    at_head false other (inr there) later = further (later there)

-- The rows that a filter leaves are rows of the table.
pub in-filter : (p : OpenRow → Bool) (rows : List OpenRow) (x : OpenRow) → IsIn x (filter p rows) → IsIn x rows × (p x ≡ true)
in-filter p [] x none = absurd none
in-filter p (y ∷ ys) x within = at_head (p y) refl within (in-filter p ys x)
  where
    at_head : (b : Bool) → p y ≡ b → IsIn x (cond b (y ∷ filter p ys) (filter p ys))
        → (IsIn x (filter p ys) → IsIn x ys × (p x ≡ true)) → IsIn x (y ∷ ys) × (p x ≡ true)
    at_head true kept (inl here) later = (inl here, cc)
    at_head true kept (inr there) later = (inr (later there).0, (later there).1)
    at_head false gone there later = (inr (later there).0, (later there).1)

-- What rises above a number rises above a lower one.
pub rises-lower : (low above last : ℕ) (rows : List OpenRow) → low ≤ above → rises above last rows ≡ true → rises low last rows ≡ true
rises-lower low above last [] le rising = grind (arith, nat_tests)
rises-lower low above last (row ∷ rows) le rising = grind (arith, nat_tests)

-- What rises up to a number rises up to a higher one.
pub rises-higher : (above last high : ℕ) (rows : List OpenRow) → last ≤ high → rises above last rows ≡ true → rises above high rows ≡ true
rises-higher above last high [] le rising = grind (arith, nat_tests)
rises-higher above last high (row ∷ rows) le rising = grind (arith, nat_tests, rises-higher row.counter last high rows)

-- What a filter leaves still rises.
pub rises-filter : (p : OpenRow → Bool) (above last : ℕ) (rows : List OpenRow) → rises above last rows ≡ true → rises above last (filter p rows) ≡ true
rises-filter p above last [] rising = rising
rises-filter p above last (row ∷ rows) rising = at_head (p row) (rises-filter p row.counter last rows (and_parts _ _ rising).1)
  where
    at_head : (b : Bool) → rises row.counter last (filter p rows) ≡ true → rises above last (cond b (row ∷ filter p rows) (filter p rows)) ≡ true
    at_head true later = grind (arith, nat_tests)
    at_head false later = rises-lower above row.counter last (filter p rows) (grind (arith, nat_tests)) later

-- A put of a new counter, past the last, comes behind all others.
pub rises-put_new : (above last : ℕ) (rows : List OpenRow) (row : OpenRow) → rises above last rows ≡ true → row.counter ≡ last + 1 → rises above (last + 1) (put_open row rows) ≡ true
rises-put_new above last [] row rising new = grind (arith, nat_tests)
rises-put_new above last (x ∷ xs) row rising new = grind (arith, nat_tests, rises-le x.counter last xs, rises-put_new x.counter last xs row)

-- A put of a counter that is there keeps it.
pub rises-put_old : (above last : ℕ) (rows : List OpenRow) (row old : OpenRow) → rises above last rows ≡ true → open_at row.counter rows ≡ Some old → rises above last (put_open row rows) ≡ true
unfolding open_at
rises-put_old above last [] row old rising found = cc
rises-put_old above last (x ∷ xs) row old rising found = grind (arith, nat_tests, rises-put_old x.counter last xs row old)
