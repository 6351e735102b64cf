-- To write a row at the place of its owner's, or behind all, is to put it.
use Rattle.std.proofs.Common.{◌≡◌, ◌<◌, ℕ, ◌+◌, Bool, true, false, cond, List, [], ◌∷◌, ◌++◌, Some, None, refl, ap, ◌∙◌, suc, arith, length, set}
use Rattle.std.specs.Prelude.{not, nat_lt}
use Rattle.std.specs.List.{position, position_or_len}
use Rattle.std.proofs.lemmas.Bool.Decides.{nat_tests}
use Rattle.nm_types.specs.Owners.{same_owner}
use Rattle.nm_rules.specs.Seqids.{put_owner}
use Rattle.nm_types.specs.declared.owners.OwnerRow.{OwnerRow}
use Rattle.nm_owners.specs.Rows.{is_of}

put_at : (row : OwnerRow) (rows : List OwnerRow) → position_or_len (is_of row.owner) rows < length rows
    → set rows (position_or_len (is_of row.owner) rows) row ≡ put_owner row rows
put_at row [] within = absurd (omega (arith, within))
put_at row (x ∷ xs) within = by_head (same_owner row.owner x.owner) within (put_at row xs)
  where
    by_head : (b : Bool) → cond (not b) (1 + position_or_len (is_of row.owner) xs) 0 < length (x ∷ xs)
        → (position_or_len (is_of row.owner) xs < length xs → set xs (position_or_len (is_of row.owner) xs) row ≡ put_owner row xs)
        → set (x ∷ xs) (cond (not b) (1 + position_or_len (is_of row.owner) xs) 0) row ≡ cond b (row ∷ xs) (x ∷ put_owner row xs)
    by_head true within later = refl
    by_head false within later =
        let more : 1 + position_or_len (is_of row.owner) xs ≡ suc (position_or_len (is_of row.owner) xs) = omega arith in
        rw more (ap (λ rest. x ∷ rest) (later (omega (arith, within))))

put_behind : (row : OwnerRow) (rows : List OwnerRow) → nat_lt (position_or_len (is_of row.owner) rows) (length rows) ≡ false
    → rows ++ row ∷ [] ≡ put_owner row rows
put_behind row [] past = refl
put_behind row (x ∷ xs) past = by_head (same_owner row.owner x.owner) past (put_behind row xs)
  where
    by_head : (b : Bool) → nat_lt (cond (not b) (1 + position_or_len (is_of row.owner) xs) 0) (length (x ∷ xs)) ≡ false
        → (nat_lt (position_or_len (is_of row.owner) xs) (length xs) ≡ false → xs ++ row ∷ [] ≡ put_owner row xs)
        → x ∷ (xs ++ row ∷ []) ≡ cond b (row ∷ xs) (x ∷ put_owner row xs)
    by_head true past later = absurd (grind (arith, nat_tests))
    by_head false past later = ap (λ rest. x ∷ rest) (later (grind (arith, nat_tests)))

-- a row whose owner has one takes its place
pub put_found : (row : OwnerRow) (rows : List OwnerRow) (at : ℕ) → position (is_of row.owner) rows ≡ Some at → set rows at row ≡ put_owner row rows
put_found row rows at found = by_test (nat_lt (position_or_len (is_of row.owner) rows) (length rows)) refl found
  where
    by_test : (b : Bool) → nat_lt (position_or_len (is_of row.owner) rows) (length rows) ≡ b
        → cond b (Some (position_or_len (is_of row.owner) rows)) None ≡ Some at → set rows at row ≡ put_owner row rows
    by_test true within same =
        let place : at ≡ position_or_len (is_of row.owner) rows = cc in
        ap (λ i. set rows i row) place ∙ put_at row rows (grind (arith, nat_tests))
    by_test false past same = cc

-- one of a new owner comes last
pub put_new : (row : OwnerRow) (rows : List OwnerRow) → position (is_of row.owner) rows ≡ None → rows ++ row ∷ [] ≡ put_owner row rows
put_new row rows none = by_test (nat_lt (position_or_len (is_of row.owner) rows) (length rows)) refl none
  where
    by_test : (b : Bool) → nat_lt (position_or_len (is_of row.owner) rows) (length rows) ≡ b
        → cond b (Some (position_or_len (is_of row.owner) rows)) None ≡ None → rows ++ row ∷ [] ≡ put_owner row rows
    by_test true within same = cc
    by_test false past same = put_behind row rows past
