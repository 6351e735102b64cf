-- Rows that are put in the place of another one, or as the last.
use Rattle.std.proofs.Common.{◌≡◌, ◌+◌, Bool, true, false, cond, List, [], ◌∷◌, ◌++◌, Some, refl, ap, ◌∙◌, arith, length}
use Rattle.std.specs.Prelude.{is_none, find}
use Rattle.nm_rules.specs.Opens.{one_if}

-- what puts a row is told by what it does to an empty list, and to a row and others
pub record Puts {A : Type 0} (row : A) (test : A → Bool) (put : List A → List A) : Type 0 where
  pub last : put [] ≡ row ∷ []
  pub place : (x : A) (xs : List A) → put (x ∷ xs) ≡ cond (test x) (row ∷ xs) (x ∷ put xs)

-- there is one row more, where none was in its place
pub length_put : {A : Type 0} (row : A) (test : A → Bool) (put : List A → List A) → Puts row test put → (rows : List A)
    → length (put rows) ≡ length rows + one_if (is_none (find test rows))
length_put row test put puts [] = ap length puts.last
length_put row test put puts (x ∷ xs) = ap length (puts.place x xs) ∙ by_test (test x) (length_put row test put puts xs)
  where
    by_test : (b : Bool) → length (put xs) ≡ length xs + one_if (is_none (find test xs))
        → length (cond b (row ∷ xs) (x ∷ put xs)) ≡ length (x ∷ xs) + one_if (is_none (cond b (Some x) (find test xs)))
    by_test true later = omega arith
    by_test false later = omega (arith, later)

pub nothing_behind : {A : Type 0} (xs : List A) → xs ++ [] ≡ xs
nothing_behind [] = refl
nothing_behind (x ∷ xs) = ap (λ ys. x ∷ ys) (nothing_behind xs)
