-- The numbers of the table are those of two words.
use Rattle.std.proofs.Common.{◌≡◌, ℕ, ◌≤◌, ◌<◌, Bool, true, false, not, ◌⊎◌, None, refl, arith, inl, inr}
use Rattle.std.specs.List.{find, range_with_len}
use Rattle.std.proofs.lemmas.Bool.{cases_lt, ne_eqb}
use Rattle.nm_attrs.specs.Bitmaps.{has}
use Rattle.nm_attrs.specs.Attributes.{is_supported, table, supported_words}
use Rattle.nm_attrs.proofs.LeastLaws.{range_none, past_words}

abbrev differ : Bool → Bool → Bool
differ true b = not b
differ false b = b

agree : (a b : Bool) → differ a b ≡ false → a ≡ b
agree true true e = refl
agree true false e = absurd cc
agree false true e = absurd cc
agree false false e = refl

none_differs : find (λ n. differ (has supported_words n) (is_supported n)) (range_with_len 0 64) ≡ None
unfolding has is_supported table
none_differs = refl

past_table : (n : ℕ) → 64 ≤ n → is_supported n ≡ false
unfolding is_supported table
past_table n le =
    rw (
      ne_eqb 0 n (omega arith),
      ne_eqb 1 n (omega arith),
      ne_eqb 2 n (omega arith),
      ne_eqb 3 n (omega arith),
      ne_eqb 4 n (omega arith),
      ne_eqb 5 n (omega arith),
      ne_eqb 6 n (omega arith),
      ne_eqb 7 n (omega arith),
      ne_eqb 8 n (omega arith),
      ne_eqb 9 n (omega arith),
      ne_eqb 10 n (omega arith),
      ne_eqb 11 n (omega arith),
      ne_eqb 19 n (omega arith),
      ne_eqb 20 n (omega arith),
      ne_eqb 24 n (omega arith),
      ne_eqb 33 n (omega arith),
    ) refl

pub two_words : (n : ℕ) → has supported_words n ≡ is_supported n
two_words n = by_place (cases_lt n 64)
  where
    by_place : (n < 64) ⊎ (64 ≤ n) → has supported_words n ≡ is_supported n
    by_place (inl lt) =
        agree (has supported_words n) (is_supported n) (range_none (λ k. differ (has supported_words k) (is_supported k)) 0 64 none_differs n (omega arith) (omega arith))
    by_place (inr le) = let none = past_words supported_words n (omega arith) in let no = past_table n le in cc
