-- The array in which an instance keeps its string.
use Rattle.std.proofs.Common.{◌≡◌, ℕ, ◌-◌, ◌≤◌, List, ◌++◌, length, take, drop, replicate, refl, arith, length-append}
use Rattle.std.proofs.lemmas.List.{length-replicate, drop-replicate}
use Rattle.std.proofs.Math.Seq.{take-append_seam}
use Rattle.nm_types.specs.Parties.{padded, IsKept}

-- a string that is copied to the front of zeros is padded with zeros
pub drop_zeros_is_padded : (id : List ℕ) → id ++ drop (length id) (replicate 1024 0) ≡ padded id
unfolding padded
drop_zeros_is_padded id = rw drop-replicate refl

-- and is kept there
pub kept_when_padded : (id : List ℕ) → length id ≤ 1024 → IsKept (padded id) (length id)
unfolding padded
kept_when_padded id fits = record {
  room = omega (arith, length-append id (replicate (1024 - length id) 0), length-replicate {A = ℕ} (1024 - length id) 0);
  fits = fits;
  zeros = rw take-append_seam refl;
}

-- and is what is read there
pub take_of_padded : (id : List ℕ) → take (length id) (padded id) ≡ id
unfolding padded
take_of_padded id = take-append_seam id (replicate (1024 - length id) 0)
