-- Bitmaps.
use Rattle.std.proofs.Common.{◌≡◌, ℕ, Bool, List, [], ◌∷◌, refl, ap}
use Rattle.std.specs.Prelude.{◌==◌, ◌&&◌}
use Rattle.std.specs.List.{list_all}
use Rattle.nm_rules.specs.Attributes.{are_within}

-- past the last of these no bit may be set
pub within_none : (words : List ℕ) → are_within [] words ≡ list_all (λ word. word == 0) words
unfolding are_within
within_none [] = refl
within_none (word ∷ words) = ap (λ (b : Bool). (word == 0) && b) (within_none words)
