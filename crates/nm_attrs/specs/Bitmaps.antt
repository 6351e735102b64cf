-- Bitmaps (RFC 7531, bitmap4): which numbers they have.
use Rattle.std.specs.Prelude.{ℕ, ◌/◌, ◌%◌, ◌^◌, Bool, ◌==◌, ◌&&◌, List, [], ◌∷◌, slice_index, if◌then◌else◌}
use Rattle.std.specs.Int.{bit_at}

-- Number n is in a bitmap where the bit n % 32 of its word n / 32 is 1; a word that isn't there is 0.
unfoldable pub has : List ℕ → ℕ → Bool
has words n = bit_at (slice_index words (n / 32)) (n % 32) == 1

-- two words, without a last one that is 0
abbrev pub trimmed : ℕ → ℕ → List ℕ
trimmed low high = if (low == 0) && (high == 0) then [] else if high == 0 then low ∷ [] else low ∷ high ∷ []

-- The words of the numbers from 0 to 63 whose bit is 1 in a mask.
unfoldable pub words_of_mask : ℕ → List ℕ
words_of_mask mask = trimmed (mask % 2 ^ 32) (mask / 2 ^ 32)
