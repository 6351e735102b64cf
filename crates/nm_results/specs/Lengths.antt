-- How long results are, where they can be written.
use Rattle.std.specs.Prelude.{ℕ, ◌+◌, ◌^◌, ◌<◌, nat_lt, List, length, Option, Some, None, SomeIff, if◌then◌else◌}

-- What a call that measures a value answers, whose condition and bytes these are: how many bytes are written for it, exactly where
-- it can be written and these are fewer than 2^64.
abbrev pub Measures : Type 0 → List ℕ → Option ℕ → Type 0
Measures Fits bytes o = SomeIff o (Fits × (length bytes < 2 ^ 64)) (length bytes)

-- the length of two parts
abbrev pub both : Option ℕ → Option ℕ → Option ℕ
both None b = None
both (Some a) None = None
both (Some a) (Some b) = if nat_lt (a + b) (2 ^ 64) then Some (a + b) else None
