-- What reads and writes do to the bytes that a source has left and a sink holds, where those are told, and to the
-- counts of faults.
use Rattle.std.specs.Prelude.{◌≡◌, ℕ, ◌+◌, ◌-◌, ◌^◌, ◌≤◌, ◌==◌, ◌&&◌, min, Bool, false, not, List, [], ◌++◌, length, take, Option, Result, Ok, Err, IfSome, option_map}

-- these bytes, and then what is told
abbrev pub behind : List ℕ → Option (List ℕ) → Option (List ℕ)
behind front told = option_map (λ rest. front ++ rest) told

-- what is told, and then these bytes
abbrev pub with_more : Option (List ℕ) → List ℕ → Option (List ℕ)
with_more told bytes = option_map (λ held. held ++ bytes) told

-- where it is told what is left, that is nothing
abbrev pub NoneLeft : Option (List ℕ) → Type 0
NoneLeft told = IfSome told (λ left. left ≡ [])

-- a read gave the end: no byte, and there was room for one
abbrev pub gave_end : {E : Type 0} → Result ℕ E → ℕ → Bool
gave_end (Ok n) room = (n == 0) && not (room == 0)
gave_end (Err _) _ = false

-- The count of faults rose. A count of 64 bits stands still at its end.
abbrev pub HasRisen : ℕ → ℕ → Type 0
HasRisen before now = min (before + 1) (2 ^ 64 - 1) ≤ now

-- some bytes were taken, from the first on, and no other byte
pub record TookPart (before now : Option (List ℕ)) : Type 0 where
  pub taken : List ℕ
  pub front : before ≡ behind taken now

-- a part of these bytes, from the first on, was written, and no other byte
pub record WrotePart (before now : Option (List ℕ)) (bytes : List ℕ) : Type 0 where
  pub count : ℕ
  pub within : count ≤ length bytes
  pub wrote : now ≡ with_more before (take count bytes)
