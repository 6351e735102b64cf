-- What always holds of what is held, and how it is taken back to where a feed began.
use Rattle.std.specs.Prelude.{◌≡◌, ℕ, ◌+◌, ◌^◌, ◌<◌, ◌≤◌, nat_lt, List, [], length, take, slice_index_or, if◌then◌else◌}
use Rattle.nm_rpc.specs.declared.phase.Phase.{Phase}
use Rattle.nm_rpc.specs.declared.phase.Phase.TheVariants.{Header, Body, TooLong}
use Rattle.nm_rpc.specs.Feeding.{RecordsNow}

-- Fewer than four bytes of a header have come, and their number is one of so many bytes.
abbrev pub IsHeader : ℕ → ℕ → Type 0
IsHeader number seen =
    (seen < 4) × (number < 2 ^ 24) × (seen ≤ 2 → number < 2 ^ 16) × (seen ≤ 1 → number < 2 ^ 8) × (seen ≡ 0 → number ≡ 0)

-- A header has bytes to come, and a fragment has them too, with room for them in its record.
abbrev pub IsWithin : ℕ → ℕ → Phase → Type 0
IsWithin limit sum (Header number seen) = IsHeader number seen
IsWithin limit sum (Body left last) = (0 < left) × (sum + left ≤ limit)
IsWithin limit sum (TooLong got) = Unit {0}

-- What has come of a record is never more than the limit.
pub record IsKept (limit : ℕ) (partial : List ℕ) (phase : Phase) : Type 0 where
  pub room : length partial ≤ limit
  pub within : IsWithin limit (length partial) phase

-- The record that was open when so many were waiting.
abbrev pub open_at : RecordsNow → ℕ → List ℕ
open_at now count = if nat_lt count (length now.waiting) then slice_index_or now.waiting count [] else now.partial

-- What came since then is taken back: so many records were waiting, so many bytes of the next had come, and this was what the next byte belonged to.
abbrev pub back_to : ℕ → ℕ → Phase → RecordsNow → RecordsNow
back_to count bytes phase now = record { limit = now.limit; waiting = take count now.waiting; partial = take bytes (open_at now count); phase = phase }
