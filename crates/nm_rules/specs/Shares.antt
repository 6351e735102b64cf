-- Opens, and when two of them conflict (RFC 7530, 9.9 and 16.16).
use Rattle.std.specs.Prelude.{◌==◌, ◌&&◌, ◌||◌, not, ℕ, ◌+◌, Bool, List, [], ◌∷◌, Option, Some, None, if◌then◌else◌, find, filter, bit_and, bit_or}
use Rattle.std.specs.List.{list_any}
use Rattle.nm_types.specs.Parties.{Party, same_party}
use Rattle.nm_types.specs.Owners.{same_owner}
use Rattle.nm_types.specs.declared.calls.Owner.{Owner}
use Rattle.nm_types.specs.declared.rows.OpenRow.{OpenRow}

-- After the greatest seqid of a stateid comes 1 (RFC 7530, 9.1.4.2): 0 is never one.
abbrev pub next_seqid : ℕ → ℕ
next_seqid n = if n == 4294967295 then 1 else n + 1

-- What one opener does is what the other denies.
abbrev pub meets : ℕ → ℕ → Bool
meets access deny = not (bit_and access deny == 0)

-- Two shares conflict where the access of one meets the deny of the other.
abbrev pub shares_conflict : ℕ → ℕ → ℕ → ℕ → Bool
shares_conflict access deny its_access its_deny = meets access its_deny || meets its_access deny

-- the open with that counter
unfoldable pub open_at : ℕ → List OpenRow → Option OpenRow
open_at counter rows = find (λ row. row.counter == counter) rows

abbrev pub is_open_of : Owner → ℕ → OpenRow → Bool
is_open_of owner file row = (row.file == file) && same_owner owner row.owner

-- the open of that owner on that file
unfoldable pub open_of : Owner → ℕ → List OpenRow → Option OpenRow
open_of owner file rows = find (is_open_of owner file) rows

-- The row is another owner's open of this file, and conflicts with this share.
abbrev pub opposes : Owner → ℕ → ℕ → ℕ → OpenRow → Bool
opposes owner file access deny row =
    (row.file == file) && not (same_owner owner row.owner) && shares_conflict access deny row.access row.deny

-- some row does
unfoldable pub is_opposed : Owner → ℕ → ℕ → ℕ → List OpenRow → Bool
is_opposed owner file access deny rows = list_any (opposes owner file access deny) rows

-- What an OPEN leaves of its owner's open of the file: a first one is new, and a further one joins what it had.
unfoldable pub opened_row : Option OpenRow → ℕ → ℕ → Owner → ℕ → ℕ → OpenRow
opened_row None counter file owner access deny =
    record { counter = counter; seqid = 1; owner = owner; file = file; access = access; deny = deny }
opened_row (Some row) counter file owner access deny =
    record row { seqid = next_seqid row.seqid; access = bit_or row.access access; deny = bit_or row.deny deny }

-- An open whose stateid is confirmed or closed: its seqid goes on by one.
abbrev pub renewed_row : OpenRow → OpenRow
renewed_row row = record row { seqid = next_seqid row.seqid }

-- An OPEN_DOWNGRADE leaves that access and deny (RFC 7530, 16.19).
abbrev pub narrowed_row : ℕ → ℕ → OpenRow → OpenRow
narrowed_row access deny row = record row { seqid = next_seqid row.seqid; access = access; deny = deny }

-- How the table of opens changes.
pub data OpenWord : Type 0 where
  Keep : OpenWord
  -- in the place of the row with its counter, else as the last
  Put : OpenRow → OpenWord
  -- the open with that counter goes
  Drop : ℕ → OpenWord
  -- all opens of an instance go
  DropOf : Party → OpenWord

abbrev pub put_open : OpenRow → List OpenRow → List OpenRow
put_open row [] = row ∷ []
put_open row (x ∷ xs) = if x.counter == row.counter then row ∷ xs else x ∷ put_open row xs

-- the row, where there is one
abbrev pub put_if : Option OpenRow → OpenWord
put_if None = Keep
put_if (Some row) = Put row

unfoldable pub opens_after : OpenWord → List OpenRow → List OpenRow
opens_after Keep rows = rows
opens_after (Put row) rows = put_open row rows
opens_after (Drop counter) rows = filter (λ x. not (x.counter == counter)) rows
opens_after (DropOf party) rows = filter (λ x. not (same_party party x.owner.instance)) rows

-- what the word leaves of the open with a counter
unfoldable pub open_left : OpenWord → ℕ → Option OpenRow → Option OpenRow
open_left Keep k before = before
open_left (Put row) k before = if row.counter == k then Some row else before
open_left (Drop counter) k before = if counter == k then None else before
open_left (DropOf party) k None = None
open_left (DropOf party) k (Some row) = if same_party party row.owner.instance then None else Some row
