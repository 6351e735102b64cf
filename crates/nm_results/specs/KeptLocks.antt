-- The value of LOCK with DENIED as it stands in a kept reply: the lock's holder by its index among those that are given
-- (RFC 7531, LOCK4denied).
use Rattle.std.specs.Prelude.{◌≡◌, ℕ, ◌+◌, ◌-◌, ◌^◌, ◌<◌, ◌≤◌, false, ◌==◌, ◌&&◌, ◌||◌, nat_le, List, [], ◌∷◌, length, Option, Some, None, Result, Ok, if◌then◌else◌}
use Rattle.std.specs.List.{slice_get}
use Rattle.nm_xdr.specs.Fields.{short, Fault, Reading, ◌>>=◌, fault_at, field, made}
use Rattle.nm_xdr.specs.Items.{word, hyper, opaque, structure, hyper_at, bytes_at, enum_at}
use Rattle.nm_types.specs.Calls.{greatest}
use Rattle.nm_types.specs.Parties.{Party}
use Rattle.nm_types.specs.declared.results.Denied.{Denied}
use Rattle.nm_types.specs.declared.results.LockKind.{LockKind}
use Rattle.nm_types.specs.declared.results.LockKind.TheVariants as kind
use Rattle.nm_results.specs.Holders.{index_of, IsHolder}
use Rattle.nm_results.specs.Locks.{number_of_kind}

-- What the value of an item stands for. Where it stands for nothing, the item is told at its first byte.
abbrev pub stood_for : {X : Type 0} → Option X → List ℕ → List ℕ → Result (X × List ℕ) Fault
stood_for None bytes rest = fault_at short bytes
stood_for (Some x) bytes rest = Ok (x, rest)

abbrev pub standing_at : {A X : Type 0} → Reading A → (A → Option X) → Reading X
standing_at read of bytes = read bytes >>= λ a. stood_for (of a.0) bytes a.1

-- ---- The range

-- the last byte of a range of this length: all ones reach to the end of every file, and any other length ends before its last byte
unfoldable pub last_of : ℕ → ℕ → Option ℕ
last_of first length =
    if length == greatest then Some greatest
    else if (length == 0) || nat_le (2 ^ 64) (first + length) then None
    else Some ((first + length) - 1)

unfoldable pub last_at : ℕ → Reading ℕ
last_at first = standing_at hyper_at (last_of first)

-- a first byte and a length, as the first byte and the last one
unfoldable pub range_at : Reading (ℕ × ℕ)
range_at = field hyper_at (λ first. field (last_at first) (λ last. made (first, last)))

-- the length of a range
unfoldable pub length_of : ℕ → ℕ → ℕ
length_of first last = if last == greatest then greatest else (last - first) + 1

-- A range of all bytes but the last one would have the length that stands for all of them, so none is told.
pub record IsTold (first last : ℕ) : Type 0 where
  pub from : first ≤ last
  pub fits : last < 2 ^ 64
  pub told : ((first == 0) && (last + 1 == greatest)) ≡ false

-- ---- The kind, which doesn't wait

unfoldable pub kept_kind : ℕ → Option LockKind
kept_kind n = if n == 1 then Some kind.Read else if n == 2 then Some kind.Write else None

unfoldable pub kept_kind_at : Reading LockKind
kept_kind_at = enum_at kept_kind

-- ---- The holder

-- the one of this index
unfoldable pub holder_at : List Party → Reading (Option Party)
holder_at holders = field (standing_at hyper_at (slice_get holders)) (λ holder. made (Some holder))

-- ---- The whole

unfoldable pub kept_denied : List Party → Denied → List ℕ
kept_denied holders d =
    structure (hyper d.range.first ∷ hyper (length_of d.range.first d.range.last) ∷ word (number_of_kind d.range.kind)
    ∷ hyper (index_of holders d.instance) ∷ opaque d.owner ∷ [])

unfoldable pub kept_denied_at : List Party → Reading Denied
kept_denied_at holders =
    field range_at (λ range. field kept_kind_at (λ kind. field (holder_at holders) (λ holder. field (bytes_at 1024) (λ owner.
    made (record { range = record { kind = kind; first = range.0; last = range.1 }; owner = owner; instance = holder })))))

pub record IsKeptDenied (holders : List Party) (d : Denied) : Type 0 where
  pub range : IsTold d.range.first d.range.last
  pub holder : IsHolder holders d.instance
  pub owner : length d.owner ≤ 1024
