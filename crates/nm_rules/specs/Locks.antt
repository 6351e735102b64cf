-- Byte-range locks of one file (RFC 7530, 9.2, 9.3, 16.10, 16.11 and 16.12). A list of the ranges that are held has one row for each
-- range, by rising owner, and of one owner by rising first byte. An owner is the counter of its lock stateid.
use Rattle.std.specs.Prelude.{◌≡◌, ◌≢◌, ◌==◌, ◌≤◌, ◌<◌, ◌&&◌, ◌||◌, ◌⊎◌, not, nat_lt, nat_le, ℕ, ◌+◌, ◌-◌, Bool, true, false, List, [], ◌∷◌, ◌++◌, flat_map, filter, find, Option, Some, None, option_map, if◌then◌else◌}
use Rattle.std.specs.List.{list_any}
use Rattle.nm_types.specs.declared.results.LockKind.{LockKind}
use Rattle.nm_types.specs.declared.results.LockKind.TheVariants.{Read, Write}
use Rattle.nm_types.specs.declared.rows.Held.{Held}

abbrev pub is_write : LockKind → Bool
is_write Read = false
is_write Write = true

abbrev pub same_lock : LockKind → LockKind → Bool
same_lock Read Read = true
same_lock Read Write = false
same_lock Write Read = false
same_lock Write Write = true

-- the byte lies in the range
abbrev pub is_inside : ℕ → ℕ → ℕ → Bool
is_inside first last p = nat_le first p && nat_le p last

-- the range and this one share a byte
abbrev pub overlaps : ℕ → ℕ → Held → Bool
overlaps first last h = nat_le h.first last && nat_le first h.last

-- the row is that owner's, and has the byte
abbrev pub holds_byte : ℕ → ℕ → Held → Bool
holds_byte owner p h = (h.owner == owner) && is_inside h.first h.last p

-- The kind of lock that an owner holds at a byte: that of its first row that has the byte.
unfoldable pub kind_at : ℕ → ℕ → List Held → Option LockKind
kind_at owner p rows = option_map (λ h. h.kind) (find (holds_byte owner p) rows)

-- ---- What changes

-- what is left of a range before a byte
abbrev pub before_of : ℕ → Held → List Held
before_of first h = if nat_lt h.first first then record h { last = first - 1 } ∷ [] else []

-- what is left of it behind a byte
abbrev pub behind_of : ℕ → Held → List Held
behind_of last h = if nat_lt last h.last then record h { first = last + 1 } ∷ [] else []

-- The owner's lock is taken off the bytes from the first to the last: what is left of a row.
abbrev pub cut : ℕ → ℕ → ℕ → Held → List Held
cut owner first last h = if (h.owner == owner) && overlaps first last h then before_of first h ++ behind_of last h else h ∷ []

-- what is left of all rows
unfoldable pub cleared : ℕ → ℕ → ℕ → List Held → List Held
cleared owner first last rows = flat_map (cut owner first last) rows

-- a row ends before another one: it is of a lower owner, or of the same one and its last byte is lower than the other's first
abbrev pub is_before : Held → Held → Bool
is_before a b = nat_lt a.owner b.owner || ((a.owner == b.owner) && nat_lt a.last b.first)

-- a row in its place: behind those that end before it
unfoldable pub put_range : Held → List Held → List Held
put_range h [] = h ∷ []
put_range h (x ∷ rows) = if is_before x h then x ∷ put_range h rows else h ∷ x ∷ rows

-- The second range goes on where the first one ends: of one owner, with one kind.
abbrev pub touches : Held → Held → Bool
touches a b = (a.owner == b.owner) && (a.last + 1 == b.first) && same_lock a.kind b.kind

-- a row, and those behind it, where each that the one before it touches is one with it
unfoldable pub joined_after : Held → List Held → List Held
joined_after h [] = h ∷ []
joined_after h (x ∷ rows) = if touches h x then joined_after (record h { last = x.last }) rows else h ∷ joined_after x rows

-- neighbours that touch are one row
unfoldable pub joined : List Held → List Held
joined [] = []
joined (h ∷ rows) = joined_after h rows

-- A lock takes the place of what its owner held in the range (RFC 7530, 9.3), and is one with the ranges of its kind that it touches.
unfoldable pub set_to : ℕ → LockKind → ℕ → ℕ → List Held → List Held
set_to owner kind first last rows =
    joined (put_range (record { owner = owner; kind = kind; first = first; last = last }) (cleared owner first last rows))

-- all locks of an owner go
unfoldable pub dropped : ℕ → List Held → List Held
dropped owner rows = filter (λ h. not (h.owner == owner)) rows

-- ---- What is told

-- the owner holds a range
unfoldable pub holds : ℕ → List Held → Bool
holds owner rows = list_any (λ h. h.owner == owner) rows

-- One of two locks is for writing, so that they conflict where two owners hold them at one byte (RFC 7530, 9.2).
abbrev pub kinds_conflict : LockKind → LockKind → Bool
kinds_conflict kind its = is_write kind || is_write its

-- the row is another owner's, has a byte of the range, and conflicts
abbrev pub is_in_way : ℕ → LockKind → ℕ → ℕ → Held → Bool
is_in_way owner kind first last h = not (h.owner == owner) && overlaps first last h && kinds_conflict kind h.kind

-- the least byte of a range from there on that the row has, where it has one
abbrev pub met : ℕ → Held → ℕ
met first h = if nat_lt first h.first then h.first else first

-- of a row and one behind it: that which is met at the lower byte, at one byte the earlier one, whose owner is the lower one
abbrev pub nearest : ℕ → Held → Option Held → Held
nearest first h None = h
nearest first h (Some x) = if nat_le (met first h) (met first x) then h else x

abbrev pub barrier_with : ℕ → LockKind → ℕ → ℕ → Held → Option Held → Option Held
barrier_with owner kind first last h found = if is_in_way owner kind first last h then Some (nearest first h found) else found

-- What a lock of that kind in the range meets first (RFC 7530, 16.10.4 and 16.11.4): of the rows in its way the one at the lowest byte, of
-- several there that of the lowest owner.
unfoldable pub barrier : ℕ → LockKind → ℕ → ℕ → List Held → Option Held
barrier owner kind first last [] = None
barrier owner kind first last (h ∷ rows) = barrier_with owner kind first last h (barrier owner kind first last rows)

-- ---- What holds of the rows

abbrev pub is_range : Held → Bool
is_range h = nat_le h.first h.last

-- A row stands behind another one: it is of a higher owner, or of the same one and behind its last byte, and isn't to be joined with it.
abbrev pub stands_behind : Held → Held → Bool
stands_behind a b = nat_lt a.owner b.owner || ((a.owner == b.owner) && nat_lt a.last b.first && not (touches a b))

-- each row is a range and stands behind the one before it, the first behind this one
abbrev pub stand_behind : Held → List Held → Bool
stand_behind h [] = is_range h
stand_behind h (x ∷ rows) = is_range h && stands_behind h x && stand_behind x rows

-- each row is a range and stands behind the one before it
abbrev pub are_joined : List Held → Bool
are_joined [] = true
are_joined (h ∷ rows) = stand_behind h rows

-- two rows are of different owners, share a byte, and one is for writing
abbrev pub conflicts : Held → Held → Bool
conflicts a b = is_in_way a.owner a.kind a.first a.last b

-- no two rows do
abbrev pub none_conflict : List Held → Bool
none_conflict [] = true
none_conflict (h ∷ rows) = not (list_any (conflicts h) rows) && none_conflict rows

-- The rows are in order, of one owner disjoint and joined where they touch with one kind, and no two of different owners conflict.
pub record IsJoined (rows : List Held) : Type 0 where
  pub rising : are_joined rows ≡ true
  pub apart : none_conflict rows ≡ true

-- ---- What the laws say

-- a lock of this kind conflicts with what another owner holds at a byte
abbrev pub conflicts_with : LockKind → Option LockKind → Bool
conflicts_with kind None = false
conflicts_with kind (Some its) = kinds_conflict kind its

-- No other owner holds a lock at the byte that conflicts with one of this kind.
abbrev pub IsFree : ℕ → LockKind → ℕ → List Held → Type 0
IsFree owner kind p rows = (other : ℕ) → other ≢ owner → conflicts_with kind (kind_at other p rows) ≡ false

-- the row is one of these
abbrev pub IsRow : Held → List Held → Type 0
IsRow h [] = ⊥
IsRow h (x ∷ rows) = (h ≡ x) ⊎ IsRow h rows

-- The range is what a lock of that kind meets first.
pub record IsBarrier (owner : ℕ) (kind : LockKind) (first last : ℕ) (rows : List Held) (h : Held) : Type 0 where
  pub listed : IsRow h rows
  -- another owner holds it, and it conflicts
  pub others : h.owner ≢ owner
  pub in_conflict : kinds_conflict kind h.kind ≡ true
  -- it is met at a byte of the range, and holds that byte
  pub met_within : (first ≤ met first h) × (met first h ≤ last)
  pub met_held : (h.first ≤ met first h) × (met first h ≤ h.last)
  -- no lower byte of the range is in conflict
  pub least_byte : (p : ℕ) → first ≤ p → p < met first h → IsFree owner kind p rows
  -- at that byte no lower owner is
  pub least_owner : (other : ℕ) → other < h.owner → other ≢ owner → conflicts_with kind (kind_at other (met first h) rows) ≡ false
  -- It is the longest range around the byte that its owner holds with its kind.
  pub held : (p : ℕ) → h.first ≤ p → p ≤ h.last → kind_at h.owner p rows ≡ Some h.kind
  pub not_before : (p : ℕ) → p + 1 ≡ h.first → kind_at h.owner p rows ≢ Some h.kind
  pub not_behind : kind_at h.owner (h.last + 1) rows ≢ Some h.kind
