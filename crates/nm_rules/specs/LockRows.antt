-- Byte-range locks of a file system (RFC 7530, 9.1 and 16.10): the stateids of lock owners, and the ranges that they hold.
use Rattle.std.specs.Prelude.{◌≡◌, ◌≤◌, is_none, ◌==◌, ◌&&◌, ◌||◌, not, nat_lt, nat_le, ℕ, ◌+◌, Bool, true, false, List, [], ◌∷◌, length, Option, Some, None, find, filter, map, if◌then◌else◌}
use Rattle.std.specs.List.{list_all, list_any}
use Rattle.nm_rules.specs.Lists.{is_empty}
use Rattle.nm_types.specs.Parties.{Party, same_party}
use Rattle.nm_types.specs.Owners.{same_owner}
use Rattle.nm_rules.specs.Shares.{next_seqid}
use Rattle.nm_rules.specs.Locks.{kind_at, kinds_conflict, holds, cleared, set_to, barrier, is_inside, IsJoined}
use Rattle.nm_types.specs.declared.calls.Owner.{Owner}
use Rattle.nm_types.specs.declared.results.LockKind.{LockKind}
use Rattle.nm_types.specs.declared.rows.FileLocks.{FileLocks}
use Rattle.nm_types.specs.declared.rows.Held.{Held}
use Rattle.nm_types.specs.declared.rows.LockRow.{LockRow}

-- ---- stateids

-- the lock stateid with that counter
unfoldable pub lock_at : ℕ → List LockRow → Option LockRow
lock_at counter rows = find (λ row. row.counter == counter) rows

abbrev pub is_lock_of : Owner → ℕ → LockRow → Bool
is_lock_of owner file row = (row.file == file) && same_owner owner row.owner

-- that of an owner on a file
unfoldable pub lock_of : Owner → ℕ → List LockRow → Option LockRow
lock_of owner file rows = find (is_lock_of owner file) rows

-- ---- ranges

-- the ranges of a file
unfoldable pub ranges_on : ℕ → List FileLocks → List Held
ranges_on file [] = []
ranges_on file (x ∷ xs) = if x.file == file then x.ranges else ranges_on file xs

abbrev pub put_file : ℕ → List Held → List FileLocks → List FileLocks
put_file file ranges [] = record { file = file; ranges = ranges } ∷ []
put_file file ranges (x ∷ xs) = if x.file == file then record { file = file; ranges = ranges } ∷ xs else x ∷ put_file file ranges xs

-- A file without ranges has no row.
unfoldable pub put_ranges : ℕ → List Held → List FileLocks → List FileLocks
put_ranges file [] rows = filter (λ x. not (x.file == file)) rows
put_ranges file (h ∷ hs) rows = put_file file (h ∷ hs) rows

-- the kind in which an owner holds a byte of a file
abbrev pub held_by : Option LockRow → ℕ → List Held → Option LockKind
held_by None byte ranges = None
held_by (Some row) byte ranges = kind_at row.counter byte ranges

unfoldable pub lock_in : Owner → ℕ → ℕ → List LockRow → List FileLocks → Option LockKind
lock_in owner file byte locks ranges = held_by (lock_of owner file locks) byte (ranges_on file ranges)

-- how many ranges are held
unfoldable pub ranges_taken : List FileLocks → ℕ
ranges_taken [] = 0
ranges_taken (x ∷ xs) = length x.ranges + ranges_taken xs

-- a stateid that holds nothing
abbrev pub is_idle : List FileLocks → LockRow → Bool
is_idle ranges row = not (holds row.counter (ranges_on row.file ranges))

-- No stateid of the open with that counter holds anything.
unfoldable pub are_idle_with : ℕ → List LockRow → List FileLocks → Bool
are_idle_with counter locks ranges = list_all (λ row. not (row.opened == counter) || is_idle ranges row) locks

-- No stateid of the owner does.
unfoldable pub are_idle_of : Owner → List LockRow → List FileLocks → Bool
are_idle_of owner locks ranges = list_all (λ row. not (same_owner owner row.owner) || is_idle ranges row) locks

-- a stateid of an owner that is new on a file
abbrev pub new_lock : ℕ → Owner → ℕ → ℕ → LockRow
new_lock counter owner opened file = record { counter = counter; seqid = 1; owner = owner; opened = opened; file = file }

-- A lock and an unlock raise the seqid of their stateid by one.
abbrev pub renewed_lock : LockRow → LockRow
renewed_lock row = record row { seqid = next_seqid row.seqid }

-- ---- how the two tables change

pub data LockWord : Type 0 where
  AsIs : LockWord
  -- a stateid takes a range: its row, which is new or was there
  Claimed : LockRow → LockKind → ℕ → ℕ → LockWord
  -- a stateid gives up a range
  Cleared : LockRow → ℕ → ℕ → LockWord
  -- the stateids of an open go; they hold nothing
  ClosedWith : ℕ → LockWord
  -- the stateids of an owner go; they hold nothing
  Released : Owner → LockWord
  -- the stateids of an instance go, with all that they hold
  EndedOf : Party → LockWord

-- a range is taken or given up by a stateid that is there
abbrev pub claim_if : Option LockRow → LockKind → ℕ → ℕ → LockWord
claim_if None kind first last = AsIs
claim_if (Some row) kind first last = Claimed row kind first last

abbrev pub clear_if : Option LockRow → ℕ → ℕ → LockWord
clear_if None first last = AsIs
clear_if (Some row) first last = Cleared row first last

abbrev pub put_lock : LockRow → List LockRow → List LockRow
put_lock row [] = row ∷ []
put_lock row (x ∷ xs) = if x.counter == row.counter then row ∷ xs else x ∷ put_lock row xs

unfoldable pub locks_after : LockWord → List LockRow → List LockRow
locks_after AsIs rows = rows
locks_after (Claimed row kind first last) rows = put_lock row rows
locks_after (Cleared row first last) rows = put_lock row rows
locks_after (ClosedWith counter) rows = filter (λ x. not (x.opened == counter)) rows
locks_after (Released owner) rows = filter (λ x. not (same_owner owner x.owner)) rows
locks_after (EndedOf party) rows = filter (λ x. not (same_party party x.owner.instance)) rows

-- the stateid of that counter is of this instance
abbrev pub is_of : Party → ℕ → LockRow → Bool
is_of party counter row = (row.counter == counter) && same_party party row.owner.instance

abbrev pub is_held_by : Party → List LockRow → ℕ → Bool
is_held_by party locks counter = list_any (is_of party counter) locks

-- what the ranges of a file are without those of an instance
abbrev pub without : Party → List LockRow → FileLocks → FileLocks
without party locks x = record { file = x.file; ranges = filter (λ h. not (is_held_by party locks h.owner)) x.ranges }

abbrev pub has_ranges : FileLocks → Bool
has_ranges x = not (is_empty x.ranges)

-- the ranges after a word, by the stateids before it
unfoldable pub ranges_after : LockWord → List LockRow → List FileLocks → List FileLocks
ranges_after AsIs locks ranges = ranges
ranges_after (Claimed row kind first last) locks ranges =
    put_ranges row.file (set_to row.counter kind first last (ranges_on row.file ranges)) ranges
ranges_after (Cleared row first last) locks ranges =
    put_ranges row.file (cleared row.counter first last (ranges_on row.file ranges)) ranges
ranges_after (ClosedWith counter) locks ranges = ranges
ranges_after (Released owner) locks ranges = ranges
ranges_after (EndedOf party) locks ranges = filter has_ranges (map (without party locks) ranges)

-- What a word leaves of the kind in which an owner holds a byte of a file: a range that is taken or given up counts for its
-- owner alone, and with its instance's end an owner holds nothing.
unfoldable pub lock_left : LockWord → Owner → ℕ → ℕ → Option LockKind → Option LockKind
lock_left AsIs owner file byte before = before
lock_left (Claimed row kind first last) owner file byte before =
    if is_lock_of owner file row && is_inside first last byte then Some kind else before
lock_left (Cleared row first last) owner file byte before =
    if is_lock_of owner file row && is_inside first last byte then None else before
lock_left (ClosedWith counter) owner file byte before = before
lock_left (Released its) owner file byte before = before
lock_left (EndedOf party) owner file byte before = if same_party party owner.instance then None else before

-- ---- what holds of them

-- the counters rise, each above this one, and none is past the last
abbrev pub locks_rise : ℕ → ℕ → List LockRow → Bool
locks_rise above last [] = nat_le above last
locks_rise above last (row ∷ rows) = nat_lt above row.counter && locks_rise row.counter last rows

-- Two stateids on one file have different owners.
abbrev pub differ : LockRow → LockRow → Bool
differ a b = if a.file == b.file then not (same_owner a.owner b.owner) else true

abbrev pub all_differ : List LockRow → Bool
all_differ [] = true
all_differ (row ∷ rows) = list_all (differ row) rows && all_differ rows

-- Each file has one row of ranges.
abbrev pub is_other_file : ℕ → FileLocks → Bool
is_other_file file x = not (x.file == file)

abbrev pub files_differ : List FileLocks → Bool
files_differ [] = true
files_differ (x ∷ xs) = list_all (is_other_file x.file) xs && files_differ xs

-- the stateid of that counter is there, and is one on this file
abbrev pub is_on : ℕ → ℕ → LockRow → Bool
is_on counter file row = (row.counter == counter) && (row.file == file)

abbrev pub is_lock_on : ℕ → ℕ → List LockRow → Bool
is_lock_on counter file locks = list_any (is_on counter file) locks

-- what two stateids hold at a byte doesn't conflict
abbrev pub go_together : Option LockKind → Option LockKind → Bool
go_together None other = true
go_together (Some a) None = true
go_together (Some a) (Some b) = not (kinds_conflict a b)

pub record LocksStand (last : ℕ) (locks : List LockRow) (ranges : List FileLocks) : Type 0 where
  pub rising : locks_rise 0 last locks ≡ true
  pub owners : all_differ locks ≡ true
  pub files : files_differ ranges ≡ true
  -- those of a file are joined, and no two of its stateids hold a byte where one of them writes
  pub joined : (file : ℕ) → IsJoined (ranges_on file ranges)
  -- only a stateid on the file holds bytes of it
  pub held : (counter file byte : ℕ) → is_lock_on counter file locks ≡ false → kind_at counter byte (ranges_on file ranges) ≡ None

-- ---- when a word may follow

-- the row that is there of that counter is of the same owner, on the same file
abbrev pub is_known : LockRow → Option LockRow → Bool
is_known row None = false
is_known row (Some old) = is_lock_of row.owner row.file old

-- A new stateid has the next counter, and its owner has none on the file yet; another one is there.
abbrev pub may_put : ℕ → List LockRow → LockRow → Bool
may_put last locks row =
    if row.counter == last + 1 then is_none (lock_of row.owner row.file locks) else is_known row (lock_at row.counter locks)

abbrev pub MayFollow : LockWord → ℕ → List LockRow → List FileLocks → Type 0
MayFollow AsIs last locks ranges = Unit {0}
MayFollow (Claimed row kind from to) last locks ranges =
    (may_put last locks row ≡ true) × (from ≤ to) × (barrier row.counter kind from to (ranges_on row.file ranges) ≡ None)
MayFollow (Cleared row from to) last locks ranges = (is_known row (lock_at row.counter locks) ≡ true) × (from ≤ to)
MayFollow (ClosedWith counter) last locks ranges = are_idle_with counter locks ranges ≡ true
MayFollow (Released owner) last locks ranges = are_idle_of owner locks ranges ≡ true
MayFollow (EndedOf party) last locks ranges = Unit {0}

-- the counter of the last stateid after a word
abbrev pub last_after : LockWord → ℕ → ℕ
last_after (Claimed row kind from to) last = if row.counter == last + 1 then last + 1 else last
last_after _ last = last
