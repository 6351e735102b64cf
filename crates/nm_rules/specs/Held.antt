-- What is held, as it is shown.
use Rattle.std.specs.Prelude.{◌==◌, nat_lt, ℕ, List, [], ◌∷◌, filter, map, if◌then◌else◌}
use Rattle.nm_rules.specs.Contents.{name_at}
use Rattle.nm_rules.specs.LockRows.{ranges_on}
use Rattle.nm_rules.specs.Seen.{Seen}
use Rattle.nm_types.specs.declared.results.LockRange.{LockRange}
use Rattle.nm_types.specs.declared.rows.FileLocks.{FileLocks}
use Rattle.nm_types.specs.declared.rows.FileRow.{FileRow}
use Rattle.nm_types.specs.declared.rows.Held.{Held}
use Rattle.nm_types.specs.declared.rows.LockRow.{LockRow}
use Rattle.nm_types.specs.declared.rows.OpenRow.{OpenRow}
use Rattle.nm_types.specs.declared.table.HeldKind.TheVariants.{Open as OpenHeld, Lock as LockHeld}
use Rattle.nm_types.specs.declared.table.HeldRow.{HeldRow}

-- an open as it is shown, with its file's name
unfoldable pub held_row : List FileRow → OpenRow → HeldRow
held_row files row = record {
  counter = row.counter;
  seqid = row.seqid;
  file = row.file;
  name = name_at row.file files;
  instance = row.owner.instance;
  owner = row.owner.text;
  row = OpenHeld row.access row.deny;
}

-- the ranges that a stateid holds, of all that are held of its file
abbrev pub range_of : Held → LockRange
range_of h = record { kind = h.kind; first = h.first; last = h.last }

unfoldable pub ranges_of : ℕ → List Held → List LockRange
ranges_of counter ranges = map range_of (filter (λ h. h.owner == counter) ranges)

-- the stateid of a lock owner
unfoldable pub held_lock : List FileRow → List FileLocks → LockRow → HeldRow
held_lock files ranges row = record {
  counter = row.counter;
  seqid = row.seqid;
  file = row.file;
  name = name_at row.file files;
  instance = row.owner.instance;
  owner = row.owner.text;
  row = LockHeld (ranges_of row.counter (ranges_on row.file ranges));
}

-- a row in its place in a list by rising counter
abbrev pub put_held : HeldRow → List HeldRow → List HeldRow
put_held row [] = row ∷ []
put_held row (x ∷ xs) = if nat_lt row.counter x.counter then row ∷ x ∷ xs else x ∷ put_held row xs

-- the stateids of lock owners in their places among the opens
unfoldable pub with_locks : List FileRow → List FileLocks → List LockRow → List HeldRow → List HeldRow
with_locks files ranges [] held = held
with_locks files ranges (row ∷ rows) held = with_locks files ranges rows (put_held (held_lock files ranges row) held)

-- all in the order of their counters
unfoldable pub held_table : Seen → List HeldRow
held_table s = with_locks s.tree.table s.ranges s.locks (map (held_row s.tree.table) s.opens)
