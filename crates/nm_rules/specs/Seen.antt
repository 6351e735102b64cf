-- The tables of a file system, under the same words of change as what stands now.
use Rattle.std.specs.Prelude.{ℕ, ◌+◌, Bool, List, [], ◌∷◌, if◌then◌else◌}
use Rattle.nm_rules.specs.Contents.{TreeNow, empty_tree, file_at, child_at, tree_after}
use Rattle.nm_rules.specs.LockRows.{locks_after, ranges_after}
use Rattle.nm_rules.specs.Seqids.{owner_at, owners_after, closed_after}
use Rattle.nm_rules.specs.Shares.{open_at, opens_after}
use Rattle.nm_rules.specs.Past.{Past, Now, Words, words}
use Rattle.nm_types.specs.declared.calls.Event.{Event}
use Rattle.nm_types.specs.declared.calls.Reply.{Reply}
use Rattle.nm_types.specs.declared.owners.OwnerRow.{OwnerRow}
use Rattle.nm_types.specs.declared.rows.FileLocks.{FileLocks}
use Rattle.nm_types.specs.declared.rows.LockRow.{LockRow}
use Rattle.nm_types.specs.declared.rows.OpenRow.{OpenRow}

-- A file system: its number and whether it grants delegations, which never change, and its tables.
pub record Seen : Type 0 where
  pub fs : ℕ
  pub grants : Bool
  pub tree : TreeNow
  pub opens : List OpenRow
  -- what is kept of the owners that are known
  pub owners : List OwnerRow
  -- the opens whose CLOSE is their owner's kept call, as they were closed
  pub closed : List OpenRow
  -- the stateids of lock owners, and the ranges that they hold
  pub locks : List LockRow
  pub ranges : List FileLocks
  -- the counter of the last stateid that was made
  pub last : ℕ

-- Before the first entry there is no file but the root, nothing is held, and no owner is known.
abbrev pub empty : ℕ → Bool → Seen
empty fs grants = record { fs = fs; grants = grants; tree = empty_tree; opens = []; owners = []; closed = []; locks = []; ranges = []; last = 0 }

-- what stands, read off the tables
unfoldable pub look : Seen → Now
look s = record {
  file_by = λ number. file_at number s.tree.table;
  child_by = λ dir name. child_at dir name s.tree.table;
  open_by = λ counter. open_at counter s.opens;
  owner_by = λ owner. owner_at owner s.owners;
  closed = s.closed;
  locks = s.locks;
  ranges = s.ranges;
  last = s.last;
  last_file = s.tree.last_file;
  change = s.tree.change;
}

unfoldable pub after_words : Seen → Words → Seen
after_words s w = record s {
  tree = tree_after w.tree s.tree;
  opens = opens_after w.opens s.opens;
  owners = owners_after w.starts (owners_after w.owners s.owners);
  closed = closed_after w.starts (closed_after w.owners s.closed);
  locks = locks_after w.locks s.locks;
  ranges = ranges_after w.locks s.locks s.ranges;
  last = if w.drew then s.last + 1 else s.last;
}

-- the tables after an event that was answered so
abbrev pub after : Seen → Event → Reply → Seen
after s event reply = after_words s (words (look s) event reply)

-- the tables after a list of entries
unfoldable pub seen : ℕ → Bool → Past → Seen
seen fs grants [] = empty fs grants
seen fs grants (x ∷ earlier) = after (seen fs grants earlier) x.event x.reply
