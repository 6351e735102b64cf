-- What the rows of stateids say, and how their counters stand.
use Rattle.std.specs.Prelude.{◌==◌, ◌&&◌, ◌||◌, nat_lt, is_none, ℕ, Bool, true, false, List, [], ◌∷◌, Option, Some, None, option_map}
use Rattle.std.specs.List.{list_all, list_any}
use Rattle.std.specs.Option.{option_or}
use Rattle.nm_types.specs.Owners.{same_owner}
use Rattle.nm_types.specs.Parties.{same_party}
use Rattle.nm_rules.specs.LockRows.{lock_at, lock_of}
use Rattle.nm_rules.specs.Readings.{Share}
use Rattle.nm_rules.specs.Shares.{open_at, open_of}
use Rattle.nm_laws.specs.StateidNow.{OpenStateid, LockStateid, Maker}
use Rattle.nm_types.specs.declared.calls.Owner.{Owner}
use Rattle.nm_types.specs.declared.rows.LockRow.{LockRow}
use Rattle.nm_types.specs.declared.rows.OpenRow.{OpenRow}
use Rattle.nm_types.specs.declared.table.HeldRow.{HeldRow}

-- the stateid that a row of opens has
abbrev pub open_stateid : OpenRow → OpenStateid
open_stateid row = record { counter = row.counter; seqid = row.seqid }

unfoldable pub open_in : Owner → ℕ → List OpenRow → Option OpenStateid
open_in owner file rows = option_map open_stateid (open_of owner file rows)

-- the one that a row of lock owners has
abbrev pub lock_stateid : LockRow → LockStateid
lock_stateid row = record { counter = row.counter; seqid = row.seqid; opened = row.opened }

unfoldable pub lock_in : Owner → ℕ → List LockRow → Option LockStateid
lock_in owner file rows = option_map lock_stateid (lock_of owner file rows)

-- the row of an owner's open on a file, with this stateid and this share
abbrev pub row_of : Owner → ℕ → Option OpenStateid → Option Share → Option OpenRow
row_of owner file None share = None
row_of owner file (Some id) None = None
row_of owner file (Some id) (Some share) = Some (record {
  counter = id.counter;
  seqid = id.seqid;
  owner = owner;
  file = file;
  access = share.access;
  deny = share.deny;
})

-- that of a lock owner's stateid
abbrev pub lock_row_of : Owner → ℕ → Option LockStateid → Option LockRow
lock_row_of owner file None = None
lock_row_of owner file (Some id) = Some (record { counter = id.counter; seqid = id.seqid; owner = owner; opened = id.opened; file = file })

-- for whom a row's stateid was made, on which file and with which open
abbrev pub open_maker : OpenRow → Maker
open_maker row = record { owner = row.owner; file = row.file; opened = row.counter }

abbrev pub lock_maker : LockRow → Maker
lock_maker row = record { owner = row.owner; file = row.file; opened = row.opened }

-- the stateid with this counter, an open's or a lock owner's
unfoldable pub stateid_in : ℕ → List OpenRow → List LockRow → Option Maker
stateid_in k opens locks = option_or (option_map open_maker (open_at k opens)) (option_map lock_maker (lock_at k locks))

-- a closed open of the owner has this counter
unfoldable pub is_closed_of : Owner → ℕ → List OpenRow → Bool
is_closed_of owner k rows = list_any (λ row. same_owner owner row.owner && (row.counter == k)) rows

-- The open with which a lock owner's stateid was made: of the same file, and of the same instance.
abbrev pub is_opened_by : LockRow → Option OpenRow → Bool
is_opened_by row None = false
is_opened_by row (Some its) = (its.file == row.file) && same_party its.owner.instance row.owner.instance

unfoldable pub all_are_opened : List OpenRow → List LockRow → Bool
all_are_opened opens locks = list_all (λ row. is_opened_by row (open_at row.opened opens)) locks

-- no counter is both an open's and a lock owner's
unfoldable pub is_one : ℕ → List OpenRow → List LockRow → Bool
is_one k opens locks = is_none (open_at k opens) || is_none (lock_at k locks)

-- the counters rise, each above this one
abbrev pub held_rises : ℕ → List HeldRow → Bool
held_rises above [] = true
held_rises above (row ∷ rows) = nat_lt above row.counter && held_rises row.counter rows
