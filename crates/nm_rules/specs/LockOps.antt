-- Operations on byte-range locks (RFC 7530, 16.10, 16.11, 16.12 and 16.37): when each is refused, and what its OK tells.
use Rattle.std.specs.Prelude.{◌==◌, ◌||◌, ◌^◌, not, nat_le, nat_lt, ℕ, ◌+◌, Bool, false, List, length, filter, Option, Some, None, option_map, is_none}
use Rattle.std.specs.Option.{option_and_then, option_or}
use Rattle.nm_types.specs.Parties.{Party}
use Rattle.nm_types.specs.Owners.{same_owner}
use Rattle.nm_rules.specs.Locks.{barrier, cleared, set_to}
use Rattle.nm_rules.specs.LockAsks.{kind_of, access_for, last_of, last_told, range_stop, lock_owner, counter_of}
use Rattle.nm_rules.specs.LockRows.{lock_at, lock_of, ranges_on, put_ranges, ranges_taken, are_idle_of}
use Rattle.nm_rules.specs.Seqids.{owner_at}
use Rattle.nm_rules.specs.Shares.{next_seqid}
use Rattle.nm_rules.specs.Seen.{Seen}
use Rattle.nm_rules.specs.Checks.{Checks, nothing_stops, refusal, refuse_if, lease_stop, missing_stop, is_dir}
use Rattle.nm_rules.specs.Files.{current}
use Rattle.nm_rules.specs.Opens.{one_if, rows_limit}
use Rattle.nm_rules.specs.Stateids.{open_named, resolved, lock_named, unresolved_at, lock_unresolved, owner_stop_at, lock_owner_stop_at, live_stop, lock_live_stop}
use Rattle.nm_types.specs.declared.args.LockArgs.{LockArgs}
use Rattle.nm_types.specs.declared.args.LockTestArgs.{LockTestArgs}
use Rattle.nm_types.specs.declared.args.LockType.{LockType}
use Rattle.nm_types.specs.declared.args.Locker.{Locker}
use Rattle.nm_types.specs.declared.args.Locker.TheVariants.{New, Known}
use Rattle.nm_types.specs.declared.args.ReleaseLockOwnerArgs.{ReleaseLockOwnerArgs}
use Rattle.nm_types.specs.declared.args.UnlockArgs.{UnlockArgs}
use Rattle.nm_types.specs.declared.calls.Deed.TheVariants as deed
use Rattle.nm_types.specs.declared.calls.Owner.{Owner}
use Rattle.nm_types.specs.declared.calls.StateId.{StateId}
use Rattle.nm_types.specs.declared.calls.StateRef.{StateRef}
use Rattle.nm_types.specs.declared.calls.Verdict.{Verdict}
use Rattle.nm_types.specs.declared.owners.OwnerRow.{OwnerRow}
use Rattle.nm_types.specs.declared.results.Denied.{Denied}
use Rattle.nm_types.specs.declared.results.LockOutcome.{LockOutcome}
use Rattle.nm_types.specs.declared.results.LockOutcome.TheVariants.{Locked}
use Rattle.nm_types.specs.declared.rows.Held.{Held}
use Rattle.nm_types.specs.declared.rows.LockRow.{LockRow}
use Rattle.nm_types.specs.declared.rows.OpenRow.{OpenRow}
use Rattle.nm_types.specs.declared.status.OpStatus.{OpStatus}
use Rattle.nm_types.specs.declared.status.OpStatus.TheVariants as status

-- ---- what they share

-- What is in the way of a lock of the stateid with this counter.
unfoldable pub in_the_way : Seen → ℕ → ℕ → LockType → ℕ → ℕ → Option Held
in_the_way s counter file kind offset len = barrier counter (kind_of kind) offset (last_of offset len) (ranges_on file s.ranges)

abbrev pub denied_stop : Option Held → Option OpStatus
denied_stop found = refuse_if (not (is_none found)) status.Denied

-- a range with the owner that holds it
abbrev pub denied_by : Held → LockRow → Denied
denied_by h row = record {
  range = record { kind = h.kind; first = h.first; last = last_told h.first h.last };
  owner = row.owner.text;
  instance = Some row.owner.instance;
}

abbrev pub denied_with : List LockRow → Held → Option Denied
denied_with locks h = option_map (denied_by h) (lock_at h.owner locks)

-- what a refusal with DENIED tells (RFC 7530, 16.10.4)
unfoldable pub denied_told : List LockRow → Option Held → Option Denied
denied_told locks found = option_and_then (denied_with locks) found

-- the rows of locks that there are where a file has these ranges, and so many stateids are new
abbrev pub lock_rows : Seen → ℕ → ℕ → List Held → ℕ
lock_rows s new file ranges = (length s.locks + new) + ranges_taken (put_ranges file ranges s.ranges)

-- the ranges of a file once a stateid has taken one, or has given one up
unfoldable pub ranges_with : Seen → ℕ → ℕ → LockType → ℕ → ℕ → List Held
ranges_with s counter file kind offset len = set_to counter (kind_of kind) offset (last_of offset len) (ranges_on file s.ranges)

unfoldable pub ranges_without : Seen → ℕ → ℕ → ℕ → ℕ → List Held
ranges_without s counter file offset len = cleared counter offset (last_of offset len) (ranges_on file s.ranges)

-- More rows than there may be.
abbrev pub rows_stop : ℕ → Option OpStatus
rows_stop rows = refuse_if (nat_lt rows_limit rows) status.Resource

-- ---- LOCK

unfoldable pub lock_fault : LockArgs → Option OpStatus
lock_fault args = option_or (range_stop args.offset args.length) (refuse_if args.reclaim status.NoGrace)

-- The owner is known, and this isn't its next seqid.
unfoldable pub is_out_of_turn : Option OwnerRow → ℕ → Bool
is_out_of_turn None seqid = false
is_out_of_turn (Some row) seqid = not (seqid == next_seqid row.seqid)

-- An owner that has a stateid on the file, or is known with another next seqid, doesn't come as a new one.
unfoldable pub newcomer_stop : Seen → Owner → ℕ → ℕ → Option OpStatus
newcomer_stop s owner file seqid =
    refuse_if (not (is_none (lock_of owner file s.locks)) || is_out_of_turn (owner_at owner s.owners) seqid) status.BadSeqid

-- The open owner moves on, so that a closed open of its doesn't stay.
abbrev pub closed_without : Option OpenRow → List OpenRow → List OpenRow
closed_without None closed = closed
closed_without (Some row) closed = filter (λ x. not (same_owner row.owner x.owner)) closed

-- the rows that an OK leaves where the lock owner is new on the file
abbrev pub rows_with_new : Seen → Option OpenRow → Owner → ℕ → LockArgs → ℕ
rows_with_new s opened owner file args = length s.owners + one_if (is_none (owner_at owner s.owners)) + length s.opens
    + length (closed_without opened s.closed) + lock_rows s 1 file (ranges_with s (s.last + 1) file args.kind args.offset args.length)

unfoldable pub new_limit : Seen → Option OpenRow → Owner → ℕ → LockArgs → Option OpStatus
new_limit s opened owner file args =
    option_or (refuse_if (nat_le (2 ^ 63) s.last) status.Resource) (rows_stop (rows_with_new s opened owner file args))

-- a lock owner without a stateid on the file: the open's stateid is named
abbrev pub new_checks : Seen → Party → ℕ → LockArgs → ℕ → StateRef → ℕ → List ℕ → Verdict → Checks
new_checks s party file args open_seqid stateid lock_seqid text verdict = record nothing_stops {
  unresolved = unresolved_at (Some party) (resolved s stateid);
  seqid = option_or (owner_stop_at s (resolved s stateid) open_seqid (Some party) file (deed.Lock args))
      (refusal (newcomer_stop s (lock_owner party text) file lock_seqid));
  lease = lease_stop verdict;
  missing = missing_stop (current s file);
  kind = refuse_if (is_dir (current s file)) status.IsDir;
  arguments = lock_fault args;
  stale = live_stop s file stateid (access_for (kind_of args.kind)) (open_named s stateid);
  conflict = denied_stop (in_the_way s (s.last + 1) file args.kind args.offset args.length);
  limit = new_limit s (open_named s stateid) (lock_owner party text) file args;
}

-- the rows that an OK of an operation on a stateid that is there leaves
abbrev pub rows_with_known : Seen → ℕ → List Held → ℕ
rows_with_known s file ranges = length s.owners + length s.opens + length s.closed + lock_rows s 0 file ranges

-- a lock owner with one
abbrev pub known_checks : Seen → Option Party → ℕ → LockArgs → StateRef → ℕ → Verdict → Checks
known_checks s caller file args stateid lock_seqid verdict = record nothing_stops {
  unresolved = lock_unresolved caller (lock_named s stateid);
  seqid = lock_owner_stop_at s (lock_named s stateid) lock_seqid caller file (deed.Lock args);
  lease = lease_stop verdict;
  missing = missing_stop (current s file);
  kind = refuse_if (is_dir (current s file)) status.IsDir;
  arguments = lock_fault args;
  stale = lock_live_stop s file stateid (access_for (kind_of args.kind)) (lock_named s stateid);
  conflict = denied_stop (in_the_way s (counter_of stateid) file args.kind args.offset args.length);
  limit = rows_stop (rows_with_known s file (ranges_with s (counter_of stateid) file args.kind args.offset args.length));
}

-- Whoever calls for nobody names another's stateid.
unfoldable pub lock_checks : Seen → Option Party → ℕ → LockArgs → Locker → Verdict → Checks
lock_checks s None file args (New open_seqid stateid lock_seqid text) verdict = record nothing_stops { unresolved = Some status.BadStateId }
lock_checks s (Some party) file args (New open_seqid stateid lock_seqid text) verdict =
    new_checks s party file args open_seqid stateid lock_seqid text verdict
lock_checks s caller file args (Known stateid lock_seqid) verdict = known_checks s caller file args stateid lock_seqid verdict

-- the counter by which a lock is tested: that of its stateid, or the one that a new stateid would get
unfoldable pub locker_counter : Seen → Locker → ℕ
locker_counter s (New open_seqid stateid lock_seqid text) = s.last + 1
locker_counter s (Known stateid lock_seqid) = counter_of stateid

-- the stateid of a lock owner as it is changed: its seqid goes on by one
abbrev pub next_lock_stateid : ℕ → LockRow → StateId
next_lock_stateid fs row = record { seqid = next_seqid row.seqid; fs = fs; counter = row.counter }

unfoldable pub changed_lock : Seen → StateRef → Option StateId
changed_lock s stateid = option_map (next_lock_stateid s.fs) (lock_named s stateid)

-- A new stateid begins with seqid 1.
unfoldable pub locked_stateid : Seen → Locker → Option StateId
locked_stateid s (New open_seqid stateid lock_seqid text) = Some (record { seqid = 1; fs = s.fs; counter = s.last + 1 })
locked_stateid s (Known stateid lock_seqid) = changed_lock s stateid

abbrev pub lock_value : Seen → LockArgs → Option LockOutcome
lock_value s args = option_map Locked (locked_stateid s args.locker)

abbrev pub lock_denied : Seen → ℕ → LockArgs → Option Denied
lock_denied s file args =
    denied_told s.locks (in_the_way s (locker_counter s args.locker) file args.kind args.offset args.length)

-- ---- LOCKT

abbrev pub counter_or : ℕ → Option LockRow → ℕ
counter_or new None = new
counter_or new (Some row) = row.counter

-- An owner without a stateid on the file is tested as a new one.
abbrev pub tester : Seen → Party → ℕ → List ℕ → ℕ
tester s party file text = counter_or (s.last + 1) (lock_of (lock_owner party text) file s.locks)

abbrev pub test_barrier : Seen → Party → ℕ → LockTestArgs → Option Held
test_barrier s party file args = in_the_way s (tester s party file args.owner) file args.kind args.offset args.length

unfoldable pub test_checks : Seen → Option Party → ℕ → LockTestArgs → Verdict → Checks
test_checks s None file args verdict = record nothing_stops { unresolved = Some status.StaleClientId }
test_checks s (Some party) file args verdict = record nothing_stops {
  lease = lease_stop verdict;
  missing = missing_stop (current s file);
  kind = refuse_if (is_dir (current s file)) status.IsDir;
  arguments = range_stop args.offset args.length;
  conflict = denied_stop (test_barrier s party file args);
}

unfoldable pub test_denied : Seen → Option Party → ℕ → LockTestArgs → Option Denied
test_denied s None file args = None
test_denied s (Some party) file args = denied_told s.locks (test_barrier s party file args)

-- ---- LOCKU

unfoldable pub unlock_checks : Seen → Option Party → ℕ → UnlockArgs → Verdict → Checks
unlock_checks s caller file args verdict = record nothing_stops {
  unresolved = lock_unresolved caller (lock_named s args.stateid);
  seqid = lock_owner_stop_at s (lock_named s args.stateid) args.seqid caller file (deed.Unlock args);
  lease = lease_stop verdict;
  missing = missing_stop (current s file);
  kind = refuse_if (is_dir (current s file)) status.IsDir;
  arguments = range_stop args.offset args.length;
  stale = lock_live_stop s file args.stateid 0 (lock_named s args.stateid);
  limit = rows_stop (rows_with_known s file (ranges_without s (counter_of args.stateid) file args.offset args.length));
}

-- ---- RELEASE_LOCKOWNER

unfoldable pub release_checks : Seen → Option Party → ReleaseLockOwnerArgs → Verdict → Checks
release_checks s None args verdict = record nothing_stops { unresolved = Some status.StaleClientId }
release_checks s (Some party) args verdict = record nothing_stops {
  lease = lease_stop verdict;
  conflict = refuse_if (not (are_idle_of (lock_owner party args.owner) s.locks s.ranges)) status.LocksHeld;
}
