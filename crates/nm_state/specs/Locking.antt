-- Byte-range locks: what refuses them, and what one that acts leaves.
use Rattle.std.specs.Prelude.{◌≡◌, ◌==◌, ℕ, ◌+◌, Bool, Option, Some, None, option_map}
use Rattle.std.specs.Option.{option_or}
use Rattle.nm_rules.specs.Answer.{reply_with}
use Rattle.nm_rules.specs.Checks.{lease_stop, missing_stop, is_dir, refuse_if}
use Rattle.nm_rules.specs.Files.{current}
use Rattle.nm_rules.specs.LockAsks.{access_for, kind_of, last_of, range_stop, counter_of}
use Rattle.nm_rules.specs.LockOps.{denied_told, lock_fault}
use Rattle.nm_rules.specs.LockRows.{LockWord, locks_after, new_lock, ranges_after}
use Rattle.nm_rules.specs.LockRows.LockWord.{Claimed}
use Rattle.nm_rules.specs.Seen.{Seen}
use Rattle.nm_rules.specs.Stateids.{live_stop, lock_live_stop, lock_named, open_named}
use Rattle.nm_types.specs.declared.args.LockArgs.{LockArgs}
use Rattle.nm_types.specs.declared.args.LockTestArgs.{LockTestArgs}
use Rattle.nm_types.specs.declared.args.Locker.{Locker}
use Rattle.nm_types.specs.declared.args.Locker.TheVariants.{New}
use Rattle.nm_types.specs.declared.calls.Reply.{Reply}
use Rattle.nm_types.specs.declared.calls.ReplyValue.TheVariants as told
use Rattle.nm_types.specs.declared.calls.StateRef.{StateRef}
use Rattle.nm_types.specs.declared.calls.Verdict.{Verdict}
use Rattle.nm_types.specs.declared.results.LockOutcome.TheVariants.{Denied as IsDenied}
use Rattle.nm_types.specs.declared.rows.Held.{Held}
use Rattle.nm_types.specs.declared.rows.LockRow.{LockRow}
use Rattle.nm_types.specs.declared.status.OpStatus.{OpStatus}
use Rattle.nm_types.specs.declared.status.OpStatus.TheVariants.{IsDir, Denied as DeniedStatus}
use Rattle.nm_state.specs.declared.lock_asks.Newcomer.{Newcomer}

-- the stateid is of that counter
abbrev pub has_counter : ℕ → LockRow → Bool
has_counter counter row = row.counter == counter

-- the words of a LOCK by which a lock owner comes as a new one
abbrev pub locker_of : Newcomer → Locker
locker_of new = New new.open_seqid new.stateid new.lock_seqid new.owner.text

-- ---- the classes behind the seqid and before the conflict

abbrev pub file_front : Seen → ℕ → Verdict → Option OpStatus → Option OpStatus
file_front s file verdict more =
    option_or (lease_stop verdict) (option_or (missing_stop (current s file)) (option_or (refuse_if (is_dir (current s file)) IsDir) more))

unfoldable pub new_front : Seen → ℕ → LockArgs → StateRef → Verdict → Option OpStatus
new_front s file args stateid verdict =
    file_front s file verdict (option_or (lock_fault args) (live_stop s file stateid (access_for (kind_of args.kind)) (open_named s stateid)))

unfoldable pub known_front : Seen → ℕ → LockArgs → StateRef → Verdict → Option OpStatus
known_front s file args stateid verdict =
    file_front s file verdict (option_or (lock_fault args) (lock_live_stop s file stateid (access_for (kind_of args.kind)) (lock_named s stateid)))

unfoldable pub test_front : Seen → ℕ → LockTestArgs → Verdict → Option OpStatus
test_front s file args verdict = file_front s file verdict (range_stop args.offset args.length)

-- ---- what is told

-- what a LOCK is refused with: by a class before the conflict, by what is in its way, or by a limit
abbrev pub refused_lock : Seen → Option OpStatus → Option Held → Option OpStatus → Option Reply
refused_lock s (Some status) way limit = Some (reply_with status (told.Lock None))
refused_lock s None (Some h) limit = Some (reply_with DeniedStatus (told.Lock (option_map IsDenied (denied_told s.locks (Some h)))))
refused_lock s None None (Some status) = Some (reply_with status (told.Lock None))
refused_lock s None None None = None

-- ---- what is left

-- a stateid is there, and on this file
abbrev pub IsOn : ℕ → Option LockRow → Type 0
IsOn file None = ⊥
IsOn file (Some row) = row.file ≡ file

unfoldable pub after_locks : LockWord → Seen → Seen
after_locks word s = record s { locks = locks_after word s.locks; ranges = ranges_after word s.locks s.ranges }

-- a stateid is made
unfoldable pub after_drawing : Seen → Seen
after_drawing s = record s { last = s.last + 1 }

-- a lock of an owner that is new on the file
unfoldable pub after_new_lock : Seen → ℕ → LockArgs → Newcomer → Seen
after_new_lock s file args new = after_drawing (after_locks
    (Claimed (new_lock (s.last + 1) new.owner (counter_of new.stateid) file) (kind_of args.kind) args.offset (last_of args.offset args.length)) s)
