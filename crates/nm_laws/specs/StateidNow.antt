-- What stands of stateids, in the standard's words, read off the entries (RFC 7530, 9.1.4, 16.2, 16.10, 16.12, 16.16, 16.18, 16.19 and
-- 16.37). An entry is asked what it did, and never a table which rows it changed: the stateid is the one that the call names.
use Rattle.std.specs.Prelude.{◌==◌, ◌&&◌, is_none, ℕ, ◌+◌, Bool, false, List, [], ◌∷◌, Option, Some, None, if◌then◌else◌}
use Rattle.nm_types.specs.Owners.{same_owner}
use Rattle.nm_types.specs.Parties.{Party, same_party}
use Rattle.nm_rules.specs.LockAsks.{lock_owner, counter_of}
use Rattle.nm_rules.specs.LockReadings.{is_unlocked}
use Rattle.nm_rules.specs.OwnerReadings.{kept_close}
use Rattle.nm_rules.specs.Past.{Past, Now, now, acts, opener, is_locked, is_released}
use Rattle.nm_rules.specs.StateidReadings.{stateids_made}
use Rattle.nm_types.specs.declared.args.Locker.{Locker}
use Rattle.nm_types.specs.declared.args.Locker.TheVariants.{New, Known}
use Rattle.nm_types.specs.declared.args.OpenArgs.{OpenArgs}
use Rattle.nm_types.specs.declared.calls.Deed.{Deed}
use Rattle.nm_types.specs.declared.calls.Deed.TheVariants as deed
use Rattle.nm_types.specs.declared.calls.Event.{Event}
use Rattle.nm_types.specs.declared.calls.Event.TheVariants.{Asked, Ended}
use Rattle.nm_types.specs.declared.calls.Owner.{Owner}
use Rattle.nm_types.specs.declared.calls.Reply.{Reply}
use Rattle.nm_types.specs.declared.calls.ReplyValue.{ReplyValue}
use Rattle.nm_types.specs.declared.calls.ReplyValue.TheVariants as told
use Rattle.nm_types.specs.declared.calls.StateRef.{StateRef}
use Rattle.nm_types.specs.declared.owners.OwnerRow.{OwnerRow}

-- ---- what an entry did to stateids

pub data StateidWord : Type 0 where
  Nothing : StateidWord
  -- an OPEN of this owner opened this file
  OpenedFor : Owner → ℕ → StateidWord
  -- an OPEN_CONFIRM or an OPEN_DOWNGRADE of the open with this counter
  RenewedAt : ℕ → StateidWord
  -- a CLOSE of the open with this counter
  ClosedAt : ℕ → StateidWord
  -- a LOCK for a lock owner that is new on this file, by the open with this counter
  LockedFor : Owner → ℕ → ℕ → StateidWord
  -- a LOCK or a LOCKU with the lock stateid that has this counter
  RelockedAt : ℕ → StateidWord
  -- a RELEASE_LOCKOWNER of this owner
  ReleasedFor : Owner → StateidWord
  -- the end of this instance
  EndedFor : Party → StateidWord

abbrev pub open_word : Option Party → OpenArgs → ReplyValue → StateidWord
open_word (Some party) args (told.Open (Some opened)) = OpenedFor (opener party args) opened.file
open_word (Some party) args _ = Nothing
open_word None args value = Nothing

abbrev pub confirm_word : StateRef → ReplyValue → StateidWord
confirm_word stateid (told.OpenConfirm (Some _)) = RenewedAt (counter_of stateid)
confirm_word stateid _ = Nothing

abbrev pub downgrade_word : StateRef → ReplyValue → StateidWord
downgrade_word stateid (told.OpenDowngrade (Some _)) = RenewedAt (counter_of stateid)
downgrade_word stateid _ = Nothing

abbrev pub close_word : StateRef → ReplyValue → StateidWord
close_word stateid (told.Close (Some _)) = ClosedAt (counter_of stateid)
close_word stateid _ = Nothing

abbrev pub lock_word : Option Party → ℕ → Locker → StateidWord
lock_word (Some party) file (New open_seqid stateid lock_seqid text) = LockedFor (lock_owner party text) file (counter_of stateid)
lock_word None file (New open_seqid stateid lock_seqid text) = Nothing
lock_word caller file (Known stateid lock_seqid) = RelockedAt (counter_of stateid)

abbrev pub release_word : Option Party → List ℕ → StateidWord
release_word (Some party) text = ReleasedFor (lock_owner party text)
release_word None text = Nothing

-- what a call did that was carried out
unfoldable pub stateid_word : Option Party → ℕ → Deed → ReplyValue → StateidWord
stateid_word caller file (deed.Close args) value = close_word args.stateid value
stateid_word caller file (deed.Lock args) value = if is_locked value then lock_word caller file args.locker else Nothing
stateid_word caller file (deed.Open args) value = open_word caller args value
stateid_word caller file (deed.OpenConfirm args) value = confirm_word args.stateid value
stateid_word caller file (deed.OpenDowngrade args) value = downgrade_word args.stateid value
stateid_word caller file (deed.ReleaseLockOwner args) value = if is_released value then release_word caller args.owner else Nothing
stateid_word caller file (deed.Unlock args) value = if is_unlocked value then RelockedAt (counter_of args.stateid) else Nothing
stateid_word caller file _ value = Nothing

-- Only an entry that acts does anything: one that was answered OK, and was fresh.
unfoldable pub event_word : Now → Event → Reply → StateidWord
event_word n (Asked call verdict) r = if acts n call r then stateid_word call.caller call.file call.deed r.value else Nothing
event_word n (Ended party) r = EndedFor party

-- ---- an owner's open

-- the counter and the seqid of an open's stateid
pub record OpenStateid : Type 0 where
  pub counter : ℕ
  pub seqid : ℕ

-- From 2^32 - 1 a seqid goes on to 1, since 0 stands for the newest (RFC 7530, 9.1.4.2).
unfoldable pub seqid_after : ℕ → ℕ
seqid_after n = if n == 4294967295 then 1 else n + 1

-- A first OPEN makes a stateid with this counter and with seqid 1, a further one raises the seqid of the one that is there.
abbrev pub opened : ℕ → Option OpenStateid → OpenStateid
opened counter None = record { counter = counter; seqid = 1 }
opened counter (Some id) = record { counter = id.counter; seqid = seqid_after id.seqid }

-- The stateid with this counter is raised, and is closed; any other one stays.
abbrev pub renewed : ℕ → Option OpenStateid → Option OpenStateid
renewed counter None = None
renewed counter (Some id) = if id.counter == counter then Some (record { counter = id.counter; seqid = seqid_after id.seqid }) else Some id

abbrev pub closed : ℕ → Option OpenStateid → Option OpenStateid
closed counter None = None
closed counter (Some id) = if id.counter == counter then None else Some id

-- what an entry leaves of an owner's open on a file, where the next stateid gets this counter
unfoldable pub open_after : ℕ → StateidWord → Owner → ℕ → Option OpenStateid → Option OpenStateid
open_after next (OpenedFor its its_file) owner file before = if (its_file == file) && same_owner owner its then Some (opened next before) else before
open_after next (RenewedAt counter) owner file before = renewed counter before
open_after next (ClosedAt counter) owner file before = closed counter before
open_after next (EndedFor party) owner file before = if same_party party owner.instance then None else before
open_after next _ owner file before = before

-- The stateid of an owner's live open on a file: its counter says the how many-th stateid its OPEN made, and its seqid is 1 then and
-- goes up by one with each OPEN, OPEN_CONFIRM and OPEN_DOWNGRADE on it. None where the owner hasn't opened the file since its latest
-- CLOSE and its client's latest end.
unfoldable pub open_now : Past → Owner → ℕ → Option OpenStateid
open_now [] owner file = None
open_now (x ∷ earlier) owner file =
    open_after (stateids_made earlier + 1) (event_word (now earlier) x.event x.reply) owner file (open_now earlier owner file)

-- ---- a lock owner's stateid

-- its counter, its seqid, and the counter of the open that it was made with
pub record LockStateid : Type 0 where
  pub counter : ℕ
  pub seqid : ℕ
  pub opened : ℕ

abbrev pub relocked : ℕ → Option LockStateid → Option LockStateid
relocked counter None = None
relocked counter (Some id) =
    if id.counter == counter then Some (record { counter = id.counter; seqid = seqid_after id.seqid; opened = id.opened }) else Some id

-- It goes with its open.
abbrev pub closed_with : ℕ → Option LockStateid → Option LockStateid
closed_with counter None = None
closed_with counter (Some id) = if id.opened == counter then None else Some id

unfoldable pub lock_after : ℕ → StateidWord → Owner → ℕ → Option LockStateid → Option LockStateid
lock_after next (LockedFor its its_file open_counter) owner file before =
    if (its_file == file) && same_owner owner its then Some (record { counter = next; seqid = 1; opened = open_counter }) else before
lock_after next (RelockedAt counter) owner file before = relocked counter before
lock_after next (ClosedAt counter) owner file before = closed_with counter before
lock_after next (ReleasedFor its) owner file before = if same_owner owner its then None else before
lock_after next (EndedFor party) owner file before = if same_party party owner.instance then None else before
lock_after next _ owner file before = before

-- The stateid of a lock owner on a file: made by the LOCK for which the owner was new there, and raised by each LOCK and LOCKU with it.
-- None where there is no such LOCK since the latest CLOSE of its open, its owner's latest release, and its client's latest end.
unfoldable pub lock_now : Past → Owner → ℕ → Option LockStateid
lock_now [] owner file = None
lock_now (x ∷ earlier) owner file =
    lock_after (stateids_made earlier + 1) (event_word (now earlier) x.event x.reply) owner file (lock_now earlier owner file)

-- ---- when a counter is live

-- For whom and on which file a stateid was made, and with which open: an open's with itself.
pub record Maker : Type 0 where
  pub owner : Owner
  pub file : ℕ
  pub opened : ℕ

-- gone where its open is closed, its owner released, or its client ended
abbrev pub unless_closed : ℕ → Option Maker → Option Maker
unless_closed counter None = None
unless_closed counter (Some it) = if it.opened == counter then None else Some it

abbrev pub unless_of : Owner → Option Maker → Option Maker
unless_of owner None = None
unless_of owner (Some it) = if same_owner owner it.owner then None else Some it

abbrev pub unless_ended : Party → Option Maker → Option Maker
unless_ended party None = None
unless_ended party (Some it) = if same_party party it.owner.instance then None else Some it

unfoldable pub live_after : Past → StateidWord → ℕ → Option Maker → Option Maker
live_after earlier (OpenedFor owner file) k before =
    if is_none (open_now earlier owner file) && (stateids_made earlier + 1 == k) then Some (record { owner = owner; file = file; opened = k }) else before
live_after earlier (LockedFor owner file open_counter) k before =
    if stateids_made earlier + 1 == k then Some (record { owner = owner; file = file; opened = open_counter }) else before
live_after earlier (ClosedAt counter) k before = unless_closed counter before
live_after earlier (ReleasedFor owner) k before = unless_of owner before
live_after earlier (EndedFor party) k before = unless_ended party before
live_after earlier _ k before = before

-- The k-th stateid lives from its making on, until the CLOSE of its open, the release of its lock owner, or its client's end.
unfoldable pub live_at : Past → ℕ → Option Maker
live_at [] k = None
live_at (x ∷ earlier) k = live_after earlier (event_word (now earlier) x.event x.reply) k (live_at earlier k)

-- The owner's kept call is the CLOSE of the open with this counter: it may come again, and so the stateid still resolves.
abbrev pub is_counter : ℕ → Option ℕ → Bool
is_counter k None = false
is_counter k (Some counter) = counter == k

unfoldable pub is_kept_close : ℕ → Option OwnerRow → Bool
is_kept_close k row = is_counter k (kept_close row)
