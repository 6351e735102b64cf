-- Stateids of opens and of byte-range locks (RFC 7530, 9.1.4): what each stands for, and when it is refused.
use Rattle.std.specs.Prelude.{◌==◌, ◌&&◌, not, nat_le, ℕ, ◌+◌, ◌-◌, ◌%◌, Bool, false, Option, Some, None, if◌then◌else◌}
use Rattle.std.specs.Option.{option_or}
use Rattle.nm_types.specs.Parties.{Party, same_party}
use Rattle.nm_rules.specs.Seqids.{is_confirmed, judged, owner_at}
use Rattle.nm_rules.specs.LockRows.{lock_at}
use Rattle.nm_rules.specs.Shares.{meets, open_at}
use Rattle.nm_rules.specs.Seen.{Seen}
use Rattle.nm_rules.specs.Checks.{Stop, refuse_if}
use Rattle.nm_rules.specs.Checks.Stop.{Refuse, Repeat}
use Rattle.nm_types.specs.declared.calls.Deed.{Deed}
use Rattle.nm_types.specs.declared.calls.Reply.{Reply}
use Rattle.nm_types.specs.declared.calls.StateId.{StateId}
use Rattle.nm_types.specs.declared.calls.StateRef.{StateRef}
use Rattle.nm_types.specs.declared.calls.StateRef.TheVariants.{Zeros, Ones, Named}
use Rattle.nm_types.specs.declared.owners.Judgement.{Judgement}
use Rattle.nm_types.specs.declared.owners.Judgement.TheVariants.{Unknown, Fresh, Again, Bad}
use Rattle.nm_types.specs.declared.owners.OwnerRow.{OwnerRow}
use Rattle.nm_types.specs.declared.rows.LockRow.{LockRow}
use Rattle.nm_types.specs.declared.rows.OpenRow.{OpenRow}
use Rattle.nm_types.specs.declared.status.OpStatus.{OpStatus}
use Rattle.nm_types.specs.declared.status.OpStatus.TheVariants.{BadSeqid, BadStateId, OldStateId, OpenMode, Resource}

-- the stateid of an open
abbrev pub stateid_of : ℕ → OpenRow → StateId
stateid_of fs row = record { seqid = row.seqid; fs = fs; counter = row.counter }

-- ---- what a stateid stands for

-- the live open that a stateid names in this file system
unfoldable pub open_named : Seen → StateRef → Option OpenRow
open_named s Zeros = None
open_named s Ones = None
open_named s (Named id) = if id.fs == s.fs then open_at id.counter s.opens else None

-- A stateid is resolvable where its open is live, or where the CLOSE that ended it is its owner's kept call.
unfoldable pub resolved : Seen → StateRef → Option OpenRow
resolved s Zeros = None
resolved s Ones = None
resolved s (Named id) = if id.fs == s.fs then option_or (open_at id.counter s.opens) (open_at id.counter s.closed) else None

-- The stateid of a lock owner stands for its locks while it is live.
unfoldable pub lock_named : Seen → StateRef → Option LockRow
lock_named s Zeros = None
lock_named s Ones = None
lock_named s (Named id) = if id.fs == s.fs then lock_at id.counter s.locks else None

-- it is of the caller's own instance
abbrev pub is_own : Option Party → OpenRow → Bool
is_own None row = false
is_own (Some party) row = same_party party row.owner.instance

-- It has to be resolvable, and the caller's own.
abbrev pub unresolved_at : Option Party → Option OpenRow → Option OpStatus
unresolved_at caller None = Some BadStateId
unresolved_at caller (Some row) = refuse_if (not (is_own caller row)) BadStateId

abbrev pub is_own_lock : Option Party → LockRow → Bool
is_own_lock None row = false
is_own_lock (Some party) row = same_party party row.owner.instance

abbrev pub lock_unresolved : Option Party → Option LockRow → Option OpStatus
lock_unresolved caller None = Some BadStateId
lock_unresolved caller (Some row) = refuse_if (not (is_own_lock caller row)) BadStateId

-- where either may stand for it
abbrev pub any_unresolved : Option Party → Option OpenRow → Option LockRow → Option OpStatus
any_unresolved caller None lock = lock_unresolved caller lock
any_unresolved caller (Some row) lock = unresolved_at caller (Some row)

-- ---- the owner's seqid

-- the owner was confirmed
abbrev pub is_owner_confirmed : Seen → OpenRow → Bool
is_owner_confirmed s row = is_confirmed (owner_at row.owner s.owners)

-- A call that came before gets the kept reply, and one out of turn is refused. There is no owner to judge by where there is no
-- room for one either.
abbrev pub judged_stop : Reply → Judgement → Option Stop
judged_stop kept Unknown = None
judged_stop kept Fresh = None
judged_stop kept Again = Some (Repeat kept)
judged_stop kept Bad = Some (Refuse BadSeqid)

unfoldable pub owner_stop : Bool → Option OwnerRow → ℕ → Option Party → ℕ → Deed → Option Stop
owner_stop full None seqid caller file d = if full then Some (Refuse Resource) else None
owner_stop full (Some row) seqid caller file d = judged_stop row.reply (judged (Some row) seqid caller file d)

-- the seqid of an operation on an open
unfoldable pub owner_stop_at : Seen → Option OpenRow → ℕ → Option Party → ℕ → Deed → Option Stop
owner_stop_at s None seqid caller file d = None
owner_stop_at s (Some row) seqid caller file d = owner_stop false (owner_at row.owner s.owners) seqid caller file d

-- the seqid of an operation on the locks of an owner
unfoldable pub lock_owner_stop_at : Seen → Option LockRow → ℕ → Option Party → ℕ → Deed → Option Stop
lock_owner_stop_at s None seqid caller file d = None
lock_owner_stop_at s (Some row) seqid caller file d = owner_stop false (owner_at row.owner s.owners) seqid caller file d

-- ---- the stateid itself

-- Of two seqids of a stateid the given one is older where it is at most 2^31 behind (RFC 7530, 9.1.4.2).
abbrev pub seqid_stop : ℕ → ℕ → Option OpStatus
seqid_stop now given =
    if now == given then None
    else (if nat_le ((now + 4294967296 - given) % 4294967296) 2147483648 then Some OldStateId else Some BadStateId)

abbrev pub given_seqid : StateRef → ℕ
given_seqid Zeros = 0
given_seqid Ones = 4294967295
given_seqid (Named id) = id.seqid

-- An open has to have this access; 0 asks for none.
abbrev pub mode_stop : ℕ → ℕ → Option OpStatus
mode_stop access its = refuse_if (not (access == 0) && not (meets access its)) OpenMode

-- A stateid has to be of the current file and as it was told last, and its open has to have this access. Whether its owner is as
-- it has to be, confirmed or not, is told.
unfoldable pub stateid_stop : Bool → ℕ → StateRef → ℕ → OpenRow → Option OpStatus
stateid_stop suits file stateid access row =
    if suits && (row.file == file)
    then option_or (seqid_stop row.seqid (given_seqid stateid)) (mode_stop access row.access)
    else Some BadStateId

-- One that isn't live is refused, and one of an owner that isn't confirmed.
unfoldable pub live_stop : Seen → ℕ → StateRef → ℕ → Option OpenRow → Option OpStatus
live_stop s file stateid access None = Some BadStateId
live_stop s file stateid access (Some row) = stateid_stop (is_owner_confirmed s row) file stateid access row

-- An OPEN_CONFIRM is of an owner that isn't confirmed.
unfoldable pub confirm_stop : Seen → ℕ → StateRef → Option OpenRow → Option OpStatus
confirm_stop s file stateid None = Some BadStateId
confirm_stop s file stateid (Some row) = stateid_stop (not (is_owner_confirmed s row)) file stateid 0 row

-- ---- the stateid of a lock owner

abbrev pub access_of : Option OpenRow → ℕ
access_of None = 0
access_of (Some row) = row.access

-- The access of a lock owner's open, by which its locks, its reads and its writes are allowed.
abbrev pub opened_access : Seen → LockRow → ℕ
opened_access s row = access_of (open_at row.opened s.opens)

-- It has to be of the current file and as it was told last, and its open has to have this access.
unfoldable pub lock_stop : ℕ → StateRef → ℕ → ℕ → LockRow → Option OpStatus
lock_stop file stateid access its row =
    if row.file == file then option_or (seqid_stop row.seqid (given_seqid stateid)) (mode_stop access its) else Some BadStateId

-- one that isn't live is refused
unfoldable pub lock_live_stop : Seen → ℕ → StateRef → ℕ → Option LockRow → Option OpStatus
lock_live_stop s file stateid access None = Some BadStateId
lock_live_stop s file stateid access (Some row) = lock_stop file stateid access (opened_access s row) row

-- where either may stand for it
unfoldable pub any_stop : Seen → ℕ → StateRef → ℕ → Option OpenRow → Option LockRow → Option OpStatus
any_stop s file stateid access None lock = lock_live_stop s file stateid access lock
any_stop s file stateid access (Some row) lock = live_stop s file stateid access (Some row)
