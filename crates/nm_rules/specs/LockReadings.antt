-- What an owner locks, in the standard's words, read off the entries alone (RFC 7530, 9.1 and 16.10 to 16.12).
use Rattle.std.specs.Prelude.{ℕ, ◌==◌, ◌&&◌, Bool, true, false, [], ◌∷◌, Option, Some, None, if◌then◌else◌}
use Rattle.nm_types.specs.Parties.{Party, same_party}
use Rattle.nm_rules.specs.Locks.{is_inside}
use Rattle.nm_rules.specs.LockAsks.{kind_of, last_of, lock_owner}
use Rattle.nm_rules.specs.OwnerReadings.{is_owner}
use Rattle.nm_rules.specs.Past.{Past, Now, now, acts, is_locked, lock_owner_named}
use Rattle.nm_types.specs.declared.args.Locker.{Locker}
use Rattle.nm_types.specs.declared.args.Locker.TheVariants.{New, Known}
use Rattle.nm_types.specs.declared.calls.Deed.{Deed}
use Rattle.nm_types.specs.declared.calls.Deed.TheVariants as deed
use Rattle.nm_types.specs.declared.calls.Event.{Event}
use Rattle.nm_types.specs.declared.calls.Event.TheVariants.{Asked, Ended}
use Rattle.nm_types.specs.declared.calls.Owner.{Owner}
use Rattle.nm_types.specs.declared.calls.Reply.{Reply}
use Rattle.nm_types.specs.declared.calls.ReplyValue.{ReplyValue}
use Rattle.nm_types.specs.declared.calls.ReplyValue.TheVariants as told
use Rattle.nm_types.specs.declared.results.LockKind.{LockKind}

-- the lock owner for whom a LOCK is asked: one that it names, or that of the stateid
unfoldable pub locks_for : Now → Locker → Option Party → Option Owner
locks_for n (Known stateid lock_seqid) caller = lock_owner_named n stateid
locks_for n (New open_seqid stateid lock_seqid text) None = None
locks_for n (New open_seqid stateid lock_seqid text) (Some party) = Some (lock_owner party text)

-- The range is one of this owner on this file, and has the byte.
abbrev pub covers : Owner → ℕ → ℕ → Option Owner → ℕ → ℕ → ℕ → Bool
covers owner file byte its its_file offset len = ((its_file == file) && is_owner owner its) && is_inside offset (last_of offset len) byte

-- the kind in which a LOCK that was carried out locks the byte for the owner
unfoldable pub locks_byte : Now → Owner → ℕ → ℕ → Option Party → ℕ → Deed → ReplyValue → Option LockKind
locks_byte n owner file byte caller its_file (deed.Lock args) value =
    if is_locked value && covers owner file byte (locks_for n args.locker caller) its_file args.offset args.length then Some (kind_of args.kind) else None
locks_byte n owner file byte caller its_file _ value = None

-- a LOCKU was carried out
abbrev pub is_unlocked : ReplyValue → Bool
is_unlocked (told.Unlock (Some _)) = true
is_unlocked _ = false

-- A LOCKU that was carried out unlocks the byte for the owner.
unfoldable pub unlocks_byte : Now → Owner → ℕ → ℕ → ℕ → Deed → ReplyValue → Bool
unlocks_byte n owner file byte its_file (deed.Unlock args) value =
    is_unlocked value && covers owner file byte (lock_owner_named n args.stateid) its_file args.offset args.length
unlocks_byte n owner file byte its_file _ value = false

-- this kind, or else what was there
abbrev pub or_before : Option LockKind → Option LockKind → Option LockKind
or_before None before = before
or_before (Some kind) before = Some kind

-- what an entry leaves of an owner's lock at a byte
unfoldable pub byte_after : Now → Owner → ℕ → ℕ → Event → Reply → Option LockKind → Option LockKind
byte_after n owner file byte (Ended party) r before = if same_party party owner.instance then None else before
byte_after n owner file byte (Asked call verdict) r before =
    if acts n call r
    then or_before (locks_byte n owner file byte call.caller call.file call.deed r.value)
    (if unlocks_byte n owner file byte call.file call.deed r.value then None else before)
    else before

-- The kind in which an owner holds a byte of a file: that of the latest LOCK of its that was carried out there and has the byte, since
-- the latest LOCKU of its there that has it, and since its client's latest end. None where there is no such LOCK.
unfoldable pub byte_lock : Past → Owner → ℕ → ℕ → Option LockKind
byte_lock [] owner file byte = None
byte_lock (x ∷ earlier) owner file byte = byte_after (now earlier) owner file byte x.event x.reply (byte_lock earlier owner file byte)
