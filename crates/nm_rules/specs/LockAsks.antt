-- What the arguments of operations on byte-range locks ask for (RFC 7530, 16.10, 16.11 and 16.12).
use Rattle.std.specs.Prelude.{◌==◌, ◌||◌, ◌&&◌, nat_lt, ℕ, ◌+◌, ◌-◌, Bool, List, Option, if◌then◌else◌}
use Rattle.nm_types.specs.Calls.{greatest}
use Rattle.nm_types.specs.Parties.{Party}
use Rattle.nm_rules.specs.Checks.{refuse_if}
use Rattle.nm_types.specs.declared.args.LockType.{LockType}
use Rattle.nm_types.specs.declared.args.LockType.TheVariants as asked
use Rattle.nm_types.specs.declared.calls.Owner.{Owner}
use Rattle.nm_types.specs.declared.calls.OwnerKind.TheVariants.{Locks}
use Rattle.nm_types.specs.declared.calls.StateRef.{StateRef}
use Rattle.nm_types.specs.declared.calls.StateRef.TheVariants.{Zeros, Ones, Named}
use Rattle.nm_types.specs.declared.results.LockKind.{LockKind}
use Rattle.nm_types.specs.declared.results.LockKind.TheVariants.{Read, Write}
use Rattle.nm_types.specs.declared.status.OpStatus.{OpStatus}
use Rattle.nm_types.specs.declared.status.OpStatus.TheVariants.{Inval}

-- that a client will ask again changes nothing
unfoldable pub kind_of : LockType → LockKind
kind_of asked.Read = Read
kind_of asked.Write = Write
kind_of asked.ReadWait = Read
kind_of asked.WriteWait = Write

-- the access that an open has to have for a lock: 1 reads, 2 writes
unfoldable pub access_for : LockKind → ℕ
access_for Read = 1
access_for Write = 2

-- the last byte of a range
unfoldable pub last_of : ℕ → ℕ → ℕ
last_of offset length = if length == greatest then greatest else offset + length - 1

-- The last byte of a range as a refusal tells it. Told is a length, whose greatest is the mark of a range that reaches to the
-- end (RFC 7530, 16.10.4): the one range of that many bytes that ends before the last of all is told so too.
unfoldable pub last_told : ℕ → ℕ → ℕ
last_told first last = if (first == 0) && (last + 1 == greatest) then greatest else last

-- It has no byte, or begins or ends behind the last of all.
unfoldable pub is_no_range : ℕ → ℕ → Bool
is_no_range offset length = (length == 0) || nat_lt greatest (if length == greatest then offset else offset + length)

abbrev pub range_stop : ℕ → ℕ → Option OpStatus
range_stop offset length = refuse_if (is_no_range offset length) Inval

-- the owner that locks, where the call names a caller
abbrev pub lock_owner : Party → List ℕ → Owner
lock_owner party text = record { instance = party; kind = Locks; text = text }

-- the counter that a stateid names; the special ones name none
unfoldable pub counter_of : StateRef → ℕ
counter_of Zeros = 0
counter_of Ones = 0
counter_of (Named id) = id.counter
