-- What calls say by themselves.
use Rattle.std.specs.Prelude.{ℕ}
use Rattle.nm_types.specs.declared.args.Locker.{Locker}
use Rattle.nm_types.specs.declared.args.Locker.TheVariants.{New, Known}
use Rattle.nm_types.specs.declared.calls.Deed.{Deed}
use Rattle.nm_types.specs.declared.calls.Deed.TheVariants as deed

-- A new lock owner's lock is judged by the seqid of its open owner.
abbrev pub locker_seqid : Locker → ℕ
locker_seqid (New open_seqid stateid lock_seqid owner) = open_seqid
locker_seqid (Known stateid lock_seqid) = lock_seqid

-- the seqid that an operation takes; the others take none
unfoldable pub seqid_of : Deed → ℕ
seqid_of (deed.Close args) = args.seqid
seqid_of (deed.Lock args) = locker_seqid args.locker
seqid_of (deed.Open args) = args.seqid
seqid_of (deed.OpenConfirm args) = args.seqid
seqid_of (deed.OpenDowngrade args) = args.seqid
seqid_of (deed.Unlock args) = args.seqid
seqid_of _ = 0

-- the length of a range that reaches to the end of every file, and the last byte of all
abbrev pub greatest : ℕ
greatest = 18446744073709551615
