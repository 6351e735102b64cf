-- When a call is the one that came before (RFC 7530, 9.1.7): the callers' instances, the files and the arguments are equal.
-- Only operations with a seqid are compared.
use Rattle.std.specs.Prelude.{◌==◌, ◌&&◌, not, ℕ, Bool, true, false, List, Option, Some, None}
use Rattle.std.specs.Str.{bytes_eq}
use Rattle.nm_types.specs.Parties.{Party, same_party}
use Rattle.nm_types.specs.declared.args.Claim.{Claim}
use Rattle.nm_types.specs.declared.args.Claim.TheVariants.{Null, Previous, DelegateCur, DelegatePrev}
use Rattle.nm_types.specs.declared.args.CloseArgs.{CloseArgs}
use Rattle.nm_types.specs.declared.args.Fattr.{Fattr}
use Rattle.nm_types.specs.declared.args.LockArgs.{LockArgs}
use Rattle.nm_types.specs.declared.args.Locker.{Locker}
use Rattle.nm_types.specs.declared.args.Locker.TheVariants.{New, Known}
use Rattle.nm_types.specs.declared.args.LockType.{LockType}
use Rattle.nm_types.specs.declared.args.LockType.TheVariants as asked
use Rattle.nm_types.specs.declared.args.OpenArgs.{OpenArgs}
use Rattle.nm_types.specs.declared.args.OpenConfirmArgs.{OpenConfirmArgs}
use Rattle.nm_types.specs.declared.args.OpenDowngradeArgs.{OpenDowngradeArgs}
use Rattle.nm_types.specs.declared.args.OpenType.{OpenType}
use Rattle.nm_types.specs.declared.args.OpenType.TheVariants.{NoCreate, Unchecked, Guarded, Exclusive}
use Rattle.nm_types.specs.declared.args.UnlockArgs.{UnlockArgs}
use Rattle.nm_types.specs.declared.calls.Call.{Call}
use Rattle.nm_types.specs.declared.calls.Deed.{Deed}
use Rattle.nm_types.specs.declared.calls.Deed.TheVariants as deed
use Rattle.nm_types.specs.declared.calls.StateId.{StateId}
use Rattle.nm_types.specs.declared.calls.StateRef.{StateRef}
use Rattle.nm_types.specs.declared.calls.StateRef.TheVariants.{Zeros, Ones, Named}

-- ---- stateids

abbrev pub same_id : StateId → StateId → Bool
same_id a b = (a.seqid == b.seqid) && (a.fs == b.fs) && (a.counter == b.counter)

abbrev pub same_stateid : StateRef → StateRef → Bool
same_stateid Zeros Zeros = true
same_stateid Zeros Ones = false
same_stateid Zeros (Named _) = false
same_stateid Ones Zeros = false
same_stateid Ones Ones = true
same_stateid Ones (Named _) = false
same_stateid (Named a) Zeros = false
same_stateid (Named a) Ones = false
same_stateid (Named a) (Named b) = same_id a b

-- ---- attributes, ways of opening and claims

abbrev pub same_fattr : Fattr → Fattr → Bool
same_fattr a b = bytes_eq a.words b.words && bytes_eq a.values b.values

abbrev pub is_unchecked : Fattr → OpenType → Bool
is_unchecked a (Unchecked b) = same_fattr a b
is_unchecked a _ = false

abbrev pub is_guarded : Fattr → OpenType → Bool
is_guarded a (Guarded b) = same_fattr a b
is_guarded a _ = false

abbrev pub is_exclusive : ℕ → OpenType → Bool
is_exclusive a (Exclusive b) = a == b
is_exclusive a _ = false

abbrev pub makes_none : OpenType → Bool
makes_none NoCreate = true
makes_none _ = false

abbrev pub same_opentype : OpenType → OpenType → Bool
same_opentype NoCreate b = makes_none b
same_opentype (Unchecked a) b = is_unchecked a b
same_opentype (Guarded a) b = is_guarded a b
same_opentype (Exclusive a) b = is_exclusive a b

abbrev pub claims_name : List ℕ → Claim → Bool
claims_name a (Null b) = bytes_eq a b
claims_name a _ = false

abbrev pub claims_file : ℕ → Claim → Bool
claims_file a (Previous b) = a == b
claims_file a _ = false

abbrev pub claims_held : StateRef → List ℕ → Claim → Bool
claims_held a name (DelegateCur b its_name) = same_stateid a b && bytes_eq name its_name
claims_held a name _ = false

abbrev pub claims_from_before : List ℕ → Claim → Bool
claims_from_before a (DelegatePrev b) = bytes_eq a b
claims_from_before a _ = false

abbrev pub same_claim : Claim → Claim → Bool
same_claim (Null a) b = claims_name a b
same_claim (Previous a) b = claims_file a b
same_claim (DelegateCur a name) b = claims_held a name b
same_claim (DelegatePrev a) b = claims_from_before a b

-- ---- locks

-- the number of a type (RFC 7531, nfs_lock_type4)
abbrev pub type_number : LockType → ℕ
type_number asked.Read = 1
type_number asked.Write = 2
type_number asked.ReadWait = 3
type_number asked.WriteWait = 4

abbrev pub same_type : LockType → LockType → Bool
same_type a b = type_number a == type_number b

abbrev pub same_flag : Bool → Bool → Bool
same_flag true b = b
same_flag false b = not b

abbrev pub is_new : ℕ → StateRef → ℕ → List ℕ → Locker → Bool
is_new open_seqid stateid lock_seqid owner (New its_open_seqid its_stateid its_lock_seqid its_owner) =
    (open_seqid == its_open_seqid) && same_stateid stateid its_stateid && (lock_seqid == its_lock_seqid) && bytes_eq owner its_owner
is_new open_seqid stateid lock_seqid owner _ = false

abbrev pub is_known : StateRef → ℕ → Locker → Bool
is_known stateid lock_seqid (Known its_stateid its_lock_seqid) = same_stateid stateid its_stateid && (lock_seqid == its_lock_seqid)
is_known stateid lock_seqid _ = false

abbrev pub same_locker : Locker → Locker → Bool
same_locker (New open_seqid stateid lock_seqid owner) b = is_new open_seqid stateid lock_seqid owner b
same_locker (Known stateid lock_seqid) b = is_known stateid lock_seqid b

-- ---- the operations with a seqid

abbrev pub same_close : CloseArgs → CloseArgs → Bool
same_close a b = (a.seqid == b.seqid) && same_stateid a.stateid b.stateid

abbrev pub same_lock : LockArgs → LockArgs → Bool
same_lock a b = same_type a.kind b.kind && same_flag a.reclaim b.reclaim && (a.offset == b.offset) && (a.length == b.length)
    && same_locker a.locker b.locker

abbrev pub same_unlock : UnlockArgs → UnlockArgs → Bool
same_unlock a b = same_type a.kind b.kind && (a.seqid == b.seqid) && same_stateid a.stateid b.stateid
    && (a.offset == b.offset) && (a.length == b.length)

abbrev pub same_open : OpenArgs → OpenArgs → Bool
same_open a b = (a.seqid == b.seqid) && (a.access == b.access) && (a.deny == b.deny) && bytes_eq a.owner b.owner
    && same_opentype a.opentype b.opentype && same_claim a.claim b.claim

abbrev pub same_confirm : OpenConfirmArgs → OpenConfirmArgs → Bool
same_confirm a b = same_stateid a.stateid b.stateid && (a.seqid == b.seqid)

abbrev pub same_downgrade : OpenDowngradeArgs → OpenDowngradeArgs → Bool
same_downgrade a b = same_stateid a.stateid b.stateid && (a.seqid == b.seqid) && (a.access == b.access) && (a.deny == b.deny)

unfoldable pub is_close : CloseArgs → Deed → Bool
is_close a (deed.Close b) = same_close a b
is_close a _ = false

unfoldable pub is_lock : LockArgs → Deed → Bool
is_lock a (deed.Lock b) = same_lock a b
is_lock a _ = false

unfoldable pub is_unlock : UnlockArgs → Deed → Bool
is_unlock a (deed.Unlock b) = same_unlock a b
is_unlock a _ = false

unfoldable pub is_open : OpenArgs → Deed → Bool
is_open a (deed.Open b) = same_open a b
is_open a _ = false

unfoldable pub is_confirm : OpenConfirmArgs → Deed → Bool
is_confirm a (deed.OpenConfirm b) = same_confirm a b
is_confirm a _ = false

unfoldable pub is_downgrade : OpenDowngradeArgs → Deed → Bool
is_downgrade a (deed.OpenDowngrade b) = same_downgrade a b
is_downgrade a _ = false

unfoldable pub same_deed : Deed → Deed → Bool
same_deed (deed.Close args) kept = is_close args kept
same_deed (deed.Lock args) kept = is_lock args kept
same_deed (deed.Open args) kept = is_open args kept
same_deed (deed.OpenConfirm args) kept = is_confirm args kept
same_deed (deed.OpenDowngrade args) kept = is_downgrade args kept
same_deed (deed.Unlock args) kept = is_unlock args kept
same_deed _ kept = false

-- ---- the call

abbrev pub same_caller : Option Party → Option Party → Bool
same_caller None None = true
same_caller None (Some _) = false
same_caller (Some a) None = false
same_caller (Some a) (Some b) = same_party a b

unfoldable pub same_call : Option Party → ℕ → Deed → Call → Bool
same_call caller file d kept = same_caller caller kept.caller && (file == kept.file) && same_deed d kept.deed
