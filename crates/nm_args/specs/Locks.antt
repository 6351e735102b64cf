-- The arguments of operations on byte-range locks (RFC 7531).
use Rattle.std.specs.Prelude.{◌≡◌, ℕ, Bool, true, false, List, [], ◌∷◌}
use Rattle.nm_xdr.specs.Fields.{Reading, field, made}
use Rattle.nm_xdr.specs.Items.{word, hyper, flag, structure, union, word_at, hyper_at, flag_at}
use Rattle.nm_types.specs.declared.calls.StateRef.{StateRef}
use Rattle.nm_types.specs.declared.args.Locker.{Locker}
use Rattle.nm_types.specs.declared.args.Locker.TheVariants.{New, Known}
use Rattle.nm_types.specs.declared.args.LockArgs.{LockArgs}
use Rattle.nm_types.specs.declared.args.LockTestArgs.{LockTestArgs}
use Rattle.nm_types.specs.declared.args.UnlockArgs.{UnlockArgs}
use Rattle.nm_types.specs.Wire.{stateid_bytes}
use Rattle.nm_items.specs.Parts.{ref_at, IsStateRef}
use Rattle.nm_args.specs.declared.op.OwnedLocker.{OwnedLocker}
use Rattle.nm_args.specs.declared.op.OwnedLock.{OwnedLock}
use Rattle.nm_args.specs.declared.op.OwnedLockTest.{OwnedLockTest}
use Rattle.nm_args.specs.declared.op.OwnedRelease.{OwnedRelease}
use Rattle.nm_args.specs.declared.parts.Clientids.{Clientids}
use Rattle.nm_args.specs.Parts.{IsWord, IsHyper, IsText, IsClientid, owner_bytes, owner_at, lock_number, lock_type_at}

-- ---- LOCK (LOCK4args)

abbrev pub is_new : Locker → Bool
is_new (New open_seqid stateid lock_seqid owner) = true
is_new (Known stateid lock_seqid) = false

-- open_to_lock_owner4: what a new owner gives
pub record NewOwner : Type 0 where
  pub open_seqid : ℕ
  pub stateid : StateRef
  pub lock_seqid : ℕ
  pub owner : ℕ × List ℕ

abbrev pub new_owner : NewOwner → List ℕ
new_owner n = structure (word n.open_seqid ∷ stateid_bytes n.stateid ∷ word n.lock_seqid ∷ owner_bytes n.owner ∷ [])

unfoldable pub new_owner_at : Clientids → Reading NewOwner
new_owner_at which =
    field word_at (λ open_seqid. field ref_at (λ stateid. field word_at (λ lock_seqid. field (owner_at which) (λ o.
    made (record { open_seqid = open_seqid; stateid = stateid; lock_seqid = lock_seqid; owner = o })))))

-- exist_lock_owner4: what a known owner gives
pub record KnownOwner : Type 0 where
  pub stateid : StateRef
  pub lock_seqid : ℕ

abbrev pub known_owner : KnownOwner → List ℕ
known_owner k = structure (stateid_bytes k.stateid ∷ word k.lock_seqid ∷ [])

unfoldable pub known_owner_at : Reading KnownOwner
known_owner_at = field ref_at (λ stateid. field word_at (λ lock_seqid. made (record { stateid = stateid; lock_seqid = lock_seqid })))

abbrev pub locker_arm : ℕ → Locker → List ℕ
locker_arm clientid (New open_seqid stateid lock_seqid text) =
    new_owner (record { open_seqid = open_seqid; stateid = stateid; lock_seqid = lock_seqid; owner = (clientid, text) })
locker_arm clientid (Known stateid lock_seqid) = known_owner (record { stateid = stateid; lock_seqid = lock_seqid })

-- locker4: whether the owner is new, and what it gives
unfoldable pub locker : OwnedLocker → List ℕ
locker l = union (flag (is_new l.locker)) (locker_arm l.clientid l.locker)

-- where the owner isn't new, no clientid is given, and 0 stands for it
abbrev pub of_new : NewOwner → OwnedLocker
of_new n = record { clientid = n.owner.0; locker = New n.open_seqid n.stateid n.lock_seqid n.owner.1 }

abbrev pub of_known : KnownOwner → OwnedLocker
of_known k = record { clientid = 0; locker = Known k.stateid k.lock_seqid }

unfoldable pub locker_arm_at : Clientids → Bool → Reading OwnedLocker
locker_arm_at which true = field (new_owner_at which) (λ n. made (of_new n))
locker_arm_at which false = field known_owner_at (λ k. made (of_known k))

unfoldable pub locker_at : Clientids → Reading OwnedLocker
locker_at which = field flag_at (locker_arm_at which)

-- a clientid is given where the owner is new
abbrev pub HasClientid : Clientids → ℕ → Locker → Type 0
HasClientid which clientid (New open_seqid stateid lock_seqid text) = IsClientid which clientid
HasClientid which clientid (Known stateid lock_seqid) = clientid ≡ 0

abbrev pub IsLocker : Locker → Type 0
IsLocker (New open_seqid stateid lock_seqid text) = IsWord open_seqid × IsStateRef stateid × IsWord lock_seqid × IsText text
IsLocker (Known stateid lock_seqid) = IsStateRef stateid × IsWord lock_seqid

-- who locks, with the clientid
abbrev pub owned_locker : OwnedLock → OwnedLocker
owned_locker o = record { clientid = o.clientid; locker = o.args.locker }

unfoldable pub locking : OwnedLock → List ℕ
locking o = structure (word (lock_number o.args.kind) ∷ flag o.args.reclaim ∷ hyper o.args.offset ∷ hyper o.args.length ∷ locker (owned_locker o) ∷ [])

unfoldable pub locking_at : Clientids → Reading OwnedLock
locking_at which =
    field lock_type_at (λ kind. field flag_at (λ reclaim. field hyper_at (λ offset. field hyper_at (λ length. field (locker_at which) (λ l.
    made (record { clientid = l.clientid; args = record { kind = kind; reclaim = reclaim; offset = offset; length = length; locker = l.locker } }))))))

pub record IsLockArgs (a : LockArgs) : Type 0 where
  pub offset : IsHyper a.offset
  pub length : IsHyper a.length
  pub locker : IsLocker a.locker

abbrev pub IsLocking : Clientids → OwnedLock → Type 0
IsLocking which o = HasClientid which o.clientid o.args.locker × IsLockArgs o.args

-- ---- LOCKT (LOCKT4args)

unfoldable pub lock_test : OwnedLockTest → List ℕ
lock_test o = structure (word (lock_number o.args.kind) ∷ hyper o.args.offset ∷ hyper o.args.length ∷ owner_bytes (o.clientid, o.args.owner) ∷ [])

unfoldable pub lock_test_at : Clientids → Reading OwnedLockTest
lock_test_at which =
    field lock_type_at (λ kind. field hyper_at (λ offset. field hyper_at (λ length. field (owner_at which) (λ o.
    made (record { clientid = o.0; args = record { kind = kind; offset = offset; length = length; owner = o.1 } })))))

pub record IsLockTestArgs (a : LockTestArgs) : Type 0 where
  pub offset : IsHyper a.offset
  pub length : IsHyper a.length
  pub owner : IsText a.owner

abbrev pub IsLockTest : Clientids → OwnedLockTest → Type 0
IsLockTest which o = IsClientid which o.clientid × IsLockTestArgs o.args

-- ---- LOCKU (LOCKU4args)

unfoldable pub unlock : UnlockArgs → List ℕ
unlock a = structure (word (lock_number a.kind) ∷ word a.seqid ∷ stateid_bytes a.stateid ∷ hyper a.offset ∷ hyper a.length ∷ [])

unfoldable pub unlock_at : Reading UnlockArgs
unlock_at =
    field lock_type_at (λ kind. field word_at (λ seqid. field ref_at (λ stateid. field hyper_at (λ offset. field hyper_at (λ length.
    made (record { kind = kind; seqid = seqid; stateid = stateid; offset = offset; length = length }))))))

abbrev pub IsUnlock : UnlockArgs → Type 0
IsUnlock a = IsWord a.seqid × IsStateRef a.stateid × IsHyper a.offset × IsHyper a.length

-- ---- RELEASE_LOCKOWNER (RELEASE_LOCKOWNER4args)

unfoldable pub release : OwnedRelease → List ℕ
release o = owner_bytes (o.clientid, o.args.owner)

unfoldable pub release_at : Clientids → Reading OwnedRelease
release_at which = field (owner_at which) (λ o. made (record { clientid = o.0; args = record { owner = o.1 } }))

abbrev pub IsRelease : Clientids → OwnedRelease → Type 0
IsRelease which o = IsClientid which o.clientid × IsText o.args.owner
