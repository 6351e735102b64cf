-- The reading and the spelling of the arguments of operations on byte-range locks belong together, one line a field.
use Rattle.std.proofs.Common.{◌≡◌, ℕ, Bool, true, false, List, ◌++◌, Ok, refl, sym, ap, subst, ◌∙◌}
use Rattle.nm_xdr.specs.Fields.{IsBytes, IsItem}
use Rattle.nm_xdr.proofs.FieldLaws.{field_part, made_part, record_item, fits_as, made_item, union_item}
use Rattle.nm_xdr.proofs.ItemLaws.{word_item, hyper_item, flag_item}
use Rattle.nm_types.specs.declared.args.Locker.{Locker}
use Rattle.nm_types.specs.declared.args.Locker.TheVariants.{New, Known}
use Rattle.nm_types.specs.declared.args.UnlockArgs.{UnlockArgs}
use Rattle.nm_xdr.proofs.MadeLaws.{made_found, made_again}
use Rattle.nm_items.specs.Parts.{IsStateRef}
use Rattle.nm_items.proofs.PartItems.{ref_item}
use Rattle.nm_args.specs.declared.op.OwnedLocker.{OwnedLocker}
use Rattle.nm_args.specs.declared.op.OwnedLock.{OwnedLock}
use Rattle.nm_args.specs.declared.op.OwnedLockTest.{OwnedLockTest}
use Rattle.nm_args.specs.declared.op.OwnedRelease.{OwnedRelease}
use Rattle.nm_args.specs.declared.parts.Clientids.{Clientids}
use Rattle.nm_args.specs.Parts.{IsWord, IsOwner}
use Rattle.nm_args.specs.Locks.{is_new, NewOwner, new_owner, new_owner_at, KnownOwner, known_owner, known_owner_at, of_new, of_known, locker_arm, locker, locker_arm_at, locker_at, HasClientid, IsLocker, owned_locker, locking, locking_at, IsLocking, lock_test, lock_test_at, IsLockTest, unlock, unlock_at, IsUnlock, release, release_at, IsRelease}
use Rattle.nm_args.proofs.PartItems.{owner_item, lock_type_item}

-- ---- Who locks

abbrev IsNew : Clientids → NewOwner → Type 0
IsNew which n = IsWord n.open_seqid × IsStateRef n.stateid × IsWord n.lock_seqid × IsOwner which n.owner

new_item : (which : Clientids) → IsItem (new_owner_at which) new_owner (IsNew which)
unfolding new_owner_at
new_item which =
    fits_as (IsNew which) (λ n f. (f.0, (f.1, (f.2, (f.3, tt))))) (λ n f. (f.0, f.1.0, f.1.1.0, f.1.1.1.0)) (
    record_item (
    field_part (λ (n : NewOwner). n.open_seqid) _ (λ _. word_item) (
    field_part (λ (n : NewOwner). n.stateid) _ (λ _. ref_item) (
    field_part (λ (n : NewOwner). n.lock_seqid) _ (λ _. word_item) (
    field_part (λ (n : NewOwner). n.owner) _ (λ _. owner_item which) (
    made_part _ (λ _. refl) (λ _. refl)))))))

abbrev IsKnown : KnownOwner → Type 0
IsKnown k = IsStateRef k.stateid × IsWord k.lock_seqid

known_item : IsItem known_owner_at known_owner IsKnown
unfolding known_owner_at
known_item =
    fits_as IsKnown (λ k f. (f.0, (f.1, tt))) (λ k f. (f.0, f.1.0)) (
    record_item (
    field_part (λ (k : KnownOwner). k.stateid) _ (λ _. ref_item) (
    field_part (λ (k : KnownOwner). k.lock_seqid) _ (λ _. word_item) (
    made_part _ (λ _. refl) (λ _. refl)))))

abbrev IsOwned : Clientids → OwnedLocker → Type 0
IsOwned which l = HasClientid which l.clientid l.locker × IsLocker l.locker

abbrev arm : OwnedLocker → List ℕ
arm l = locker_arm l.clientid l.locker

arm_found : (which : Clientids) (b : Bool) (bytes : List ℕ) (l : OwnedLocker) (rest : List ℕ) → IsBytes bytes → locker_arm_at which b bytes ≡ Ok (l, rest)
    → (bytes ≡ arm l ++ rest) × (IsOwned which l × (is_new l.locker ≡ b))
unfolding locker_arm_at
arm_found which true bytes l rest fits e =
    made_found (λ n. of_new n) arm (λ x. IsOwned which x × (is_new x.locker ≡ true)) (λ n f. (((f.3.0, (f.0, f.1, f.2, f.3.1)), refl), refl)) (new_item which) bytes l rest fits e
arm_found which false bytes l rest fits e =
    made_found (λ k. of_known k) arm (λ x. IsOwned which x × (is_new x.locker ≡ false)) (λ k f. (((refl, f), refl), refl)) known_item bytes l rest fits e

arm_again : (which : Clientids) (clientid : ℕ) (k : Locker) (rest : List ℕ) → HasClientid which clientid k → IsLocker k
    → locker_arm_at which (is_new k) (locker_arm clientid k ++ rest) ≡ Ok (record { clientid = clientid; locker = k }, rest)
unfolding locker_arm_at
arm_again which clientid (New open_seqid stateid lock_seqid text) rest h f =
    made_again (λ n. of_new n) (new_item which) (record { open_seqid = open_seqid; stateid = stateid; lock_seqid = lock_seqid; owner = (clientid, text) }) rest
    (f.0, f.1, f.2, (h, f.3))
arm_again which clientid (Known stateid lock_seqid) rest h f =
    made_again (λ k. of_known k) known_item (record { stateid = stateid; lock_seqid = lock_seqid }) rest f
    ∙ ap (λ (n : ℕ). Ok (record { clientid = n; locker = Known stateid lock_seqid }, rest)) (sym h)

arm_item : (which : Clientids) (b : Bool) → IsItem (locker_arm_at which b) arm (λ l. IsOwned which l × (is_new l.locker ≡ b))
arm_item which b = record {
  found = arm_found which b;
  again = λ l rest f. subst (λ (n : Bool). locker_arm_at which n (arm l ++ rest) ≡ Ok (l, rest)) f.1 (arm_again which l.clientid l.locker rest f.0.0 f.0.1);
}

locker_item : (which : Clientids) → IsItem (locker_at which) locker (IsOwned which)
unfolding locker_at locker
locker_item which = union_item (λ l. is_new l.locker) (IsOwned which) (λ _ _. tt) flag_item (λ b _. arm_item which b)

-- ---- The operations

pub locking_item : (which : Clientids) → IsItem (locking_at which) locking (IsLocking which)
unfolding locking_at locking
locking_item which =
    fits_as (IsLocking which) (λ o f. (tt, (tt, (f.1.offset, (f.1.length, ((f.0, f.1.locker), tt))))))
    (λ o f. (f.1.1.1.1.0.0, record { offset = f.1.1.0; length = f.1.1.1.0; locker = f.1.1.1.1.0.1 })) (
    record_item (
    field_part (λ (o : OwnedLock). o.args.kind) _ (λ _. lock_type_item) (
    field_part (λ (o : OwnedLock). o.args.reclaim) _ (λ _. flag_item) (
    field_part (λ (o : OwnedLock). o.args.offset) _ (λ _. hyper_item) (
    field_part (λ (o : OwnedLock). o.args.length) _ (λ _. hyper_item) (
    field_part (λ (o : OwnedLock). owned_locker o) _ (λ _. locker_item which) (
    made_part _ (λ _. refl) (λ _. refl))))))))

pub lock_test_item : (which : Clientids) → IsItem (lock_test_at which) lock_test (IsLockTest which)
unfolding lock_test_at lock_test
lock_test_item which =
    fits_as (IsLockTest which) (λ o f. (tt, (f.1.offset, (f.1.length, ((f.0, f.1.owner), tt)))))
    (λ o f. (f.1.1.1.0.0, record { offset = f.1.0; length = f.1.1.0; owner = f.1.1.1.0.1 })) (
    record_item (
    field_part (λ (o : OwnedLockTest). o.args.kind) _ (λ _. lock_type_item) (
    field_part (λ (o : OwnedLockTest). o.args.offset) _ (λ _. hyper_item) (
    field_part (λ (o : OwnedLockTest). o.args.length) _ (λ _. hyper_item) (
    field_part (λ (o : OwnedLockTest). (o.clientid, o.args.owner)) _ (λ _. owner_item which) (
    made_part _ (λ _. refl) (λ _. refl)))))))

pub unlock_item : IsItem unlock_at unlock IsUnlock
unfolding unlock_at unlock
unlock_item =
    fits_as IsUnlock (λ a f. (tt, (f.0, (f.1, (f.2, (f.3, tt)))))) (λ a f. (f.1.0, f.1.1.0, f.1.1.1.0, f.1.1.1.1.0)) (
    record_item (
    field_part (λ (a : UnlockArgs). a.kind) _ (λ _. lock_type_item) (
    field_part (λ (a : UnlockArgs). a.seqid) _ (λ _. word_item) (
    field_part (λ (a : UnlockArgs). a.stateid) _ (λ _. ref_item) (
    field_part (λ (a : UnlockArgs). a.offset) _ (λ _. hyper_item) (
    field_part (λ (a : UnlockArgs). a.length) _ (λ _. hyper_item) (
    made_part _ (λ _. refl) (λ _. refl))))))))

pub release_item : (which : Clientids) → IsItem (release_at which) release (IsRelease which)
unfolding release_at release
release_item which =
    made_item (λ (o : ℕ × List ℕ). record { clientid = o.0; args = record { owner = o.1 } }) release (IsRelease which) (λ o f. (f, refl)) (λ (o : OwnedRelease) f. ((o.clientid, o.args.owner), f, refl))
    (owner_item which)
