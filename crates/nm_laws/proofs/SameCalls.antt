-- The tests by which a call is the one that came before decide equality.
use Rattle.std.proofs.Common.{◌≡◌, ℕ, Bool, true, false, List, Option, Some, None, refl, ap}
use Rattle.std.specs.Bool.{Decides}
use Rattle.std.specs.Prelude.{◌==◌, ◌&&◌}
use Rattle.std.specs.Str.{bytes_eq}
use Rattle.std.proofs.lemmas.Bool.{false≢true}
use Rattle.std.proofs.lemmas.Bool.Decides.{Decides-eqb, Decides-and, Decides-like}
use Rattle.std.proofs.lemmas.Slice.Eq.{bytes_eq-Decides}
use Rattle.nm_types.specs.Parties.{Party, same_party}
use Rattle.nm_rules.specs.Repeats.{same_id, same_stateid, same_fattr, same_opentype, same_claim, same_type, same_flag, is_new, same_locker, same_close, same_lock, same_unlock, same_open, same_confirm, same_downgrade, is_close, is_lock, is_unlock, is_open, is_confirm, is_downgrade, same_deed, same_caller, same_call}
use Rattle.nm_rules.proofs.OwnerLemmas.{same_party-Decides}
use Rattle.nm_laws.specs.SeqidCalls.{takes_seqid}
use Rattle.nm_types.specs.declared.args.Claim.{Claim}
use Rattle.nm_types.specs.declared.args.Claim.TheVariants.{Null, Previous, DelegateCur, DelegatePrev}
use Rattle.nm_types.specs.declared.args.CloseArgs.{CloseArgs}
use Rattle.nm_types.specs.declared.args.Fattr.{Fattr}
use Rattle.nm_types.specs.declared.args.LockArgs.{LockArgs}
use Rattle.nm_types.specs.declared.args.Locker.{Locker}
use Rattle.nm_types.specs.declared.args.Locker.TheVariants.{New, Known}
use Rattle.nm_types.specs.declared.args.LockType.{LockType}
use Rattle.nm_types.specs.declared.args.LockType.TheVariants as asked
use Rattle.nm_types.specs.declared.args.OpenArgs.{OpenArgs}
use Rattle.nm_types.specs.declared.args.OpenConfirmArgs.{OpenConfirmArgs}
use Rattle.nm_types.specs.declared.args.OpenDowngradeArgs.{OpenDowngradeArgs}
use Rattle.nm_types.specs.declared.args.OpenType.{OpenType}
use Rattle.nm_types.specs.declared.args.OpenType.TheVariants.{NoCreate, Unchecked, Guarded, Exclusive}
use Rattle.nm_types.specs.declared.args.UnlockArgs.{UnlockArgs}
use Rattle.nm_types.specs.declared.calls.Call.{Call}
use Rattle.nm_types.specs.declared.calls.Deed.{Deed}
use Rattle.nm_types.specs.declared.calls.Deed.TheVariants as deed
use Rattle.nm_types.specs.declared.calls.StateId.{StateId}
use Rattle.nm_types.specs.declared.calls.StateRef.{StateRef}
use Rattle.nm_types.specs.declared.calls.StateRef.TheVariants.{Zeros, Ones, Named}

-- ---- stateids

id_decides : (a b : StateId) → Decides (same_id a b) (a ≡ b)
id_decides a b = Decides-like (same_id a b)
    (λ h. λ i. record { seqid = h.0.0 i; fs = h.0.1 i; counter = h.1 i })
    (λ e. ((ap (λ (x : StateId). x.seqid) e, ap (λ (x : StateId). x.fs) e), ap (λ (x : StateId). x.counter) e))
    (Decides-and _ _ (Decides-and _ _ (Decides-eqb a.seqid b.seqid) (Decides-eqb a.fs b.fs)) (Decides-eqb a.counter b.counter))

stateid_decides : (a b : StateRef) → Decides (same_stateid a b) (a ≡ b)
stateid_decides Zeros Zeros = (λ h. refl, λ e. refl)
stateid_decides Zeros Ones = (λ h. cc, λ e. cc)
stateid_decides Zeros (Named b) = (λ h. cc, λ e. cc)
stateid_decides Ones Zeros = (λ h. cc, λ e. cc)
stateid_decides Ones Ones = (λ h. refl, λ e. refl)
stateid_decides Ones (Named b) = (λ h. cc, λ e. cc)
stateid_decides (Named a) Zeros = (λ h. cc, λ e. cc)
stateid_decides (Named a) Ones = (λ h. cc, λ e. cc)
stateid_decides (Named a) (Named b) = Decides-like (same_id a b) (λ e. ap Named e) (λ e. cc) (id_decides a b)

-- ---- attributes, ways of opening and claims

fattr_decides : (a b : Fattr) → Decides (same_fattr a b) (a ≡ b)
fattr_decides a b = Decides-like (same_fattr a b)
    (λ h. λ i. record { words = h.0 i; values = h.1 i })
    (λ e. (ap (λ (x : Fattr). x.words) e, ap (λ (x : Fattr). x.values) e))
    (Decides-and _ _ (bytes_eq-Decides a.words b.words) (bytes_eq-Decides a.values b.values))

opentype_decides : (a b : OpenType) → Decides (same_opentype a b) (a ≡ b)
opentype_decides NoCreate NoCreate = (λ h. refl, λ e. refl)
opentype_decides NoCreate (Unchecked b) = (λ h. cc, λ e. cc)
opentype_decides NoCreate (Guarded b) = (λ h. cc, λ e. cc)
opentype_decides NoCreate (Exclusive b) = (λ h. cc, λ e. cc)
opentype_decides (Unchecked a) NoCreate = (λ h. cc, λ e. cc)
opentype_decides (Unchecked a) (Unchecked b) = Decides-like (same_fattr a b) (λ e. ap Unchecked e) (λ e. cc) (fattr_decides a b)
opentype_decides (Unchecked a) (Guarded b) = (λ h. cc, λ e. cc)
opentype_decides (Unchecked a) (Exclusive b) = (λ h. cc, λ e. cc)
opentype_decides (Guarded a) NoCreate = (λ h. cc, λ e. cc)
opentype_decides (Guarded a) (Unchecked b) = (λ h. cc, λ e. cc)
opentype_decides (Guarded a) (Guarded b) = Decides-like (same_fattr a b) (λ e. ap Guarded e) (λ e. cc) (fattr_decides a b)
opentype_decides (Guarded a) (Exclusive b) = (λ h. cc, λ e. cc)
opentype_decides (Exclusive a) NoCreate = (λ h. cc, λ e. cc)
opentype_decides (Exclusive a) (Unchecked b) = (λ h. cc, λ e. cc)
opentype_decides (Exclusive a) (Guarded b) = (λ h. cc, λ e. cc)
opentype_decides (Exclusive a) (Exclusive b) = Decides-like (a == b) (λ e. ap Exclusive e) (λ e. cc) (Decides-eqb a b)

held_decides : (a b : StateRef) (name its : List ℕ) → Decides (same_stateid a b && bytes_eq name its) (DelegateCur a name ≡ DelegateCur b its)
held_decides a b name its = Decides-like (same_stateid a b && bytes_eq name its) (λ h. λ i. DelegateCur (h.0 i) (h.1 i)) (λ e. (cc, cc))
    (Decides-and _ _ (stateid_decides a b) (bytes_eq-Decides name its))

claim_decides : (a b : Claim) → Decides (same_claim a b) (a ≡ b)
claim_decides (Null a) (Null b) = Decides-like (bytes_eq a b) (λ e. ap Null e) (λ e. cc) (bytes_eq-Decides a b)
claim_decides (Null a) (Previous b) = (λ h. cc, λ e. cc)
claim_decides (Null a) (DelegateCur b its) = (λ h. cc, λ e. cc)
claim_decides (Null a) (DelegatePrev b) = (λ h. cc, λ e. cc)
claim_decides (Previous a) (Null b) = (λ h. cc, λ e. cc)
claim_decides (Previous a) (Previous b) = Decides-like (a == b) (λ e. ap Previous e) (λ e. cc) (Decides-eqb a b)
claim_decides (Previous a) (DelegateCur b its) = (λ h. cc, λ e. cc)
claim_decides (Previous a) (DelegatePrev b) = (λ h. cc, λ e. cc)
claim_decides (DelegateCur a name) (Null b) = (λ h. cc, λ e. cc)
claim_decides (DelegateCur a name) (Previous b) = (λ h. cc, λ e. cc)
claim_decides (DelegateCur a name) (DelegateCur b its) = held_decides a b name its
claim_decides (DelegateCur a name) (DelegatePrev b) = (λ h. cc, λ e. cc)
claim_decides (DelegatePrev a) (Null b) = (λ h. cc, λ e. cc)
claim_decides (DelegatePrev a) (Previous b) = (λ h. cc, λ e. cc)
claim_decides (DelegatePrev a) (DelegateCur b its) = (λ h. cc, λ e. cc)
claim_decides (DelegatePrev a) (DelegatePrev b) = Decides-like (bytes_eq a b) (λ e. ap DelegatePrev e) (λ e. cc) (bytes_eq-Decides a b)

-- ---- locks

type_decides : (a b : LockType) → Decides (same_type a b) (a ≡ b)
type_decides asked.Read asked.Read = (λ h. refl, λ e. refl)
type_decides asked.Read asked.Write = (λ h. cc, λ e. cc)
type_decides asked.Read asked.ReadWait = (λ h. cc, λ e. cc)
type_decides asked.Read asked.WriteWait = (λ h. cc, λ e. cc)
type_decides asked.Write asked.Read = (λ h. cc, λ e. cc)
type_decides asked.Write asked.Write = (λ h. refl, λ e. refl)
type_decides asked.Write asked.ReadWait = (λ h. cc, λ e. cc)
type_decides asked.Write asked.WriteWait = (λ h. cc, λ e. cc)
type_decides asked.ReadWait asked.Read = (λ h. cc, λ e. cc)
type_decides asked.ReadWait asked.Write = (λ h. cc, λ e. cc)
type_decides asked.ReadWait asked.ReadWait = (λ h. refl, λ e. refl)
type_decides asked.ReadWait asked.WriteWait = (λ h. cc, λ e. cc)
type_decides asked.WriteWait asked.Read = (λ h. cc, λ e. cc)
type_decides asked.WriteWait asked.Write = (λ h. cc, λ e. cc)
type_decides asked.WriteWait asked.ReadWait = (λ h. cc, λ e. cc)
type_decides asked.WriteWait asked.WriteWait = (λ h. refl, λ e. refl)

flag_decides : (a b : Bool) → Decides (same_flag a b) (a ≡ b)
flag_decides true true = (λ h. refl, λ e. refl)
flag_decides true false = (λ h. cc, λ e. cc)
flag_decides false true = (λ h. cc, λ e. cc)
flag_decides false false = (λ h. refl, λ e. refl)

new_decides : (open_seqid its_open_seqid : ℕ) (stateid its_stateid : StateRef) (lock_seqid its_lock_seqid : ℕ) (owner its_owner : List ℕ)
    → Decides (is_new open_seqid stateid lock_seqid owner (New its_open_seqid its_stateid its_lock_seqid its_owner))
    (New open_seqid stateid lock_seqid owner ≡ New its_open_seqid its_stateid its_lock_seqid its_owner)
new_decides open_seqid its_open_seqid stateid its_stateid lock_seqid its_lock_seqid owner its_owner =
    Decides-like (is_new open_seqid stateid lock_seqid owner (New its_open_seqid its_stateid its_lock_seqid its_owner))
    (λ h. λ i. New (h.0.0.0 i) (h.0.0.1 i) (h.0.1 i) (h.1 i)) (λ e. (((cc, cc), cc), cc))
    (Decides-and _ _ (Decides-and _ _ (Decides-and _ _ (Decides-eqb open_seqid its_open_seqid) (stateid_decides stateid its_stateid)) (Decides-eqb lock_seqid its_lock_seqid))
    (bytes_eq-Decides owner its_owner))

known_decides : (stateid its_stateid : StateRef) (lock_seqid its_lock_seqid : ℕ)
    → Decides (same_stateid stateid its_stateid && (lock_seqid == its_lock_seqid)) (Known stateid lock_seqid ≡ Known its_stateid its_lock_seqid)
known_decides stateid its_stateid lock_seqid its_lock_seqid =
    Decides-like (same_stateid stateid its_stateid && (lock_seqid == its_lock_seqid)) (λ h. λ i. Known (h.0 i) (h.1 i)) (λ e. (cc, cc))
    (Decides-and _ _ (stateid_decides stateid its_stateid) (Decides-eqb lock_seqid its_lock_seqid))

locker_decides : (a b : Locker) → Decides (same_locker a b) (a ≡ b)
locker_decides (New open_seqid stateid lock_seqid owner) (New its_open_seqid its_stateid its_lock_seqid its_owner) =
    new_decides open_seqid its_open_seqid stateid its_stateid lock_seqid its_lock_seqid owner its_owner
locker_decides (New open_seqid stateid lock_seqid owner) (Known its_stateid its_lock_seqid) = (λ h. cc, λ e. cc)
locker_decides (Known stateid lock_seqid) (New its_open_seqid its_stateid its_lock_seqid its_owner) = (λ h. cc, λ e. cc)
locker_decides (Known stateid lock_seqid) (Known its_stateid its_lock_seqid) = known_decides stateid its_stateid lock_seqid its_lock_seqid

-- ---- arguments

close_decides : (a b : CloseArgs) → Decides (same_close a b) (a ≡ b)
close_decides a b = Decides-like (same_close a b)
    (λ h. λ i. record { seqid = h.0 i; stateid = h.1 i })
    (λ e. (ap (λ (x : CloseArgs). x.seqid) e, ap (λ (x : CloseArgs). x.stateid) e))
    (Decides-and _ _ (Decides-eqb a.seqid b.seqid) (stateid_decides a.stateid b.stateid))

lock_decides : (a b : LockArgs) → Decides (same_lock a b) (a ≡ b)
lock_decides a b = Decides-like (same_lock a b)
    (λ h. λ i. record { kind = h.0.0.0.0 i; reclaim = h.0.0.0.1 i; offset = h.0.0.1 i; length = h.0.1 i; locker = h.1 i })
    (λ e. ((((ap (λ (x : LockArgs). x.kind) e, ap (λ (x : LockArgs). x.reclaim) e), ap (λ (x : LockArgs). x.offset) e), ap (λ (x : LockArgs). x.length) e), ap (λ (x : LockArgs). x.locker) e))
    (Decides-and _ _ (Decides-and _ _ (Decides-and _ _ (Decides-and _ _ (type_decides a.kind b.kind) (flag_decides a.reclaim b.reclaim)) (Decides-eqb a.offset b.offset)) (Decides-eqb a.length b.length))
    (locker_decides a.locker b.locker))

unlock_decides : (a b : UnlockArgs) → Decides (same_unlock a b) (a ≡ b)
unlock_decides a b = Decides-like (same_unlock a b)
    (λ h. λ i. record { kind = h.0.0.0.0 i; seqid = h.0.0.0.1 i; stateid = h.0.0.1 i; offset = h.0.1 i; length = h.1 i })
    (λ e. ((((ap (λ (x : UnlockArgs). x.kind) e, ap (λ (x : UnlockArgs). x.seqid) e), ap (λ (x : UnlockArgs). x.stateid) e), ap (λ (x : UnlockArgs). x.offset) e), ap (λ (x : UnlockArgs). x.length) e))
    (Decides-and _ _ (Decides-and _ _ (Decides-and _ _ (Decides-and _ _ (type_decides a.kind b.kind) (Decides-eqb a.seqid b.seqid)) (stateid_decides a.stateid b.stateid)) (Decides-eqb a.offset b.offset))
    (Decides-eqb a.length b.length))

open_decides : (a b : OpenArgs) → Decides (same_open a b) (a ≡ b)
open_decides a b = Decides-like (same_open a b)
    (λ h. λ i. record { seqid = h.0.0.0.0.0 i; access = h.0.0.0.0.1 i; deny = h.0.0.0.1 i; owner = h.0.0.1 i; opentype = h.0.1 i; claim = h.1 i })
    (λ e. (((((ap (λ (x : OpenArgs). x.seqid) e, ap (λ (x : OpenArgs). x.access) e), ap (λ (x : OpenArgs). x.deny) e), ap (λ (x : OpenArgs). x.owner) e), ap (λ (x : OpenArgs). x.opentype) e), ap (λ (x : OpenArgs). x.claim) e))
    (Decides-and _ _ (Decides-and _ _ (Decides-and _ _ (Decides-and _ _ (Decides-and _ _ (Decides-eqb a.seqid b.seqid) (Decides-eqb a.access b.access)) (Decides-eqb a.deny b.deny)) (bytes_eq-Decides a.owner b.owner))
    (opentype_decides a.opentype b.opentype)) (claim_decides a.claim b.claim))

confirm_decides : (a b : OpenConfirmArgs) → Decides (same_confirm a b) (a ≡ b)
confirm_decides a b = Decides-like (same_confirm a b)
    (λ h. λ i. record { stateid = h.0 i; seqid = h.1 i })
    (λ e. (ap (λ (x : OpenConfirmArgs). x.stateid) e, ap (λ (x : OpenConfirmArgs). x.seqid) e))
    (Decides-and _ _ (stateid_decides a.stateid b.stateid) (Decides-eqb a.seqid b.seqid))

downgrade_decides : (a b : OpenDowngradeArgs) → Decides (same_downgrade a b) (a ≡ b)
downgrade_decides a b = Decides-like (same_downgrade a b)
    (λ h. λ i. record { stateid = h.0.0.0 i; seqid = h.0.0.1 i; access = h.0.1 i; deny = h.1 i })
    (λ e. (((ap (λ (x : OpenDowngradeArgs). x.stateid) e, ap (λ (x : OpenDowngradeArgs). x.seqid) e), ap (λ (x : OpenDowngradeArgs). x.access) e), ap (λ (x : OpenDowngradeArgs). x.deny) e))
    (Decides-and _ _ (Decides-and _ _ (Decides-and _ _ (stateid_decides a.stateid b.stateid) (Decides-eqb a.seqid b.seqid)) (Decides-eqb a.access b.access)) (Decides-eqb a.deny b.deny))

-- ---- operations

is_close_decides : (a : CloseArgs) (d : Deed) → Decides (is_close a d) (deed.Close a ≡ d)
unfolding is_close
is_close_decides a (deed.Close b) = Decides-like (same_close a b) (λ e. ap deed.Close e) (λ e. cc) (close_decides a b)
is_close_decides a _ = (λ h. absurd (false≢true h), λ e. cc)

is_lock_decides : (a : LockArgs) (d : Deed) → Decides (is_lock a d) (deed.Lock a ≡ d)
unfolding is_lock
is_lock_decides a (deed.Lock b) = Decides-like (same_lock a b) (λ e. ap deed.Lock e) (λ e. cc) (lock_decides a b)
is_lock_decides a _ = (λ h. absurd (false≢true h), λ e. cc)

is_unlock_decides : (a : UnlockArgs) (d : Deed) → Decides (is_unlock a d) (deed.Unlock a ≡ d)
unfolding is_unlock
is_unlock_decides a (deed.Unlock b) = Decides-like (same_unlock a b) (λ e. ap deed.Unlock e) (λ e. cc) (unlock_decides a b)
is_unlock_decides a _ = (λ h. absurd (false≢true h), λ e. cc)

is_open_decides : (a : OpenArgs) (d : Deed) → Decides (is_open a d) (deed.Open a ≡ d)
unfolding is_open
is_open_decides a (deed.Open b) = Decides-like (same_open a b) (λ e. ap deed.Open e) (λ e. cc) (open_decides a b)
is_open_decides a _ = (λ h. absurd (false≢true h), λ e. cc)

is_confirm_decides : (a : OpenConfirmArgs) (d : Deed) → Decides (is_confirm a d) (deed.OpenConfirm a ≡ d)
unfolding is_confirm
is_confirm_decides a (deed.OpenConfirm b) = Decides-like (same_confirm a b) (λ e. ap deed.OpenConfirm e) (λ e. cc) (confirm_decides a b)
is_confirm_decides a _ = (λ h. absurd (false≢true h), λ e. cc)

is_downgrade_decides : (a : OpenDowngradeArgs) (d : Deed) → Decides (is_downgrade a d) (deed.OpenDowngrade a ≡ d)
unfolding is_downgrade
is_downgrade_decides a (deed.OpenDowngrade b) = Decides-like (same_downgrade a b) (λ e. ap deed.OpenDowngrade e) (λ e. cc) (downgrade_decides a b)
is_downgrade_decides a _ = (λ h. absurd (false≢true h), λ e. cc)

deed_decides : (a b : Deed) → Decides (same_deed a b) ((takes_seqid a ≡ true) × (a ≡ b))
unfolding same_deed
deed_decides (deed.Close a) b = Decides-like (is_close a b) (λ e. (refl, e)) (λ p. p.1) (is_close_decides a b)
deed_decides (deed.Lock a) b = Decides-like (is_lock a b) (λ e. (refl, e)) (λ p. p.1) (is_lock_decides a b)
deed_decides (deed.Open a) b = Decides-like (is_open a b) (λ e. (refl, e)) (λ p. p.1) (is_open_decides a b)
deed_decides (deed.OpenConfirm a) b = Decides-like (is_confirm a b) (λ e. (refl, e)) (λ p. p.1) (is_confirm_decides a b)
deed_decides (deed.OpenDowngrade a) b = Decides-like (is_downgrade a b) (λ e. (refl, e)) (λ p. p.1) (is_downgrade_decides a b)
deed_decides (deed.Unlock a) b = Decides-like (is_unlock a b) (λ e. (refl, e)) (λ p. p.1) (is_unlock_decides a b)
deed_decides _ b = (λ h. absurd (false≢true h), λ p. absurd (false≢true p.0))

-- ---- the call

caller_decides : (a b : Option Party) → Decides (same_caller a b) (a ≡ b)
caller_decides None None = (λ h. refl, λ e. refl)
caller_decides None (Some b) = (λ h. cc, λ e. cc)
caller_decides (Some a) None = (λ h. cc, λ e. cc)
caller_decides (Some a) (Some b) = Decides-like (same_party a b) (λ e. ap Some e) (λ e. cc) (same_party-Decides a b)

pub call_decides : (call kept : Call) → Decides (same_call call.caller call.file call.deed kept) ((takes_seqid call.deed ≡ true) × (call ≡ kept))
unfolding same_call
call_decides call kept = Decides-like (same_call call.caller call.file call.deed kept)
    (λ h. (h.1.0, λ i. record { caller = h.0.0 i; file = h.0.1 i; deed = h.1.1 i }))
    (λ p. ((ap (λ (x : Call). x.caller) p.1, ap (λ (x : Call). x.file) p.1), (p.0, ap (λ (x : Call). x.deed) p.1)))
    (Decides-and _ _ (Decides-and _ _ (caller_decides call.caller kept.caller) (Decides-eqb call.file kept.file)) (deed_decides call.deed kept.deed))
