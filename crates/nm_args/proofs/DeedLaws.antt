-- A kept call is an item: what is read of one is spelled so, and what is spelled so is read.
use Rattle.std.proofs.Common.{◌≡◌, ℕ, true, List, ◌++◌, Option, Some, None, Result, Ok, refl, sym, ap, subst, ◌∙◌}
use Rattle.nm_xdr.specs.Fields.{short, Fault, ◌>>=◌, field, IsItem}
use Rattle.nm_xdr.specs.Items.{word}
use Rattle.nm_xdr.specs.Places.{place_of}
use Rattle.nm_xdr.proofs.FieldLaws.{tested_item, union_item, bind_ok, same_value}
use Rattle.nm_types.specs.declared.args.Locker.{Locker}
use Rattle.nm_types.specs.declared.args.Locker.TheVariants.{New, Known}
use Rattle.nm_types.specs.declared.calls.Deed.{Deed}
use Rattle.nm_types.specs.declared.calls.Deed.TheVariants as deed
use Rattle.nm_items.specs.declared.fault.ReadFault.{ReadFault}
use Rattle.nm_items.specs.declared.fault.ReadFault.TheVariants as item
use Rattle.nm_items.specs.Takes.{Fails}
use Rattle.nm_args.specs.declared.parts.Clientids.TheVariants.{Zero}
use Rattle.nm_args.specs.declared.op.Op.{Op}
use Rattle.nm_args.specs.declared.op.Op.TheVariants as op
use Rattle.nm_args.specs.declared.op.OpCode.{OpCode}
use Rattle.nm_args.specs.Locks.{HasClientid}
use Rattle.nm_args.specs.Operations.{number_of, code_of, args_by, args, IsOpBy, operation}
use Rattle.nm_args.specs.Compounds.{as_garbage, IsGarbage, IsRefused}
use Rattle.nm_args.specs.Deeds.{has_deed, op_of, deed_of, deed_bytes, IsDeed, deed_code_at, known, deed_args_at, deed_at}
use Rattle.nm_args.proofs.OpItems.{args_found, args_again, code_item}
use Rattle.nm_args.proofs.LoopLaws.{fault_place}

-- ---- Calls and their operations

has_none : (n : ℕ) (l : Locker) → HasClientid Zero n l → n ≡ 0
has_none n (New open_seqid stateid lock_seqid text) h = h
has_none n (Known stateid lock_seqid) h = h

by_deed : (o : Op) (x d : Deed) → op_of x ≡ o → Some x ≡ Some d → op_of d ≡ o
by_deed o x d is e =
    let same : x ≡ d = cc in
    subst (λ (y : Deed). op_of y ≡ o) same is

-- What is read as an operation's call is that operation.
deed_back : (o : Op) (d : Deed) → IsOpBy Zero o → deed_of o ≡ Some d → op_of d ≡ o
unfolding deed_of op_of
deed_back (op.Access a) d f e = by_deed (op.Access a) (deed.Access a) d refl e
deed_back (op.Close a) d f e = by_deed (op.Close a) (deed.Close a) d refl e
deed_back (op.Commit a) d f e = by_deed (op.Commit a) (deed.Commit a) d refl e
deed_back (op.Create a) d f e = by_deed (op.Create a) (deed.Create a) d refl e
deed_back (op.GetAttr a) d f e = by_deed (op.GetAttr a) (deed.GetAttr a) d refl e
deed_back (op.Lock a) d f e = by_deed (op.Lock a) (deed.Lock a.args) d (ap (λ (n : ℕ). op.Lock (record { clientid = n; args = a.args })) (sym (has_none a.clientid a.args.locker f.0))) e
deed_back (op.LockT a) d f e = by_deed (op.LockT a) (deed.LockTest a.args) d (ap (λ (n : ℕ). op.LockT (record { clientid = n; args = a.args })) (sym f.0)) e
deed_back (op.LockU a) d f e = by_deed (op.LockU a) (deed.Unlock a) d refl e
deed_back (op.Lookup a) d f e = by_deed (op.Lookup a) (deed.Lookup a) d refl e
deed_back op.LookupP d f e = by_deed op.LookupP deed.LookupP d refl e
deed_back (op.Open a) d f e = by_deed (op.Open a) (deed.Open a.args) d (ap (λ (n : ℕ). op.Open (record { clientid = n; args = a.args })) (sym f.0)) e
deed_back (op.OpenConfirm a) d f e = by_deed (op.OpenConfirm a) (deed.OpenConfirm a) d refl e
deed_back (op.OpenDowngrade a) d f e = by_deed (op.OpenDowngrade a) (deed.OpenDowngrade a) d refl e
deed_back (op.Read a) d f e = by_deed (op.Read a) (deed.Read a) d refl e
deed_back (op.ReadDir a) d f e = by_deed (op.ReadDir a) (deed.ReadDir a) d refl e
deed_back (op.Remove a) d f e = by_deed (op.Remove a) (deed.Remove a) d refl e
deed_back (op.SetAttr a) d f e = by_deed (op.SetAttr a) (deed.SetAttr a) d refl e
deed_back (op.Write a) d f e = by_deed (op.Write a) (deed.Write a) d refl e
deed_back (op.ReleaseLockOwner a) d f e = by_deed (op.ReleaseLockOwner a) (deed.ReleaseLockOwner a.args) d (ap (λ (n : ℕ). op.ReleaseLockOwner (record { clientid = n; args = a.args })) (sym f.0)) e
deed_back (op.DelegPurge a) d f e = absurd cc
deed_back (op.DelegReturn a) d f e = absurd cc
deed_back op.GetFh d f e = absurd cc
deed_back (op.Link a) d f e = absurd cc
deed_back (op.NVerify a) d f e = absurd cc
deed_back (op.OpenAttr a) d f e = absurd cc
deed_back (op.PutFh a) d f e = absurd cc
deed_back op.PutPubFh d f e = absurd cc
deed_back op.PutRootFh d f e = absurd cc
deed_back op.ReadLink d f e = absurd cc
deed_back (op.Rename a) d f e = absurd cc
deed_back (op.Renew a) d f e = absurd cc
deed_back op.RestoreFh d f e = absurd cc
deed_back op.SaveFh d f e = absurd cc
deed_back (op.SecInfo a) d f e = absurd cc
deed_back (op.SetClientId a) d f e = absurd cc
deed_back (op.SetClientIdConfirm a) d f e = absurd cc
deed_back (op.Verify a) d f e = absurd cc

deed_again : (d : Deed) → deed_of (op_of d) ≡ Some d
unfolding deed_of op_of
deed_again (deed.Access a) = refl
deed_again (deed.Close a) = refl
deed_again (deed.Commit a) = refl
deed_again (deed.Create a) = refl
deed_again (deed.GetAttr a) = refl
deed_again (deed.Lock a) = refl
deed_again (deed.LockTest a) = refl
deed_again (deed.Unlock a) = refl
deed_again (deed.Lookup a) = refl
deed_again deed.LookupP = refl
deed_again (deed.Open a) = refl
deed_again (deed.OpenConfirm a) = refl
deed_again (deed.OpenDowngrade a) = refl
deed_again (deed.Read a) = refl
deed_again (deed.ReadDir a) = refl
deed_again (deed.Remove a) = refl
deed_again (deed.SetAttr a) = refl
deed_again (deed.Write a) = refl
deed_again (deed.ReleaseLockOwner a) = refl

deed_has : (d : Deed) → has_deed (code_of (op_of d)) ≡ true
unfolding has_deed op_of
deed_has (deed.Access a) = refl
deed_has (deed.Close a) = refl
deed_has (deed.Commit a) = refl
deed_has (deed.Create a) = refl
deed_has (deed.GetAttr a) = refl
deed_has (deed.Lock a) = refl
deed_has (deed.LockTest a) = refl
deed_has (deed.Unlock a) = refl
deed_has (deed.Lookup a) = refl
deed_has deed.LookupP = refl
deed_has (deed.Open a) = refl
deed_has (deed.OpenConfirm a) = refl
deed_has (deed.OpenDowngrade a) = refl
deed_has (deed.Read a) = refl
deed_has (deed.ReadDir a) = refl
deed_has (deed.Remove a) = refl
deed_has (deed.SetAttr a) = refl
deed_has (deed.Write a) = refl
deed_has (deed.ReleaseLockOwner a) = refl

-- ---- The item

deed_code_item : IsItem deed_code_at (λ k. word (number_of k)) (λ k. Unit {0} × (has_deed k ≡ true))
unfolding deed_code_at
deed_code_item = tested_item has_deed (λ _. short) code_item

known_found : (o : Option Deed) (bytes : List ℕ) (d : Deed) (rest : List ℕ) → known o bytes ≡ Ok (d, rest) → (o ≡ Some d) × (bytes ≡ rest)
known_found (Some x) bytes d rest e = let same = same_value x d bytes rest e in (ap (λ (v : Deed). Some v) same.0, same.1)
known_found None bytes d rest e = absurd cc

deed_args_item : (k : OpCode) → IsItem (deed_args_at k) (λ d. args (op_of d)) (λ d. IsDeed d × (code_of (op_of d) ≡ k))
unfolding deed_args_at
deed_args_item k = record {
  found = λ bytes d rest fits e.
      let b = bind_ok (args_by Zero k bytes) (λ (o : Op × List ℕ). known (deed_of o.0) o.1) (d, rest) e in
      let p = args_found Zero k bytes b.0.0 b.0.1 fits b.1 in
      let n = known_found (deed_of b.0.0) b.0.1 d rest b.2 in
      let same : op_of d ≡ b.0.0 = deed_back b.0.0 d p.1.0 n.0 in (
        p.0 ∙ ap (λ (o : Op). args o ++ b.0.1) (sym same) ∙ ap (λ (r : List ℕ). args (op_of d) ++ r) n.1,
        subst (λ (o : Op). IsOpBy Zero o × (code_of o ≡ k)) (sym same) p.1,
      );
  again = λ d rest f.
      subst (λ (n : OpCode). field (args_by Zero n) (λ o. known (deed_of o)) (args (op_of d) ++ rest) ≡ Ok (d, rest)) f.1
      (ap (λ (r : Result (Op × List ℕ) Fault). r >>= λ o. known (deed_of o.0) o.1) (args_again Zero (op_of d) rest f.0)
      ∙ ap (λ (o : Option Deed). known o rest) (deed_again d));
}

pub deed_item : IsItem deed_at deed_bytes IsDeed
unfolding deed_at deed_bytes operation
deed_item = union_item (λ d. code_of (op_of d)) IsDeed (λ d _. (tt, deed_has d)) deed_code_item (λ k _. deed_args_item k)

-- ---- What a call of the code answers

-- An item that isn't read is garbage at its place.
pub refused : {X : Type 0} (total : ℕ) (e : ReadFault) (given : Result (X × List ℕ) Fault) → Fails total e given → IsRefused total (as_garbage e) given
refused {X} total (item.Xdr e) given tells =
    subst (λ (r : Result (X × List ℕ) Fault). IsGarbage total (place_of e) r) (sym tells.0) (fault_place total e tells.1)
refused total item.Memory given tells = tt
