-- The numbers of statuses are read as they are written.
use Rattle.std.proofs.Common.{◌≡◌, ℕ, ◌^◌, ◌<◌, Bool, true, false, cond, eqb, List, [], ◌∷◌, Some, refl, sym, ap, ◌∙◌, arith}
use Rattle.std.proofs.lemmas.Bool.{eqb-true}
use Rattle.std.specs.Prelude.{find}
use Rattle.nm_xdr.specs.Fields.{IsItem}
use Rattle.nm_xdr.specs.Items.{word}
use Rattle.nm_xdr.proofs.ItemLaws.{enum_item}
use Rattle.nm_types.specs.declared.status.OpStatus.{OpStatus}
use Rattle.nm_types.specs.declared.status.OpStatus.TheVariants.{Nfs4Ok, NoEnt, Exist, NotDir, IsDir, Inval, FBig, NoSpc, NameTooLong, NotEmpty, Stale, BadHandle, NotSupp, TooSmall, ServerFault, BadType, Delay, Denied, Expired, Locked, Grace, ShareDenied, ClidInUse, Resource, Moved, NoFileHandle, MinorVersMismatch, StaleClientId, StaleStateId, OldStateId, BadStateId, BadSeqid, NotSame, RestoreFh, LeaseMoved, AttrNotSupp, NoGrace, BadXdr, LocksHeld, OpenMode, BadName, OpIllegal, FileOpen}
use Rattle.nm_types.specs.Statuses.{number_of, statuses, status_of}
use Rattle.nm_results.specs.Results.{status_at}

-- what is found passes the test
pub find_true : {X : Type 0} (p : X → Bool) (xs : List X) (x : X) → find p xs ≡ Some x → p x ≡ true
find_true p [] x e = absurd cc
find_true {X} p (y ∷ ys) x e = by (p y) refl e (find_true p ys x)
  where
    by : (b : Bool) → p y ≡ b → cond b (Some y) (find p ys) ≡ Some x → (find p ys ≡ Some x → p x ≡ true) → p x ≡ true
    by true is h next =
        let same : y ≡ x = cc in
        ap p (sym same) ∙ is
    by false is h next = next h

pub small : (s : OpStatus) → number_of s < 2 ^ 32
unfolding number_of
small Nfs4Ok = omega arith
small NoEnt = omega arith
small Exist = omega arith
small NotDir = omega arith
small IsDir = omega arith
small Inval = omega arith
small FBig = omega arith
small NoSpc = omega arith
small NameTooLong = omega arith
small NotEmpty = omega arith
small Stale = omega arith
small BadHandle = omega arith
small NotSupp = omega arith
small TooSmall = omega arith
small ServerFault = omega arith
small BadType = omega arith
small Delay = omega arith
small Denied = omega arith
small Expired = omega arith
small Locked = omega arith
small Grace = omega arith
small ShareDenied = omega arith
small ClidInUse = omega arith
small Resource = omega arith
small Moved = omega arith
small NoFileHandle = omega arith
small MinorVersMismatch = omega arith
small StaleClientId = omega arith
small StaleStateId = omega arith
small OldStateId = omega arith
small BadStateId = omega arith
small BadSeqid = omega arith
small NotSame = omega arith
small RestoreFh = omega arith
small LeaseMoved = omega arith
small AttrNotSupp = omega arith
small NoGrace = omega arith
small BadXdr = omega arith
small LocksHeld = omega arith
small OpenMode = omega arith
small BadName = omega arith
small OpIllegal = omega arith
small FileOpen = omega arith

back : (s : OpStatus) → status_of (number_of s) ≡ Some s
unfolding number_of status_of
back Nfs4Ok = refl
back NoEnt = refl
back Exist = refl
back NotDir = refl
back IsDir = refl
back Inval = refl
back FBig = refl
back NoSpc = refl
back NameTooLong = refl
back NotEmpty = refl
back Stale = refl
back BadHandle = refl
back NotSupp = refl
back TooSmall = refl
back ServerFault = refl
back BadType = refl
back Delay = refl
back Denied = refl
back Expired = refl
back Locked = refl
back Grace = refl
back ShareDenied = refl
back ClidInUse = refl
back Resource = refl
back Moved = refl
back NoFileHandle = refl
back MinorVersMismatch = refl
back StaleClientId = refl
back StaleStateId = refl
back OldStateId = refl
back BadStateId = refl
back BadSeqid = refl
back NotSame = refl
back RestoreFh = refl
back LeaseMoved = refl
back AttrNotSupp = refl
back NoGrace = refl
back BadXdr = refl
back LocksHeld = refl
back OpenMode = refl
back BadName = refl
back OpIllegal = refl
back FileOpen = refl

forth : (n : ℕ) (s : OpStatus) → status_of n ≡ Some s → number_of s ≡ n
unfolding status_of
forth n s e = eqb-true (number_of s) n (find_true (λ x. eqb (number_of x) n) statuses s e)

pub status_item : IsItem status_at (λ s. word (number_of s)) (λ _. Unit {0})
unfolding status_at
status_item = enum_item number_of status_of small back forth
