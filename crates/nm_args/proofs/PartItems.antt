-- The reading and the spelling of the items that several operations have belong together.
use Rattle.std.proofs.Common.{◌≡◌, ℕ, ◌^◌, ◌<◌, Bool, true, false, cond, eqb, List, [], ◌∷◌, Some, refl, sym, ap, ◌∙◌, arith}
use Rattle.std.specs.List.{find}
use Rattle.std.proofs.lemmas.Bool.{eqb-true, eq-eqb}
use Rattle.nm_xdr.specs.Fields.{short, IsItem}
use Rattle.nm_xdr.specs.Items.{word, hyper, opaque}
use Rattle.nm_xdr.proofs.FieldLaws.{field_part, made_part, record_item, fits_as, tested_item}
use Rattle.nm_xdr.proofs.ItemLaws.{hyper_item, enum_item}
use Rattle.nm_xdr.proofs.ByteLaws.{bytes_item}
use Rattle.nm_types.specs.declared.args.LockType.{LockType}
use Rattle.nm_types.specs.declared.args.LockType.TheVariants as lock
use Rattle.nm_types.specs.declared.args.Stable.{Stable}
use Rattle.nm_types.specs.declared.args.Stable.TheVariants as stable
use Rattle.nm_args.specs.declared.parts.Clientids.{Clientids}
use Rattle.nm_args.specs.declared.parts.Clientids.TheVariants.{Any, Zero}
use Rattle.nm_args.specs.Parts.{name_at, IsName, text_at, IsText, clientid_at, IsClientid, owner_bytes, owner_at, IsOwner, lock_number, lock_of, lock_type_at, stable_number, stable_of, stable_at}

pub name_item : IsItem name_at opaque IsName
unfolding name_at
name_item = bytes_item 1048576 (omega arith)

pub text_item : IsItem text_at opaque IsText
unfolding text_at
text_item = bytes_item 1024 (omega arith)

-- ---- Owners

clientid_item : (which : Clientids) → IsItem (clientid_at which) hyper (IsClientid which)
clientid_item Any = hyper_item
clientid_item Zero =
    fits_as (λ n. n ≡ 0) (λ n e. (omega (arith, e), eq-eqb n 0 e)) (λ n f. eqb-true n 0 f.1) (tested_item (λ n. eqb n 0) (λ _. short) hyper_item)

pub owner_item : (which : Clientids) → IsItem (owner_at which) owner_bytes (IsOwner which)
unfolding owner_at owner_bytes
owner_item which =
    fits_as (IsOwner which) (λ o f. (f.0, (f.1, tt))) (λ o f. (f.0, f.1.0)) (
    record_item (
    field_part (λ (o : ℕ × List ℕ). o.0) _ (λ _. clientid_item which) (
    field_part (λ (o : ℕ × List ℕ). o.1) _ (λ _. text_item) (
    made_part _ (λ _. refl) (λ _. refl)))))

-- ---- Enumerations

-- What is found by its number has it.
pub number_found : {X : Type 0} (number : X → ℕ) (n : ℕ) (xs : List X) (x : X) → find (λ y. eqb (number y) n) xs ≡ Some x → number x ≡ n
number_found number n [] x e = absurd cc
number_found {X} number n (y ∷ ys) x e = by_test (eqb (number y) n) refl e (number_found number n ys x)
  where
    by_test : (b : Bool) → eqb (number y) n ≡ b → cond b (Some y) (find (λ z. eqb (number z) n) ys) ≡ Some x
        → (find (λ z. eqb (number z) n) ys ≡ Some x → number x ≡ n) → number x ≡ n
    by_test true is h more =
        let same : y ≡ x = cc in
        ap number (sym same) ∙ eqb-true (number y) n is
    by_test false is h more = more h

lock_small : (t : LockType) → lock_number t < 2 ^ 32
unfolding lock_number
lock_small lock.Read = omega arith
lock_small lock.Write = omega arith
lock_small lock.ReadWait = omega arith
lock_small lock.WriteWait = omega arith

lock_back : (t : LockType) → lock_of (lock_number t) ≡ Some t
unfolding lock_of lock_number
lock_back lock.Read = refl
lock_back lock.Write = refl
lock_back lock.ReadWait = refl
lock_back lock.WriteWait = refl

pub lock_type_item : IsItem lock_type_at (λ t. word (lock_number t)) (λ _. Unit {0})
unfolding lock_type_at lock_of
lock_type_item = enum_item lock_number lock_of lock_small lock_back (λ n t e. number_found lock_number n (lock.Read ∷ lock.Write ∷ lock.ReadWait ∷ lock.WriteWait ∷ []) t e)

stable_small : (s : Stable) → stable_number s < 2 ^ 32
unfolding stable_number
stable_small stable.Unstable = omega arith
stable_small stable.DataSync = omega arith
stable_small stable.FileSync = omega arith

stable_back : (s : Stable) → stable_of (stable_number s) ≡ Some s
unfolding stable_of stable_number
stable_back stable.Unstable = refl
stable_back stable.DataSync = refl
stable_back stable.FileSync = refl

pub stable_item : IsItem stable_at (λ s. word (stable_number s)) (λ _. Unit {0})
unfolding stable_at stable_of
stable_item = enum_item stable_number stable_of stable_small stable_back (λ n s e. number_found stable_number n (stable.Unstable ∷ stable.DataSync ∷ stable.FileSync ∷ []) s e)
