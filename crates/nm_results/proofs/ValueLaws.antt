-- The reading of values, and the bytes that are values, belong together.
use Rattle.std.proofs.Common.{◌≡◌, ℕ, List, [], ◌++◌, Result, Ok, refl, sym, ap, subst, ◌∙◌, arith}
use Rattle.nm_xdr.specs.Fields.{Fault, Reading, ◌>>=◌, field, made, IsBytes, IsItem}
use Rattle.nm_xdr.proofs.FieldLaws.{bind_ok, same_value}
use Rattle.nm_xdr.proofs.ByteLaws.{bytes_item}
use Rattle.nm_xdr.proofs.ItemLaws.{hyper_item}
use Rattle.nm_xdr.proofs.MadeLaws.{made_again}
use Rattle.nm_items.proofs.PartItems.{stateid_item, bitmap_item, fattr_item}
use Rattle.nm_results.specs.declared.arms.Arm.{Arm}
use Rattle.nm_results.specs.declared.arms.Arm.TheVariants as arm
use Rattle.nm_results.specs.declared.values.ResultValue.{ResultValue}
use Rattle.nm_results.specs.declared.values.ResultValue.TheVariants as value
use Rattle.nm_results.specs.Values.{arm_with, value_at, Keeps, Spells, IsSpelling}
use Rattle.nm_results.proofs.KeepLaws.{KeepsItem}
use Rattle.nm_results.proofs.PartLaws.{change_item, access_item, read_item, write_item, client_item, address_item, denied_item}
use Rattle.nm_results.proofs.OpenLaws.{open_item}
use Rattle.nm_results.proofs.DirLaws.{create_item, dir_item}

-- what is read of a kind: a value of it, and its bytes
abbrev pub Read : Arm → List ℕ → ResultValue → List ℕ → Type 0
Read a bytes v rest = (front : List ℕ) × (bytes ≡ front ++ rest) × IsSpelling v front × (arm_with v ≡ a)

-- A value made of an item.
one_found : {A : Type 0} {read : Reading A} {spell : A → List ℕ} {Fits : A → Type 0} (a : Arm) (make : A → ResultValue)
    → ((x : A) → Fits x → IsSpelling (make x) (spell x) × (arm_with (make x) ≡ a)) → IsItem read spell Fits
    → (bytes : List ℕ) (v : ResultValue) (rest : List ℕ) → IsBytes bytes → field read (λ x. made (make x)) bytes ≡ Ok (v, rest) → Read a bytes v rest
one_found {A} {read} {spell} {Fits} a make to item bytes v rest fits e =
    let b = bind_ok (read bytes) (λ (x : A × List ℕ). made (make x.0) x.1) (v, rest) e in
    let p = item.found bytes b.0.0 b.0.1 fits b.1 in
    let same = same_value (make b.0.0) v b.0.1 rest b.2 in
    let q = to b.0.0 p.1 in
    (spell b.0.0, p.0 ∙ ap (λ (r : List ℕ). spell b.0.0 ++ r) same.1, subst (λ (x : ResultValue). IsSpelling x (spell b.0.0)) same.0 q.0, ap arm_with (sym same.0) ∙ q.1)

-- A value that keeps a part of what stands there.
part_found : {W A : Type 0} {keep : W → A} {read : Reading A} {spell : W → List ℕ} {Fits : W → Type 0} (a : Arm) (make : A → ResultValue)
    → ((w : W) (x : A) → Fits w → keep w ≡ x → IsSpelling (make x) (spell w) × (arm_with (make x) ≡ a)) → KeepsItem keep read spell Fits
    → (bytes : List ℕ) (v : ResultValue) (rest : List ℕ) → IsBytes bytes → field read (λ x. made (make x)) bytes ≡ Ok (v, rest) → Read a bytes v rest
part_found {W} {A} {keep} {read} {spell} {Fits} a make to item bytes v rest fits e =
    let b = bind_ok (read bytes) (λ (x : A × List ℕ). made (make x.0) x.1) (v, rest) e in
    let p = item.found bytes b.0.0 b.0.1 fits b.1 in
    let same = same_value (make b.0.0) v b.0.1 rest b.2 in
    let q = to p.0 b.0.0 p.2 p.3 in
    (spell p.0, p.1 ∙ ap (λ (r : List ℕ). spell p.0 ++ r) same.1, subst (λ (x : ResultValue). IsSpelling x (spell p.0)) same.0 q.0, ap arm_with (sym same.0) ∙ q.1)

-- What is read of a kind is a value of it.
pub value_found : (a : Arm) (bytes : List ℕ) (v : ResultValue) (rest : List ℕ) → IsBytes bytes → value_at a bytes ≡ Ok (v, rest) → Read a bytes v rest
unfolding value_at
value_found arm.Nothing bytes v rest fits e =
    let same = same_value value.Nothing v bytes rest e in
    ([], same.1, subst (λ (x : ResultValue). IsSpelling x []) same.0 refl, ap arm_with (sym same.0))
value_found arm.Access bytes v rest fits e = one_found arm.Access (λ x. value.Access x) (λ x f. ((f, refl), refl)) access_item bytes v rest fits e
value_found arm.Close bytes v rest fits e = one_found arm.Close (λ x. value.Close x) (λ x f. ((f, refl), refl)) stateid_item bytes v rest fits e
value_found arm.Commit bytes v rest fits e = one_found arm.Commit (λ x. value.Commit x) (λ x f. ((f, refl), refl)) hyper_item bytes v rest fits e
value_found arm.Create bytes v rest fits e =
    part_found arm.Create (λ x. value.Create x) (λ w x f k. (record { all = w; fits = f; kept = k; spelled = refl }, refl)) create_item bytes v rest fits e
value_found arm.GetAttr bytes v rest fits e = one_found arm.GetAttr (λ x. value.GetAttr x) (λ x f. ((f, refl), refl)) fattr_item bytes v rest fits e
value_found arm.GetFh bytes v rest fits e = one_found arm.GetFh (λ x. value.GetFh x) (λ x f. ((f, refl), refl)) (bytes_item 128 (omega arith)) bytes v rest fits e
value_found arm.Lock bytes v rest fits e = one_found arm.Lock (λ x. value.Lock x) (λ x f. ((f, refl), refl)) stateid_item bytes v rest fits e
value_found arm.Denied bytes v rest fits e =
    part_found arm.Denied (λ x. value.Denied x) (λ w x f k. (record { all = w; fits = f; kept = k; spelled = refl }, refl)) denied_item bytes v rest fits e
value_found arm.LockU bytes v rest fits e = one_found arm.LockU (λ x. value.LockU x) (λ x f. ((f, refl), refl)) stateid_item bytes v rest fits e
value_found arm.Open bytes v rest fits e =
    part_found arm.Open (λ x. value.Open x) (λ w x f k. (record { all = w; fits = f; kept = k; spelled = refl }, refl)) open_item bytes v rest fits e
value_found arm.OpenConfirm bytes v rest fits e = one_found arm.OpenConfirm (λ x. value.OpenConfirm x) (λ x f. ((f, refl), refl)) stateid_item bytes v rest fits e
value_found arm.OpenDowngrade bytes v rest fits e = one_found arm.OpenDowngrade (λ x. value.OpenDowngrade x) (λ x f. ((f, refl), refl)) stateid_item bytes v rest fits e
value_found arm.Read bytes v rest fits e = one_found arm.Read (λ x. value.Read x) (λ x f. ((f, refl), refl)) read_item bytes v rest fits e
value_found arm.ReadDir bytes v rest fits e = one_found arm.ReadDir (λ x. value.ReadDir x) (λ x f. ((f, refl), refl)) dir_item bytes v rest fits e
value_found arm.Remove bytes v rest fits e =
    part_found arm.Remove (λ x. value.Remove x) (λ w x f k. (record { all = w; fits = f; kept = k; spelled = refl }, refl)) change_item bytes v rest fits e
value_found arm.SetAttr bytes v rest fits e = one_found arm.SetAttr (λ x. value.SetAttr x) (λ x f. ((f, refl), refl)) bitmap_item bytes v rest fits e
value_found arm.SetClientId bytes v rest fits e = one_found arm.SetClientId (λ x. value.SetClientId x) (λ x f. ((f, refl), refl)) client_item bytes v rest fits e
value_found arm.ClientInUse bytes v rest fits e = one_found arm.ClientInUse (λ x. value.ClientInUse x) (λ x f. ((f, refl), refl)) address_item bytes v rest fits e
value_found arm.Write bytes v rest fits e = one_found arm.Write (λ x. value.Write x) (λ x f. ((f, refl), refl)) write_item bytes v rest fits e

-- Where an item is spelled, a value made of it is read.
one_again : {A : Type 0} {read : Reading A} {spell : A → List ℕ} {Fits : A → Type 0} (make : A → ResultValue) → IsItem read spell Fits
    → (x : A) (front rest : List ℕ) → Spells spell Fits x front → field read (λ y. made (make y)) (front ++ rest) ≡ Ok (make x, rest)
one_again {A} {read} {spell} {Fits} make item x front rest s =
    ap (λ (b : List ℕ). field read (λ y. made (make y)) (b ++ rest)) s.1 ∙ made_again make item x rest s.0

part_again : {W A : Type 0} {keep : W → A} {read : Reading A} {spell : W → List ℕ} {Fits : W → Type 0} (make : A → ResultValue) → KeepsItem keep read spell Fits
    → (x : A) (front rest : List ℕ) → Keeps keep spell Fits x front → field read (λ y. made (make y)) (front ++ rest) ≡ Ok (make x, rest)
part_again {W} {A} {keep} {read} {spell} {Fits} make item x front rest k =
    let got : read (front ++ rest) ≡ Ok (x, rest) =
    ap (λ (b : List ℕ). read (b ++ rest)) k.spelled ∙ item.again k.all rest k.fits ∙ ap (λ (y : A). Ok (y, rest)) k.kept in
    ap (λ (r : Result (A × List ℕ) Fault). r >>= λ y. made (make y.0) y.1) got

-- A value is read of its bytes, by its kind.
pub value_again : (v : ResultValue) (front rest : List ℕ) → IsSpelling v front → value_at (arm_with v) (front ++ rest) ≡ Ok (v, rest)
unfolding value_at
value_again value.Nothing front rest s = ap (λ (b : List ℕ). made value.Nothing (b ++ rest)) s
value_again (value.Access x) front rest s = one_again (λ y. value.Access y) access_item x front rest s
value_again (value.Close x) front rest s = one_again (λ y. value.Close y) stateid_item x front rest s
value_again (value.Commit x) front rest s = one_again (λ y. value.Commit y) hyper_item x front rest s
value_again (value.Create x) front rest s = part_again (λ y. value.Create y) create_item x front rest s
value_again (value.GetAttr x) front rest s = one_again (λ y. value.GetAttr y) fattr_item x front rest s
value_again (value.GetFh x) front rest s = one_again (λ y. value.GetFh y) (bytes_item 128 (omega arith)) x front rest s
value_again (value.Lock x) front rest s = one_again (λ y. value.Lock y) stateid_item x front rest s
value_again (value.Denied x) front rest s = part_again (λ y. value.Denied y) denied_item x front rest s
value_again (value.LockU x) front rest s = one_again (λ y. value.LockU y) stateid_item x front rest s
value_again (value.Open x) front rest s = part_again (λ y. value.Open y) open_item x front rest s
value_again (value.OpenConfirm x) front rest s = one_again (λ y. value.OpenConfirm y) stateid_item x front rest s
value_again (value.OpenDowngrade x) front rest s = one_again (λ y. value.OpenDowngrade y) stateid_item x front rest s
value_again (value.Read x) front rest s = one_again (λ y. value.Read y) read_item x front rest s
value_again (value.ReadDir x) front rest s = one_again (λ y. value.ReadDir y) dir_item x front rest s
value_again (value.Remove x) front rest s = part_again (λ y. value.Remove y) change_item x front rest s
value_again (value.SetAttr x) front rest s = one_again (λ y. value.SetAttr y) bitmap_item x front rest s
value_again (value.SetClientId x) front rest s = one_again (λ y. value.SetClientId y) client_item x front rest s
value_again (value.ClientInUse x) front rest s = one_again (λ y. value.ClientInUse y) address_item x front rest s
value_again (value.Write x) front rest s = one_again (λ y. value.Write y) write_item x front rest s
