-- Values that are made of an item, each in one of several ways: both directions, one at a time.
use Rattle.std.proofs.Common.{◌≡◌, ℕ, List, ◌++◌, Result, Ok, sym, ap, subst, ◌∙◌}
use Rattle.nm_xdr.specs.Fields.{Fault, Reading, ◌>>=◌, field, made, IsBytes, IsItem}
use Rattle.nm_xdr.proofs.FieldLaws.{bind_ok, same_value}

-- What was made of an item is spelled as the item is.
pub made_found : {A X : Type 0} {read : Reading A} {spell : A → List ℕ} {Fits : A → Type 0} (make : A → X) (other : X → List ℕ) (All : X → Type 0)
    → ((a : A) → Fits a → All (make a) × (other (make a) ≡ spell a)) → IsItem read spell Fits
    → (bytes : List ℕ) (x : X) (rest : List ℕ) → IsBytes bytes → field read (λ a. made (make a)) bytes ≡ Ok (x, rest) → (bytes ≡ other x ++ rest) × All x
made_found {A} {X} {read} {spell} {Fits} make other All to item bytes x rest fits e =
    let b = bind_ok (read bytes) (λ (a : A × List ℕ). made (make a.0) a.1) (x, rest) e in
    let p = item.found bytes b.0.0 b.0.1 fits b.1 in
    let same = same_value (make b.0.0) x b.0.1 rest b.2 in
    let made_of = to b.0.0 p.1 in
    let whole_is : bytes ≡ other (make b.0.0) ++ b.0.1 = p.0 ∙ ap (λ (s : List ℕ). s ++ b.0.1) (sym made_of.1) in
    (whole_is ∙ ap (λ (y : X). other y ++ b.0.1) same.0 ∙ ap (λ (r : List ℕ). other x ++ r) same.1, subst All same.0 made_of.0)

-- Where an item is spelled, what is made of it is read.
pub made_again : {A X : Type 0} {read : Reading A} {spell : A → List ℕ} {Fits : A → Type 0} (make : A → X) → IsItem read spell Fits
    → (a : A) (rest : List ℕ) → Fits a → field read (λ v. made (make v)) (spell a ++ rest) ≡ Ok (make a, rest)
made_again {A} {X} {read} {spell} {Fits} make item a rest fits =
    ap (λ (r : Result (A × List ℕ) Fault). r >>= λ v. made (make v.0) v.1) (item.again a rest fits)
