-- Values that keep less than all that stands in a message: how their reading and the spellings of all belong together, by one
-- line a field.
use Rattle.std.proofs.Common.{◌≡◌, ℕ, List, [], ◌++◌, Result, Ok, refl, sym, ap, subst, ◌∙◌, append_assoc}
use Rattle.nm_xdr.specs.Fields.{Fault, Reading, ◌>>=◌, field, made, IsBytes, IsItem}
use Rattle.nm_xdr.proofs.FieldLaws.{IsBytes-behind, bind_ok, same_value}

-- What is read is kept of something that is spelled so, and fits. What fits is read where it is spelled, whatever follows.
pub record KeepsItem {W V : Type 0} (keep : W → V) (read : Reading V) (spell : W → List ℕ) (Fits : W → Type 0) : Type 0 where
  pub found : (bytes : List ℕ) (v : V) (rest : List ℕ) → IsBytes bytes → read bytes ≡ Ok (v, rest) → (w : W) × (bytes ≡ spell w ++ rest) × Fits w × (keep w ≡ v)
  pub again : (w : W) (rest : List ℕ) → Fits w → read (spell w ++ rest) ≡ Ok (keep w, rest)

-- The same of what comes after some fields, of which all is seen.
pub record KeepsPart {S W V : Type 0} (seen : W → S) (keep : W → V) (read : S → Reading V) (spell : W → List ℕ) (Fits : W → Type 0) : Type 0 where
  pub found : (s : S) (bytes : List ℕ) (v : V) (rest : List ℕ) → IsBytes bytes → read s bytes ≡ Ok (v, rest)
      → (w : W) × (bytes ≡ spell w ++ rest) × Fits w × (seen w ≡ s) × (keep w ≡ v)
  pub again : (w : W) (rest : List ℕ) → Fits w → read (seen w) (spell w ++ rest) ≡ Ok (keep w, rest)

-- An item of which all is kept.
pub keeps_all : {X : Type 0} {read : Reading X} {spell : X → List ℕ} {Fits : X → Type 0} → IsItem read spell Fits → KeepsItem (λ (x : X). x) read spell Fits
keeps_all {X} {read} {spell} {Fits} item = record {
  found = λ bytes v rest fits e. let p = item.found bytes v rest fits e in (v, p.0, p.1, refl);
  again = λ w rest fits. item.again w rest fits;
}

-- Nothing is left: the value is made of the fields that were read.
pub keeps_made : {S W V : Type 0} {seen : W → S} {keep : W → V} (build : S → W) (make : S → V) → ((w : W) → make (seen w) ≡ keep w)
    → ((s : S) → seen (build s) ≡ s) → ((s : S) → keep (build s) ≡ make s) → KeepsPart seen keep (λ s. made (make s)) (λ _. []) (λ _. Unit {0})
keeps_made {S} {W} {V} {seen} {keep} build make back forth kept = record {
  found = λ s bytes v rest fits e.
      let same = same_value (make s) v bytes rest e in
      (build s, same.1, tt, forth s, kept s ∙ same.0);
  again = λ w rest fits. ap (λ (v : V). Ok (v, rest)) (back w);
}

-- A field, and what comes after it.
pub keeps_field : {S A B W V : Type 0} {seen : W → S} {keep : W → V} (get : W → A) (keep_a : A → B) (more : S → B → Reading V) {read : Reading B} {spell : A → List ℕ}
    {Fits : A → Type 0} {spell_more : W → List ℕ} {Fits_more : W → Type 0}
    → KeepsItem keep_a read spell Fits
    → KeepsPart {S = S × A} (λ w. (seen w, get w)) keep (λ s. more s.0 (keep_a s.1)) spell_more Fits_more
    → KeepsPart seen keep (λ s. field read (more s)) (λ w. spell (get w) ++ spell_more w) (λ w. Fits (get w) × Fits_more w)
keeps_field {S} {A} {B} {W} {V} {seen} {keep} get keep_a more {read} {spell} {Fits} {spell_more} {Fits_more} item part = record {
  found = λ s bytes v rest fits e.
      let b = bind_ok (read bytes) (λ (x : B × List ℕ). more s x.0 x.1) (v, rest) e in
      let first = item.found bytes b.0.0 b.0.1 fits b.1 in
      let behind : IsBytes b.0.1 = IsBytes-behind (spell first.0) b.0.1 (subst IsBytes first.1 fits) in
      let went : more s (keep_a first.0) b.0.1 ≡ Ok (v, rest) = ap (λ (x : B). more s x b.0.1) first.3 ∙ b.2 in
      let others = part.found (s, first.0) b.0.1 v rest behind went in
      let s-is : seen others.0 ≡ s = ap (λ (p : S × A). p.0) others.3 in
      let a-is : get others.0 ≡ first.0 = ap (λ (p : S × A). p.1) others.3 in
      let whole_is : bytes ≡ (spell (get others.0) ++ spell_more others.0) ++ rest =
      first.1 ∙ ap (λ (r : List ℕ). spell first.0 ++ r) others.1 ∙ sym (append_assoc (spell first.0) (spell_more others.0) rest)
      ∙ ap (λ (a : A). (spell a ++ spell_more others.0) ++ rest) (sym a-is) in
      (others.0, whole_is, (subst Fits (sym a-is) first.2, others.2), s-is, others.4);
  again = λ w rest fits.
      let whole_is : read ((spell (get w) ++ spell_more w) ++ rest) ≡ Ok (keep_a (get w), spell_more w ++ rest) =
      ap read (append_assoc (spell (get w)) (spell_more w) rest) ∙ item.again (get w) (spell_more w ++ rest) fits.0 in
      ap (λ (r : Result (B × List ℕ) Fault). r >>= λ x. more (seen w) x.0 x.1) whole_is ∙ part.again w rest fits.1;
}

-- A field of which all is kept.
pub keeps_item : {S A W V : Type 0} {seen : W → S} {keep : W → V} (get : W → A) (more : S → A → Reading V) {read : Reading A} {spell : A → List ℕ}
    {Fits : A → Type 0} {spell_more : W → List ℕ} {Fits_more : W → Type 0}
    → IsItem read spell Fits
    → KeepsPart {S = S × A} (λ w. (seen w, get w)) keep (λ s. more s.0 s.1) spell_more Fits_more
    → KeepsPart seen keep (λ s. field read (more s)) (λ w. spell (get w) ++ spell_more w) (λ w. Fits (get w) × Fits_more w)
keeps_item {S} {A} {W} {V} {seen} {keep} get more item part = keeps_field get (λ (a : A). a) more (keeps_all item) part

-- A whole structure: no field was read before it.
pub keeps_record : {W V : Type 0} {keep : W → V} {read : Reading V} {spell : W → List ℕ} {Fits : W → Type 0}
    → KeepsPart (λ (w : W). tt) keep (λ (_ : Unit {0}). read) spell Fits → KeepsItem keep read spell Fits
keeps_record part = record {
  found = λ bytes v rest fits e. let p = part.found tt bytes v rest fits e in (p.0, p.1, p.2, p.4);
  again = λ w rest fits. part.again w rest fits;
}

-- The same in other words.
pub keeps_as : {W V : Type 0} {keep : W → V} {read : Reading V} {spell : W → List ℕ} {Fits : W → Type 0} (other : W → List ℕ) (Others : W → Type 0)
    → ((w : W) → other w ≡ spell w) → ((w : W) → Others w → Fits w) → ((w : W) → Fits w → Others w) → KeepsItem keep read spell Fits
    → KeepsItem keep read other Others
keeps_as {W} {V} {keep} {read} {spell} {Fits} other Others same to from item = record {
  found = λ bytes v rest fits e.
      let p = item.found bytes v rest fits e in
      (p.0, p.1 ∙ ap (λ (s : List ℕ). s ++ rest) (sym (same p.0)), from p.0 p.2, p.3);
  again = λ w rest fits. ap (λ (s : List ℕ). read (s ++ rest)) (same w) ∙ item.again w rest (to w fits);
}
