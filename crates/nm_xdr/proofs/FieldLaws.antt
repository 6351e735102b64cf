-- One line for each field: how a reading and a spelling that belong together are put together.
use Rattle.std.proofs.Common.{◌≡◌, ℕ, zero, suc, ◌+◌, ◌-◌, ◌≤◌, ◌<◌, Bool, true, false, cond, List, [], ◌∷◌, ◌++◌, length, Result, Ok, Err, refl, sym, ap, subst, ◌∙◌, append_assoc, arith}
use Rattle.std.proofs.lemmas.List.{append-nil, get_or-append-add}
use Rattle.std.specs.List.{flat_map, AllByRecursion}
use Rattle.nm_xdr.specs.Fields.{Flaw, Fault, Reading, ◌>>=◌, field, made, tested, whole_from, whole, rows_at, ended, all_of, EachAfter, IsBytes, IsItem, IsPart, OneSpelling}

-- what stands behind bytes are bytes
pub IsBytes-behind : (front rest : List ℕ) → IsBytes (front ++ rest) → IsBytes rest
IsBytes-behind front rest h i = subst (λ b. b < 256) (get_or-append-add front rest i 0) (h (length front + i))

-- the value of a step that gave one
pub bind_ok : {X Y : Type 0} (r : Result X Fault) (f : X → Result Y Fault) (y : Y) → (r >>= f) ≡ Ok y → (x : X) × (r ≡ Ok x) × (f x ≡ Ok y)
bind_ok (Ok x) f y e = (x, refl, e)
bind_ok (Err d) f y e = absurd cc

-- a test that passed
pub guard_ok : {X : Type 0} (b : Bool) (d : Fault) (x y : X) → cond b (Ok x) (Err d) ≡ Ok y → (b ≡ true) × (x ≡ y)
guard_ok true d x y e = (refl, cc)
guard_ok false d x y e = absurd cc

-- what reading gave is one value, and one rest
pub same_value : {X : Type 0} (x y : X) (a b : List ℕ) → made x a ≡ Ok (y, b) → (x ≡ y) × (a ≡ b)
same_value {X} x y a b e =
    let both : (x, a) ≡ (y, b) = cc in
    (ap (λ (p : X × List ℕ). p.0) both, ap (λ (p : X × List ℕ). p.1) both)

-- ---- A structure, field by field, from its end

-- Nothing is left: the value, one of some, is made of the fields that were read.
pub made_where : {S X : Type 0} {seen : X → S} (make : S → X) (Some : X → Type 0) → ((x : X) → Some x → make (seen x) ≡ x)
    → ((s : S) → Some (make s) × (seen (make s) ≡ s)) → IsPart seen (λ s. made (make s)) (λ _. []) Some
made_where {S} {X} {seen} make Some back forth = record {
  found = λ s bytes x rest fits e.
      let same = same_value (make s) x bytes rest e in
      (same.1, subst Some same.0 (forth s).0, ap seen (sym same.0) ∙ (forth s).1);
  again = λ x rest fits. rw (back x fits) refl;
}

-- The same of any value.
pub made_part : {S X : Type 0} {seen : X → S} (make : S → X) → ((x : X) → make (seen x) ≡ x) → ((s : S) → seen (make s) ≡ s)
    → IsPart seen (λ s. made (make s)) (λ _. []) (λ _. Unit {0})
made_part make back forth = made_where make (λ _. Unit {0}) (λ x _. back x) (λ s. (tt, forth s))

-- A field, and what comes after it.
pub field_part : {S A X : Type 0} {seen : X → S} (get : X → A) (more : S → A → Reading X) {read : S → Reading A} {spell : S → A → List ℕ} {Fits : S → A → Type 0}
    {spell_more : X → List ℕ} {Fits_more : X → Type 0}
    → ((s : S) → IsItem (read s) (spell s) (Fits s))
    → IsPart {S = S × A} (λ x. (seen x, get x)) (λ s. more s.0 s.1) spell_more Fits_more
    → IsPart seen (λ s. field (read s) (more s)) (λ x. spell (seen x) (get x) ++ spell_more x) (λ x. Fits (seen x) (get x) × Fits_more x)
field_part {S} {A} {X} {seen} get more {read} {spell} {Fits} {spell_more} {Fits_more} item part = record {
  found = λ s bytes x rest fits e.
      let b = bind_ok (read s bytes) (λ (a : A × List ℕ). more s a.0 a.1) (x, rest) e in
      let first = (item s).found bytes b.0.0 b.0.1 fits b.1 in
      let behind : IsBytes b.0.1 = IsBytes-behind (spell s b.0.0) b.0.1 (subst IsBytes first.0 fits) in
      let others = part.found (s, b.0.0) b.0.1 x rest behind b.2 in
      let s-is : seen x ≡ s = ap (λ (p : S × A). p.0) others.2 in
      let a-is : get x ≡ b.0.0 = ap (λ (p : S × A). p.1) others.2 in
      let whole_is : bytes ≡ (spell (seen x) (get x) ++ spell_more x) ++ rest =
      first.0 ∙ ap (λ (r : List ℕ). spell s b.0.0 ++ r) others.0 ∙ sym (append_assoc (spell s b.0.0) (spell_more x) rest)
      ∙ ap (λ (p : S × A). (spell p.0 p.1 ++ spell_more x) ++ rest) (sym others.2) in
      (whole_is, (subst (λ (p : S × A). Fits p.0 p.1) (sym others.2) first.1, others.1), s-is);
  again = λ x rest fits.
      let whole_is : read (seen x) ((spell (seen x) (get x) ++ spell_more x) ++ rest) ≡ Ok (get x, spell_more x ++ rest) =
      ap (read (seen x)) (append_assoc (spell (seen x) (get x)) (spell_more x) rest) ∙ (item (seen x)).again (get x) (spell_more x ++ rest) fits.0 in
      ap (λ (r : Result (A × List ℕ) Fault). r >>= λ a. more (seen x) a.0 a.1) whole_is ∙ part.again x rest fits.1;
}

-- What comes last is one item, which tells the fields before it.
pub tail_part : {S X : Type 0} {seen : X → S} {read : S → Reading X} {spell : X → List ℕ} {Fits : S → X → Type 0} (All : X → Type 0)
    → ((s : S) (x : X) → Fits s x → All x × (seen x ≡ s)) → ((x : X) → All x → Fits (seen x) x)
    → ((s : S) → IsItem (read s) spell (Fits s)) → IsPart seen read spell All
tail_part {S} {X} {seen} {read} {spell} {Fits} All tells fits_all item = record {
  found = λ s bytes x rest fits e.
      let p = (item s).found bytes x rest fits e in
      let q = tells s x p.1 in
      (p.0, q.0, q.1);
  again = λ x rest fits. (item (seen x)).again x rest (fits_all x fits);
}

-- A whole structure: no field was read before it.
pub record_item : {X : Type 0} {read : Reading X} {spell : X → List ℕ} {Fits : X → Type 0}
    → IsPart (λ (x : X). tt) (λ (_ : Unit {0}). read) spell Fits → IsItem read spell Fits
record_item part = record {
  found = λ bytes x rest fits e. let p = part.found tt bytes x rest fits e in (p.0, p.1);
  again = λ x rest fits. part.again x rest fits;
}

-- ---- An item made of another

-- A rule at an item.
pub tested_item : {X : Type 0} {read : Reading X} {spell : X → List ℕ} {Fits : X → Type 0} (test : X → Bool) (flaw : X → Flaw)
    → IsItem read spell Fits → IsItem (tested test flaw read) spell (λ x. Fits x × (test x ≡ true))
tested_item {X} {read} {spell} {Fits} test flaw item = record {
  found = λ bytes x rest fits e.
      let b = bind_ok (read bytes) (λ (v : X × List ℕ). cond (test v.0) (Ok v) (Err (record { flaw = flaw v.0; left = length bytes }))) (x, rest) e in
      let g = guard_ok (test b.0.0) (record { flaw = flaw b.0.0; left = length bytes }) b.0 (x, rest) b.2 in
      let p = item.found bytes x rest fits (b.1 ∙ ap (λ (v : X × List ℕ). Ok v) g.1) in
      (p.0, (p.1, ap (λ (v : X × List ℕ). test v.0) (sym g.1) ∙ g.0));
  again = λ x rest fits. rw (item.again x rest fits.0, fits.1) refl;
}

pub whole_ok : {X : Type 0} (start : ℕ) (r : Result X Fault) (y : X) → whole_from start r ≡ Ok y → r ≡ Ok y
whole_ok start (Ok x) y e = e
whole_ok start (Err f) y e = absurd cc

-- An item that is missing as a whole where it ends too soon.
pub whole_item : {X : Type 0} {read : Reading X} {spell : X → List ℕ} {Fits : X → Type 0} → IsItem read spell Fits → IsItem (whole read) spell Fits
whole_item {X} {read} {spell} {Fits} item = record {
  found = λ bytes x rest fits e. item.found bytes x rest fits (whole_ok (length bytes) (read bytes) (x, rest) e);
  again = λ x rest fits. rw (item.again x rest fits) refl;
}

-- The same spelling in other words.
pub spelled_as : {X : Type 0} {read : Reading X} {spell : X → List ℕ} {Fits : X → Type 0} (other : X → List ℕ)
    → ((x : X) → Fits x → other x ≡ spell x) → IsItem read spell Fits → IsItem read other Fits
spelled_as {X} {read} {spell} {Fits} other same item = record {
  found = λ bytes x rest fits e. let p = item.found bytes x rest fits e in (p.0 ∙ ap (λ (s : List ℕ). s ++ rest) (sym (same x p.1)), p.1);
  again = λ x rest fits. ap (λ (s : List ℕ). read (s ++ rest)) (same x fits) ∙ item.again x rest fits;
}

-- The same values in other words.
pub fits_as : {X : Type 0} {read : Reading X} {spell : X → List ℕ} {Fits : X → Type 0} (Others : X → Type 0)
    → ((x : X) → Others x → Fits x) → ((x : X) → Fits x → Others x) → IsItem read spell Fits → IsItem read spell Others
fits_as Others to from item = record {
  found = λ bytes x rest fits e. let p = item.found bytes x rest fits e in (p.0, from x p.1);
  again = λ x rest fits. item.again x rest (to x fits);
}

-- A value made of one item's.
pub made_item : {A X : Type 0} {read : Reading A} {spell : A → List ℕ} {Fits : A → Type 0} (make : A → X) (other : X → List ℕ) (All : X → Type 0)
    → ((a : A) → Fits a → All (make a) × (other (make a) ≡ spell a)) → ((x : X) → All x → (a : A) × Fits a × (make a ≡ x))
    → IsItem read spell Fits → IsItem (field read (λ a. made (make a))) other All
made_item {A} {X} {read} {spell} {Fits} make other All to from item = record {
  found = λ bytes x rest fits e.
      let b = bind_ok (read bytes) (λ (a : A × List ℕ). made (make a.0) a.1) (x, rest) e in
      let p = item.found bytes b.0.0 b.0.1 fits b.1 in
      let same = same_value (make b.0.0) x b.0.1 rest b.2 in
      let made_of = to b.0.0 p.1 in
      let whole_is : bytes ≡ other (make b.0.0) ++ b.0.1 = p.0 ∙ ap (λ (s : List ℕ). s ++ b.0.1) (sym made_of.1) in
      (whole_is ∙ ap (λ (y : X). other y ++ b.0.1) same.0 ∙ ap (λ (r : List ℕ). other x ++ r) same.1, subst All same.0 made_of.0);
  again = λ x rest fits.
      let a = from x fits in
      let made_of = to a.0 a.1 in
      let spelt : other x ≡ spell a.0 = ap other (sym a.2) ∙ made_of.1 in
      ap (λ (s : List ℕ). field read (λ v. made (make v)) (s ++ rest)) spelt
      ∙ ap (λ (r : Result (A × List ℕ) Fault). r >>= λ v. made (make v.0) v.1) (item.again a.0 rest a.1)
      ∙ ap (λ (y : X). made y rest) a.2;
}

-- A union: a discriminant, and the arm that it chooses.
pub union_item : {D X : Type 0} {read : Reading D} {spell : D → List ℕ} {Fits : D → Type 0} {arms : D → Reading X} {arm : X → List ℕ}
    (tag : X → D) (All : X → Type 0) → ((x : X) → All x → Fits (tag x)) → IsItem read spell Fits
    → ((d : D) → Fits d → IsItem (arms d) arm (λ x. All x × (tag x ≡ d)))
    → IsItem (field read arms) (λ x. spell (tag x) ++ arm x) All
union_item {D} {X} {read} {spell} {Fits} {arms} {arm} tag All fits_tag item each = record {
  found = λ bytes x rest fits e.
      let b = bind_ok (read bytes) (λ (d : D × List ℕ). arms d.0 d.1) (x, rest) e in
      let first = item.found bytes b.0.0 b.0.1 fits b.1 in
      let behind : IsBytes b.0.1 = IsBytes-behind (spell b.0.0) b.0.1 (subst IsBytes first.0 fits) in
      let second = (each b.0.0 first.1).found b.0.1 x rest behind b.2 in (
        first.0 ∙ ap (λ (r : List ℕ). spell b.0.0 ++ r) second.0 ∙ sym (append_assoc (spell b.0.0) (arm x) rest)
            ∙ ap (λ (d : D). (spell d ++ arm x) ++ rest) (sym second.1.1),
        second.1.0,
      );
  again = λ x rest fits.
      let first : read ((spell (tag x) ++ arm x) ++ rest) ≡ Ok (tag x, arm x ++ rest) =
      ap read (append_assoc (spell (tag x)) (arm x) rest) ∙ item.again (tag x) (arm x ++ rest) (fits_tag x fits) in
      ap (λ (r : Result (D × List ℕ) Fault). r >>= λ d. arms d.0 d.1) first ∙ (each (tag x) (fits_tag x fits)).again x rest (fits, refl);
}

-- ---- Rows

-- Rows that are read are behind the earlier ones, each fits, and they are spelled one after the other.
pub rows_found : {X : Type 0} {row : List X → Reading X} {spell : X → List ℕ} {Fits : List X → X → Type 0}
    → ((earlier : List X) → IsItem (row earlier) spell (Fits earlier))
    → (count : ℕ) (earlier : List X) (bytes : List ℕ) (xs : List X) (rest : List ℕ) → IsBytes bytes → rows_at row count earlier bytes ≡ Ok (xs, rest)
    → (more : List X) × (xs ≡ earlier ++ more) × (length more ≡ count) × (bytes ≡ flat_map spell more ++ rest) × EachAfter Fits earlier more
unfolding rows_at
rows_found {X} {row} {spell} {Fits} item zero earlier bytes xs rest fits e =
    let same = same_value earlier xs bytes rest e in
    ([], sym same.0 ∙ sym (append-nil earlier), refl, same.1, tt)
rows_found {X} {row} {spell} {Fits} item (suc count) earlier bytes xs rest fits e =
    let b = bind_ok (row earlier bytes) (λ (x : X × List ℕ). rows_at row count (earlier ++ x.0 ∷ []) x.1) (xs, rest) e in
    let first = (item earlier).found bytes b.0.0 b.0.1 fits b.1 in
    let behind : IsBytes b.0.1 = IsBytes-behind (spell b.0.0) b.0.1 (subst IsBytes first.0 fits) in
    let others = rows_found {X = X} {row = row} {spell = spell} {Fits = Fits} item count (earlier ++ b.0.0 ∷ []) b.0.1 xs rest behind b.2 in
    let whole_is : bytes ≡ (spell b.0.0 ++ flat_map spell others.0) ++ rest =
    first.0 ∙ ap (λ (r : List ℕ). spell b.0.0 ++ r) others.3 ∙ sym (append_assoc (spell b.0.0) (flat_map spell others.0) rest) in
    (b.0.0 ∷ others.0, others.1 ∙ append_assoc earlier (b.0.0 ∷ []) others.0, ap suc others.2, whole_is, (first.1, others.4))

-- Rows that fit are read where they are spelled, whatever follows.
pub rows_again : {X : Type 0} {row : List X → Reading X} {spell : X → List ℕ} {Fits : List X → X → Type 0}
    → ((earlier : List X) → IsItem (row earlier) spell (Fits earlier))
    → (more earlier : List X) (rest : List ℕ) → EachAfter Fits earlier more → rows_at row (length more) earlier (flat_map spell more ++ rest) ≡ Ok (earlier ++ more, rest)
unfolding rows_at
rows_again {X} {row} {spell} {Fits} item [] earlier rest fits = ap (λ (xs : List X). Ok (xs, rest)) (sym (append-nil earlier))
rows_again {X} {row} {spell} {Fits} item (x ∷ more) earlier rest fits =
    let first : row earlier ((spell x ++ flat_map spell more) ++ rest) ≡ Ok (x, flat_map spell more ++ rest) =
    ap (row earlier) (append_assoc (spell x) (flat_map spell more) rest) ∙ (item earlier).again x (flat_map spell more ++ rest) fits.0 in
    ap (λ (r : Result (X × List ℕ) Fault). r >>= λ v. rows_at row (length more) (earlier ++ v.0 ∷ []) v.1) first
    ∙ rows_again {X = X} {row = row} {spell = spell} {Fits = Fits} item more (earlier ++ x ∷ []) rest fits.1
    ∙ ap (λ (xs : List X). Ok (xs, rest)) (append_assoc earlier (x ∷ []) more)

-- Rows of a known number.
pub rows_item : {X : Type 0} {row : List X → Reading X} {spell : X → List ℕ} {Fits : List X → X → Type 0} (count : ℕ)
    → ((earlier : List X) → IsItem (row earlier) spell (Fits earlier))
    → IsItem (rows_at row count []) (flat_map spell) (λ xs. EachAfter Fits [] xs × (length xs ≡ count))
rows_item {X} {row} {spell} {Fits} count item = record {
  found = λ bytes xs rest fits e.
      let p = rows_found {X = X} {row = row} {spell = spell} {Fits = Fits} item count [] bytes xs rest fits e in
      (p.3 ∙ ap (λ (ys : List X). flat_map spell ys ++ rest) (sym p.1), (subst (EachAfter Fits []) (sym p.1) p.4, ap length p.1 ∙ p.2));
  again = λ xs rest fits.
      ap (λ (n : ℕ). rows_at row n [] (flat_map spell xs ++ rest)) (sym fits.1) ∙ rows_again {X = X} {row = row} {spell = spell} {Fits = Fits} item xs [] rest fits.0;
}

-- One more row was read: what is left of reading the rows.
pub rows_next : {X : Type 0} (row : List X → Reading X) (count i : ℕ) (earlier : List X) (bytes : List ℕ) (x : X) (rest : List ℕ) → i < count
    → row earlier bytes ≡ Ok (x, rest) → rows_at row (count - i) earlier bytes ≡ rows_at row (count - (i + 1)) (earlier ++ x ∷ []) rest
unfolding rows_at
rows_next row count i earlier bytes x rest lt e =
    let k : count - i ≡ suc (count - (i + 1)) = omega arith in
    rw (k, e) refl

-- A row that isn't there: it is the fault of all of them.
pub rows_fault : {X : Type 0} (row : List X → Reading X) (count i : ℕ) (earlier : List X) (bytes : List ℕ) (f : Fault) → i < count
    → row earlier bytes ≡ Err f → rows_at row (count - i) earlier bytes ≡ Err f
unfolding rows_at
rows_fault row count i earlier bytes f lt e =
    let k : count - i ≡ suc (count - (i + 1)) = omega arith in
    rw (k, e) refl

-- All rows were read.
pub rows_done : {X : Type 0} (row : List X → Reading X) (count i : ℕ) (earlier : List X) (bytes : List ℕ) → count ≤ i
    → rows_at row (count - i) earlier bytes ≡ Ok (earlier, bytes)
unfolding rows_at
rows_done row count i earlier bytes le =
    let k : count - i ≡ 0 = omega arith in
    rw k refl

-- Where no row needs those before it, each fits by itself.
pub each_fits : {X : Type 0} (Fits : X → Type 0) (earlier xs : List X) → EachAfter (λ _. Fits) earlier xs → AllByRecursion Fits xs
each_fits Fits earlier [] h = tt
each_fits Fits earlier (x ∷ xs) h = (h.0, each_fits Fits (earlier ++ x ∷ []) xs h.1)

pub each_fits_after : {X : Type 0} (Fits : X → Type 0) (earlier xs : List X) → AllByRecursion Fits xs → EachAfter (λ _. Fits) earlier xs
each_fits_after Fits earlier [] h = tt
each_fits_after Fits earlier (x ∷ xs) h = (h.0, each_fits_after Fits (earlier ++ x ∷ []) xs h.1)

-- ---- What follows for each item

-- Of two values that fit, no spelling begins with the other's.
pub one_spelling_of : {X : Type 0} {read : Reading X} {spell : X → List ℕ} {Fits : X → Type 0} → IsItem read spell Fits → OneSpelling spell Fits
one_spelling_of {X} {read} {spell} {Fits} item x y a b fits_x fits_y e =
    same_value x y a b (sym (item.again x a fits_x) ∙ ap read e ∙ item.again y b fits_y)

-- What is read of bytes is read of longer ones.
pub reads_longer : {X : Type 0} {read : Reading X} {spell : X → List ℕ} {Fits : X → Type 0} → IsItem read spell Fits
    → (bytes : List ℕ) (x : X) (rest more : List ℕ) → IsBytes bytes → read bytes ≡ Ok (x, rest) → read (bytes ++ more) ≡ Ok (x, rest ++ more)
reads_longer {X} {read} {spell} {Fits} item bytes x rest more fits e =
    let p = item.found bytes x rest fits e in
    ap (λ (b : List ℕ). read (b ++ more)) p.0 ∙ ap read (append_assoc (spell x) rest more) ∙ item.again x (rest ++ more) p.1

-- Where nothing was left over, nothing was.
ended_found : {X : Type 0} (x y : X) (rest : List ℕ) → ended x rest ≡ Ok y → (x ≡ y) × (rest ≡ [])
ended_found x y [] e = (cc, refl)
ended_found x y (b ∷ rest) e = absurd cc

-- What is read of all bytes is spelled by them, and fits.
pub all_found : {X : Type 0} {read : Reading X} {spell : X → List ℕ} {Fits : X → Type 0} → IsItem read spell Fits
    → (bytes : List ℕ) (x : X) → IsBytes bytes → all_of read bytes ≡ Ok x → (bytes ≡ spell x) × Fits x
all_found {X} {read} {spell} {Fits} item bytes x fits e =
    let b = bind_ok (read bytes) (λ (v : X × List ℕ). ended v.0 v.1) x e in
    let p = item.found bytes b.0.0 b.0.1 fits b.1 in
    let q = ended_found b.0.0 x b.0.1 b.2 in
    (p.0 ∙ ap (λ (r : List ℕ). spell b.0.0 ++ r) q.1 ∙ append-nil (spell b.0.0) ∙ ap spell q.0, subst Fits q.0 p.1)

-- What fits is read of its spelling, all of it.
pub all_again : {X : Type 0} {read : Reading X} {spell : X → List ℕ} {Fits : X → Type 0} → IsItem read spell Fits → (x : X) → Fits x → all_of read (spell x) ≡ Ok x
all_again {X} {read} {spell} {Fits} item x fits =
    ap (λ (bytes : List ℕ). all_of read bytes) (sym (append-nil (spell x)))
    ∙ ap (λ (r : Result (X × List ℕ) Fault). r >>= λ v. ended v.0 v.1) (item.again x [] fits)
