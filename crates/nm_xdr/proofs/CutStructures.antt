-- What is cut is missing from the item in which it is cut.
use Rattle.std.proofs.Common.{◌≡◌, ◌≢◌, ℕ, ◌≤◌, ◌<◌, List, [], ◌∷◌, ◌++◌, length, take, drop, Result, Ok, refl, sym, ap, ◌∙◌, append_assoc, arith, inl, inr}
use Rattle.std.proofs.lemmas.Bool.{cases_lt}
use Rattle.std.proofs.lemmas.List.{append-nil, take-append-drop, take_at, drop_at, take-append-le, drop-append-le, length-append, length-drop}
use Rattle.nm_xdr.specs.Fields.{short, Fault, Reading, ◌>>=◌, fault_at, field, IsItem, IsShortWhereCut}
use Rattle.nm_xdr.specs.Items.{structure}

-- what is read of a structure that is cut: the fault is in the item that is cut
pub record CutIn {X : Type 0} (spelled : List (List ℕ)) (front : List ℕ) (given : Result (X × List ℕ) Fault) : Type 0 where
  pub before : List (List ℕ)
  pub cut : List ℕ
  pub behind : List (List ℕ)
  pub piece : List ℕ
  pub split : spelled ≡ before ++ cut ∷ behind
  pub is_front : front ≡ structure before ++ piece
  pub shorter : length piece < length cut
  pub fault : given ≡ fault_at short piece

abbrev pub Cuts : {X : Type 0} → Reading X → List (List ℕ) → Type 0
Cuts read spelled = (front more : List ℕ) → more ≢ [] → structure spelled ≡ front ++ more → CutIn spelled front (read front)

pub not_empty : (xs : List ℕ) → 0 < length xs → xs ≢ []
not_empty [] lt e = omega arith
not_empty (x ∷ xs) lt e = absurd cc

pub some_length : (xs : List ℕ) → xs ≢ [] → 0 < length xs
some_length [] h = absurd (h refl)
some_length (x ∷ xs) h = omega arith

-- bytes that end within an item, and bytes that go on past it
front_within : (a s front more : List ℕ) → a ++ s ≡ front ++ more → length front ≤ length a → a ≡ front ++ drop (length front) a
front_within a s front more e le =
    sym (take-append-drop (length front) a)
    ∙ ap (λ (f : List ℕ). f ++ drop (length front) a) (sym (take-append-le (length front) a s le) ∙ ap (take (length front)) e ∙ take_at front more (length front) refl)

front_past : (a s front more : List ℕ) → a ++ s ≡ front ++ more → length a ≤ length front → (front ≡ a ++ drop (length a) front) × (s ≡ drop (length a) front ++ more)
front_past a s front more e le = (
  sym (take-append-drop (length a) front)
      ∙ ap (λ (f : List ℕ). f ++ drop (length a) front) (sym (take-append-le (length a) front more le) ∙ ap (take (length a)) (sym e) ∙ take_at a s (length a) refl),
  sym (drop_at a s (length a) refl) ∙ ap (drop (length a)) e ∙ drop-append-le (length a) front more le,
)

-- ---- Structures

pub structure-append : (xs ys : List (List ℕ)) → structure (xs ++ ys) ≡ structure xs ++ structure ys
structure-append [] ys = refl
structure-append (x ∷ xs) ys = ap (λ (b : List ℕ). x ++ b) (structure-append xs ys) ∙ sym (append_assoc x (structure xs) (structure ys))

-- an empty structure can't be cut
pub cut_none : {X : Type 0} (read : Reading X) → Cuts read []
cut_none read front more some e = absurd (omega (arith, ap length e, length-append front more, some_length more some))

-- an item that is too short where it is cut
pub cut_one : {A : Type 0} {read : Reading A} {spell : A → List ℕ} {Fits : A → Type 0} → IsShortWhereCut read spell Fits → (a : A) → Fits a → Cuts read (spell a ∷ [])
cut_one {A} {read} {spell} cut a fits front more some e =
    let is : spell a ≡ front ++ more = sym (append-nil (spell a)) ∙ e in
    record {
      before = [];
      cut = spell a;
      behind = [];
      piece = front;
      split = refl;
      is_front = refl;
      shorter = omega (arith, ap length is, length-append front more, some_length more some);
      fault = cut a front more fits some is;
    }

-- The items of a part that is read as this, and those of what comes after it.
pub cut_items : {A X : Type 0} {read : Reading A} (more : A → Reading X) (a : A) (first items : List (List ℕ)) → Cuts read first
    → ((rest : List ℕ) → read (structure first ++ rest) ≡ Ok (a, rest)) → Cuts (more a) items → Cuts (field read more) (first ++ items)
cut_items {A} {X} {read} more a first items cut_first again cut_more front behind some e =
    elim (cases_lt (length front) (length (structure first))) [ inl lt ↦ within lt | inr le ↦ past le ]
  where
    both : structure first ++ structure items ≡ front ++ behind
    both = sym (structure-append first items) ∙ e

    within : length front < length (structure first) → CutIn (first ++ items) front (field read more front)
    within lt =
        let end : List ℕ = drop (length front) (structure first) in
        let is : structure first ≡ front ++ end = front_within (structure first) (structure items) front behind both (omega arith) in
        let c : CutIn first front (read front) = cut_first front end (not_empty end (omega (arith, length-drop (length front) (structure first)))) is in
        record {
          before = c.before;
          cut = c.cut;
          behind = c.behind ++ items;
          piece = c.piece;
          split = ap (λ (l : List (List ℕ)). l ++ items) c.split ∙ append_assoc c.before (c.cut ∷ c.behind) items;
          is_front = c.is_front;
          shorter = c.shorter;
          fault = ap (λ (r : Result (A × List ℕ) Fault). r >>= λ x. more x.0 x.1) c.fault;
        }

    past : length (structure first) ≤ length front → CutIn (first ++ items) front (field read more front)
    past le =
        let later : List ℕ = drop (length (structure first)) front in
        let p = front_past (structure first) (structure items) front behind both le in
        let c : CutIn items later (more a later) = cut_more later behind some p.1 in
        let found : read front ≡ Ok (a, later) = ap read p.0 ∙ again later in
        record {
          before = first ++ c.before;
          cut = c.cut;
          behind = c.behind;
          piece = c.piece;
          split = ap (λ (l : List (List ℕ)). first ++ l) c.split ∙ sym (append_assoc first c.before (c.cut ∷ c.behind));
          is_front = p.0 ∙ ap (λ (b : List ℕ). structure first ++ b) c.is_front ∙ sym (append_assoc (structure first) (structure c.before) c.piece)
              ∙ ap (λ (b : List ℕ). b ++ c.piece) (sym (structure-append first c.before));
          shorter = c.shorter;
          fault = ap (λ (r : Result (A × List ℕ) Fault). r >>= λ x. more x.0 x.1) found ∙ c.fault;
        }

-- A field, and what comes after it.
pub cut_field : {A X : Type 0} {read : Reading A} {spell : A → List ℕ} {Fits : A → Type 0} → IsItem read spell Fits → IsShortWhereCut read spell Fits
    → (more : A → Reading X) (a : A) (items : List (List ℕ)) → Fits a → Cuts (more a) items → Cuts (field read more) (spell a ∷ items)
cut_field {A} {X} {read} {spell} item cut more a items fits cut_more =
    cut_items more a (spell a ∷ []) items (cut_one cut a fits) (λ rest. ap (λ (b : List ℕ). read (b ++ rest)) (append-nil (spell a)) ∙ item.again a rest fits) cut_more
