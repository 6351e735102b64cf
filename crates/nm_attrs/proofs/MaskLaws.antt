-- The bitmap of some attributes has just their numbers.
use Rattle.std.proofs.Common.{◌≡◌, ◌≢◌, ℕ, ◌+◌, ◌/◌, ◌%◌, ◌^◌, ◌≤◌, ◌<◌, Bool, true, false, cond, eqb, ◌&&◌, ◌||◌, ◌⊎◌, List, [], ◌∷◌, length, get_or, None, refl, sym, ap, subst, ◌∙◌, arith, inl, inr}
use Rattle.std.specs.List.{AllByRecursion, filter, list_any, fold}
use Rattle.std.specs.Int.{bit_at}
use Rattle.std.specs.Int.RustNames.{bit_or}
use Rattle.std.proofs.lemmas.Bool.{cases_lt, cases_eq, eqb-true, eq-eqb, ne_eqb}
use Rattle.std.proofs.lemmas.List.{get_or_past}
use Rattle.std.proofs.lemmas.List.Elements.{filter_agree}
use Rattle.std.proofs.lemmas.Nat.{shr-shr, shr_split, or_lt, pow_below}
use Rattle.std.proofs.lemmas.Nat.Bits.{bit_at-zero, bit_at_or, bit_at-pow_same, bit_at-pow_other, bit_at_above, bit_at_cat_low, bit_at-lt}
use Rattle.nm_attrs.proofs.LeastLaws.{none_unsupported}
use Rattle.nm_attrs.specs.declared.values.Attr.{Attr}
use Rattle.nm_attrs.specs.declared.values.AttrLayout.{AttrLayout}
use Rattle.nm_attrs.specs.Bitmaps.{has, trimmed, words_of_mask}
use Rattle.nm_attrs.specs.Attributes.{table, is_supported, asked, unsupported, mask_of, words_of, layouts_of, AreAttrs}

-- ---- A mask's words

-- two words by whether they are 0
abbrev pub by_tests : Bool → Bool → ℕ → ℕ → List ℕ
by_tests a b low high = cond (a && b) [] (cond b (low ∷ []) (low ∷ high ∷ []))

trimmed_0 : (low high : ℕ) → get_or (trimmed low high) 0 0 ≡ low
trimmed_0 low high = cases (eqb low 0) (eqb high 0) refl
  where
    cases : (a b : Bool) → eqb low 0 ≡ a → get_or (by_tests a b low high) 0 0 ≡ low
    cases true true p = sym (eqb-true low 0 p)
    cases true false p = refl
    cases false true p = refl
    cases false false p = refl

trimmed_1 : (low high : ℕ) → get_or (trimmed low high) 1 0 ≡ high
trimmed_1 low high = cases (eqb low 0) (eqb high 0) refl
  where
    cases : (a b : Bool) → eqb high 0 ≡ b → get_or (by_tests a b low high) 1 0 ≡ high
    cases true true p = sym (eqb-true high 0 p)
    cases true false p = refl
    cases false true p = sym (eqb-true high 0 p)
    cases false false p = refl

trimmed_past : (low high i : ℕ) → 2 ≤ i → get_or (trimmed low high) i 0 ≡ 0
trimmed_past low high i h = get_or_past (trimmed low high) i 0 (short (eqb low 0) (eqb high 0))
  where
    short : (a b : Bool) → length (by_tests a b low high) ≤ i
    short true true = omega arith
    short true false = omega arith
    short false true = omega arith
    short false false = omega arith

-- the words of a mask have its bits
pub has_of_mask : (mask n : ℕ) → mask < 2 ^ 64 → has (words_of_mask mask) n ≡ eqb (bit_at mask n) 1
unfolding has words_of_mask
has_of_mask mask n small = ap (λ (b : ℕ). eqb b 1) (by_place (cases_lt n 32) (cases_lt n 64))
  where
    words : List ℕ
    words = trimmed (mask % 2 ^ 32) (mask / 2 ^ 32)

    by_place : (n < 32) ⊎ (32 ≤ n) → (n < 64) ⊎ (64 ≤ n) → bit_at (get_or words (n / 32) 0) (n % 32) ≡ bit_at mask n
    by_place (inl lt) _ =
        let at : get_or words (n / 32) 0 ≡ mask % 2 ^ 32 = ap (λ (i : ℕ). get_or words i 0) (omega arith) ∙ trimmed_0 (mask % 2 ^ 32) (mask / 2 ^ 32) in
        let place : n % 32 ≡ n = omega arith in
        rw (at, place) (sym (bit_at_cat_low (mask / 2 ^ 32) 32 (mask % 2 ^ 32) n lt) ∙ ap (λ (m : ℕ). bit_at m n) (shr_split mask 32))
    by_place (inr le) (inl lt) =
        let at : get_or words (n / 32) 0 ≡ mask / 2 ^ 32 = ap (λ (i : ℕ). get_or words i 0) (omega arith) ∙ trimmed_1 (mask % 2 ^ 32) (mask / 2 ^ 32) in
        let place : 32 + n % 32 ≡ n = omega arith in
        rw at (ap (λ (q : ℕ). q % 2) (shr-shr mask 32 (n % 32) ∙ ap (λ (k : ℕ). mask / 2 ^ k) place))
    by_place (inr le) (inr past) =
        let at : get_or words (n / 32) 0 ≡ 0 = trimmed_past (mask % 2 ^ 32) (mask / 2 ^ 32) (n / 32) (omega arith) in
        rw at (bit_at-zero (n % 32) ∙ sym (bit_at_above mask 64 n small past))

-- ---- The mask of attributes

either : (b : Bool) → true ≡ (b || true)
either true = refl
either false = refl

or_none : (b : Bool) → b ≡ (b || false)
or_none true = refl
or_none false = refl

-- one more bit
set_bit : (mask k n : ℕ) → eqb (bit_at (bit_or mask (2 ^ k)) n) 1 ≡ (eqb (bit_at mask n) 1 || eqb k n)
set_bit mask k n = by_place (cases_eq n k)
  where
    by_place : (n ≡ k) ⊎ (n ≢ k) → eqb (bit_at (bit_or mask (2 ^ k)) n) 1 ≡ (eqb (bit_at mask n) 1 || eqb k n)
    by_place (inl same) =
        let set : bit_at (bit_or mask (2 ^ k)) n ≡ 1 =
        omega (arith, bit_at_or mask (2 ^ k) n, ap (bit_at (2 ^ k)) same, bit_at-pow_same k, bit_at-lt mask n) in
        let here : eqb k n ≡ true = eq-eqb k n (sym same) in
        rw (set, here) (either (eqb (bit_at mask n) 1))
    by_place (inr other) =
        let kept : bit_at (bit_or mask (2 ^ k)) n ≡ bit_at mask n =
        omega (arith, bit_at_or mask (2 ^ k) n, bit_at-pow_other k n other) in
        let elsewhere : eqb k n ≡ false = ne_eqb k n (λ e. other (sym e)) in
        rw (kept, elsewhere) (or_none (eqb (bit_at mask n) 1))

-- which bits a fold sets
mask_bits : (attrs : List Attr) (mask n : ℕ) → eqb (bit_at (fold (λ m a. bit_or m (2 ^ a.bit)) mask attrs) n) 1 ≡ (eqb (bit_at mask n) 1 || list_any (λ a. eqb a.bit n) attrs)
mask_bits [] mask n = or_none (eqb (bit_at mask n) 1)
mask_bits (a ∷ attrs) mask n =
    mask_bits attrs (bit_or mask (2 ^ a.bit)) n ∙ ap (λ (b : Bool). b || list_any (λ x. eqb x.bit n) attrs) (set_bit mask a.bit n)
    ∙ grouped (eqb (bit_at mask n) 1) (eqb a.bit n) (list_any (λ x. eqb x.bit n) attrs)
  where
    grouped : (x y z : Bool) → ((x || y) || z) ≡ (x || (y || z))
    grouped true y z = refl
    grouped false y z = refl

mask_small : (attrs : List Attr) (mask : ℕ) → mask < 2 ^ 64 → AllByRecursion (λ a. a.bit < 64) attrs → fold (λ m a. bit_or m (2 ^ a.bit)) mask attrs < 2 ^ 64
mask_small [] mask small h = small
mask_small (a ∷ attrs) mask small h = mask_small attrs (bit_or mask (2 ^ a.bit)) (or_lt 64 mask (2 ^ a.bit) small (pow_below a.bit 64 h.0)) h.1

-- ---- The attributes of a bitmap

-- the numbers of some attributes, of which each is below 64, are those that their bitmap has
has_of_attrs : (attrs : List Attr) (n : ℕ) → AllByRecursion (λ a. a.bit < 64) attrs → has (words_of attrs) n ≡ list_any (λ a. eqb a.bit n) attrs
unfolding mask_of
has_of_attrs attrs n small =
    has_of_mask (mask_of attrs) n (mask_small attrs 0 (omega arith) small) ∙ mask_bits attrs 0 n ∙ ap (λ (z : ℕ). eqb z 1 || list_any (λ a. eqb a.bit n) attrs) (bit_at-zero n)

-- layouts that are all small
small_layouts : (attrs : List Attr) → AllByRecursion (λ l. l.bit < 64) (layouts_of attrs) → AllByRecursion (λ a. a.bit < 64) attrs
small_layouts [] h = tt
small_layouts (a ∷ attrs) h = (h.0, small_layouts attrs h.1)

kept_small : (b : Bool) (l : AttrLayout) (ls : List AttrLayout) → l.bit < 64 → AllByRecursion (λ x. x.bit < 64) ls → AllByRecursion (λ x. x.bit < 64) (cond b (l ∷ ls) ls)
kept_small true l ls h others = (h, others)
kept_small false l ls h others = others

small_filtered : (p : AttrLayout → Bool) (ls : List AttrLayout) → AllByRecursion (λ l. l.bit < 64) ls → AllByRecursion (λ l. l.bit < 64) (filter p ls)
small_filtered p [] h = tt
small_filtered p (l ∷ ls) h = kept_small (p l) l (filter p ls) h.0 (small_filtered p ls h.1)

table_small : AllByRecursion (λ l. l.bit < 64) table
unfolding table
table_small = (
  omega arith,
  (
    omega arith,
    (
      omega arith,
      (
        omega arith,
        (
          omega arith,
          (
            omega arith,
            (
              omega arith,
              (
                omega arith,
                (omega arith, (omega arith, (omega arith, (omega arith, (omega arith, (omega arith, (omega arith, (omega arith, tt)))))))),
              ),
            ),
          ),
        ),
      ),
    ),
  ),
)

-- The numbers of attributes of the table are below 64.
pub bits_small : (attrs : List Attr) → AreAttrs attrs → AllByRecursion (λ a. a.bit < 64) attrs
bits_small attrs are =
    small_layouts attrs (subst (AllByRecursion (λ l. l.bit < 64)) (sym are.known) (small_filtered (λ l. list_any (λ a. eqb a.bit l.bit) attrs) table table_small))

-- Their mask has 64 bits.
pub mask_fits : (attrs : List Attr) → AreAttrs attrs → mask_of attrs < 2 ^ 64
unfolding mask_of
mask_fits attrs are = mask_small attrs 0 (omega arith) (bits_small attrs are)

-- The bitmap of some attributes asks for just these.
pub asked_again : (attrs : List Attr) → AreAttrs attrs → asked (words_of attrs) ≡ layouts_of attrs
asked_again attrs are =
    filter_agree (λ l. has (words_of attrs) l.bit) (λ l. list_any (λ a. eqb a.bit l.bit) attrs) (λ l. has_of_attrs attrs l.bit (bits_small attrs are)) table ∙ sym are.known

by_kept : (p q : AttrLayout → Bool) (l : AttrLayout) (ls : List AttrLayout) (kept passes : Bool) → q l ≡ passes
    → list_any q (cond kept (l ∷ filter p ls) (filter p ls)) ≡ true → (list_any q (filter p ls) ≡ true → list_any q ls ≡ true) → (passes || list_any q ls) ≡ true
by_kept p q l ls kept true is h more = refl
by_kept p q l ls true false is h more = more (sym (ap (λ (b : Bool). b || list_any q (filter p ls)) is) ∙ h)
by_kept p q l ls false false is h more = more h

-- what is in a filtered list is in the list
in_filtered : (p q : AttrLayout → Bool) (ls : List AttrLayout) → list_any q (filter p ls) ≡ true → list_any q ls ≡ true
in_filtered p q [] h = h
in_filtered p q (l ∷ ls) h = by_kept p q l ls (p l) (q l) refl h (in_filtered p q ls)

any_layout : (attrs : List Attr) (n : ℕ) → list_any (λ a. eqb a.bit n) attrs ≡ list_any (λ l. eqb l.bit n) (layouts_of attrs)
any_layout [] n = refl
any_layout (a ∷ attrs) n = ap (λ (b : Bool). eqb a.bit n || b) (any_layout attrs n)

-- The bitmap of attributes of the table has only numbers that are supported.
pub supported_again : (attrs : List Attr) → AreAttrs attrs → unsupported (words_of attrs) ≡ None
unfolding is_supported
supported_again attrs are = none_unsupported (words_of attrs) supports
  where
    supports : (n : ℕ) → has (words_of attrs) n ≡ true → is_supported n ≡ true
    supports n h =
        let among : list_any (λ l. eqb l.bit n) (layouts_of attrs) ≡ true =
        sym (any_layout attrs n) ∙ sym (has_of_attrs attrs n (bits_small attrs are)) ∙ h in
        in_filtered (λ l. list_any (λ a. eqb a.bit l.bit) attrs) (λ l. eqb l.bit n) table (subst (λ (ls : List AttrLayout). list_any (λ l. eqb l.bit n) ls ≡ true) are.known among)
