-- The least number that isn't supported, found in a range.
use Rattle.std.proofs.Common.{◌≡◌, ◌≢◌, ℕ, zero, suc, ◌+◌, ◌*◌, ◌/◌, ◌%◌, ◌≤◌, ◌<◌, Bool, true, false, not, cond, ◌&&◌, ◌⊎◌, List, [], ◌∷◌, length, get_or, Option, Some, None, Result, Ok, Err, refl, sym, ap, ◌∙◌, arith, inl, inr}
use Rattle.std.specs.List.{find, range_with_len}
use Rattle.std.specs.Int.{bit_at}
use Rattle.std.proofs.lemmas.Bool.{cases_lt, cases_eq}
use Rattle.std.proofs.lemmas.List.{get_or_past}
use Rattle.std.proofs.lemmas.Nat.Bits.{bit_at-zero}
use Rattle.nm_xdr.specs.Fields.{Fault, all_of}
use Rattle.nm_attrs.specs.declared.values.Attr.{Attr}
use Rattle.nm_attrs.specs.Bitmaps.{has}
use Rattle.nm_attrs.specs.Attributes.{is_supported, unsupported, number, of_supported, attrs_at, asked, fattr_at, IsLeastUnsupported}

-- What is found in a range passes, and what is below it doesn't.
range_found : (p : ℕ → Bool) (a n b : ℕ) → find p (range_with_len a n) ≡ Some b → (p b ≡ true) × ((i : ℕ) → a ≤ i → i < b → p i ≡ false)
range_found p a zero b e = absurd cc
range_found p a (suc n) b e = by_test (p a) refl e (range_found p (a + 1) n b)
  where
    by_test : (t : Bool) → p a ≡ t → cond t (Some a) (find p (range_with_len (a + 1) n)) ≡ Some b
        → (find p (range_with_len (a + 1) n) ≡ Some b → (p b ≡ true) × ((i : ℕ) → a + 1 ≤ i → i < b → p i ≡ false))
        → (p b ≡ true) × ((i : ℕ) → a ≤ i → i < b → p i ≡ false)
    by_test true is h more =
        let same : a ≡ b = cc in
        (ap p (sym same) ∙ is, λ i le lt. absurd (omega arith))
    by_test false is h more =
        let below : (i : ℕ) → a ≤ i → i < b → (i ≡ a) ⊎ (i ≢ a) → p i ≡ false = λ i le lt c. elim c [ inl e ↦ ap p e ∙ is | inr other ↦ (more h).1 i (omega (arith, other)) lt ] in
        ((more h).0, λ i le lt. below i le lt (cases_eq i a))

-- Where nothing is found in a range, nothing in it passes.
pub range_none : (p : ℕ → Bool) (a n : ℕ) → find p (range_with_len a n) ≡ None → (i : ℕ) → a ≤ i → i < a + n → p i ≡ false
range_none p a zero e i le lt = absurd (omega arith)
range_none p a (suc n) e i le lt = by_test (p a) refl e (cases_eq i a) (λ h more. range_none p (a + 1) n h i more (omega arith))
  where
    by_test : (t : Bool) → p a ≡ t → cond t (Some a) (find p (range_with_len (a + 1) n)) ≡ None → (i ≡ a) ⊎ (i ≢ a)
        → (find p (range_with_len (a + 1) n) ≡ None → a + 1 ≤ i → p i ≡ false) → p i ≡ false
    by_test true is h c more = absurd cc
    by_test false is h (inl same) more = ap p same ∙ is
    by_test false is h (inr other) more = more h (omega (arith, other))

-- The first of a range that passes is found.
range_least : (p : ℕ → Bool) (a n b : ℕ) → a ≤ b → b < a + n → p b ≡ true → ((i : ℕ) → a ≤ i → i < b → p i ≡ false) → find p (range_with_len a n) ≡ Some b
range_least p a zero b le lt is below = absurd (omega arith)
range_least p a (suc n) b le lt is below = by_place (cases_eq a b) (λ other. range_least p (a + 1) n b (omega (arith, other)) (omega arith) is (λ i l. below i (omega arith)))
  where
    by_place : (a ≡ b) ⊎ (a ≢ b) → ((a ≢ b) → find p (range_with_len (a + 1) n) ≡ Some b) → cond (p a) (Some a) (find p (range_with_len (a + 1) n)) ≡ Some b
    by_place (inl same) more =
        let here : p a ≡ true = ap p same ∙ is in
        rw here (ap (λ (x : ℕ). Some x) same)
    by_place (inr other) more =
        let here : p a ≡ false = below a (omega arith) (omega (arith, other)) in
        rw here (more other)

-- a bitmap has nothing past its words
pub past_words : (words : List ℕ) (n : ℕ) → 32 * length words ≤ n → has words n ≡ false
unfolding has
past_words words n le =
    let none : bit_at (get_or words (n / 32) 0) (n % 32) ≡ 0 = rw (get_or_past words (n / 32) 0 (omega arith)) (bit_at-zero (n % 32)) in
    rw none refl

-- whether a bitmap has a number that isn't supported
abbrev is_wrong : List ℕ → ℕ → Bool
is_wrong words n = has words n && not (is_supported n)

wrong_is : (h s : Bool) → (h && not s) ≡ true → (h ≡ true) × (s ≡ false)
wrong_is true true e = absurd cc
wrong_is true false e = (refl, refl)
wrong_is false s e = absurd cc

right_is : (h s : Bool) → (h && not s) ≡ false → h ≡ true → s ≡ true
right_is true true e f = refl
right_is true false e f = absurd cc
right_is false s e f = absurd cc

is_right : (h s : Bool) → (h ≡ true → s ≡ true) → (h && not s) ≡ false
is_right true s f = rw (f refl) refl
is_right false s f = refl

pub least_found : (words : List ℕ) (bit : ℕ) → unsupported words ≡ Some bit → IsLeastUnsupported words bit
unfolding unsupported
least_found words bit e =
    let p = range_found (is_wrong words) 0 (32 * length words) bit e in
    let w = wrong_is (has words bit) (is_supported bit) p.0 in
    record { among = w.0; unknown = w.1; least = λ n lt. right_is (has words n) (is_supported n) (p.1 n (omega arith) lt) }

pub least_again : (words : List ℕ) (bit : ℕ) → IsLeastUnsupported words bit → unsupported words ≡ Some bit
unfolding unsupported
least_again words bit l =
    range_least (is_wrong words) 0 (32 * length words) bit (omega arith) (within (cases_lt bit (32 * length words))) (rw (l.among, l.unknown) refl)
    (λ i _ lt. is_right (has words i) (is_supported i) (l.least i lt))
  where
    within : (bit < 32 * length words) ⊎ (32 * length words ≤ bit) → bit < 0 + 32 * length words
    within (inl lt) = omega arith
    within (inr le) = absurd (let none = past_words words bit le in let some = l.among in cc)

pub all_supported : (words : List ℕ) → unsupported words ≡ None → (n : ℕ) → has words n ≡ true → is_supported n ≡ true
unfolding unsupported
all_supported words e n h = by_place (cases_lt n (32 * length words))
  where
    by_place : (n < 32 * length words) ⊎ (32 * length words ≤ n) → is_supported n ≡ true
    by_place (inl lt) = right_is (has words n) (is_supported n) (range_none (is_wrong words) 0 (32 * length words) e n (omega arith) (omega arith)) h
    by_place (inr le) = absurd (let none = past_words words n le in cc)

none_found : (p : ℕ → Bool) (xs : List ℕ) → ((x : ℕ) → p x ≡ false) → find p xs ≡ None
none_found p [] h = refl
none_found p (x ∷ xs) h = rw (h x) (none_found p xs h)

pub none_unsupported : (words : List ℕ) → ((n : ℕ) → has words n ≡ true → is_supported n ≡ true) → unsupported words ≡ None
unfolding unsupported
none_unsupported words h = none_found (is_wrong words) (range_with_len 0 (32 * length words)) (λ n. is_right (has words n) (is_supported n) (h n))

-- what is told where a number isn't supported
of_number : (o : Option ℕ) (r : Result (List Attr) Fault) (bit : ℕ) → of_supported o r ≡ Err (number bit) → o ≡ Some bit
of_number (Some n) r bit e = cc
of_number None (Ok x) bit e = absurd cc
of_number None (Err f) bit e = absurd cc

pub told_is_least : (words vals : List ℕ) (bit : ℕ) → fattr_at words vals ≡ Err (number bit) → IsLeastUnsupported words bit
unfolding fattr_at
told_is_least words vals bit e = least_found words bit (of_number (unsupported words) (all_of (attrs_at (asked words) []) vals) bit e)

pub least_is_told : (words vals : List ℕ) (bit : ℕ) → IsLeastUnsupported words bit → fattr_at words vals ≡ Err (number bit)
unfolding fattr_at
least_is_told words vals bit l = rw (least_again words bit l) refl
