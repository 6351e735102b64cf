-- Each item's reading and spelling belong together.
use Rattle.std.proofs.Common.{◌≡◌, ℕ, zero, suc, ◌+◌, ◌^◌, ◌≤◌, ◌<◌, Bool, true, false, not, cond, eqb, ltb, leb, List, [], ◌∷◌, ◌++◌, length, take, drop, replicate, Option, Some, None, Result, Ok, Err, refl, sym, ap, subst, ◌∙◌, append_assoc, arith, inl, inr}
use Rattle.std.specs.List.{position, position_or_len}
use Rattle.std.specs.Prelude.{IfSome, is_some}
use Rattle.std.specs.Int.{w32, w64, from_be_bytes}
use Rattle.std.proofs.lemmas.Bool.{cases_lt, ltb-false, le-ltb, leb-true, le-leb, ne_eqb}
use Rattle.std.proofs.lemmas.List.{append-nil, take_at, drop_at, take-append-drop, length-append, length-take, length-drop, get_or-take, get_or_past, length-replicate, drop-drop}
use Rattle.std.proofs.lemmas.Nat.{be_bytes_4, be_bytes_8}
use Rattle.byteorder.specs.Endian.{big_bytes, big_number}
use Rattle.byteorder.specs.Numbers.{big_from-take, big_from-lt, big_number-reads_back, length-bytes_high_first}
use Rattle.nm_xdr.specs.Fields.{short, bool, too_long, Fault, Reading, made, EachAfter, IsBytes, IsItem}
use Rattle.nm_xdr.specs.Items.{word, hyper, flag, padding_of, fixed, opaque, counted, optional, word_at, hyper_at, flag_at, padded_at, fixed_at, length_at, opaque_at, counted_at, present, optional_at, named, enum_at}
use Rattle.nm_xdr.proofs.FieldLaws.{field_part, tail_part, record_item, tested_item, whole_item, fits_as, spelled_as, made_item, union_item, rows_item, same_value, bind_ok}

IsBytes-take : (n : ℕ) (bytes : List ℕ) → IsBytes bytes → IsBytes (take n bytes)
IsBytes-take n bytes h i =
    elim (cases_lt i n) [
      | inl lt ↦ rw (get_or-take n bytes i 0 lt) (h i)
      | inr le ↦ rw (get_or_past (take n bytes) i 0 (omega (arith, length-take n bytes))) (omega arith)
    ]

-- a number of n bytes
abbrev number_at : ℕ → Reading ℕ
number_at n bytes = cond (ltb (length bytes) n) (Err (record { flaw = short; left = length bytes })) (Ok (big_number n bytes, drop n bytes))

pub short_or : {X : Type 0} (b : Bool) (d : Fault) (x y : X) → cond b (Err d) (Ok x) ≡ Ok y → (b ≡ false) × (x ≡ y)
short_or true d x y e = absurd cc
short_or false d x y e = (refl, cc)

number_item : (n : ℕ) → ((bytes : List ℕ) → n ≤ length bytes → IsBytes bytes → big_bytes n (big_number n bytes) ≡ take n bytes)
    → IsItem (number_at n) (big_bytes n) (λ x. x < 256 ^ n)
number_item n back = record {
  found = λ bytes x rest fits e.
      let g = short_or (ltb (length bytes) n) (record { flaw = short; left = length bytes }) (big_number n bytes, drop n bytes) (x, rest) e in
      let long : n ≤ length bytes = ltb-false _ _ g.0 in
      let x-is : big_number n bytes ≡ x = ap (λ (p : ℕ × List ℕ). p.0) g.1 in
      let rest-is : drop n bytes ≡ rest = ap (λ (p : ℕ × List ℕ). p.1) g.1 in
      let whole_is : bytes ≡ big_bytes n x ++ rest =
      sym (take-append-drop n bytes) ∙ ap (λ (f : List ℕ). f ++ drop n bytes) (sym (back bytes long fits) ∙ ap (big_bytes n) x-is) ∙ ap (λ (r : List ℕ). big_bytes n x ++ r) rest-is in
      (whole_is, subst (λ y. y < 256 ^ n) x-is (big_from-lt 0 n bytes fits));
  again = λ x rest fits.
      let len = length-bytes_high_first n x in
      let long : ltb (length (big_bytes n x ++ rest)) n ≡ false = le-ltb _ _ (omega (arith, length-append (big_bytes n x) rest, len)) in
      rw (long, big_number-reads_back n x rest fits, drop_at (big_bytes n x) rest n len) refl;
}

four_back : (bytes : List ℕ) → 4 ≤ length bytes → IsBytes bytes → big_bytes 4 (big_number 4 bytes) ≡ take 4 bytes
four_back bytes long fits =
    let same : big_number 4 bytes ≡ from_be_bytes w32 (take 4 bytes) = sym (big_from-take 0 4 4 bytes (omega arith)) ∙ omega arith in
    be_bytes_4 (take 4 bytes) (big_number 4 bytes) (omega (arith, length-take 4 bytes)) (IsBytes-take 4 bytes fits) same

eight_back : (bytes : List ℕ) → 8 ≤ length bytes → IsBytes bytes → big_bytes 8 (big_number 8 bytes) ≡ take 8 bytes
eight_back bytes long fits =
    let same : big_number 8 bytes ≡ from_be_bytes w64 (take 8 bytes) = sym (big_from-take 0 8 8 bytes (omega arith)) ∙ omega arith in
    be_bytes_8 (take 8 bytes) (big_number 8 bytes) (omega (arith, length-take 8 bytes)) (IsBytes-take 8 bytes fits) same

-- A number below 2^32 is a word.
pub word_item : IsItem word_at word (λ n. n < 2 ^ 32)
unfolding word_at word
word_item = number_item 4 four_back

-- A number below 2^64 is a hyper.
pub hyper_item : IsItem hyper_at hyper (λ n. n < 2 ^ 64)
unfolding hyper_at hyper
hyper_item = number_item 8 eight_back

-- The number of a flag.
bit : (n : ℕ) → n ≤ 1 → cond (eqb n 1) 1 0 ≡ n
bit zero h = refl
bit (suc zero) h = refl
bit (suc (suc n)) h = absurd (omega arith)

flag_again : (b : Bool) → (n : ℕ) × ((n < 2 ^ 32) × (leb n 1 ≡ true)) × (eqb n 1 ≡ b)
flag_again true = (1, (omega arith, refl), refl)
flag_again false = (0, (omega arith, refl), refl)

-- Each flag is an item.
pub flag_item : IsItem flag_at flag (λ _. Unit {0})
unfolding flag_at flag
flag_item =
    made_item (λ n. eqb n 1) (λ b. word (cond b 1 0)) (λ _. Unit {0}) (λ n fits. (tt, ap word (bit n (leb-true n 1 fits.1)))) (λ b _. flag_again b)
    (tested_item (λ n. leb n 1) bool word_item)

-- A length or a count of at most max.
pub length_item : (max : ℕ) → max < 2 ^ 32 → IsItem (length_at max) word (λ n. n ≤ max)
unfolding length_at
length_item max small =
    fits_as (λ n. n ≤ max) (λ n le. (omega (arith, le, small), le-leb n max le)) (λ n fits. leb-true n max fits.1)
    (tested_item (λ n. leb n max) (λ n. too_long n max) word_item)

-- ---- Padding

-- bytes of which none isn't 0
all_zero : (xs : List ℕ) → length xs ≤ position_or_len (λ b. not (eqb b 0)) xs → xs ≡ replicate (length xs) 0
all_zero [] h = refl
all_zero (zero ∷ xs) h = ap (λ (ys : List ℕ). 0 ∷ ys) (all_zero xs (omega (arith, h)))
all_zero (suc b ∷ xs) h =
    let other : eqb (suc b) 0 ≡ false = ne_eqb (suc b) 0 (λ e. omega (arith, e)) in
    let first : position_or_len (λ b. not (eqb b 0)) (suc b ∷ xs) ≡ 0 = rw other refl in
    absurd (omega (arith, first, h))

none_zero : (xs : List ℕ) → position (λ b. not (eqb b 0)) xs ≡ None → xs ≡ replicate (length xs) 0
none_zero xs e = all_zero xs (far (ltb (position_or_len (λ b. not (eqb b 0)) xs) (length xs)) refl e)
  where
    far : (t : Bool) → ltb (position_or_len (λ b. not (eqb b 0)) xs) (length xs) ≡ t
        → cond t (Some (position_or_len (λ b. not (eqb b 0)) xs)) None ≡ None → length xs ≤ position_or_len (λ b. not (eqb b 0)) xs
    far true is h = absurd cc
    far false is h = ltb-false _ _ is

zeros_len : (n : ℕ) → position_or_len (λ b. not (eqb b 0)) (replicate n 0) ≡ n
zeros_len zero = refl
zeros_len (suc n) = let h = zeros_len n in omega (arith, h)

zero_none : (n : ℕ) → position (λ b. not (eqb b 0)) (replicate n 0) ≡ None
zero_none n =
    let zeros : List ℕ = replicate n 0 in
    let past : ltb (position_or_len (λ b. not (eqb b 0)) zeros) (length zeros) ≡ false = le-ltb _ _ (omega (arith, zeros_len n, length-replicate {A = ℕ} n 0)) in
    rw past refl

-- by where a byte of the padding isn't 0
pub padded_found : (n : ℕ) (bytes : List ℕ) (o : Option ℕ) (x rest : List ℕ) → padded_at n bytes o ≡ Ok (x, rest)
    → (o ≡ None) × (take n bytes ≡ x) × (drop (n + padding_of n) bytes ≡ rest)
padded_found n bytes None x rest e =
    let same = same_value (take n bytes) x (drop (n + padding_of n) bytes) rest e in
    (refl, same.0, same.1)
padded_found n bytes (Some i) x rest e = absurd cc

pub long_enough : {X : Type 0} (b : Bool) (d : Fault) (r : Result X Fault) (y : X) → cond b (Err d) r ≡ Ok y → (b ≡ false) × (r ≡ Ok y)
long_enough true d r y e = absurd cc
long_enough false d r y e = (refl, e)

-- n bytes and their padding.
pub fixed_item : (n : ℕ) → IsItem (fixed_at n) fixed (λ bytes. length bytes ≡ n)
unfolding fixed_at fixed
fixed_item n = record {
  found = λ bytes x rest fits e.
      let pad = padding_of n in
      let o = position (λ b. not (eqb b 0)) (take pad (drop n bytes)) in
      let g = long_enough (ltb (length bytes) (n + pad)) (record { flaw = short; left = length bytes }) (padded_at n bytes o) (x, rest) e in
      let long : n + pad ≤ length bytes = ltb-false _ _ g.0 in
      let p = padded_found n bytes o x rest g.1 in
      let len : length x ≡ n = omega (arith, ap length (sym p.1), length-take n bytes, long) in
      let zeros : take pad (drop n bytes) ≡ replicate pad 0 =
      none_zero (take pad (drop n bytes)) p.0 ∙ ap (λ (k : ℕ). replicate k 0) (omega (arith, length-take pad (drop n bytes), length-drop n bytes, long)) in
      let behind : drop n bytes ≡ replicate pad 0 ++ rest =
      sym (take-append-drop pad (drop n bytes)) ∙ ap (λ (z : List ℕ). z ++ drop pad (drop n bytes)) zeros ∙ ap (λ (r : List ℕ). replicate pad 0 ++ r) (drop-drop pad n bytes ∙ p.2) in
      let parts : bytes ≡ (x ++ replicate pad 0) ++ rest =
      sym (take-append-drop n bytes) ∙ ap (λ (f : List ℕ). f ++ drop n bytes) p.1 ∙ ap (λ (r : List ℕ). x ++ r) behind ∙ sym (append_assoc x (replicate pad 0) rest) in
      (parts ∙ ap (λ (k : ℕ). (x ++ replicate (padding_of k) 0) ++ rest) (sym len), len);
  again = λ x rest fits.
      let zeros = replicate (padding_of n) 0 in
      let len-z : length zeros ≡ padding_of n = length-replicate {A = ℕ} (padding_of n) 0 in
      let same : padding_of (length x) ≡ padding_of n = ap padding_of fits in
      let parts : (x ++ zeros) ++ rest ≡ x ++ (zeros ++ rest) = append_assoc x zeros rest in
      let long : ltb (length ((x ++ zeros) ++ rest)) (n + padding_of n) ≡ false =
      le-ltb _ _ (omega (arith, length-append (x ++ zeros) rest, length-append x zeros, len-z, fits)) in
      let front : take n ((x ++ zeros) ++ rest) ≡ x = ap (take n) parts ∙ take_at x (zeros ++ rest) n fits in
      let mid : drop n ((x ++ zeros) ++ rest) ≡ zeros ++ rest = ap (drop n) parts ∙ drop_at x (zeros ++ rest) n fits in
      let pad : take (padding_of n) (drop n ((x ++ zeros) ++ rest)) ≡ zeros = ap (take (padding_of n)) mid ∙ take_at zeros rest (padding_of n) len-z in
      let behind : drop (n + padding_of n) ((x ++ zeros) ++ rest) ≡ rest =
      drop_at (x ++ zeros) rest (n + padding_of n) (omega (arith, length-append x zeros, len-z, fits)) in
      rw (same, long, pad, zero_none (padding_of n), front, behind) refl;
}

-- A length of at most max, the bytes and their padding.
pub opaque_item : (max : ℕ) → max < 2 ^ 32 → IsItem (opaque_at max) opaque (λ bytes. length bytes ≤ max)
unfolding opaque_at opaque
opaque_item max small =
    fits_as (λ bytes. length bytes ≤ max) (λ bytes le. (le, tt)) (λ bytes fits. fits.0)
    (whole_item (record_item (
    field_part (λ (bytes : List ℕ). length bytes) _ (λ _. length_item max small) (
    tail_part (λ _. Unit {0}) (λ s bytes len. (tt, ap (λ (n : ℕ). (tt, n)) len)) (λ _ _. refl) (λ s. fixed_item s.1)))))

-- A count of at most max and its rows.
pub counted_item : {X : Type 0} {row : List X → Reading X} {spell : X → List ℕ} {Fits : List X → X → Type 0} (max : ℕ) → max < 2 ^ 32
    → ((earlier : List X) → IsItem (row earlier) spell (Fits earlier))
    → IsItem (counted_at max row) (counted spell) (λ xs. (length xs ≤ max) × EachAfter Fits [] xs)
unfolding counted_at
counted_item {X} {row} {spell} {Fits} max small item =
    record_item (
    field_part (λ (xs : List X). length xs) _ (λ _. length_item max small) (
    tail_part (EachAfter Fits []) (λ s xs fits. (fits.0, ap (λ (n : ℕ). (tt, n)) fits.1)) (λ _ fits. (fits, refl)) (λ s. rows_item s.1 item)))

-- ---- A value that may be absent

present_spelling : {X : Type 0} → (X → List ℕ) → Option X → List ℕ
present_spelling spell None = []
present_spelling spell (Some x) = spell x

-- Where the flag is true there is a value.
present_item : {X : Type 0} {read : Reading X} {spell : X → List ℕ} {Fits : X → Type 0} → IsItem read spell Fits
    → (b : Bool) → IsItem (present read b) (present_spelling spell) (λ o. IfSome o Fits × (is_some o ≡ b))
unfolding present_spelling
present_item {X} {read} {spell} {Fits} item true =
    made_item (λ x. Some x) (present_spelling spell) (λ o. IfSome o Fits × (is_some o ≡ true)) (λ x fits. ((fits, refl), refl)) from item
  where
    from : (o : Option X) → IfSome o Fits × (is_some o ≡ true) → (x : X) × Fits x × (Some x ≡ o)
    from None h = absurd cc
    from (Some x) h = (x, h.0, refl)
present_item {X} {read} {spell} {Fits} item false =
    record { found = found_none; again = none_again }
  where
    found_none : (bytes : List ℕ) (o : Option X) (rest : List ℕ) → IsBytes bytes → made None bytes ≡ Ok (o, rest)
        → (bytes ≡ present_spelling spell o ++ rest) × (IfSome o Fits × (is_some o ≡ false))
    found_none bytes o rest fits e =
        let same = same_value None o bytes rest e in
        subst (λ (v : Option X). (bytes ≡ present_spelling spell v ++ rest) × (IfSome v Fits × (is_some v ≡ false))) same.0 (same.1, (tt, refl))

    none_again : (o : Option X) (rest : List ℕ) → IfSome o Fits × (is_some o ≡ false) → made None (present_spelling spell o ++ rest) ≡ Ok (o, rest)
    none_again None rest h = refl
    none_again (Some x) rest h = absurd cc

-- A flag, and where it is true a value.
pub optional_item : {X : Type 0} {read : Reading X} {spell : X → List ℕ} {Fits : X → Type 0} → IsItem read spell Fits
    → IsItem (optional_at read) (optional spell) (λ o. IfSome o Fits)
unfolding optional_at present_spelling
optional_item {X} {read} {spell} {Fits} item =
    spelled_as (optional spell) (spelling_of spell) (union_item is_some (λ o. IfSome o Fits) (λ _ _. tt) flag_item (λ b _. present_item item b))
  where
    spelling_of : (spell : X → List ℕ) (o : Option X) → IfSome o Fits → optional spell o ≡ flag (is_some o) ++ present_spelling spell o
    spelling_of spell None fits = sym (append-nil (flag false))
    spelling_of spell (Some x) fits = refl

-- ---- Enumerations

named_found : {X : Type 0} (o : Option X) (n : ℕ) (bytes after : List ℕ) (x : X) (rest : List ℕ) → named o n bytes after ≡ Ok (x, rest) → (o ≡ Some x) × (after ≡ rest)
named_found None n bytes after x rest e = absurd cc
named_found (Some y) n bytes after x rest e = let same = same_value y x after rest e in (ap (λ v. Some v) same.0, same.1)

-- A word that is the number of a value.
pub enum_item : {X : Type 0} (number : X → ℕ) (of : ℕ → Option X) → ((x : X) → number x < 2 ^ 32) → ((x : X) → of (number x) ≡ Some x)
    → ((n : ℕ) (x : X) → of n ≡ Some x → number x ≡ n) → IsItem (enum_at of) (λ x. word (number x)) (λ _. Unit {0})
unfolding enum_at
enum_item {X} number of small back forth = record {
  found = λ bytes x rest fits e.
      let b = bind_ok (word_at bytes) (λ (n : ℕ × List ℕ). named (of n.0) n.0 bytes n.1) (x, rest) e in
      let first = word_item.found bytes b.0.0 b.0.1 fits b.1 in
      let p = named_found (of b.0.0) b.0.0 bytes b.0.1 x rest b.2 in
      (first.0 ∙ ap (λ (n : ℕ). word n ++ b.0.1) (sym (forth b.0.0 x p.0)) ∙ ap (λ (r : List ℕ). word (number x) ++ r) p.1, tt);
  again = λ x rest fits. rw (word_item.again (number x) rest (small x), back x) refl;
}
