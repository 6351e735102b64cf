-- Hexadecimal digits: the bytes that are read are what was spelled.
use Rattle.std.proofs.Common.{◌≡◌, ℕ, zero, suc, ◌+◌, ◌*◌, ◌/◌, ◌%◌, ◌<◌, ◌≤◌, Bool, true, false, cond, leb, eqb, ltb, List, [], ◌∷◌, length, slice_index, Option, Some, None, unwrap_or, Result, Ok, Err, refl, sym, ap, subst, ◌∙◌, arith, inl, inr}
use Rattle.std.specs.Prelude.{◌&&◌}
use Rattle.std.specs.List.{All}
use Rattle.std.proofs.lemmas.Bool.{cases_lt, ltb-true, leb-true, le-leb, eqb-true, and_parts}
use Rattle.std.proofs.lemmas.List.Elements.{All-nil, All-cons, All-head, All-tail}
use Rattle.hex.specs.Hex.{IsBytes, decode_of, decode_pairs, digit_or_error, encode_lower, encode_with, hex_digit_value, lower_digits, pair_value, value_at, ◌>>=◌}
use Rattle.hex.specs.declared.error.FromHexError.{FromHexError}
use Rattle.hex.proofs.HexLemmas.{length-encode_with, decode_of-encode_lower, decode_of-even, decode_of-ok}
use Rattle.nm_script.specs.declared.script.Why.TheVariants.{Number}
use Rattle.nm_script.specs.Words.{is_small_digit, are_small_digits, is_hex, bytes_or_fault, bytes_at}
use Rattle.nm_script.proofs.WordLaws.{chosen, IsWord, has_none}

-- ---- a test of each number below another

abbrev all_below : (ℕ → Bool) → ℕ → Bool
all_below p zero = true
all_below p (suc n) = p n && all_below p n

all_below_at : (p : ℕ → Bool) (n k : ℕ) → all_below p n ≡ true → k < n → p k ≡ true
all_below_at p zero k all lt = absurd (omega arith)
all_below_at p (suc n) k all lt =
    let both = and_parts (p n) (all_below p n) all in
    elim (cases_lt k n) [
      | inl below ↦ all_below_at p n k both.1 below
      | inr top ↦
          let same : k ≡ n = omega arith in
          subst (λ (m : ℕ). p m ≡ true) (sym same) both.0
    ]

-- ---- digits

-- the digit of each number below 16 is one that is taken
digit_is_small : (d : ℕ) → d < 16 → is_small_digit (slice_index lower_digits d) ≡ true
unfolding is_small_digit
digit_is_small d lt = all_below_at (λ k. is_small_digit (slice_index lower_digits k)) 16 d refl lt

-- whether a digit that is taken stands for a number below 16 whose digit it is
abbrev comes_back : ℕ → Bool
comes_back b = cond (is_small_digit b) (ltb (unwrap_or (hex_digit_value b) 99) 16 && eqb (slice_index lower_digits (unwrap_or (hex_digit_value b) 99)) b) true

small_limit : (b : ℕ) → is_small_digit b ≡ true → b < 103
unfolding is_small_digit
small_limit b small = grind (arith, small)

small_comes_back : (b : ℕ) → is_small_digit b ≡ true → comes_back b ≡ true
unfolding is_small_digit
small_comes_back b small = all_below_at comes_back 103 b refl (small_limit b small)

value_is_digit : (b v : ℕ) → is_small_digit b ≡ true → hex_digit_value b ≡ Some v → (v < 16) × (slice_index lower_digits v ≡ b)
value_is_digit b v small value =
    let value_is : unwrap_or (hex_digit_value b) 99 ≡ v = ap (λ (o : Option ℕ). unwrap_or o 99) value in
    let P : Bool → Type 0 = λ is. cond is (ltb (unwrap_or (hex_digit_value b) 99) 16 && eqb (slice_index lower_digits (unwrap_or (hex_digit_value b) 99)) b) true ≡ true in
    let tests = and_parts (ltb (unwrap_or (hex_digit_value b) 99) 16) (eqb (slice_index lower_digits (unwrap_or (hex_digit_value b) 99)) b) (subst P small (small_comes_back b small)) in
    subst (λ (n : ℕ). (n < 16) × (slice_index lower_digits n ≡ b)) value_is (ltb-true _ _ tests.0, eqb-true _ _ tests.1)

digit_read : (c i : ℕ) (o : Option ℕ) (v : ℕ) → digit_or_error c i o ≡ Ok v → o ≡ Some v
digit_read c i (Some w) v e = let same : w ≡ v = cc in ap (λ n. Some n) same
digit_read c i None v e = absurd cc

-- ---- pairs of digits

bind_ok : {A B : Type 0} (r : Result A FromHexError) (f : A → Result B FromHexError) (y : B) → (r >>= f) ≡ Ok y → (x : A) × (r ≡ Ok x) × (f x ≡ Ok y)
bind_ok (Ok x) f y e = (x, refl, e)
bind_ok (Err d) f y e = absurd cc

abbrev read_byte : ℕ → Result ℕ FromHexError
read_byte n = Ok n

byte_is : (m n : ℕ) → read_byte m ≡ read_byte n → m ≡ n
byte_is m n e = cc

abbrev read_bytes : List ℕ → Result (List ℕ) FromHexError
read_bytes bytes = Ok bytes

bytes_are : (xs ys : List ℕ) → read_bytes xs ≡ read_bytes ys → xs ≡ ys
bytes_are xs ys e = cc

-- the parts of a byte of two digits
halves : (h l b : ℕ) → h < 16 → l < 16 → h * 16 + l ≡ b → (b / 16 ≡ h) × (b % 16 ≡ l)
halves h l b high low is = (omega arith, omega arith)

pair_found : (i high low b : ℕ) → is_small_digit high ≡ true → is_small_digit low ≡ true → pair_value high low i ≡ Ok b → (slice_index lower_digits (b / 16) ≡ high) × (slice_index lower_digits (b % 16) ≡ low)
pair_found i high low b small_high small_low e =
    let x = bind_ok (value_at high i) (λ h. value_at low (i + 1) >>= λ l. read_byte (h * 16 + l)) b e in
    let y = bind_ok (value_at low (i + 1)) (λ l. read_byte (x.0 * 16 + l)) b x.2 in
    let h = value_is_digit high x.0 small_high (digit_read high i (hex_digit_value high) x.0 x.1) in
    let l = value_is_digit low y.0 small_low (digit_read low (i + 1) (hex_digit_value low) y.0 y.1) in
    let parts = halves x.0 y.0 b h.0 l.0 (byte_is _ b y.2) in
    (ap (λ (d : ℕ). slice_index lower_digits d) parts.0 ∙ h.1, ap (λ (d : ℕ). slice_index lower_digits d) parts.1 ∙ l.1)

pairs_found : (i : ℕ) (word bytes : List ℕ) → are_small_digits word ≡ true → decode_pairs i word ≡ Ok bytes → word ≡ encode_lower bytes
unfolding decode_pairs encode_with
pairs_found i [] bytes small e = ap encode_lower (bytes_are [] bytes e)
pairs_found i (a ∷ []) bytes small e = absurd cc
pairs_found i (a ∷ b ∷ rest) bytes small e =
    let x = bind_ok (pair_value a b i) (λ byte. decode_pairs (i + 2) rest >>= λ more. read_bytes (byte ∷ more)) bytes e in
    let y = bind_ok (decode_pairs (i + 2) rest) (λ more. read_bytes (x.0 ∷ more)) bytes x.2 in
    let p = and_parts (is_small_digit a) (are_small_digits (b ∷ rest)) small in
    let q = and_parts (is_small_digit b) (are_small_digits rest) p.1 in
    let digits = pair_found i a b x.0 p.0 q.0 x.1 in
    let more = pairs_found (i + 2) rest y.0 q.1 y.1 in
    ap (λ (d : ℕ). d ∷ b ∷ rest) (sym digits.0)
    ∙ ap (λ (d : ℕ). slice_index lower_digits (x.0 / 16) ∷ d ∷ rest) (sym digits.1)
    ∙ ap (λ (ds : List ℕ). slice_index lower_digits (x.0 / 16) ∷ slice_index lower_digits (x.0 % 16) ∷ ds) more
    ∙ ap encode_lower (bytes_are (x.0 ∷ y.0) bytes y.2)

encoded_is_small : (bytes : List ℕ) → All (λ b. b < 256) bytes → are_small_digits (encode_lower bytes) ≡ true
unfolding encode_with
encoded_is_small [] are = refl
encoded_is_small (b ∷ bytes) are =
    let byte : b < 256 = All-head (λ n. n < 256) b bytes are in
    let high = digit_is_small (b / 16) (omega (arith, byte)) in
    let low = digit_is_small (b % 16) (omega arith) in
    rw (high, low, encoded_is_small bytes (All-tail (λ n. n < 256) b bytes are)) refl

-- ---- bytes

each_is_byte : (bytes : List ℕ) → IsBytes bytes → All (λ b. b < 256) bytes
each_is_byte [] are = All-nil (λ n. n < 256)
each_is_byte (b ∷ bytes) are = All-cons (λ n. n < 256) b bytes (are 0) (each_is_byte bytes (λ i. are (suc i)))

are_bytes : (bytes : List ℕ) → All (λ b. b < 256) bytes → IsBytes bytes
are_bytes [] are i = omega arith
are_bytes (b ∷ bytes) are zero = All-head (λ n. n < 256) b bytes are
are_bytes (b ∷ bytes) are (suc i) = are_bytes bytes (All-tail (λ n. n < 256) b bytes are) i

-- ---- HEX

bytes_or_fault_ok : (r : Result (List ℕ) FromHexError) (bytes : List ℕ) → bytes_or_fault r ≡ Ok bytes → r ≡ Ok bytes
bytes_or_fault_ok (Ok xs) bytes e = let same : xs ≡ bytes = cc in ap (λ ys. Ok ys) same
bytes_or_fault_ok (Err fault) bytes e = absurd cc

-- bytes that are read are spelled so
pub hex_found : (word bytes : List ℕ) → bytes_at word ≡ Ok bytes → (word ≡ encode_lower bytes) × (1 ≤ length bytes) × (length bytes ≤ 1024) × All (λ b. b < 256) bytes
unfolding bytes_at is_hex
hex_found word bytes e =
    elim (chosen (is_hex word) (bytes_or_fault (decode_of word)) (Err Number) (Ok bytes) e) [
      | inl h ↦
          let p = and_parts (leb 2 (length word) && leb (length word) 2048) (are_small_digits word) h.0 in
          let q = and_parts (leb 2 (length word)) (leb (length word) 2048) p.0 in
          let decoded = bytes_or_fault_ok (decode_of word) bytes h.1 in
          let ok = decode_of-ok word bytes decoded in
          let some : 2 ≤ length word = leb-true _ _ q.0 in
          let limit : length word ≤ 2048 = leb-true _ _ q.1 in (
            pairs_found 0 word bytes p.1 (sym (decode_of-even word ok.0) ∙ decoded),
            omega (arith, ok.2, some),
            omega (arith, ok.2, limit),
            each_is_byte bytes ok.3,
          )
      | inr h ↦ absurd cc
    ]

-- and what is spelled so is read
pub hex_again : (bytes : List ℕ) → 1 ≤ length bytes → length bytes ≤ 1024 → All (λ b. b < 256) bytes → bytes_at (encode_lower bytes) ≡ Ok bytes
unfolding bytes_at is_hex
hex_again bytes some limit are =
    let long : length (encode_lower bytes) ≡ 2 * length bytes = length-encode_with lower_digits bytes in
    rw (
      le-leb 2 (length (encode_lower bytes)) (omega (arith, long)),
      le-leb (length (encode_lower bytes)) 2048 (omega (arith, long)),
      encoded_is_small bytes are,
      decode_of-encode_lower bytes (are_bytes bytes are),
    ) refl

space_is_none : is_small_digit 32 ≡ false
unfolding is_small_digit
space_is_none = refl

pub hex_is_word : (bytes : List ℕ) → 1 ≤ length bytes → All (λ b. b < 256) bytes → IsWord (encode_lower bytes)
hex_is_word bytes some are = record {
  some = omega (arith, length-encode_with lower_digits bytes, some);
  whole = has_none is_small_digit space_is_none (encode_lower bytes) (encoded_is_small bytes are);
}
