-- Words and lines, numbers and names: what is read is what was spelled.
use Rattle.std.proofs.Common.{◌≡◌, ℕ, zero, suc, ◌+◌, ◌-◌, ◌*◌, ◌^◌, ◌<◌, ◌≤◌, Bool, true, false, cond, not, eqb, ltb, leb, List, [], ◌∷◌, ◌++◌, length, get_or, Option, Some, None, Ok, Err, refl, sym, ap, subst, ◌∙◌, arith, rules, ◌⊎◌, inl, inr}
use Rattle.std.specs.Prelude.{◌||◌, ◌&&◌, codes}
use Rattle.std.specs.Char.{is_ascii_digit}
use Rattle.std.specs.Fmt.{decimal}
use Rattle.std.specs.List.{list_any, list_all, slice_split, join_with_byte, AllByRecursion}
use Rattle.std.specs.Option.{option_and_then}
use Rattle.std.specs.Str.{bytes_eq, all_ascii_digits}
use Rattle.std.proofs.Math.Dec.{eqb-suc-zero}
use Rattle.std.proofs.lemmas.Bool.{ltb-true, lt-ltb, leb-true, le-leb, or_parts, not-true, and_parts}
use Rattle.std.proofs.lemmas.Bool.Decides.{eqb_tells, nat_tests}
use Rattle.std.proofs.lemmas.Slice.Eq.{bytes_eq-Decides}
use Rattle.std.proofs.lemmas.Str.Parse.{IsNumeralModel, numerals_by_fold}
use Rattle.std.proofs.lemmas.Fmt.{digits_decimal, digits_value-decimal, decimal-digits_value, decimal_nonempty, decimal_digit, first_decimal}
use Rattle.nm_types.specs.declared.results.LockKind.{LockKind}
use Rattle.nm_types.specs.declared.results.LockKind.TheVariants as kinds
use Rattle.nm_script.specs.declared.script.Why.TheVariants.{Word, Number}
use Rattle.nm_script.specs.Words.{words_of, is_name_byte, is_name, is_file_name, with_digit, digits_at, number_or_fault, number_at, access_at, deny_at, lock_kind_at}
use Rattle.nm_script.specs.Grammar.{IsName, IsFileName, access_word, deny_word, kind_word}

-- ---- tests

pub chosen : {A : Type 0} (b : Bool) (x y z : A) → cond b x y ≡ z → ((b ≡ true) × (x ≡ z)) ⊎ ((b ≡ false) × (y ≡ z))
chosen true x y z e = inl (refl, e)
chosen false x y z e = inr (refl, e)

pub some_of : {A B : Type 0} (f : A → Option B) (o : Option A) (y : B) → option_and_then f o ≡ Some y → (x : A) × (o ≡ Some x) × (f x ≡ Some y)
some_of f (Some x) y e = (x, refl, e)
some_of f None y e = absurd cc

-- two words that compare as equal are one
pub same_word : (a b : List ℕ) → bytes_eq a b ≡ true → a ≡ b
same_word a b h = (bytes_eq-Decides a b).0 h

pub word_itself : (a : List ℕ) → bytes_eq a a ≡ true
word_itself a = (bytes_eq-Decides a a).1 refl

-- ---- words apart by one space

abbrev pub has_space : List ℕ → Bool
has_space word = list_any (λ b. eqb b 32) word

-- a word of a line
pub record IsWord (word : List ℕ) : Type 0 where
  pub some : 0 < length word
  pub whole : has_space word ≡ false

split_word : (word rest : List ℕ) → has_space word ≡ false → slice_split (λ b. eqb b 32) (word ++ 32 ∷ rest) ≡ word ∷ slice_split (λ b. eqb b 32) rest
split_word [] rest h = refl
split_word (b ∷ word) rest h = let p = or_parts (eqb b 32) (has_space word) h in rw (p.0, split_word word rest p.1) refl

split_last : (word : List ℕ) → has_space word ≡ false → slice_split (λ b. eqb b 32) word ≡ word ∷ []
split_last [] h = refl
split_last (b ∷ word) h = let p = or_parts (eqb b 32) (has_space word) h in rw (p.0, split_last word p.1) refl

-- the words of a line are those that it was made of
pub words_of_line : (word : List ℕ) (words : List (List ℕ)) → IsWord word → AllByRecursion IsWord words → words_of (join_with_byte 32 (word ∷ words)) ≡ word ∷ words
unfolding words_of
words_of_line word [] is are = split_last word is.whole
words_of_line word (next ∷ words) is are = split_word word (join_with_byte 32 (next ∷ words)) is.whole ∙ ap (λ ws. word ∷ ws) (words_of_line next words are.0 are.1)

-- ---- numbers

abbrev read_on : ℕ → List ℕ → ℕ
read_on n [] = n
read_on n (c ∷ cs) = read_on (10 * n + (c - 48)) cs

own : IsNumeralModel (λ ds. all_ascii_digits ds ≡ true) (read_on 0)
own = numerals_by_fold _ (search rules) read_on (search rules)

read_on_ge : (n : ℕ) (ds : List ℕ) → n ≤ read_on n ds
read_on_ge n [] = omega arith
read_on_ge n (c ∷ cs) = omega (arith, read_on_ge (10 * n + (c - 48)) cs)

with_digit_found : (n d k : ℕ) → with_digit n d ≡ Some k → (is_ascii_digit d ≡ true) × (k ≡ 10 * n + (d - 48)) × (k < 2 ^ 64)
unfolding with_digit
with_digit_found n d k e =
    elim (chosen (is_ascii_digit d && ltb (10 * n + (d - 48)) (2 ^ 64)) (Some (10 * n + (d - 48))) None (Some k) e) [
      | inl h ↦
          let p = and_parts (is_ascii_digit d) (ltb (10 * n + (d - 48)) (2 ^ 64)) h.0 in
          let same : 10 * n + (d - 48) ≡ k = cc in
          (p.0, sym same, omega (arith, ltb-true _ _ p.1, same))
      | inr h ↦ absurd cc
    ]

with_digit_again : (n d : ℕ) → is_ascii_digit d ≡ true → 10 * n + (d - 48) < 2 ^ 64 → with_digit n d ≡ Some (10 * n + (d - 48))
unfolding with_digit
with_digit_again n d digit lt = rw (digit, lt-ltb _ _ lt) refl

digits_found : (ds : List ℕ) (n m : ℕ) → n < 2 ^ 64 → digits_at n ds ≡ Some m → (all_ascii_digits ds ≡ true) × (read_on n ds ≡ m) × (m < 2 ^ 64)
digits_found [] n m lt e = let same : n ≡ m = cc in (refl, same, omega (arith, same))
digits_found (d ∷ ds) n m lt e =
    let p = some_of (λ more. digits_at more ds) (with_digit n d) m e in
    let w = with_digit_found n d p.0 p.1 in
    let rest = digits_found ds p.0 m w.2 p.2 in
    (rw (w.0, rest.0) refl, rw (← w.1) rest.1, rest.2)

digits_again : (ds : List ℕ) (n : ℕ) → all_ascii_digits ds ≡ true → read_on n ds < 2 ^ 64 → digits_at n ds ≡ Some (read_on n ds)
digits_again [] n all lt = refl
digits_again (d ∷ ds) n all lt =
    let p = and_parts (is_ascii_digit d) (all_ascii_digits ds) all in
    rw (with_digit_again n d p.0 (omega (arith, read_on_ge (10 * n + (d - 48)) ds))) (digits_again ds (10 * n + (d - 48)) p.1 lt)

number_or_fault_ok : (o : Option ℕ) (n : ℕ) → number_or_fault o ≡ Ok n → o ≡ Some n
number_or_fault_ok (Some m) n e = let same : m ≡ n = cc in ap (λ k. Some k) same
number_or_fault_ok None n e = absurd cc

-- a number that is read is spelled so
pub number_found : (word : List ℕ) (n : ℕ) → number_at word ≡ Ok n → (word ≡ decimal n) × (n < 2 ^ 64)
unfolding number_at
number_found [] n e = absurd cc
number_found (d ∷ ds) n e =
    elim (chosen (eqb d 48 && ltb 0 (length ds)) (Err Number) (number_or_fault (digits_at 0 (d ∷ ds))) (Ok n) e) [
      | inl h ↦ absurd cc
      | inr h ↦
          let f = digits_found (d ∷ ds) 0 n (omega arith) (number_or_fault_ok _ n h.1) in
          let plain : d ≡ 48 → length (d ∷ ds) ≡ 1 = λ is. grind (arith, nat_tests, h.0, is) in
          let fits : read_on 0 (d ∷ ds) < 2 ^ 64 = omega (arith, f.1, f.2) in
          (sym (decimal-digits_value own (d ∷ ds) f.0 (omega arith) plain fits) ∙ ap decimal f.1, f.2)
    ]

plain_zero : (n : ℕ) (ds : List ℕ) → n < 2 ^ 64 → decimal n ≡ 48 ∷ ds → length ds ≡ 0
plain_zero zero ds lt e = let one : 48 ∷ ds ≡ 48 ∷ [] = sym e ∙ decimal_digit 0 (omega arith) in omega (arith, ap length one)
plain_zero (suc n) ds lt e = absurd (omega (arith, first_decimal (suc n) (omega arith) lt, ap (λ w. get_or w 0 0) e))

no_zero_first : (n d : ℕ) (ds : List ℕ) → n < 2 ^ 64 → decimal n ≡ d ∷ ds → (eqb d 48 && ltb 0 (length ds)) ≡ false
no_zero_first n d ds lt e =
    elim (eqb_tells d 48) [
      | inl h ↦ let none : length ds ≡ 0 = plain_zero n ds lt (e ∙ ap (λ b. b ∷ ds) h.1) in rw (h.0, none) refl
      | inr h ↦ rw h.0 refl
    ]

number_of_word : (word : List ℕ) (n : ℕ) → n < 2 ^ 64 → decimal n ≡ word → number_at word ≡ Ok n
unfolding number_at
number_of_word [] n lt e = absurd (omega (arith, decimal_nonempty n lt, ap length e))
number_of_word (d ∷ ds) n lt e =
    let all : all_ascii_digits (d ∷ ds) ≡ true = ap all_ascii_digits (sym e) ∙ digits_decimal own n lt in
    let value : read_on 0 (d ∷ ds) ≡ n = ap (read_on 0) (sym e) ∙ digits_value-decimal own n lt in
    let read : digits_at 0 (d ∷ ds) ≡ Some n = digits_again (d ∷ ds) 0 all (omega (arith, value)) ∙ ap (λ k. Some k) value in
    rw (no_zero_first n d ds lt e, read) refl

-- and what is spelled so is read
pub number_again : (n : ℕ) → n < 2 ^ 64 → number_at (decimal n) ≡ Ok n
number_again n lt = number_of_word (decimal n) n lt refl

-- a byte of a kind that a space isn't of is no space
not_space : (p : ℕ → Bool) → p 32 ≡ false → (b : ℕ) → p b ≡ true → eqb b 32 ≡ false
not_space p none b here =
    elim (eqb_tells b 32) [
      | inl h ↦ let wrong : true ≡ false = sym here ∙ ap p h.1 ∙ none in absurd cc
      | inr h ↦ h.0
    ]

pub has_none : (p : ℕ → Bool) → p 32 ≡ false → (bytes : List ℕ) → list_all p bytes ≡ true → has_space bytes ≡ false
has_none p none [] all = refl
has_none p none (b ∷ bytes) all =
    let h = and_parts (p b) (list_all p bytes) all in
    rw (not_space p none b h.0, has_none p none bytes h.1) refl

digits_as_all : (ds : List ℕ) → list_all is_ascii_digit ds ≡ all_ascii_digits ds
digits_as_all [] = refl
digits_as_all (d ∷ ds) = ap (λ b. is_ascii_digit d && b) (digits_as_all ds)

pub decimal_is_word : (n : ℕ) → n < 2 ^ 64 → IsWord (decimal n)
decimal_is_word n lt = record {
  some = decimal_nonempty n lt;
  whole = has_none is_ascii_digit refl (decimal n) (digits_as_all (decimal n) ∙ digits_decimal own n lt);
}

-- ---- names

pub name_found : (word : List ℕ) → is_name word ≡ true → IsName word
unfolding is_name
name_found word e =
    let p = and_parts (leb 1 (length word) && leb (length word) 16) (list_all is_name_byte word) e in
    let q = and_parts (leb 1 (length word)) (leb (length word) 16) p.0 in
    record { some = leb-true _ _ q.0; short = leb-true _ _ q.1; bytes = p.1 }

pub name_again : (word : List ℕ) → IsName word → is_name word ≡ true
unfolding is_name
name_again word is = rw (le-leb _ _ is.some, le-leb _ _ is.short, is.bytes) refl

name_byte_space : is_name_byte 32 ≡ false
unfolding is_name_byte
name_byte_space = refl

pub name_is_word : (word : List ℕ) → IsName word → IsWord word
name_is_word word is = record { some = omega (arith, is.some); whole = has_none is_name_byte name_byte_space word is.bytes }

pub file_name_found : (word : List ℕ) → is_file_name word ≡ true → IsFileName word
unfolding is_file_name
file_name_found word e =
    let are = list_all (λ b. is_name_byte b || eqb b 46) word in
    let dot = bytes_eq word (codes ".") in
    let dots = bytes_eq word (codes "..") in
    let some = leb 1 (length word) in
    let short = leb (length word) 64 in
    let p = and_parts (some && short && not dot && not dots) are e in
    let q = and_parts (some && short && not dot) (not dots) p.0 in
    let r = and_parts (some && short) (not dot) q.0 in
    let t = and_parts some short r.0 in
    record { some = leb-true _ _ t.0; short = leb-true _ _ t.1; bytes = p.1; not_dot = not-true dot r.1; not_dots = not-true dots q.1 }

pub file_name_again : (word : List ℕ) → IsFileName word → is_file_name word ≡ true
unfolding is_file_name
file_name_again word is = rw (le-leb _ _ is.some, le-leb _ _ is.short, is.not_dot, is.not_dots, is.bytes) refl

file_byte_space : (is_name_byte 32 || eqb 32 46) ≡ false
unfolding is_name_byte
file_byte_space = refl

pub file_name_is_word : (word : List ℕ) → IsFileName word → IsWord word
file_name_is_word word is = record { some = omega (arith, is.some); whole = has_none (λ b. is_name_byte b || eqb b 46) file_byte_space word is.bytes }

-- ---- keywords

pub access_found : (word : List ℕ) (access : ℕ) → access_at word ≡ Ok access → (word ≡ access_word access) × (1 ≤ access) × (access ≤ 3)
unfolding access_at
access_found word access e =
    let P : ℕ → Type 0 = λ a. (word ≡ access_word a) × (1 ≤ a) × (a ≤ 3) in
    elim (chosen (bytes_eq word (codes "r")) (Ok 1) _ (Ok access) e) [
      | inl r ↦ let is : 1 ≡ access = cc in subst P is (same_word word (codes "r") r.0, omega arith, omega arith)
      | inr f ↦ elim (chosen (bytes_eq word (codes "w")) (Ok 2) _ (Ok access) f.1) [
        | inl w ↦ let is : 2 ≡ access = cc in subst P is (same_word word (codes "w") w.0, omega arith, omega arith)
        | inr g ↦ elim (chosen (bytes_eq word (codes "rw")) (Ok 3) (Err Word) (Ok access) g.1) [
          | inl b ↦ let is : 3 ≡ access = cc in subst P is (same_word word (codes "rw") b.0, omega arith, omega arith)
          | inr h ↦ absurd cc
        ]
      ]
    ]

pub access_again : (access : ℕ) → 1 ≤ access → access ≤ 3 → access_at (access_word access) ≡ Ok access
unfolding access_at
access_again zero some limit = absurd (omega arith)
access_again (suc zero) some limit = refl
access_again (suc (suc zero)) some limit = refl
access_again (suc (suc (suc zero))) some limit = refl
access_again (suc (suc (suc (suc n)))) some limit = absurd (omega arith)

pub access_is_word : (access : ℕ) → 1 ≤ access → access ≤ 3 → IsWord (access_word access)
access_is_word zero some limit = absurd (omega arith)
access_is_word (suc zero) some limit = record { some = omega arith; whole = refl }
access_is_word (suc (suc zero)) some limit = record { some = omega arith; whole = refl }
access_is_word (suc (suc (suc zero))) some limit = record { some = omega arith; whole = refl }
access_is_word (suc (suc (suc (suc n)))) some limit = absurd (omega arith)

deny_word_more : (d : ℕ) → deny_word (suc d) ≡ access_word (suc d)
deny_word_more d = rw (eqb-suc-zero d) refl

pub deny_found : (word : List ℕ) (deny : ℕ) → deny_at word ≡ Ok deny → (word ≡ deny_word deny) × (deny ≤ 3)
unfolding deny_at
deny_found word deny e =
    let P : ℕ → Type 0 = λ a. (word ≡ deny_word a) × (a ≤ 3) in
    elim (chosen (bytes_eq word (codes "none")) (Ok 0) (access_at word) (Ok deny) e) [
      | inl n ↦ let is : 0 ≡ deny = cc in subst P is (same_word word (codes "none") n.0, omega arith)
      | inr f ↦ deny_of_access word deny (access_found word deny f.1)
    ]
  where
    deny_of_access : (w : List ℕ) (d : ℕ) → (w ≡ access_word d) × (1 ≤ d) × (d ≤ 3) → (w ≡ deny_word d) × (d ≤ 3)
    deny_of_access w zero h = absurd (omega (arith, h.1))
    deny_of_access w (suc d) h = (h.0 ∙ sym (deny_word_more d), h.2)

pub deny_again : (deny : ℕ) → deny ≤ 3 → deny_at (deny_word deny) ≡ Ok deny
unfolding deny_at access_at
deny_again zero limit = refl
deny_again (suc zero) limit = refl
deny_again (suc (suc zero)) limit = refl
deny_again (suc (suc (suc zero))) limit = refl
deny_again (suc (suc (suc (suc n)))) limit = absurd (omega arith)

pub deny_is_word : (deny : ℕ) → deny ≤ 3 → IsWord (deny_word deny)
deny_is_word zero limit = record { some = omega arith; whole = refl }
deny_is_word (suc d) limit = subst IsWord (sym (deny_word_more d)) (access_is_word (suc d) (omega arith) limit)

pub kind_found : (word : List ℕ) (kind : LockKind) → lock_kind_at word ≡ Ok kind → word ≡ kind_word kind
unfolding lock_kind_at
kind_found word kind e =
    let P : LockKind → Type 0 = λ k. word ≡ kind_word k in
    elim (chosen (bytes_eq word (codes "r")) (Ok kinds.Read) _ (Ok kind) e) [
      | inl r ↦ let is : kinds.Read ≡ kind = cc in subst P is (same_word word (codes "r") r.0)
      | inr f ↦ elim (chosen (bytes_eq word (codes "w")) (Ok kinds.Write) (Err Word) (Ok kind) f.1) [
        | inl w ↦ let is : kinds.Write ≡ kind = cc in subst P is (same_word word (codes "w") w.0)
        | inr g ↦ absurd cc
      ]
    ]

pub kind_again : (kind : LockKind) → lock_kind_at (kind_word kind) ≡ Ok kind
unfolding lock_kind_at
kind_again kinds.Read = refl
kind_again kinds.Write = refl

pub kind_is_word : (kind : LockKind) → IsWord (kind_word kind)
kind_is_word kinds.Read = record { some = omega arith; whole = refl }
kind_is_word kinds.Write = record { some = omega arith; whole = refl }
