-- A spelling that is cut short is too short an item.
use Rattle.std.proofs.Common.{◌≡◌, ◌≢◌, ℕ, ◌+◌, ◌^◌, ◌≤◌, ◌<◌, true, cond, ltb, List, [], ◌∷◌, ◌++◌, length, take, drop, replicate, Ok, refl, sym, ap, ◌∙◌, arith, inl, inr}
use Rattle.std.proofs.lemmas.Bool.{cases_lt, lt-ltb}
use Rattle.std.proofs.lemmas.List.{take-append-drop, take_at, drop_at, take-append-le, drop-append-le, length-append, length-replicate}
use Rattle.byteorder.specs.Endian.{big_bytes}
use Rattle.byteorder.specs.Numbers.{length-bytes_high_first}
use Rattle.nm_xdr.specs.Fields.{short, fault_at, field, whole, or_missing, IsShortWhereCut}
use Rattle.nm_xdr.specs.Items.{word, hyper, flag, padding_of, fixed, opaque, word_at, hyper_at, flag_at, fixed_at, length_at, opaque_at, bytes_at, only_at, choice_at}
use Rattle.nm_xdr.proofs.ItemLaws.{length_item}

-- what is cut off has a length
cut_len : (more : List ℕ) → more ≢ [] → 0 < length more
cut_len [] h = absurd (h refl)
cut_len (x ∷ more) h = omega arith

-- what is left of n bytes of which some are cut off is shorter
front_len : (n : ℕ) (all front more : List ℕ) → length all ≡ n → more ≢ [] → all ≡ front ++ more → ltb (length front) n ≡ true
front_len n all front more len cut e = lt-ltb _ _ (omega (arith, len, ap length e, length-append front more, cut_len more cut))

word_len : (n : ℕ) → length (word n) ≡ 4
unfolding word
word_len n = length-bytes_high_first 4 n

word_short : (bytes : List ℕ) → ltb (length bytes) 4 ≡ true → word_at bytes ≡ fault_at short bytes
unfolding word_at
word_short bytes h = rw h refl

length_short : (max : ℕ) (bytes : List ℕ) → ltb (length bytes) 4 ≡ true → length_at max bytes ≡ fault_at short bytes
unfolding length_at
length_short max bytes h = rw (word_short bytes h) refl

pub word_cut : IsShortWhereCut word_at word (λ n. n < 2 ^ 32)
word_cut n front more fits cut e = word_short front (front_len 4 (word n) front more (word_len n) cut e)

pub hyper_cut : IsShortWhereCut hyper_at hyper (λ n. n < 2 ^ 64)
unfolding hyper_at hyper
hyper_cut n front more fits cut e = rw (front_len 8 (big_bytes 8 n) front more (length-bytes_high_first 8 n) cut e) refl

pub flag_cut : IsShortWhereCut flag_at flag (λ _. Unit {0})
unfolding flag_at flag
flag_cut b front more fits cut e = rw (word_short front (front_len 4 (word (cond b 1 0)) front more (word_len (cond b 1 0)) cut e)) refl

fixed_len : (bytes : List ℕ) → length (fixed bytes) ≡ length bytes + padding_of (length bytes)
unfolding fixed
fixed_len bytes = length-append bytes (replicate (padding_of (length bytes)) 0) ∙ ap (λ (k : ℕ). length bytes + k) (length-replicate {A = ℕ} (padding_of (length bytes)) 0)

pub fixed_cut : (n : ℕ) → IsShortWhereCut (fixed_at n) fixed (λ bytes. length bytes ≡ n)
unfolding fixed_at
fixed_cut n bytes front more fits cut e =
    let len : length (fixed bytes) ≡ n + padding_of n = fixed_len bytes ∙ ap (λ (k : ℕ). k + padding_of k) fits in
    rw (front_len (n + padding_of n) (fixed bytes) front more len cut e) refl

pub opaque_cut : (max : ℕ) → max < 2 ^ 32 → IsShortWhereCut (opaque_at max) opaque (λ bytes. length bytes ≤ max)
unfolding opaque_at opaque
opaque_cut max small bytes front more fits cut e = elim (cases_lt (length front) 4) [ inl lt ↦ in_length lt | inr le ↦ in_bytes le ]
  where
    in_length : length front < 4 → whole (field (length_at max) fixed_at) front ≡ fault_at short front
    in_length lt = rw (length_short max front (lt-ltb _ _ lt)) refl

    in_bytes : 4 ≤ length front → whole (field (length_at max) fixed_at) front ≡ fault_at short front
    in_bytes le =
        let len : ℕ = length bytes in
        let w : List ℕ = word len in
        let f4 : take 4 front ≡ w = sym (take-append-le 4 front more le) ∙ ap (take 4) (sym e) ∙ take_at w (fixed bytes) 4 (word_len len) in
        let b4 : drop 4 front ++ more ≡ fixed bytes = sym (drop-append-le 4 front more le) ∙ ap (drop 4) (sym e) ∙ drop_at w (fixed bytes) 4 (word_len len) in
        let parts : front ≡ w ++ drop 4 front = sym (take-append-drop 4 front) ∙ ap (λ (x : List ℕ). x ++ drop 4 front) f4 in
        let first : length_at max front ≡ Ok (len, drop 4 front) = ap (length_at max) parts ∙ (length_item max small).again len (drop 4 front) fits in
        let second : fixed_at len (drop 4 front) ≡ fault_at short (drop 4 front) = fixed_cut len bytes (drop 4 front) more refl cut (sym b4) in
        rw (first, second) refl

-- The same of items that are told at their first byte, and of wanted numbers.
pub bytes_cut : (max : ℕ) → max < 2 ^ 32 → IsShortWhereCut (bytes_at max) opaque (λ bytes. length bytes ≤ max)
unfolding bytes_at
bytes_cut max small bytes front more fits some e = ap (or_missing front) (opaque_cut max small bytes front more fits some e)

pub only_cut : (k : ℕ) → k < 2 ^ 32 → IsShortWhereCut (only_at k) word (λ n. n ≡ k)
unfolding only_at
only_cut k small n front more is some e = rw (word_cut n front more (omega (arith, is, small)) some e) refl

pub choice_cut : IsShortWhereCut choice_at word (λ n. n ≤ 1)
unfolding choice_at
choice_cut n front more few some e = rw (word_cut n front more (omega (arith, few)) some e) refl
