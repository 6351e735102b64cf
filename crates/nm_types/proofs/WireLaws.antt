-- What is read is what was written, and the other way round.
use Rattle.std.proofs.Common.{◌≡◌, ℕ, ◌+◌, ◌-◌, ◌^◌, ◌<◌, ◌≤◌, Bool, true, false, cond, eqb, ◌&&◌, List, ◌++◌, length, take, drop, Some, None, refl, sym, ap, subst, ◌∙◌, arith, inl, inr}
use Rattle.std.specs.Int.{w32, w64, from_be_bytes}
use Rattle.std.proofs.lemmas.Bool.{cases_lt}
use Rattle.std.proofs.lemmas.Bool.Decides.{nat_tests}
use Rattle.std.proofs.lemmas.List.{take-append-drop, length-take, length-drop, get_or-take, get_or_past, get_or-drop, take_all, drop-drop}
use Rattle.std.proofs.lemmas.Nat.{be_bytes_4, be_bytes_8, from_be_bytes-to_be_bytes_4, from_be_bytes-to_be_bytes_8}
use Rattle.nm_types.specs.declared.calls.StateId.{StateId}
use Rattle.nm_types.specs.declared.calls.StateRef.TheVariants.{Zeros, Ones, Named}
use Rattle.nm_types.specs.declared.wire.Handle.{Handle}
use Rattle.nm_types.specs.Wire.{word, hyper, word_in, hyper_in, AreBytes, other_bytes, is_zeros, is_ones, stateid_bytes, stateid_of, stateid_in, IsMade, is_handle, handle_bytes, handle_from, handle_of, IsHandle}

-- ---- Numbers

word_back : (n : ℕ) (rest : List ℕ) → n < 2 ^ 32 → word_in (word n ++ rest) ≡ n
unfolding word_in word
word_back n rest h = from_be_bytes-to_be_bytes_4 n h

hyper_back : (n : ℕ) (rest : List ℕ) → n < 2 ^ 64 → hyper_in (hyper n ++ rest) ≡ n
unfolding hyper_in hyper
hyper_back n rest h = from_be_bytes-to_be_bytes_8 n h

behind_word : (n : ℕ) (rest : List ℕ) → drop 4 (word n ++ rest) ≡ rest
unfolding word
behind_word n rest = refl

behind_hyper : (n : ℕ) (rest : List ℕ) → drop 8 (hyper n ++ rest) ≡ rest
unfolding hyper
behind_hyper n rest = refl

-- a number alone
hyper_alone : (n : ℕ) → n < 2 ^ 64 → hyper_in (hyper n) ≡ n
unfolding hyper_in hyper
hyper_alone n h = from_be_bytes-to_be_bytes_8 n h

AreBytes-take : (n : ℕ) (bytes : List ℕ) → AreBytes bytes → AreBytes (take n bytes)
AreBytes-take n bytes h i =
    elim (cases_lt i n) [
      | inl lt ↦ rw (get_or-take n bytes i 0 lt) (h i)
      | inr le ↦ rw (get_or_past (take n bytes) i 0 (omega (arith, length-take n bytes))) (omega arith)
    ]

AreBytes-drop : (n : ℕ) (bytes : List ℕ) → AreBytes bytes → AreBytes (drop n bytes)
AreBytes-drop n bytes h i = rw (get_or-drop n bytes i 0) (h (n + i))

word_taken : (bytes : List ℕ) → 4 ≤ length bytes → AreBytes bytes → word (word_in bytes) ≡ take 4 bytes
unfolding word word_in
word_taken bytes long h =
    be_bytes_4 (take 4 bytes) (from_be_bytes w32 bytes) (omega (arith, length-take 4 bytes)) (AreBytes-take 4 bytes h)
    (omega (arith, get_or-take 4 bytes 0 0 (omega arith), get_or-take 4 bytes 1 0 (omega arith), get_or-take 4 bytes 2 0 (omega arith), get_or-take 4 bytes 3 0 (omega arith)))

hyper_taken : (bytes : List ℕ) → 8 ≤ length bytes → AreBytes bytes → hyper (hyper_in bytes) ≡ take 8 bytes
unfolding hyper hyper_in
hyper_taken bytes long h =
    be_bytes_8 (take 8 bytes) (from_be_bytes w64 bytes) (omega (arith, length-take 8 bytes)) (AreBytes-take 8 bytes h)
    (omega (arith, get_or-take 8 bytes 0 0 (omega arith), get_or-take 8 bytes 1 0 (omega arith), get_or-take 8 bytes 2 0 (omega arith), get_or-take 8 bytes 3 0 (omega arith), get_or-take 8 bytes 4 0 (omega arith), get_or-take 8 bytes 5 0 (omega arith), get_or-take 8 bytes 6 0 (omega arith), get_or-take 8 bytes 7 0 (omega arith)))

word_small : (bytes : List ℕ) → AreBytes bytes → word_in bytes < 2 ^ 32
unfolding word_in
word_small bytes h = omega (arith, h 0, h 1, h 2, h 3)

hyper_small : (bytes : List ℕ) → AreBytes bytes → hyper_in bytes < 2 ^ 64
unfolding hyper_in
hyper_small bytes h = omega (arith, h 0, h 1, h 2, h 3, h 4, h 5, h 6, h 7)

-- ---- Stateids

-- all of the bytes are 0
of_zeros : (s : StateId) → is_zeros s ≡ true → stateid_bytes Zeros ≡ stateid_bytes (Named s)
unfolding is_zeros stateid_bytes word hyper
of_zeros s e =
    let a : s.seqid ≡ 0 = grind (arith, nat_tests) in
    let b : s.fs ≡ 0 = grind (arith, nat_tests) in
    let c : s.counter ≡ 0 = grind (arith, nat_tests) in
    rw (a, b, c) refl

of_ones : (s : StateId) → is_ones s ≡ true → stateid_bytes Ones ≡ stateid_bytes (Named s)
unfolding is_ones stateid_bytes word hyper
of_ones s e =
    let a : s.seqid ≡ 2 ^ 32 - 1 = grind (arith, nat_tests) in
    let b : s.fs ≡ 2 ^ 32 - 1 = grind (arith, nat_tests) in
    let c : s.counter ≡ 2 ^ 64 - 1 = grind (arith, nat_tests) in
    rw (a, b, c) refl

-- whichever stateid it is, its bytes are those of its numbers
from_numbers : (s : StateId) (zeros ones : Bool) → is_zeros s ≡ zeros → is_ones s ≡ ones
    → stateid_bytes (cond zeros Zeros (cond ones Ones (Named s))) ≡ stateid_bytes (Named s)
from_numbers s true ones z o = of_zeros s z
from_numbers s false true z o = of_ones s o
from_numbers s false false z o = refl

other_taken : (other : List ℕ) → length other ≡ 12 → AreBytes other → word (word_in other) ++ hyper (hyper_in (drop 4 other)) ≡ other
other_taken other len h =
    let first = word_taken other (omega (arith, len)) h in
    let second : hyper (hyper_in (drop 4 other)) ≡ drop 4 other =
    hyper_taken (drop 4 other) (omega (arith, len, length-drop 4 other)) (AreBytes-drop 4 other h) ∙ take_all 8 (drop 4 other) (omega (arith, len, length-drop 4 other)) in
    rw (first, second) (take-append-drop 4 other)

pub stateid_written : (seqid : ℕ) (other : List ℕ) → length other ≡ 12 → AreBytes other → stateid_bytes (stateid_of seqid other) ≡ word seqid ++ other
unfolding stateid_of stateid_bytes
stateid_written seqid other len h =
    let s : StateId = record { seqid = seqid; fs = word_in other; counter = hyper_in (drop 4 other) } in
    from_numbers s (is_zeros s) (is_ones s) refl refl ∙ ap (λ (o : List ℕ). word seqid ++ o) (other_taken other len h)

not_zeros : (s : StateId) → 1 ≤ s.counter → is_zeros s ≡ false
unfolding is_zeros
not_zeros s h = grind (arith, nat_tests)

not_ones : (s : StateId) → s.fs < 64 → is_ones s ≡ false
unfolding is_ones
not_ones s h = grind (arith, nat_tests)

pub made_read : (s : StateId) → IsMade s → stateid_in (stateid_bytes (Named s)) ≡ Named s
unfolding stateid_of stateid_bytes
made_read s m =
    let seqid : word_in (word s.seqid ++ other_bytes s) ≡ s.seqid = word_back s.seqid (other_bytes s) m.seqid in
    let other : drop 4 (word s.seqid ++ other_bytes s) ≡ other_bytes s = behind_word s.seqid (other_bytes s) in
    let fs : word_in (other_bytes s) ≡ s.fs = word_back s.fs (hyper s.counter) (omega (arith, m.fs)) in
    let counter : hyper_in (drop 4 (other_bytes s)) ≡ s.counter = ap hyper_in (behind_word s.fs (hyper s.counter)) ∙ hyper_alone s.counter m.counter in
    rw (seqid, other, fs, counter, not_zeros s m.from_one, not_ones s m.fs) refl

pub zeros_read : stateid_in (stateid_bytes Zeros) ≡ Zeros
unfolding stateid_of stateid_bytes word_in hyper_in is_zeros
zeros_read = refl

pub ones_read : stateid_in (stateid_bytes Ones) ≡ Ones
unfolding stateid_of stateid_bytes word_in hyper_in is_zeros is_ones
ones_read = refl

-- ---- Filehandles

abbrev behind_file : Handle → List ℕ
behind_file h = hyper h.file ++ word 0

last_word : (h : Handle) → word_in (drop 12 (word h.fs ++ behind_file h)) ≡ 0
unfolding word hyper word_in
last_word h = refl

all_length : (h : Handle) → length (word h.fs ++ behind_file h) ≡ 16
unfolding word hyper
all_length h = refl

pub handle_read : (h : Handle) → IsHandle h → handle_of (handle_bytes h) ≡ Some h
unfolding handle_of handle_bytes
handle_read h k =
    let fs : word_in (word h.fs ++ behind_file h) ≡ h.fs = word_back h.fs (behind_file h) k.fs in
    let file : hyper_in (drop 4 (word h.fs ++ behind_file h)) ≡ h.file = ap hyper_in (behind_word h.fs (behind_file h)) ∙ hyper_back h.file (word 0) k.file in
    let last : word_in (drop 12 (word h.fs ++ behind_file h)) ≡ 0 = last_word h in
    let len : length (word h.fs ++ behind_file h) ≡ 16 = all_length h in
    rw (fs, file, last, len, k.kept) refl

-- a handle that was kept
kept_found : (x h : Handle) (kept : Bool) → handle_from x kept ≡ Some h → (x ≡ h) × (kept ≡ true) × (is_handle x ≡ true)
kept_found x h kept e = kept_cases kept (is_handle x) e
  where
    kept_cases : (a b : Bool) → cond (a && b) (Some x) None ≡ Some h → (x ≡ h) × (a ≡ true) × (b ≡ true)
    kept_cases true true e = (cc, refl, refl)
    kept_cases true false e = absurd cc
    kept_cases false b e = absurd cc

pub handle_written : (bytes : List ℕ) (h : Handle) → AreBytes bytes → handle_of bytes ≡ Some h → (handle_bytes h ≡ bytes) × IsHandle h
unfolding handle_of handle_bytes
handle_written bytes h are e =
    let x : Handle = record { fs = word_in bytes; file = hyper_in (drop 4 bytes) } in
    let kept : Bool = eqb (length bytes) 16 && eqb (word_in (drop 12 bytes)) 0 in
    let p = kept_found x h kept e in
    let len : length bytes ≡ 16 = both_16 (length bytes) (word_in (drop 12 bytes)) p.1 in
    let last : word_in (drop 12 bytes) ≡ 0 = both_0 (length bytes) (word_in (drop 12 bytes)) p.1 in
    let fs : word (word_in bytes) ≡ take 4 bytes = word_taken bytes (omega (arith, len)) are in
    let file : hyper (hyper_in (drop 4 bytes)) ≡ take 8 (drop 4 bytes) = hyper_taken (drop 4 bytes) (omega (arith, len, length-drop 4 bytes)) (AreBytes-drop 4 bytes are) in
    let zero_word : word 0 ≡ drop 8 (drop 4 bytes) =
    ap word (sym last) ∙ word_taken (drop 12 bytes) (omega (arith, len, length-drop 12 bytes)) (AreBytes-drop 12 bytes are)
    ∙ take_all 4 (drop 12 bytes) (omega (arith, len, length-drop 12 bytes)) ∙ sym (drop-drop 8 4 bytes) in
    let whole_is : word (word_in bytes) ++ (hyper (hyper_in (drop 4 bytes)) ++ word 0) ≡ bytes =
    rw (fs, file, zero_word, take-append-drop 8 (drop 4 bytes)) (take-append-drop 4 bytes) in
    let fits : IsHandle x = record { fs = word_small bytes are; file = hyper_small (drop 4 bytes) (AreBytes-drop 4 bytes are); kept = p.2 } in
    (subst (λ (y : Handle). word y.fs ++ (hyper y.file ++ word 0) ≡ bytes) p.0 whole_is, subst IsHandle p.0 fits)
  where
    both_16 : (n m : ℕ) → (eqb n 16 && eqb m 0) ≡ true → n ≡ 16
    both_16 n m e = grind (arith, nat_tests)

    both_0 : (n m : ℕ) → (eqb n 16 && eqb m 0) ≡ true → m ≡ 0
    both_0 n m e = grind (arith, nat_tests)
