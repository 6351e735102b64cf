-- Items that are told at their first byte, wanted numbers, lists of words, and byte strings with an inside.
use Rattle.std.proofs.Common.{◌≡◌, ℕ, ◌+◌, ◌^◌, ◌≤◌, ◌<◌, cond, eqb, ltb, leb, List, [], ◌++◌, length, take, drop, replicate, position, not, All, Result, Ok, Err, refl, sym, ap, subst, ◌∙◌, arith, inl, inr}
use Rattle.std.proofs.lemmas.Bool.{cases_lt, eqb-true, eq-eqb, leb-true, le-leb, ltb-false}
use Rattle.std.proofs.lemmas.List.{get_or_past, get_or_append_left, length-take, length-drop}
use Rattle.std.proofs.lemmas.List.Elements.{All-from_recursion, recursion_from_All}
use Rattle.nm_xdr.specs.declared.fault.XdrFault.{XdrFault}
use Rattle.nm_xdr.specs.declared.fault.XdrFault.TheVariants as told
use Rattle.nm_xdr.specs.Fields.{short, padding, bool, too_long, enum, Fault, Reading, ◌>>=◌, field, ended, all_of, or_missing, item, passed, IsBytes, IsItem}
use Rattle.nm_xdr.specs.Items.{word, padding_of, fixed, opaque, counted, word_at, padded_at, fixed_at, length_at, opaque_at, bytes_at, only_at, choice_at, words_at, moved, inside_as, inside, inside_at}
use Rattle.nm_xdr.specs.Places.{Spot, end_of, fault_of, place_of, Tells, Ends}
use Rattle.nm_xdr.proofs.FieldLaws.{IsBytes-behind, bind_ok, guard_ok, whole_ok, tested_item, fits_as, each_fits, each_fits_after, all_found, all_again}
use Rattle.nm_xdr.proofs.ItemLaws.{word_item, opaque_item, counted_item, short_or, padded_found, long_enough}
use Rattle.nm_xdr.proofs.PassLaws.{left_over, nothing_left}

-- ---- Items that are told at their first byte

-- what was read, where something was
pub or_missing_ok : {X : Type 0} (bytes : List ℕ) (r : Result (X × List ℕ) Fault) (y : X × List ℕ) → or_missing bytes r ≡ Ok y → r ≡ Ok y
or_missing_ok bytes (Ok x) y e = e
or_missing_ok bytes (Err f) y e = absurd cc

pub item_item : {X : Type 0} {read : Reading X} {spell : X → List ℕ} {Fits : X → Type 0} → IsItem read spell Fits → IsItem (item read) spell Fits
item_item {X} {read} {spell} {Fits} i = record {
  found = λ bytes x rest fits e. i.found bytes x rest fits (or_missing_ok bytes (read bytes) (x, rest) e);
  again = λ x rest fits. rw (i.again x rest fits) refl;
}

-- what was passed over was read
pub passed_found : {X : Type 0} (r : Result (X × List ℕ) Fault) (u : Unit {0}) (rest : List ℕ) → passed r ≡ Ok (u, rest) → (x : X) × (r ≡ Ok (x, rest))
passed_found {X} (Ok x) u rest e =
    let both : (tt {0}, x.1) ≡ (u, rest) = cc in
    (x.0, ap (λ (b : List ℕ). Ok (x.0, b)) (ap (λ (p : Unit {0} × List ℕ). p.1) both))
passed_found (Err f) u rest e = absurd cc

pub bytes_item : (max : ℕ) → max < 2 ^ 32 → IsItem (bytes_at max) opaque (λ bytes. length bytes ≤ max)
unfolding bytes_at
bytes_item max small = item_item (opaque_item max small)

-- ---- Wanted numbers, and lists of words

pub only_item : (k : ℕ) → k < 2 ^ 32 → IsItem (only_at k) word (λ n. n ≡ k)
unfolding only_at
only_item k small =
    fits_as (λ n. n ≡ k) (λ n e. (subst (λ m. m < 2 ^ 32) (sym e) small, eq-eqb n k e)) (λ n f. eqb-true n k f.1)
    (tested_item (λ n. eqb n k) enum word_item)

pub choice_item : IsItem choice_at word (λ n. n ≤ 1)
unfolding choice_at
choice_item =
    fits_as (λ n. n ≤ 1) (λ n le. (omega arith, le-leb n 1 le)) (λ n f. leb-true n 1 f.1)
    (tested_item (λ n. leb n 1) enum word_item)

pub words_item : (max : ℕ) → max < 2 ^ 32 → IsItem (words_at max) (counted word) (λ words. (length words ≤ max) × All (λ n. n < 2 ^ 32) words)
unfolding words_at
words_item max small =
    fits_as (λ words. (length words ≤ max) × All (λ n. n < 2 ^ 32) words)
    (λ words f. (f.0, each_fits_after (λ n. n < 2 ^ 32) [] words (recursion_from_All (λ n. n < 2 ^ 32) words f.1)))
    (λ words f. (f.0, All-from_recursion (λ n. n < 2 ^ 32) words (each_fits (λ n. n < 2 ^ 32) [] words f.1)))
    (counted_item max small (λ _. word_item))

-- ---- The bytes of a byte string

pub IsBytes-front : (front rest : List ℕ) → IsBytes (front ++ rest) → IsBytes front
IsBytes-front front rest h i =
    elim (cases_lt i (length front)) [
      | inl lt ↦ subst (λ (b : ℕ). b < 256) (get_or_append_left front rest 0 i lt) (h i)
      | inr le ↦ rw (get_or_past front i 0 le) (omega arith)
    ]

pub IsBytes-opaque : (bytes : List ℕ) → IsBytes (opaque bytes) → IsBytes bytes
unfolding opaque fixed
IsBytes-opaque bytes h =
    IsBytes-front bytes (replicate (padding_of (length bytes)) 0) (IsBytes-behind (word (length bytes)) (bytes ++ replicate (padding_of (length bytes)) 0) h)

word_length : (n : ℕ) (bytes rest : List ℕ) → word_at bytes ≡ Ok (n, rest) → length bytes ≡ 4 + length rest
unfolding word_at
word_length n bytes rest e =
    let g = short_or (ltb (length bytes) 4) (record { flaw = short; left = length bytes }) _ (n, rest) e in
    let behind : drop 4 bytes ≡ rest = ap (λ (p : ℕ × List ℕ). p.1) g.1 in
    omega (arith, ltb-false _ _ g.0, length-drop 4 bytes, ap length behind)

counted_length : (max n : ℕ) (bytes rest : List ℕ) → length_at max bytes ≡ Ok (n, rest) → length bytes ≡ 4 + length rest
unfolding length_at
counted_length max n bytes rest e =
    let b = bind_ok (word_at bytes) (λ (v : ℕ × List ℕ). cond (leb v.0 max) (Ok v) (Err (record { flaw = too_long v.0 max; left = length bytes }))) (n, rest) e in
    let g = guard_ok (leb b.0.0 max) (record { flaw = too_long b.0.0 max; left = length bytes }) b.0 (n, rest) b.2 in
    word_length n bytes rest (b.1 ∙ ap (λ (v : ℕ × List ℕ). Ok v) g.1)

fixed_length : (n : ℕ) (bytes x rest : List ℕ) → fixed_at n bytes ≡ Ok (x, rest) → (length x ≡ n) × (length bytes ≡ n + padding_of n + length rest)
unfolding fixed_at
fixed_length n bytes x rest e =
    let o = position (λ b. not (eqb b 0)) (take (padding_of n) (drop n bytes)) in
    let g = long_enough (ltb (length bytes) (n + padding_of n)) (record { flaw = short; left = length bytes }) (padded_at n bytes o) (x, rest) e in
    let long : n + padding_of n ≤ length bytes = ltb-false _ _ g.0 in
    let p = padded_found n bytes o x rest g.1 in
    let len : length x ≡ n = omega (arith, ap length (sym p.1), length-take n bytes, long) in
    (len, omega (arith, ap length (sym p.2), length-drop (n + padding_of n) bytes, long))

-- What a byte string takes up.
pub bytes_behind : (max : ℕ) (bytes x rest : List ℕ) → bytes_at max bytes ≡ Ok (x, rest) → length bytes ≡ 4 + length x + padding_of (length x) + length rest
unfolding bytes_at opaque_at
bytes_behind max bytes x rest e =
    let w = whole_ok (length bytes) (field (length_at max) fixed_at bytes) (x, rest) (or_missing_ok bytes _ (x, rest) e) in
    let b = bind_ok (length_at max bytes) (λ (n : ℕ × List ℕ). fixed_at n.0 n.1) (x, rest) w in
    let first = counted_length max b.0.0 bytes b.0.1 b.1 in
    let second = fixed_length b.0.0 b.0.1 x rest b.2 in
    omega (arith, first, second.0, second.1, ap padding_of second.0)

-- ---- A byte string whose inside is read

inside_found : {X : Type 0} (behind : ℕ) (rest : List ℕ) (r : Result X Fault) (x : X) (more : List ℕ) → inside_as behind rest r ≡ Ok (x, more) → (r ≡ Ok x) × (rest ≡ more)
inside_found {X} behind rest (Ok y) x more e =
    let both : (y, rest) ≡ (x, more) = cc in
    (ap (λ (p : X × List ℕ). Ok p.0) both, ap (λ (p : X × List ℕ). p.1) both)
inside_found behind rest (Err f) x more e = absurd cc

-- What the inside is spelled as is a byte string of these bytes.
pub inside_item : {X : Type 0} {read : Reading X} {spell : X → List ℕ} {Fits : X → Type 0} (max : ℕ) → max < 2 ^ 32 → IsItem read spell Fits
    → IsItem (inside_at max read) (λ x. opaque (spell x)) (λ x. Fits x × (length (spell x) ≤ max))
unfolding inside_at
inside_item {X} {read} {spell} {Fits} max small i = record {
  found = λ bytes x rest fits e.
      let b = bind_ok (bytes_at max bytes) (λ (v : List ℕ × List ℕ). inside read v.0 v.1) (x, rest) e in
      let p = (bytes_item max small).found bytes b.0.0 b.0.1 fits b.1 in
      let are : IsBytes b.0.0 = IsBytes-opaque b.0.0 (IsBytes-front (opaque b.0.0) b.0.1 (subst IsBytes p.0 fits)) in
      let q = inside_found (padding_of (length b.0.0) + length b.0.1) b.0.1 (all_of read b.0.0) x rest b.2 in
      let w = all_found i b.0.0 x are q.0 in
      (p.0 ∙ ap (λ (v : List ℕ). opaque v ++ b.0.1) w.0 ∙ ap (λ (r : List ℕ). opaque (spell x) ++ r) q.1, (w.1, subst (λ (v : List ℕ). length v ≤ max) w.0 p.1));
  again = λ x rest fits.
      ap (λ (r : Result (List ℕ × List ℕ) Fault). r >>= λ v. inside read v.0 v.1) ((bytes_item max small).again (spell x) rest fits.1)
      ∙ ap (inside_as (padding_of (length (spell x)) + length rest) rest) (all_again i x fits.0);
}

-- ---- Readers of an inside

-- a fault is told by the same place, in the whole and in the inside
moved_fault : (total behind : ℕ) (e : XdrFault) → place_of e ≤ total → moved behind (fault_of total e) ≡ fault_of (total + behind) e
moved_fault total behind (told.Short at) le = ap (λ (n : ℕ). record { flaw = short; left = n }) (omega (arith, le))
moved_fault total behind (told.Padding at) le = ap (λ (n : ℕ). record { flaw = padding; left = n }) (omega (arith, le))
moved_fault total behind (told.Bool at got) le = ap (λ (n : ℕ). record { flaw = bool got; left = n }) (omega (arith, le))
moved_fault total behind (told.TooLong at got max) le = ap (λ (n : ℕ). record { flaw = too_long got max; left = n }) (omega (arith, le))
moved_fault total behind (told.Enum at got) le = ap (λ (n : ℕ). record { flaw = enum got; left = n }) (omega (arith, le))

-- What `Cursor::take_inside` gives: the inside, and the bytes behind the byte string.
abbrev pub Encloses : ℕ → Spot → Spot → Spot → Type 0
Encloses max from inner to =
    (bytes_at max from.rest ≡ Ok (inner.rest, to.rest)) × (end_of to ≡ end_of from) × (end_of inner + padding_of (length inner.rest) ≡ to.place)

-- All of the inside was read.
pub inside_read : {X : Type 0} (read : Reading X) (max : ℕ) (from inner to : Spot) (x : X) (rest : List ℕ) → Encloses max from inner to
    → read inner.rest ≡ Ok (x, rest) → rest ≡ [] → inside_at max read from.rest ≡ Ok (x, to.rest)
unfolding inside_at
inside_read {X} read max from inner to x rest encloses e none =
    ap (λ (r : Result (List ℕ × List ℕ) Fault). r >>= λ v. inside read v.0 v.1) encloses.0
    ∙ ap (λ (r : Result (X × List ℕ) Fault). inside_as (padding_of (length inner.rest) + length to.rest) to.rest (r >>= λ v. ended v.0 v.1)) e
    ∙ ap (inside_as (padding_of (length inner.rest) + length to.rest) to.rest) (nothing_left x rest none)

-- what is wrong with the inside is wrong with the whole, at the same place
inside_wrong : {X : Type 0} (read : Reading X) (max : ℕ) (from inner to : Spot) (e : XdrFault) → Encloses max from inner to
    → all_of read inner.rest ≡ Err (fault_of (end_of inner) e) → place_of e ≤ end_of inner → Tells (end_of from) e (inside_at max read from.rest)
unfolding inside_at
inside_wrong read max from inner to e encloses wrong le =
    let behind : ℕ = padding_of (length inner.rest) + length to.rest in
    let total : end_of inner + behind ≡ end_of from = omega (arith, encloses.1, encloses.2) in (
      ap (λ (r : Result (List ℕ × List ℕ) Fault). r >>= λ v. inside read v.0 v.1) encloses.0
          ∙ ap (inside_as behind to.rest) wrong
          ∙ ap (λ (f : Fault). Err f) (moved_fault (end_of inner) behind e le)
          ∙ ap (λ (n : ℕ). Err (fault_of n e)) total,
      omega (arith, total, le),
    )

-- An item of the inside isn't read.
pub inside_missing : {X : Type 0} (read : Reading X) (max : ℕ) (from inner to : Spot) (e : XdrFault) → Encloses max from inner to
    → read inner.rest ≡ Err (fault_of (end_of inner) e) → place_of e ≤ end_of inner → Tells (end_of from) e (inside_at max read from.rest)
inside_missing {X} read max from inner to e encloses missing le =
    inside_wrong read max from inner to e encloses (ap (λ (r : Result (X × List ℕ) Fault). r >>= λ v. ended v.0 v.1) missing) le

-- Bytes are left over in the inside.
pub inside_longer : {X : Type 0} (read : Reading X) (max : ℕ) (from inner back to : Spot) (x : X) (e : XdrFault) → Encloses max from inner to
    → read inner.rest ≡ Ok (x, back.rest) → end_of back ≡ end_of inner → Ends back (Err e) → Tells (end_of from) e (inside_at max read from.rest)
inside_longer {X} read max from inner back to x e encloses found same ends =
    let wrong : all_of read inner.rest ≡ Err (fault_of (end_of inner) e) =
    ap (λ (r : Result (X × List ℕ) Fault). r >>= λ v. ended v.0 v.1) found ∙ left_over x back.rest ends.0
    ∙ ap (λ (f : Fault). Err f) (sym ends.1) ∙ ap (λ (n : ℕ). Err (fault_of n e)) same in
    inside_wrong read max from inner to e encloses wrong (omega (arith, ends.2, same))
