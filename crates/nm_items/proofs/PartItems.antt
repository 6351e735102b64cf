-- The reading and the spelling of items that several messages share belong together.
use Rattle.std.proofs.Common.{◌≡◌, ℕ, ◌-◌, ◌^◌, ◌≤◌, ◌<◌, Bool, true, false, cond, List, ◌++◌, length, Option, Some, None, Result, Ok, refl, sym, ap, subst, ◌∙◌, arith}
use Rattle.std.proofs.lemmas.Bool.Decides.{nat_tests}
use Rattle.std.proofs.lemmas.List.{append-nil}
use Rattle.nm_xdr.specs.Fields.{Fault, ◌>>=◌, IsBytes, IsItem}
use Rattle.nm_xdr.specs.Items.{word, hyper, opaque, bytes_at}
use Rattle.nm_xdr.proofs.FieldLaws.{field_part, made_part, record_item, fits_as, spelled_as, made_item, bind_ok, same_value}
use Rattle.nm_xdr.proofs.ItemLaws.{word_item, hyper_item}
use Rattle.nm_xdr.proofs.ByteLaws.{item_item, bytes_item, words_item, IsBytes-front, IsBytes-opaque}
use Rattle.nm_types.specs.declared.args.Fattr.{Fattr}
use Rattle.nm_types.specs.declared.calls.StateId.{StateId}
use Rattle.nm_types.specs.declared.calls.StateRef.{StateRef}
use Rattle.nm_types.specs.declared.calls.StateRef.TheVariants.{Zeros, Ones, Named}
use Rattle.nm_types.specs.declared.wire.Handle.{Handle}
use Rattle.nm_types.specs.Wire.{word as rule_word, hyper as rule_hyper, is_zeros, is_ones, stateid_bytes, stateid_from, handle_bytes, handle_of, IsHandle}
use Rattle.nm_types.proofs.WireLaws.{handle_read, handle_written}
use Rattle.nm_items.specs.Parts.{stateid, other_at, stateid_at, IsStateId, ref_at, IsStateRef, numbers_of, named_by, handle_at, bitmap, bitmap_at, IsBitmap, fattr, fattr_at, AreAttributes}

-- ---- Stateids

-- the 12 bytes behind the seqid
abbrev pub other : ℕ × ℕ → List ℕ
other o = word o.0 ++ hyper o.1

pub other_item : IsItem other_at other (λ o. (o.0 < 2 ^ 32) × (o.1 < 2 ^ 64))
unfolding other_at
other_item =
    item_item (
    fits_as (λ o. (o.0 < 2 ^ 32) × (o.1 < 2 ^ 64)) (λ o f. (f.0, (f.1, tt))) (λ o f. (f.0, f.1.0)) (
    spelled_as (λ o. word o.0 ++ hyper o.1) (λ o _. ap (λ (b : List ℕ). word o.0 ++ b) (sym (append-nil (hyper o.1)))) (
    record_item (
    field_part (λ (o : ℕ × ℕ). o.0) _ (λ _. word_item) (
    field_part (λ (o : ℕ × ℕ). o.1) _ (λ _. hyper_item) (
    made_part _ (λ _. refl) (λ _. refl)))))))

-- its items, one after the other
pub stateid_parts : (s : StateId) → stateid s ≡ word s.seqid ++ (word s.fs ++ hyper s.counter)
unfolding stateid_bytes rule_word rule_hyper word hyper
stateid_parts s = refl

pub stateid_item : IsItem stateid_at stateid IsStateId
unfolding stateid_at
stateid_item =
    fits_as IsStateId (λ s f. (f.seqid, ((f.fs, f.counter), tt))) (λ s f. record { seqid = f.0; fs = f.1.0.0; counter = f.1.0.1 }) (
    spelled_as stateid (λ s _. stateid_parts s ∙ ap (λ (b : List ℕ). word s.seqid ++ b) (sym (append-nil (word s.fs ++ hyper s.counter)))) (
    record_item (
    field_part (λ (s : StateId). s.seqid) _ (λ _. word_item) (
    field_part (λ (s : StateId). (s.fs, s.counter)) _ (λ _. other_item) (
    made_part _ (λ _. refl) (λ _. refl))))))

-- ---- Stateids, told apart from the special ones

-- three numbers that are known
same_three : (x y z a b c : ℕ) → a ≡ x → b ≡ y → c ≡ z → ◌≡◌ {A = StateId} (record { seqid = x; fs = y; counter = z }) (record { seqid = a; fs = b; counter = c })
same_three x y z a b c e f g = rw (e, f, g) refl

-- these are the numbers of a special one
of_zeros : (s : StateId) → is_zeros s ≡ true → numbers_of Zeros ≡ s
unfolding is_zeros numbers_of
of_zeros s e =
    let a : s.seqid ≡ 0 = grind (arith, nat_tests) in
    let b : s.fs ≡ 0 = grind (arith, nat_tests) in
    let c : s.counter ≡ 0 = grind (arith, nat_tests) in
    same_three 0 0 0 s.seqid s.fs s.counter a b c

of_ones : (s : StateId) → is_ones s ≡ true → numbers_of Ones ≡ s
unfolding is_ones numbers_of
of_ones s e =
    let a : s.seqid ≡ 2 ^ 32 - 1 = grind (arith, nat_tests) in
    let b : s.fs ≡ 2 ^ 32 - 1 = grind (arith, nat_tests) in
    let c : s.counter ≡ 2 ^ 64 - 1 = grind (arith, nat_tests) in
    same_three (2 ^ 32 - 1) (2 ^ 32 - 1) (2 ^ 64 - 1) s.seqid s.fs s.counter a b c

by_tests : (s : StateId) (zeros ones : Bool) → is_zeros s ≡ zeros → is_ones s ≡ ones → numbers_of (cond zeros Zeros (cond ones Ones (Named s))) ≡ s
unfolding numbers_of
by_tests s true ones z o = of_zeros s z
by_tests s false true z o = of_ones s o
by_tests s false false z o = refl

pub same_numbers : (s : StateId) → numbers_of (stateid_from s) ≡ s
same_numbers s = by_tests s (is_zeros s) (is_ones s) refl refl

-- whichever it is, its bytes are those of its numbers
pub numbers_spelled : (r : StateRef) → stateid_bytes r ≡ stateid (numbers_of r)
unfolding stateid_bytes numbers_of rule_word rule_hyper
numbers_spelled Zeros = refl
numbers_spelled Ones = refl
numbers_spelled (Named s) = refl

pub from_spelled : (s : StateId) → stateid_bytes (stateid_from s) ≡ stateid s
from_spelled s = numbers_spelled (stateid_from s) ∙ ap stateid (same_numbers s)

pub found_again : (r : StateRef) → IsStateRef r → stateid_from (numbers_of r) ≡ r
unfolding numbers_of is_zeros is_ones
found_again Zeros f = refl
found_again Ones f = refl
found_again (Named s) f = rw (f.not_zeros, f.not_ones) refl

from_fits : (s : StateId) → IsStateId s → IsStateRef (stateid_from s)
from_fits s f = by_test (is_zeros s) (is_ones s) refl refl
  where
    by_test : (zeros ones : Bool) → is_zeros s ≡ zeros → is_ones s ≡ ones → IsStateRef (cond zeros Zeros (cond ones Ones (Named s)))
    by_test true ones z o = tt
    by_test false true z o = tt
    by_test false false z o = record { seqid = f.seqid; fs = f.fs; counter = f.counter; not_zeros = z; not_ones = o }

numbers_fit : (r : StateRef) → IsStateRef r → IsStateId (numbers_of r)
unfolding numbers_of
numbers_fit Zeros f = record { seqid = omega arith; fs = omega arith; counter = omega arith }
numbers_fit Ones f = record { seqid = omega arith; fs = omega arith; counter = omega arith }
numbers_fit (Named s) f = record { seqid = f.seqid; fs = f.fs; counter = f.counter }

pub ref_item : IsItem ref_at stateid_bytes IsStateRef
unfolding ref_at
ref_item =
    made_item stateid_from stateid_bytes IsStateRef (λ s f. (from_fits s f, from_spelled s)) (λ r f. (numbers_of r, numbers_fit r f, found_again r f)) stateid_item

-- ---- Filehandles

named_found : (o : Option Handle) (bytes after : List ℕ) (h : Handle) (rest : List ℕ) → named_by o bytes after ≡ Ok (h, rest) → (o ≡ Some h) × (after ≡ rest)
named_found None bytes after h rest e = absurd cc
named_found (Some y) bytes after h rest e = let same = same_value y h after rest e in (ap (λ (v : Handle). Some v) same.0, same.1)

pub handle_length : (h : Handle) → length (handle_bytes h) ≡ 16
unfolding handle_bytes rule_word rule_hyper
handle_length h = refl

pub handle_item : IsItem handle_at (λ h. opaque (handle_bytes h)) IsHandle
unfolding handle_at
handle_item = record {
  found = λ bytes h rest fits e.
      let b = bind_ok (bytes_at 128 bytes) (λ (x : List ℕ × List ℕ). named_by (handle_of x.0) bytes x.1) (h, rest) e in
      let p = (bytes_item 128 (omega arith)).found bytes b.0.0 b.0.1 fits b.1 in
      let n = named_found (handle_of b.0.0) bytes b.0.1 h rest b.2 in
      let are : IsBytes b.0.0 = IsBytes-opaque b.0.0 (IsBytes-front (opaque b.0.0) b.0.1 (subst IsBytes p.0 fits)) in
      let w = handle_written b.0.0 h are n.0 in
      (p.0 ∙ ap (λ (v : List ℕ). opaque v ++ b.0.1) (sym w.0) ∙ ap (λ (r : List ℕ). opaque (handle_bytes h) ++ r) n.1, w.1);
  again = λ h rest fits.
      let len : length (handle_bytes h) ≤ 128 = omega (arith, handle_length h) in
      ap (λ (r : Result (List ℕ × List ℕ) Fault). r >>= λ x. named_by (handle_of x.0) (opaque (handle_bytes h) ++ rest) x.1) ((bytes_item 128 (omega arith)).again (handle_bytes h) rest len)
      ∙ ap (λ (o : Option Handle). named_by o (opaque (handle_bytes h) ++ rest) rest) (handle_read h fits);
}

-- ---- Attributes

pub bitmap_item : IsItem bitmap_at bitmap IsBitmap
bitmap_item = words_item 8 (omega arith)

pub fattr_item : IsItem fattr_at fattr AreAttributes
unfolding fattr_at fattr
fattr_item =
    fits_as AreAttributes (λ f a. (a.words, (a.values, tt))) (λ f a. record { words = a.0; values = a.1.0 }) (
    record_item (
    field_part (λ (f : Fattr). f.words) _ (λ _. bitmap_item) (
    field_part (λ (f : Fattr). f.values) _ (λ _. bytes_item 65536 (omega arith)) (
    made_part _ (λ _. refl) (λ _. refl)))))
