-- The reading and the spelling of a lock that is in the way in a kept reply belong together.
use Rattle.std.proofs.Common.{◌≡◌, ℕ, ◌+◌, ◌-◌, ◌^◌, ◌<◌, Bool, true, false, ◌&&◌, ◌||◌, cond, eqb, leb, List, ◌++◌, length, get_or, Option, Some, None, Ok, refl, sym, ap, subst, ◌∙◌, append_assoc, arith}
use Rattle.std.proofs.lemmas.Bool.Decides.{nat_tests}
use Rattle.std.proofs.lemmas.List.Sums.{passes_at_first}
use Rattle.std.proofs.lemmas.Option.{slice_get_within, get_or_from_slice_get, slice_get-get_or}
use Rattle.std.specs.List.{position_or_len, slice_get}
use Rattle.std.specs.List.Sorted.{IsStrictlySortedBy}
use Rattle.nm_xdr.specs.Fields.{Reading, IsItem}
use Rattle.nm_xdr.specs.Items.{word, hyper}
use Rattle.nm_xdr.proofs.ByteLaws.{bytes_item}
use Rattle.nm_xdr.proofs.FieldLaws.{field_part, made_part, made_item, union_item, record_item, spelled_as, fits_as, bind_ok, same_value}
use Rattle.nm_xdr.proofs.ItemLaws.{hyper_item, enum_item}
use Rattle.nm_types.specs.Calls.{greatest}
use Rattle.nm_types.specs.Parties.{Party, party_cmp}
use Rattle.nm_types.specs.declared.results.Denied.{Denied}
use Rattle.nm_types.specs.declared.results.LockKind.{LockKind}
use Rattle.nm_types.specs.declared.results.LockKind.TheVariants as kind
use Rattle.nm_results.specs.Holders.{index_of, is_party, IsHolder}
use Rattle.nm_results.specs.KeptLocks.{stood_for, standing_at, last_of, last_at, range_at, length_of, IsTold, kept_kind, kept_kind_at, holder_at, kept_denied, kept_denied_at, IsKeptDenied}
use Rattle.nm_results.specs.Locks.{number_of_kind}
use Rattle.nm_results.proofs.HolderLaws.{place_is, party_found}

-- ---- An item whose value stands for another

stood_found : {X : Type 0} (o : Option X) (bytes after : List ℕ) (x : X) (rest : List ℕ) → stood_for o bytes after ≡ Ok (x, rest) → (o ≡ Some x) × (after ≡ rest)
stood_found None bytes after x rest e = absurd cc
stood_found (Some y) bytes after x rest e = let same = same_value y x after rest e in (ap (λ v. Some v) same.0, same.1)

standing_item : {A X : Type 0} {read : Reading A} {spell : A → List ℕ} {Fits : A → Type 0} (of : A → Option X) (number : X → A) (Stands : X → Type 0)
    → ((a : A) (x : X) → Fits a → of a ≡ Some x → Stands x × (number x ≡ a)) → ((x : X) → Stands x → Fits (number x) × (of (number x) ≡ Some x))
    → IsItem read spell Fits → IsItem (standing_at read of) (λ x. spell (number x)) Stands
standing_item {A} {X} {read} {spell} {Fits} of number Stands to from item = record {
  found = λ bytes x rest fits e.
      let b = bind_ok (read bytes) (λ (a : A × List ℕ). stood_for (of a.0) bytes a.1) (x, rest) e in
      let first = item.found bytes b.0.0 b.0.1 fits b.1 in
      let s = stood_found (of b.0.0) bytes b.0.1 x rest b.2 in
      let t = to b.0.0 x first.1 s.0 in
      (first.0 ∙ ap (λ (a : A). spell a ++ b.0.1) (sym t.1) ∙ ap (λ (r : List ℕ). spell (number x) ++ r) s.1, t.0);
  again = λ x rest fits.
      let f = from x fits in
      rw (item.again (number x) rest f.0, f.1) refl;
}

-- ---- The range

-- what a length tells, by the three tests
last_found : (first length last : ℕ) (all none past : Bool) → eqb length greatest ≡ all → eqb length 0 ≡ none → leb (2 ^ 64) (first + length) ≡ past
    → first < 2 ^ 64 → cond all (Some greatest) (cond (none || past) None (Some ((first + length) - 1))) ≡ Some last → IsTold first last × (length_of first last ≡ length)
unfolding length_of
last_found first length last true none past a n p small e =
    let is : greatest ≡ last = cc in
    let long : length ≡ greatest = grind (arith, nat_tests) in
    subst (λ (l : ℕ). IsTold first l × (length_of first l ≡ length)) is (record { from = omega (arith, small); fits = omega arith; told = grind (arith, nat_tests) }, sym long)
last_found first length last false true past a n p small e = absurd cc
last_found first length last false false true a n p small e = absurd cc
last_found first length last false false false a n p small e =
    let is : (first + length) - 1 ≡ last = cc in
    let some : 0 < length = grind (arith, nat_tests) in
    let within : first + length < 2 ^ 64 = grind (arith, nat_tests) in
    let not_all : eqb last greatest ≡ false = grind (arith, nat_tests) in
    let not_most : ((eqb first 0) && (eqb (last + 1) greatest)) ≡ false = grind (arith, nat_tests) in
    (record { from = omega arith; fits = omega arith; told = not_most }, rw not_all (omega arith))

last_told : (first length last : ℕ) → first < 2 ^ 64 → last_of first length ≡ Some last → IsTold first last × (length_of first last ≡ length)
unfolding last_of
last_told first length last small e = last_found first length last (eqb length greatest) (eqb length 0) (leb (2 ^ 64) (first + length)) refl refl refl small e

-- a length is told again, by whether the range reaches to the end
length_told : (first last : ℕ) (all : Bool) → eqb last greatest ≡ all → IsTold first last → (length_of first last < 2 ^ 64) × (last_of first (length_of first last) ≡ Some last)
unfolding length_of last_of
length_told first last true a t =
    let is : last ≡ greatest = grind (arith, nat_tests) in
    rw a (omega arith, ap (λ (n : ℕ). Some n) (sym is))
length_told first last false a t =
    let long : (last - first) + 1 < 2 ^ 64 = grind (arith, nat_tests, t.fits) in
    let not_all : eqb ((last - first) + 1) greatest ≡ false = grind (arith, nat_tests, t.told, t.from, t.fits) in
    let not_none : eqb ((last - first) + 1) 0 ≡ false = grind (arith, nat_tests) in
    let not_past : leb (2 ^ 64) (first + ((last - first) + 1)) ≡ false = grind (arith, nat_tests, t.from, t.fits) in
    rw a (long, rw (not_all, not_none, not_past) (ap (λ (n : ℕ). Some n) (omega (arith, t.from))))

last_item : (first : ℕ) → first < 2 ^ 64 → IsItem (last_at first) (λ last. hyper (length_of first last)) (IsTold first)
unfolding last_at
last_item first small =
    standing_item (last_of first) (length_of first) (IsTold first) (λ length last _ e. last_told first length last small e)
    (λ last t. length_told first last (eqb last greatest) refl t) hyper_item

-- Both bytes of a range are told.
abbrev IsRange : ℕ × ℕ → Type 0
IsRange r = IsTold r.0 r.1

from_small : (first last : ℕ) → IsTold first last → first < 2 ^ 64
from_small first last t = omega (arith, t.from, t.fits)

range_item : IsItem range_at (λ r. hyper r.0 ++ hyper (length_of r.0 r.1)) IsRange
unfolding range_at
range_item =
    union_item (λ (r : ℕ × ℕ). r.0) IsRange (λ r t. from_small r.0 r.1 t) hyper_item (λ first small.
    made_item (λ (last : ℕ). (first, last)) (λ (r : ℕ × ℕ). hyper (length_of r.0 r.1)) (λ (r : ℕ × ℕ). IsRange r × (r.0 ≡ first))
    (λ last t. ((t, refl), refl))
    (λ r t. (r.1, subst (λ (n : ℕ). IsTold n r.1) t.1 t.0, ap (λ (n : ℕ). (n, r.1)) (sym t.1))) (last_item first small))

-- ---- The kind

kind_small : (k : LockKind) → number_of_kind k < 2 ^ 32
kind_small kind.Read = omega arith
kind_small kind.Write = omega arith

kind_back : (k : LockKind) → kept_kind (number_of_kind k) ≡ Some k
unfolding kept_kind
kind_back kind.Read = refl
kind_back kind.Write = refl

kind_by : (n : ℕ) (k : LockKind) (one two : Bool) → eqb n 1 ≡ one → eqb n 2 ≡ two → cond one (Some kind.Read) (cond two (Some kind.Write) None) ≡ Some k → number_of_kind k ≡ n
kind_by n k true two a b e =
    let is : kind.Read ≡ k = cc in
    let number : n ≡ 1 = grind (arith, nat_tests) in
    ap number_of_kind (sym is) ∙ sym number
kind_by n k false true a b e =
    let is : kind.Write ≡ k = cc in
    let number : n ≡ 2 = grind (arith, nat_tests) in
    ap number_of_kind (sym is) ∙ sym number
kind_by n k false false a b e = absurd cc

kind_forth : (n : ℕ) (k : LockKind) → kept_kind n ≡ Some k → number_of_kind k ≡ n
unfolding kept_kind
kind_forth n k e = kind_by n k (eqb n 1) (eqb n 2) refl refl e

kept_kind_item : IsItem kept_kind_at (λ k. word (number_of_kind k)) (λ _. Unit {0})
unfolding kept_kind_at
kept_kind_item = enum_item number_of_kind kept_kind kind_small kind_back kind_forth

-- ---- The holder

-- where one of them stands
indexed : (holders : List Party) (n : ℕ) (h : Party) → IsStrictlySortedBy party_cmp holders → slice_get holders n ≡ Some h
    → IsHolder holders (Some h) × (index_of holders (Some h) ≡ n)
unfolding index_of
indexed holders n h rises e =
    let lt : n < length holders = slice_get_within holders n h e in
    let is : position_or_len (is_party h) holders ≡ n = place_is h holders n h rises lt (get_or_from_slice_get holders n h h e) in
    (omega (arith, lt, is), is)

stands : (holders : List Party) (h : Party) → length holders < 2 ^ 64 → IsHolder holders (Some h)
    → (index_of holders (Some h) < 2 ^ 64) × (slice_get holders (index_of holders (Some h)) ≡ Some h)
unfolding index_of
stands holders h few lt =
    let i : ℕ = position_or_len (is_party h) holders in
    let is : get_or holders i h ≡ h = party_found h (get_or holders i h) (passes_at_first (is_party h) holders h lt) in
    (omega (arith, few, lt), slice_get-get_or holders i h lt ∙ ap (λ (p : Party). Some p) is)

no_holder : (holders : List Party) → IsHolder holders None → ⊥
unfolding index_of
no_holder holders h = omega (arith, h)

given_holder : (holders : List Party) (o : Option Party) → IsHolder holders o → (h : Party) × IsHolder holders (Some h) × (Some h ≡ o)
given_holder holders None h = absurd (no_holder holders h)
given_holder holders (Some p) h = (p, h, refl)

holder_item : (holders : List Party) → IsStrictlySortedBy party_cmp holders → length holders < 2 ^ 64
    → IsItem (holder_at holders) (λ o. hyper (index_of holders o)) (IsHolder holders)
unfolding holder_at
holder_item holders rises few =
    made_item (λ (h : Party). Some h) (λ o. hyper (index_of holders o)) (IsHolder holders) (λ h f. (f, refl)) (given_holder holders) (
    standing_item (slice_get holders) (λ (h : Party). index_of holders (Some h)) (λ (h : Party). IsHolder holders (Some h))
    (λ n h _ e. indexed holders n h rises e) (λ h f. stands holders h few f) hyper_item)

-- ---- The whole

pub kept_denied_item : (holders : List Party) → IsStrictlySortedBy party_cmp holders → length holders < 2 ^ 64
    → IsItem (kept_denied_at holders) (kept_denied holders) (IsKeptDenied holders)
unfolding kept_denied_at kept_denied
kept_denied_item holders rises few =
    fits_as (IsKeptDenied holders) (λ d f. (f.range, (tt, (f.holder, (f.owner, tt))))) (λ d f. record { range = f.0; holder = f.1.1.0; owner = f.1.1.1.0 }) (
    spelled_as (kept_denied holders) (λ d _. sym (append_assoc (hyper d.range.first) (hyper (length_of d.range.first d.range.last)) _)) (
    record_item (
    field_part (λ (d : Denied). (d.range.first, d.range.last)) _ (λ _. range_item) (
    field_part (λ (d : Denied). d.range.kind) _ (λ _. kept_kind_item) (
    field_part (λ (d : Denied). d.instance) _ (λ _. holder_item holders rises few) (
    field_part (λ (d : Denied). d.owner) _ (λ _. bytes_item 1024 (omega arith)) (
    made_part _ (λ _. refl) (λ _. refl))))))))
