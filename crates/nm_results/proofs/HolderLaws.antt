-- Where an instance stands among instances that rise.
use Rattle.std.proofs.Common.{◌≡◌, ◌≤◌, ◌<◌, ℕ, Bool, true, false, ltb, Result, Ok, Err, List, length, get_or, refl, ap, sym, subst, ◌∙◌, arith, rules}
use Rattle.std.proofs.lemmas.Bool.{ltb-true, ltb-false}
use Rattle.std.proofs.lemmas.List.Sums.{position_or_len_is}
use Rattle.std.proofs.lemmas.Map.Keys.{Less-from_sorted}
use Rattle.std.proofs.lemmas.Map.Lookups.{exact_bytes, exact_unsigned}
use Rattle.std.specs.List.{position_or_len}
use Rattle.std.specs.List.Sorted.{IsNonDecreasingBy, IsSearchInRange, IsBinarySearchResult, IsStrictlySortedBy}
use Rattle.std.specs.Cmp.{IsTotalOrder}
use Rattle.std.specs.Cmp.Rules.{comparing}
use Rattle.std.specs.Cmp.Lexicographic.{slice_cmp}
use Rattle.std.specs.Ordering.{is_eq, nat_cmp, ordering_index, ordering_reverse, ordering_then}
use Rattle.std.specs.Result.{MatchResult}
use Rattle.std.specs.declared.cmp.Ordering.{Ordering}
use Rattle.std.specs.declared.cmp.Ordering.TheVariants.{Less, Equal, Greater}
use Rattle.nm_types.specs.Parties.{Party, party_cmp}
use Rattle.nm_results.specs.Holders.{is_party}

party_cmp-total : IsTotalOrder party_cmp
party_cmp-total = search (comparing, rules) depth 12

then_parts : (o p : Ordering) → ordering_then o p ≡ Equal → (o ≡ Equal) × (p ≡ Equal)
then_parts Less p e = cc
then_parts Equal p e = (refl, e)
then_parts Greater p e = cc

-- only an instance itself stands where it stands
pub party_cmp-is : (a b : Party) → party_cmp a b ≡ Equal → a ≡ b
party_cmp-is a b e =
    let id = then_parts (slice_cmp nat_cmp a.id b.id) _ e in
    let verifier = then_parts (nat_cmp a.verifier b.verifier) _ id.1 in
    let flavor = then_parts (nat_cmp a.principal.flavor b.principal.flavor) _ verifier.1 in
    λ i. record {
      id = exact_bytes a.id b.id id.0 i;
      verifier = exact_unsigned a.verifier b.verifier verifier.0 i;
      principal = record {
        flavor = exact_unsigned a.principal.flavor b.principal.flavor flavor.0 i;
        uid = exact_unsigned a.principal.uid b.principal.uid flavor.1 i;
      };
    }

equal_tested : (o : Ordering) → is_eq o ≡ true → o ≡ Equal
equal_tested Less e = absurd cc
equal_tested Equal e = refl
equal_tested Greater e = absurd cc

-- what the test finds is the instance
pub party_found : (p h : Party) → is_party p h ≡ true → h ≡ p
party_found p h e = party_cmp-is h p (equal_tested (party_cmp h p) e)

-- and it finds it
pub same_party_found : (p : Party) → is_party p p ≡ true
same_party_found p = by_place (party_cmp p p) refl
  where
    by_place : (o : Ordering) → party_cmp p p ≡ o → is_eq (party_cmp p p) ≡ true
    by_place Less e = let back : Less ≡ Greater = sym e ∙ party_cmp-total.antisymm p p ∙ ap ordering_reverse e in absurd cc
    by_place Equal e = ap is_eq e
    by_place Greater e = let back : Greater ≡ Less = sym e ∙ party_cmp-total.antisymm p p ∙ ap ordering_reverse e in absurd cc

-- one that stands before it isn't it
not_before : (p h : Party) → party_cmp h p ≡ Less → is_party p h ≡ false
not_before p h e = ap is_eq e

not_behind : (p h : Party) → party_cmp h p ≡ Greater → is_party p h ≡ false
not_behind p h e = ap is_eq e

at_most_two : (o : Ordering) → ordering_index o ≤ 2
at_most_two Less = omega arith
at_most_two Equal = omega arith
at_most_two Greater = omega arith

-- of two that rise the first one doesn't stand further on
steps_up : (p x y : Party) → party_cmp x y ≡ Less → ordering_index (party_cmp x p) ≤ ordering_index (party_cmp y p)
steps_up p x y lt = by_next (party_cmp y p) refl
  where
    by_next : (o : Ordering) → party_cmp y p ≡ o → ordering_index (party_cmp x p) ≤ ordering_index (party_cmp y p)
    by_next Less e = omega (arith, ap ordering_index (party_cmp-total.trans x y p lt e), ap ordering_index e)
    by_next Equal e = omega (arith, ap ordering_index (subst (λ q. party_cmp x q ≡ Less) (party_cmp-is y p e) lt), ap ordering_index e)
    by_next Greater e = omega (arith, at_most_two (party_cmp x p), ap ordering_index e)

places_rise : (p : Party) (xs : List Party) → IsStrictlySortedBy party_cmp xs → IsNonDecreasingBy (λ y. ordering_index (party_cmp y p)) xs
places_rise p xs rises i j d le lt = by_order (ltb i j) refl
  where
    by_order : (b : Bool) → ltb i j ≡ b → ordering_index (party_cmp (get_or xs i d) p) ≤ ordering_index (party_cmp (get_or xs j d) p)
    by_order true e = steps_up p (get_or xs i d) (get_or xs j d) (Less-from_sorted party_cmp xs i j d rises (ltb-true i j e) lt)
    by_order false e =
        let same : i ≡ j = omega (arith, le, ltb-false i j e) in
        omega (arith, ap (λ (k : ℕ). ordering_index (party_cmp (get_or xs k d) p)) same)

-- one that stands at a place stands there first
pub place_is : (p : Party) (xs : List Party) (i : ℕ) (d : Party) → IsStrictlySortedBy party_cmp xs → i < length xs → get_or xs i d ≡ p → position_or_len (is_party p) xs ≡ i
place_is p xs i d rises lt is =
    position_or_len_is (is_party p) xs i d (omega (arith, lt))
    (λ k below. not_before p (get_or xs k d) (subst (λ q. party_cmp (get_or xs k d) q ≡ Less) is (Less-from_sorted party_cmp xs k i d rises below lt)))
    (λ _. ap (is_party p) is ∙ same_party_found p)

-- what a binary search answers is the place
pub place_searched : (p : Party) (xs : List Party) (r : Result ℕ ℕ) → IsStrictlySortedBy party_cmp xs → IsSearchInRange r (length xs) → IsBinarySearchResult (λ y. party_cmp y p) xs r
    → MatchResult r (λ i. position_or_len (is_party p) xs ≡ i) (λ _. position_or_len (is_party p) xs ≡ length xs)
place_searched p xs (Ok i) rises lt found = place_is p xs i p rises lt (party_cmp-is (get_or xs i p) p (found p))
place_searched p xs (Err i) rises le missing =
    position_or_len_is (is_party p) xs (length xs) p (omega arith) (λ k below. by_side k below (ltb k i) refl) (λ over. absurd (omega (arith, over)))
  where
    by_side : (k : ℕ) → k < length xs → (b : Bool) → ltb k i ≡ b → is_party p (get_or xs k p) ≡ false
    by_side k below true e = not_before p (get_or xs k p) ((missing (places_rise p xs rises)).0 k p (omega arith) (ltb-true k i e))
    by_side k below false e = not_behind p (get_or xs k p) ((missing (places_rise p xs rises)).1 k p (ltb-false k i e) below)
