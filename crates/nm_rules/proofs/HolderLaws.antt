-- Laws of the list of holders: it rises, has just the instances of the rows, and is no longer than these.
use Rattle.std.proofs.Common.{◌≡◌, ◌≤◌, ◌<◌, ℕ, zero, suc, ◌+◌, Bool, true, false, cond, Result, Ok, Err, List, [], ◌∷◌, Option, Some, None, length, refl, ap, inl, inr, ◌∙◌, arith, rules}
use Rattle.std.specs.Prelude.{◌==◌, ◌&&◌, ◌||◌, ◌⊎◌, not, filter}
use Rattle.std.specs.List.{list_any, insert, HoldsAt, AllWithin, AllAdjacentBelow}
use Rattle.std.specs.List.Sorted.{IsNonDecreasingBy, IsSearchInRange, IsBinarySearchResult}
use Rattle.std.specs.Result.{MatchResult}
use Rattle.std.proofs.lemmas.List.Sorted.{IsNonDecreasingBy-from_all_adjacent}
use Rattle.std.specs.Cmp.{IsTotalOrder}
use Rattle.std.specs.Cmp.Rules.{comparing}
use Rattle.std.specs.Cmp.Lexicographic.{slice_cmp}
use Rattle.std.specs.Ordering.{is_lt, nat_cmp, ordering_index, ordering_reverse, ordering_then}
use Rattle.std.specs.declared.cmp.Ordering.{Ordering}
use Rattle.std.specs.declared.cmp.Ordering.TheVariants.{Less, Equal, Greater}
use Rattle.std.proofs.lemmas.Map.Lookups.{exact_bytes, exact_unsigned}
use Rattle.std.proofs.Math.Bool.{or-false}
use Rattle.std.proofs.lemmas.Bool.{and_from}
use Rattle.nm_types.specs.Parties.{Party, same_party, party_cmp}
use Rattle.nm_rules.specs.Holders.{put_by, put_party, gathered, holders, has_row, opener_of, known_of, is_opener_of, is_owner_of, rises_after, parties_rise, is_among}
use Rattle.nm_types.specs.Owners.{same_owner}
use Rattle.nm_rules.specs.Seqids.{OwnerWord, put_owner, owners_after}
use Rattle.nm_rules.specs.Seqids.OwnerWord.{Stays, Noted, Gone, GoneOf}
use Rattle.nm_rules.specs.Shares.{OpenWord, put_open, opens_after}
use Rattle.nm_rules.specs.Shares.OpenWord.{Keep, Put, Drop, DropOf}
use Rattle.nm_rules.specs.Past.{Now, words, no_words, acts, deed_words, lock_words, is_released, released_words, release_words, owner_word, started_by}
use Rattle.nm_rules.specs.Seen.{Seen, look, after, after_words}
use Rattle.nm_types.specs.declared.args.LockArgs.{LockArgs}
use Rattle.nm_types.specs.declared.calls.Call.{Call}
use Rattle.nm_types.specs.declared.calls.Deed.{Deed}
use Rattle.nm_types.specs.declared.calls.Deed.TheVariants as deed
use Rattle.nm_types.specs.declared.calls.Event.{Event}
use Rattle.nm_types.specs.declared.calls.Event.TheVariants.{Asked, Ended}
use Rattle.nm_types.specs.declared.calls.Reply.{Reply}
use Rattle.nm_types.specs.declared.calls.ReplyValue.{ReplyValue}
use Rattle.nm_types.specs.declared.calls.ReplyValue.TheVariants as told
use Rattle.nm_types.specs.declared.owners.OwnerRow.{OwnerRow}
use Rattle.nm_types.specs.declared.rows.OpenRow.{OpenRow}
use Rattle.nm_rules.proofs.Refusals.{lock_keeps}

pub party_cmp-total : IsTotalOrder party_cmp
party_cmp-total = search (comparing, rules) depth 12

then_parts : (o p : Ordering) → ordering_then o p ≡ Equal → (o ≡ Equal) × (p ≡ Equal)
then_parts Less p e = cc
then_parts Equal p e = (refl, e)
then_parts Greater p e = cc

-- only a party itself stands where it stands
pub party_cmp-is : (a b : Party) → party_cmp a b ≡ Equal → a ≡ b
party_cmp-is a b e =
    let id = then_parts (slice_cmp nat_cmp a.id b.id) _ e in
    let verifier = then_parts (nat_cmp a.verifier b.verifier) _ id.1 in
    let flavor = then_parts (nat_cmp a.principal.flavor b.principal.flavor) _ verifier.1 in
    λ i. record {
      id = exact_bytes a.id b.id id.0 i;
      verifier = exact_unsigned a.verifier b.verifier verifier.0 i;
      principal = record {
        flavor = exact_unsigned a.principal.flavor b.principal.flavor flavor.0 i;
        uid = exact_unsigned a.principal.uid b.principal.uid flavor.1 i;
      };
    }

-- one party stands before another where that one stands after it
pub party_cmp-back : (a b : Party) → party_cmp a b ≡ Greater → party_cmp b a ≡ Less
party_cmp-back a b e = party_cmp-total.antisymm b a ∙ ap ordering_reverse e

or_swap : (a b c : Bool) → (a || (b || c)) ≡ (b || (a || c))
or_swap true true c = refl
or_swap true false c = refl
or_swap false b c = refl

or_twice : (a c : Bool) → (a || c) ≡ (a || (a || c))
or_twice true c = refl
or_twice false c = refl

-- the list after a put has the party, and what was there
pub among-put : (p party : Party) (xs : List Party) → is_among p (put_party party xs) ≡ (same_party p party || is_among p xs)
among-put p party [] = refl
among-put p party (x ∷ xs) = by_place (party_cmp x party) refl (among-put p party xs)
  where
    by_place : (o : Ordering) → party_cmp x party ≡ o → is_among p (put_party party xs) ≡ (same_party p party || is_among p xs)
        → is_among p (put_by o party x xs (put_party party xs)) ≡ (same_party p party || (same_party p x || is_among p xs))
    by_place Less place later = ap (λ b. same_party p x || b) later ∙ or_swap (same_party p x) (same_party p party) (is_among p xs)
    by_place Equal place later =
        or_twice (same_party p x) (is_among p xs) ∙ ap (λ q. same_party p q || (same_party p x || is_among p xs)) (party_cmp-is x party place)
    by_place Greater place later = refl

or_more : (a b c : Bool) → (a || (b || c)) ≡ ((a || b) || c)
or_more true b c = refl
or_more false b c = refl

-- a party is among those of the rows where one of these is its own, or it was there
pub among-gathered : {A : Type 0} (of : A → Party) (p : Party) (rows : List A) (more : List Party)
    → is_among p (gathered of rows more) ≡ (list_any (λ row. same_party p (of row)) rows || is_among p more)
unfolding gathered
among-gathered of p [] more = refl
among-gathered of p (row ∷ rows) more =
    among-put p (of row) (gathered of rows more)
    ∙ ap (λ b. same_party p (of row) || b) (among-gathered of p rows more)
    ∙ or_more (same_party p (of row)) (list_any (λ row. same_party p (of row)) rows) (is_among p more)

pub among-holders : (p : Party) (s : Seen) → is_among p (holders s) ≡ has_row p s
among-holders p s =
    among-gathered opener_of p s.opens (gathered known_of s.owners [])
    ∙ ap (λ b. list_any (is_opener_of p) s.opens || b)
    (among-gathered known_of p s.owners [] ∙ or-false (list_any (is_owner_of p) s.owners))

lt_parts : (o : Ordering) (b : Bool) → (is_lt o && b) ≡ true → (o ≡ Less) × (b ≡ true)
lt_parts Less b h = (refl, h)
lt_parts Equal b h = cc
lt_parts Greater b h = cc

-- what rises after a party still does with one put behind it
pub rises_after-put : (before party : Party) (xs : List Party) → rises_after before xs ≡ true → party_cmp before party ≡ Less → rises_after before (put_party party xs) ≡ true
rises_after-put before party [] rises above = rw above refl
rises_after-put before party (x ∷ xs) rises above =
    let parts = lt_parts (party_cmp before x) (rises_after x xs) rises in
    by_place (party_cmp x party) refl (rises_after-put x party xs parts.1)
  where
    by_place : (o : Ordering) → party_cmp x party ≡ o → (party_cmp x party ≡ Less → rises_after x (put_party party xs) ≡ true)
        → rises_after before (put_by o party x xs (put_party party xs)) ≡ true
    by_place Less place later = and_from _ _ (ap is_lt (lt_parts (party_cmp before x) (rises_after x xs) rises).0) (later place)
    by_place Equal place later = rises
    by_place Greater place later = and_from _ _ (ap is_lt above) (and_from _ _ (ap is_lt (party_cmp-back x party place)) (lt_parts (party_cmp before x) (rises_after x xs) rises).1)

-- a put keeps the list rising
pub parties_rise-put : (party : Party) (xs : List Party) → parties_rise xs ≡ true → parties_rise (put_party party xs) ≡ true
parties_rise-put party [] rises = refl
parties_rise-put party (x ∷ xs) rises = by_place (party_cmp x party) refl
  where
    by_place : (o : Ordering) → party_cmp x party ≡ o → parties_rise (put_by o party x xs (put_party party xs)) ≡ true
    by_place Less place = rises_after-put x party xs rises place
    by_place Equal place = rises
    by_place Greater place = and_from _ _ (ap is_lt (party_cmp-back x party place)) rises

-- so do those that are gathered
pub parties_rise-gathered : {A : Type 0} (of : A → Party) (rows : List A) (more : List Party) → parties_rise more ≡ true → parties_rise (gathered of rows more) ≡ true
unfolding gathered
parties_rise-gathered of [] more rises = rises
parties_rise-gathered of (row ∷ rows) more rises = parties_rise-put (of row) (gathered of rows more) (parties_rise-gathered of rows more rises)

pub parties_rise-holders : (s : Seen) → parties_rise (holders s) ≡ true
parties_rise-holders s = parties_rise-gathered opener_of s.opens _ (parties_rise-gathered known_of s.owners [] refl)

-- a put adds one party or none
pub length-put : (party : Party) (xs : List Party) → (length xs ≤ length (put_party party xs)) × (length (put_party party xs) ≤ length xs + 1)
length-put party [] = (omega arith, omega arith)
length-put party (x ∷ xs) = by_place (party_cmp x party) (length-put party xs)
  where
    by_place : (o : Ordering) → (length xs ≤ length (put_party party xs)) × (length (put_party party xs) ≤ length xs + 1)
        → (length (x ∷ xs) ≤ length (put_by o party x xs (put_party party xs))) × (length (put_by o party x xs (put_party party xs)) ≤ length (x ∷ xs) + 1)
    by_place Less later = (omega (arith, later.0), omega (arith, later.1))
    by_place Equal later = (omega arith, omega arith)
    by_place Greater later = (omega arith, omega arith)

-- there are no more than rows, beside those that were there
pub gathered_fit : {A : Type 0} (of : A → Party) (rows : List A) (more : List Party) → length (gathered of rows more) ≤ length rows + length more
unfolding gathered
gathered_fit of [] more = omega arith
gathered_fit of (row ∷ rows) more = omega (arith, (length-put (of row) (gathered of rows more)).1, gathered_fit of rows more)

pub holders_fit : (s : Seen) → length (holders s) ≤ length s.opens + length s.owners
holders_fit s = omega (arith, gathered_fit opener_of s.opens (gathered known_of s.owners []), gathered_fit known_of s.owners [])

-- ---- Where a binary search puts a party

-- of two parties that rise the first stands no further behind a third
steps_up : (p a b : Party) → party_cmp a b ≡ Less → ordering_index (party_cmp a p) ≤ ordering_index (party_cmp b p)
steps_up p a b rises = by_second (party_cmp b p) refl
  where
    last : (o : Ordering) → ordering_index o ≤ 2
    last Less = omega arith
    last Equal = omega arith
    last Greater = omega arith

    by_second : (o : Ordering) → party_cmp b p ≡ o → ordering_index (party_cmp a p) ≤ ordering_index o
    by_second Less below = rw (party_cmp-total.trans a b p rises below) (omega arith)
    by_second Equal same = rw (← party_cmp-is b p same, rises) (omega arith)
    by_second Greater above = last (party_cmp a p)

next_rises : (p : Party) (xs : List Party) → parties_rise xs ≡ true → AllAdjacentBelow (λ x y. ordering_index (party_cmp x p) ≤ ordering_index (party_cmp y p)) xs (length xs)
next_rises p [] rises k d below = absurd (omega (arith, below))
next_rises p (x ∷ []) rises k d below = absurd (omega (arith, below))
next_rises p (x ∷ y ∷ ys) rises zero d below = steps_up p x y (lt_parts (party_cmp x y) (rises_after y ys) rises).0
next_rises p (x ∷ y ∷ ys) rises (suc k) d below =
    let next : suc k + 1 ≡ suc (k + 1) = omega arith in
    rw next (next_rises p (y ∷ ys) (lt_parts (party_cmp x y) (rises_after y ys) rises).1 k d (omega (arith, below)))

-- in a rising list the parties before a party come first, and those behind it last
places_rise : (p : Party) (xs : List Party) → parties_rise xs ≡ true → IsNonDecreasingBy (λ y. ordering_index (party_cmp y p)) xs
places_rise p xs rises = IsNonDecreasingBy-from_all_adjacent (λ y. ordering_index (party_cmp y p)) xs (next_rises p xs rises)

rest_rises : (x : Party) (xs : List Party) → parties_rise (x ∷ xs) ≡ true → parties_rise xs ≡ true
rest_rises x [] rises = refl
rest_rises x (y ∷ ys) rises = (lt_parts (party_cmp x y) (rises_after y ys) rises).1

-- a party that is there stays
pub put_found : (p : Party) (xs : List Party) (i : ℕ) → parties_rise xs ≡ true → i < length xs → HoldsAt (λ y. party_cmp y p ≡ Equal) xs i → put_party p xs ≡ xs
put_found p [] i rises below found = absurd (omega (arith, below))
put_found p (x ∷ xs) zero rises below found = rw (found x) refl
put_found p (x ∷ xs) (suc i) rises below found =
    by_place (party_cmp x p) (omega (arith, places_rise p (x ∷ xs) rises 0 (suc i) x (omega arith) below, ap ordering_index (found x))) (put_found p xs i (rest_rises x xs rises) (omega (arith, below)) found)
  where
    by_place : (o : Ordering) → ordering_index o ≤ 1 → put_party p xs ≡ xs → put_by o p x xs (put_party p xs) ≡ x ∷ xs
    by_place Less le later = ap (λ ys. x ∷ ys) later
    by_place Equal le later = refl
    by_place Greater le later = absurd (omega (arith, le))

-- a party that isn't comes in between
pub put_missing : (p : Party) (xs : List Party) (i : ℕ) → i ≤ length xs → AllWithin (λ y. party_cmp y p ≡ Less) xs 0 i → AllWithin (λ y. party_cmp y p ≡ Greater) xs i (length xs)
    → put_party p xs ≡ insert xs i p
put_missing p [] zero fits before behind = refl
put_missing p [] (suc i) fits before behind = absurd (omega (arith, fits))
put_missing p (x ∷ xs) zero fits before behind = rw (behind 0 x (omega arith) (omega arith)) refl
put_missing p (x ∷ xs) (suc i) fits before behind =
    rw (before 0 x (omega arith) (omega arith))
    (ap (λ ys. x ∷ ys) (put_missing p xs i (omega (arith, fits)) (λ k d low high. before (suc k) d (omega arith) (omega (arith, high))) (λ k d low high. behind (suc k) d (omega (arith, low)) (omega (arith, high)))))

-- what a binary search answers is the place of a put
pub put_by_search : (p : Party) (xs : List Party) (r : Result ℕ ℕ) → parties_rise xs ≡ true → IsSearchInRange r (length xs) → IsBinarySearchResult (λ y. party_cmp y p) xs r
    → MatchResult r (λ _. put_party p xs ≡ xs) (λ i. put_party p xs ≡ insert xs i p)
put_by_search p xs (Ok i) rises range found = put_found p xs i rises range found
put_by_search p xs (Err i) rises range missing =
    let parts = missing (places_rise p xs rises) in
    put_missing p xs i range parts.0 parts.1

-- ---- How many rows an event leaves

length-put_open : (row : OpenRow) (rows : List OpenRow) → length (put_open row rows) ≤ length rows + 1
length-put_open row [] = omega arith
length-put_open row (x ∷ xs) = by_head (x.counter == row.counter) (length-put_open row xs)
  where
    by_head : (b : Bool) → length (put_open row xs) ≤ length xs + 1 → length (cond b (row ∷ xs) (x ∷ put_open row xs)) ≤ length (x ∷ xs) + 1
    by_head true later = omega arith
    by_head false later = omega (arith, later)

length-filter-le : (p : OpenRow → Bool) (rows : List OpenRow) → length (filter p rows) ≤ length rows
length-filter-le p [] = omega arith
length-filter-le p (x ∷ xs) = by_head (p x) (length-filter-le p xs)
  where
    by_head : (b : Bool) → length (filter p xs) ≤ length xs → length (cond b (x ∷ filter p xs) (filter p xs)) ≤ length (x ∷ xs)
    by_head true later = omega (arith, later)
    by_head false later = omega (arith, later)

opens_grow : (word : OpenWord) (rows : List OpenRow) → length (opens_after word rows) ≤ length rows + 1
unfolding opens_after
opens_grow Keep rows = omega arith
opens_grow (Put row) rows = length-put_open row rows
opens_grow (Drop counter) rows = omega (arith, length-filter-le (λ (x : OpenRow). not (x.counter == counter)) rows)
opens_grow (DropOf party) rows = omega (arith, length-filter-le (λ (x : OpenRow). not (same_party party x.owner.instance)) rows)

length-put_owner : (row : OwnerRow) (rows : List OwnerRow) → length (put_owner row rows) ≤ length rows + 1
length-put_owner row [] = omega arith
length-put_owner row (x ∷ xs) = by_head (same_owner row.owner x.owner) (length-put_owner row xs)
  where
    by_head : (b : Bool) → length (put_owner row xs) ≤ length xs + 1 → length (cond b (row ∷ xs) (x ∷ put_owner row xs)) ≤ length (x ∷ xs) + 1
    by_head true later = omega arith
    by_head false later = omega (arith, later)

length-filter-owners : (p : OwnerRow → Bool) (rows : List OwnerRow) → length (filter p rows) ≤ length rows
length-filter-owners p [] = omega arith
length-filter-owners p (x ∷ xs) = by_head (p x) (length-filter-owners p xs)
  where
    by_head : (b : Bool) → length (filter p xs) ≤ length xs → length (cond b (x ∷ filter p xs) (filter p xs)) ≤ length (x ∷ xs)
    by_head true later = omega (arith, later)
    by_head false later = omega (arith, later)

owners_grow : (word : OwnerWord) (rows : List OwnerRow) → length (owners_after word rows) ≤ length rows + 1
unfolding owners_after
owners_grow Stays rows = omega arith
owners_grow (Noted row closed) rows = length-put_owner row rows
owners_grow (Gone owner) rows = omega (arith, length-filter-owners (λ (x : OwnerRow). not (same_owner owner x.owner)) rows)
owners_grow (GoneOf party) rows = omega (arith, length-filter-owners (λ (x : OwnerRow). not (same_party party x.owner.instance)) rows)

-- ---- an event opens something or starts a lock owner, and not both

lock_opens : (n : Now) (caller : Option Party) (file : ℕ) (args : LockArgs) (value : ReplyValue) → (lock_words n caller file args value).opens ≡ Keep
lock_opens n caller file args (told.Lock o) = (lock_keeps n caller file args o).opens
lock_opens n caller file args told.Nothing = refl
lock_opens n caller file args (told.Access _) = refl
lock_opens n caller file args (told.Close _) = refl
lock_opens n caller file args (told.Commit _) = refl
lock_opens n caller file args (told.Create _) = refl
lock_opens n caller file args (told.GetAttr _) = refl
lock_opens n caller file args (told.LockTest _) = refl
lock_opens n caller file args (told.Lookup _) = refl
lock_opens n caller file args (told.LookupP _) = refl
lock_opens n caller file args (told.Open _) = refl
lock_opens n caller file args (told.OpenConfirm _) = refl
lock_opens n caller file args (told.OpenDowngrade _) = refl
lock_opens n caller file args (told.Read _) = refl
lock_opens n caller file args (told.ReadDir _) = refl
lock_opens n caller file args (told.ReleaseLockOwner _) = refl
lock_opens n caller file args (told.Remove _) = refl
lock_opens n caller file args (told.SetAttr _) = refl
lock_opens n caller file args (told.Unlock _) = refl
lock_opens n caller file args (told.Write _) = refl

release_opens : (caller : Option Party) (text : List ℕ) (value : ReplyValue) → (release_words caller text value).opens ≡ Keep
release_opens caller text value = by_test (is_released value) caller
  where
    by_test : (b : Bool) (caller : Option Party) → (cond b (released_words caller text) no_words).opens ≡ Keep
    by_test false caller = refl
    by_test true None = refl
    by_test true (Some party) = refl

one_grows : (n : Now) (call : Call) (r : Reply) (caller : Option Party) (file : ℕ) (d : Deed) (value : ReplyValue)
    → ((deed_words n caller file d value).opens ≡ Keep) ⊎ (started_by n call r d value ≡ Stays)
unfolding started_by
one_grows n call r caller file (deed.Lock args) value = inl (lock_opens n caller file args value)
one_grows n call r caller file (deed.ReleaseLockOwner args) value = inl (release_opens caller args.owner value)
one_grows n call r caller file (deed.Access _) value = inr refl
one_grows n call r caller file (deed.Close _) value = inr refl
one_grows n call r caller file (deed.Commit _) value = inr refl
one_grows n call r caller file (deed.Create _) value = inr refl
one_grows n call r caller file (deed.GetAttr _) value = inr refl
one_grows n call r caller file (deed.LockTest _) value = inr refl
one_grows n call r caller file (deed.Lookup _) value = inr refl
one_grows n call r caller file deed.LookupP value = inr refl
one_grows n call r caller file (deed.Open _) value = inr refl
one_grows n call r caller file (deed.OpenConfirm _) value = inr refl
one_grows n call r caller file (deed.OpenDowngrade _) value = inr refl
one_grows n call r caller file (deed.Read _) value = inr refl
one_grows n call r caller file (deed.ReadDir _) value = inr refl
one_grows n call r caller file (deed.Remove _) value = inr refl
one_grows n call r caller file (deed.SetAttr _) value = inr refl
one_grows n call r caller file (deed.Unlock _) value = inr refl
one_grows n call r caller file (deed.Write _) value = inr refl

words_grow : (word : OpenWord) (start : OwnerWord) (owners : List OwnerRow) (opens : List OpenRow) → (word ≡ Keep) ⊎ (start ≡ Stays)
    → length (opens_after word opens) + length (owners_after start owners) ≤ length opens + length owners + 1
unfolding opens_after owners_after
words_grow word start owners opens (inl keeps) = rw keeps (omega (arith, owners_grow start owners))
words_grow word start owners opens (inr stays) = rw stays (omega (arith, opens_grow word opens))

-- an event adds at most two opens and owners
pub rows_grow : (s : Seen) (event : Event) (reply : Reply)
    → length (after s event reply).opens + length (after s event reply).owners ≤ length s.opens + length s.owners + 2
unfolding after_words words
rows_grow s (Ended party) reply =
    omega (arith, words_grow (DropOf party) Stays (owners_after (GoneOf party) s.owners) s.opens (inr refl), owners_grow (GoneOf party) s.owners)
rows_grow s (Asked call verdict) reply = by_acts (acts (look s) call reply)
  where
    word : OwnerWord
    word = owner_word (look s) call reply

    by_acts : (b : Bool)
        → length (opens_after (cond b (deed_words (look s) call.caller call.file call.deed reply.value) no_words).opens s.opens)
        + length (owners_after (cond b (started_by (look s) call reply call.deed reply.value) Stays) (owners_after word s.owners)) ≤ length s.opens + length s.owners + 2
    by_acts true =
        omega (
          arith,
          words_grow (deed_words (look s) call.caller call.file call.deed reply.value).opens (started_by (look s) call reply call.deed reply.value)
              (owners_after word s.owners) s.opens (one_grows (look s) call reply call.caller call.file call.deed reply.value),
          owners_grow word s.owners,
        )
    by_acts false = omega (arith, words_grow Keep Stays (owners_after word s.owners) s.opens (inr refl), owners_grow word s.owners)
