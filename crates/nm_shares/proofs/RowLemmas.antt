-- What an OPEN leaves of the rows.
use Rattle.std.proofs.Common.{◌≡◌, ◌<◌, ◌≤◌, ℕ, ◌+◌, Bool, true, false, cond, List, [], ◌∷◌, ◌++◌, Option, Some, None, refl, ap, sym, ◌∙◌, arith, eqb-true}
use Rattle.std.specs.Prelude.{map, nat_lt, option_map, ◌==◌}
use Rattle.std.proofs.lemmas.Bool.Decides.{nat_tests}
use Rattle.std.proofs.lemmas.Bool.{and_parts}
use Rattle.nm_rules.specs.Shares.{put_open, put_if, open_at, open_of, opened_row, opens_after}
use Rattle.nm_rules.specs.Sound.{rises}
use Rattle.nm_types.specs.declared.rows.OpenRow.{OpenRow}
use Rattle.nm_types.specs.declared.calls.Owner.{Owner}
use Rattle.nm_shares.specs.Rows.{row_to_take, last_after, state_of, changed_row, changed_at, ChangedTo, Took}
use Rattle.nm_shares.specs.declared.rows.Change.{Change}
use Rattle.nm_shares.specs.declared.rows.Change.TheVariants.{Joined}
use Rattle.nm_rules.proofs.OpenRows.{in-open_at, open_at-in, rises-le, rises-put_new, rises-put_old}
use Rattle.nm_rules.proofs.Apart.{open_of-in}

-- Rows past a counter aren't changed by it.
map-past : (counter : ℕ) (change : Change) (above last : ℕ) (rows : List OpenRow) → rises above last rows ≡ true → counter ≤ above
    → map (changed_at counter change) rows ≡ rows
map-past counter change above last [] rising past = refl
map-past counter change above last (x ∷ xs) rising past =
    let parts = and_parts (nat_lt above x.counter) (rises x.counter last xs) rising in
    let other : (x.counter == counter) ≡ false = grind (arith, nat_tests, parts.0) in
    let low : counter ≤ x.counter = grind (arith, nat_tests, parts.0) in
    rw other (ap (λ rest. x ∷ rest) (map-past counter change x.counter last xs parts.1 low))

-- To change the row of a counter is to put the changed row.
map-found : (change : Change) (above last : ℕ) (rows : List OpenRow) (row : OpenRow) → rises above last rows ≡ true → open_at row.counter rows ≡ Some row
    → map (changed_at row.counter change) rows ≡ put_open (changed_row change row) rows
unfolding open_at
map-found change above last [] row rising found = cc
map-found change above last (x ∷ xs) row rising found =
    by_head (x.counter == row.counter) refl found (λ there. map-found change x.counter last xs row (and_parts (nat_lt above x.counter) (rises x.counter last xs) rising).1 there)
  where
    by_head : (b : Bool) → (x.counter == row.counter) ≡ b → cond b (Some x) (open_at row.counter xs) ≡ Some row
        → (open_at row.counter xs ≡ Some row → map (changed_at row.counter change) xs ≡ put_open (changed_row change row) xs)
        → cond b (changed_row change x) x ∷ map (changed_at row.counter change) xs ≡ cond b (changed_row change row ∷ xs) (x ∷ put_open (changed_row change row) xs)
    by_head true same here later =
        let it : x ≡ row = cc in
        rw (map-past row.counter change x.counter last xs (and_parts (nat_lt above x.counter) (rises x.counter last xs) rising).1 (omega (arith, eqb-true x.counter row.counter same)))
        (ap (λ (r : OpenRow). changed_row change r ∷ xs) it)
    by_head false other there later = ap (λ rest. x ∷ rest) (later there)

-- Where there is none, nothing changes.
map-none : (counter : ℕ) (change : Change) (rows : List OpenRow) → open_at counter rows ≡ None → map (changed_at counter change) rows ≡ rows
unfolding open_at
map-none counter change [] none = refl
map-none counter change (x ∷ xs) none = by_head (x.counter == counter) none (map-none counter change xs)
  where
    by_head : (b : Bool) → cond b (Some x) (open_at counter xs) ≡ None
        → (open_at counter xs ≡ None → map (changed_at counter change) xs ≡ xs)
        → cond b (changed_row change x) x ∷ map (changed_at counter change) xs ≡ x ∷ xs
    by_head true none later = cc
    by_head false none later = ap (λ rest. x ∷ rest) (later none)

pub changed_to : (counter : ℕ) (change : Change) (last : ℕ) (rows : List OpenRow) → rises 0 last rows ≡ true
    → ChangedTo counter change last rows (map (changed_at counter change) rows)
unfolding opens_after
changed_to counter change last rows rising = by_row (open_at counter rows) refl
  where
    by_row : (o : Option OpenRow) → open_at counter rows ≡ o → ChangedTo counter change last rows (map (changed_at counter change) rows)
    by_row None none =
        let same : map (changed_at counter change) rows ≡ rows = map-none counter change rows none in
        record { put = rw none same; rising = rw same rising }
    by_row (Some row) found =
        let its : row.counter ≡ counter = (open_at-in counter rows row found).1 in
        let there : open_at row.counter rows ≡ Some row = ap (λ k. open_at k rows) its ∙ found in
        let same : map (changed_at counter change) rows ≡ put_open (changed_row change row) rows =
        ap (λ k. map (changed_at k change) rows) (sym its) ∙ map-found change 0 last rows row rising there in
        record { put = rw found same; rising = rw same (rises-put_old 0 last rows (changed_row change row) row rising there) }

-- What rises up to a counter rises up to the next.
pub rises_further : (above last : ℕ) (rows : List OpenRow) → rises above last rows ≡ true → rises above (last + 1) rows ≡ true
rises_further above last [] rising = grind (arith, nat_tests)
rises_further above last (x ∷ xs) rising = grind (arith, nat_tests, rises_further x.counter last xs)

-- A put of a counter past all comes last.
pub put-past : (above last : ℕ) (rows : List OpenRow) (new : OpenRow) → rises above last rows ≡ true → last < new.counter → put_open new rows ≡ rows ++ new ∷ []
put-past above last [] new rising past = refl
put-past above last (x ∷ xs) new rising past =
    let parts = and_parts (nat_lt above x.counter) (rises x.counter last xs) rising in
    let low : x.counter ≤ last = rises-le x.counter last xs parts.1 in
    let other : (x.counter == new.counter) ≡ false = grind (arith, nat_tests) in
    rw other (ap (λ rest. x ∷ rest) (put-past x.counter last xs new parts.1 past))

-- where the owner has the file open, its share is joined
pub took_joined : (last : ℕ) (rows : List OpenRow) (owner : Owner) (file access deny : ℕ) (row : OpenRow) (new : List OpenRow)
    → rises 0 last rows ≡ true → open_of owner file rows ≡ Some row → ChangedTo row.counter (Joined access deny) last rows new
    → Took last rows owner file access deny new (state_of (changed_row (Joined access deny) row)) last
unfolding opened_row row_to_take last_after opens_after
took_joined last rows owner file access deny row new rising found changed =
    let there : open_at row.counter rows ≡ Some row = (in-open_at 0 last rows row rising (open_of-in owner file rows row found).0).0 in
    let it : row_to_take last rows owner file access deny ≡ changed_row (Joined access deny) row = ap (λ o. opened_row o (last + 1) file owner access deny) found in
    record {
      put = changed.put ∙ ap (λ o. opens_after (put_if (option_map (changed_row (Joined access deny)) o)) rows) there ∙ ap (λ r. put_open r rows) (sym it);
      state = ap state_of (sym it);
      drawn = rw found refl;
      rising = changed.rising;
    }

-- where it hasn't, the next counter is drawn
pub took_new : (last : ℕ) (rows : List OpenRow) (owner : Owner) (file access deny : ℕ) (new : OpenRow)
    → rises 0 last rows ≡ true → open_of owner file rows ≡ None
    → new ≡ record { counter = last + 1; seqid = 1; owner = owner; file = file; access = access; deny = deny }
    → Took last rows owner file access deny (rows ++ new ∷ []) (state_of new) (last + 1)
unfolding opened_row row_to_take last_after
took_new last rows owner file access deny new rising none it =
    let counter : new.counter ≡ last + 1 = ap (λ (r : OpenRow). r.counter) it in
    let behind : put_open new rows ≡ rows ++ new ∷ [] = put-past 0 last rows new rising (omega (arith, counter)) in
    let taken : new ≡ row_to_take last rows owner file access deny = it ∙ ap (λ o. opened_row o (last + 1) file owner access deny) (sym none) in
    record {
      put = sym behind ∙ ap (λ r. put_open r rows) taken;
      state = ap state_of taken;
      drawn = rw none refl;
      rising = rw (← behind) (rises-put_new 0 last rows new rising counter);
    }
