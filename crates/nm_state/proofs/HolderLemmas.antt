-- The list of holders as it grows: where a party is put into it, and what it has of the last rows.
use Rattle.std.proofs.Common.{◌≡◌, ◌≤◌, ◌<◌, ℕ, zero, suc, ◌+◌, ◌-◌, true, List, [], ◌∷◌, length, drop, Result, Ok, Err, refl, ap, sym, ◌∙◌, arith}
use Rattle.std.proofs.Math.Seq.{drop-length}
use Rattle.std.proofs.lemmas.List.{drop_more}
use Rattle.std.specs.Prelude.{slice_index_or}
use Rattle.std.specs.List.Sorted.{IsSearchInRange, IsBinarySearchResult}
use Rattle.std.specs.Result.{result_err}
use Rattle.nm_types.specs.Parties.{Party, party_cmp}
use Rattle.nm_rules.specs.Holders.{gathered, known_of, opener_of, parties_rise, put_party}
use Rattle.nm_types.specs.declared.owners.OwnerRow.{OwnerRow}
use Rattle.nm_types.specs.declared.rows.OpenRow.{OpenRow}
use Rattle.nm_rules.proofs.HolderLaws.{put_by_search, length-put, parties_rise-gathered}
use Rattle.nm_state.specs.Listing.{put_at}

-- a binary search that finds no party gives the place for it
pub place_found : (p : Party) (xs : List Party) (r : Result ℕ ℕ) → parties_rise xs ≡ true → IsSearchInRange r (length xs) → IsBinarySearchResult (λ y. party_cmp y p) xs r
    → put_party p xs ≡ put_at (result_err r) p xs
place_found p xs (Ok i) rises range found = put_by_search p xs (Ok i) rises range found
place_found p xs (Err i) rises range missing = put_by_search p xs (Err i) rises range missing

-- The list has what it had at first and the parties of the rows from a place on, where there was room for so many at first and now.
pub record Listed {A : Type 0} (of : A → Party) (rows : List A) (at : ℕ) (before parties : List Party) (first now : ℕ) : Type 0 where
  pub held : parties ≡ gathered of (drop at rows) before
  pub room : first ≤ now

pub listed_rises : {A : Type 0} (of : A → Party) (rows : List A) (at : ℕ) (before parties : List Party) (first now : ℕ) → parties_rise before ≡ true
    → Listed of rows at before parties first now → parties_rise parties ≡ true
listed_rises of rows at before parties first now rises listed = rw listed.held (parties_rise-gathered of (drop at rows) before rises)

-- no row yet
pub listed_none : {A : Type 0} (of : A → Party) (rows : List A) (before : List Party) (room : ℕ) → Listed of rows (length rows) before before room room
unfolding gathered
listed_none of rows before room = record { held = sym (ap (λ r. gathered of r before) (drop-length rows)); room = omega arith }

row_more : {A : Type 0} (of : A → Party) (rows : List A) (at : ℕ) (row : A) (before : List Party) → 0 < at → at ≤ length rows
    → gathered of (drop (at - 1) rows) before ≡ put_party (of (slice_index_or rows (at - 1) row)) (gathered of (drop at rows) before)
unfolding gathered
row_more of rows at row before some fits =
    let next : at - 1 + 1 ≡ at = omega (arith, some) in
    ap (λ r. gathered of r before) (drop_more rows (at - 1) row (omega (arith, some, fits)))
    ∙ ap (λ n. put_party (of (slice_index_or rows (at - 1) row)) (gathered of (drop n rows) before)) next

-- one row more, from the end
pub listed_more : {A : Type 0} (of : A → Party) (rows : List A) (at : ℕ) (row : A) (before parties new : List Party) (first now later : ℕ) → 0 < at → at ≤ length rows
    → Listed of rows at before parties first now → new ≡ put_party (of (slice_index_or rows (at - 1) row)) parties → now ≤ later
    → Listed of rows (at - 1) before new first later
listed_more of rows at row before parties new first now later some fits listed put grows = record {
  held = put ∙ ap (put_party (of (slice_index_or rows (at - 1) row))) listed.held ∙ sym (row_more of rows at row before some fits);
  room = omega (arith, listed.room, grows);
}

-- later rows have no more parties than all
fewer : {A : Type 0} (of : A → Party) (at : ℕ) (rows : List A) (before : List Party) → length (gathered of (drop at rows) before) ≤ length (gathered of rows before)
unfolding gathered
fewer of zero rows before = omega arith
fewer of (suc at) [] before = omega arith
fewer of (suc at) (row ∷ rows) before = omega (arith, fewer of at rows before, (length-put (of row) (gathered of rows before)).0)

-- what has no room for one more has none for all
pub listed_full : {A : Type 0} (of : A → Party) (rows : List A) (at : ℕ) (row : A) (before parties : List Party) (first now : ℕ) → 0 < at → at ≤ length rows
    → Listed of rows at before parties first now → now < length (put_party (of (slice_index_or rows (at - 1) row)) parties) → first < length (gathered of rows before)
listed_full of rows at row before parties first now some fits listed full =
    let one : length (put_party (of (slice_index_or rows (at - 1) row)) parties) ≡ length (gathered of (drop (at - 1) rows) before) =
    ap (λ ps. length (put_party (of (slice_index_or rows (at - 1) row)) ps)) listed.held ∙ ap length (sym (row_more of rows at row before some fits)) in
    omega (arith, listed.room, full, one, fewer of (at - 1) rows before)

-- ---- opens and owners

pub none_rise : parties_rise [] ≡ true
none_rise = refl

pub known_rise : (rows : List OwnerRow) → parties_rise (gathered known_of rows []) ≡ true
known_rise rows = parties_rise-gathered known_of rows [] refl

-- what is there stays
fewest : {A : Type 0} (of : A → Party) (rows : List A) (before : List Party) → length before ≤ length (gathered of rows before)
unfolding gathered
fewest of [] before = omega arith
fewest of (row ∷ rows) before = omega (arith, fewest of rows before, (length-put (of row) (gathered of rows before)).0)

pub fewer_known : (opens : List OpenRow) (owners : List OwnerRow)
    → length (gathered known_of owners []) ≤ length (gathered opener_of opens (gathered known_of owners []))
fewer_known opens owners = fewest opener_of opens (gathered known_of owners [])
