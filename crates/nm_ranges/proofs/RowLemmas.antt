-- One row more in each loop, and a row in its place.
use Rattle.std.proofs.Common.{◌≡◌, ◌≤◌, ◌<◌, ℕ, ◌+◌, ◌-◌, Bool, true, false, cond, List, [], ◌∷◌, ◌++◌, Option, Some, None, refl, ap, ◌∙◌, suc, arith, length, take, drop, get_or, append-nil, sym, subst}
use Rattle.std.proofs.lemmas.List.{drop_all, drop_more, take_more}
use Rattle.std.proofs.lemmas.Grind.{flat_map-append}
use Rattle.std.specs.Prelude.{not, nat_lt, insert, flat_map}
use Rattle.std.specs.List.{position, position_or_len}
use Rattle.std.proofs.lemmas.Bool.Decides.{nat_tests}
use Rattle.nm_rules.specs.Locks.{IsJoined, barrier, barrier_with, cleared, cut, dropped, is_before, joined, joined_after, put_range, set_to}
use Rattle.nm_rules.proofs.RangeApart.{cleared_joined, dropped_joined, set_joined}
use Rattle.nm_types.specs.declared.results.LockKind.{LockKind}
use Rattle.nm_types.specs.declared.rows.Held.{Held}
use Rattle.nm_ranges.specs.Rows.{RangesNow, joined_from, stays_behind}

-- one row more, from the end
pub barrier_more : (owner : ℕ) (kind : LockKind) (first last : ℕ) (rows : List Held) (at : ℕ) (d : Held) → 0 < at → at ≤ length rows
    → barrier owner kind first last (drop (at - 1) rows) ≡ barrier_with owner kind first last (get_or rows (at - 1) d) (barrier owner kind first last (drop at rows))
unfolding barrier
barrier_more owner kind first last rows at d some fits =
    let next : at - 1 + 1 ≡ at = omega (arith, some) in
    ap (λ r. barrier owner kind first last r) (drop_more rows (at - 1) d (omega (arith, some, fits)))
    ∙ ap (λ n. barrier_with owner kind first last (get_or rows (at - 1) d) (barrier owner kind first last (drop n rows))) next

-- no row yet
pub barrier_end : (owner : ℕ) (kind : LockKind) (first last : ℕ) (rows : List Held) (at : ℕ) → length rows ≤ at → barrier owner kind first last (drop at rows) ≡ None
unfolding barrier
barrier_end owner kind first last rows at past = ap (λ r. barrier owner kind first last r) (drop_all at rows past)

-- what is left of one row more
pub cleared_more : (owner first last : ℕ) (rows : List Held) (i : ℕ) (d : Held) → i < length rows
    → cleared owner first last (take (i + 1) rows) ≡ cleared owner first last (take i rows) ++ cut owner first last (get_or rows i d)
unfolding cleared
cleared_more owner first last rows i d within =
    ap (λ r. flat_map (cut owner first last) r) (take_more rows i d within)
    ∙ flat_map-append (cut owner first last) (take i rows) (get_or rows i d ∷ [])
    ∙ ap (λ r. flat_map (cut owner first last) (take i rows) ++ r) (append-nil (cut owner first last (get_or rows i d)))

-- one row more behind the one that waits
pub joined_more : (waiting : Option Held) (rows : List Held) (i : ℕ) (d : Held) → i < length rows
    → joined_from waiting (drop i rows) ≡ joined_from waiting (get_or rows i d ∷ drop (i + 1) rows)
joined_more waiting rows i d within = ap (λ r. joined_from waiting r) (drop_more rows i d within)

pub joined_end : (waiting : Option Held) (rows : List Held) (i : ℕ) → length rows ≤ i → joined_from waiting (drop i rows) ≡ joined_from waiting []
joined_end waiting rows i past = ap (λ r. joined_from waiting r) (drop_all i rows past)

-- ---- A row in its place

put_at : (new : Held) (rows : List Held) → position_or_len (stays_behind new) rows < length rows
    → insert rows (position_or_len (stays_behind new) rows) new ≡ put_range new rows
unfolding put_range
put_at new [] within = absurd (omega (arith, within))
put_at new (x ∷ xs) within = by_head (is_before x new) within (put_at new xs)
  where
    by_head : (b : Bool) → cond (not (not b)) (1 + position_or_len (stays_behind new) xs) 0 < length (x ∷ xs)
        → (position_or_len (stays_behind new) xs < length xs → insert xs (position_or_len (stays_behind new) xs) new ≡ put_range new xs)
        → insert (x ∷ xs) (cond (not (not b)) (1 + position_or_len (stays_behind new) xs) 0) new ≡ cond b (x ∷ put_range new xs) (new ∷ x ∷ xs)
    by_head true within later =
        let more : 1 + position_or_len (stays_behind new) xs ≡ suc (position_or_len (stays_behind new) xs) = omega arith in
        rw more (ap (λ rest. x ∷ rest) (later (omega (arith, within))))
    by_head false within later = refl

pub put_found : (new : Held) (rows : List Held) (at : ℕ) → position (stays_behind new) rows ≡ Some at → insert rows at new ≡ put_range new rows
put_found new rows at found = by_test (nat_lt (position_or_len (stays_behind new) rows) (length rows)) refl found
  where
    by_test : (b : Bool) → nat_lt (position_or_len (stays_behind new) rows) (length rows) ≡ b
        → cond b (Some (position_or_len (stays_behind new) rows)) None ≡ Some at → insert rows at new ≡ put_range new rows
    by_test true within same =
        let place : at ≡ position_or_len (stays_behind new) rows = cc in
        ap (λ i. insert rows i new) place ∙ put_at new rows (grind (arith, nat_tests))
    by_test false past same = cc

pub put_within : (new : Held) (rows : List Held) (at : ℕ) → position (stays_behind new) rows ≡ Some at → at ≤ length rows
put_within new rows at found = by_test (nat_lt (position_or_len (stays_behind new) rows) (length rows)) refl found
  where
    by_test : (b : Bool) → nat_lt (position_or_len (stays_behind new) rows) (length rows) ≡ b
        → cond b (Some (position_or_len (stays_behind new) rows)) None ≡ Some at → at ≤ length rows
    by_test true within same =
        let place : at ≡ position_or_len (stays_behind new) rows = cc in
        let low : position_or_len (stays_behind new) rows < length rows = grind (arith, nat_tests) in
        omega (arith, place, low)
    by_test false past same = cc

put_past : (new : Held) (rows : List Held) → nat_lt (position_or_len (stays_behind new) rows) (length rows) ≡ false → insert rows (length rows) new ≡ put_range new rows
unfolding put_range
put_past new [] past = refl
put_past new (x ∷ xs) past = by_head (is_before x new) past (put_past new xs)
  where
    by_head : (b : Bool) → nat_lt (cond (not (not b)) (1 + position_or_len (stays_behind new) xs) 0) (length (x ∷ xs)) ≡ false
        → (nat_lt (position_or_len (stays_behind new) xs) (length xs) ≡ false → insert xs (length xs) new ≡ put_range new xs)
        → insert (x ∷ xs) (length (x ∷ xs)) new ≡ cond b (x ∷ put_range new xs) (new ∷ x ∷ xs)
    by_head true past later = ap (λ rest. x ∷ rest) (later (grind (arith, nat_tests)))
    by_head false past later = absurd (grind (arith, nat_tests))

-- where all end before it, it comes last
pub put_last : (new : Held) (rows : List Held) → position (stays_behind new) rows ≡ None → insert rows (length rows) new ≡ put_range new rows
put_last new rows none = by_test (nat_lt (position_or_len (stays_behind new) rows) (length rows)) refl none
  where
    by_test : (b : Bool) → nat_lt (position_or_len (stays_behind new) rows) (length rows) ≡ b
        → cond b (Some (position_or_len (stays_behind new) rows)) None ≡ None → insert rows (length rows) new ≡ put_range new rows
    by_test true within same = cc
    by_test false past same = put_past new rows past

-- ---- What a change leaves is joined

pub set_stays : (owner : ℕ) (kind : LockKind) (first last : ℕ) (rows new : List Held) (now : RangesNow) → IsJoined rows → record { table = rows } ≡ now → first ≤ last
    → barrier owner kind first last now.table ≡ None → new ≡ set_to owner kind first last rows → IsJoined new
set_stays owner kind first last rows new now kept view order none is =
    subst (λ (r : List Held). IsJoined r) (sym is)
    (set_joined owner kind first last rows kept order (ap (λ (n : RangesNow). barrier owner kind first last n.table) view ∙ none))

pub clear_stays : (owner first last : ℕ) (rows new : List Held) → IsJoined rows → first ≤ last → new ≡ cleared owner first last rows → IsJoined new
clear_stays owner first last rows new kept order is = subst (λ (r : List Held). IsJoined r) (sym is) (cleared_joined owner first last rows kept order)

pub drop_stays : (owner : ℕ) (rows new : List Held) → IsJoined rows → new ≡ dropped owner rows → IsJoined new
drop_stays owner rows new kept is = subst (λ (r : List Held). IsJoined r) (sym is) (dropped_joined owner rows kept)

pub copy_stays : (rows new : List Held) → IsJoined rows → new ≡ rows → IsJoined new
copy_stays rows new kept is = subst (λ (r : List Held). IsJoined r) (sym is) kept

-- one row more is joined to the one that waits, or comes behind the others
pub joined_step : (left more : List Held) (waiting : Option Held) (next : Held) (rows : List Held) (i : ℕ) (d : Held) → i < length rows
    → ((rest : List Held) → more ++ joined_after next rest ≡ left ++ joined_from waiting (get_or rows i d ∷ rest))
    → left ++ joined_from waiting (drop i rows) ≡ joined rows → more ++ joined_from (Some next) (drop (i + 1) rows) ≡ joined rows
joined_step left more waiting next rows i d within step before =
    step (drop (i + 1) rows) ∙ ap (λ r. left ++ r) (sym (joined_more waiting rows i d within)) ∙ before

pub joined_done : (left more : List Held) (waiting : Option Held) (rows : List Held) (i : ℕ) → length rows ≤ i
    → more ≡ left ++ joined_from waiting [] → left ++ joined_from waiting (drop i rows) ≡ joined rows → more ≡ joined rows
joined_done left more waiting rows i past last before = last ∙ ap (λ r. left ++ r) (sym (joined_end waiting rows i past)) ∙ before
