-- To change the row at the place that a test finds is to change the first row that meets the test.
use Rattle.std.proofs.Common.{◌≡◌, ◌<◌, ℕ, ◌+◌, Bool, true, false, cond, List, [], ◌∷◌, ◌++◌, Option, Some, None, refl, ap, sym, ◌∙◌, suc, arith, length, set, get_or}
use Rattle.std.specs.Prelude.{not, nat_lt, find}
use Rattle.std.specs.List.{position, position_or_len}
use Rattle.std.proofs.lemmas.Bool.Decides.{nat_tests}
use Rattle.nm_types.specs.Parties.{Party}
use Rattle.nm_roll.specs.Records.{change_first, change_string, has_string, new_string}
use Rattle.nm_roll.specs.Clients.{waits_for_other}
use Rattle.nm_roll.specs.Moves.{brought, brought_row}
use Rattle.nm_roll.specs.declared.records.Confirmed.{Confirmed}
use Rattle.nm_roll.specs.declared.records.Unconfirmed.{Unconfirmed}
use Rattle.nm_roll.specs.declared.records.StringRow.{StringRow}

change_at : (test : StringRow → Bool) (change : StringRow → StringRow) (rows : List StringRow) (d : StringRow)
    → position_or_len test rows < length rows
    → set rows (position_or_len test rows) (change (get_or rows (position_or_len test rows) d)) ≡ change_first test change rows
unfolding change_first
change_at test change [] d within = absurd (omega (arith, within))
change_at test change (x ∷ xs) d within = by_head (test x) within (change_at test change xs d)
  where
    by_head : (b : Bool) → cond (not b) (1 + position_or_len test xs) 0 < length (x ∷ xs)
        → (position_or_len test xs < length xs
        → set xs (position_or_len test xs) (change (get_or xs (position_or_len test xs) d)) ≡ change_first test change xs)
        → set (x ∷ xs) (cond (not b) (1 + position_or_len test xs) 0) (change (get_or (x ∷ xs) (cond (not b) (1 + position_or_len test xs) 0) d))
        ≡ cond b (change x ∷ xs) (x ∷ change_first test change xs)
    by_head true within later = refl
    by_head false within later =
        let more : 1 + position_or_len test xs ≡ suc (position_or_len test xs) = omega arith in
        rw more (ap (λ rest. x ∷ rest) (later (omega (arith, within))))

find_at : (test : StringRow → Bool) (rows : List StringRow) (d : StringRow)
    → position_or_len test rows < length rows → find test rows ≡ Some (get_or rows (position_or_len test rows) d)
find_at test [] d within = absurd (omega (arith, within))
find_at test (x ∷ xs) d within = by_head (test x) within (find_at test xs d)
  where
    by_head : (b : Bool) → cond (not b) (1 + position_or_len test xs) 0 < length (x ∷ xs)
        → (position_or_len test xs < length xs → find test xs ≡ Some (get_or xs (position_or_len test xs) d))
        → cond b (Some x) (find test xs) ≡ Some (get_or (x ∷ xs) (cond (not b) (1 + position_or_len test xs) 0) d)
    by_head true within later = refl
    by_head false within later =
        let more : 1 + position_or_len test xs ≡ suc (position_or_len test xs) = omega arith in
        rw more (later (omega (arith, within)))

change_behind : (test : StringRow → Bool) (change : StringRow → StringRow) (rows : List StringRow)
    → nat_lt (position_or_len test rows) (length rows) ≡ false → rows ≡ change_first test change rows
unfolding change_first
change_behind test change [] past = refl
change_behind test change (x ∷ xs) past = by_head (test x) past (change_behind test change xs)
  where
    by_head : (b : Bool) → nat_lt (cond (not b) (1 + position_or_len test xs) 0) (length (x ∷ xs)) ≡ false
        → (nat_lt (position_or_len test xs) (length xs) ≡ false → xs ≡ change_first test change xs)
        → x ∷ xs ≡ cond b (change x ∷ xs) (x ∷ change_first test change xs)
    by_head true past later = absurd (grind (arith, nat_tests))
    by_head false past later = ap (λ rest. x ∷ rest) (later (grind (arith, nat_tests)))

find_behind : (test : StringRow → Bool) (rows : List StringRow)
    → nat_lt (position_or_len test rows) (length rows) ≡ false → find test rows ≡ None
find_behind test [] past = refl
find_behind test (x ∷ xs) past = by_head (test x) past (find_behind test xs)
  where
    by_head : (b : Bool) → nat_lt (cond (not b) (1 + position_or_len test xs) 0) (length (x ∷ xs)) ≡ false
        → (nat_lt (position_or_len test xs) (length xs) ≡ false → find test xs ≡ None)
        → cond b (Some x) (find test xs) ≡ None
    by_head true past later = absurd (grind (arith, nat_tests))
    by_head false past later = later (grind (arith, nat_tests))

string_at_place : (id : List ℕ) (change : StringRow → StringRow) (rows : List StringRow) (d : StringRow)
    → position_or_len (has_string id) rows < length rows
    → set rows (position_or_len (has_string id) rows) (change (get_or rows (position_or_len (has_string id) rows) d)) ≡ change_string id change rows
unfolding change_string
string_at_place id change [] d within = absurd (omega (arith, within))
string_at_place id change (x ∷ xs) d within = by_head (has_string id x) within (string_at_place id change xs d)
  where
    by_head : (b : Bool) → cond (not b) (1 + position_or_len (has_string id) xs) 0 < length (x ∷ xs)
        → (position_or_len (has_string id) xs < length xs
        → set xs (position_or_len (has_string id) xs) (change (get_or xs (position_or_len (has_string id) xs) d)) ≡ change_string id change xs)
        → set (x ∷ xs) (cond (not b) (1 + position_or_len (has_string id) xs) 0)
        (change (get_or (x ∷ xs) (cond (not b) (1 + position_or_len (has_string id) xs) 0) d))
        ≡ cond b (change x ∷ xs) (x ∷ change_string id change xs)
    by_head true within later = refl
    by_head false within later =
        let more : 1 + position_or_len (has_string id) xs ≡ suc (position_or_len (has_string id) xs) = omega arith in
        rw more (ap (λ rest. x ∷ rest) (later (omega (arith, within))))

string_behind : (id : List ℕ) (change : StringRow → StringRow) (rows : List StringRow)
    → nat_lt (position_or_len (has_string id) rows) (length rows) ≡ false
    → rows ++ change (new_string id) ∷ [] ≡ change_string id change rows
unfolding change_string
string_behind id change [] past = refl
string_behind id change (x ∷ xs) past = by_head (has_string id x) past (string_behind id change xs)
  where
    by_head : (b : Bool) → nat_lt (cond (not b) (1 + position_or_len (has_string id) xs) 0) (length (x ∷ xs)) ≡ false
        → (nat_lt (position_or_len (has_string id) xs) (length xs) ≡ false → xs ++ change (new_string id) ∷ [] ≡ change_string id change xs)
        → x ∷ (xs ++ change (new_string id) ∷ []) ≡ cond b (change x ∷ xs) (x ∷ change_string id change xs)
    by_head true past later = absurd (grind (arith, nat_tests))
    by_head false past later = ap (λ rest. x ∷ rest) (later (grind (arith, nat_tests)))

-- ---- by what `position` answers

pub changed_found : (test : StringRow → Bool) (change : StringRow → StringRow) (rows : List StringRow) (d : StringRow) (at : ℕ)
    → position test rows ≡ Some at → set rows at (change (get_or rows at d)) ≡ change_first test change rows
changed_found test change rows d at found = by_test (nat_lt (position_or_len test rows) (length rows)) refl found
  where
    by_test : (b : Bool) → nat_lt (position_or_len test rows) (length rows) ≡ b
        → cond b (Some (position_or_len test rows)) None ≡ Some at → set rows at (change (get_or rows at d)) ≡ change_first test change rows
    by_test true within same =
        let place : at ≡ position_or_len test rows = cc in
        ap (λ i. set rows i (change (get_or rows i d))) place ∙ change_at test change rows d (grind (arith, nat_tests))
    by_test false past same = cc

pub found_at : (test : StringRow → Bool) (rows : List StringRow) (d : StringRow) (at : ℕ)
    → position test rows ≡ Some at → find test rows ≡ Some (get_or rows at d)
found_at test rows d at found = by_test (nat_lt (position_or_len test rows) (length rows)) refl found
  where
    by_test : (b : Bool) → nat_lt (position_or_len test rows) (length rows) ≡ b
        → cond b (Some (position_or_len test rows)) None ≡ Some at → find test rows ≡ Some (get_or rows at d)
    by_test true within same =
        let place : at ≡ position_or_len test rows = cc in
        find_at test rows d (grind (arith, nat_tests)) ∙ ap (λ i. Some (get_or rows i d)) (sym place)
    by_test false past same = cc

pub same_where_none : (test : StringRow → Bool) (change : StringRow → StringRow) (rows : List StringRow)
    → position test rows ≡ None → rows ≡ change_first test change rows
same_where_none test change rows none = by_test (nat_lt (position_or_len test rows) (length rows)) refl none
  where
    by_test : (b : Bool) → nat_lt (position_or_len test rows) (length rows) ≡ b
        → cond b (Some (position_or_len test rows)) None ≡ None → rows ≡ change_first test change rows
    by_test true within same = cc
    by_test false past same = change_behind test change rows past

pub none_found : (test : StringRow → Bool) (rows : List StringRow) → position test rows ≡ None → find test rows ≡ None
none_found test rows none = by_test (nat_lt (position_or_len test rows) (length rows)) refl none
  where
    by_test : (b : Bool) → nat_lt (position_or_len test rows) (length rows) ≡ b
        → cond b (Some (position_or_len test rows)) None ≡ None → find test rows ≡ None
    by_test true within same = cc
    by_test false past same = find_behind test rows past

pub string_found : (id : List ℕ) (change : StringRow → StringRow) (rows : List StringRow) (d : StringRow) (at : ℕ)
    → position (has_string id) rows ≡ Some at → set rows at (change (get_or rows at d)) ≡ change_string id change rows
string_found id change rows d at found = by_test (nat_lt (position_or_len (has_string id) rows) (length rows)) refl found
  where
    by_test : (b : Bool) → nat_lt (position_or_len (has_string id) rows) (length rows) ≡ b
        → cond b (Some (position_or_len (has_string id) rows)) None ≡ Some at → set rows at (change (get_or rows at d)) ≡ change_string id change rows
    by_test true within same =
        let place : at ≡ position_or_len (has_string id) rows = cc in
        ap (λ i. set rows i (change (get_or rows i d))) place ∙ string_at_place id change rows d (grind (arith, nat_tests))
    by_test false past same = cc

pub string_added : (id : List ℕ) (change : StringRow → StringRow) (rows : List StringRow)
    → position (has_string id) rows ≡ None → rows ++ change (new_string id) ∷ [] ≡ change_string id change rows
string_added id change rows none = by_test (nat_lt (position_or_len (has_string id) rows) (length rows)) refl none
  where
    by_test : (b : Bool) → nat_lt (position_or_len (has_string id) rows) (length rows) ≡ b
        → cond b (Some (position_or_len (has_string id) rows)) None ≡ None → rows ++ change (new_string id) ∷ [] ≡ change_string id change rows
    by_test true within same = cc
    by_test false past same = string_behind id change rows past

-- ---- by the row at that place

pub changed_at_place : (test : StringRow → Bool) (change : StringRow → StringRow) (rows : List StringRow) (at : ℕ) (row new : StringRow)
    → position test rows ≡ Some at → row ≡ get_or rows at row → new ≡ change row → set rows at new ≡ change_first test change rows
changed_at_place test change rows at row new found there is =
    ap (λ (n : StringRow). set rows at n) (is ∙ ap change there) ∙ changed_found test change rows row at found

pub answered_at_place : {A : Type 0} (test : StringRow → Bool) (f : Option StringRow → A) (rows : List StringRow) (at : ℕ) (row : StringRow) (a : A)
    → position test rows ≡ Some at → row ≡ get_or rows at row → a ≡ f (Some row) → a ≡ f (find test rows)
answered_at_place test f rows at row a found there is =
    is ∙ ap f (ap (λ (x : StringRow). Some x) there ∙ sym (found_at test rows row at found))

pub answered_nowhere : {A : Type 0} (test : StringRow → Bool) (f : Option StringRow → A) (rows : List StringRow) (a : A)
    → position test rows ≡ None → a ≡ f None → a ≡ f (find test rows)
answered_nowhere test f rows a none is = is ∙ ap f (sym (none_found test rows none))

pub string_changed : (id : List ℕ) (change : StringRow → StringRow) (rows : List StringRow) (at : ℕ) (row new : StringRow)
    → position (has_string id) rows ≡ Some at → row ≡ get_or rows at row → new ≡ change row → set rows at new ≡ change_string id change rows
string_changed id change rows at row new found there is =
    ap (λ (n : StringRow). set rows at n) (is ∙ ap change there) ∙ string_found id change rows row at found

pub string_pushed : (id : List ℕ) (change : StringRow → StringRow) (rows : List StringRow) (row : StringRow)
    → position (has_string id) rows ≡ None → row ≡ change (new_string id) → rows ++ row ∷ [] ≡ change_string id change rows
string_pushed id change rows row none is = ap (λ (r : StringRow). rows ++ r ∷ []) is ∙ string_added id change rows none

abbrev pub brought_as : List ℕ → Confirmed → StringRow
brought_as id c = record { id = id; confirmed = Some c; unconfirmed = None }

pub brought_pushed : (clock clientid : ℕ) (party : Party) (rows : List StringRow) (id : List ℕ) (c : Confirmed)
    → position (has_string party.id) rows ≡ None → id ≡ party.id → c ≡ brought clock clientid party
    → rows ++ brought_as id c ∷ [] ≡ change_string party.id (brought_row clock clientid party) rows
unfolding waits_for_other
brought_pushed clock clientid party rows id c none same is =
    string_pushed party.id (brought_row clock clientid party) rows (brought_as id c) none
    (ap (λ (s : List ℕ). brought_as s c) same ∙ ap (λ (k : Confirmed). brought_as party.id k) is)

abbrev pub waiting_as : List ℕ → Unconfirmed → StringRow
waiting_as id u = record { id = id; confirmed = None; unconfirmed = Some u }
