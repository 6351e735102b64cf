-- Look-ups in the table of files after it changed.
use Rattle.std.proofs.Common.{◌≡◌, ℕ, ◌+◌, Bool, true, false, cond, List, [], ◌∷◌, ◌++◌, Option, Some, None, refl, ap, sym, ◌∙◌, arith, eqb-true}
use Rattle.std.specs.Prelude.{find, option_map, map, filter, not, ◌&&◌, ◌==◌, ◌<◌, ◌≤◌}
use Rattle.std.specs.Str.{bytes_eq}
use Rattle.std.proofs.lemmas.Bool.{false≢true, true≢false, and_parts}
use Rattle.std.proofs.lemmas.Bool.Decides.{nat_tests}
use Rattle.std.proofs.lemmas.Slice.Eq.{bytes_eq-Decides}
use Rattle.nm_rules.specs.Contents.{file_at, child_at, is_named, stamped, edited_at, edited, FileEdit}
use Rattle.nm_rules.specs.Contents.FileEdit.{Wrote, Set}
use Rattle.nm_rules.specs.Sound.{files_rise}
use Rattle.nm_types.specs.declared.rows.FileRow.{FileRow}

-- a change of rows that keeps what they are found by
pub record Keeps (change : FileRow → FileRow) : Type 0 where
  pub number : (row : FileRow) → (change row).number ≡ row.number
  pub parent : (row : FileRow) → (change row).parent ≡ row.parent
  pub name : (row : FileRow) → (change row).name ≡ row.name

pub stamped_keeps : (change number : ℕ) → Keeps (stamped change number)
stamped_keeps change number = record {
  number = λ row. by_number row (row.number == number);
  parent = λ row. by_parent row (row.number == number);
  name = λ row. by_name row (row.number == number);
}
  where
    by_number : (row : FileRow) (b : Bool) → (cond b (record row { change = change }) row).number ≡ row.number
    by_number row true = refl
    by_number row false = refl

    by_parent : (row : FileRow) (b : Bool) → (cond b (record row { change = change }) row).parent ≡ row.parent
    by_parent row true = refl
    by_parent row false = refl

    by_name : (row : FileRow) (b : Bool) → (cond b (record row { change = change }) row).name ≡ row.name
    by_name row true = refl
    by_name row false = refl

edit_keeps : (edit : FileEdit) → Keeps (edited edit)
unfolding edited
edit_keeps (Wrote offset new) = record { number = λ row. refl; parent = λ row. refl; name = λ row. refl }
edit_keeps (Set None None) = record { number = λ row. refl; parent = λ row. refl; name = λ row. refl }
edit_keeps (Set None (Some mode)) = record { number = λ row. refl; parent = λ row. refl; name = λ row. refl }
edit_keeps (Set (Some size) None) = record { number = λ row. refl; parent = λ row. refl; name = λ row. refl }
edit_keeps (Set (Some size) (Some mode)) = record { number = λ row. refl; parent = λ row. refl; name = λ row. refl }

pub edited_keeps : (change dir number : ℕ) (edit : FileEdit) → Keeps (edited_at change dir number edit)
edited_keeps change dir number edit = record {
  number = λ row. by_number row (row.number == number);
  parent = λ row. by_parent row (row.number == number);
  name = λ row. by_name row (row.number == number);
}
  where
    by_number : (row : FileRow) (b : Bool) → (cond b (record (edited edit row) { change = change }) (stamped change dir row)).number ≡ row.number
    by_number row true = (edit_keeps edit).number row
    by_number row false = (stamped_keeps change dir).number row

    by_parent : (row : FileRow) (b : Bool) → (cond b (record (edited edit row) { change = change }) (stamped change dir row)).parent ≡ row.parent
    by_parent row true = (edit_keeps edit).parent row
    by_parent row false = (stamped_keeps change dir).parent row

    by_name : (row : FileRow) (b : Bool) → (cond b (record (edited edit row) { change = change }) (stamped change dir row)).name ≡ row.name
    by_name row true = (edit_keeps edit).name row
    by_name row false = (stamped_keeps change dir).name row

-- a search after such a change finds the changed row
pub file_at-map : (change : FileRow → FileRow) → Keeps change → (k : ℕ) (rows : List FileRow) → file_at k (map change rows) ≡ option_map change (file_at k rows)
unfolding file_at
file_at-map change keeps k [] = refl
file_at-map change keeps k (row ∷ rows) =
    by_test (row.number == k) ((change row).number == k) (ap (λ n. n == k) (keeps.number row)) (file_at-map change keeps k rows)
  where
    by_test : (b c : Bool) → c ≡ b → find (λ r. r.number == k) (map change rows) ≡ option_map change (find (λ r. r.number == k) rows)
        → cond c (Some (change row)) (find (λ r. r.number == k) (map change rows)) ≡ option_map change (cond b (Some row) (find (λ r. r.number == k) rows))
    by_test true true same later = refl
    by_test false false same later = later
    by_test true false same later = absurd (false≢true same)
    by_test false true same later = absurd (true≢false same)

-- the last row of a table is found where no earlier one has its number
pub file_at-push : (k : ℕ) (rows : List FileRow) (row : FileRow)
    → file_at k (rows ++ row ∷ []) ≡ elim (file_at k rows) [ None ↦ cond (row.number == k) (Some row) None | Some old ↦ Some old ]
unfolding file_at
file_at-push k [] row = refl
file_at-push k (x ∷ xs) row = by_test (x.number == k) (file_at-push k xs row)
  where
    by_test : (b : Bool) → find (λ r. r.number == k) (xs ++ row ∷ []) ≡ elim (find (λ r. r.number == k) xs) [ None ↦ cond (row.number == k) (Some row) None | Some old ↦ Some old ]
        → cond b (Some x) (find (λ r. r.number == k) (xs ++ row ∷ []))
        ≡ elim (cond b (Some x) (find (λ r. r.number == k) xs)) [ None ↦ cond (row.number == k) (Some row) None | Some old ↦ Some old ]
    by_test true later = refl
    by_test false later = later

-- what a removal leaves under a number
abbrev pub kept_by : ℕ → List ℕ → Option FileRow → Option FileRow
kept_by dir name None = None
kept_by dir name (Some row) = cond (is_named dir name row) None (Some row)

-- Above the greatest number there is no file, and rising numbers are at most the last.
pub files_rise-le : (above last : ℕ) (rows : List FileRow) → files_rise above last rows ≡ true → above ≤ last
files_rise-le above last [] rising = grind (arith, nat_tests)
files_rise-le above last (row ∷ rows) rising = grind (arith, nat_tests, files_rise-le row.number last rows)

pub file_at-past : (above last : ℕ) (rows : List FileRow) (k : ℕ) → files_rise above last rows ≡ true → last < k → file_at k rows ≡ None
unfolding file_at
file_at-past above last [] k rising past = refl
file_at-past above last (row ∷ rows) k rising past = grind (arith, nat_tests, files_rise-le row.number last rows, file_at-past row.number last rows k)

pub file_at-below : (above last : ℕ) (rows : List FileRow) (k : ℕ) → files_rise above last rows ≡ true → k ≤ above → file_at k rows ≡ None
unfolding file_at
file_at-below above last [] k rising low = refl
file_at-below above last (row ∷ rows) k rising low = grind (arith, nat_tests, file_at-below row.number last rows k)

pub rest_rises : (above last : ℕ) (row : FileRow) (rows : List FileRow) → files_rise above last (row ∷ rows) ≡ true → files_rise row.number last rows ≡ true
rest_rises above last row rows rising = grind (arith, nat_tests)

pub file_at-removed : (dir : ℕ) (name : List ℕ) (k above last : ℕ) (rows : List FileRow) → files_rise above last rows ≡ true
    → file_at k (filter (λ r. not (is_named dir name r)) rows) ≡ kept_by dir name (file_at k rows)
unfolding file_at
file_at-removed dir name k above last [] rising = refl
file_at-removed dir name k above last (x ∷ xs) rising =
    by_tests (is_named dir name x) (x.number == k) refl refl
    (file_at-removed dir name k x.number last xs (rest_rises above last x xs rising))
  where
    kept : FileRow → Bool
    kept row = not (is_named dir name row)

    by_tests : (b c : Bool) → is_named dir name x ≡ b → (x.number == k) ≡ c
        → file_at k (filter kept xs) ≡ kept_by dir name (file_at k xs)
        → file_at k (cond (not b) (x ∷ filter kept xs) (filter kept xs)) ≡ kept_by dir name (cond c (Some x) (file_at k xs))
    by_tests true true gone same later =
        rw gone (later ∙ ap (kept_by dir name) (file_at-below x.number last xs k (rest_rises above last x xs rising) (omega (arith, eqb-true x.number k same))))
    by_tests true false gone other later = later
    by_tests false true stays same later = rw (stays, same) refl
    by_tests false false stays other later = rw other later

-- ---- names

named_same : (change : FileRow → FileRow) → Keeps change → (dir : ℕ) (name : List ℕ) (row : FileRow) → is_named dir name (change row) ≡ is_named dir name row
named_same change keeps dir name row = rw (keeps.number row, keeps.parent row, keeps.name row) refl

pub child_at-map : (change : FileRow → FileRow) → Keeps change → (dir : ℕ) (name : List ℕ) (rows : List FileRow) → child_at dir name (map change rows) ≡ child_at dir name rows
unfolding child_at
child_at-map change keeps dir name [] = refl
child_at-map change keeps dir name (row ∷ rows) =
    by_test (is_named dir name row) (is_named dir name (change row)) (named_same change keeps dir name row) (child_at-map change keeps dir name rows)
  where
    by_test : (b c : Bool) → c ≡ b
        → option_map (λ (r : FileRow). r.number) (find (is_named dir name) (map change rows)) ≡ option_map (λ (r : FileRow). r.number) (find (is_named dir name) rows)
        → option_map (λ (r : FileRow). r.number) (cond c (Some (change row)) (find (is_named dir name) (map change rows)))
        ≡ option_map (λ (r : FileRow). r.number) (cond b (Some row) (find (is_named dir name) rows))
    by_test true true same later = ap Some (keeps.number row)
    by_test false false same later = later
    by_test true false same later = absurd (false≢true same)
    by_test false true same later = absurd (true≢false same)

abbrev pub made_child : FileRow → ℕ → List ℕ → Option ℕ → Option ℕ
made_child row dir name None = cond (is_named dir name row) (Some row.number) None
made_child row dir name (Some number) = Some number

pub child_at-push : (dir : ℕ) (name : List ℕ) (rows : List FileRow) (row : FileRow) → child_at dir name (rows ++ row ∷ []) ≡ made_child row dir name (child_at dir name rows)
unfolding child_at
child_at-push dir name [] row = by_test (is_named dir name row)
  where
    by_test : (b : Bool) → option_map (λ (r : FileRow). r.number) (cond b (Some row) None) ≡ cond b (Some row.number) None
    by_test true = refl
    by_test false = refl
child_at-push dir name (x ∷ xs) row = by_head (is_named dir name x) (child_at-push dir name xs row)
  where
    by_head : (b : Bool) → child_at dir name (xs ++ row ∷ []) ≡ made_child row dir name (child_at dir name xs)
        → option_map (λ (r : FileRow). r.number) (cond b (Some x) (find (is_named dir name) (xs ++ row ∷ [])))
        ≡ made_child row dir name (option_map (λ (r : FileRow). r.number) (cond b (Some x) (find (is_named dir name) xs)))
    by_head true later = refl
    by_head false later = later

-- two names of one row in two directories are one
one_name : (dir d : ℕ) (gone name : List ℕ) (row : FileRow) → is_named dir gone row ≡ true → is_named d name row ≡ true
    → ((dir == d) && bytes_eq gone name) ≡ true
one_name dir d gone name row a b = grind (arith, nat_tests, bytes_eq-Decides row.name gone, bytes_eq-Decides row.name name, bytes_eq-Decides gone name)

same_name : (dir d : ℕ) (gone name : List ℕ) (row : FileRow) → ((dir == d) && bytes_eq gone name) ≡ true → is_named dir gone row ≡ is_named d name row
same_name dir d gone name row same =
    let parts = and_parts (dir == d) (bytes_eq gone name) same in
    let dirs : dir ≡ d = eqb-true dir d parts.0 in
    let names : gone ≡ name = (bytes_eq-Decides gone name).0 parts.1 in
    rw (dirs, names) refl

pub child_at-removed : (dir : ℕ) (gone : List ℕ) (d : ℕ) (name : List ℕ) (rows : List FileRow)
    → child_at d name (filter (λ r. not (is_named dir gone r)) rows) ≡ cond ((dir == d) && bytes_eq gone name) None (child_at d name rows)
unfolding child_at
child_at-removed dir gone d name [] = by_test ((dir == d) && bytes_eq gone name)
  where
    by_test : (b : Bool) → child_at d name [] ≡ cond b None (child_at d name [])
    by_test true = refl
    by_test false = refl
child_at-removed dir gone d name (x ∷ xs) =
    by_tests (is_named dir gone x) (is_named d name x) ((dir == d) && bytes_eq gone name) refl refl refl (child_at-removed dir gone d name xs)
  where
    kept : FileRow → Bool
    kept row = not (is_named dir gone row)

    by_tests : (a b s : Bool) → is_named dir gone x ≡ a → is_named d name x ≡ b → ((dir == d) && bytes_eq gone name) ≡ s
        → child_at d name (filter kept xs) ≡ cond ((dir == d) && bytes_eq gone name) None (child_at d name xs)
        → child_at d name (cond (not a) (x ∷ filter kept xs) (filter kept xs)) ≡ cond s None (option_map (λ (r : FileRow). r.number) (cond b (Some x) (find (is_named d name) xs)))
    by_tests true true true is_a is_b same later = later ∙ rw same refl
    by_tests true true false is_a is_b same later = absurd (false≢true (sym same ∙ one_name dir d gone name x is_a is_b))
    by_tests true false s is_a is_b same later = later ∙ rw same refl
    by_tests false true true is_a is_b same later = absurd (false≢true (sym is_a ∙ same_name dir d gone name x same ∙ is_b))
    by_tests false true false is_a is_b same later = rw is_b refl
    by_tests false false s is_a is_b same later = rw is_b (later ∙ rw same refl)

-- ---- rising numbers

pub files_rise-map : (change : FileRow → FileRow) → Keeps change → (above last : ℕ) (rows : List FileRow) → files_rise above last rows ≡ true
    → files_rise above last (map change rows) ≡ true
files_rise-map change keeps above last [] rising = rising
files_rise-map change keeps above last (row ∷ rows) rising =
    let tail : files_rise row.number last (map change rows) ≡ true = files_rise-map change keeps row.number last rows (rest_rises above last row rows rising) in
    rw (keeps.number row) (grind (arith, nat_tests))

files_rise-lower : (low above last : ℕ) (rows : List FileRow) → low ≤ above → files_rise above last rows ≡ true → files_rise low last rows ≡ true
files_rise-lower low above last [] le rising = grind (arith, nat_tests)
files_rise-lower low above last (row ∷ rows) le rising = grind (arith, nat_tests)

pub files_rise-filter : (p : FileRow → Bool) (above last : ℕ) (rows : List FileRow) → files_rise above last rows ≡ true → files_rise above last (filter p rows) ≡ true
files_rise-filter p above last [] rising = rising
files_rise-filter p above last (row ∷ rows) rising = at_head (p row) (files_rise-filter p row.number last rows (rest_rises above last row rows rising))
  where
    at_head : (b : Bool) → files_rise row.number last (filter p rows) ≡ true → files_rise above last (cond b (row ∷ filter p rows) (filter p rows)) ≡ true
    at_head true later = grind (arith, nat_tests)
    at_head false later = files_rise-lower above row.number last (filter p rows) (grind (arith, nat_tests)) later

pub files_rise-push : (above last : ℕ) (rows : List FileRow) (row : FileRow) → files_rise above last rows ≡ true → row.number ≡ last + 1
    → files_rise above (last + 1) (rows ++ row ∷ []) ≡ true
files_rise-push above last [] row rising new = grind (arith, nat_tests)
files_rise-push above last (x ∷ xs) row rising new = grind (arith, nat_tests, files_rise-push x.number last xs row)
