-- What the changes of a tree leave of its rows, and that they keep what holds of it.
use Rattle.std.proofs.Common.{◌≡◌, ◌<◌, ◌≤◌, ℕ, ◌+◌, ◌-◌, Bool, true, false, cond, List, [], ◌∷◌, ◌++◌, Option, Some, None, refl, ap, sym, ◌∙◌, subst, suc, arith, eqb-true, length, set, get_or}
use Rattle.std.specs.Prelude.{IfSome, map, filter, not, max, nat_lt, ◌==◌, ◌^◌}
use Rattle.std.specs.List.{position, position_or_len}
use Rattle.std.proofs.lemmas.Bool.Decides.{nat_tests}
use Rattle.std.proofs.lemmas.List.{length-append, length-take, length-drop, length-replicate}
use Rattle.nm_rules.proofs.LimitLaws.{total-push, total-filter}
use Rattle.nm_rules.specs.Contents.{TreeNow, TreeWord, FileEdit, file_at, is_named, stamped, edited_at, edited, sized, written, total_size, total_limit, tree_after, empty_tree}
use Rattle.nm_rules.specs.Contents.TreeWord.{Made, Edited, Removed}
use Rattle.nm_rules.specs.Contents.FileEdit.{Wrote, Set}
use Rattle.nm_rules.specs.Files.{size_of}
use Rattle.nm_rules.specs.Sound.{files_rise}
use Rattle.nm_types.specs.declared.rows.FileRow.{FileRow}
use Rattle.nm_rules.proofs.FileRows.{files_rise-map, files_rise-filter, files_rise-push, stamped_keeps, edited_keeps, rest_rises}
use Rattle.nm_tree.specs.Rows.{IsTree, has_number, put_first, edit_first, resized, total_with}

-- ---- the row at a place

put_at : (number : ℕ) (bytes : List ℕ) (rows : List FileRow) (row : FileRow)
    → position_or_len (has_number number) rows < length rows
    → row ≡ get_or rows (position_or_len (has_number number) rows) row
    → set rows (position_or_len (has_number number) rows) (record row { bytes = bytes }) ≡ put_first number bytes rows
unfolding put_first
put_at number bytes [] row within there = absurd (omega (arith, within))
put_at number bytes (x ∷ xs) row within there =
    by_head (x.number == number) within there (put_at number bytes xs row)
  where
    by_head : (b : Bool)
        → cond (not b) (1 + position_or_len (has_number number) xs) 0 < length (x ∷ xs)
        → row ≡ get_or (x ∷ xs) (cond (not b) (1 + position_or_len (has_number number) xs) 0) row
        → (position_or_len (has_number number) xs < length xs
        → row ≡ get_or xs (position_or_len (has_number number) xs) row
        → set xs (position_or_len (has_number number) xs) (record row { bytes = bytes }) ≡ put_first number bytes xs)
        → set (x ∷ xs) (cond (not b) (1 + position_or_len (has_number number) xs) 0) (record row { bytes = bytes })
        ≡ cond b (record x { bytes = bytes } ∷ xs) (x ∷ put_first number bytes xs)
    by_head true within there later = ap (λ (r : FileRow). record r { bytes = bytes } ∷ xs) there
    by_head false within there later =
        let more : 1 + position_or_len (has_number number) xs ≡ suc (position_or_len (has_number number) xs) = omega arith in
        rw more (ap (λ rest. x ∷ rest) (later (omega (arith, within)) (subst (λ n. row ≡ get_or (x ∷ xs) n row) more there)))

put_nowhere : (number : ℕ) (bytes : List ℕ) (rows : List FileRow)
    → nat_lt (position_or_len (has_number number) rows) (length rows) ≡ false → put_first number bytes rows ≡ rows
unfolding put_first
put_nowhere number bytes [] past = refl
put_nowhere number bytes (x ∷ xs) past = by_head (x.number == number) past (put_nowhere number bytes xs)
  where
    by_head : (b : Bool) → nat_lt (cond (not b) (1 + position_or_len (has_number number) xs) 0) (length (x ∷ xs)) ≡ false
        → (nat_lt (position_or_len (has_number number) xs) (length xs) ≡ false → put_first number bytes xs ≡ xs)
        → cond b (record x { bytes = bytes } ∷ xs) (x ∷ put_first number bytes xs) ≡ x ∷ xs
    by_head true past later = absurd (grind (arith, nat_tests))
    by_head false past later = ap (λ rest. x ∷ rest) (later (grind (arith, nat_tests)))

-- a row that was found by its number is put in its place
pub put_found : (number : ℕ) (bytes : List ℕ) (rows : List FileRow) (at : ℕ) (row : FileRow)
    → position (has_number number) rows ≡ Some at → row ≡ get_or rows at row
    → set rows at (record row { bytes = bytes }) ≡ put_first number bytes rows
put_found number bytes rows at row found there = by_test (nat_lt (position_or_len (has_number number) rows) (length rows)) refl found
  where
    by_test : (b : Bool) → nat_lt (position_or_len (has_number number) rows) (length rows) ≡ b
        → cond b (Some (position_or_len (has_number number) rows)) None ≡ Some at
        → set rows at (record row { bytes = bytes }) ≡ put_first number bytes rows
    by_test true within same =
        let place : at ≡ position_or_len (has_number number) rows = cc in
        ap (λ i. set rows i (record row { bytes = bytes })) place
        ∙ put_at number bytes rows row (grind (arith, nat_tests)) (there ∙ ap (λ i. get_or rows i row) place)
    by_test false past same = cc

pub put_missing : (number : ℕ) (bytes : List ℕ) (rows : List FileRow)
    → position (has_number number) rows ≡ None → put_first number bytes rows ≡ rows
put_missing number bytes rows none = by_test (nat_lt (position_or_len (has_number number) rows) (length rows)) refl none
  where
    by_test : (b : Bool) → nat_lt (position_or_len (has_number number) rows) (length rows) ≡ b
        → cond b (Some (position_or_len (has_number number) rows)) None ≡ None → put_first number bytes rows ≡ rows
    by_test true within same = cc
    by_test false past same = put_nowhere number bytes rows past

-- ---- an edit of the first row of a number

pub edit_missing : (number : ℕ) (edit : FileEdit) (rows : List FileRow) → file_at number rows ≡ None → rows ≡ edit_first number edit rows
unfolding file_at edit_first
edit_missing number edit [] none = refl
edit_missing number edit (x ∷ xs) none = by_head (x.number == number) none (edit_missing number edit xs)
  where
    by_head : (b : Bool) → cond b (Some x) (file_at number xs) ≡ None → (file_at number xs ≡ None → xs ≡ edit_first number edit xs)
        → x ∷ xs ≡ cond b (edited edit x ∷ xs) (x ∷ edit_first number edit xs)
    by_head true none later = cc
    by_head false none later = ap (λ rest. x ∷ rest) (later none)

-- an edit that changes the bytes alone is a put of them
pub edit_put : (number : ℕ) (edit : FileEdit) (bytes : List ℕ) (rows : List FileRow) (row : FileRow)
    → file_at number rows ≡ Some row → edited edit row ≡ record row { bytes = bytes } → put_first number bytes rows ≡ edit_first number edit rows
unfolding file_at edit_first put_first
edit_put number edit bytes [] row found same = cc
edit_put number edit bytes (x ∷ xs) row found same = by_head (x.number == number) found (λ there. edit_put number edit bytes xs row there same)
  where
    by_head : (b : Bool) → cond b (Some x) (file_at number xs) ≡ Some row → (file_at number xs ≡ Some row → put_first number bytes xs ≡ edit_first number edit xs)
        → cond b (record x { bytes = bytes } ∷ xs) (x ∷ put_first number bytes xs) ≡ cond b (edited edit x ∷ xs) (x ∷ edit_first number edit xs)
    by_head true here later =
        let it : row ≡ x = cc in
        ap (λ r. r ∷ xs) (sym (subst (λ (r : FileRow). edited edit r ≡ record r { bytes = bytes }) it same))
    by_head false there later = ap (λ rest. x ∷ rest) (later there)

pub write_put : (number offset : ℕ) (new bytes : List ℕ) (rows : List FileRow) (row : FileRow)
    → file_at number rows ≡ Some row → bytes ≡ written offset new row.bytes → put_first number bytes rows ≡ edit_first number (Wrote offset new) rows
unfolding edited
write_put number offset new bytes rows row found made =
    edit_put number (Wrote offset new) bytes rows row found (ap (λ b. record row { bytes = b }) (sym made))

pub size_put : (number size : ℕ) (bytes : List ℕ) (rows : List FileRow) (row : FileRow)
    → file_at number rows ≡ Some row → bytes ≡ sized size row.bytes → put_first number bytes rows ≡ edit_first number (Set (Some size) None) rows
unfolding edited
size_put number size bytes rows row found made =
    edit_put number (Set (Some size) None) bytes rows row found (ap (λ b. record row { bytes = b }) (sym made))

head_rises : (above last : ℕ) (row : FileRow) (rows : List FileRow) → files_rise above last (row ∷ rows) ≡ true → above < row.number
head_rises above last row rows rising = grind (arith, nat_tests)

-- Rows past a number aren't edited under it.
edited-past : (change dir number : ℕ) (edit : FileEdit) (above last : ℕ) (rows : List FileRow) → files_rise above last rows ≡ true → number ≤ above
    → map (edited_at change dir number edit) rows ≡ map (stamped change dir) rows
edited-past change dir number edit above last [] rising past = refl
edited-past change dir number edit above last (x ∷ xs) rising past =
    let low : number < x.number = omega (arith, head_rises above last x xs rising) in
    let other : (x.number == number) ≡ false = grind (arith, nat_tests) in
    rw other (ap (λ rest. stamped change dir x ∷ rest) (edited-past change dir number edit x.number last xs (rest_rises above last x xs rising) (omega (arith, low))))

-- An edit in two parts: of the first row of the number, and then of each.
pub edit_both : (change dir number : ℕ) (one two both : FileEdit) → ((row : FileRow) → edited two (edited one row) ≡ edited both row) → ((row : FileRow) → (edited one row).number ≡ row.number)
    → (above last : ℕ) (rows : List FileRow) → files_rise above last rows ≡ true
    → map (edited_at change dir number two) (edit_first number one rows) ≡ map (edited_at change dir number both) rows
unfolding edit_first edited
edit_both change dir number one two both joined kept above last [] rising = refl
edit_both change dir number one two both joined kept above last (x ∷ xs) rising =
    by_head (x.number == number) refl (edit_both change dir number one two both joined kept x.number last xs (rest_rises above last x xs rising))
  where
    by_head : (b : Bool) → (x.number == number) ≡ b
        → map (edited_at change dir number two) (edit_first number one xs) ≡ map (edited_at change dir number both) xs
        → map (edited_at change dir number two) (cond b (edited one x ∷ xs) (x ∷ edit_first number one xs))
        ≡ cond b (record (edited both x) { change = change }) (stamped change dir x) ∷ map (edited_at change dir number both) xs
    by_head true same later =
        let rest : map (edited_at change dir number two) xs ≡ map (edited_at change dir number both) xs =
        edited-past change dir number two x.number last xs (rest_rises above last x xs rising) (omega (arith, eqb-true x.number number same))
        ∙ sym (edited-past change dir number both x.number last xs (rest_rises above last x xs rising) (omega (arith, eqb-true x.number number same))) in
        rw (kept x, same, joined x) (ap (λ more. record (edited both x) { change = change } ∷ more) rest)
    by_head false other later = rw other (ap (λ more. stamped change dir x ∷ more) later)

write_both : (change dir number offset : ℕ) (bytes : List ℕ) (above last : ℕ) (rows : List FileRow) → files_rise above last rows ≡ true
    → map (edited_at change dir number (Set None None)) (edit_first number (Wrote offset bytes) rows) ≡ map (edited_at change dir number (Wrote offset bytes)) rows
unfolding edited
write_both change dir number offset bytes = edit_both change dir number (Wrote offset bytes) (Set None None) (Wrote offset bytes) (λ row. refl) (λ row. refl)

size_both : (change dir number size : ℕ) (mode : Option ℕ) (above last : ℕ) (rows : List FileRow) → files_rise above last rows ≡ true
    → map (edited_at change dir number (Set None mode)) (edit_first number (Set (Some size) None) rows) ≡ map (edited_at change dir number (Set (Some size) mode)) rows
unfolding edited
size_both change dir number size None = edit_both change dir number (Set (Some size) None) (Set None None) (Set (Some size) None) (λ row. refl) (λ row. refl)
size_both change dir number size (Some mode) =
    edit_both change dir number (Set (Some size) None) (Set None (Some mode)) (Set (Some size) (Some mode)) (λ row. refl) (λ row. refl)

-- ---- sizes

total-stamped : (change number : ℕ) (rows : List FileRow) → total_size (map (stamped change number) rows) ≡ total_size rows
unfolding total_size
total-stamped change number [] = refl
total-stamped change number (x ∷ xs) = by_head (x.number == number) (total-stamped change number xs)
  where
    by_head : (b : Bool) → total_size (map (stamped change number) xs) ≡ total_size xs
        → length (cond b (record x { change = change }) x).bytes + total_size (map (stamped change number) xs) ≡ length x.bytes + total_size xs
    by_head true later = ap (λ n. length x.bytes + n) later
    by_head false later = ap (λ n. length x.bytes + n) later

total-edited : (change dir number : ℕ) (edit : FileEdit) (size above last : ℕ) (rows : List FileRow) → files_rise above last rows ≡ true
    → ((row : FileRow) → file_at number rows ≡ Some row → length (edited edit row).bytes ≤ size)
    → total_size (map (edited_at change dir number edit) rows) ≤ total_size rows + (size - size_of (file_at number rows))
unfolding total_size file_at
total-edited change dir number edit size above last [] rising fits = omega arith
total-edited change dir number edit size above last (x ∷ xs) rising fits =
    by_head (x.number == number) refl fits (total-edited change dir number edit size x.number last xs (rest_rises above last x xs rising))
  where
    by_head : (b : Bool) → (x.number == number) ≡ b
        → ((row : FileRow) → cond b (Some x) (file_at number xs) ≡ Some row → length (edited edit row).bytes ≤ size)
        → (((row : FileRow) → file_at number xs ≡ Some row → length (edited edit row).bytes ≤ size)
        → total_size (map (edited_at change dir number edit) xs) ≤ total_size xs + (size - size_of (file_at number xs)))
        → length (cond b (record (edited edit x) { change = change }) (stamped change dir x)).bytes + total_size (map (edited_at change dir number edit) xs)
        ≤ length x.bytes + total_size xs + (size - size_of (cond b (Some x) (file_at number xs)))
    by_head true same fits later =
        let rest : total_size (map (edited_at change dir number edit) xs) ≡ total_size xs =
        ap total_size (edited-past change dir number edit x.number last xs (rest_rises above last x xs rising) (omega (arith, eqb-true x.number number same)))
        ∙ total-stamped change dir xs in
        omega (arith, rest, fits x refl)
    by_head false other fits later = by_dir (x.number == dir) (later fits)
      where
        by_dir : (d : Bool) → total_size (map (edited_at change dir number edit) xs) ≤ total_size xs + (size - size_of (file_at number xs))
            → length (cond d (record x { change = change }) x).bytes + total_size (map (edited_at change dir number edit) xs)
            ≤ length x.bytes + total_size xs + (size - size_of (file_at number xs))
        by_dir true rest = omega (arith, rest)
        by_dir false rest = omega (arith, rest)

-- ---- what holds of a tree after each change

pub made_tree : (tree : TreeNow) (row : FileRow) → IsTree tree → row.number ≡ tree.last_file + 1 → tree.last_file < 2 ^ 63 → tree.change < 2 ^ 63
    → total_size tree.table + length row.bytes ≤ total_limit → IsTree (tree_after (Made row) tree)
unfolding tree_after
made_tree tree row is next files changes room = record {
  numbers = files_rise-push 0 tree.last_file (map (stamped (tree.change + 1) row.parent) tree.table) (record row { change = tree.change + 1 })
      (files_rise-map (stamped (tree.change + 1) row.parent) (stamped_keeps (tree.change + 1) row.parent) 0 tree.last_file tree.table is.numbers) next;
  files = omega (arith, files);
  changes = omega (arith, changes);
  sizes = omega (
    arith,
    room,
    total-push (map (stamped (tree.change + 1) row.parent) tree.table) (record row { change = tree.change + 1 }),
    total-stamped (tree.change + 1) row.parent tree.table,
  );
}

pub edited_tree : (tree : TreeNow) (dir number : ℕ) (edit : FileEdit) (size : ℕ) → IsTree tree → tree.change < 2 ^ 63
    → ((row : FileRow) → file_at number tree.table ≡ Some row → length (edited edit row).bytes ≤ size)
    → total_with number size tree.table ≤ total_limit → IsTree (tree_after (Edited dir number edit) tree)
unfolding tree_after
edited_tree tree dir number edit size is changes fits room = record {
  numbers = files_rise-map (edited_at (tree.change + 1) dir number edit) (edited_keeps (tree.change + 1) dir number edit) 0 tree.last_file tree.table is.numbers;
  files = is.files;
  changes = omega (arith, changes);
  sizes = omega (arith, room, total-edited (tree.change + 1) dir number edit size 0 tree.last_file tree.table is.numbers fits);
}

pub removed_tree : (tree : TreeNow) (dir : ℕ) (name : List ℕ) → IsTree tree → tree.change < 2 ^ 63 → IsTree (tree_after (Removed dir name) tree)
unfolding tree_after
removed_tree tree dir name is changes = record {
  numbers = files_rise-map (stamped (tree.change + 1) dir) (stamped_keeps (tree.change + 1) dir) 0 tree.last_file (filter (λ row. not (is_named dir name row)) tree.table)
      (files_rise-filter (λ row. not (is_named dir name row)) 0 tree.last_file tree.table is.numbers);
  files = is.files;
  changes = omega (arith, changes);
  sizes = omega (
    arith,
    is.sizes,
    total-stamped (tree.change + 1) dir (filter (λ row. not (is_named dir name row)) tree.table),
    total-filter (λ row. not (is_named dir name row)) tree.table,
  );
}

-- ---- the sizes that edits leave

pub written_fits : (number offset : ℕ) (new : List ℕ) (rows : List FileRow) (row : FileRow) → file_at number rows ≡ Some row
    → length (edited (Wrote offset new) row).bytes ≤ max (size_of (file_at number rows)) (offset + length new)
unfolding edited written sized
written_fits number offset new rows row found = rw found (grind (arith, length-append, length-take, length-drop, length-replicate))

pub sized_fits : (size : ℕ) (mode : Option ℕ) (row : FileRow) → length (edited (Set (Some size) mode) row).bytes ≤ size
unfolding edited sized
sized_fits size None row = grind (arith, length-append, length-take, length-replicate)
sized_fits size (Some mode) row = grind (arith, length-append, length-take, length-replicate)

kept_fits : (mode : Option ℕ) (row : FileRow) → length (edited (Set None mode) row).bytes ≤ length row.bytes
unfolding edited
kept_fits None row = omega arith
kept_fits (Some mode) row = omega arith

-- an edit that sets no size keeps the bytes
pub kept_tree : (tree : TreeNow) (dir number : ℕ) (mode : Option ℕ) → IsTree tree → tree.change < 2 ^ 63 → IsTree (tree_after (Edited dir number (Set None mode)) tree)
kept_tree tree dir number mode is changes =
    edited_tree tree dir number (Set None mode) (size_of (file_at number tree.table)) is changes
    (λ row found. subst (λ found_row. length (edited (Set None mode) row).bytes ≤ size_of found_row) (sym found) (kept_fits mode row))
    (omega (arith, is.sizes))

pub empty_is : IsTree empty_tree
unfolding total_size
empty_is = record { numbers = refl; files = omega arith; changes = omega arith; sizes = omega arith }

-- ---- a tree with new rows and the next change

-- it is what an edit leaves, and a tree again
pub record Left (tree old : TreeNow) (word : TreeWord) (rows : List FileRow) : Type 0 where
  pub is : IsTree (record { table = rows; last_file = tree.last_file; change = tree.change + 1 })
  pub new : record { table = rows; last_file = tree.last_file; change = tree.change + 1 } ≡ tree_after word old

left_by : (tree old : TreeNow) (word : TreeWord) (rows : List FileRow) → record { table = rows; last_file = tree.last_file; change = tree.change + 1 } ≡ tree_after word tree
    → tree ≡ old → IsTree (tree_after word tree) → Left tree old word rows
left_by tree old word rows same view is = record {
  is = subst IsTree (sym same) is;
  new = same ∙ ap (tree_after word) view;
}

pub wrote : (tree old : TreeNow) (dir number offset : ℕ) (bytes : List ℕ) (rows : List FileRow) → IsTree tree → tree ≡ old → old.change < 2 ^ 63
    → total_with number (max (size_of (file_at number old.table)) (offset + length bytes)) old.table ≤ total_limit
    → rows ≡ map (edited_at (tree.change + 1) dir number (Set None None)) (edit_first number (Wrote offset bytes) tree.table)
    → Left tree old (Edited dir number (Wrote offset bytes)) rows
unfolding tree_after
wrote tree old dir number offset bytes rows is view changes room came =
    left_by tree old (Edited dir number (Wrote offset bytes)) rows
    (ap (λ (r : List FileRow). record { table = r; last_file = tree.last_file; change = tree.change + 1 })
    (came ∙ write_both (tree.change + 1) dir number offset bytes 0 tree.last_file tree.table is.numbers))
    view
    (edited_tree tree dir number (Wrote offset bytes) (max (size_of (file_at number tree.table)) (offset + length bytes)) is
    (subst (λ (t : TreeNow). t.change < 2 ^ 63) (sym view) changes)
    (λ row found. written_fits number offset bytes tree.table row found)
    (subst (λ (t : TreeNow). total_with number (max (size_of (file_at number t.table)) (offset + length bytes)) t.table ≤ total_limit) (sym view) room))

pub was_set : (tree old : TreeNow) (dir number : ℕ) (size mode : Option ℕ) (rows : List FileRow) → IsTree tree → tree ≡ old → old.change < 2 ^ 63
    → IfSome size (λ n. total_with number n old.table ≤ total_limit)
    → rows ≡ map (edited_at (tree.change + 1) dir number (Set None mode)) (resized number size tree.table)
    → Left tree old (Edited dir number (Set size mode)) rows
unfolding tree_after resized
was_set tree old dir number None mode rows is view changes room came =
    left_by tree old (Edited dir number (Set None mode)) rows
    (ap (λ (r : List FileRow). record { table = r; last_file = tree.last_file; change = tree.change + 1 }) came)
    view
    (kept_tree tree dir number mode is (subst (λ (t : TreeNow). t.change < 2 ^ 63) (sym view) changes))
was_set tree old dir number (Some size) mode rows is view changes room came =
    left_by tree old (Edited dir number (Set (Some size) mode)) rows
    (ap (λ (r : List FileRow). record { table = r; last_file = tree.last_file; change = tree.change + 1 })
    (came ∙ size_both (tree.change + 1) dir number size mode 0 tree.last_file tree.table is.numbers))
    view
    (edited_tree tree dir number (Set (Some size) mode) size is
    (subst (λ (t : TreeNow). t.change < 2 ^ 63) (sym view) changes)
    (λ row found. sized_fits size mode row)
    (subst (λ (t : TreeNow). total_with number size t.table ≤ total_limit) (sym view) room))

pub made : (tree old : TreeNow) (row : FileRow) (rows : List FileRow) → IsTree tree → tree ≡ old → row.number ≡ old.last_file + 1 → old.last_file < 2 ^ 63 → old.change < 2 ^ 63
    → total_size old.table + length row.bytes ≤ total_limit
    → rows ≡ map (stamped (tree.change + 1) row.parent) tree.table ++ record row { change = tree.change + 1 } ∷ []
    → IsTree (record { table = rows; last_file = tree.last_file + 1; change = tree.change + 1 })
unfolding tree_after
made tree old row rows is view next files changes room came =
    subst (λ (r : List FileRow). IsTree (record { table = r; last_file = tree.last_file + 1; change = tree.change + 1 })) (sym came)
    (made_tree tree row is
    (subst (λ (t : TreeNow). row.number ≡ t.last_file + 1) (sym view) next)
    (subst (λ (t : TreeNow). t.last_file < 2 ^ 63) (sym view) files)
    (subst (λ (t : TreeNow). t.change < 2 ^ 63) (sym view) changes)
    (subst (λ (t : TreeNow). total_size t.table + length row.bytes ≤ total_limit) (sym view) room))

pub removed : (tree old : TreeNow) (dir : ℕ) (name : List ℕ) (rows : List FileRow) → IsTree tree → tree ≡ old → old.change < 2 ^ 63
    → rows ≡ map (stamped (tree.change + 1) dir) (filter (λ row. not (is_named dir name row)) tree.table)
    → IsTree (record { table = rows; last_file = tree.last_file; change = tree.change + 1 })
unfolding tree_after
removed tree old dir name rows is view changes came =
    subst (λ (r : List FileRow). IsTree (record { table = r; last_file = tree.last_file; change = tree.change + 1 })) (sym came)
    (removed_tree tree dir name is (subst (λ (t : TreeNow). t.change < 2 ^ 63) (sym view) changes))
