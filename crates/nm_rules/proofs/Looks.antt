-- The tables after words of change show what those words leave of what stood.
use Rattle.std.proofs.Common.{◌≡◌, ℕ, ◌+◌, Bool, true, false, cond, List, [], ◌∷◌, ◌++◌, Option, Some, None, refl, ap, ◌∙◌}
use Rattle.std.specs.Prelude.{option_map, map, filter, not}
use mathlib.Core.Path.{fun_ext}
use Rattle.nm_rules.specs.Contents.{TreeNow, TreeWord, file_at, child_at, is_named, stamped, edited_at, tree_after, file_left, child_left, last_file_left, change_left}
use Rattle.nm_rules.specs.Contents.TreeWord.{Untouched, Made, Edited, Removed}
use Rattle.nm_rules.specs.LockRows.{locks_after, ranges_after}
use Rattle.nm_rules.specs.Seqids.{closed_after, owner_left, owners_after}
use Rattle.nm_rules.specs.Shares.{open_at, opens_after, open_left, OpenWord}
use Rattle.nm_rules.specs.Shares.OpenWord.{Keep, Put, Drop, DropOf}
use Rattle.nm_rules.specs.Past.{Words, left}
use Rattle.nm_rules.specs.Seen.{Seen, look, after_words}
use Rattle.nm_rules.specs.Sound.{rises, files_rise}
use Rattle.nm_types.specs.declared.rows.FileRow.{FileRow}
use Rattle.nm_types.specs.declared.rows.OpenRow.{OpenRow}
use Rattle.nm_rules.proofs.OpenRows.{open_at-put, open_at-drop, open_at-drop_of}
use Rattle.nm_rules.proofs.OwnerRows.{owner_by-after}
use Rattle.nm_rules.proofs.FileRows.{file_at-map, file_at-push, file_at-removed, child_at-map, child_at-push, made_child, child_at-removed, stamped_keeps, edited_keeps, kept_by}

pub file_by-after : (word : TreeWord) (tree : TreeNow) (k : ℕ) → files_rise 0 tree.last_file tree.table ≡ true
    → file_at k (tree_after word tree).table ≡ file_left word (tree.change + 1) k (file_at k tree.table)
unfolding tree_after file_left
file_by-after Untouched tree k rising = refl
file_by-after (Made row) tree k rising = by_old (file_at k tree.table) refl
  where
    by_old : (o : Option FileRow) → file_at k tree.table ≡ o
        → file_at k (map (stamped (tree.change + 1) row.parent) tree.table ++ record row { change = tree.change + 1 } ∷ [])
        ≡ file_left (Made row) (tree.change + 1) k o
    by_old None none = file_at-push k _ _ ∙ rw (file_at-map (stamped (tree.change + 1) row.parent) (stamped_keeps (tree.change + 1) row.parent) k tree.table, none) refl
    by_old (Some old) found = file_at-push k _ _ ∙ rw (file_at-map (stamped (tree.change + 1) row.parent) (stamped_keeps (tree.change + 1) row.parent) k tree.table, found) refl
file_by-after (Edited dir number edit) tree k rising = file_at-map (edited_at (tree.change + 1) dir number edit) (edited_keeps (tree.change + 1) dir number edit) k tree.table
file_by-after (Removed dir name) tree k rising =
    file_at-map (stamped (tree.change + 1) dir) (stamped_keeps (tree.change + 1) dir) k (filter (λ row. not (is_named dir name row)) tree.table)
    ∙ ap (option_map (stamped (tree.change + 1) dir)) (file_at-removed dir name k 0 tree.last_file tree.table rising)
    ∙ by_old (file_at k tree.table)
  where
    by_old : (o : Option FileRow) → option_map (stamped (tree.change + 1) dir) (kept_by dir name o) ≡ file_left (Removed dir name) (tree.change + 1) k o
    by_old None = refl
    by_old (Some row) = by_test (is_named dir name row)
      where
        by_test : (b : Bool) → option_map (stamped (tree.change + 1) dir) (cond b None (Some row)) ≡ cond b None (Some (stamped (tree.change + 1) dir row))
        by_test true = refl
        by_test false = refl

child_by-after : (word : TreeWord) (tree : TreeNow) (dir : ℕ) (name : List ℕ)
    → child_at dir name (tree_after word tree).table ≡ child_left word dir name (child_at dir name tree.table)
unfolding tree_after child_left
child_by-after Untouched tree dir name = refl
child_by-after (Made row) tree dir name =
    child_at-push dir name _ _ ∙ rw (child_at-map (stamped (tree.change + 1) row.parent) (stamped_keeps (tree.change + 1) row.parent) dir name tree.table) (by_old (child_at dir name tree.table))
  where
    by_old : (o : Option ℕ) → made_child (record row { change = tree.change + 1 }) dir name o ≡ child_left (Made row) dir name o
    by_old None = refl
    by_old (Some number) = refl
child_by-after (Edited its_dir number edit) tree dir name =
    child_at-map (edited_at (tree.change + 1) its_dir number edit) (edited_keeps (tree.change + 1) its_dir number edit) dir name tree.table
child_by-after (Removed its_dir gone) tree dir name =
    child_at-map (stamped (tree.change + 1) its_dir) (stamped_keeps (tree.change + 1) its_dir) dir name _
    ∙ child_at-removed its_dir gone dir name tree.table

open_by-after : (word : OpenWord) (last : ℕ) (rows : List OpenRow) (k : ℕ) → rises 0 last rows ≡ true
    → open_at k (opens_after word rows) ≡ open_left word k (open_at k rows)
unfolding opens_after open_left
open_by-after Keep last rows k rising = refl
open_by-after (Put row) last rows k rising = open_at-put row rows k
open_by-after (Drop counter) last rows k rising = open_at-drop counter rows k
open_by-after (DropOf party) last rows k rising = open_at-drop_of party 0 last rows k rising

last_file-after : (word : TreeWord) (tree : TreeNow) → (tree_after word tree).last_file ≡ last_file_left word tree.last_file
unfolding tree_after
last_file-after Untouched tree = refl
last_file-after (Made row) tree = refl
last_file-after (Edited dir number edit) tree = refl
last_file-after (Removed dir name) tree = refl

change-after : (word : TreeWord) (tree : TreeNow) → (tree_after word tree).change ≡ change_left word tree.change
unfolding tree_after
change-after Untouched tree = refl
change-after (Made row) tree = refl
change-after (Edited dir number edit) tree = refl
change-after (Removed dir name) tree = refl

-- One law for all words: what stands after them is read off the tables after them.
pub look-after_words : (s : Seen) (w : Words) → rises 0 s.last s.opens ≡ true → files_rise 0 s.tree.last_file s.tree.table ≡ true
    → look (after_words s w) ≡ left (look s) w
unfolding look after_words left
look-after_words s w rising numbers = λ i. record {
  file_by = fun_ext (λ k. file_by-after w.tree s.tree k numbers) i;
  child_by = fun_ext (λ dir. fun_ext (λ name. child_by-after w.tree s.tree dir name)) i;
  open_by = fun_ext (λ k. open_by-after w.opens s.last s.opens k rising) i;
  owner_by = fun_ext (λ owner. owner_by-after w.starts (owners_after w.owners s.owners) owner ∙ ap (owner_left w.starts owner) (owner_by-after w.owners s.owners owner)) i;
  closed = closed_after w.starts (closed_after w.owners s.closed);
  locks = locks_after w.locks s.locks;
  ranges = ranges_after w.locks s.locks s.ranges;
  last = cond w.drew (s.last + 1) s.last;
  last_file = last_file-after w.tree s.tree i;
  change = change-after w.tree s.tree i;
}
