-- No two entries of one directory have one name, whatever is made, edited and removed.
use Rattle.std.proofs.Common.{◌≡◌, ◌+◌, Bool, true, false, cond, List, [], ◌∷◌, ◌++◌, Some, None, refl, sym, ◌∙◌, eqb-true}
use Rattle.std.specs.Prelude.{find, option_map, map, filter, not, ◌&&◌, ◌==◌}
use Rattle.std.specs.List.{list_all}
use Rattle.std.specs.Str.{bytes_eq}
use Rattle.std.proofs.lemmas.Bool.{true≢false, and_parts}
use Rattle.std.proofs.lemmas.Slice.Eq.{bytes_eq-Decides}
use Rattle.nm_rules.specs.Contents.{TreeNow, TreeWord, child_at, is_named, stamped, edited_at, tree_after}
use Rattle.nm_rules.specs.Contents.TreeWord.{Untouched, Made, Edited, Removed}
use Rattle.nm_rules.specs.Sound.{names_apart, all_named_apart}
use Rattle.nm_types.specs.declared.rows.FileRow.{FileRow}
use Rattle.nm_rules.proofs.FileRows.{Keeps, stamped_keeps, edited_keeps, child_at-map}
use Rattle.nm_rules.proofs.LockRowLaws.{list_all-filter, same_number}

-- ---- changes that keep what rows are found by

same_apart : (change : FileRow → FileRow) → Keeps change → (a b : FileRow) → names_apart (change a) (change b) ≡ names_apart a b
same_apart change keeps a b = rw (keeps.number a, keeps.parent a, keeps.name a, keeps.number b, keeps.parent b, keeps.name b) refl

all_apart-map : (change : FileRow → FileRow) → Keeps change → (a : FileRow) (rows : List FileRow)
    → list_all (names_apart (change a)) (map change rows) ≡ list_all (names_apart a) rows
all_apart-map change keeps a [] = refl
all_apart-map change keeps a (x ∷ xs) = rw (same_apart change keeps a x, all_apart-map change keeps a xs) refl

named-map : (change : FileRow → FileRow) → Keeps change → (rows : List FileRow) → all_named_apart (map change rows) ≡ all_named_apart rows
named-map change keeps [] = refl
named-map change keeps (x ∷ xs) = rw (all_apart-map change keeps x xs, named-map change keeps xs) refl

-- ---- rows that go

named-filter : (p : FileRow → Bool) (rows : List FileRow) → all_named_apart rows ≡ true → all_named_apart (filter p rows) ≡ true
named-filter p [] apart = refl
named-filter p (x ∷ xs) apart = by_test (p x) (named-filter p xs (and_parts (list_all (names_apart x) xs) (all_named_apart xs) apart).1)
  where
    by_test : (b : Bool) → all_named_apart (filter p xs) ≡ true → all_named_apart (cond b (x ∷ filter p xs) (filter p xs)) ≡ true
    by_test true later = rw (list_all-filter (names_apart x) p xs (and_parts (list_all (names_apart x) xs) (all_named_apart xs) apart).0, later) refl
    by_test false later = later

-- ---- a row that comes

-- an entry has another name than a new one, where none of that name was there
apart_new : (x row : FileRow) → is_named row.parent row.name x ≡ false → names_apart x row ≡ true
apart_new x row other =
    by_tests (x.number == 1) (row.parent == x.parent) (row.number == 1) (bytes_eq row.name x.name) refl refl refl other
  where
    by_tests : (b c d e : Bool) → (x.number == 1) ≡ b → (row.parent == x.parent) ≡ c → bytes_eq row.name x.name ≡ e
        → (((x.parent == row.parent) && not (x.number == 1)) && bytes_eq x.name row.name) ≡ false
        → cond b true (not ((c && not d) && e)) ≡ true
    by_tests true c d e root at its other = refl
    by_tests false false d e root at its other = refl
    by_tests false true true e root at its other = refl
    by_tests false true false false root at its other = refl
    by_tests false true false true root at its other =
        absurd (true≢false (sym (named (x.number == 1) root (eqb-true row.parent x.parent at) ((bytes_eq-Decides row.name x.name).0 its)) ∙ other))
      where
        named : (b : Bool) → b ≡ false → row.parent ≡ x.parent → row.name ≡ x.name → (((x.parent == row.parent) && not b) && bytes_eq x.name row.name) ≡ true
        named true root_too at its = absurd (true≢false root_too)
        named false root_too at its = rw (same_number x.parent row.parent (sym at), (bytes_eq-Decides x.name row.name).1 (sym its)) refl

all_apart-push : (x row : FileRow) (rows : List FileRow) → list_all (names_apart x) rows ≡ true → names_apart x row ≡ true
    → list_all (names_apart x) (rows ++ row ∷ []) ≡ true
all_apart-push x row [] all it = rw it refl
all_apart-push x row (y ∷ ys) all it =
    let parts = and_parts (names_apart x y) (list_all (names_apart x) ys) all in
    rw (parts.0, all_apart-push x row ys parts.1 it) refl

named-push : (row : FileRow) (rows : List FileRow) → all_named_apart rows ≡ true → child_at row.parent row.name rows ≡ None
    → all_named_apart (rows ++ row ∷ []) ≡ true
unfolding child_at
named-push row [] apart none = refl
named-push row (x ∷ xs) apart none =
    by_test (is_named row.parent row.name x) refl none
    (named-push row xs (and_parts (list_all (names_apart x) xs) (all_named_apart xs) apart).1)
  where
    by_test : (b : Bool) → is_named row.parent row.name x ≡ b
        → option_map (λ (r : FileRow). r.number) (cond b (Some x) (find (is_named row.parent row.name) xs)) ≡ None
        → (option_map (λ (r : FileRow). r.number) (find (is_named row.parent row.name) xs) ≡ None → all_named_apart (xs ++ row ∷ []) ≡ true)
        → (list_all (names_apart x) (xs ++ row ∷ []) && all_named_apart (xs ++ row ∷ [])) ≡ true
    by_test true its none later = cc
    by_test false other none later =
        rw (all_apart-push x row xs (and_parts (list_all (names_apart x) xs) (all_named_apart xs) apart).0 (apart_new x row other), later none) refl

-- ---- one law for all words

-- what is made has a name that wasn't there
abbrev pub NamesNew : TreeWord → List FileRow → Type 0
NamesNew Untouched rows = Unit {0}
NamesNew (Made row) rows = child_at row.parent row.name rows ≡ None
NamesNew (Edited _ _ _) rows = Unit {0}
NamesNew (Removed _ _) rows = Unit {0}

pub names-after : (word : TreeWord) (tree : TreeNow) → NamesNew word tree.table → all_named_apart tree.table ≡ true → all_named_apart (tree_after word tree).table ≡ true
unfolding tree_after
names-after Untouched tree new apart = apart
names-after (Made row) tree new apart =
    let change = stamped (tree.change + 1) row.parent in
    let keeps : Keeps change = stamped_keeps (tree.change + 1) row.parent in
    named-push (record row { change = tree.change + 1 }) (map change tree.table) (named-map change keeps tree.table ∙ apart)
    (child_at-map change keeps row.parent row.name tree.table ∙ new)
names-after (Edited dir number edit) tree new apart =
    named-map (edited_at (tree.change + 1) dir number edit) (edited_keeps (tree.change + 1) dir number edit) tree.table ∙ apart
names-after (Removed dir name) tree new apart =
    named-map (stamped (tree.change + 1) dir) (stamped_keeps (tree.change + 1) dir) (filter (λ row. not (is_named dir name row)) tree.table)
    ∙ named-filter (λ row. not (is_named dir name row)) tree.table apart
