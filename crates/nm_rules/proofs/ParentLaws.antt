-- Each file but the root is in a directory that is there.
use Rattle.std.proofs.Common.{◌≡◌, ℕ, ◌+◌, Bool, true, false, cond, List, [], ◌∷◌, ◌++◌, Option, Some, None, refl, ap, sym, subst, ◌∙◌, eqb-true}
use Rattle.std.specs.Prelude.{find, option_map, map, filter, not, is_none, ◌&&◌, ◌||◌, ◌==◌}
use Rattle.std.specs.Str.{bytes_eq}
use Rattle.std.proofs.lemmas.Slice.Eq.{bytes_eq-Decides}
use Rattle.std.specs.List.{list_all, list_any}
use Rattle.std.proofs.lemmas.Bool.{false≢true, true≢false, both_ways, not-true, and_parts, or_parts}
use Rattle.nm_rules.proofs.FileLaws.{found_number}
use Rattle.nm_rules.proofs.LimitLaws.{all_at}
use Rattle.nm_types.specs.Parties.{Party}
use Rattle.nm_rules.specs.Attributes.{asks_of, asked_size, asked_mode}
use Rattle.nm_rules.specs.Contents.{TreeNow, TreeWord, FileEdit, taken, file_at, child_at, is_directory, is_entry_of, is_named, stamped, edited_at, edited, tree_after}
use Rattle.nm_rules.specs.Contents.TreeWord.{Untouched, Made, Edited, Removed}
use Rattle.nm_rules.specs.Contents.FileEdit.{Wrote, Set}
use Rattle.nm_rules.specs.Lists.{is_empty}
use Rattle.nm_rules.specs.Checks.{is_dir, is_no_dir, missing_stop, Stop, first}
use Rattle.nm_rules.specs.Checks.Stop.{Refuse, Repeat}
use Rattle.nm_rules.specs.Past.{Past, deed_words, words, open_words, close_words, confirm_words, downgrade_words, claimed_name, open_tree, cuts, parent_of, set_tree, write_tree}
use Rattle.nm_rules.specs.Seen.{Seen, seen, look, after, after_words}
use Rattle.nm_rules.specs.Answer.{IsLegal, answer_to, reply_by, ok_value, checks}
use Rattle.nm_rules.specs.Data.{write_value}
use Rattle.nm_rules.specs.Files.{create_checks, create_value, dir_checks, file_checks, has_entries, remove_checks, remove_conflict}
use Rattle.nm_rules.specs.LockOps.{lock_value, changed_lock}
use Rattle.nm_rules.specs.Opens.{changed_stateid, next_stateid, open_checks, open_kind, open_value, target_at}
use Rattle.nm_rules.specs.Stateids.{open_named}
use Rattle.nm_rules.specs.Sound.{IsSound, files_rise, names_apart, all_named_apart, stands_in, all_stand_in}
use Rattle.nm_types.specs.declared.args.CreateArgs.{CreateArgs}
use Rattle.nm_types.specs.declared.args.OpenArgs.{OpenArgs}
use Rattle.nm_types.specs.declared.args.OpenType.{OpenType}
use Rattle.nm_types.specs.declared.args.RemoveArgs.{RemoveArgs}
use Rattle.nm_types.specs.declared.args.SetAttrArgs.{SetAttrArgs}
use Rattle.nm_types.specs.declared.args.WriteArgs.{WriteArgs}
use Rattle.nm_types.specs.declared.calls.Deed.{Deed}
use Rattle.nm_types.specs.declared.calls.Deed.TheVariants as deed
use Rattle.nm_types.specs.declared.calls.Event.{Event}
use Rattle.nm_types.specs.declared.calls.Event.TheVariants.{Asked, Ended}
use Rattle.nm_types.specs.declared.calls.ReplyValue.TheVariants as told
use Rattle.nm_types.specs.declared.calls.StateId.{StateId}
use Rattle.nm_types.specs.declared.calls.Verdict.{Verdict}
use Rattle.nm_types.specs.declared.rows.FileRow.{FileRow}
use Rattle.nm_types.specs.declared.status.OpStatus.TheVariants.{NotDir, NotEmpty, Stale}
use Rattle.nm_rules.proofs.Classes.{IsFree, all_free, or_none, refuse_if-none}
use Rattle.nm_rules.proofs.Legal.{claimed_is_target, sound-seen, words-free, words-old, words-refused, repeat_is_old}
use Rattle.nm_rules.proofs.FileRows.{Keeps, stamped_keeps, edited_keeps, file_at-map, file_at-push, file_at-removed, kept_by}
use Rattle.nm_rules.proofs.LockRowLaws.{same_number}
use Rattle.nm_rules.proofs.Refusals.{lock_keeps, unlock_keeps, release_keeps}

-- ---- changes that keep what rows are found by, and of which kind they are

record KeepsKind (change : FileRow → FileRow) : Type 0 where
  keys : Keeps change
  kind : (row : FileRow) → (change row).kind ≡ row.kind

stamped_kind : (change number : ℕ) → KeepsKind (stamped change number)
stamped_kind change number = record { keys = stamped_keeps change number; kind = λ row. by_test row (row.number == number) }
  where
    by_test : (row : FileRow) (b : Bool) → (cond b (record row { change = change }) row).kind ≡ row.kind
    by_test row true = refl
    by_test row false = refl

edit_kind : (edit : FileEdit) (row : FileRow) → (edited edit row).kind ≡ row.kind
unfolding edited
edit_kind (Wrote offset new) row = refl
edit_kind (Set None None) row = refl
edit_kind (Set None (Some mode)) row = refl
edit_kind (Set (Some size) None) row = refl
edit_kind (Set (Some size) (Some mode)) row = refl

edited_kind : (change dir number : ℕ) (edit : FileEdit) → KeepsKind (edited_at change dir number edit)
edited_kind change dir number edit = record { keys = edited_keeps change dir number edit; kind = λ row. by_test row (row.number == number) }
  where
    by_test : (row : FileRow) (b : Bool) → (cond b (record (edited edit row) { change = change }) (stamped change dir row)).kind ≡ row.kind
    by_test row true = edit_kind edit row
    by_test row false = (stamped_kind change dir).kind row

is_dir-map : (change : FileRow → FileRow) → KeepsKind change → (o : Option FileRow) → is_dir (option_map change o) ≡ is_dir o
unfolding is_dir
is_dir-map change keeps None = refl
is_dir-map change keeps (Some row) = ap is_directory (keeps.kind row)

stands-map : (change : FileRow → FileRow) → KeepsKind change → (rows : List FileRow) (x : FileRow) → stands_in (map change rows) (change x) ≡ stands_in rows x
stands-map change keeps rows x =
    rw (keeps.keys.number x, keeps.keys.parent x)
    (ap (cond (x.number == 1) true) (ap is_dir (file_at-map change keeps.keys x.parent rows) ∙ is_dir-map change keeps (file_at x.parent rows)))

all_stand-map : (change : FileRow → FileRow) → KeepsKind change → (rows xs : List FileRow)
    → list_all (stands_in (map change rows)) (map change xs) ≡ list_all (stands_in rows) xs
all_stand-map change keeps rows [] = refl
all_stand-map change keeps rows (x ∷ xs) = rw (stands-map change keeps rows x, all_stand-map change keeps rows xs) refl

-- ---- a row that comes

is_dir-push : (k : ℕ) (rows : List FileRow) (row : FileRow) → is_dir (file_at k rows) ≡ true → is_dir (file_at k (rows ++ row ∷ [])) ≡ true
unfolding is_dir
is_dir-push k rows row there = ap is_dir (file_at-push k rows row) ∙ by_old (file_at k rows) there
  where
    by_old : (o : Option FileRow) → is_dir o ≡ true
        → is_dir (elim o [ None ↦ cond (row.number == k) (Some row) None | Some old ↦ Some old ]) ≡ true
    by_old None there = absurd (false≢true there)
    by_old (Some old) there = there

stands-push : (rows : List FileRow) (row x : FileRow) → stands_in rows x ≡ true → stands_in (rows ++ row ∷ []) x ≡ true
stands-push rows row x stands = by_test (x.number == 1) stands
  where
    by_test : (b : Bool) → cond b true (is_dir (file_at x.parent rows)) ≡ true → cond b true (is_dir (file_at x.parent (rows ++ row ∷ []))) ≡ true
    by_test true stands = refl
    by_test false stands = is_dir-push x.parent rows row stands

all_stand-push : (rows : List FileRow) (row : FileRow) (xs : List FileRow) → list_all (stands_in rows) xs ≡ true → stands_in (rows ++ row ∷ []) row ≡ true
    → list_all (stands_in (rows ++ row ∷ [])) (xs ++ row ∷ []) ≡ true
all_stand-push rows row [] all new = rw new refl
all_stand-push rows row (x ∷ xs) all new =
    let parts = and_parts (stands_in rows x) (list_all (stands_in rows) xs) all in
    rw (stands-push rows row x parts.0, all_stand-push rows row xs parts.1 new) refl

-- ---- a row that goes

-- two entries of one name in a directory aren't apart
never_two : (dir : ℕ) (name : List ℕ) (h y : FileRow) → is_named dir name h ≡ true → is_named dir name y ≡ true → names_apart h y ≡ true → ⊥
never_two dir name h y at_h at_y apart =
    let parts = and_parts ((h.parent == dir) && not (h.number == 1)) (bytes_eq h.name name) at_h in
    let entry = and_parts (h.parent == dir) (not (h.number == 1)) parts.0 in
    false≢true (sym (ap not (subst (λ d. is_named d h.name y ≡ true) (sym (eqb-true h.parent dir entry.0)) (subst (λ n. is_named dir n y ≡ true) (sym ((bytes_eq-Decides h.name name).0 parts.1)) at_y)))
    ∙ subst (λ b. cond b true (not (is_named h.parent h.name y)) ≡ true) (not-true (h.number == 1) entry.1) apart)

-- a row of that name is the one which is found by it
named_is_child : (dir : ℕ) (name : List ℕ) (k : ℕ) (rows : List FileRow) (y : FileRow) → all_named_apart rows ≡ true
    → file_at k rows ≡ Some y → is_named dir name y ≡ true → child_at dir name rows ≡ Some y.number
unfolding file_at child_at
named_is_child dir name k [] y apart found named = cc
named_is_child dir name k (h ∷ hs) y apart found named =
    by_tests (h.number == k) (is_named dir name h) refl found
    (named_is_child dir name k hs y (and_parts (list_all (names_apart h) hs) (all_named_apart hs) apart).1)
  where
    some_same : {a b : FileRow} → Some a ≡ Some b → a ≡ b
    some_same e = cc

    number_of : FileRow → ℕ
    number_of r = r.number

    by_tests : (b c : Bool) → is_named dir name h ≡ c → cond b (Some h) (find (λ r. r.number == k) hs) ≡ Some y
        → (find (λ r. r.number == k) hs ≡ Some y → is_named dir name y ≡ true → option_map number_of (find (is_named dir name) hs) ≡ Some y.number)
        → option_map number_of (cond c (Some h) (find (is_named dir name) hs)) ≡ Some y.number
    by_tests true true at_h here later = ap (option_map number_of) here
    by_tests true false at_h here later = absurd (both_ways (is_named dir name h) at_h (ap (is_named dir name) (some_same here) ∙ named))
    by_tests false true at_h there later =
        absurd (never_two dir name h y at_h named (all_at (names_apart h) k hs y (and_parts (list_all (names_apart h) hs) (all_named_apart hs) apart).0 there))
    by_tests false false at_h there later = later there named

-- a file whose directory stays
stands-removed : (dir : ℕ) (name : List ℕ) (last : ℕ) (rows : List FileRow) (x : FileRow) → files_rise 0 last rows ≡ true → stands_in rows x ≡ true
    → ((y : FileRow) → (x.number == 1) ≡ false → file_at x.parent rows ≡ Some y → is_named dir name y ≡ false)
    → stands_in (filter (λ r. not (is_named dir name r)) rows) x ≡ true
unfolding is_dir
stands-removed dir name last rows x rising stands stays =
    by_test (x.number == 1) refl stands
  where
    by_old : (x.number == 1) ≡ false → (o : Option FileRow) → file_at x.parent rows ≡ o → is_dir o ≡ true → is_dir (kept_by dir name o) ≡ true
    by_old entry None none there = absurd (false≢true there)
    by_old entry (Some y) found there = rw (stays y entry found) there

    by_test : (b : Bool) → (x.number == 1) ≡ b → cond b true (is_dir (file_at x.parent rows)) ≡ true
        → cond b true (is_dir (file_at x.parent (filter (λ r. not (is_named dir name r)) rows))) ≡ true
    by_test true root stands = refl
    by_test false entry stands = ap is_dir (file_at-removed dir name x.parent 0 last rows rising) ∙ by_old entry (file_at x.parent rows) refl stands

-- a directory without entries may go
all_stand-removed : (dir : ℕ) (name : List ℕ) (last : ℕ) (rows xs : List FileRow) → files_rise 0 last rows ≡ true → all_named_apart rows ≡ true
    → ((number : ℕ) → child_at dir name rows ≡ Some number → list_any (is_entry_of number) xs ≡ false)
    → list_all (stands_in rows) xs ≡ true
    → list_all (stands_in (filter (λ r. not (is_named dir name r)) rows)) (filter (λ r. not (is_named dir name r)) xs) ≡ true
all_stand-removed dir name last rows [] rising apart empty all = refl
all_stand-removed dir name last rows (x ∷ xs) rising apart empty all =
    by_test (is_named dir name x)
    (all_stand-removed dir name last rows xs rising apart (λ number child. (or_parts (is_entry_of number x) (list_any (is_entry_of number) xs) (empty number child)).1) (and_parts (stands_in rows x) (list_all (stands_in rows) xs) all).1)
  where
    left : List FileRow
    left = filter (λ r. not (is_named dir name r)) rows

    stays : (y : FileRow) → (x.number == 1) ≡ false → file_at x.parent rows ≡ Some y → is_named dir name y ≡ false
    stays y entry found = by_named (is_named dir name y) refl
      where
        by_named : (b : Bool) → is_named dir name y ≡ b → b ≡ false
        by_named false other = refl
        by_named true named =
            absurd (both_ways (is_entry_of y.number x)
            (or_parts (is_entry_of y.number x) (list_any (is_entry_of y.number) xs) (empty y.number (named_is_child dir name x.parent rows y apart found named))).0
            (rw (same_number x.parent y.number (sym (found_number x.parent rows y found)), entry) refl))

    by_test : (b : Bool) → list_all (stands_in left) (filter (λ r. not (is_named dir name r)) xs) ≡ true
        → list_all (stands_in left) (cond (not b) (x ∷ filter (λ r. not (is_named dir name r)) xs) (filter (λ r. not (is_named dir name r)) xs)) ≡ true
    by_test true later = later
    by_test false later = rw (stands-removed dir name last rows x rising (and_parts (stands_in rows x) (list_all (stands_in rows) xs) all).0 stays, later) refl

new_stands : (rows : List FileRow) (row : FileRow) → is_dir (file_at row.parent rows) ≡ true → stands_in (rows ++ row ∷ []) row ≡ true
new_stands rows row there = by_test (row.number == 1)
  where
    by_test : (b : Bool) → cond b true (is_dir (file_at row.parent (rows ++ row ∷ []))) ≡ true
    by_test true = refl
    by_test false = is_dir-push row.parent rows row there

-- ---- one law for all words

-- What is made is made in a directory, and what goes has no entries.
abbrev ParentsFit : TreeWord → List FileRow → Type 0
ParentsFit Untouched rows = Unit {0}
ParentsFit (Made row) rows = is_dir (file_at row.parent rows) ≡ true
ParentsFit (Edited _ _ _) rows = Unit {0}
ParentsFit (Removed dir name) rows = (number : ℕ) → child_at dir name rows ≡ Some number → list_any (is_entry_of number) rows ≡ false

parents-after : (word : TreeWord) (tree : TreeNow) → files_rise 0 tree.last_file tree.table ≡ true → all_named_apart tree.table ≡ true
    → ParentsFit word tree.table → all_stand_in tree.table ≡ true → all_stand_in (tree_after word tree).table ≡ true
unfolding tree_after
parents-after Untouched tree rising apart fits all = all
parents-after (Made row) tree rising apart fits all =
    let change = stamped (tree.change + 1) row.parent in
    let keeps : KeepsKind change = stamped_kind (tree.change + 1) row.parent in
    all_stand-push (map change tree.table) (record row { change = tree.change + 1 }) (map change tree.table)
    (all_stand-map change keeps tree.table tree.table ∙ all)
    (new_stands (map change tree.table) (record row { change = tree.change + 1 }) (ap is_dir (file_at-map change keeps.keys row.parent tree.table) ∙ is_dir-map change keeps (file_at row.parent tree.table) ∙ fits))
parents-after (Edited dir number edit) tree rising apart fits all =
    all_stand-map (edited_at (tree.change + 1) dir number edit) (edited_kind (tree.change + 1) dir number edit) tree.table tree.table ∙ all
parents-after (Removed dir name) tree rising apart fits all =
    all_stand-map (stamped (tree.change + 1) dir) (stamped_kind (tree.change + 1) dir)
    (filter (λ row. not (is_named dir name row)) tree.table) (filter (λ row. not (is_named dir name row)) tree.table)
    ∙ all_stand-removed dir name tree.last_file tree.table tree.table rising apart fits all

-- ---- events

dir_there : (o : Option FileRow) → is_none o ≡ false → is_no_dir o ≡ false → is_dir o ≡ true
unfolding is_dir is_no_dir
dir_there None none plain = absurd (true≢false none)
dir_there (Some row) none plain = by_kind (is_directory row.kind) plain
  where
    by_kind : (b : Bool) → cond b false true ≡ false → b ≡ true
    by_kind true h = refl
    by_kind false h = absurd (true≢false h)

edits_fit : (b : Bool) (dir number : ℕ) (edit : FileEdit) (rows : List FileRow) → ParentsFit (cond b (Edited dir number edit) Untouched) rows
edits_fit true dir number edit rows = tt
edits_fit false dir number edit rows = tt

edits_unless_fit : (b : Bool) (dir number : ℕ) (edit : FileEdit) (rows : List FileRow) → ParentsFit (cond b Untouched (Edited dir number edit)) rows
edits_unless_fit true dir number edit rows = tt
edits_unless_fit false dir number edit rows = tt

-- an OPEN makes its file in the current directory
open_fits : (rows : List FileRow) (row : Option FileRow) (dir : ℕ) (name : Option (List ℕ)) (opentype : OpenType) (number : ℕ)
    → missing_stop (file_at dir rows) ≡ None → open_kind rows dir name ≡ None
    → ParentsFit (open_tree row dir name opentype (target_at rows dir name) number) rows
unfolding open_tree target_at open_kind
open_fits rows row dir None opentype number there kind = edits_fit (cuts opentype) (parent_of row) number (Set (Some 0) None) rows
open_fits rows row dir (Some name) opentype number there kind = by_target (child_at dir name rows)
  where
    by_target : (o : Option ℕ) → ParentsFit (open_tree row dir (Some name) opentype o number) rows
    by_target None = dir_there (file_at dir rows) (refuse_if-none _ Stale there) (refuse_if-none _ NotDir (or_none _ _ kind).0)
    by_target (Some child) = edits_fit (cuts opentype) (parent_of row) number (Set (Some 0) None) rows

set_fits : (row : Option FileRow) (file : ℕ) (rows : List FileRow) (args : SetAttrArgs) (told_words : List ℕ) → ParentsFit (set_tree row file (asks_of args.attributes) told_words) rows
unfolding set_tree
set_fits row file rows args told_words =
    edits_unless_fit (is_empty told_words) (parent_of row) file (Set (asked_size (asks_of args.attributes)) (asked_mode (asks_of args.attributes))) rows

write_fits : (row : Option FileRow) (file : ℕ) (rows : List FileRow) (args : WriteArgs) → ParentsFit (write_tree row file args) rows
unfolding write_tree
write_fits row file rows args = edits_unless_fit (is_empty (taken args.«data»)) (parent_of row) file (Wrote args.offset (taken args.«data»)) rows

-- a REMOVE that nothing stops is of a file without entries
remove_fits : (s : Seen) (dir : ℕ) (args : RemoveArgs) (verdict : Verdict) → first (remove_checks s dir args verdict) ≡ None
    → (number : ℕ) → child_at dir args.name s.tree.table ≡ Some number → list_any (is_entry_of number) s.tree.table ≡ false
unfolding remove_checks has_entries
remove_fits s dir args verdict goes number child =
    let free : IsFree (remove_checks s dir args verdict) = all_free _ goes in
    refuse_if-none (list_any (is_entry_of number) s.tree.table) NotEmpty
    (or_none _ _ (subst (λ o. remove_conflict s o ≡ None) child free.conflict)).1

create_fits : (s : Seen) (dir : ℕ) (args : CreateArgs) (verdict : Verdict) → first (create_checks s dir args verdict) ≡ None → is_dir (file_at dir s.tree.table) ≡ true
unfolding create_checks dir_checks file_checks
create_fits s dir args verdict goes =
    let free : IsFree (create_checks s dir args verdict) = all_free _ goes in
    dir_there (file_at dir s.tree.table) (refuse_if-none _ Stale free.missing) (refuse_if-none _ NotDir free.kind)

opened_fits : (s : Seen) (party : Party) (file : ℕ) (args : OpenArgs) (verdict : Verdict) → first (open_checks s (Some party) file args verdict) ≡ None
    → ParentsFit (open_words (look s) (Some party) file args (told.Open (open_value s (Some party) file args))).tree s.tree.table
unfolding open_checks open_value look
opened_fits s party file args verdict goes =
    let free : IsFree (open_checks s (Some party) file args verdict) = all_free _ goes in
    rw (claimed_is_target s.tree.table file (claimed_name args.claim))
    (open_fits s.tree.table _ file (claimed_name args.claim) args.opentype _ free.missing free.kind)

tree_fits : (s : Seen) (caller : Option Party) (file : ℕ) (verdict : Verdict) (d : Deed) → first (checks s caller file verdict d) ≡ None
    → ParentsFit (deed_words (look s) caller file d (ok_value s caller file d)).tree s.tree.table
unfolding create_value write_value changed_stateid
tree_fits s caller file verdict (deed.Access _) goes = tt
tree_fits s caller file verdict (deed.Close args) goes = by_told (option_map (next_stateid s.fs) (open_named s args.stateid))
  where
    by_told : (o : Option StateId) → ParentsFit (close_words (told.Close o)).tree s.tree.table
    by_told None = tt
    by_told (Some id) = tt
tree_fits s caller file verdict (deed.Commit _) goes = tt
tree_fits s caller file verdict (deed.Create args) goes = create_fits s file args verdict goes
tree_fits s caller file verdict (deed.GetAttr _) goes = tt
tree_fits s caller file verdict (deed.Lock args) goes = subst (λ word. ParentsFit word s.tree.table) (sym (lock_keeps (look s) caller file args (lock_value s args)).tree) tt
tree_fits s caller file verdict (deed.LockTest _) goes = tt
tree_fits s caller file verdict (deed.Lookup _) goes = tt
tree_fits s caller file verdict deed.LookupP goes = tt
tree_fits s None file verdict (deed.Open _) goes = tt
tree_fits s (Some party) file verdict (deed.Open args) goes = opened_fits s party file args verdict goes
tree_fits s caller file verdict (deed.OpenConfirm args) goes = by_told (option_map (next_stateid s.fs) (open_named s args.stateid))
  where
    by_told : (o : Option StateId) → ParentsFit (confirm_words (look s) (told.OpenConfirm o)).tree s.tree.table
    by_told None = tt
    by_told (Some id) = tt
tree_fits s caller file verdict (deed.OpenDowngrade args) goes = by_told (option_map (next_stateid s.fs) (open_named s args.stateid))
  where
    by_told : (o : Option StateId) → ParentsFit (downgrade_words (look s) args (told.OpenDowngrade o)).tree s.tree.table
    by_told None = tt
    by_told (Some id) = tt
tree_fits s caller file verdict (deed.Read _) goes = tt
tree_fits s caller file verdict (deed.ReadDir _) goes = tt
tree_fits s caller file verdict (deed.ReleaseLockOwner args) goes = subst (λ word. ParentsFit word s.tree.table) (sym (release_keeps caller args.owner true).tree) tt
tree_fits s caller file verdict (deed.Remove args) goes = remove_fits s file args verdict goes
tree_fits s caller file verdict (deed.SetAttr args) goes = set_fits _ file s.tree.table args _
tree_fits s caller file verdict (deed.Unlock args) goes = subst (λ word. ParentsFit word s.tree.table) (sym (unlock_keeps (look s) args (changed_lock s args.stateid)).tree) tt
tree_fits s caller file verdict (deed.Write args) goes = write_fits _ file s.tree.table args

parents-event : (s : Seen) (event : Event) → IsSound s → all_stand_in s.tree.table ≡ true → all_stand_in (after s event (answer_to s event)).tree.table ≡ true
unfolding answer_to words after_words tree_after
parents-event s (Ended party) sound all = all
parents-event s (Asked call verdict) sound all = by_stop (first (checks s call.caller call.file verdict call.deed)) refl
  where
    by_stop : (x : Option Stop) → first (checks s call.caller call.file verdict call.deed) ≡ x → all_stand_in (after s (Asked call verdict) (reply_by s call x)).tree.table ≡ true
    by_stop (Some (Refuse status)) refused = subst (λ w. all_stand_in (after_words s w).tree.table ≡ true) (sym (words-refused s call verdict status)) all
    by_stop (Some (Repeat kept)) repeats = subst (λ w. all_stand_in (after_words s w).tree.table ≡ true) (sym (words-old (look s) call verdict kept (repeat_is_old s call verdict kept repeats))) all
    by_stop None goes = subst (λ w. all_stand_in (after_words s w).tree.table ≡ true) (sym (words-free s call verdict goes))
        (parents-after (deed_words (look s) call.caller call.file call.deed (ok_value s call.caller call.file call.deed)).tree s.tree sound.numbers sound.names
        (tree_fits s call.caller call.file verdict call.deed goes) all)

pub parents-seen : (fs : ℕ) (grants : Bool) (es : Past) → IsLegal fs grants es → all_stand_in (seen fs grants es).tree.table ≡ true
unfolding seen
parents-seen fs grants [] legal = refl
parents-seen fs grants (x ∷ earlier) legal =
    rw legal.0 (parents-event (seen fs grants earlier) x.event (sound-seen fs grants earlier legal.1) (parents-seen fs grants earlier legal.1))
