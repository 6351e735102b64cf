-- Files stay within their limits: how many there are, how long each is, and how long all are together.
use Rattle.std.proofs.Common.{◌≡◌, ◌≤◌, ◌<◌, ℕ, ◌+◌, ◌-◌, Bool, true, false, cond, List, [], ◌∷◌, ◌++◌, length, replicate, Option, Some, None, refl, ap, sym, subst, ◌∙◌, arith, length-append}
use Rattle.std.proofs.lemmas.List.{length-replicate}
use Rattle.std.specs.Prelude.{find, option_map, map, filter, not, nat_le, nat_lt, max, unwrap_or, ◌&&◌, ◌||◌, ◌==◌}
use Rattle.std.specs.List.{list_all}
use Rattle.std.proofs.lemmas.Bool.{true≢false, ltb-false, and_parts}
use Rattle.std.proofs.lemmas.Bool.Decides.{nat_tests}
use Rattle.nm_types.specs.Parties.{Party}
use Rattle.nm_rules.specs.Attributes.{asks_of, asked_size, asked_mode, has_size}
use Rattle.nm_rules.specs.Contents.{TreeNow, TreeWord, FileEdit, files_limit, size_limit, total_limit, taken, written, file_at, is_named, stamped, edited_at, edited, tree_after, total_size}
use Rattle.nm_rules.specs.Contents.TreeWord.{Untouched, Made, Edited, Removed}
use Rattle.nm_rules.specs.Contents.FileEdit.{Wrote, Set}
use Rattle.nm_rules.specs.Lists.{is_empty}
use Rattle.nm_rules.specs.Checks.{Stop, first}
use Rattle.nm_rules.specs.Checks.Stop.{Refuse, Repeat}
use Rattle.nm_rules.specs.Past.{Past, deed_words, words, open_words, close_words, confirm_words, downgrade_words, claimed_name, opentype_asks, open_tree, cuts, parent_of, set_tree, write_tree}
use Rattle.nm_rules.specs.Seen.{Seen, seen, look, after, after_words}
use Rattle.nm_rules.specs.Answer.{IsLegal, answer_to, reply_by, ok_value, checks}
use Rattle.nm_rules.specs.Data.{setattr_checks, size_checks, mode_checks, set_limit, write_checks, write_limit, write_value, written_size}
use Rattle.nm_rules.specs.Files.{changes_past_end, create_checks, create_value, fills_up, makes_past_end, size_of, sized_limit}
use Rattle.nm_rules.specs.LockOps.{lock_value, changed_lock}
use Rattle.nm_rules.specs.Opens.{changed_stateid, next_stateid, open_checks, open_limit, open_value, target, tree_limit}
use Rattle.nm_rules.specs.Stateids.{open_named}
use Rattle.nm_rules.specs.Sound.{IsSound, files_rise, fits_size, FilesFit}
use Rattle.nm_types.specs.declared.args.CreateArgs.{CreateArgs}
use Rattle.nm_types.specs.declared.args.OpenArgs.{OpenArgs}
use Rattle.nm_types.specs.declared.args.OpenType.{OpenType}
use Rattle.nm_types.specs.declared.args.SetAttrArgs.{SetAttrArgs}
use Rattle.nm_types.specs.declared.args.WriteArgs.{WriteArgs}
use Rattle.nm_types.specs.declared.calls.Deed.{Deed}
use Rattle.nm_types.specs.declared.calls.Deed.TheVariants as deed
use Rattle.nm_types.specs.declared.calls.Event.{Event}
use Rattle.nm_types.specs.declared.calls.Event.TheVariants.{Asked, Ended}
use Rattle.nm_types.specs.declared.calls.ReplyValue.TheVariants as told
use Rattle.nm_types.specs.declared.calls.StateId.{StateId}
use Rattle.nm_types.specs.declared.calls.Verdict.{Verdict}
use Rattle.nm_types.specs.declared.rows.FileRow.{FileRow}
use Rattle.nm_types.specs.declared.status.OpStatus.TheVariants.{FBig, NoSpc, Resource}
use Rattle.nm_rules.proofs.Classes.{IsFree, all_free, or_none, refuse_if-none}
use Rattle.nm_rules.proofs.FileLaws.{length-sized, length-written}
use Rattle.nm_rules.proofs.Legal.{claimed_is_target, sound-seen, words-free, words-old, words-refused, repeat_is_old}
use Rattle.nm_rules.proofs.LockRowLaws.{list_all-filter}
use Rattle.nm_rules.proofs.Refusals.{lock_keeps, unlock_keeps, release_keeps}

-- ---- changes that keep the bytes

abbrev KeepsBytes : (FileRow → FileRow) → Type 0
KeepsBytes change = (row : FileRow) → (change row).bytes ≡ row.bytes

stamped_bytes : (change number : ℕ) → KeepsBytes (stamped change number)
stamped_bytes change number row = by_test (row.number == number)
  where
    by_test : (b : Bool) → (cond b (record row { change = change }) row).bytes ≡ row.bytes
    by_test true = refl
    by_test false = refl

total-map : (change : FileRow → FileRow) → KeepsBytes change → (rows : List FileRow) → total_size (map change rows) ≡ total_size rows
unfolding total_size
total-map change keeps [] = refl
total-map change keeps (row ∷ rows) = rw (keeps row, total-map change keeps rows) refl

sizes-map : (change : FileRow → FileRow) → KeepsBytes change → (rows : List FileRow) → list_all fits_size (map change rows) ≡ list_all fits_size rows
sizes-map change keeps [] = refl
sizes-map change keeps (row ∷ rows) = rw (keeps row, sizes-map change keeps rows) refl

length-map : (change : FileRow → FileRow) (rows : List FileRow) → length (map change rows) ≡ length rows
length-map change [] = refl
length-map change (row ∷ rows) = omega (arith, length-map change rows)

-- ---- a row that comes, and rows that go

pub total-push : (rows : List FileRow) (row : FileRow) → total_size (rows ++ row ∷ []) ≡ total_size rows + length row.bytes
unfolding total_size
total-push [] row = omega arith
total-push (x ∷ xs) row = omega (arith, total-push xs row)

sizes-push : (rows : List FileRow) (row : FileRow) → list_all fits_size rows ≡ true → fits_size row ≡ true → list_all fits_size (rows ++ row ∷ []) ≡ true
sizes-push [] row all fits = rw fits refl
sizes-push (x ∷ xs) row all fits =
    let parts = and_parts (fits_size x) (list_all fits_size xs) all in
    rw (parts.0, sizes-push xs row parts.1 fits) refl

pub total-filter : (p : FileRow → Bool) (rows : List FileRow) → total_size (filter p rows) ≤ total_size rows
unfolding total_size
total-filter p [] = omega arith
total-filter p (x ∷ xs) = by_test (p x) (total-filter p xs)
  where
    by_test : (b : Bool) → total_size (filter p xs) ≤ total_size xs → total_size (cond b (x ∷ filter p xs) (filter p xs)) ≤ length x.bytes + total_size xs
    by_test true later = omega (arith, later)
    by_test false later = omega (arith, later)

length-filter : (p : FileRow → Bool) (rows : List FileRow) → length (filter p rows) ≤ length rows
length-filter p [] = omega arith
length-filter p (x ∷ xs) = by_test (p x) (length-filter p xs)
  where
    by_test : (b : Bool) → length (filter p xs) ≤ length xs → length (cond b (x ∷ filter p xs) (filter p xs)) ≤ length (x ∷ xs)
    by_test true later = omega (arith, later)
    by_test false later = omega (arith, later)

-- ---- a row that is edited

-- what an edit leaves of a file's length
abbrev edited_length : FileEdit → FileRow → ℕ
edited_length edit row = length (edited edit row).bytes

-- a table where no row has the number keeps its bytes
none_edited : (change dir number : ℕ) (edit : FileEdit) (above last : ℕ) (rows : List FileRow) → files_rise above last rows ≡ true → number ≤ above
    → (total_size (map (edited_at change dir number edit) rows) ≡ total_size rows) × (list_all fits_size (map (edited_at change dir number edit) rows) ≡ list_all fits_size rows)
unfolding total_size
none_edited change dir number edit above last [] rising low = (refl, refl)
none_edited change dir number edit above last (x ∷ xs) rising low =
    let later = none_edited change dir number edit x.number last xs (and_parts (nat_lt above x.number) (files_rise x.number last xs) rising).1 (grind (arith, nat_tests)) in
    rw (other x.number number (grind (arith, nat_tests)), stamped_bytes change dir x, later.0, later.1) (refl, refl)
  where
    other : (m n : ℕ) → n < m → (m == n) ≡ false
    other m n lt = grind (arith, nat_tests)

-- nor does one where none is found by it
absent_edited : (change dir number : ℕ) (edit : FileEdit) (rows : List FileRow) → file_at number rows ≡ None
    → (total_size (map (edited_at change dir number edit) rows) ≡ total_size rows) × (list_all fits_size (map (edited_at change dir number edit) rows) ≡ list_all fits_size rows)
unfolding total_size file_at
absent_edited change dir number edit [] none = (refl, refl)
absent_edited change dir number edit (x ∷ xs) none = by_test (x.number == number) none (absent_edited change dir number edit xs)
  where
    rest : List FileRow
    rest = map (edited_at change dir number edit) xs

    by_test : (b : Bool) → cond b (Some x) (find (λ r. r.number == number) xs) ≡ None
        → (find (λ r. r.number == number) xs ≡ None → (total_size rest ≡ total_size xs) × (list_all fits_size rest ≡ list_all fits_size xs))
        → (length (cond b (record (edited edit x) { change = change }) (stamped change dir x)).bytes + total_size rest ≡ length x.bytes + total_size xs)
        × ((fits_size (cond b (record (edited edit x) { change = change }) (stamped change dir x)) && list_all fits_size rest) ≡ (fits_size x && list_all fits_size xs))
    by_test true none later = cc
    by_test false none later = rw (stamped_bytes change dir x, (later none).0, (later none).1) (refl, refl)

fits_le : (n : ℕ) → n ≤ size_limit → nat_le n size_limit ≡ true
fits_le n le = test n size_limit le
  where
    test : (m k : ℕ) → m ≤ k → nat_le m k ≡ true
    test m k le = grind (arith, nat_tests)

-- with one row edited the lengths differ by what the edit does
one_edited : (change dir number : ℕ) (edit : FileEdit) (above last : ℕ) (rows : List FileRow) (row : FileRow) → files_rise above last rows ≡ true
    → file_at number rows ≡ Some row → edited_length edit row ≤ size_limit → list_all fits_size rows ≡ true
    → (total_size (map (edited_at change dir number edit) rows) + length row.bytes ≡ total_size rows + edited_length edit row)
    × (list_all fits_size (map (edited_at change dir number edit) rows) ≡ true)
unfolding total_size file_at
one_edited change dir number edit above last [] row rising found fits all = cc
one_edited change dir number edit above last (x ∷ xs) row rising found fits all =
    by_test (x.number == number) refl found (and_parts (fits_size x) (list_all fits_size xs) all)
    (λ low. none_edited change dir number edit x.number last xs rises low)
    (λ there. one_edited change dir number edit x.number last xs row rises there fits (and_parts (fits_size x) (list_all fits_size xs) all).1)
  where
    rises : files_rise x.number last xs ≡ true
    rises = (and_parts (nat_lt above x.number) (files_rise x.number last xs) rising).1

    rest : List FileRow
    rest = map (edited_at change dir number edit) xs

    some_same : {a b : FileRow} → Some a ≡ Some b → a ≡ b
    some_same e = cc

    by_test : (b : Bool) → (x.number == number) ≡ b → cond b (Some x) (find (λ r. r.number == number) xs) ≡ Some row → (fits_size x ≡ true) × (list_all fits_size xs ≡ true)
        → (number ≤ x.number → (total_size rest ≡ total_size xs) × (list_all fits_size rest ≡ list_all fits_size xs))
        → (find (λ r. r.number == number) xs ≡ Some row → (total_size rest + length row.bytes ≡ total_size xs + edited_length edit row) × (list_all fits_size rest ≡ true))
        → ((length (cond b (record (edited edit x) { change = change }) (stamped change dir x)).bytes + total_size rest) + length row.bytes
        ≡ (length x.bytes + total_size xs) + edited_length edit row)
        × ((fits_size (cond b (record (edited edit x) { change = change }) (stamped change dir x)) && list_all fits_size rest) ≡ true)
    by_test true same here parts none later =
        let one : x ≡ row = some_same here in
        let rests = none (grind (arith, nat_tests)) in (
          omega (arith, rests.0, ap (λ (r : FileRow). length r.bytes) one, ap (edited_length edit) one),
          rw (fits_le (edited_length edit x) (subst (λ r. edited_length edit r ≤ size_limit) (sym one) fits), rests.1, parts.1) refl,
        )
    by_test false other there parts none later =
        let rests = later there in (
          omega (arith, rests.0, ap (λ (bytes : List ℕ). length bytes) (stamped_bytes change dir x)),
          rw (ap (λ (bytes : List ℕ). nat_le (length bytes) size_limit) (stamped_bytes change dir x), parts.0, rests.1) refl,
        )

-- ---- one law for all words

-- what a word asks for: room for what is made, and a length for what is edited
abbrev LimitsFit : TreeWord → TreeNow → Type 0
LimitsFit Untouched tree = Unit {0}
LimitsFit (Made row) tree = (length tree.table + 1 ≤ files_limit) × (length row.bytes ≤ size_limit) × (total_size tree.table + length row.bytes ≤ total_limit)
LimitsFit (Edited dir number edit) tree = (row : FileRow) → file_at number tree.table ≡ Some row
    → (edited_length edit row ≤ size_limit) × (total_size tree.table + (edited_length edit row - length row.bytes) ≤ total_limit)
LimitsFit (Removed dir name) tree = Unit {0}

limits-after : (word : TreeWord) (tree : TreeNow) → files_rise 0 tree.last_file tree.table ≡ true → LimitsFit word tree → FilesFit tree → FilesFit (tree_after word tree)
unfolding tree_after
limits-after Untouched tree rising fits limits = limits
limits-after (Made row) tree rising fits limits =
    let change = stamped (tree.change + 1) row.parent in
    let keeps : KeepsBytes change = stamped_bytes (tree.change + 1) row.parent in
    record {
      few = omega (arith, length-append (map change tree.table) (record row { change = tree.change + 1 } ∷ []), length-map change tree.table, fits.0);
      sizes = sizes-push (map change tree.table) (record row { change = tree.change + 1 }) (sizes-map change keeps tree.table ∙ limits.sizes) (fits_le (length row.bytes) fits.1);
      total = omega (arith, total-push (map change tree.table) (record row { change = tree.change + 1 }), total-map change keeps tree.table, fits.2);
    }
limits-after (Edited dir number edit) tree rising fits limits = by_row (file_at number tree.table) refl
  where
    change : FileRow → FileRow
    change = edited_at (tree.change + 1) dir number edit

    by_row : (o : Option FileRow) → file_at number tree.table ≡ o
        → FilesFit (record tree { table = map change tree.table; change = tree.change + 1 })
    by_row None none = record {
      few = omega (arith, length-map change tree.table, limits.few);
      sizes = (absent_edited (tree.change + 1) dir number edit tree.table none).1 ∙ limits.sizes;
      total = omega (arith, (absent_edited (tree.change + 1) dir number edit tree.table none).0, limits.total);
    }
    by_row (Some row) found =
        let one = one_edited (tree.change + 1) dir number edit 0 tree.last_file tree.table row rising found (fits row found).0 limits.sizes in
        record {
          few = omega (arith, length-map change tree.table, limits.few);
          sizes = one.1;
          total = omega (arith, one.0, (fits row found).1, limits.total);
        }
limits-after (Removed dir name) tree rising fits limits =
    let change = stamped (tree.change + 1) dir in
    let keeps : KeepsBytes change = stamped_bytes (tree.change + 1) dir in
    let left : List FileRow = filter (λ row. not (is_named dir name row)) tree.table in
    record {
      few = omega (arith, length-map change left, length-filter (λ (row : FileRow). not (is_named dir name row)) tree.table, limits.few);
      sizes = sizes-map change keeps left ∙ list_all-filter fits_size (λ row. not (is_named dir name row)) tree.table limits.sizes;
      total = omega (arith, total-map change keeps left, total-filter (λ (row : FileRow). not (is_named dir name row)) tree.table, limits.total);
    }

-- ---- operations

more_files : (s : Seen) → makes_past_end s ≡ false → length s.tree.table + 1 ≤ files_limit
more_files s may = room files_limit (length s.tree.table) (last_of (changes_past_end s) _ (nat_le files_limit (length s.tree.table)) may)
  where
    last_of : (a b c : Bool) → ((a || b) || c) ≡ false → c ≡ false
    last_of true b c h = absurd (true≢false h)
    last_of false true c h = absurd (true≢false h)
    last_of false false c h = h

    room : (m n : ℕ) → nat_le m n ≡ false → n + 1 ≤ m
    room m n h = grind (arith, nat_tests)

-- a size that nothing stops is within the limits
size_fits : (s : Seen) (row : Option FileRow) (size : ℕ) → sized_limit s row (Some size) ≡ None
    → (size ≤ size_limit) × (total_size s.tree.table + (size - size_of row) ≤ total_limit)
unfolding sized_limit
size_fits s row size free =
    let parts = or_none _ _ free in
    (ltb-false size_limit size (refuse_if-none _ FBig parts.0), ltb-false total_limit (total_size s.tree.table + (size - size_of row)) (refuse_if-none _ NoSpc parts.1))

-- a file with that many zeros
abbrev zeros : Option ℕ → List ℕ
zeros o = replicate (unwrap_or o 0) 0

zeros_fit : (s : Seen) (o : Option ℕ) → sized_limit s None o ≡ None → FilesFit s.tree
    → (length (zeros o) ≤ size_limit) × (total_size s.tree.table + length (zeros o) ≤ total_limit)
zeros_fit s None free limits = (omega arith, omega (arith, limits.total))
zeros_fit s (Some size) free limits =
    let fits = size_fits s None size free in
    (omega (arith, length-replicate {A = ℕ} size 0, fits.0), omega (arith, length-replicate {A = ℕ} size 0, fits.1))

create_fits : (s : Seen) (dir : ℕ) (args : CreateArgs) (verdict : Verdict) → FilesFit s.tree → first (create_checks s dir args verdict) ≡ None
    → (length s.tree.table + 1 ≤ files_limit) × (0 ≤ size_limit) × (total_size s.tree.table + 0 ≤ total_limit)
unfolding create_checks
create_fits s dir args verdict limits goes =
    let free : IsFree (create_checks s dir args verdict) = all_free _ goes in
    (more_files s (refuse_if-none _ Resource free.limit), omega arith, omega (arith, limits.total))

-- an edit that sets a file's size, or keeps it
pub all_at : (p : FileRow → Bool) (k : ℕ) (rows : List FileRow) (y : FileRow) → list_all p rows ≡ true → file_at k rows ≡ Some y → p y ≡ true
unfolding file_at
all_at p k [] y all found = cc
all_at p k (x ∷ xs) y all found =
    by_test (x.number == k) found (and_parts (p x) (list_all p xs) all).0 (λ there. all_at p k xs y (and_parts (p x) (list_all p xs) all).1 there)
  where
    some_same : {a b : FileRow} → Some a ≡ Some b → a ≡ b
    some_same e = cc

    by_test : (b : Bool) → cond b (Some x) (find (λ r. r.number == k) xs) ≡ Some y → p x ≡ true
        → (find (λ r. r.number == k) xs ≡ Some y → p y ≡ true) → p y ≡ true
    by_test true here passes later = ap p (sym (some_same here)) ∙ passes
    by_test false there passes later = later there

le_of : (n : ℕ) → nat_le n size_limit ≡ true → n ≤ size_limit
le_of n h = test n size_limit h
  where
    test : (m k : ℕ) → nat_le m k ≡ true → m ≤ k
    test m k h = grind (arith, nat_tests)

set_edit_fits : (s : Seen) (file : ℕ) (size mode : Option ℕ) (row : FileRow) → FilesFit s.tree → file_at file s.tree.table ≡ Some row
    → sized_limit s (Some row) size ≡ None
    → (edited_length (Set size mode) row ≤ size_limit) × (total_size s.tree.table + (edited_length (Set size mode) row - length row.bytes) ≤ total_limit)
unfolding edited
set_edit_fits s file None None row limits found free = (le_of (length row.bytes) (all_at fits_size file s.tree.table row limits.sizes found), omega (arith, limits.total))
set_edit_fits s file None (Some mode) row limits found free = (le_of (length row.bytes) (all_at fits_size file s.tree.table row limits.sizes found), omega (arith, limits.total))
set_edit_fits s file (Some size) None row limits found free =
    let fits = size_fits s (Some row) size free in
    (omega (arith, length-sized size row.bytes, fits.0), omega (arith, length-sized size row.bytes, fits.1))
set_edit_fits s file (Some size) (Some mode) row limits found free =
    let fits = size_fits s (Some row) size free in
    (omega (arith, length-sized size row.bytes, fits.0), omega (arith, length-sized size row.bytes, fits.1))

-- a file that is cut to nothing
cut_fits : (s : Seen) (number : ℕ) → FilesFit s.tree → (row : FileRow) → file_at number s.tree.table ≡ Some row
    → (edited_length (Set (Some 0) None) row ≤ size_limit) × (total_size s.tree.table + (edited_length (Set (Some 0) None) row - length row.bytes) ≤ total_limit)
unfolding edited
cut_fits s number limits row found = (omega (arith, length-sized 0 row.bytes), omega (arith, length-sized 0 row.bytes, limits.total))

edits_fit : (b : Bool) (dir number : ℕ) (edit : FileEdit) (tree : TreeNow) → (b ≡ true → LimitsFit (Edited dir number edit) tree) → LimitsFit (cond b (Edited dir number edit) Untouched) tree
edits_fit true dir number edit tree fits = fits refl
edits_fit false dir number edit tree fits = tt

edits_unless_fit : (b : Bool) (dir number : ℕ) (edit : FileEdit) (tree : TreeNow) → (b ≡ false → LimitsFit (Edited dir number edit) tree) → LimitsFit (cond b Untouched (Edited dir number edit)) tree
edits_unless_fit true dir number edit tree fits = tt
edits_unless_fit false dir number edit tree fits = fits refl

open_tree_fits : (s : Seen) (row : Option FileRow) (dir : ℕ) (name : Option (List ℕ)) (opentype : OpenType) (o : Option ℕ) (number : ℕ)
    → FilesFit s.tree → tree_limit s o opentype ≡ None → LimitsFit (open_tree row dir name opentype o number) s.tree
unfolding open_tree tree_limit
open_tree_fits s row dir name opentype None number limits free =
    let parts = or_none (sized_limit s None (asked_size (opentype_asks opentype))) _ free in
    let fit = zeros_fit s (asked_size (opentype_asks opentype)) parts.0 limits in
    (more_files s (refuse_if-none _ Resource parts.1), fit.0, fit.1)
open_tree_fits s row dir name opentype (Some child) number limits free = edits_fit (cuts opentype) (parent_of row) number (Set (Some 0) None) s.tree (λ on. cut_fits s number limits)

opened_fits : (s : Seen) (party : Party) (file : ℕ) (args : OpenArgs) (verdict : Verdict) → FilesFit s.tree → first (open_checks s (Some party) file args verdict) ≡ None
    → LimitsFit (open_words (look s) (Some party) file args (told.Open (open_value s (Some party) file args))).tree s.tree
unfolding open_checks open_limit open_value look
opened_fits s party file args verdict limits goes =
    let free : IsFree (open_checks s (Some party) file args verdict) = all_free _ goes in
    rw (claimed_is_target s.tree.table file (claimed_name args.claim))
    (open_tree_fits s _ file (claimed_name args.claim) args.opentype (target s file args) _ limits (or_none (tree_limit s (target s file args) args.opentype) _ free.limit).0)

-- a SETATTR that nothing stops
set_fits : (s : Seen) (file : ℕ) (args : SetAttrArgs) (told_words : List ℕ) → FilesFit s.tree → set_limit s file (asks_of args.attributes) ≡ None
    → LimitsFit (set_tree (file_at file s.tree.table) file (asks_of args.attributes) told_words) s.tree
unfolding set_tree set_limit
set_fits s file args told_words limits free =
    edits_unless_fit (is_empty told_words) _ file (Set (asked_size (asks_of args.attributes)) (asked_mode (asks_of args.attributes))) s.tree
    (λ on. λ row found. set_edit_fits s file (asked_size (asks_of args.attributes)) (asked_mode (asks_of args.attributes)) row limits found
    (subst (λ o. sized_limit s o (asked_size (asks_of args.attributes)) ≡ None) found (or_none _ _ free).0))

setattr_free : (s : Seen) (caller : Option Party) (file : ℕ) (args : SetAttrArgs) (verdict : Verdict) → first (setattr_checks s caller file args verdict) ≡ None
    → set_limit s file (asks_of args.attributes) ≡ None
unfolding setattr_checks size_checks mode_checks
setattr_free s caller file args verdict goes = by_size (has_size args.attributes.words) goes
  where
    by_size : (b : Bool) → first (cond b (size_checks s caller file args verdict) (mode_checks s file args verdict)) ≡ None → set_limit s file (asks_of args.attributes) ≡ None
    by_size true goes = (all_free (size_checks s caller file args verdict) goes).limit
    by_size false goes = (all_free (mode_checks s file args verdict) goes).limit

write_room : (s : Seen) (file : ℕ) (args : WriteArgs) → write_limit s file args ≡ None
    → (args.offset + length (taken args.«data») ≤ size_limit) × (fills_up s (size_of (file_at file s.tree.table)) (written_size (file_at file s.tree.table) args) ≡ false)
unfolding write_limit
write_room s file args free =
    let one = or_none _ _ free in
    (ltb-false size_limit (args.offset + length (taken args.«data»)) (refuse_if-none _ FBig one.0), refuse_if-none _ NoSpc (or_none _ _ one.1).0)

-- a WRITE that nothing stops
write_fits : (s : Seen) (caller : Option Party) (file : ℕ) (args : WriteArgs) (verdict : Verdict) → FilesFit s.tree → first (write_checks s caller file args verdict) ≡ None
    → LimitsFit (write_tree (file_at file s.tree.table) file args) s.tree
unfolding write_tree write_checks edited
write_fits s caller file args verdict limits goes =
    edits_unless_fit (is_empty (taken args.«data»)) _ file (Wrote args.offset (taken args.«data»)) s.tree (λ some. row_fits some)
  where
    free : IsFree (write_checks s caller file args verdict)
    free = all_free (write_checks s caller file args verdict) goes

    room : (args.offset + length (taken args.«data») ≤ size_limit) × (fills_up s (size_of (file_at file s.tree.table)) (written_size (file_at file s.tree.table) args) ≡ false)
    room = write_room s file args free.limit

    row_fits : is_empty (taken args.«data») ≡ false → (row : FileRow) → file_at file s.tree.table ≡ Some row
        → (length (written args.offset (taken args.«data») row.bytes) ≤ size_limit)
        × (total_size s.tree.table + (length (written args.offset (taken args.«data») row.bytes) - length row.bytes) ≤ total_limit)
    row_fits some row found =
        let new : length (written args.offset (taken args.«data») row.bytes) ≡ max (length row.bytes) (args.offset + length (taken args.«data»)) =
        length-written args.offset (taken args.«data») row.bytes in
        let size : length row.bytes ≤ size_limit = le_of (length row.bytes) (all_at fits_size file s.tree.table row limits.sizes found) in
        let filled : nat_lt total_limit (total_size s.tree.table + (max (length row.bytes) (args.offset + length (taken args.«data»)) - length row.bytes)) ≡ false =
        rw some at (subst (λ o. fills_up s (size_of o) (written_size o args) ≡ false) found room.1) in
        (omega (arith, new, size, room.0), omega (arith, new, ltb-false total_limit (total_size s.tree.table + (max (length row.bytes) (args.offset + length (taken args.«data»)) - length row.bytes)) filled))

tree_fits : (s : Seen) (caller : Option Party) (file : ℕ) (verdict : Verdict) (d : Deed) → FilesFit s.tree → first (checks s caller file verdict d) ≡ None
    → LimitsFit (deed_words (look s) caller file d (ok_value s caller file d)).tree s.tree
unfolding create_value write_value changed_stateid look
tree_fits s caller file verdict (deed.Access _) limits goes = tt
tree_fits s caller file verdict (deed.Close args) limits goes = by_told (option_map (next_stateid s.fs) (open_named s args.stateid))
  where
    by_told : (o : Option StateId) → LimitsFit (close_words (told.Close o)).tree s.tree
    by_told None = tt
    by_told (Some id) = tt
tree_fits s caller file verdict (deed.Commit _) limits goes = tt
tree_fits s caller file verdict (deed.Create args) limits goes = create_fits s file args verdict limits goes
tree_fits s caller file verdict (deed.GetAttr _) limits goes = tt
tree_fits s caller file verdict (deed.Lock args) limits goes = subst (λ word. LimitsFit word s.tree) (sym (lock_keeps (look s) caller file args (lock_value s args)).tree) tt
tree_fits s caller file verdict (deed.LockTest _) limits goes = tt
tree_fits s caller file verdict (deed.Lookup _) limits goes = tt
tree_fits s caller file verdict deed.LookupP limits goes = tt
tree_fits s None file verdict (deed.Open _) limits goes = tt
tree_fits s (Some party) file verdict (deed.Open args) limits goes = opened_fits s party file args verdict limits goes
tree_fits s caller file verdict (deed.OpenConfirm args) limits goes = by_told (option_map (next_stateid s.fs) (open_named s args.stateid))
  where
    by_told : (o : Option StateId) → LimitsFit (confirm_words (look s) (told.OpenConfirm o)).tree s.tree
    by_told None = tt
    by_told (Some id) = tt
tree_fits s caller file verdict (deed.OpenDowngrade args) limits goes = by_told (option_map (next_stateid s.fs) (open_named s args.stateid))
  where
    by_told : (o : Option StateId) → LimitsFit (downgrade_words (look s) args (told.OpenDowngrade o)).tree s.tree
    by_told None = tt
    by_told (Some id) = tt
tree_fits s caller file verdict (deed.Read _) limits goes = tt
tree_fits s caller file verdict (deed.ReadDir _) limits goes = tt
tree_fits s caller file verdict (deed.ReleaseLockOwner args) limits goes = subst (λ word. LimitsFit word s.tree) (sym (release_keeps caller args.owner true).tree) tt
tree_fits s caller file verdict (deed.Remove _) limits goes = tt
tree_fits s caller file verdict (deed.SetAttr args) limits goes = set_fits s file args _ limits (setattr_free s caller file args verdict goes)
tree_fits s caller file verdict (deed.Unlock args) limits goes = subst (λ word. LimitsFit word s.tree) (sym (unlock_keeps (look s) args (changed_lock s args.stateid)).tree) tt
tree_fits s caller file verdict (deed.Write args) limits goes = write_fits s caller file args verdict limits goes

limits-event : (s : Seen) (event : Event) → IsSound s → FilesFit s.tree → FilesFit (after s event (answer_to s event)).tree
unfolding answer_to words after_words tree_after
limits-event s (Ended party) sound limits = limits
limits-event s (Asked call verdict) sound limits = by_stop (first (checks s call.caller call.file verdict call.deed)) refl
  where
    by_stop : (x : Option Stop) → first (checks s call.caller call.file verdict call.deed) ≡ x → FilesFit (after s (Asked call verdict) (reply_by s call x)).tree
    by_stop (Some (Refuse status)) refused = subst (λ w. FilesFit (after_words s w).tree) (sym (words-refused s call verdict status)) limits
    by_stop (Some (Repeat kept)) repeats = subst (λ w. FilesFit (after_words s w).tree) (sym (words-old (look s) call verdict kept (repeat_is_old s call verdict kept repeats))) limits
    by_stop None goes = subst (λ w. FilesFit (after_words s w).tree) (sym (words-free s call verdict goes))
        (limits-after (deed_words (look s) call.caller call.file call.deed (ok_value s call.caller call.file call.deed)).tree s.tree sound.numbers
        (tree_fits s call.caller call.file verdict call.deed limits goes) limits)

pub limits-seen : (fs : ℕ) (grants : Bool) (es : Past) → IsLegal fs grants es → FilesFit (seen fs grants es).tree
unfolding seen total_size
limits-seen fs grants [] legal = record { few = omega arith; sizes = refl; total = omega arith }
limits-seen fs grants (x ∷ earlier) legal =
    rw legal.0 (limits-event (seen fs grants earlier) x.event (sound-seen fs grants earlier legal.1) (limits-seen fs grants earlier legal.1))
