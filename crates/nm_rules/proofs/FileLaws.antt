-- In every legal list the tree says what the entries say of each file.
use Rattle.std.proofs.Common.{◌≡◌, ℕ, ◌+◌, ◌-◌, ◌≤◌, ◌<◌, Bool, true, false, cond, List, [], ◌∷◌, ◌++◌, length, take, drop, replicate, Option, Some, None, refl, ap, sym, subst, ◌∙◌, arith, eqb-true, length-append, length-drop}
use Rattle.std.specs.Prelude.{◌==◌, ◌&&◌, not, nat_le, nat_lt, max, get_or, unwrap_or}
use Rattle.std.proofs.lemmas.Bool.{false≢true}
use Rattle.std.proofs.lemmas.Bool.Decides.{nat_tests}
use Rattle.std.proofs.lemmas.List.{get_or-take, get_or-drop, get_or-replicate, get_or_past, length-take, length-replicate, get_or-append_right, get_or_append_left}
use Rattle.nm_rules.specs.Lists.{is_empty}
use Rattle.nm_types.specs.Parties.{Party}
use Rattle.nm_rules.specs.Attributes.{Asks, asks_of, asked_size, asked_mode}
use Rattle.nm_rules.specs.Checks.{Stop, first}
use Rattle.nm_rules.specs.Checks.Stop.{Refuse, Repeat}
use Rattle.nm_rules.specs.Contents.{TreeWord, FileEdit, root_row, file_at, stamped, edited, edited_at, file_left, is_named, sized, written, taken}
use Rattle.nm_rules.specs.Contents.TreeWord.{Untouched, Made, Edited, Removed}
use Rattle.nm_rules.specs.Contents.FileEdit.{Wrote, Set}
use Rattle.nm_rules.specs.Data.{write_value}
use Rattle.nm_rules.specs.Files.{create_value}
use Rattle.nm_rules.specs.LockOps.{lock_value, changed_lock}
use Rattle.nm_rules.specs.Opens.{open_checks, open_value, target}
use Rattle.nm_rules.specs.Seqids.{is_fresh}
use Rattle.nm_rules.specs.Past.{Past, Now, acts, words, deed_words, judgement, close_words, confirm_words, downgrade_words, open_tree, claimed_in, claimed_name, opentype_asks, cuts, parent_of, set_tree, write_tree}
use Rattle.nm_types.specs.Statuses.{is_done}
use Rattle.nm_rules.specs.Seen.{Seen, seen, look, after, after_words}
use Rattle.nm_rules.specs.Answer.{answer_to, reply_by, refused_value, ok_value, checks, IsLegal}
use Rattle.nm_rules.specs.FileReadings.{FileChange, open_change, deed_change, change_of, byte_after, size_after, mode_after, name_after, dir_after, byte_of, size_of, mode_of, name_of, dir_of, IsRead}
use Rattle.nm_rules.specs.FileReadings.FileChange.{Leaves, Makes, Writes, Sets}
use Rattle.nm_rules.specs.Sound.{IsSound}
use Rattle.nm_types.specs.declared.args.OpenArgs.{OpenArgs}
use Rattle.nm_types.specs.declared.args.OpenType.{OpenType}
use Rattle.nm_types.specs.declared.args.WriteArgs.{WriteArgs}
use Rattle.nm_types.specs.declared.calls.Call.{Call}
use Rattle.nm_types.specs.declared.calls.Deed.{Deed}
use Rattle.nm_types.specs.declared.calls.Deed.TheVariants as deed
use Rattle.nm_types.specs.declared.calls.Event.{Event}
use Rattle.nm_types.specs.declared.calls.Event.TheVariants.{Asked, Ended}
use Rattle.nm_types.specs.declared.calls.Reply.{Reply}
use Rattle.nm_types.specs.declared.calls.ReplyValue.TheVariants as told
use Rattle.nm_types.specs.declared.calls.StateId.{StateId}
use Rattle.nm_types.specs.declared.calls.Verdict.{Verdict}
use Rattle.nm_types.specs.declared.rows.FileRow.{FileRow}
use Rattle.nm_types.specs.declared.status.OpStatus.{OpStatus}
use Rattle.nm_rules.proofs.FileRows.{file_at-past}
use Rattle.nm_rules.proofs.Legal.{free_is_fresh, repeat_is_old, words-refused, words-old, words-free, sound-seen, look-seen, claimed_is_target}
use Rattle.nm_rules.proofs.Looks.{file_by-after}
use Rattle.nm_rules.proofs.Refusals.{by_refusal, lock_keeps, unlock_keeps, release_keeps}

-- ---- bytes

same_number : (k : ℕ) → (k == k) ≡ true
same_number k = grind (arith, nat_tests)

byte_in_zeros : (n p : ℕ) → ◌≡◌ {A = ℕ} (get_or (replicate n 0) p 0) 0
byte_in_zeros n p = by_test (nat_lt p n) refl
  where
    by_test : (b : Bool) → nat_lt p n ≡ b → ◌≡◌ {A = ℕ} (get_or (replicate n 0) p 0) 0
    by_test true below = get_or-replicate n p 0 0 (grind (arith, nat_tests))
    by_test false past = get_or_past (replicate n 0) p 0 (omega (arith, length-replicate {A = ℕ} n 0, not_below past))
      where
        not_below : nat_lt p n ≡ false → n ≤ p
        not_below h = grind (arith, nat_tests)

pub length-sized : (size : ℕ) (bytes : List ℕ) → length (sized size bytes) ≡ size
unfolding sized
length-sized size bytes = omega (arith, length-append (take size bytes) (replicate (size - length bytes) 0), length-take size bytes, length-replicate {A = ℕ} (size - length bytes) 0)

pub byte-sized : (size : ℕ) (bytes : List ℕ) (p : ℕ) → get_or (sized size bytes) p 0 ≡ cond (nat_le size p) 0 (get_or bytes p 0)
unfolding sized
byte-sized size bytes p = by_test (nat_le size p) refl
  where
    by_test : (b : Bool) → nat_le size p ≡ b → get_or (sized size bytes) p 0 ≡ cond b 0 (get_or bytes p 0)
    by_test true past = get_or_past (sized size bytes) p 0 (rw (length-sized size bytes) (grind (arith, nat_tests)))
    by_test false below = within (nat_lt p (length bytes)) refl
      where
        low : p < size
        low = grind (arith, nat_tests)

        within : (c : Bool) → nat_lt p (length bytes) ≡ c → get_or (sized size bytes) p 0 ≡ get_or bytes p 0
        within true there =
            let lt : p < length bytes = grind (arith, nat_tests) in
            get_or_append_left (take size bytes) (replicate (size - length bytes) 0) 0 p (omega (arith, length-take size bytes, lt, low))
            ∙ get_or-take size bytes p 0 low
        within false beyond =
            let le : length bytes ≤ p = grind (arith, nat_tests) in
            get_or-append_right (take size bytes) (replicate (size - length bytes) 0) (length bytes) p 0 (omega (arith, length-take size bytes, le, low)) le
            ∙ byte_in_zeros (size - length bytes) (p - length bytes)
            ∙ sym (get_or_past bytes p 0 le)

pub length-written : (offset : ℕ) (new bytes : List ℕ) → length (written offset new bytes) ≡ max (length bytes) (offset + length new)
unfolding written
length-written offset new bytes =
    omega (arith, length-append (sized offset bytes) (new ++ drop (offset + length new) bytes), length-sized offset bytes, length-append new (drop (offset + length new) bytes), length-drop (offset + length new) bytes)

pub byte-written : (offset : ℕ) (new bytes : List ℕ) (p : ℕ)
    → get_or (written offset new bytes) p 0 ≡ cond (nat_le offset p && nat_lt p (offset + length new)) (get_or new (p - offset) 0) (get_or bytes p 0)
unfolding written
byte-written offset new bytes p = by_tests (nat_le offset p) (nat_lt p (offset + length new)) refl refl
  where
    by_tests : (b c : Bool) → nat_le offset p ≡ b → nat_lt p (offset + length new) ≡ c
        → get_or (written offset new bytes) p 0 ≡ cond (b && c) (get_or new (p - offset) 0) (get_or bytes p 0)
    by_tests false c before below =
        get_or_append_left (sized offset bytes) (new ++ drop (offset + length new) bytes) 0 p (rw (length-sized offset bytes) (grind (arith, nat_tests)))
        ∙ byte-sized offset bytes p ∙ rw before refl
    by_tests true true from below =
        let le : offset ≤ p = grind (arith, nat_tests) in
        let lt : p < offset + length new = grind (arith, nat_tests) in
        get_or-append_right (sized offset bytes) (new ++ drop (offset + length new) bytes) offset p 0 (length-sized offset bytes) le
        ∙ get_or_append_left new (drop (offset + length new) bytes) 0 (p - offset) (omega (arith, le, lt))
    by_tests true false from past =
        let le : offset ≤ p = grind (arith, nat_tests) in
        let ge : offset + length new ≤ p = grind (arith, nat_tests) in
        get_or-append_right (sized offset bytes) (new ++ drop (offset + length new) bytes) offset p 0 (length-sized offset bytes) le
        ∙ get_or-append_right new (drop (offset + length new) bytes) (length new) (p - offset) 0 refl (omega (arith, le, ge))
        ∙ get_or-drop (offset + length new) bytes (p - offset - length new) 0
        ∙ ap (λ k. get_or bytes k 0) (omega (arith, le, ge))

-- ---- what a word does to a file

abbrev change_by : TreeWord → ℕ → FileChange
change_by Untouched k = Leaves
change_by (Made row) k = cond (row.number == k) (Makes row.parent row.name (length row.bytes) row.mode) Leaves
change_by (Edited dir number (Wrote offset new)) k = cond (number == k) (Writes offset new) Leaves
change_by (Edited dir number (Set size mode)) k = cond (number == k) (Sets size mode) Leaves
change_by (Removed dir name) k = Leaves

-- What was read of a file: its bytes, its size, its mode, its name and its directory.
record Read : Type 0 where
  byte : ℕ → ℕ
  size : ℕ
  mode : ℕ
  name : List ℕ
  dir : ℕ

abbrev read_after : FileChange → Read → Read
read_after change before = record {
  byte = λ p. byte_after change p (before.byte p);
  size = size_after change before.size;
  mode = mode_after change before.mode;
  name = name_after change before.name;
  dir = dir_after change before.dir;
}

-- a row says what was read
record Says (row : FileRow) (read : Read) : Type 0 where
  bytes : (p : ℕ) → get_or row.bytes p 0 ≡ read.byte p
  length : length row.bytes ≡ read.size
  mode : row.mode ≡ read.mode
  name : row.name ≡ read.name
  parent : row.parent ≡ read.dir

abbrev SaysOf : Option FileRow → Read → Type 0
SaysOf None read = Unit {0}
SaysOf (Some row) read = Says row read

-- a stamp changes nothing of this
says_stamped : (change number : ℕ) (row : FileRow) (read : Read) → Says row read → Says (stamped change number row) read
says_stamped change number row read says = by_test (row.number == number)
  where
    by_test : (b : Bool) → Says (cond b (record row { change = change }) row) read
    by_test true = record { bytes = says.bytes; length = says.length; mode = says.mode; name = says.name; parent = says.parent }
    by_test false = says

says_edited : (edit : FileEdit) (change dir number k : ℕ) (row : FileRow) (read : Read) → (number == k) ≡ true → Says row read
    → Says (record (edited edit row) { change = change }) (read_after (change_by (Edited dir number edit) k) read)
unfolding edited
says_edited (Wrote offset new) change dir number k row read its says = by_test (number == k) its
  where
    by_test : (b : Bool) → b ≡ true → Says (record row { bytes = written offset new row.bytes; change = change }) (read_after (cond b (Writes offset new) Leaves) read)
    by_test false never = absurd (false≢true never)
    by_test true same = record {
      bytes = λ p. byte-written offset new row.bytes p ∙ ap (cond (nat_le offset p && nat_lt p (offset + length new)) (get_or new (p - offset) 0)) (says.bytes p);
      length = length-written offset new row.bytes ∙ ap (λ n. max n (offset + length new)) says.length;
      mode = says.mode;
      name = says.name;
      parent = says.parent;
    }
says_edited (Set size mode) change dir number k row read its says = by_test (number == k) its size mode
  where
    by_test : (b : Bool) → b ≡ true → (size mode : Option ℕ) → Says (record (edited (Set size mode) row) { change = change }) (read_after (cond b (Sets size mode) Leaves) read)
    by_test false never size mode = absurd (false≢true never)
    by_test true same None None = record { bytes = says.bytes; length = says.length; mode = says.mode; name = says.name; parent = says.parent }
    by_test true same None (Some m) = record { bytes = says.bytes; length = says.length; mode = refl; name = says.name; parent = says.parent }
    by_test true same (Some n) None = record {
      bytes = λ p. byte-sized n row.bytes p ∙ ap (cond (nat_le n p) 0) (says.bytes p);
      length = length-sized n row.bytes;
      mode = says.mode;
      name = says.name;
      parent = says.parent;
    }
    by_test true same (Some n) (Some m) = record {
      bytes = λ p. byte-sized n row.bytes p ∙ ap (cond (nat_le n p) 0) (says.bytes p);
      length = length-sized n row.bytes;
      mode = refl;
      name = says.name;
      parent = says.parent;
    }

-- what is made begins with zeros, under a number that none has
record IsFresh (row : FileRow) (k : ℕ) (before : Option FileRow) : Type 0 where
  zeros : (p : ℕ) → ◌≡◌ {A = ℕ} (get_or row.bytes p 0) 0
  unused : row.number ≡ k → before ≡ None

abbrev BeginsFresh : TreeWord → ℕ → Option FileRow → Type 0
BeginsFresh Untouched k before = Unit {0}
BeginsFresh (Made row) k before = IsFresh row k before
BeginsFresh (Edited _ _ _) k before = Unit {0}
BeginsFresh (Removed _ _) k before = Unit {0}

made_says : (row : FileRow) (change k : ℕ) (read : Read) (before : Option FileRow) → IsFresh row k before → SaysOf before read
    → SaysOf (file_left (Made row) change k before) (read_after (change_by (Made row) k) read)
unfolding file_left
made_says row change k read None fresh says = by_test (row.number == k)
  where
    by_test : (b : Bool) → SaysOf (cond b (Some (record row { change = change })) None) (read_after (cond b (Makes row.parent row.name (length row.bytes) row.mode) Leaves) read)
    by_test true = record { bytes = fresh.zeros; length = refl; mode = refl; name = refl; parent = refl }
    by_test false = tt
made_says row change k read (Some old) fresh says = by_test (row.number == k) refl
  where
    by_test : (b : Bool) → (row.number == k) ≡ b
        → Says (stamped change row.parent old) (read_after (cond b (Makes row.parent row.name (length row.bytes) row.mode) Leaves) read)
    by_test true same = absurd (used (fresh.unused (eqb-true row.number k same)))
      where
        used : Some old ≡ None → ⊥
        used h = cc
    by_test false other = says_stamped change row.parent old read says

edited_says : (dir number change k : ℕ) (edit : FileEdit) (row : FileRow) (read : Read) → row.number ≡ k → Says row read
    → Says (edited_at change dir number edit row) (read_after (change_by (Edited dir number edit) k) read)
edited_says dir number change k edit row read its says = by_test (row.number == number) (number == k) refl refl
  where
    left_it : (c : Bool) → (number == k) ≡ c → c ≡ false → read_after (change_by (Edited dir number edit) k) read ≡ read
    left_it c is_c none = by_edit edit
      where
        by_edit : (e : FileEdit) → read_after (change_by (Edited dir number e) k) read ≡ read
        by_edit (Wrote offset new) = rw (is_c, none) refl
        by_edit (Set size mode) = rw (is_c, none) refl

    by_test : (b c : Bool) → (row.number == number) ≡ b → (number == k) ≡ c
        → Says (cond b (record (edited edit row) { change = change }) (stamped change dir row)) (read_after (change_by (Edited dir number edit) k) read)
    by_test true c same is_c =
        let number_is : number ≡ k = sym (eqb-true row.number number same) ∙ its in
        says_edited edit change dir number k row read (ap (λ n. n == k) number_is ∙ same_number k) says
    by_test false true other is_c = absurd (false≢true (sym other ∙ ap (λ n. n == number) its ∙ ap (λ n. k == n) (eqb-true number k is_c) ∙ same_number k))
    by_test false false other is_c = rw (left_it false is_c refl) (says_stamped change dir row read says)

word_says : (word : TreeWord) (change k : ℕ) (read : Read) (before : Option FileRow) → ((row : FileRow) → before ≡ Some row → row.number ≡ k)
    → BeginsFresh word k before → SaysOf before read → SaysOf (file_left word change k before) (read_after (change_by word k) read)
unfolding file_left
word_says Untouched change k read None its fresh says = tt
word_says Untouched change k read (Some row) its fresh says = record { bytes = says.bytes; length = says.length; mode = says.mode; name = says.name; parent = says.parent }
word_says (Made row) change k read before its fresh says = made_says row change k read before fresh says
word_says (Edited dir number edit) change k read None its fresh says = tt
word_says (Edited dir number edit) change k read (Some row) its fresh says = edited_says dir number change k edit row read (its row refl) says
word_says (Removed dir name) change k read None its fresh says = tt
word_says (Removed dir name) change k read (Some row) its fresh says = by_test (is_named dir name row)
  where
    by_test : (b : Bool) → SaysOf (cond b None (Some (stamped change dir row))) (read_after Leaves read)
    by_test true = tt
    by_test false = says_stamped change dir row read says

-- ---- what an entry says of a file is what its word does to it

either_leaves : (b : Bool) → cond b Leaves Leaves ≡ Leaves
either_leaves true = refl
either_leaves false = refl

value_leaves : (n : Now) (k file : ℕ) (d : Deed) → (b : Bool) → cond b (deed_change n k file d (refused_value d)) Leaves ≡ Leaves
unfolding is_empty
value_leaves n k file (deed.Access _) b = either_leaves b
value_leaves n k file (deed.Close _) b = either_leaves b
value_leaves n k file (deed.Commit _) b = either_leaves b
value_leaves n k file (deed.Create _) b = either_leaves b
value_leaves n k file (deed.GetAttr _) b = either_leaves b
value_leaves n k file (deed.Lock _) b = either_leaves b
value_leaves n k file (deed.LockTest _) b = either_leaves b
value_leaves n k file (deed.Lookup _) b = either_leaves b
value_leaves n k file deed.LookupP b = either_leaves b
value_leaves n k file (deed.Open _) b = either_leaves b
value_leaves n k file (deed.OpenConfirm _) b = either_leaves b
value_leaves n k file (deed.OpenDowngrade _) b = either_leaves b
value_leaves n k file (deed.Read _) b = either_leaves b
value_leaves n k file (deed.ReadDir _) b = either_leaves b
value_leaves n k file (deed.ReleaseLockOwner _) b = either_leaves b
value_leaves n k file (deed.Remove _) b = either_leaves b
value_leaves n k file (deed.SetAttr args) b = ap (λ c. cond b c Leaves) (nothing_set (file == k)) ∙ either_leaves b
  where
    nothing_set : (c : Bool) → cond (c && false) (Sets (asked_size (asks_of args.attributes)) (asked_mode (asks_of args.attributes))) Leaves ≡ Leaves
    nothing_set true = refl
    nothing_set false = refl
value_leaves n k file (deed.Unlock _) b = either_leaves b
value_leaves n k file (deed.Write _) b = either_leaves b

refused_leaves : (s : Seen) (k : ℕ) (call : Call) (verdict : Verdict) (status : OpStatus)
    → change_of (look s) k (Asked call verdict) (reply_by s call (Some (Refuse status))) ≡ Leaves
refused_leaves s k call verdict status =
    by_refusal (λ d value. (b : Bool) → cond b (deed_change (look s) k call.file d value) Leaves ≡ Leaves)
    (value_leaves (look s) k call.file) (λ args o b. either_leaves b) (λ args o b. either_leaves b) s call.caller call.file call.deed status
    (acts (look s) call (reply_by s call (Some (Refuse status))))

open_says : (row : Option FileRow) (dir k number : ℕ) (args : OpenArgs) (o : Option ℕ)
    → cond (number == k) (open_change dir args o) Leaves ≡ change_by (open_tree row dir (claimed_name args.claim) args.opentype o number) k
unfolding open_tree
open_says row dir k number args None =
    ap (λ n. cond (number == k) (Makes dir (unwrap_or (claimed_name args.claim) []) n (unwrap_or (asked_mode (opentype_asks args.opentype)) 420)) Leaves)
    (sym (length-replicate {A = ℕ} (unwrap_or (asked_size (opentype_asks args.opentype)) 0) 0))
open_says row dir k number args (Some child) = by_cut (cuts args.opentype)
  where
    by_cut : (c : Bool) → cond (number == k) (cond c (Sets (Some 0) None) Leaves) Leaves ≡ change_by (cond c (Edited (parent_of row) number (Set (Some 0) None)) Untouched) k
    by_cut true = refl
    by_cut false = either_leaves (number == k)

set_says : (row : Option FileRow) (file k : ℕ) (asks : Asks) (told_words : List ℕ)
    → cond ((file == k) && not (is_empty told_words)) (Sets (asked_size asks) (asked_mode asks)) Leaves ≡ change_by (set_tree row file asks told_words) k
unfolding set_tree
set_says row file k asks told_words = by_test (is_empty told_words)
  where
    by_test : (c : Bool) → cond ((file == k) && not c) (Sets (asked_size asks) (asked_mode asks)) Leaves
        ≡ change_by (cond c Untouched (Edited (parent_of row) file (Set (asked_size asks) (asked_mode asks)))) k
    by_test true = none_or_leaves (file == k)
      where
        none_or_leaves : (b : Bool) → cond (b && false) (Sets (asked_size asks) (asked_mode asks)) Leaves ≡ Leaves
        none_or_leaves true = refl
        none_or_leaves false = refl
    by_test false = and_true (file == k)
      where
        and_true : (b : Bool) → cond (b && true) (Sets (asked_size asks) (asked_mode asks)) Leaves ≡ cond b (Sets (asked_size asks) (asked_mode asks)) Leaves
        and_true true = refl
        and_true false = refl

write_says : (row : Option FileRow) (file k : ℕ) (args : WriteArgs)
    → cond ((file == k) && not (is_empty (taken args.«data»))) (Writes args.offset (taken args.«data»)) Leaves ≡ change_by (write_tree row file args) k
unfolding write_tree
write_says row file k args = by_test (is_empty (taken args.«data»))
  where
    by_test : (c : Bool) → cond ((file == k) && not c) (Writes args.offset (taken args.«data»)) Leaves
        ≡ change_by (cond c Untouched (Edited (parent_of row) file (Wrote args.offset (taken args.«data»)))) k
    by_test true = none_or_leaves (file == k)
      where
        none_or_leaves : (b : Bool) → cond (b && false) (Writes args.offset (taken args.«data»)) Leaves ≡ Leaves
        none_or_leaves true = refl
        none_or_leaves false = refl
    by_test false = and_true (file == k)
      where
        and_true : (b : Bool) → cond (b && true) (Writes args.offset (taken args.«data»)) Leaves ≡ cond b (Writes args.offset (taken args.«data»)) Leaves
        and_true true = refl
        and_true false = refl

goes_says : (s : Seen) (k : ℕ) (caller : Option Party) (file : ℕ) (verdict : Verdict) (d : Deed) → first (checks s caller file verdict d) ≡ None
    → deed_change (look s) k file d (ok_value s caller file d) ≡ change_by (deed_words (look s) caller file d (ok_value s caller file d)).tree k
unfolding create_value open_value open_checks write_value
goes_says s k caller file verdict (deed.Access _) goes = refl
goes_says s k caller file verdict (deed.Close _) goes = closed_leaves _
  where
    closed_leaves : (o : Option StateId) → Leaves ≡ change_by (close_words (told.Close o)).tree k
    closed_leaves None = refl
    closed_leaves (Some id) = refl
goes_says s k caller file verdict (deed.Commit _) goes = refl
goes_says s k caller file verdict (deed.Create args) goes = refl
goes_says s k caller file verdict (deed.GetAttr _) goes = refl
goes_says s k caller file verdict (deed.Lock args) goes = sym (ap (λ word. change_by word k) (lock_keeps (look s) caller file args (lock_value s args)).tree)
goes_says s k caller file verdict (deed.LockTest _) goes = refl
goes_says s k caller file verdict (deed.Lookup _) goes = refl
goes_says s k caller file verdict deed.LookupP goes = refl
goes_says s k None file verdict (deed.Open args) goes = cc
goes_says s k (Some party) file verdict (deed.Open args) goes =
    open_says _ file k _ args (claimed_in (look s).child_by file (claimed_name args.claim))
goes_says s k caller file verdict (deed.OpenConfirm _) goes = confirmed_leaves _
  where
    confirmed_leaves : (o : Option StateId) → Leaves ≡ change_by (confirm_words (look s) (told.OpenConfirm o)).tree k
    confirmed_leaves None = refl
    confirmed_leaves (Some id) = refl
goes_says s k caller file verdict (deed.OpenDowngrade args) goes = narrowed_leaves _
  where
    narrowed_leaves : (o : Option StateId) → Leaves ≡ change_by (downgrade_words (look s) args (told.OpenDowngrade o)).tree k
    narrowed_leaves None = refl
    narrowed_leaves (Some id) = refl
goes_says s k caller file verdict (deed.Read _) goes = refl
goes_says s k caller file verdict (deed.ReadDir _) goes = refl
goes_says s k caller file verdict (deed.ReleaseLockOwner args) goes = sym (ap (λ word. change_by word k) (release_keeps caller args.owner true).tree)
goes_says s k caller file verdict (deed.Remove args) goes = refl
goes_says s k caller file verdict (deed.SetAttr args) goes = set_says ((look s).file_by file) file k (asks_of args.attributes) _
goes_says s k caller file verdict (deed.Unlock args) goes = sym (ap (λ word. change_by word k) (unlock_keeps (look s) args (changed_lock s args.stateid)).tree)
goes_says s k caller file verdict (deed.Write args) goes = write_says ((look s).file_by file) file k args

-- ---- what is made is new

next_is_unused : (s : Seen) (k number : ℕ) → IsSound s → number ≡ s.tree.last_file + 1 → number ≡ k → file_at k s.tree.table ≡ None
next_is_unused s k number sound next same = file_at-past 0 s.tree.last_file s.tree.table k sound.numbers (omega (arith, next, same))

open_fresh : (s : Seen) (k : ℕ) (row : Option FileRow) (dir : ℕ) (name : Option (List ℕ)) (opentype : OpenType) (o : Option ℕ) → IsSound s
    → BeginsFresh (open_tree row dir name opentype o (unwrap_or o (s.tree.last_file + 1))) k (file_at k s.tree.table)
unfolding open_tree
open_fresh s k row dir name opentype None sound = record {
  zeros = λ p. byte_in_zeros (unwrap_or (asked_size (opentype_asks opentype)) 0) p;
  unused = next_is_unused s k (s.tree.last_file + 1) sound refl;
}
open_fresh s k row dir name opentype (Some child) sound = by_test (cuts opentype)
  where
    by_test : (b : Bool) → BeginsFresh (cond b (Edited (parent_of row) child (Set (Some 0) None)) Untouched) k (file_at k s.tree.table)
    by_test true = tt
    by_test false = tt

unless_fresh : (b : Bool) (dir number : ℕ) (edit : FileEdit) (k : ℕ) (o : Option FileRow) → BeginsFresh (cond b Untouched (Edited dir number edit)) k o
unless_fresh true dir number edit k o = tt
unless_fresh false dir number edit k o = tt

set_fresh : (row : Option FileRow) (file k : ℕ) (asks : Asks) (told_words : List ℕ) (o : Option FileRow) → BeginsFresh (set_tree row file asks told_words) k o
unfolding set_tree
set_fresh row file k asks told_words o = unless_fresh (is_empty told_words) (parent_of row) file (Set (asked_size asks) (asked_mode asks)) k o

write_fresh : (row : Option FileRow) (file k : ℕ) (args : WriteArgs) (o : Option FileRow) → BeginsFresh (write_tree row file args) k o
unfolding write_tree
write_fresh row file k args o = unless_fresh (is_empty (taken args.«data»)) (parent_of row) file (Wrote args.offset (taken args.«data»)) k o

goes_fresh : (s : Seen) (k : ℕ) (caller : Option Party) (file : ℕ) (verdict : Verdict) (d : Deed) → IsSound s → first (checks s caller file verdict d) ≡ None
    → BeginsFresh (deed_words (look s) caller file d (ok_value s caller file d)).tree k (file_at k s.tree.table)
unfolding create_value open_value open_checks write_value look
goes_fresh s k caller file verdict (deed.Access _) sound goes = tt
goes_fresh s k caller file verdict (deed.Close _) sound goes = closed_fresh _
  where
    closed_fresh : (o : Option StateId) → BeginsFresh (close_words (told.Close o)).tree k (file_at k s.tree.table)
    closed_fresh None = tt
    closed_fresh (Some id) = tt
goes_fresh s k caller file verdict (deed.Commit _) sound goes = tt
goes_fresh s k caller file verdict (deed.Create args) sound goes = record { zeros = λ p. refl; unused = next_is_unused s k (s.tree.last_file + 1) sound refl }
goes_fresh s k caller file verdict (deed.GetAttr _) sound goes = tt
goes_fresh s k caller file verdict (deed.Lock args) sound goes = subst (λ word. BeginsFresh word k (file_at k s.tree.table)) (sym (lock_keeps (look s) caller file args (lock_value s args)).tree) tt
goes_fresh s k caller file verdict (deed.LockTest _) sound goes = tt
goes_fresh s k caller file verdict (deed.Lookup _) sound goes = tt
goes_fresh s k caller file verdict deed.LookupP sound goes = tt
goes_fresh s k None file verdict (deed.Open args) sound goes = cc
goes_fresh s k (Some party) file verdict (deed.Open args) sound goes =
    rw (claimed_is_target s.tree.table file (claimed_name args.claim)) (open_fresh s k _ file (claimed_name args.claim) args.opentype (target s file args) sound)
goes_fresh s k caller file verdict (deed.OpenConfirm _) sound goes = confirmed_fresh _
  where
    confirmed_fresh : (o : Option StateId) → BeginsFresh (confirm_words (look s) (told.OpenConfirm o)).tree k (file_at k s.tree.table)
    confirmed_fresh None = tt
    confirmed_fresh (Some id) = tt
goes_fresh s k caller file verdict (deed.OpenDowngrade args) sound goes = narrowed_fresh _
  where
    narrowed_fresh : (o : Option StateId) → BeginsFresh (downgrade_words (look s) args (told.OpenDowngrade o)).tree k (file_at k s.tree.table)
    narrowed_fresh None = tt
    narrowed_fresh (Some id) = tt
goes_fresh s k caller file verdict (deed.Read _) sound goes = tt
goes_fresh s k caller file verdict (deed.ReadDir _) sound goes = tt
goes_fresh s k caller file verdict (deed.ReleaseLockOwner args) sound goes = subst (λ word. BeginsFresh word k (file_at k s.tree.table)) (sym (release_keeps caller args.owner true).tree) tt
goes_fresh s k caller file verdict (deed.Remove args) sound goes = tt
goes_fresh s k caller file verdict (deed.SetAttr args) sound goes = set_fresh _ file k (asks_of args.attributes) _ _
goes_fresh s k caller file verdict (deed.Unlock args) sound goes = subst (λ word. BeginsFresh word k (file_at k s.tree.table)) (sym (unlock_keeps (look s) args (changed_lock s args.stateid)).tree) tt
goes_fresh s k caller file verdict (deed.Write args) sound goes = write_fresh _ file k args _

-- ---- the laws

old_leaves : (n : Now) (k : ℕ) (call : Call) (verdict : Verdict) (r : Reply) → is_fresh (judgement n call) ≡ false → change_of n k (Asked call verdict) r ≡ Leaves
old_leaves n k call verdict r old = rw old refl

-- a call that nothing stops acts
free_acts : (s : Seen) (k : ℕ) (call : Call) (verdict : Verdict) → first (checks s call.caller call.file verdict call.deed) ≡ None
    → change_of (look s) k (Asked call verdict) (reply_by s call None) ≡ deed_change (look s) k call.file call.deed (ok_value s call.caller call.file call.deed)
unfolding is_done
free_acts s k call verdict goes = rw (free_is_fresh s call verdict goes) refl

-- what an entry says, and what its word does to the file
entry_says : (s : Seen) (k : ℕ) (event : Event) → change_of (look s) k event (answer_to s event) ≡ change_by (words (look s) event (answer_to s event)).tree k
unfolding answer_to words
entry_says s k (Ended party) = refl
entry_says s k (Asked call verdict) = by_stop (first (checks s call.caller call.file verdict call.deed)) refl
  where
    by_stop : (x : Option Stop) → first (checks s call.caller call.file verdict call.deed) ≡ x
        → change_of (look s) k (Asked call verdict) (reply_by s call x) ≡ change_by (words (look s) (Asked call verdict) (reply_by s call x)).tree k
    by_stop (Some (Refuse status)) refused = refused_leaves s k call verdict status ∙ ap (λ w. change_by w.tree k) (sym (words-refused s call verdict status))
    by_stop (Some (Repeat kept)) repeats =
        let old = repeat_is_old s call verdict kept repeats in
        old_leaves (look s) k call verdict kept old ∙ ap (λ w. change_by w.tree k) (sym (words-old (look s) call verdict kept old))
    by_stop None goes = free_acts s k call verdict goes
        ∙ goes_says s k call.caller call.file verdict call.deed goes
        ∙ ap (λ w. change_by w.tree k) (sym (words-free s call verdict goes))

-- what is made is new
entry_fresh : (s : Seen) (k : ℕ) (event : Event) → IsSound s → BeginsFresh (words (look s) event (answer_to s event)).tree k (file_at k s.tree.table)
unfolding answer_to words
entry_fresh s k (Ended party) sound = tt
entry_fresh s k (Asked call verdict) sound = by_stop (first (checks s call.caller call.file verdict call.deed)) refl
  where
    by_stop : (x : Option Stop) → first (checks s call.caller call.file verdict call.deed) ≡ x
        → BeginsFresh (words (look s) (Asked call verdict) (reply_by s call x)).tree k (file_at k s.tree.table)
    by_stop (Some (Refuse status)) refused = subst (λ w. BeginsFresh w.tree k (file_at k s.tree.table)) (sym (words-refused s call verdict status)) tt
    by_stop (Some (Repeat kept)) repeats =
        subst (λ w. BeginsFresh w.tree k (file_at k s.tree.table)) (sym (words-old (look s) call verdict kept (repeat_is_old s call verdict kept repeats))) tt
    by_stop None goes = subst (λ w. BeginsFresh w.tree k (file_at k s.tree.table)) (sym (words-free s call verdict goes))
        (goes_fresh s k call.caller call.file verdict call.deed sound goes)

read_of : Past → ℕ → Read
read_of es k = record { byte = byte_of es k; size = size_of es k; mode = mode_of es k; name = name_of es k; dir = dir_of es k }

pub found_number : (k : ℕ) (rows : List FileRow) (row : FileRow) → file_at k rows ≡ Some row → row.number ≡ k
unfolding file_at
found_number k [] row found = cc
found_number k (x ∷ xs) row found = by_test (x.number == k) refl found (found_number k xs row)
  where
    by_test : (b : Bool) → (x.number == k) ≡ b → cond b (Some x) (file_at k xs) ≡ Some row → (file_at k xs ≡ Some row → row.number ≡ k) → row.number ≡ k
    by_test true same it later = let here : x ≡ row = cc in rw (← here) (eqb-true x.number k same)
    by_test false other it later = later it

says_seen : (fs : ℕ) (grants : Bool) (es : Past) (k : ℕ) → IsLegal fs grants es → SaysOf (file_at k (seen fs grants es).tree.table) (read_of es k)
unfolding seen read_of byte_of size_of mode_of name_of dir_of file_at after_words
says_seen fs grants [] k legal = by_test (1 == k)
  where
    by_test : (b : Bool) → SaysOf (cond b (Some root_row) None) (read_of [] k)
    by_test true = record { bytes = λ p. refl; length = refl; mode = refl; name = refl; parent = refl }
    by_test false = tt
says_seen fs grants (x ∷ earlier) k legal =
    let s : Seen = seen fs grants earlier in
    let sound : IsSound s = sound-seen fs grants earlier legal.1 in
    let step : SaysOf (file_left (words (look s) x.event (answer_to s x.event)).tree (s.tree.change + 1) k (file_at k s.tree.table))
    (read_after (change_by (words (look s) x.event (answer_to s x.event)).tree k) (read_of earlier k)) =
    word_says _ (s.tree.change + 1) k (read_of earlier k) (file_at k s.tree.table) (found_number k s.tree.table)
    (entry_fresh s k x.event sound) (says_seen fs grants earlier k legal.1) in
    let after_it : SaysOf (file_at k (after s x.event (answer_to s x.event)).tree.table)
    (read_after (change_of (look s) k x.event (answer_to s x.event)) (read_of earlier k)) =
    subst (λ o. SaysOf o (read_after (change_of (look s) k x.event (answer_to s x.event)) (read_of earlier k))) (sym (file_by-after _ s.tree k sound.numbers))
    (subst (λ c. SaysOf (file_left (words (look s) x.event (answer_to s x.event)).tree (s.tree.change + 1) k (file_at k s.tree.table)) (read_after c (read_of earlier k)))
    (sym (entry_says s k x.event)) step) in
    subst (λ n. SaysOf (file_at k (after s x.event x.reply).tree.table) (read_after (change_of n k x.event x.reply) (read_of earlier k))) (look-seen fs grants earlier legal.1)
    (subst (λ r. SaysOf (file_at k (after s x.event r).tree.table) (read_after (change_of (look s) k x.event r) (read_of earlier k))) (sym legal.0) after_it)

pub files_are_read : (fs : ℕ) (grants : Bool) (es : Past) (k : ℕ) (row : FileRow) → IsLegal fs grants es → file_at k (seen fs grants es).tree.table ≡ Some row → IsRead es row
unfolding read_of
files_are_read fs grants es k row legal found =
    let says : SaysOf (Some row) (read_of es k) = subst (λ o. SaysOf o (read_of es k)) found (says_seen fs grants es k legal) in
    rw (found_number k (seen fs grants es).tree.table row found)
    (record { bytes = says.bytes; size = says.length; mode = says.mode; name = says.name; dir = says.parent })
