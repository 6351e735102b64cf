-- What an entry of a legal list does to the files is what its word does to the tree, and the word fits what stands.
use Rattle.std.proofs.Common.{◌≡◌, ℕ, ◌+◌, ◌<◌, Bool, true, false, cond, List, [], ◌∷◌, Option, Some, None, refl, ap, sym, subst, ◌∙◌, arith, eqb-true}
use Rattle.std.specs.Prelude.{◌==◌, not, is_none, find, unwrap_or, option_map}
use Rattle.std.specs.List.{list_all}
use Rattle.std.specs.Str.{bytes_eq}
use Rattle.std.proofs.lemmas.Bool.{false≢true, true≢false, and_parts}
use Rattle.std.proofs.lemmas.Bool.Decides.{nat_tests}
use Rattle.std.proofs.lemmas.Slice.Eq.{bytes_eq-Decides}
use Rattle.nm_types.specs.Parties.{Party}
use Rattle.nm_types.specs.Statuses.{is_done}
use Rattle.nm_rules.specs.Lists.{is_empty}
use Rattle.nm_rules.specs.Attributes.{Asks, asks_of, asked_size, asked_mode, has_size}
use Rattle.nm_rules.specs.Checks.{Stop, first}
use Rattle.nm_rules.specs.Checks.Stop.{Refuse, Repeat}
use Rattle.nm_rules.specs.Contents.{TreeWord, FileEdit, file_at, child_at, is_named, is_entry_of, taken}
use Rattle.nm_rules.specs.Contents.TreeWord.{Untouched, Made, Edited, Removed}
use Rattle.nm_rules.specs.Contents.FileEdit.{Wrote, Set}
use Rattle.nm_rules.specs.Data.{write_checks, write_value, setattr_checks, size_checks, mode_checks}
use Rattle.nm_rules.specs.Files.{create_checks, create_value, dir_checks, file_checks}
use Rattle.nm_rules.specs.LockOps.{lock_value, changed_lock}
use Rattle.nm_rules.specs.Opens.{open_checks, open_value, target_at}
use Rattle.nm_rules.specs.Past.{Past, Now, acts, now, words, deed_words, judgement, close_words, confirm_words, downgrade_words, open_tree, claimed_name, cuts, exclusive_verifier, parent_of, set_tree, write_tree}
use Rattle.nm_rules.specs.Seen.{Seen, seen, look}
use Rattle.nm_rules.specs.Seqids.{is_fresh}
use Rattle.nm_rules.specs.Answer.{answer_to, reply_by, refused_value, ok_value, checks, IsLegal}
use Rattle.nm_rules.specs.Sound.{IsSound, files_rise, names_apart, all_named_apart}
use Rattle.nm_types.specs.declared.args.OpenArgs.{OpenArgs}
use Rattle.nm_types.specs.declared.args.OpenType.{OpenType}
use Rattle.nm_types.specs.declared.args.OpenType.TheVariants.{NoCreate, Unchecked, Guarded, Exclusive}
use Rattle.nm_types.specs.declared.args.SetAttrArgs.{SetAttrArgs}
use Rattle.nm_types.specs.declared.args.WriteArgs.{WriteArgs}
use Rattle.nm_types.specs.declared.calls.Call.{Call}
use Rattle.nm_types.specs.declared.calls.Deed.{Deed}
use Rattle.nm_types.specs.declared.calls.Deed.TheVariants as deed
use Rattle.nm_types.specs.declared.calls.Event.{Event}
use Rattle.nm_types.specs.declared.calls.Event.TheVariants.{Asked, Ended}
use Rattle.nm_types.specs.declared.calls.Reply.{Reply}
use Rattle.nm_types.specs.declared.calls.ReplyValue.TheVariants as told
use Rattle.nm_types.specs.declared.calls.StateId.{StateId}
use Rattle.nm_types.specs.declared.calls.Verdict.{Verdict}
use Rattle.nm_types.specs.declared.rows.FileKind.TheVariants.{File}
use Rattle.nm_types.specs.declared.rows.FileRow.{FileRow}
use Rattle.nm_types.specs.declared.status.OpStatus.{OpStatus}
use Rattle.nm_types.specs.declared.status.OpStatus.TheVariants.{Exist, Stale}
use Rattle.nm_rules.proofs.Classes.{IsFree, all_free, refuse_if-none}
use Rattle.nm_rules.proofs.FileRows.{file_at-past}
use Rattle.nm_rules.proofs.Legal.{claimed_is_target, free_is_fresh, repeat_is_old, words-free, words-old, words-refused, sound-seen, look-seen}
use Rattle.nm_rules.proofs.Refusals.{by_refusal, lock_keeps, unlock_keeps, release_keeps}
use Rattle.nm_laws.specs.TreeReadings.{NewFile, FileAct, open_act, verifier_of, deed_act, file_act, is_it}
use Rattle.nm_laws.specs.TreeReadings.FileAct.{Spares, Adds, Alters, Takes}

-- ---- what a word does

abbrev pub new_of : FileRow → NewFile
new_of row = record { number = row.number; dir = row.parent; name = row.name; kind = row.kind; verifier = row.verifier }

abbrev pub act_by : TreeWord → FileAct
act_by Untouched = Spares
act_by (Made row) = Adds (new_of row)
act_by (Edited dir number edit) = Alters number
act_by (Removed dir name) = Takes dir name

either_spares : (b : Bool) → cond b Spares Spares ≡ Spares
either_spares true = refl
either_spares false = refl

value_spares : (names : ℕ → List ℕ → Option ℕ) (file : ℕ) (d : Deed) (b : Bool) → cond b (deed_act names file d (refused_value d)) Spares ≡ Spares
unfolding is_empty
value_spares names file (deed.Access _) b = either_spares b
value_spares names file (deed.Close _) b = either_spares b
value_spares names file (deed.Commit _) b = either_spares b
value_spares names file (deed.Create _) b = either_spares b
value_spares names file (deed.GetAttr _) b = either_spares b
value_spares names file (deed.Lock _) b = either_spares b
value_spares names file (deed.LockTest _) b = either_spares b
value_spares names file (deed.Lookup _) b = either_spares b
value_spares names file deed.LookupP b = either_spares b
value_spares names file (deed.Open _) b = either_spares b
value_spares names file (deed.OpenConfirm _) b = either_spares b
value_spares names file (deed.OpenDowngrade _) b = either_spares b
value_spares names file (deed.Read _) b = either_spares b
value_spares names file (deed.ReadDir _) b = either_spares b
value_spares names file (deed.ReleaseLockOwner _) b = either_spares b
value_spares names file (deed.Remove _) b = either_spares b
value_spares names file (deed.SetAttr _) b = either_spares b
value_spares names file (deed.Unlock _) b = either_spares b
value_spares names file (deed.Write _) b = either_spares b

refused_spares : (n : Now) (names : ℕ → List ℕ → Option ℕ) (s : Seen) (call : Call) (verdict : Verdict) (status : OpStatus)
    → file_act n names (Asked call verdict) (reply_by s call (Some (Refuse status))) ≡ Spares
refused_spares n names s call verdict status =
    by_refusal (λ d value. (b : Bool) → cond b (deed_act names call.file d value) Spares ≡ Spares)
    (value_spares names call.file) (λ args o b. either_spares b) (λ args o b. either_spares b) s call.caller call.file call.deed status
    (acts n call (reply_by s call (Some (Refuse status))))

same_verifier : (opentype : OpenType) → verifier_of opentype ≡ exclusive_verifier opentype
unfolding exclusive_verifier
same_verifier NoCreate = refl
same_verifier (Unchecked _) = refl
same_verifier (Guarded _) = refl
same_verifier (Exclusive verifier) = refl

open_acts : (row : Option FileRow) (dir next : ℕ) (args : OpenArgs) (o : Option ℕ)
    → open_act dir args (unwrap_or o next) o ≡ act_by (open_tree row dir (claimed_name args.claim) args.opentype o (unwrap_or o next))
unfolding open_tree
open_acts row dir next args None =
    ap (λ v. Adds (record { number = next; dir = dir; name = unwrap_or (claimed_name args.claim) []; kind = File; verifier = v })) (same_verifier args.opentype)
open_acts row dir next args (Some child) = by_cut (cuts args.opentype)
  where
    by_cut : (c : Bool) → cond c (Alters child) Spares ≡ act_by (cond c (Edited (parent_of row) child (Set (Some 0) None)) Untouched)
    by_cut true = refl
    by_cut false = refl

unless_acts : (b : Bool) (dir number : ℕ) (edit : FileEdit) → cond b Spares (Alters number) ≡ act_by (cond b Untouched (Edited dir number edit))
unless_acts true dir number edit = refl
unless_acts false dir number edit = refl

set_acts : (row : Option FileRow) (file : ℕ) (asks : Asks) (told_words : List ℕ) → cond (is_empty told_words) Spares (Alters file) ≡ act_by (set_tree row file asks told_words)
unfolding set_tree
set_acts row file asks told_words = unless_acts (is_empty told_words) (parent_of row) file (Set (asked_size asks) (asked_mode asks))

-- of some bytes some are taken
some_taken : (bytes : List ℕ) → is_empty (taken bytes) ≡ is_empty bytes
unfolding taken is_empty
some_taken [] = refl
some_taken (x ∷ xs) = refl

write_acts : (row : Option FileRow) (file : ℕ) (args : WriteArgs) → cond (is_empty args.«data») Spares (Alters file) ≡ act_by (write_tree row file args)
unfolding write_tree
write_acts row file args =
    ap (λ b. cond b Spares (Alters file)) (sym (some_taken args.«data»))
    ∙ unless_acts (is_empty (taken args.«data»)) (parent_of row) file (Wrote args.offset (taken args.«data»))

goes_acts : (s : Seen) (caller : Option Party) (file : ℕ) (verdict : Verdict) (d : Deed) → first (checks s caller file verdict d) ≡ None
    → deed_act (look s).child_by file d (ok_value s caller file d) ≡ act_by (deed_words (look s) caller file d (ok_value s caller file d)).tree
unfolding create_value open_value open_checks write_value look
goes_acts s caller file verdict (deed.Access _) goes = refl
goes_acts s caller file verdict (deed.Close _) goes = closed_spares _
  where
    closed_spares : (o : Option StateId) → Spares ≡ act_by (close_words (told.Close o)).tree
    closed_spares None = refl
    closed_spares (Some id) = refl
goes_acts s caller file verdict (deed.Commit _) goes = refl
goes_acts s caller file verdict (deed.Create args) goes = refl
goes_acts s caller file verdict (deed.GetAttr _) goes = refl
goes_acts s caller file verdict (deed.Lock args) goes = sym (ap act_by (lock_keeps (look s) caller file args (lock_value s args)).tree)
goes_acts s caller file verdict (deed.LockTest _) goes = refl
goes_acts s caller file verdict (deed.Lookup _) goes = refl
goes_acts s caller file verdict deed.LookupP goes = refl
goes_acts s None file verdict (deed.Open args) goes = cc
goes_acts s (Some party) file verdict (deed.Open args) goes =
    rw (claimed_is_target s.tree.table file (claimed_name args.claim))
    (open_acts _ file (s.tree.last_file + 1) args (target_at s.tree.table file (claimed_name args.claim)))
goes_acts s caller file verdict (deed.OpenConfirm _) goes = confirmed_spares _
  where
    confirmed_spares : (o : Option StateId) → Spares ≡ act_by (confirm_words (look s) (told.OpenConfirm o)).tree
    confirmed_spares None = refl
    confirmed_spares (Some id) = refl
goes_acts s caller file verdict (deed.OpenDowngrade args) goes = narrowed_spares _
  where
    narrowed_spares : (o : Option StateId) → Spares ≡ act_by (downgrade_words (look s) args (told.OpenDowngrade o)).tree
    narrowed_spares None = refl
    narrowed_spares (Some id) = refl
goes_acts s caller file verdict (deed.Read _) goes = refl
goes_acts s caller file verdict (deed.ReadDir _) goes = refl
goes_acts s caller file verdict (deed.ReleaseLockOwner args) goes = sym (ap act_by (release_keeps caller args.owner true).tree)
goes_acts s caller file verdict (deed.Remove args) goes = refl
goes_acts s caller file verdict (deed.SetAttr args) goes = set_acts (file_at file s.tree.table) file (asks_of args.attributes) _
goes_acts s caller file verdict (deed.Unlock args) goes = sym (ap act_by (unlock_keeps (look s) args (changed_lock s args.stateid)).tree)
goes_acts s caller file verdict (deed.Write args) goes = write_acts (file_at file s.tree.table) file args

free_acts : (s : Seen) (names : ℕ → List ℕ → Option ℕ) (call : Call) (verdict : Verdict) → first (checks s call.caller call.file verdict call.deed) ≡ None
    → file_act (look s) names (Asked call verdict) (reply_by s call None) ≡ deed_act names call.file call.deed (ok_value s call.caller call.file call.deed)
unfolding is_done
free_acts s names call verdict goes = rw (free_is_fresh s call verdict goes) refl

-- what an entry does, and what its word does
pub entry_acts : (s : Seen) (event : Event) → file_act (look s) (look s).child_by event (answer_to s event) ≡ act_by (words (look s) event (answer_to s event)).tree
unfolding answer_to words
entry_acts s (Ended party) = refl
entry_acts s (Asked call verdict) = by_stop (first (checks s call.caller call.file verdict call.deed)) refl
  where
    names : ℕ → List ℕ → Option ℕ
    names = (look s).child_by

    old_spares : (r : Reply) → is_fresh (judgement (look s) call) ≡ false → file_act (look s) names (Asked call verdict) r ≡ Spares
    old_spares r old = rw old refl

    by_stop : (x : Option Stop) → first (checks s call.caller call.file verdict call.deed) ≡ x
        → file_act (look s) names (Asked call verdict) (reply_by s call x) ≡ act_by (words (look s) (Asked call verdict) (reply_by s call x)).tree
    by_stop (Some (Refuse status)) refused = refused_spares (look s) names s call verdict status ∙ ap (λ w. act_by w.tree) (sym (words-refused s call verdict status))
    by_stop (Some (Repeat kept)) repeats =
        let old = repeat_is_old s call verdict kept repeats in
        old_spares kept old ∙ ap (λ w. act_by w.tree) (sym (words-old (look s) call verdict kept old))
    by_stop None goes = free_acts s names call verdict goes
        ∙ goes_acts s call.caller call.file verdict call.deed goes
        ∙ ap (λ w. act_by w.tree) (sym (words-free s call verdict goes))

-- ---- what stands is found by its keys

-- what a search finds passes its test, and what all rows pass
found-passes : {X : Type 0} (p q : X → Bool) (rows : List X) (x : X) → list_all q rows ≡ true → find p rows ≡ Some x → (p x ≡ true) × (q x ≡ true)
found-passes p q [] x all found = cc
found-passes {X} p q (y ∷ ys) x all found =
    let parts = and_parts (q y) (list_all q ys) all in
    by_test (p y) refl found (λ later. found-passes p q ys x parts.1 later)
  where
    some_same : {a b : X} → Some a ≡ Some b → a ≡ b
    some_same e = cc

    by_test : (b : Bool) → p y ≡ b → cond b (Some y) (find p ys) ≡ Some x → (find p ys ≡ Some x → (p x ≡ true) × (q x ≡ true)) → (p x ≡ true) × (q x ≡ true)
    by_test true passes here later =
        (ap p (sym (some_same here)) ∙ passes, ap q (sym (some_same here)) ∙ (and_parts (q y) (list_all q ys) all).0)
    by_test false fails there later = later there

all_pass : {X : Type 0} (rows : List X) → list_all (λ x. true) rows ≡ true
all_pass [] = refl
all_pass (x ∷ xs) = all_pass xs

pub number_found : (k : ℕ) (rows : List FileRow) (row : FileRow) → file_at k rows ≡ Some row → row.number ≡ k
unfolding file_at
number_found k rows row found = eqb-true row.number k (found-passes (λ r. r.number == k) (λ r. true) rows row (all_pass rows) found).0

-- a file that is found by a name has a number above what all numbers are above
child_above : (dir : ℕ) (name : List ℕ) (above last : ℕ) (rows : List FileRow) (k : ℕ) → files_rise above last rows ≡ true
    → child_at dir name rows ≡ Some k → above < k
unfolding child_at
child_above dir name above last [] k rising found = cc
child_above dir name above last (h ∷ hs) k rising found =
    by_test (is_named dir name h) found (λ there. child_above dir name h.number last hs k rest there)
  where
    rest : files_rise h.number last hs ≡ true
    rest = grind (arith, nat_tests)

    first_of : Some h.number ≡ Some k → h.number ≡ k
    first_of e = cc

    by_test : (b : Bool) → option_map (λ (r : FileRow). r.number) (cond b (Some h) (find (is_named dir name) hs)) ≡ Some k
        → (option_map (λ (r : FileRow). r.number) (find (is_named dir name) hs) ≡ Some k → h.number < k) → above < k
    by_test true here later = let e : h.number ≡ k = first_of here in grind (arith, nat_tests)
    by_test false there later = let lt : h.number < k = later there in grind (arith, nat_tests)

-- another row of that name isn't apart from this one
named_or_apart : (dir : ℕ) (name : List ℕ) (h y : FileRow) → is_named dir name h ≡ true → names_apart h y ≡ true → is_named dir name y ≡ false
named_or_apart dir name h y named apart =
    let parts = and_parts (is_entry_of dir h) (bytes_eq h.name name) named in
    let entry = and_parts (h.parent == dir) (not (h.number == 1)) parts.0 in
    let its_dir : h.parent ≡ dir = eqb-true h.parent dir entry.0 in
    let its_name : h.name ≡ name = (bytes_eq-Decides h.name name).0 parts.1 in
    no_root (h.number == 1) (is_named dir name y) entry.1
    (subst (λ d. cond (h.number == 1) true (not (is_named d name y)) ≡ true) its_dir
    (subst (λ t. cond (h.number == 1) true (not (is_named h.parent t y)) ≡ true) its_name apart))
  where
    no_root : (b c : Bool) → not b ≡ true → cond b true (not c) ≡ true → c ≡ false
    no_root true c never apart = absurd (false≢true never)
    no_root false true other apart = absurd (false≢true apart)
    no_root false false other apart = refl

-- The row with a number has a name just where that name leads to the number.
named_exactly : (dir : ℕ) (name : List ℕ) (above last : ℕ) (rows : List FileRow) (k : ℕ) (y : FileRow) → files_rise above last rows ≡ true
    → all_named_apart rows ≡ true → file_at k rows ≡ Some y → is_named dir name y ≡ is_it k (child_at dir name rows)
unfolding file_at child_at
named_exactly dir name above last [] k y rising apart found = cc
named_exactly dir name above last (h ∷ hs) k y rising apart found =
    by_tests (h.number == k) (is_named dir name h) refl refl found (named_exactly dir name h.number last hs k y rest parts.1)
  where
    rest : files_rise h.number last hs ≡ true
    rest = grind (arith, nat_tests)

    parts : (list_all (names_apart h) hs ≡ true) × (all_named_apart hs ≡ true)
    parts = and_parts (list_all (names_apart h) hs) (all_named_apart hs) apart

    some_same : {a b : FileRow} → Some a ≡ Some b → a ≡ b
    some_same e = cc

    none_above : (h.number == k) ≡ true → (o : Option ℕ) → child_at dir name hs ≡ o → is_it k o ≡ false
    none_above same None found = refl
    none_above same (Some n) found = let lt : h.number < n = child_above dir name h.number last hs n rest found in grind (arith, nat_tests)

    by_tests : (b c : Bool) → (h.number == k) ≡ b → is_named dir name h ≡ c → cond b (Some h) (find (λ r. r.number == k) hs) ≡ Some y
        → (find (λ r. r.number == k) hs ≡ Some y → is_named dir name y ≡ is_it k (option_map (λ (r : FileRow). r.number) (find (is_named dir name) hs)))
        → is_named dir name y ≡ is_it k (option_map (λ (r : FileRow). r.number) (cond c (Some h) (find (is_named dir name) hs)))
    by_tests true true same named here later = ap (is_named dir name) (sym (some_same here)) ∙ named ∙ sym same
    by_tests true false same named here later = ap (is_named dir name) (sym (some_same here)) ∙ named ∙ sym (none_above same (child_at dir name hs) refl)
    by_tests false true other named there later =
        named_or_apart dir name h y named (found-passes (λ r. r.number == k) (names_apart h) hs y parts.0 there).1 ∙ sym other
    by_tests false false other named there later = later there

-- A file that a name leads to is there.
child_there : (dir : ℕ) (name : List ℕ) (rows : List FileRow) (k : ℕ) → child_at dir name rows ≡ Some k → is_none (file_at k rows) ≡ false
unfolding file_at child_at
child_there dir name [] k found = cc
child_there dir name (h ∷ hs) k found = by_tests (h.number == k) (is_named dir name h) refl found (λ there. child_there dir name hs k there)
  where
    first_of : Some h.number ≡ Some k → h.number ≡ k
    first_of e = cc

    by_tests : (b c : Bool) → (h.number == k) ≡ b → option_map (λ (r : FileRow). r.number) (cond c (Some h) (find (is_named dir name) hs)) ≡ Some k
        → (option_map (λ (r : FileRow). r.number) (find (is_named dir name) hs) ≡ Some k → is_none (find (λ r. r.number == k) hs) ≡ false)
        → is_none (cond b (Some h) (find (λ r. r.number == k) hs)) ≡ false
    by_tests true c same found later = refl
    by_tests false true other found later = let e : h.number ≡ k = first_of found in grind (arith, nat_tests)
    by_tests false false other found later = later found

-- What stands is found by its keys: a file by its number, and by each name just where that leads to it. No file has a number past the last.
pub record IsKeyed (n : Now) : Type 0 where
  pub numbered : (k : ℕ) (row : FileRow) → n.file_by k ≡ Some row → row.number ≡ k
  pub unused : (k : ℕ) → n.last_file < k → n.file_by k ≡ None
  pub named : (k : ℕ) (row : FileRow) (dir : ℕ) (name : List ℕ) → n.file_by k ≡ Some row → is_named dir name row ≡ is_it k (n.child_by dir name)

keyed-look : (s : Seen) → IsSound s → IsKeyed (look s)
unfolding look
keyed-look s sound = record {
  numbered = λ k row found. number_found k s.tree.table row found;
  unused = λ k past. file_at-past 0 s.tree.last_file s.tree.table k sound.numbers past;
  named = λ k row dir name found. named_exactly dir name 0 s.tree.last_file s.tree.table k row sound.numbers sound.names found;
}

pub keyed-now : (fs : ℕ) (grants : Bool) (es : Past) → IsLegal fs grants es → IsKeyed (now es)
keyed-now fs grants es legal = subst IsKeyed (look-seen fs grants es legal) (keyed-look (seen fs grants es) (sound-seen fs grants es legal))

-- ---- each word fits what stands

-- What is made has the next number, and a name that led nowhere.
pub record IsNext (row : FileRow) (last : ℕ) (child : Option ℕ) : Type 0 where
  pub number : row.number ≡ last + 1
  pub free : child ≡ None

-- what is edited is there, and in that directory
abbrev pub IsIn : ℕ → Option FileRow → Type 0
IsIn dir None = ⊥
IsIn dir (Some row) = dir ≡ row.parent

abbrev pub FitsNow : TreeWord → Now → Type 0
FitsNow Untouched n = Unit {0}
FitsNow (Made row) n = IsNext row n.last_file (n.child_by row.parent row.name)
FitsNow (Edited dir number edit) n = IsIn dir (n.file_by number)
FitsNow (Removed dir name) n = Unit {0}

there_in : (o : Option FileRow) → is_none o ≡ false → IsIn (parent_of o) o
there_in None none = absurd (true≢false none)
there_in (Some row) none = refl

unless_fits : (s : Seen) (b : Bool) (file : ℕ) (edit : FileEdit) → is_none (file_at file s.tree.table) ≡ false
    → FitsNow (cond b Untouched (Edited (parent_of (file_at file s.tree.table)) file edit)) (look s)
unfolding look
unless_fits s true file edit there = tt
unless_fits s false file edit there = there_in (file_at file s.tree.table) there

cut_fits : (s : Seen) (b : Bool) (file : ℕ) (edit : FileEdit) → is_none (file_at file s.tree.table) ≡ false
    → FitsNow (cond b (Edited (parent_of (file_at file s.tree.table)) file edit) Untouched) (look s)
unfolding look
cut_fits s true file edit there = there_in (file_at file s.tree.table) there
cut_fits s false file edit there = tt

set_fits : (s : Seen) (file : ℕ) (asks : Asks) (told_words : List ℕ) → is_none (file_at file s.tree.table) ≡ false
    → FitsNow (set_tree (file_at file s.tree.table) file asks told_words) (look s)
unfolding set_tree
set_fits s file asks told_words there = unless_fits s (is_empty told_words) file (Set (asked_size asks) (asked_mode asks)) there

write_fits : (s : Seen) (file : ℕ) (args : WriteArgs) → is_none (file_at file s.tree.table) ≡ false → FitsNow (write_tree (file_at file s.tree.table) file args) (look s)
unfolding write_tree
write_fits s file args there = unless_fits s (is_empty (taken args.«data»)) file (Wrote args.offset (taken args.«data»)) there

open_fits : (s : Seen) (dir : ℕ) (name : Option (List ℕ)) (opentype : OpenType) (o : Option ℕ) → target_at s.tree.table dir name ≡ o
    → is_none (file_at dir s.tree.table) ≡ false
    → FitsNow (open_tree (file_at (unwrap_or o (s.tree.last_file + 1)) s.tree.table) dir name opentype o (unwrap_or o (s.tree.last_file + 1))) (look s)
unfolding open_tree target_at look
open_fits s dir None opentype None found there = cc
open_fits s dir (Some name) opentype None found there = record { number = refl; free = found }
open_fits s dir None opentype (Some child) found there =
    cut_fits s (cuts opentype) child (Set (Some 0) None) (subst (λ k. is_none (file_at k s.tree.table) ≡ false) (itself found) there)
  where
    itself : Some dir ≡ Some child → dir ≡ child
    itself e = cc
open_fits s dir (Some name) opentype (Some child) found there =
    cut_fits s (cuts opentype) child (Set (Some 0) None) (child_there dir name s.tree.table child found)

with_size : (s : Seen) (caller : Option Party) (file : ℕ) (args : SetAttrArgs) (verdict : Verdict) → first (size_checks s caller file args verdict) ≡ None
    → is_none (file_at file s.tree.table) ≡ false
unfolding size_checks
with_size s caller file args verdict goes =
    let free : IsFree (size_checks s caller file args verdict) = all_free _ goes in
    refuse_if-none _ Stale free.missing

without_size : (s : Seen) (file : ℕ) (args : SetAttrArgs) (verdict : Verdict) → first (mode_checks s file args verdict) ≡ None
    → is_none (file_at file s.tree.table) ≡ false
unfolding mode_checks
without_size s file args verdict goes =
    let free : IsFree (mode_checks s file args verdict) = all_free _ goes in
    refuse_if-none _ Stale free.missing

setattr_there : (s : Seen) (caller : Option Party) (file : ℕ) (args : SetAttrArgs) (verdict : Verdict) → first (setattr_checks s caller file args verdict) ≡ None
    → is_none (file_at file s.tree.table) ≡ false
unfolding setattr_checks
setattr_there s caller file args verdict goes = by_size (has_size args.attributes.words) goes
  where
    by_size : (b : Bool) → first (cond b (size_checks s caller file args verdict) (mode_checks s file args verdict)) ≡ None → is_none (file_at file s.tree.table) ≡ false
    by_size true goes = with_size s caller file args verdict goes
    by_size false goes = without_size s file args verdict goes

goes_fits : (s : Seen) (caller : Option Party) (file : ℕ) (verdict : Verdict) (d : Deed) → first (checks s caller file verdict d) ≡ None
    → FitsNow (deed_words (look s) caller file d (ok_value s caller file d)).tree (look s)
unfolding create_value open_value open_checks write_checks create_checks dir_checks file_checks write_value look
goes_fits s caller file verdict (deed.Access _) goes = tt
goes_fits s caller file verdict (deed.Close _) goes = closed_fits _
  where
    closed_fits : (o : Option StateId) → FitsNow (close_words (told.Close o)).tree (look s)
    closed_fits None = tt
    closed_fits (Some id) = tt
goes_fits s caller file verdict (deed.Commit _) goes = tt
goes_fits s caller file verdict (deed.Create args) goes =
    let free : IsFree (create_checks s file args verdict) = all_free _ goes in
    record { number = refl; free = none_there (child_at file args.name s.tree.table) (refuse_if-none _ Exist free.name) }
  where
    none_there : (o : Option ℕ) → not (is_none o) ≡ false → o ≡ None
    none_there None h = refl
    none_there (Some number) h = absurd (true≢false h)
goes_fits s caller file verdict (deed.GetAttr _) goes = tt
goes_fits s caller file verdict (deed.Lock args) goes = subst (λ word. FitsNow word (look s)) (sym (lock_keeps (look s) caller file args (lock_value s args)).tree) tt
goes_fits s caller file verdict (deed.LockTest _) goes = tt
goes_fits s caller file verdict (deed.Lookup _) goes = tt
goes_fits s caller file verdict deed.LookupP goes = tt
goes_fits s None file verdict (deed.Open args) goes = cc
goes_fits s (Some party) file verdict (deed.Open args) goes =
    let free : IsFree (open_checks s (Some party) file args verdict) = all_free _ goes in
    rw (claimed_is_target s.tree.table file (claimed_name args.claim))
    (open_fits s file (claimed_name args.claim) args.opentype (target_at s.tree.table file (claimed_name args.claim)) refl (refuse_if-none _ Stale free.missing))
goes_fits s caller file verdict (deed.OpenConfirm _) goes = confirmed_fits _
  where
    confirmed_fits : (o : Option StateId) → FitsNow (confirm_words (look s) (told.OpenConfirm o)).tree (look s)
    confirmed_fits None = tt
    confirmed_fits (Some id) = tt
goes_fits s caller file verdict (deed.OpenDowngrade args) goes = narrowed_fits _
  where
    narrowed_fits : (o : Option StateId) → FitsNow (downgrade_words (look s) args (told.OpenDowngrade o)).tree (look s)
    narrowed_fits None = tt
    narrowed_fits (Some id) = tt
goes_fits s caller file verdict (deed.Read _) goes = tt
goes_fits s caller file verdict (deed.ReadDir _) goes = tt
goes_fits s caller file verdict (deed.ReleaseLockOwner args) goes = subst (λ word. FitsNow word (look s)) (sym (release_keeps caller args.owner true).tree) tt
goes_fits s caller file verdict (deed.Remove args) goes = tt
goes_fits s caller file verdict (deed.SetAttr args) goes = set_fits s file (asks_of args.attributes) _ (setattr_there s caller file args verdict goes)
goes_fits s caller file verdict (deed.Unlock args) goes = subst (λ word. FitsNow word (look s)) (sym (unlock_keeps (look s) args (changed_lock s args.stateid)).tree) tt
goes_fits s caller file verdict (deed.Write args) goes =
    let free : IsFree (write_checks s caller file args verdict) = all_free _ goes in
    write_fits s file args (refuse_if-none _ Stale free.missing)

pub entry_fits : (s : Seen) (event : Event) → FitsNow (words (look s) event (answer_to s event)).tree (look s)
unfolding answer_to words
entry_fits s (Ended party) = tt
entry_fits s (Asked call verdict) = by_stop (first (checks s call.caller call.file verdict call.deed)) refl
  where
    by_stop : (x : Option Stop) → first (checks s call.caller call.file verdict call.deed) ≡ x
        → FitsNow (words (look s) (Asked call verdict) (reply_by s call x)).tree (look s)
    by_stop (Some (Refuse status)) refused = subst (λ w. FitsNow w.tree (look s)) (sym (words-refused s call verdict status)) tt
    by_stop (Some (Repeat kept)) repeats =
        subst (λ w. FitsNow w.tree (look s)) (sym (words-old (look s) call verdict kept (repeat_is_old s call verdict kept repeats))) tt
    by_stop None goes = subst (λ w. FitsNow w.tree (look s)) (sym (words-free s call verdict goes))
        (goes_fits s call.caller call.file verdict call.deed goes)
