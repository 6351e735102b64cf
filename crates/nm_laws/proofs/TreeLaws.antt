-- In every legal list the files that are there, their names, kinds, verifiers and change numbers are what the entries tell.
use Rattle.std.proofs.Common.{◌≡◌, ℕ, ◌+◌, ◌<◌, Bool, true, false, cond, List, [], ◌∷◌, Option, Some, None, refl, ap, sym, subst, ◌∙◌, arith, eqb-true}
use Rattle.std.specs.Prelude.{◌==◌, ◌&&◌, ◌||◌, not, is_none, option_map}
use Rattle.std.specs.Str.{bytes_eq}
use mathlib.Core.Path.{fun_ext}
use Rattle.std.proofs.lemmas.Bool.{false≢true, true≢false, and_parts}
use Rattle.std.proofs.lemmas.Bool.Decides.{nat_tests}
use Rattle.std.proofs.lemmas.Slice.Eq.{bytes_eq-Decides}
use Rattle.nm_rules.specs.Contents.{TreeWord, FileEdit, root_row, file_at, child_at, stamped, edited, edited_at, file_left, child_left, last_file_left, change_left, is_named}
use Rattle.nm_rules.specs.Contents.TreeWord.{Untouched, Made, Edited, Removed}
use Rattle.nm_rules.specs.Contents.FileEdit.{Wrote, Set}
use Rattle.nm_rules.specs.FileReadings.{dir_of}
use Rattle.nm_rules.specs.Past.{Past, Now, now, left, words}
use Rattle.nm_rules.specs.Seen.{seen, look}
use Rattle.nm_rules.specs.Answer.{answer_to, IsLegal}
use Rattle.nm_types.specs.declared.calls.Entry.{Entry}
use Rattle.nm_types.specs.declared.calls.Event.{Event}
use Rattle.nm_types.specs.declared.calls.Reply.{Reply}
use Rattle.nm_types.specs.declared.rows.FileKind.{FileKind}
use Rattle.nm_types.specs.declared.rows.FileKind.TheVariants.{Directory}
use Rattle.nm_types.specs.declared.rows.FileRow.{FileRow}
use Rattle.nm_rules.proofs.FileLaws.{files_are_read}
use Rattle.nm_rules.proofs.Legal.{look-seen}
use Rattle.nm_laws.specs.TreeReadings.{NewFile, act_of, file_act, child_after, child_of, is_it, there_after, is_there, adds_one, files_made, kind_after, kind_made, verifier_after, verifier_made, is_change, changes_made, touches_it, change_number}
use Rattle.nm_laws.specs.TreeReadings.FileAct.{Adds}
use Rattle.nm_laws.proofs.TreeActs.{act_by, number_found, entry_acts, entry_fits, IsKeyed, keyed-now, IsIn, FitsNow}

-- What is known of an event and its answer: what it does to the files is what its word does, and the word fits.
record IsTold (n : Now) (names : ℕ → List ℕ → Option ℕ) (event : Event) (r : Reply) : Type 0 where
  act : file_act n names event r ≡ act_by (words n event r).tree
  fits : FitsNow (words n event r).tree n

told_at : (fs : ℕ) (grants : Bool) (es : Past) (event : Event) → IsLegal fs grants es → IsTold (now es) (now es).child_by event (answer_to (seen fs grants es) event)
told_at fs grants es event legal =
    subst (λ n. IsTold n n.child_by event (answer_to (seen fs grants es) event)) (look-seen fs grants es legal)
    (record { act = entry_acts (seen fs grants es) event; fits = entry_fits (seen fs grants es) event })

-- ---- how many files and changes

adds_by : (word : TreeWord) (last made : ℕ) → last ≡ 15 + made → last_file_left word last ≡ 15 + cond (adds_one (act_by word)) (made + 1) made
adds_by Untouched last made same = same
adds_by (Made row) last made same = omega (arith, same)
adds_by (Edited dir number edit) last made same = same
adds_by (Removed dir name) last made same = same

changes_by : (word : TreeWord) (change made : ℕ) → change ≡ made → change_left word change ≡ cond (is_change (act_by word)) (made + 1) made
changes_by Untouched change made same = same
changes_by (Made row) change made same = ap (λ k. k + 1) same
changes_by (Edited dir number edit) change made same = ap (λ k. k + 1) same
changes_by (Removed dir name) change made same = ap (λ k. k + 1) same

-- ---- names

is_no_root : (number last made : ℕ) → number ≡ last + 1 → last ≡ 15 + made → (number == 1) ≡ false
is_no_root number last made next same = grind (arith, nat_tests)

child_by : (word : TreeWord) (n : Now) (made dir : ℕ) (name : List ℕ) → FitsNow word n → n.last_file ≡ 15 + made
    → child_left word dir name (n.child_by dir name) ≡ child_after (act_by word) dir name (n.child_by dir name)
unfolding child_left
child_by Untouched n made dir name fits last = refl
child_by (Made row) n made dir name fits last = by_before (n.child_by dir name) refl
  where
    no_root : (row.number == 1) ≡ false
    no_root = is_no_root row.number n.last_file made fits.number last

    plain : (b : Bool) (o : Option ℕ) → cond ((b && true) && bytes_eq row.name name) o None ≡ cond (b && bytes_eq row.name name) o None
    plain true o = refl
    plain false o = refl

    by_same : (b : Bool) (number : ℕ) → n.child_by dir name ≡ Some number → ((row.parent == dir) && bytes_eq row.name name) ≡ b
        → Some number ≡ cond b (Some row.number) (Some number)
    by_same false number found other = refl
    by_same true number found same =
        let parts = and_parts (row.parent == dir) (bytes_eq row.name name) same in
        let its_dir : row.parent ≡ dir = eqb-true row.parent dir parts.0 in
        let its_name : row.name ≡ name = (bytes_eq-Decides row.name name).0 parts.1 in
        absurd (never (subst (λ d. n.child_by d name ≡ None) its_dir (subst (λ t. n.child_by row.parent t ≡ None) its_name fits.free)))
      where
        never : n.child_by dir name ≡ None → ⊥
        never none = cc

    by_before : (o : Option ℕ) → n.child_by dir name ≡ o
        → child_left (Made row) dir name o ≡ cond ((row.parent == dir) && bytes_eq row.name name) (Some row.number) o
    by_before None none = ap (λ b. cond (((row.parent == dir) && not b) && bytes_eq row.name name) (Some row.number) None) no_root ∙ plain (row.parent == dir) (Some row.number)
    by_before (Some number) found = by_same ((row.parent == dir) && bytes_eq row.name name) number found refl
child_by (Edited its_dir number edit) n made dir name fits last = refl
child_by (Removed its_dir gone) n made dir name fits last = refl

-- ---- files

there_by : (word : TreeWord) (n : Now) (change k : ℕ) → IsKeyed n
    → not (is_none (file_left word change k (n.file_by k))) ≡ there_after n.child_by (act_by word) k (not (is_none (n.file_by k)))
unfolding file_left
there_by Untouched n change k keyed = refl
there_by (Made row) n change k keyed = by_before (n.file_by k) (row.number == k)
  where
    by_before : (o : Option FileRow) (b : Bool)
        → not (is_none (elim o [ None ↦ cond b (Some (record row { change = change })) None | Some old ↦ Some (stamped change row.parent old) ])) ≡ cond b true (not (is_none o))
    by_before None true = refl
    by_before None false = refl
    by_before (Some old) true = refl
    by_before (Some old) false = refl
there_by (Edited dir number edit) n change k keyed = by_before (n.file_by k)
  where
    by_before : (o : Option FileRow) → not (is_none (option_map (edited_at change dir number edit) o)) ≡ not (is_none o)
    by_before None = refl
    by_before (Some row) = refl
there_by (Removed dir name) n change k keyed = by_before (n.file_by k) refl
  where
    kept : (b : Bool) (row : FileRow) → not (is_none (cond b None (Some row))) ≡ cond b false true
    kept true row = refl
    kept false row = refl

    gone : (b : Bool) → false ≡ cond b false false
    gone true = refl
    gone false = refl

    by_before : (o : Option FileRow) → n.file_by k ≡ o
        → not (is_none (file_left (Removed dir name) change k o)) ≡ cond (is_it k (n.child_by dir name)) false (not (is_none o))
    by_before None none = gone (is_it k (n.child_by dir name))
    by_before (Some row) found =
        kept (is_named dir name row) (stamped change dir row) ∙ ap (λ b. cond b false true) (keyed.named k row dir name found)

-- ---- what a file is

-- a row has this kind, this verifier and this change number
record IsOf (row : FileRow) (its_kind : FileKind) (its_verifier : Option ℕ) (its_change : ℕ) : Type 0 where
  kind : row.kind ≡ its_kind
  verifier : row.verifier ≡ its_verifier
  change : row.change ≡ its_change

abbrev IsOfAny : Option FileRow → FileKind → Option ℕ → ℕ → Type 0
IsOfAny None kind verifier change = Unit {0}
IsOfAny (Some row) kind verifier change = IsOf row kind verifier change

same_both_ways : (a b : ℕ) → (a == b) ≡ (b == a)
same_both_ways a b = grind (arith, nat_tests)

-- a stamp leaves all but the change number
is_stamped : (next k its : ℕ) (row : FileRow) (kind : FileKind) (verifier : Option ℕ) (change : ℕ) → row.number ≡ k → IsOf row kind verifier change
    → IsOf (stamped next its row) kind verifier (cond (its == k) next change)
is_stamped next k its row kind verifier change numbered is_of =
    by_test (row.number == its) (its == k) (ap (λ n. n == its) numbered ∙ same_both_ways k its)
  where
    by_test : (b c : Bool) → b ≡ c → IsOf (cond b (record row { change = next }) row) kind verifier (cond c next change)
    by_test true true same = record { kind = is_of.kind; verifier = is_of.verifier; change = refl }
    by_test false false same = is_of
    by_test true false same = absurd (true≢false same)
    by_test false true same = absurd (false≢true same)

is_edited : (edit : FileEdit) (next : ℕ) (row : FileRow) (kind : FileKind) (verifier : Option ℕ) (change : ℕ) → IsOf row kind verifier change
    → IsOf (record (edited edit row) { change = next }) kind verifier next
unfolding edited
is_edited (Wrote offset new) next row kind verifier change is_of = record { kind = is_of.kind; verifier = is_of.verifier; change = refl }
is_edited (Set None None) next row kind verifier change is_of = record { kind = is_of.kind; verifier = is_of.verifier; change = refl }
is_edited (Set None (Some mode)) next row kind verifier change is_of = record { kind = is_of.kind; verifier = is_of.verifier; change = refl }
is_edited (Set (Some size) None) next row kind verifier change is_of = record { kind = is_of.kind; verifier = is_of.verifier; change = refl }
is_edited (Set (Some size) (Some mode)) next row kind verifier change is_of = record { kind = is_of.kind; verifier = is_of.verifier; change = refl }

is_edited_at : (next k dir number : ℕ) (edit : FileEdit) (row : FileRow) (kind : FileKind) (verifier : Option ℕ) (change : ℕ) → row.number ≡ k
    → IsOf row kind verifier change
    → IsOf (edited_at next dir number edit row) kind verifier (cond ((number == k) || (dir == k)) next change)
is_edited_at next k dir number edit row kind verifier change numbered is_of =
    by_test (row.number == number) (number == k) (ap (λ n. n == number) numbered ∙ same_both_ways k number)
  where
    by_test : (b c : Bool) → b ≡ c
        → IsOf (cond b (record (edited edit row) { change = next }) (stamped next dir row)) kind verifier (cond (c || (dir == k)) next change)
    by_test true true same = is_edited edit next row kind verifier change is_of
    by_test false false same = is_stamped next k dir row kind verifier change numbered is_of
    by_test true false same = absurd (true≢false same)
    by_test false true same = absurd (false≢true same)

made_is : (row : FileRow) (n : Now) (next k : ℕ) (kind : FileKind) (verifier : Option ℕ) (change : ℕ) → IsKeyed n → row.number ≡ n.last_file + 1
    → (o : Option FileRow) → n.file_by k ≡ o → IsOfAny o kind verifier change
    → IsOfAny (file_left (Made row) next k o) (cond (row.number == k) row.kind kind) (cond (row.number == k) row.verifier verifier)
    (cond ((row.number == k) || (row.parent == k)) next change)
unfolding file_left
made_is row n next k kind verifier change keyed number None none is_of = by_test (row.number == k)
  where
    by_test : (b : Bool) → IsOfAny (cond b (Some (record row { change = next })) None) (cond b row.kind kind) (cond b row.verifier verifier)
        (cond (b || (row.parent == k)) next change)
    by_test true = record { kind = refl; verifier = refl; change = refl }
    by_test false = tt
made_is row n next k kind verifier change keyed number (Some old) found is_of = by_test (row.number == k) refl
  where
    past : row.number ≡ k → n.last_file < k
    past same = omega (arith, number, same)

    never : n.file_by k ≡ None → ⊥
    never none = cc

    by_test : (b : Bool) → (row.number == k) ≡ b
        → IsOf (stamped next row.parent old) (cond b row.kind kind) (cond b row.verifier verifier) (cond (b || (row.parent == k)) next change)
    by_test true same = absurd (never (keyed.unused k (past (eqb-true row.number k same))))
    by_test false other = is_stamped next k row.parent old kind verifier change (keyed.numbered k old found) is_of

edited_is : (dir number : ℕ) (edit : FileEdit) (n : Now) (dirs : ℕ → ℕ) (next k : ℕ) (kind : FileKind) (verifier : Option ℕ) (change : ℕ) → IsKeyed n
    → dir ≡ dirs number → (o : Option FileRow) → n.file_by k ≡ o → IsOfAny o kind verifier change
    → IsOfAny (option_map (edited_at next dir number edit) o) kind verifier (cond ((number == k) || (dirs number == k)) next change)
edited_is dir number edit n dirs next k kind verifier change keyed its_dir None none is_of = tt
edited_is dir number edit n dirs next k kind verifier change keyed its_dir (Some row) found is_of =
    subst (λ d. IsOf (edited_at next dir number edit row) kind verifier (cond ((number == k) || (d == k)) next change)) its_dir
    (is_edited_at next k dir number edit row kind verifier change (keyed.numbered k row found) is_of)

removed_is : (dir : ℕ) (name : List ℕ) (n : Now) (next k : ℕ) (kind : FileKind) (verifier : Option ℕ) (change : ℕ) → IsKeyed n
    → (o : Option FileRow) → n.file_by k ≡ o → IsOfAny o kind verifier change
    → IsOfAny (file_left (Removed dir name) next k o) kind verifier (cond (dir == k) next change)
unfolding file_left
removed_is dir name n next k kind verifier change keyed None none is_of = tt
removed_is dir name n next k kind verifier change keyed (Some row) found is_of = by_test (is_named dir name row)
  where
    by_test : (b : Bool) → IsOfAny (cond b None (Some (stamped next dir row))) kind verifier (cond (dir == k) next change)
    by_test true = tt
    by_test false = is_stamped next k dir row kind verifier change (keyed.numbered k row found) is_of

-- each file is in the directory that these tell
abbrev AreDirs : (ℕ → ℕ) → Now → Type 0
AreDirs dirs n = (k : ℕ) (row : FileRow) → n.file_by k ≡ Some row → row.parent ≡ dirs k

its_dir_is : (n : Now) (dirs : ℕ → ℕ) (dir number : ℕ) (o : Option FileRow) → AreDirs dirs n → n.file_by number ≡ o → IsIn dir o → dir ≡ dirs number
its_dir_is n dirs dir number None are found within = absurd within
its_dir_is n dirs dir number (Some row) are found within = within ∙ are number row found

word_is : (word : TreeWord) (n : Now) (dirs : ℕ → ℕ) (next k : ℕ) (kind : FileKind) (verifier : Option ℕ) (change : ℕ) → IsKeyed n → FitsNow word n
    → AreDirs dirs n → IsOfAny (n.file_by k) kind verifier change
    → IsOfAny (file_left word next k (n.file_by k)) (kind_after (act_by word) k kind) (verifier_after (act_by word) k verifier)
    (cond (touches_it dirs (act_by word) k) next change)
unfolding file_left
word_is Untouched n dirs next k kind verifier change keyed fits are is_of = is_of
word_is (Made row) n dirs next k kind verifier change keyed fits are is_of = made_is row n next k kind verifier change keyed fits.number (n.file_by k) refl is_of
word_is (Edited dir number edit) n dirs next k kind verifier change keyed fits are is_of =
    edited_is dir number edit n dirs next k kind verifier change keyed (its_dir_is n dirs dir number (n.file_by number) are refl fits) (n.file_by k) refl is_of
word_is (Removed dir name) n dirs next k kind verifier change keyed fits are is_of = removed_is dir name n next k kind verifier change keyed (n.file_by k) refl is_of

dirs-look : (fs : ℕ) (grants : Bool) (es : Past) → IsLegal fs grants es → AreDirs (dir_of es) (look (seen fs grants es))
unfolding look
dirs-look fs grants es legal = λ k row found.
    (files_are_read fs grants es k row legal found).dir ∙ ap (dir_of es) (number_found k (seen fs grants es).tree.table row found)

dirs-now : (fs : ℕ) (grants : Bool) (es : Past) → IsLegal fs grants es → AreDirs (dir_of es) (now es)
dirs-now fs grants es legal = subst (AreDirs (dir_of es)) (look-seen fs grants es legal) (dirs-look fs grants es legal)

-- ---- one entry more

-- What holds after a list of entries.
record IsRight (es : Past) (n : Now) : Type 0 where
  names : n.child_by ≡ child_of es
  last : n.last_file ≡ 15 + files_made es
  change : n.change ≡ changes_made es
  there : (k : ℕ) → not (is_none (n.file_by k)) ≡ is_there es k
  files : (k : ℕ) → IsOfAny (n.file_by k) (kind_made es k) (verifier_made es k) (change_number es k)

right_step : (x : Entry) (earlier : Past) → IsTold (now earlier) (child_of earlier) x.event x.reply → IsKeyed (now earlier) → AreDirs (dir_of earlier) (now earlier)
    → IsRight earlier (now earlier) → IsRight (x ∷ earlier) (left (now earlier) (words (now earlier) x.event x.reply))
unfolding left child_of files_made changes_made is_there kind_made verifier_made change_number
right_step x earlier is_told keyed are right =
    let n : Now = now earlier in
    let word : TreeWord = (words n x.event x.reply).tree in
    let act : act_by word ≡ act_of earlier x.event x.reply = sym is_told.act in
    record {
      names = fun_ext (λ dir. fun_ext (λ name.
          child_by word n (files_made earlier) dir name is_told.fits right.last
          ∙ ap (λ a. child_after a dir name (n.child_by dir name)) act
          ∙ ap (λ (names : ℕ → List ℕ → Option ℕ). child_after (act_of earlier x.event x.reply) dir name (names dir name)) right.names));
      last = adds_by word n.last_file (files_made earlier) right.last ∙ ap (λ a. 15 + cond (adds_one a) (files_made earlier + 1) (files_made earlier)) act;
      change = changes_by word n.change (changes_made earlier) right.change ∙ ap (λ a. cond (is_change a) (changes_made earlier + 1) (changes_made earlier)) act;
      there = λ k. there_by word n (n.change + 1) k keyed
          ∙ ap (λ (names : ℕ → List ℕ → Option ℕ). there_after names (act_by word) k (not (is_none (n.file_by k)))) right.names
          ∙ ap (λ a. there_after (child_of earlier) a k (not (is_none (n.file_by k)))) act
          ∙ ap (there_after (child_of earlier) (act_of earlier x.event x.reply) k) (right.there k);
      files = λ k. subst (λ c. IsOfAny (file_left word (n.change + 1) k (n.file_by k)) (kind_after (act_of earlier x.event x.reply) k (kind_made earlier k))
          (verifier_after (act_of earlier x.event x.reply) k (verifier_made earlier k))
          (cond (touches_it (dir_of earlier) (act_of earlier x.event x.reply) k) (c + 1) (change_number earlier k))) right.change
          (subst (λ a. IsOfAny (file_left word (n.change + 1) k (n.file_by k)) (kind_after a k (kind_made earlier k)) (verifier_after a k (verifier_made earlier k))
          (cond (touches_it (dir_of earlier) a k) (n.change + 1) (change_number earlier k))) act
          (word_is word n (dir_of earlier) (n.change + 1) k (kind_made earlier k) (verifier_made earlier k) (change_number earlier k) keyed is_told.fits are (right.files k)));
    }

right_first : IsRight [] (now [])
unfolding now child_of files_made changes_made is_there kind_made verifier_made change_number file_at
right_first = record { names = refl; last = refl; change = refl; there = there; files = files }
  where
    there : (k : ℕ) → not (is_none (cond (1 == k) (Some root_row) None)) ≡ (1 == k)
    there k = by_test (1 == k)
      where
        by_test : (b : Bool) → not (is_none (cond b (Some root_row) None)) ≡ b
        by_test true = refl
        by_test false = refl

    files : (k : ℕ) → IsOfAny (cond (1 == k) (Some root_row) None) Directory None 0
    files k = by_test (1 == k)
      where
        by_test : (b : Bool) → IsOfAny (cond b (Some root_row) None) Directory None 0
        by_test true = record { kind = refl; verifier = refl; change = refl }
        by_test false = tt

right-now : (fs : ℕ) (grants : Bool) (es : Past) → IsLegal fs grants es → IsRight es (now es)
unfolding now
right-now fs grants [] legal = right_first
right-now fs grants (x ∷ earlier) legal =
    let right : IsRight earlier (now earlier) = right-now fs grants earlier legal.1 in
    let is_told : IsTold (now earlier) (now earlier).child_by x.event x.reply =
    subst (IsTold (now earlier) (now earlier).child_by x.event) (sym legal.0) (told_at fs grants earlier x.event legal.1) in
    right_step x earlier (subst (λ names. IsTold (now earlier) names x.event x.reply) right.names is_told)
    (keyed-now fs grants earlier legal.1) (dirs-now fs grants earlier legal.1) right

-- ---- the laws

right-seen : (fs : ℕ) (grants : Bool) (es : Past) → IsLegal fs grants es → IsRight es (look (seen fs grants es))
right-seen fs grants es legal = subst (IsRight es) (sym (look-seen fs grants es legal)) (right-now fs grants es legal)

pub last_file-seen : (fs : ℕ) (grants : Bool) (es : Past) → IsLegal fs grants es → (seen fs grants es).tree.last_file ≡ 15 + files_made es
unfolding look
last_file-seen fs grants es legal = (right-seen fs grants es legal).last

pub change-seen : (fs : ℕ) (grants : Bool) (es : Past) → IsLegal fs grants es → (seen fs grants es).tree.change ≡ changes_made es
unfolding look
change-seen fs grants es legal = (right-seen fs grants es legal).change

pub there-seen : (fs : ℕ) (grants : Bool) (es : Past) → IsLegal fs grants es → (k : ℕ) → not (is_none (file_at k (seen fs grants es).tree.table)) ≡ is_there es k
unfolding look
there-seen fs grants es legal k = (right-seen fs grants es legal).there k

pub child-seen : (fs : ℕ) (grants : Bool) (es : Past) → IsLegal fs grants es → (dir : ℕ) (name : List ℕ) → child_at dir name (seen fs grants es).tree.table ≡ child_of es dir name
unfolding look
child-seen fs grants es legal dir name = ap (λ (names : ℕ → List ℕ → Option ℕ). names dir name) (right-seen fs grants es legal).names

of-seen : (fs : ℕ) (grants : Bool) (es : Past) → IsLegal fs grants es → (k : ℕ)
    → IsOfAny (file_at k (seen fs grants es).tree.table) (kind_made es k) (verifier_made es k) (change_number es k)
unfolding look
of-seen fs grants es legal k = (right-seen fs grants es legal).files k

row-seen : (fs : ℕ) (grants : Bool) (es : Past) → IsLegal fs grants es → (k : ℕ) (row : FileRow) → file_at k (seen fs grants es).tree.table ≡ Some row
    → IsOf row (kind_made es k) (verifier_made es k) (change_number es k)
row-seen fs grants es legal k row found = subst (λ o. IsOfAny o (kind_made es k) (verifier_made es k) (change_number es k)) found (of-seen fs grants es legal k)

pub kind-seen : (fs : ℕ) (grants : Bool) (es : Past) → IsLegal fs grants es → (k : ℕ) (row : FileRow) → file_at k (seen fs grants es).tree.table ≡ Some row
    → row.kind ≡ kind_made es k
kind-seen fs grants es legal k row found = (row-seen fs grants es legal k row found).kind

pub verifier-seen : (fs : ℕ) (grants : Bool) (es : Past) → IsLegal fs grants es → (k : ℕ) (row : FileRow) → file_at k (seen fs grants es).tree.table ≡ Some row
    → row.verifier ≡ verifier_made es k
verifier-seen fs grants es legal k row found = (row-seen fs grants es legal k row found).verifier

pub change_number-seen : (fs : ℕ) (grants : Bool) (es : Past) → IsLegal fs grants es → (k : ℕ) (row : FileRow) → file_at k (seen fs grants es).tree.table ≡ Some row
    → row.change ≡ change_number es k
change_number-seen fs grants es legal k row found = (row-seen fs grants es legal k row found).change

-- a word that makes a file makes the next
adds_next : (word : TreeWord) (n : Now) (new : NewFile) → FitsNow word n → act_by word ≡ Adds new → new.number ≡ n.last_file + 1
adds_next Untouched n new fits adds = cc
adds_next (Made row) n new fits adds = ap (λ (f : NewFile). f.number) (sym (same_new adds)) ∙ fits.number
  where
    same_new : {a b : NewFile} → Adds a ≡ Adds b → a ≡ b
    same_new e = cc
adds_next (Edited dir number edit) n new fits adds = cc
adds_next (Removed dir name) n new fits adds = cc

pub number-seen : (fs : ℕ) (grants : Bool) (es : Past) (event : Event) (new : NewFile) → IsLegal fs grants es
    → act_of es event (answer_to (seen fs grants es) event) ≡ Adds new → new.number ≡ 15 + (files_made es + 1)
number-seen fs grants es event new legal adds =
    let right : IsRight es (now es) = right-now fs grants es legal in
    let is_told : IsTold (now es) (child_of es) event (answer_to (seen fs grants es) event) =
    subst (λ names. IsTold (now es) names event (answer_to (seen fs grants es) event)) right.names (told_at fs grants es event legal) in
    adds_next (words (now es) event (answer_to (seen fs grants es) event)).tree (now es) new is_told.fits (sym is_told.act ∙ adds)
    ∙ ap (λ k. k + 1) right.last ∙ omega arith
