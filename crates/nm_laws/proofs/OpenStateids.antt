-- The table of opens has the stateid of each owner's open as the entries tell it.
use Rattle.std.proofs.Common.{◌≡◌, ℕ, ◌+◌, Bool, true, false, cond, List, [], ◌∷◌, Option, Some, None, refl, ap, sym, subst, ◌∙◌, inl, inr, arith, eqb-true}
use Rattle.std.proofs.lemmas.Bool.{false≢true, both_ways, eqb-false, and_parts}
use Rattle.std.specs.Prelude.{not, ◌==◌, ◌&&◌, ◌⊎◌, filter, option_map}
use Rattle.nm_types.specs.Owners.{same_owner}
use Rattle.nm_types.specs.Parties.{Party, same_party}
use Rattle.nm_rules.specs.Answer.{answer_to, IsLegal}
use Rattle.nm_rules.specs.Past.{Past, Words, now, words}
use Rattle.nm_rules.specs.Readings.{row_share, share_in, share_of}
use Rattle.nm_rules.specs.Seen.{Seen, seen, look, after, after_words}
use Rattle.nm_rules.specs.Shares.{open_at, open_of, is_open_of, opened_row, next_seqid, put_open, opens_after, open_left}
use Rattle.nm_rules.specs.Shares.{OpenWord}
use Rattle.nm_rules.specs.Shares.OpenWord.{DropOf}
use Rattle.nm_rules.specs.StateidReadings.{stateids_made}
use Rattle.nm_rules.specs.Sound.{IsSound, rises, are_apart, all_apart}
use Rattle.nm_types.specs.declared.calls.Event.{Event}
use Rattle.nm_types.specs.declared.calls.Owner.{Owner}
use Rattle.nm_types.specs.declared.rows.OpenRow.{OpenRow}
use Rattle.nm_rules.proofs.Apart.{apart_in, open_of-in, open_of-none}
use Rattle.nm_rules.proofs.Legal.{sound-seen, look-seen}
use Rattle.nm_rules.proofs.LockRowLaws.{same_number, some_is}
use Rattle.nm_rules.proofs.OpenRows.{IsIn, open_at-past, open_at-put, open_at-drop, open_at-drop_of, open_at-in, in-open_at}
use Rattle.nm_rules.proofs.OwnerLemmas.{same_owner-Decides}
use Rattle.nm_rules.proofs.ShareLaws.{share-seen}
use Rattle.nm_rules.proofs.StateidLaws.{last-seen}
use Rattle.nm_laws.specs.StateidNow.{StateidWord, event_word, seqid_after, opened, renewed, closed, open_after, open_now}
use Rattle.nm_laws.specs.StateidNow.StateidWord.{Nothing, OpenedFor, RenewedAt, ClosedAt, LockedFor, RelockedAt, ReleasedFor, EndedFor}
use Rattle.nm_laws.specs.StateidRows.{open_stateid, open_in, row_of}
use Rattle.nm_laws.proofs.StateidTurns.{Leaves, event_leaves}

-- rows that rise, and may stand together
pub record Stand (last : ℕ) (rows : List OpenRow) : Type 0 where
  pub rising : rises 0 last rows ≡ true
  pub apart : all_apart rows ≡ true

-- ---- what a row of an owner and a file is

pub of_parts : (owner : Owner) (file : ℕ) (row : OpenRow) → is_open_of owner file row ≡ true → (owner ≡ row.owner) × (row.file ≡ file)
of_parts owner file row its =
    let parts = and_parts (row.file == file) (same_owner owner row.owner) its in
    ((same_owner-Decides owner row.owner).0 parts.1, eqb-true row.file file parts.0)

pub of_same : (owner : Owner) (file : ℕ) (a b : OpenRow) → a.owner ≡ b.owner → a.file ≡ b.file → is_open_of owner file a ≡ is_open_of owner file b
of_same owner file a b owners files = rw (owners, files) refl

-- two rows of one owner and file aren't apart
together : (a b : OpenRow) → a.owner ≡ b.owner → a.file ≡ b.file → are_apart a b ≡ true → ⊥
together a b owners files apart =
    by_tests (a.file == b.file) (same_owner a.owner b.owner) _ (same_number a.file b.file files) ((same_owner-Decides a.owner b.owner).1 owners) apart
  where
    by_tests : (f o c : Bool) → f ≡ true → o ≡ true → cond f (not o && c) true ≡ true → ⊥
    by_tests true true c same_file same_owner_too apart = false≢true apart
    by_tests true false c same_file other apart = false≢true other
    by_tests false o c other same_owner_too apart = false≢true other

-- ---- an owner's open, told by counters

-- it is the one with its counter, or none of the rows is one
abbrev pub Owns : List OpenRow → Owner → ℕ → Option OpenRow → Type 0
Owns rows owner file None = (k : ℕ) (row : OpenRow) → open_at k rows ≡ Some row → is_open_of owner file row ≡ false
Owns rows owner file (Some row) = (open_at row.counter rows ≡ Some row) × (is_open_of owner file row ≡ true)

pub owned : (last : ℕ) (rows : List OpenRow) (owner : Owner) (file : ℕ) → Stand last rows → (o : Option OpenRow) → open_of owner file rows ≡ o → Owns rows owner file o
owned last rows owner file stand None none = λ k row at. open_of-none owner file rows row none (open_at-in k rows row at).0
owned last rows owner file stand (Some row) found =
    let its = open_of-in owner file rows row found in
    ((in-open_at 0 last rows row stand.rising its.0).0, its.1)

pub owner_has : (last : ℕ) (rows : List OpenRow) (owner : Owner) (file : ℕ) → Stand last rows → (o : Option OpenRow) → Owns rows owner file o → open_of owner file rows ≡ o
owner_has last rows owner file stand None none = by_found (open_of owner file rows) refl
  where
    by_found : (o : Option OpenRow) → open_of owner file rows ≡ o → o ≡ None
    by_found None absent = refl
    by_found (Some row) found =
        let its : Owns rows owner file (Some row) = owned last rows owner file stand (Some row) found in
        absurd (both_ways (is_open_of owner file row) (none row.counter row its.0) its.1)
owner_has last rows owner file stand (Some row) its = by_found (open_of owner file rows) refl
  where
    within : IsIn row rows
    within = (open_at-in row.counter rows row its.0).0

    by_counter : (x : OpenRow) → Owns rows owner file (Some x) → (b : Bool) → (x.counter == row.counter) ≡ b → x ≡ row
    by_counter x mine true same =
        some_is (sym mine.0 ∙ ap (λ k. open_at k rows) (eqb-true x.counter row.counter same) ∙ its.0)
    by_counter x mine false other =
        let one = of_parts owner file x mine.1 in
        let two = of_parts owner file row its.1 in
        absurd (together x row (sym one.0 ∙ two.0) (one.1 ∙ sym two.1)
        (apart_in rows x row stand.apart (open_at-in x.counter rows x mine.0).0 within (eqb-false x.counter row.counter other)))

    by_found : (o : Option OpenRow) → open_of owner file rows ≡ o → o ≡ Some row
    by_found None none = absurd (both_ways (is_open_of owner file row) (open_of-none owner file rows row none within) its.1)
    by_found (Some x) found = ap (λ r. Some r) (by_counter x (owned last rows owner file stand (Some x) found) (x.counter == row.counter) refl)

-- a put, in the place of a row of the same owner and file or of none
owns-put : (rows : List OpenRow) (owner : Owner) (file : ℕ) (new : OpenRow)
    → ((old : OpenRow) → open_at new.counter rows ≡ Some old → (old.owner ≡ new.owner) × (old.file ≡ new.file))
    → (o : Option OpenRow) → Owns rows owner file o → Owns (put_open new rows) owner file (cond (is_open_of owner file new) (Some new) o)
owns-put rows owner file new replaces o its = by_test (is_open_of owner file new) refl
  where
    at_new : open_at new.counter (put_open new rows) ≡ Some new
    at_new = open_at-put new rows new.counter ∙ rw (same_number new.counter new.counter refl) refl

    -- at another counter there is what there was
    row_at : (k : ℕ) (row : OpenRow) (b : Bool) → cond b (Some new) (open_at k rows) ≡ Some row → (new ≡ row) ⊎ (open_at k rows ≡ Some row)
    row_at k row true here = inl (some_is here)
    row_at k row false there = inr there

    not_new : is_open_of owner file new ≡ false → (x : OpenRow) → Owns rows owner file (Some x) → (b : Bool) → (new.counter == x.counter) ≡ b
        → cond b (Some new) (open_at x.counter rows) ≡ Some x
    not_new other x mine true same =
        let old = replaces x (ap (λ k. open_at k rows) (eqb-true new.counter x.counter same) ∙ mine.0) in
        absurd (both_ways (is_open_of owner file new) other (sym (of_same owner file x new old.0 old.1) ∙ mine.1))
    not_new other x mine false apart = mine.0

    others : is_open_of owner file new ≡ false → (p : Option OpenRow) → Owns rows owner file p → Owns (put_open new rows) owner file p
    others other None none = λ k row at. by_place k row at (row_at k row (new.counter == k) (sym (open_at-put new rows k) ∙ at))
      where
        by_place : (k : ℕ) (row : OpenRow) → open_at k (put_open new rows) ≡ Some row → (new ≡ row) ⊎ (open_at k rows ≡ Some row) → is_open_of owner file row ≡ false
        by_place k row at (inl here) = ap (is_open_of owner file) (sym here) ∙ other
        by_place k row at (inr there) = none k row there
    others other (Some x) mine = (open_at-put new rows x.counter ∙ not_new other x mine (new.counter == x.counter) refl, mine.1)

    by_test : (b : Bool) → is_open_of owner file new ≡ b → Owns (put_open new rows) owner file (cond b (Some new) o)
    by_test true is_new = (at_new, is_new)
    by_test false other = others other o its

-- the open with a counter goes
abbrev pub unless_at : ℕ → Option OpenRow → Option OpenRow
unless_at k None = None
unless_at k (Some row) = cond (row.counter == k) None (Some row)

pub owns-drop : (last : ℕ) (rows : List OpenRow) (owner : Owner) (file counter : ℕ) → Stand last rows → (o : Option OpenRow) → Owns rows owner file o
    → Owns (filter (λ x. not (x.counter == counter)) rows) owner file (unless_at counter o)
owns-drop last rows owner file counter stand None none = λ k row at. none k row (stays k row (counter == k) (sym (open_at-drop counter rows k) ∙ at))
  where
    stays : (k : ℕ) (row : OpenRow) (b : Bool) → cond b None (open_at k rows) ≡ Some row → open_at k rows ≡ Some row
    stays k row true gone = cc
    stays k row false here = here
owns-drop last rows owner file counter stand (Some x) mine = by_test (x.counter == counter) refl
  where
    -- a row that stays has another counter, and so isn't the owner's
    other_row : (k : ℕ) (row : OpenRow) → (x.counter == counter) ≡ true → (b : Bool) → (counter == k) ≡ b → cond b None (open_at k rows) ≡ Some row
        → (c : Bool) → is_open_of owner file row ≡ c → c ≡ false
    other_row k row same true gone nothing c its = cc
    other_row k row same false stays here true its =
        let there : open_at row.counter rows ≡ Some row = ap (λ n. open_at n rows) (open_at-in k rows row here).1 ∙ here in
        let one : x ≡ row = some_is (sym (owner_has last rows owner file stand (Some x) mine) ∙ owner_has last rows owner file stand (Some row) (there, its)) in
        let at_k : x.counter ≡ k = ap (λ (r : OpenRow). r.counter) one ∙ (open_at-in k rows row here).1 in
        absurd (both_ways (counter == k) stays (same_number counter k (sym (eqb-true x.counter counter same) ∙ at_k)))
    other_row k row same false stays here false its = refl

    apart : (x.counter == counter) ≡ false → (b : Bool) → (counter == x.counter) ≡ b → cond b None (open_at x.counter rows) ≡ Some x
    apart other true same = absurd (both_ways (x.counter == counter) other (same_number x.counter counter (sym (eqb-true counter x.counter same))))
    apart other false differ = mine.0

    by_test : (b : Bool) → (x.counter == counter) ≡ b → Owns (filter (λ y. not (y.counter == counter)) rows) owner file (cond b None (Some x))
    by_test true same = λ k row at. other_row k row same (counter == k) refl (sym (open_at-drop counter rows k) ∙ at) (is_open_of owner file row) refl
    by_test false other = (open_at-drop counter rows x.counter ∙ apart other (counter == x.counter) refl, mine.1)

-- all opens of an instance go
abbrev pub unless_of : Party → Owner → Option OpenRow → Option OpenRow
unless_of party owner o = cond (same_party party owner.instance) None o

kept_row : (party : Party) (o : Option OpenRow) (row : OpenRow) → open_left (DropOf party) 0 o ≡ Some row → (o ≡ Some row) × (same_party party row.owner.instance ≡ false)
unfolding open_left
kept_row party None row left = cc
kept_row party (Some x) row left = by_test (same_party party x.owner.instance) refl left
  where
    by_test : (b : Bool) → same_party party x.owner.instance ≡ b → cond b None (Some x) ≡ Some row → (Some x ≡ Some row) × (same_party party row.owner.instance ≡ false)
    by_test true its gone = cc
    by_test false other here = (here, ap (λ (r : OpenRow). same_party party r.owner.instance) (sym (some_is here)) ∙ other)

pub owns-drop_of : (last : ℕ) (rows : List OpenRow) (owner : Owner) (file : ℕ) (party : Party) → Stand last rows → (o : Option OpenRow) → Owns rows owner file o
    → Owns (filter (λ x. not (same_party party x.owner.instance)) rows) owner file (unless_of party owner o)
unfolding open_left
owns-drop_of last rows owner file party stand o its = by_test (same_party party owner.instance) refl
  where
    -- a row that stays is one of another instance
    at_before : (k : ℕ) (row : OpenRow) → open_at k (filter (λ x. not (same_party party x.owner.instance)) rows) ≡ Some row
        → (open_at k rows ≡ Some row) × (same_party party row.owner.instance ≡ false)
    at_before k row at = kept_row party (open_at k rows) row (sym (open_at-drop_of party 0 last rows k stand.rising) ∙ at)

    none_left : same_party party owner.instance ≡ true → (row : OpenRow) → same_party party row.owner.instance ≡ false → (b : Bool) → is_open_of owner file row ≡ b → b ≡ false
    none_left ends row other true is_row =
        absurd (both_ways (same_party party row.owner.instance) other (ap (λ (x : Owner). same_party party x.instance) (sym (of_parts owner file row is_row).0) ∙ ends))
    none_left ends row other false not_row = refl

    stays : same_party party owner.instance ≡ false → (p : Option OpenRow) → Owns rows owner file p → Owns (filter (λ x. not (same_party party x.owner.instance)) rows) owner file p
    stays lives None none = λ k row at. none k row (at_before k row at).0
    stays lives (Some x) mine =
        let other : same_party party x.owner.instance ≡ false = ap (λ (y : Owner). same_party party y.instance) (sym (of_parts owner file x mine.1).0) ∙ lives in
        (open_at-drop_of party 0 last rows x.counter stand.rising ∙ ap (open_left (DropOf party) x.counter) mine.0 ∙ rw other refl, mine.1)

    by_test : (b : Bool) → same_party party owner.instance ≡ b → Owns (filter (λ x. not (same_party party x.owner.instance)) rows) owner file (cond b None o)
    by_test true ends = λ k row at. none_left ends row (at_before k row at).1 (is_open_of owner file row) refl
    by_test false lives = stays lives o its

-- ---- what an event leaves of an owner's open

-- the row that an OPEN leaves is its owner's, on its file
opened_of : (rows : List OpenRow) (counter file access deny : ℕ) (mine : Owner) (o : Option OpenRow) → open_of mine file rows ≡ o
    → ((opened_row o counter file mine access deny).owner ≡ mine) × ((opened_row o counter file mine access deny).file ≡ file)
unfolding opened_row
opened_of rows counter file access deny mine None none = (refl, refl)
opened_of rows counter file access deny mine (Some row) found =
    let its = of_parts mine file row (open_of-in mine file rows row found).1 in
    (sym its.0, its.1)

-- there is none with its counter, or that of its owner
pub opened_at : (last : ℕ) (rows : List OpenRow) (file access deny : ℕ) (mine : Owner) → rises 0 last rows ≡ true → (o : Option OpenRow) → open_of mine file rows ≡ o
    → (old : OpenRow) → open_at (opened_row o (last + 1) file mine access deny).counter rows ≡ Some old
    → (old.owner ≡ (opened_row o (last + 1) file mine access deny).owner) × (old.file ≡ (opened_row o (last + 1) file mine access deny).file)
unfolding opened_row
opened_at last rows file access deny mine rising None none old at =
    let absent : open_at (last + 1) rows ≡ None = open_at-past 0 last rows (last + 1) rising (omega arith) in
    cc
opened_at last rows file access deny mine rising (Some row) found old at =
    let found_row : open_at row.counter rows ≡ Some row = (in-open_at 0 last rows row rising (open_of-in mine file rows row found).0).0 in
    let one : old ≡ row = some_is (sym at ∙ found_row) in
    (ap (λ (r : OpenRow). r.owner) one, ap (λ (r : OpenRow). r.file) one)

opened_stateid : (o : Option OpenRow) (counter file access deny : ℕ) (mine : Owner)
    → open_stateid (opened_row o counter file mine access deny) ≡ opened counter (option_map open_stateid o)
unfolding opened_row seqid_after
opened_stateid None counter file access deny mine = refl
opened_stateid (Some row) counter file access deny mine = refl

pub open-opened : (last later : ℕ) (rows : List OpenRow) (its : Owner) (its_file access deny : ℕ) (owner : Owner) (file : ℕ) → Stand last rows
    → Stand later (put_open (opened_row (open_of its its_file rows) (last + 1) its_file its access deny) rows)
    → open_in owner file (put_open (opened_row (open_of its its_file rows) (last + 1) its_file its access deny) rows)
    ≡ open_after (last + 1) (OpenedFor its its_file) owner file (open_in owner file rows)
unfolding open_in open_after
open-opened last later rows its its_file access deny owner file stand stands =
    ap (option_map open_stateid) (owner_has later (put_open row rows) owner file stands _
    (owns-put rows owner file row (opened_at last rows its_file access deny its stand.rising (open_of its its_file rows) refl)
    (open_of owner file rows) (owned last rows owner file stand (open_of owner file rows) refl)))
    ∙ ap (λ b. option_map open_stateid (cond b (Some row) (open_of owner file rows))) same_test
    ∙ by_test ((its_file == file) && same_owner owner its) refl
  where
    row : OpenRow
    row = opened_row (open_of its its_file rows) (last + 1) its_file its access deny

    same_test : is_open_of owner file row ≡ ((its_file == file) && same_owner owner its)
    same_test =
        let mine = opened_of rows (last + 1) its_file access deny its (open_of its its_file rows) refl in
        ap (λ f. (f == file) && same_owner owner row.owner) mine.1 ∙ ap (λ o. (its_file == file) && same_owner owner o) mine.0

    by_test : (b : Bool) → ((its_file == file) && same_owner owner its) ≡ b
        → option_map open_stateid (cond b (Some row) (open_of owner file rows))
        ≡ cond b (Some (opened (last + 1) (option_map open_stateid (open_of owner file rows)))) (option_map open_stateid (open_of owner file rows))
    by_test false other = refl
    by_test true mine =
        let parts = and_parts (its_file == file) (same_owner owner its) mine in
        ap (λ id. Some id) (opened_stateid (open_of its its_file rows) (last + 1) its_file access deny its)
        ∙ ap (λ f. Some (opened (last + 1) (option_map open_stateid (open_of its f rows)))) (eqb-true its_file file parts.0)
        ∙ ap (λ o. Some (opened (last + 1) (option_map open_stateid (open_of o file rows)))) (sym ((same_owner-Decides owner its).0 parts.1))

-- what is there with the counter of a row that is put in its place
pub renewed_at : (rows : List OpenRow) (k : ℕ) (old new : OpenRow) → open_at k rows ≡ Some old → new.counter ≡ old.counter → new.owner ≡ old.owner → new.file ≡ old.file
    → (x : OpenRow) → open_at new.counter rows ≡ Some x → (x.owner ≡ new.owner) × (x.file ≡ new.file)
renewed_at rows k old new live counters owners files x at =
    let one : x ≡ old = some_is (sym at ∙ ap (λ n. open_at n rows) (counters ∙ (open_at-in k rows old live).1) ∙ live) in
    (ap (λ (r : OpenRow). r.owner) one ∙ sym owners, ap (λ (r : OpenRow). r.file) one ∙ sym files)

pub open-renewed : (last later : ℕ) (rows : List OpenRow) (k : ℕ) (old new : OpenRow) (owner : Owner) (file : ℕ) → Stand last rows → Stand later (put_open new rows)
    → open_at k rows ≡ Some old → new.counter ≡ old.counter → new.seqid ≡ next_seqid old.seqid → new.owner ≡ old.owner → new.file ≡ old.file
    → open_in owner file (put_open new rows) ≡ renewed k (open_in owner file rows)
unfolding open_in seqid_after
open-renewed last later rows k old new owner file stand stands live counters seqids owners files =
    ap (option_map open_stateid) (owner_has later (put_open new rows) owner file stands _
    (owns-put rows owner file new (renewed_at rows k old new live counters owners files) (open_of owner file rows) (owned last rows owner file stand (open_of owner file rows) refl)))
    ∙ ap (λ b. option_map open_stateid (cond b (Some new) (open_of owner file rows))) (of_same owner file new old owners files)
    ∙ by_test (is_open_of owner file old) refl (open_of owner file rows) refl
  where
    at_k : old.counter ≡ k
    at_k = (open_at-in k rows old live).1

    live_too : open_at old.counter rows ≡ Some old
    live_too = ap (λ n. open_at n rows) at_k ∙ live

    raised : Some (open_stateid new) ≡ renewed k (Some (open_stateid old))
    raised = rw (same_number old.counter k at_k, counters, seqids) refl

    stays : (x : OpenRow) → is_open_of owner file old ≡ false → Owns rows owner file (Some x) → (b : Bool) → (x.counter == k) ≡ b
        → Some (open_stateid x) ≡ cond b (Some (record { counter = x.counter; seqid = seqid_after x.seqid })) (Some (open_stateid x))
    stays x other mine true same =
        let one : x ≡ old = some_is (sym mine.0 ∙ ap (λ n. open_at n rows) (eqb-true x.counter k same) ∙ live) in
        absurd (both_ways (is_open_of owner file old) other (ap (is_open_of owner file) (sym one) ∙ mine.1))
    stays x other mine false differ = refl

    by_test : (b : Bool) → is_open_of owner file old ≡ b → (o : Option OpenRow) → open_of owner file rows ≡ o
        → option_map open_stateid (cond b (Some new) o) ≡ renewed k (option_map open_stateid o)
    by_test true its o found =
        let one : Some old ≡ o = sym (owner_has last rows owner file stand (Some old) (live_too, its)) ∙ found in
        raised ∙ ap (λ p. renewed k (option_map open_stateid p)) one
    by_test false other None none = refl
    by_test false other (Some x) found = stays x other (owned last rows owner file stand (Some x) found) (x.counter == k) refl

pub open-closed : (last later : ℕ) (rows : List OpenRow) (k : ℕ) (owner : Owner) (file : ℕ) → Stand last rows
    → Stand later (filter (λ x. not (x.counter == k)) rows)
    → open_in owner file (filter (λ x. not (x.counter == k)) rows) ≡ closed k (open_in owner file rows)
unfolding open_in
open-closed last later rows k owner file stand stands =
    ap (option_map open_stateid) (owner_has later (filter (λ x. not (x.counter == k)) rows) owner file stands _
    (owns-drop last rows owner file k stand (open_of owner file rows) (owned last rows owner file stand (open_of owner file rows) refl)))
    ∙ by_open (open_of owner file rows)
  where
    by_test : (x : OpenRow) (b : Bool) → option_map open_stateid (cond b None (Some x)) ≡ cond b None (Some (open_stateid x))
    by_test x true = refl
    by_test x false = refl

    by_open : (o : Option OpenRow) → option_map open_stateid (unless_at k o) ≡ closed k (option_map open_stateid o)
    by_open None = refl
    by_open (Some x) = by_test x (x.counter == k)

pub open-ended : (last later : ℕ) (rows : List OpenRow) (party : Party) (owner : Owner) (file : ℕ) → Stand last rows
    → Stand later (filter (λ x. not (same_party party x.owner.instance)) rows)
    → open_in owner file (filter (λ x. not (same_party party x.owner.instance)) rows) ≡ cond (same_party party owner.instance) None (open_in owner file rows)
unfolding open_in
open-ended last later rows party owner file stand stands =
    ap (option_map open_stateid) (owner_has later (filter (λ x. not (same_party party x.owner.instance)) rows) owner file stands _
    (owns-drop_of last rows owner file party stand (open_of owner file rows) (owned last rows owner file stand (open_of owner file rows) refl)))
    ∙ by_test (same_party party owner.instance)
  where
    by_test : (b : Bool) → option_map open_stateid (cond b None (open_of owner file rows)) ≡ cond b None (option_map open_stateid (open_of owner file rows))
    by_test true = refl
    by_test false = refl

-- the words of change that are known
at_word : (w v : OpenWord) (rows : List OpenRow) (later : ℕ) → w ≡ v → Stand later (opens_after w rows) → Stand later (opens_after v rows)
at_word w v rows later e stand = subst (λ x. Stand later (opens_after x rows)) e stand

stateid_after : (s : Seen) (word : StateidWord) (w : Words) (later : ℕ) (owner : Owner) (file : ℕ) → Leaves s word w → Stand s.last s.opens
    → Stand later (opens_after w.opens s.opens)
    → open_in owner file (opens_after w.opens s.opens) ≡ open_after (s.last + 1) word owner file (open_in owner file s.opens)
unfolding opens_after open_after
stateid_after s Nothing w later owner file leaves stand stands = ap (λ x. open_in owner file (opens_after x s.opens)) leaves.0
stateid_after s (OpenedFor its its_file) w later owner file leaves stand stands =
    ap (λ x. open_in owner file (opens_after x s.opens)) leaves.puts
    ∙ open-opened s.last later s.opens its its_file leaves.access leaves.deny owner file stand (at_word _ _ s.opens later leaves.puts stands)
stateid_after s (RenewedAt k) w later owner file leaves stand stands =
    ap (λ x. open_in owner file (opens_after x s.opens)) leaves.puts
    ∙ open-renewed s.last later s.opens k leaves.old leaves.new owner file stand (at_word _ _ s.opens later leaves.puts stands)
    leaves.live leaves.counter leaves.seqid leaves.owner leaves.file
stateid_after s (ClosedAt k) w later owner file leaves stand stands =
    ap (λ x. open_in owner file (opens_after x s.opens)) leaves.0
    ∙ open-closed s.last later s.opens k owner file stand (at_word _ _ s.opens later leaves.0 stands)
stateid_after s (LockedFor its its_file counter) w later owner file leaves stand stands = ap (λ x. open_in owner file (opens_after x s.opens)) leaves.rest
stateid_after s (RelockedAt k) w later owner file leaves stand stands = ap (λ x. open_in owner file (opens_after x s.opens)) leaves.rest
stateid_after s (ReleasedFor its) w later owner file leaves stand stands = ap (λ x. open_in owner file (opens_after x s.opens)) leaves.1
stateid_after s (EndedFor party) w later owner file leaves stand stands =
    ap (λ x. open_in owner file (opens_after x s.opens)) leaves.0
    ∙ open-ended s.last later s.opens party owner file stand (at_word _ _ s.opens later leaves.0 stands)

opens_stand : (s : Seen) → IsSound s → Stand s.last s.opens
opens_stand s sound = record { rising = sound.rising; apart = sound.apart }

-- what an event leaves, once more by what stands
pub leaves_of : (fs : ℕ) (grants : Bool) (earlier : Past) (event : Event) → IsLegal fs grants earlier
    → Leaves (seen fs grants earlier) (event_word (now earlier) event (answer_to (seen fs grants earlier) event))
    (words (look (seen fs grants earlier)) event (answer_to (seen fs grants earlier) event))
leaves_of fs grants earlier event legal =
    let s : Seen = seen fs grants earlier in
    subst (λ n. Leaves s (event_word n event (answer_to s event)) (words (look s) event (answer_to s event))) (look-seen fs grants earlier legal)
    (event_leaves s event (sound-seen fs grants earlier legal))

-- The table of opens has the stateids that the entries tell.
pub opens_told : (fs : ℕ) (grants : Bool) (es : Past) (owner : Owner) (file : ℕ) → IsLegal fs grants es
    → open_in owner file (seen fs grants es).opens ≡ open_now es owner file
unfolding seen open_now after_words open_in open_of
opens_told fs grants [] owner file legal = refl
opens_told fs grants (x ∷ earlier) owner file legal =
    let s : Seen = seen fs grants earlier in
    let r = answer_to s x.event in
    let next : Stand (after s x.event r).last (after s x.event r).opens =
    subst (λ y. Stand (after s x.event y).last (after s x.event y).opens) legal.0 (opens_stand _ (sound-seen fs grants (x ∷ earlier) legal)) in
    ap (λ y. open_in owner file (after s x.event y).opens) legal.0
    ∙ stateid_after s (event_word (now earlier) x.event r) (words (look s) x.event r) (after s x.event r).last owner file
    (leaves_of fs grants earlier x.event legal.1) (opens_stand s (sound-seen fs grants earlier legal.1)) next
    ∙ ap (λ y. open_after (s.last + 1) (event_word (now earlier) x.event y) owner file (open_in owner file s.opens)) (sym legal.0)
    ∙ ap (λ n. open_after (n + 1) (event_word (now earlier) x.event x.reply) owner file (open_in owner file s.opens)) (last-seen fs grants earlier legal.1)
    ∙ ap (open_after (stateids_made earlier + 1) (event_word (now earlier) x.event x.reply) owner file) (opens_told fs grants earlier owner file legal.1)

-- A row is its stateid, its owner, its file and its share.
whole_row : (owner : Owner) (file : ℕ) (row : OpenRow) → owner ≡ row.owner → row.file ≡ file
    → row_of owner file (Some (open_stateid row)) (Some (row_share row)) ≡ Some row
whole_row owner file row owners files = rw (owners, ← files) refl

pub opens_whole : (fs : ℕ) (grants : Bool) (es : Past) (owner : Owner) (file : ℕ) → IsLegal fs grants es
    → open_of owner file (seen fs grants es).opens ≡ row_of owner file (open_now es owner file) (share_of es owner file)
unfolding open_in
opens_whole fs grants es owner file legal =
    by_open (open_of owner file rows) refl
    ∙ ap (λ id. row_of owner file id (share_in owner file rows)) (opens_told fs grants es owner file legal)
    ∙ ap (row_of owner file (open_now es owner file)) (sym (share-seen fs grants es owner file legal))
  where
    rows : List OpenRow
    rows = (seen fs grants es).opens

    by_open : (o : Option OpenRow) → open_of owner file rows ≡ o → o ≡ row_of owner file (option_map open_stateid o) (option_map row_share o)
    by_open None none = refl
    by_open (Some row) found =
        let its = of_parts owner file row (open_of-in owner file rows row found).1 in
        sym (whole_row owner file row its.0 its.1)
