-- In every legal list the table of opens keeps each owner's share, and no two owners' shares of a file conflict.
use Rattle.std.proofs.Common.{◌≡◌, ◌≢◌, ℕ, ◌+◌, Bool, true, false, cond, List, [], ◌∷◌, Option, Some, None, refl, ap, sym, subst, ◌∙◌, inl, inr, arith, eqb-true}
use Rattle.std.specs.Prelude.{not, ◌==◌, ◌&&◌, filter, find, option_map}
use Rattle.std.proofs.lemmas.Bool.{false≢true, both_ways, eqb-false, and_parts}
use Rattle.std.proofs.lemmas.Bool.Decides.{nat_tests}
use Rattle.nm_types.specs.Parties.{Party, same_party}
use Rattle.nm_types.specs.Owners.{same_owner}
use Rattle.nm_rules.specs.Shares.{open_at, open_of, opened_row, is_opposed, is_open_of, put_open, put_if, renewed_row, narrowed_row, opens_after, shares_conflict}
use Rattle.nm_rules.specs.Shares.OpenWord.{DropOf}
use Rattle.nm_rules.specs.Seqids.{OwnerWord, is_fresh}
use Rattle.nm_rules.specs.Seqids.OwnerWord.{Stays, GoneOf}
use Rattle.nm_rules.specs.Past.{Past, Now, Words, now, acts, judgement, words, no_words, with_owners, deed_words, close_words, confirm_words, downgrade_words, opener}
use Rattle.nm_types.specs.Statuses.{is_done}
use Rattle.nm_rules.specs.Seen.{Seen, seen, look, after, after_words}
use Rattle.nm_rules.specs.Checks.{Stop, first}
use Rattle.nm_rules.specs.Checks.Stop.{Refuse, Repeat}
use Rattle.nm_rules.specs.Data.{write_value}
use Rattle.nm_rules.specs.Files.{create_value}
use Rattle.nm_rules.specs.LockOps.{lock_value, changed_lock}
use Rattle.nm_rules.specs.LockRows.LockWord.{EndedOf}
use Rattle.nm_rules.specs.Opens.{open_checks, open_value, changed_stateid, next_stateid, is_narrower, row_to_open, file_to_open}
use Rattle.nm_rules.specs.Stateids.{open_named}
use Rattle.nm_rules.specs.Answer.{answer_to, reply_by, refused_value, ok_value, checks, IsLegal}
use Rattle.nm_rules.specs.Sound.{IsSound, rises, are_apart, all_apart}
use Rattle.nm_rules.specs.Readings.{Share, row_share, share_in, share_of, ends_share, takes_share, sets_share, asked_share, deed_share, joined, opens, closes, narrows, names_open_of, AreCompatible}
use Rattle.nm_types.specs.declared.calls.Call.{Call}
use Rattle.nm_types.specs.declared.calls.Deed.{Deed}
use Rattle.nm_types.specs.declared.calls.Deed.TheVariants as deed
use Rattle.nm_types.specs.declared.args.CloseArgs.{CloseArgs}
use Rattle.nm_types.specs.declared.args.OpenDowngradeArgs.{OpenDowngradeArgs}
use Rattle.nm_types.specs.declared.calls.Owner.{Owner}
use Rattle.nm_types.specs.declared.calls.Verdict.{Verdict}
use Rattle.nm_types.specs.declared.calls.Event.{Event}
use Rattle.nm_types.specs.declared.calls.Event.TheVariants.{Asked, Ended}
use Rattle.nm_types.specs.declared.calls.Reply.{Reply}
use Rattle.nm_types.specs.declared.calls.ReplyValue.{ReplyValue}
use Rattle.nm_types.specs.declared.calls.ReplyValue.TheVariants as told
use Rattle.nm_types.specs.declared.status.OpStatus.{OpStatus}
use Rattle.nm_types.specs.declared.rows.OpenRow.{OpenRow}
use Rattle.nm_rules.proofs.OwnerLemmas.{same_owner-Decides}
use Rattle.nm_rules.proofs.OpenRows.{IsIn, open_at-past, open_at-in, in-open_at, in-filter}
use Rattle.nm_rules.proofs.Apart.{Suits, apart_in, opened_suits, renewed_suits, narrowed_suits, open_of-in, open_of-none}
use Rattle.nm_rules.proofs.Legal.{same_row, open_goes, downgrade_goes, free_is_fresh, repeat_is_old, words-refused, words-old, words-free, named_is_live, sound-seen, look-seen}
use Rattle.nm_rules.proofs.Refusals.{by_refusal, lock_keeps, unlock_keeps, release_keeps}

fails_unless : (b : Bool) → (b ≡ true → ⊥) → b ≡ false
fails_unless true never = absurd (never refl)
fails_unless false never = refl

keeps_unless : (b : Bool) → (b ≡ true → ⊥) → not b ≡ true
keeps_unless true never = absurd (never refl)
keeps_unless false never = refl

-- A search that each row fails finds none.
find-none : (p : OpenRow → Bool) (rows : List OpenRow) → ((y : OpenRow) → IsIn y rows → p y ≡ false) → find p rows ≡ None
find-none p [] fails = refl
find-none p (y ∷ ys) fails = rw (fails y (inl refl)) (find-none p ys (λ x within. fails x (inr within)))

-- A search finds the same after a filter that keeps all that it may find.
find-filter : (p q : OpenRow → Bool) (rows : List OpenRow) → ((y : OpenRow) → IsIn y rows → p y ≡ true → q y ≡ true) → find p (filter q rows) ≡ find p rows
find-filter p q [] keeps = refl
find-filter p q (y ∷ ys) keeps = by_tests (p y) (q y) refl refl (keeps y (inl refl)) (find-filter p q ys (λ x within. keeps x (inr within)))
  where
    by_tests : (b c : Bool) → p y ≡ b → q y ≡ c → (p y ≡ true → q y ≡ true) → find p (filter q ys) ≡ find p ys
        → find p (cond c (y ∷ filter q ys) (filter q ys)) ≡ cond b (Some y) (find p ys)
    by_tests b true is_p is_q keep later = rw is_p (ap (cond b (Some y)) later)
    by_tests true false is_p is_q keep later = absurd (both_ways (q y) is_q (keep is_p))
    by_tests false false is_p is_q keep later = later

-- rows of one counter are of one owner and file
abbrev Replaces : OpenRow → List OpenRow → Type 0
Replaces row rows = (y : OpenRow) → IsIn y rows → y.counter ≡ row.counter → (y.owner ≡ row.owner) × (y.file ≡ row.file)

same_is : (owner : Owner) (file : ℕ) (y row : OpenRow) → (y.owner ≡ row.owner) × (y.file ≡ row.file) → is_open_of owner file y ≡ is_open_of owner file row
same_is owner file y row same = rw (same.0, same.1) refl

clash : (f o c : Bool) → f ≡ true → o ≡ true → cond f (not o && c) true ≡ true → ⊥
clash true true c yes_f yes_o apart = false≢true apart
clash false o c not_f yes_o apart = false≢true not_f
clash true false c yes_f not_o apart = false≢true not_o

-- two rows of one owner and file aren't apart
not_apart : (owner : Owner) (file : ℕ) (a b : OpenRow) → is_open_of owner file a ≡ true → is_open_of owner file b ≡ true → are_apart a b ≡ true → ⊥
not_apart owner file a b of_a of_b apart =
    let pa = and_parts (a.file == file) (same_owner owner a.owner) of_a in
    let pb = and_parts (b.file == file) (same_owner owner b.owner) of_b in
    let file_a : a.file ≡ file = eqb-true a.file file pa.0 in
    let file_b : b.file ≡ file = eqb-true b.file file pb.0 in
    let owners : a.owner ≡ b.owner = sym ((same_owner-Decides owner a.owner).0 pa.1) ∙ (same_owner-Decides owner b.owner).0 pb.1 in
    clash (a.file == b.file) (same_owner a.owner b.owner) _ (grind (arith, nat_tests)) ((same_owner-Decides a.owner b.owner).1 owners) apart

open_of-put : (owner : Owner) (file : ℕ) (row : OpenRow) (rows : List OpenRow) → Suits row rows → Replaces row rows
    → open_of owner file (put_open row rows) ≡ cond (is_open_of owner file row) (Some row) (open_of owner file rows)
unfolding open_of
open_of-put owner file row [] suits replaces = refl
open_of-put owner file row (y ∷ ys) suits replaces =
    by_tests (y.counter == row.counter) (is_open_of owner file y) (is_open_of owner file row) refl refl refl
    (open_of-put owner file row ys (λ x within ne. suits x (inr within) ne) (λ x within e. replaces x (inr within) e))
  where
    by_tests : (b c d : Bool) → (y.counter == row.counter) ≡ b → is_open_of owner file y ≡ c → is_open_of owner file row ≡ d
        → find (is_open_of owner file) (put_open row ys) ≡ cond (is_open_of owner file row) (Some row) (find (is_open_of owner file) ys)
        → find (is_open_of owner file) (cond b (row ∷ ys) (y ∷ put_open row ys)) ≡ cond d (Some row) (cond c (Some y) (find (is_open_of owner file) ys))
    by_tests true c true same is_y is_row later = rw is_row refl
    by_tests true false false same is_y is_row later = rw is_row refl
    by_tests true true false same is_y is_row later =
        absurd (false≢true (sym is_row ∙ sym (same_is owner file y row (replaces y (inl refl) (eqb-true y.counter row.counter same))) ∙ is_y))
    by_tests false true true other is_y is_row later =
        absurd (not_apart owner file row y is_row is_y (suits y (inl refl) (eqb-false y.counter row.counter other)))
    by_tests false true false other is_y is_row later = rw is_y refl
    by_tests false false d other is_y is_row later = rw is_y (later ∙ rw is_row refl)

-- a CLOSE of the open with that counter takes its owner's open, and no other
open_of-drop : (above last : ℕ) (owner : Owner) (file : ℕ) (rows : List OpenRow) (row : OpenRow) → rises above last rows ≡ true → all_apart rows ≡ true
    → open_at row.counter rows ≡ Some row
    → open_of owner file (filter (λ x. not (x.counter == row.counter)) rows) ≡ cond (is_open_of owner file row) None (open_of owner file rows)
unfolding open_of
open_of-drop above last owner file rows row rising apart there = by_test (is_open_of owner file row) refl
  where
    within : IsIn row rows
    within = (open_at-in row.counter rows row there).0

    one_row : (y : OpenRow) → IsIn y rows → y.counter ≡ row.counter → y ≡ row
    one_row y at e =
        let found : open_at y.counter rows ≡ Some y = (in-open_at above last rows y rising at).0 in
        let found_too : open_at y.counter rows ≡ Some row = rw e there in
        cc

    fails : is_open_of owner file row ≡ true → (y : OpenRow) → IsIn y (filter (λ x. not (x.counter == row.counter)) rows) → is_open_of owner file y ≡ false
    fails is_row y at =
        let kept = in-filter (λ x. not (x.counter == row.counter)) rows y at in
        let other : y.counter ≢ row.counter = λ e. grind (arith, nat_tests, kept.1) in
        fails_unless (is_open_of owner file y) (λ is_y. not_apart owner file y row is_y is_row (apart_in rows y row apart kept.0 within other))

    by_test : (b : Bool) → is_open_of owner file row ≡ b
        → find (is_open_of owner file) (filter (λ x. not (x.counter == row.counter)) rows) ≡ cond b None (find (is_open_of owner file) rows)
    by_test true is_row = find-none (is_open_of owner file) (filter (λ x. not (x.counter == row.counter)) rows) (fails is_row)
    by_test false not_row = find-filter (is_open_of owner file) (λ x. not (x.counter == row.counter)) rows
        (λ y at is_y. keeps_unless (y.counter == row.counter) (λ e. both_ways (is_open_of owner file row) not_row
        (ap (is_open_of owner file) (sym (one_row y at (eqb-true y.counter row.counter e))) ∙ is_y)))

-- the end of an instance takes the opens of its owners, and no other
open_of-drop_of : (party : Party) (owner : Owner) (file : ℕ) (rows : List OpenRow)
    → open_of owner file (filter (λ x. not (same_party party x.owner.instance)) rows) ≡ cond (same_party party owner.instance) None (open_of owner file rows)
unfolding open_of
open_of-drop_of party owner file rows = by_test (same_party party owner.instance) refl
  where
    its_owner : (y : OpenRow) → is_open_of owner file y ≡ true → same_party party y.owner.instance ≡ same_party party owner.instance
    its_owner y is_y = ap (λ (o : Owner). same_party party o.instance) (sym ((same_owner-Decides owner y.owner).0 (and_parts (y.file == file) (same_owner owner y.owner) is_y).1))

    kept_fails : (b : Bool) → not b ≡ true → b ≡ true → ⊥
    kept_fails true k e = false≢true k
    kept_fails false k e = false≢true e

    by_test : (b : Bool) → same_party party owner.instance ≡ b
        → find (is_open_of owner file) (filter (λ x. not (same_party party x.owner.instance)) rows) ≡ cond b None (find (is_open_of owner file) rows)
    by_test true its = find-none (is_open_of owner file) (filter (λ x. not (same_party party x.owner.instance)) rows)
        (λ y at. fails_unless (is_open_of owner file y)
        (λ is_y. kept_fails (same_party party y.owner.instance) (in-filter (λ x. not (same_party party x.owner.instance)) rows y at).1 (its_owner y is_y ∙ its)))
    by_test false other = find-filter (is_open_of owner file) (λ x. not (same_party party x.owner.instance)) rows
        (λ y at is_y. keeps_unless (same_party party y.owner.instance) (λ e. both_ways (same_party party owner.instance) other (sym (its_owner y is_y) ∙ e)))

-- what an entry leaves of an owner's share
abbrev pub share_left : Now → Owner → ℕ → Event → Reply → Option Share → Option Share
share_left n owner file event r before =
    cond (ends_share n owner file event r) None (cond (takes_share n owner file event r) (joined before (asked_share event))
    (cond (sets_share n owner file event r) (Some (asked_share event)) before))

map_cond : (b : Bool) (o : Option OpenRow) → option_map row_share (cond b None o) ≡ cond b None (option_map row_share o)
map_cond true o = refl
map_cond false o = refl

-- a row that an OPEN leaves: its owner's, of its file, with both shares
opened_is : (o : Option OpenRow) (rows : List OpenRow) (counter file access deny : ℕ) (mine : Owner) → open_of mine file rows ≡ o
    → ((opened_row o counter file mine access deny).owner ≡ mine) × ((opened_row o counter file mine access deny).file ≡ file)
unfolding opened_row
opened_is None rows counter file access deny mine none = (refl, refl)
opened_is (Some row) rows counter file access deny mine found =
    let parts = and_parts (row.file == file) (same_owner mine row.owner) (open_of-in mine file rows row found).1 in
    (sym ((same_owner-Decides mine row.owner).0 parts.1), eqb-true row.file file parts.0)

opened_share : (o : Option OpenRow) (counter file access deny : ℕ) (mine : Owner)
    → Some (row_share (opened_row o counter file mine access deny)) ≡ joined (option_map row_share o) (record { access = access; deny = deny })
unfolding opened_row
opened_share None counter file access deny mine = refl
opened_share (Some row) counter file access deny mine = refl

opened_replaces : (last : ℕ) (o : Option OpenRow) (rows : List OpenRow) (file access deny : ℕ) (mine : Owner) → rises 0 last rows ≡ true → open_of mine file rows ≡ o
    → Replaces (opened_row o (last + 1) file mine access deny) rows
unfolding opened_row
opened_replaces last None rows file access deny mine rising none y at e =
    let found : open_at y.counter rows ≡ Some y = (in-open_at 0 last rows y rising at).0 in
    let absent : open_at y.counter rows ≡ None = open_at-past 0 last rows y.counter rising (omega (arith, e)) in
    cc
opened_replaces last (Some row) rows file access deny mine rising found y at e =
    let found_y : open_at y.counter rows ≡ Some y = (in-open_at 0 last rows y rising at).0 in
    let found_row : open_at y.counter rows ≡ Some row = rw e (in-open_at 0 last rows row rising (open_of-in mine file rows row found).0).0 in
    let same : y ≡ row = cc in
    (ap (λ (r : OpenRow). r.owner) same, ap (λ (r : OpenRow). r.file) same)

-- an OPEN that acts joins its share to what its owner had, and leaves others' shares
share-put : (last : ℕ) (rows : List OpenRow) (mine : Owner) (its_file access deny : ℕ) (owner : Owner) (file : ℕ)
    → rises 0 last rows ≡ true → all_apart rows ≡ true → is_opposed mine its_file access deny rows ≡ false
    → share_in owner file (put_open (opened_row (open_of mine its_file rows) (last + 1) its_file mine access deny) rows)
    ≡ cond ((its_file == file) && same_owner owner mine) (joined (share_in owner file rows) (record { access = access; deny = deny })) (share_in owner file rows)
share-put last rows mine its_file access deny owner file rising apart free =
    ap (option_map row_share) (open_of-put owner file row rows suits replaces)
    ∙ ap (λ b. option_map row_share (cond b (Some row) (open_of owner file rows))) same_test
    ∙ by_test ((its_file == file) && same_owner owner mine) refl
  where
    row : OpenRow
    row = opened_row (open_of mine its_file rows) (last + 1) its_file mine access deny

    suits : Suits row rows
    suits = opened_suits mine its_file (last + 1) access deny rows apart free

    replaces : Replaces row rows
    replaces = opened_replaces last (open_of mine its_file rows) rows its_file access deny mine rising refl

    same_test : is_open_of owner file row ≡ ((its_file == file) && same_owner owner mine)
    same_test =
        let its = opened_is (open_of mine its_file rows) rows (last + 1) its_file access deny mine refl in
        ap (λ f. (f == file) && same_owner owner row.owner) its.1 ∙ ap (λ o. (its_file == file) && same_owner owner o) its.0

    share : Share
    share = record { access = access; deny = deny }

    by_test : (b : Bool) → ((its_file == file) && same_owner owner mine) ≡ b
        → option_map row_share (cond b (Some row) (open_of owner file rows)) ≡ cond b (joined (share_in owner file rows) share) (share_in owner file rows)
    by_test false other = refl
    by_test true its =
        let parts = and_parts (its_file == file) (same_owner owner mine) its in
        opened_share (open_of mine its_file rows) (last + 1) its_file access deny mine
        ∙ ap (λ f. joined (share_in mine f rows) share) (eqb-true its_file file parts.0)
        ∙ ap (λ o. joined (share_in o file rows) share) (sym ((same_owner-Decides owner mine).0 parts.1))

nothing_ends : (b : Bool) (more set before : Option Share)
    → cond (cond b false false) None (cond (cond b false false) more (cond (cond b false false) set before)) ≡ before
nothing_ends true more set before = refl
nothing_ends false more set before = refl

-- a value leaves every share
abbrev LeavesShare : Now → Owner → ℕ → Option Share → Deed → ReplyValue → Type 0
LeavesShare n owner file before d value = (b : Bool) (caller : Option Party)
    → cond (cond b (closes n owner file d value) false) None
    (cond (cond b (opens owner file caller d value) false) (joined before (deed_share d))
    (cond (cond b (narrows n owner file d value) false) (Some (deed_share d)) before)) ≡ before

refused_share : (n : Now) (owner : Owner) (file : ℕ) (before : Option Share) (b : Bool) (caller : Option Party) (d : Deed)
    → cond (cond b (closes n owner file d (refused_value d)) false) None
    (cond (cond b (opens owner file caller d (refused_value d)) false) (joined before (deed_share d))
    (cond (cond b (narrows n owner file d (refused_value d)) false) (Some (deed_share d)) before)) ≡ before
refused_share n owner file before b caller (deed.Access _) = nothing_ends b _ _ before
refused_share n owner file before b caller (deed.Close _) = nothing_ends b _ _ before
refused_share n owner file before b caller (deed.Commit _) = nothing_ends b _ _ before
refused_share n owner file before b caller (deed.Create _) = nothing_ends b _ _ before
refused_share n owner file before b caller (deed.GetAttr _) = nothing_ends b _ _ before
refused_share n owner file before b caller (deed.Lock _) = nothing_ends b _ _ before
refused_share n owner file before b caller (deed.LockTest _) = nothing_ends b _ _ before
refused_share n owner file before b caller (deed.Lookup _) = nothing_ends b _ _ before
refused_share n owner file before b caller deed.LookupP = nothing_ends b _ _ before
refused_share n owner file before b None (deed.Open _) = nothing_ends b _ _ before
refused_share n owner file before b (Some party) (deed.Open _) = nothing_ends b _ _ before
refused_share n owner file before b caller (deed.OpenConfirm _) = nothing_ends b _ _ before
refused_share n owner file before b caller (deed.OpenDowngrade _) = nothing_ends b _ _ before
refused_share n owner file before b caller (deed.Read _) = nothing_ends b _ _ before
refused_share n owner file before b caller (deed.ReadDir _) = nothing_ends b _ _ before
refused_share n owner file before b caller (deed.ReleaseLockOwner _) = nothing_ends b _ _ before
refused_share n owner file before b caller (deed.Remove _) = nothing_ends b _ _ before
refused_share n owner file before b caller (deed.SetAttr _) = nothing_ends b _ _ before
refused_share n owner file before b caller (deed.Unlock _) = nothing_ends b _ _ before
refused_share n owner file before b caller (deed.Write _) = nothing_ends b _ _ before

-- a refusal leaves every share
refused_leaves : (s : Seen) (owner : Owner) (file : ℕ) (call : Call) (verdict : Verdict) (status : OpStatus) (before : Option Share)
    → share_left (look s) owner file (Asked call verdict) (reply_by s call (Some (Refuse status))) before ≡ before
refused_leaves s owner file call verdict status before =
    by_refusal (LeavesShare (look s) owner file before) (λ d b caller. refused_share (look s) owner file before b caller d)
    (λ args o b caller. nothing_ends b _ _ before) (λ args o b caller. nothing_ends b _ _ before) s call.caller call.file call.deed status
    (acts (look s) call (reply_by s call (Some (Refuse status)))) call.caller

-- so does a call that came before
old_leaves : (n : Now) (owner : Owner) (file : ℕ) (call : Call) (verdict : Verdict) (r : Reply) (before : Option Share)
    → is_fresh (judgement n call) ≡ false → share_left n owner file (Asked call verdict) r before ≡ before
old_leaves n owner file call verdict r before old = rw old refl

-- what a CLOSE that nothing stops leaves of a share
closed_share : (s : Seen) (args : CloseArgs) (o : Option OpenRow) (owner : Owner) (file : ℕ) → IsSound s
    → ((row : OpenRow) → o ≡ Some row → open_at row.counter s.opens ≡ Some row)
    → share_in owner file (opens_after (close_words (told.Close (option_map (next_stateid s.fs) o))).opens s.opens)
    ≡ cond (closes (look s) owner file (deed.Close args) (told.Close (option_map (next_stateid s.fs) o))) None (share_in owner file s.opens)
unfolding opens_after look
closed_share s args None owner file sound live = refl
closed_share s args (Some row) owner file sound live =
    ap (option_map row_share) (open_of-drop 0 s.last owner file s.opens row sound.rising sound.apart (live row refl))
    ∙ map_cond (is_open_of owner file row) (open_of owner file s.opens)
    ∙ ap (λ o. cond (names_open_of owner file o) None (share_in owner file s.opens)) (sym (live row refl))

-- a live open of an owner on a file is the one that is found by these
open_of-live : (last : ℕ) (owner : Owner) (file : ℕ) (rows : List OpenRow) (row : OpenRow) → rises 0 last rows ≡ true → all_apart rows ≡ true
    → open_at row.counter rows ≡ Some row → is_open_of owner file row ≡ true → open_of owner file rows ≡ Some row
open_of-live last owner file rows row rising apart live its = by_found (open_of owner file rows) refl
  where
    within : IsIn row rows
    within = (open_at-in row.counter rows row live).0

    one : (x : OpenRow) → IsIn x rows → x.counter ≡ row.counter → x ≡ row
    one x at e =
        let found : open_at x.counter rows ≡ Some x = (in-open_at 0 last rows x rising at).0 in
        let found_too : open_at x.counter rows ≡ Some row = rw e live in
        cc

    by_counter : (x : OpenRow) → IsIn x rows → is_open_of owner file x ≡ true → (b : Bool) → (x.counter == row.counter) ≡ b → Some x ≡ Some row
    by_counter x at is_x true same = ap (λ r. Some r) (one x at (eqb-true x.counter row.counter same))
    by_counter x at is_x false other =
        absurd (not_apart owner file x row is_x its (apart_in rows x row apart at within (eqb-false x.counter row.counter other)))

    by_found : (o : Option OpenRow) → open_of owner file rows ≡ o → o ≡ Some row
    by_found None none = absurd (false≢true (sym (open_of-none owner file rows row none within) ∙ its))
    by_found (Some x) found =
        let at = open_of-in owner file rows x found in
        by_counter x at.0 at.1 (x.counter == row.counter) refl

-- a live open that is changed in its place, and keeps its owner and file
changed_share : (s : Seen) (row new : OpenRow) (owner : Owner) (file : ℕ) → IsSound s → open_at row.counter s.opens ≡ Some row
    → new.counter ≡ row.counter → new.owner ≡ row.owner → new.file ≡ row.file → Suits new s.opens
    → share_in owner file (put_open new s.opens) ≡ cond (is_open_of owner file row) (Some (row_share new)) (share_in owner file s.opens)
changed_share s row new owner file sound live same_counter same_owner_too same_file suits =
    ap (option_map row_share) (open_of-put owner file new s.opens suits replaces)
    ∙ ap (λ b. option_map row_share (cond b (Some new) (open_of owner file s.opens))) (same_is owner file new row (same_owner_too, same_file))
    ∙ by_test (is_open_of owner file row)
  where
    replaces : Replaces new s.opens
    replaces y at e =
        let found_y : open_at y.counter s.opens ≡ Some y = (in-open_at 0 s.last s.opens y sound.rising at).0 in
        let found_row : open_at y.counter s.opens ≡ Some row = rw (e, same_counter) live in
        let same : y ≡ row = cc in
        (ap (λ (r : OpenRow). r.owner) same ∙ sym same_owner_too, ap (λ (r : OpenRow). r.file) same ∙ sym same_file)

    by_test : (b : Bool) → option_map row_share (cond b (Some new) (open_of owner file s.opens)) ≡ cond b (Some (row_share new)) (share_in owner file s.opens)
    by_test true = refl
    by_test false = refl

-- what an OPEN_CONFIRM that nothing stops leaves of a share: all of it
confirmed_share : (s : Seen) (o : Option OpenRow) (owner : Owner) (file : ℕ) → IsSound s
    → ((row : OpenRow) → o ≡ Some row → open_at row.counter s.opens ≡ Some row)
    → share_in owner file (opens_after (confirm_words (look s) (told.OpenConfirm (option_map (next_stateid s.fs) o))).opens s.opens)
    ≡ share_in owner file s.opens
unfolding opens_after look
confirmed_share s None owner file sound live = refl
confirmed_share s (Some row) owner file sound live =
    ap (λ o. share_in owner file (opens_after (put_if (option_map renewed_row o)) s.opens)) (live row refl)
    ∙ changed_share s row (renewed_row row) owner file sound (live row refl) refl refl refl
    (renewed_suits row s.opens sound.apart (open_at-in row.counter s.opens row (live row refl)).0)
    ∙ by_test (is_open_of owner file row) refl
  where
    by_test : (b : Bool) → is_open_of owner file row ≡ b → cond b (Some (row_share row)) (share_in owner file s.opens) ≡ share_in owner file s.opens
    by_test true its = sym (ap (option_map row_share) (open_of-live s.last owner file s.opens row sound.rising sound.apart (live row refl) its))
    by_test false other = refl

-- what an OPEN_DOWNGRADE that nothing stops leaves of a share: what it asked
narrowed_share : (s : Seen) (args : OpenDowngradeArgs) (o : Option OpenRow) (owner : Owner) (file : ℕ) → IsSound s
    → ((row : OpenRow) → o ≡ Some row → open_at row.counter s.opens ≡ Some row) → is_narrower args.access args.deny o ≡ true
    → share_in owner file (opens_after (downgrade_words (look s) args (told.OpenDowngrade (option_map (next_stateid s.fs) o))).opens s.opens)
    ≡ cond (narrows (look s) owner file (deed.OpenDowngrade args) (told.OpenDowngrade (option_map (next_stateid s.fs) o)))
    (Some (record { access = args.access; deny = args.deny })) (share_in owner file s.opens)
unfolding opens_after look is_narrower
narrowed_share s args None owner file sound live narrower = refl
narrowed_share s args (Some row) owner file sound live narrower =
    let parts = and_parts _ _ narrower in
    ap (λ o. share_in owner file (opens_after (put_if (option_map (narrowed_row args.access args.deny) o)) s.opens)) (live row refl)
    ∙ changed_share s row (narrowed_row args.access args.deny row) owner file sound (live row refl) refl refl refl
    (narrowed_suits row args.access args.deny s.opens sound.apart (open_at-in row.counter s.opens row (live row refl)).0 (and_parts _ _ parts.0).1 parts.1)
    ∙ ap (λ o. cond (names_open_of owner file o) (Some (record { access = args.access; deny = args.deny })) (share_in owner file s.opens)) (sym (live row refl))

kept_share : (s : Seen) (owner : Owner) (file : ℕ) → share_in owner file (after_words s no_words).opens ≡ share_in owner file s.opens
unfolding after_words opens_after
kept_share s owner file = refl

ended_share : (s : Seen) (party : Party) (owner : Owner) (file : ℕ)
    → share_in owner file (after_words s (with_owners (record no_words { opens = DropOf party; locks = EndedOf party }) (GoneOf party) Stays)).opens ≡ cond (same_party party owner.instance) None (share_in owner file s.opens)
unfolding after_words opens_after
ended_share s party owner file =
    ap (option_map row_share) (open_of-drop_of party owner file s.opens) ∙ map_cond (same_party party owner.instance) (open_of owner file s.opens)

nothing_shared : (owner : Owner) (file : ℕ) → None ≡ share_in owner file []
unfolding open_of
nothing_shared owner file = refl

-- what a call that nothing stops leaves of a share
share_goes : (s : Seen) (caller : Option Party) (its_file : ℕ) (verdict : Verdict) (d : Deed) (owner : Owner) (file : ℕ) → IsSound s
    → first (checks s caller its_file verdict d) ≡ None
    → share_in owner file (after_words s (deed_words (look s) caller its_file d (ok_value s caller its_file d))).opens
    ≡ cond (closes (look s) owner file d (ok_value s caller its_file d)) None
    (cond (opens owner file caller d (ok_value s caller its_file d)) (joined (share_in owner file s.opens) (deed_share d))
    (cond (narrows (look s) owner file d (ok_value s caller its_file d)) (Some (deed_share d)) (share_in owner file s.opens)))
unfolding after_words opens_after open_value changed_stateid open_checks row_to_open look create_value write_value
share_goes s caller its_file verdict (deed.Access _) owner file sound goes = refl
share_goes s caller its_file verdict (deed.Close args) owner file sound goes =
    closed_share s args (open_named s args.stateid) owner file sound (named_is_live s args.stateid)
share_goes s caller its_file verdict (deed.Commit _) owner file sound goes = refl
share_goes s caller its_file verdict (deed.Create args) owner file sound goes = refl
share_goes s caller its_file verdict (deed.GetAttr _) owner file sound goes = refl
share_goes s caller its_file verdict (deed.Lock args) owner file sound goes =
    ap (λ word. share_in owner file (opens_after word s.opens)) (lock_keeps (look s) caller its_file args (lock_value s args)).opens
share_goes s caller its_file verdict (deed.LockTest _) owner file sound goes = refl
share_goes s caller its_file verdict (deed.Lookup _) owner file sound goes = refl
share_goes s caller its_file verdict deed.LookupP owner file sound goes = refl
share_goes s None its_file verdict (deed.Open args) owner file sound goes = cc
share_goes s (Some party) its_file verdict (deed.Open args) owner file sound goes =
    ap (λ r. share_in owner file (put_open r s.opens))
    (same_row s.last s.opens (opener party args) (file_to_open s its_file args) args.access args.deny sound.rising (open_of (opener party args) (file_to_open s its_file args) s.opens) refl)
    ∙ share-put s.last s.opens (opener party args) (file_to_open s its_file args) args.access args.deny owner file sound.rising sound.apart
    (open_goes s party its_file args verdict goes).free
share_goes s caller its_file verdict (deed.OpenConfirm args) owner file sound goes = confirmed_share s (open_named s args.stateid) owner file sound (named_is_live s args.stateid)
share_goes s caller its_file verdict (deed.OpenDowngrade args) owner file sound goes =
    narrowed_share s args (open_named s args.stateid) owner file sound (named_is_live s args.stateid) (downgrade_goes s caller its_file args verdict goes)
share_goes s caller its_file verdict (deed.Read _) owner file sound goes = refl
share_goes s caller its_file verdict (deed.ReadDir _) owner file sound goes = refl
share_goes s caller its_file verdict (deed.ReleaseLockOwner args) owner file sound goes =
    ap (λ word. share_in owner file (opens_after word s.opens)) (release_keeps caller args.owner true).opens
share_goes s caller its_file verdict (deed.Remove args) owner file sound goes = refl
share_goes s caller its_file verdict (deed.SetAttr args) owner file sound goes = refl
share_goes s caller its_file verdict (deed.Unlock args) owner file sound goes =
    ap (λ word. share_in owner file (opens_after word s.opens)) (unlock_keeps (look s) args (changed_lock s args.stateid)).opens
share_goes s caller its_file verdict (deed.Write args) owner file sound goes = refl

-- the words of an owner have no part in it
with_share : (s : Seen) (w : Words) (word start : OwnerWord) (owner : Owner) (file : ℕ)
    → share_in owner file (after_words s (with_owners w word start)).opens ≡ share_in owner file (after_words s w).opens
unfolding after_words
with_share s w word start owner file = refl

-- the same, with the test that its status is OK
done_share : (s : Seen) (call : Call) (verdict : Verdict) (owner : Owner) (file : ℕ) → IsSound s
    → first (checks s call.caller call.file verdict call.deed) ≡ None
    → share_in owner file (after s (Asked call verdict) (reply_by s call None)).opens
    ≡ share_left (look s) owner file (Asked call verdict) (reply_by s call None) (share_in owner file s.opens)
unfolding is_done
done_share s call verdict owner file sound goes =
    ap (λ w. share_in owner file (after_words s w).opens) (words-free s call verdict goes)
    ∙ with_share s _ _ _ owner file
    ∙ share_goes s call.caller call.file verdict call.deed owner file sound goes
    ∙ rw (free_is_fresh s call verdict goes) refl

-- an event that is answered leaves of each share what it should
share-after : (s : Seen) (event : Event) (owner : Owner) (file : ℕ) → IsSound s
    → share_in owner file (after s event (answer_to s event)).opens ≡ share_left (look s) owner file event (answer_to s event) (share_in owner file s.opens)
unfolding answer_to words
share-after s (Ended party) owner file sound = ended_share s party owner file
share-after s (Asked call verdict) owner file sound =
    by_stop (first (checks s call.caller call.file verdict call.deed)) refl
  where
    by_stop : (x : Option Stop) → first (checks s call.caller call.file verdict call.deed) ≡ x
        → share_in owner file (after s (Asked call verdict) (reply_by s call x)).opens
        ≡ share_left (look s) owner file (Asked call verdict) (reply_by s call x) (share_in owner file s.opens)
    by_stop (Some (Refuse status)) refused =
        ap (λ w. share_in owner file (after_words s w).opens) (words-refused s call verdict status)
        ∙ with_share s no_words _ _ owner file
        ∙ kept_share s owner file
        ∙ sym (refused_leaves s owner file call verdict status (share_in owner file s.opens))
    by_stop (Some (Repeat kept)) repeats =
        let old = repeat_is_old s call verdict kept repeats in
        ap (λ w. share_in owner file (after_words s w).opens) (words-old (look s) call verdict kept old)
        ∙ kept_share s owner file
        ∙ sym (old_leaves (look s) owner file call verdict kept (share_in owner file s.opens) old)
    by_stop None goes = done_share s call verdict owner file sound goes

-- The table of a legal list keeps each owner's share.
pub share-seen : (fs : ℕ) (grants : Bool) (es : Past) (owner : Owner) (file : ℕ) → IsLegal fs grants es
    → share_of es owner file ≡ share_in owner file (seen fs grants es).opens
unfolding seen share_of
share-seen fs grants [] owner file legal = nothing_shared owner file
share-seen fs grants (x ∷ earlier) owner file legal =
    let s : Seen = seen fs grants earlier in
    let before : Option Share = share_in owner file s.opens in
    ap (share_left (now earlier) owner file x.event x.reply) (share-seen fs grants earlier owner file legal.1)
    ∙ ap (λ n. share_left n owner file x.event x.reply before) (sym (look-seen fs grants earlier legal.1))
    ∙ ap (λ r. share_left (look s) owner file x.event r before) legal.0
    ∙ sym (share-after s x.event owner file (sound-seen fs grants earlier legal.1))
    ∙ ap (λ r. share_in owner file (after s x.event r).opens) (sym legal.0)

peaceful : (f o c : Bool) → f ≡ true → cond f (not o && not c) true ≡ true → c ≡ false
peaceful true true c same apart = absurd (false≢true apart)
peaceful true false true same apart = absurd (false≢true apart)
peaceful true false false same apart = refl
peaceful false o c no_file apart = absurd (false≢true no_file)

-- two owners' opens of one file in a sound table don't conflict
compatible_in : (last : ℕ) (rows : List OpenRow) (owner other : Owner) (file : ℕ) → rises 0 last rows ≡ true → all_apart rows ≡ true → owner ≢ other
    → (a b : Option OpenRow) → open_of owner file rows ≡ a → open_of other file rows ≡ b → AreCompatible (option_map row_share a) (option_map row_share b)
compatible_in last rows owner other file rising apart ne None b found_a found_b = tt
compatible_in last rows owner other file rising apart ne (Some a) None found_a found_b = tt
compatible_in last rows owner other file rising apart ne (Some a) (Some b) found_a found_b =
    let in_a = open_of-in owner file rows a found_a in
    let in_b = open_of-in other file rows b found_b in
    let parts_a = and_parts (a.file == file) (same_owner owner a.owner) in_a.1 in
    let parts_b = and_parts (b.file == file) (same_owner other b.owner) in_b.1 in
    let owner_a : owner ≡ a.owner = (same_owner-Decides owner a.owner).0 parts_a.1 in
    let owner_b : other ≡ b.owner = (same_owner-Decides other b.owner).0 parts_b.1 in
    let file_a : a.file ≡ file = eqb-true a.file file parts_a.0 in
    let file_b : b.file ≡ file = eqb-true b.file file parts_b.0 in
    peaceful (a.file == b.file) (same_owner a.owner b.owner) (shares_conflict a.access a.deny b.access b.deny)
    (grind (arith, nat_tests))
    (apart_in rows a b apart in_a.0 in_b.0 (λ e. ne (one_owner a b owner_a owner_b in_a.0 in_b.0 e)))
  where
    one_owner : (a b : OpenRow) → owner ≡ a.owner → other ≡ b.owner → IsIn a rows → IsIn b rows → a.counter ≡ b.counter → owner ≡ other
    one_owner a b owner_a owner_b at_a at_b e =
        let found_a : open_at a.counter rows ≡ Some a = (in-open_at 0 last rows a rising at_a).0 in
        let found_b : open_at a.counter rows ≡ Some b = rw e (in-open_at 0 last rows b rising at_b).0 in
        let same : a ≡ b = cc in
        owner_a ∙ ap (λ (r : OpenRow). r.owner) same ∙ sym owner_b

-- No two owners hold conflicting shares of a file.
pub shares_are_compatible : (fs : ℕ) (grants : Bool) (es : Past) (owner other : Owner) (file : ℕ) → IsLegal fs grants es → owner ≢ other
    → AreCompatible (share_of es owner file) (share_of es other file)
shares_are_compatible fs grants es owner other file legal ne =
    let s : Seen = seen fs grants es in
    let sound : IsSound s = sound-seen fs grants es legal in
    let compatible : AreCompatible (share_in owner file s.opens) (share_in other file s.opens) =
    compatible_in s.last s.opens owner other file sound.rising sound.apart ne (open_of owner file s.opens) (open_of other file s.opens) refl refl in
    subst (λ o. AreCompatible o (share_of es other file)) (sym (share-seen fs grants es owner file legal))
    (subst (λ o. AreCompatible (share_in owner file s.opens) o) (sym (share-seen fs grants es other file legal)) compatible)
