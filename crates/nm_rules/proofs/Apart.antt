-- Rows of one table that stand together: of one file they have different owners, whose shares don't conflict.
use Rattle.std.proofs.Common.{◌≡◌, ◌≢◌, ◌<◌, ℕ, Bool, true, false, cond, List, [], ◌∷◌, Option, Some, None, refl, ap, sym, ◌∙◌, inl, inr, arith, eqb-true}
use Rattle.std.proofs.lemmas.Bool.{eqb-false, or_parts, and_from, and_parts, or_from}
use Rattle.std.proofs.lemmas.Bool.{false≢true}
use Rattle.std.proofs.Math.Bool.{or_comm}
use Rattle.std.proofs.lemmas.Nat.{and_or_apart, and_comm}
use Rattle.std.specs.Prelude.{◌==◌, ◌&&◌, ◌||◌, not, find, filter, nat_lt, bit_and, bit_or}
use Rattle.std.specs.List.{list_all, list_any}
use Rattle.std.proofs.lemmas.Bool.Decides.{nat_tests}
use Rattle.nm_types.specs.Owners.{same_owner}
use Rattle.nm_rules.specs.Shares.{meets, shares_conflict, opposes, is_opposed, is_open_of, open_of, opened_row, renewed_row, narrowed_row, put_open}
use Rattle.nm_rules.specs.Sound.{rises, are_apart, all_apart}
use Rattle.nm_types.specs.declared.calls.Owner.{Owner}
use Rattle.nm_types.specs.declared.rows.OpenRow.{OpenRow}
use Rattle.nm_rules.proofs.OwnerLemmas.{same_owner-sym, same_owner-Decides}
use Rattle.nm_rules.proofs.OpenRows.{IsIn, in-open_at, in-filter}

-- A test that holds of all rows holds of each, and the other way round.
pub all_in : (p : OpenRow → Bool) (rows : List OpenRow) (x : OpenRow) → list_all p rows ≡ true → IsIn x rows → p x ≡ true
all_in p [] x all none = absurd none
all_in p (y ∷ ys) x all (inl here) = ap p here ∙ (and_parts (p y) (list_all p ys) all).0
all_in p (y ∷ ys) x all (inr there) = all_in p ys x (and_parts (p y) (list_all p ys) all).1 there

pub all_from : (p : OpenRow → Bool) (rows : List OpenRow) → ((x : OpenRow) → IsIn x rows → p x ≡ true) → list_all p rows ≡ true
all_from p [] each = refl
all_from p (y ∷ ys) each = and_from (p y) (list_all p ys) (each y (inl refl)) (all_from p ys (λ x within. each x (inr within)))

-- a test that holds of no row holds of none of them
pub none_in : (p : OpenRow → Bool) (rows : List OpenRow) (x : OpenRow) → list_any p rows ≡ false → IsIn x rows → p x ≡ false
none_in p [] x none absent = absurd absent
none_in p (y ∷ ys) x none within = by_head (p y) refl none within (none_in p ys x)
  where
    by_head : (b : Bool) → p y ≡ b → (b || list_any p ys) ≡ false → IsIn x (y ∷ ys) → (list_any p ys ≡ false → IsIn x ys → p x ≡ false) → p x ≡ false
    by_head true holds never at later = absurd (false≢true (sym never))
    by_head false fails rest (inl here) later = ap p here ∙ fails
    by_head false fails rest (inr there) later = later rest there

pub are_apart-sym : (a b : OpenRow) → are_apart a b ≡ are_apart b a
are_apart-sym a b = rw (same_owner-sym a.owner b.owner, or_comm (meets a.access b.deny) (meets b.access a.deny)) (by_file (a.file == b.file) (b.file == a.file) (same_test a.file b.file))
  where
    same_test : (m n : ℕ) → (m == n) ≡ (n == m)
    same_test m n = grind (arith, nat_tests)

    rest : Bool
    rest = not (same_owner b.owner a.owner) && not (meets b.access a.deny || meets a.access b.deny)

    by_file : (c d : Bool) → c ≡ d → cond c rest true ≡ cond d rest true
    by_file c d e = ap (λ x. cond x rest true) e

-- two rows of a table, of different counters, are apart
pub apart_in : (rows : List OpenRow) (a b : OpenRow) → all_apart rows ≡ true → IsIn a rows → IsIn b rows → a.counter ≢ b.counter → are_apart a b ≡ true
apart_in [] a b all none at ne = absurd none
apart_in (y ∷ ys) a b all (inl here) (inl there) ne = absurd (ne (ap (λ (r : OpenRow). r.counter) (here ∙ sym there)))
apart_in (y ∷ ys) a b all (inl here) (inr there) ne =
    ap (λ r. are_apart r b) here ∙ all_in (are_apart y) ys b (and_parts (list_all (are_apart y) ys) (all_apart ys) all).0 there
apart_in (y ∷ ys) a b all (inr there) (inl here) ne =
    are_apart-sym a b ∙ ap (λ r. are_apart r a) here ∙ all_in (are_apart y) ys a (and_parts (list_all (are_apart y) ys) (all_apart ys) all).0 there
apart_in (y ∷ ys) a b all (inr at_a) (inr at_b) ne = apart_in ys a b (and_parts (list_all (are_apart y) ys) (all_apart ys) all).1 at_a at_b ne

-- what a filter leaves is still apart
pub all_apart-filter : (p : OpenRow → Bool) (rows : List OpenRow) → all_apart rows ≡ true → all_apart (filter p rows) ≡ true
all_apart-filter p [] all = refl
all_apart-filter p (y ∷ ys) all = by_head (p y) (all_apart-filter p ys (and_parts (list_all (are_apart y) ys) (all_apart ys) all).1)
  where
    by_head : (b : Bool) → all_apart (filter p ys) ≡ true → all_apart (cond b (y ∷ filter p ys) (filter p ys)) ≡ true
    by_head true later = and_from (list_all (are_apart y) (filter p ys)) (all_apart (filter p ys))
        (all_from (are_apart y) (filter p ys) (λ x within. all_in (are_apart y) ys x (and_parts (list_all (are_apart y) ys) (all_apart ys) all).0 (in-filter p ys x within).0))
        later
    by_head false later = later

-- the row is apart from each of the others
abbrev pub Suits : OpenRow → List OpenRow → Type 0
Suits row rows = (x : OpenRow) → IsIn x rows → x.counter ≢ row.counter → are_apart row x ≡ true

-- what holds of all rows and of the row that is put holds of all after it
pub all_put : (p : OpenRow → Bool) (row : OpenRow) (rows : List OpenRow) → list_all p rows ≡ true → p row ≡ true → list_all p (put_open row rows) ≡ true
all_put p row [] all it = and_from (p row) true it refl
all_put p row (y ∷ ys) all it = by_head (y.counter == row.counter)
    (all_put p row ys (and_parts (p y) (list_all p ys) all).1 it)
  where
    by_head : (b : Bool) → list_all p (put_open row ys) ≡ true → list_all p (cond b (row ∷ ys) (y ∷ put_open row ys)) ≡ true
    by_head true later = and_from (p row) (list_all p ys) it (and_parts (p y) (list_all p ys) all).1
    by_head false later = and_from (p y) (list_all p (put_open row ys)) (and_parts (p y) (list_all p ys) all).0 later

-- A put of a row that is apart from the others leaves all apart.
pub all_apart-put : (above last : ℕ) (row : OpenRow) (rows : List OpenRow) → rises above last rows ≡ true → all_apart rows ≡ true → Suits row rows → all_apart (put_open row rows) ≡ true
all_apart-put above last row [] rising all suits = refl
all_apart-put above last row (y ∷ ys) rising all suits =
    by_head (y.counter == row.counter) refl
    (all_apart-put y.counter last row ys (and_parts (nat_lt above y.counter) (rises y.counter last ys) rising).1 (and_parts (list_all (are_apart y) ys) (all_apart ys) all).1 (λ x within ne. suits x (inr within) ne))
  where
    later_counter : (x : OpenRow) → IsIn x ys → y.counter < x.counter
    later_counter x within = (in-open_at y.counter last ys x (and_parts (nat_lt above y.counter) (rises y.counter last ys) rising).1 within).1

    by_head : (b : Bool) → (y.counter == row.counter) ≡ b → all_apart (put_open row ys) ≡ true → all_apart (cond b (row ∷ ys) (y ∷ put_open row ys)) ≡ true
    by_head true same later = and_from (list_all (are_apart row) ys) (all_apart ys)
        (all_from (are_apart row) ys (λ x within. suits x (inr within) (λ e. let past : y.counter < x.counter = later_counter x within in absurd (omega (arith, e, eqb-true y.counter row.counter same)))))
        (and_parts (list_all (are_apart y) ys) (all_apart ys) all).1
    by_head false other later = and_from (list_all (are_apart y) (put_open row ys)) (all_apart (put_open row ys))
        (all_put (are_apart y) row ys (and_parts (list_all (are_apart y) ys) (all_apart ys) all).0
        (are_apart-sym y row ∙ suits y (inl refl) (eqb-false y.counter row.counter other)))
        later

-- where the owner has no open of the file, no row is one
pub open_of-none : (owner : Owner) (file : ℕ) (rows : List OpenRow) (x : OpenRow) → open_of owner file rows ≡ None → IsIn x rows → is_open_of owner file x ≡ false
unfolding open_of
open_of-none owner file [] x none absent = absurd absent
open_of-none owner file (y ∷ ys) x none within = by_head (is_open_of owner file y) refl none within (open_of-none owner file ys x)
  where
    by_head : (b : Bool) → is_open_of owner file y ≡ b → cond b (Some y) (find (is_open_of owner file) ys) ≡ None → IsIn x (y ∷ ys)
        → (find (is_open_of owner file) ys ≡ None → IsIn x ys → is_open_of owner file x ≡ false) → is_open_of owner file x ≡ false
    by_head true it found at later = cc
    by_head false not_it rest (inl here) later = ap (is_open_of owner file) here ∙ not_it
    by_head false not_it rest (inr there) later = later rest there

-- the owner's open is a row of the table, of that owner and file
pub open_of-in : (owner : Owner) (file : ℕ) (rows : List OpenRow) (row : OpenRow) → open_of owner file rows ≡ Some row → IsIn row rows × (is_open_of owner file row ≡ true)
unfolding open_of
open_of-in owner file [] row found = cc
open_of-in owner file (y ∷ ys) row found = by_head (is_open_of owner file y) refl found (open_of-in owner file ys row)
  where
    by_head : (b : Bool) → is_open_of owner file y ≡ b → cond b (Some y) (find (is_open_of owner file) ys) ≡ Some row
        → (find (is_open_of owner file) ys ≡ Some row → IsIn row ys × (is_open_of owner file row ≡ true)) → IsIn row (y ∷ ys) × (is_open_of owner file row ≡ true)
    by_head true it this later = (inl cc, cc)
    by_head false not_it rest later = (inr (later rest).0, (later rest).1)

meets_apart : (n : ℕ) → not (n == 0) ≡ false → n ≡ 0
meets_apart n h = grind (arith, nat_tests)

apart_meets : (n : ℕ) → n ≡ 0 → not (n == 0) ≡ false
apart_meets n h = grind (arith, nat_tests)

-- Two shares that each don't conflict with a third don't conflict with it together.
meets-or : (a b deny : ℕ) → meets a deny ≡ false → meets b deny ≡ false → meets (bit_or a b) deny ≡ false
meets-or a b deny first second =
    apart_meets _ (and_or_apart deny a b (meets_apart (bit_and b deny) second) ∙ meets_apart (bit_and a deny) first)

meets_either : (a b access : ℕ) → meets access a ≡ false → meets access b ≡ false → meets access (bit_or a b) ≡ false
meets_either a b access first second =
    ap (λ n. not (n == 0)) (and_comm access (bit_or a b))
    ∙ meets-or a b access (ap (λ n. not (n == 0)) (and_comm a access) ∙ first) (ap (λ n. not (n == 0)) (and_comm b access) ∙ second)

pub joined_apart : (access deny more more_deny its_access its_deny : ℕ)
    → shares_conflict access deny its_access its_deny ≡ false → shares_conflict more more_deny its_access its_deny ≡ false
    → shares_conflict (bit_or access more) (bit_or deny more_deny) its_access its_deny ≡ false
joined_apart access deny more more_deny its_access its_deny first second =
    let a = or_parts (meets access its_deny) (meets its_access deny) first in
    let b = or_parts (meets more its_deny) (meets its_access more_deny) second in
    or_from (meets (bit_or access more) its_deny) (meets its_access (bit_or deny more_deny))
    (meets-or access more its_deny a.0 b.0) (meets_either deny more_deny its_access a.1 b.1)

pub same_test : (m n : ℕ) → (m == n) ≡ (n == m)
same_test m n = grind (arith, nat_tests)

new_apart : (f g o c : Bool) → f ≡ g → ((g && not o) && c) ≡ false → (g && o) ≡ false → cond f (not o && not c) true ≡ true
new_apart false g o c e free none = refl
new_apart true false o c e free none = absurd (false≢true (sym e))
new_apart true true true c e free none = absurd (false≢true (sym none))
new_apart true true false true e free none = absurd (false≢true (sym free))
new_apart true true false false e free none = refl

further_apart : (f o old new all : Bool) → cond f (not o && not old) true ≡ true → ((f && not o) && new) ≡ false
    → (old ≡ false → new ≡ false → all ≡ false) → cond f (not o && not all) true ≡ true
further_apart false o old new all apart free joined = refl
further_apart true true old new all apart free joined = absurd (false≢true apart)
further_apart true false true new all apart free joined = absurd (false≢true apart)
further_apart true false false true all apart free joined = absurd (false≢true (sym free))
further_apart true false false false all apart free joined = rw (joined refl refl) refl

-- An OPEN that no row opposes leaves a row that suits the others.
pub opened_suits : (owner : Owner) (file counter access deny : ℕ) (rows : List OpenRow) → all_apart rows ≡ true
    → is_opposed owner file access deny rows ≡ false
    → Suits (opened_row (open_of owner file rows) counter file owner access deny) rows
unfolding is_opposed opened_row
opened_suits owner file counter access deny rows all free = by_open (open_of owner file rows) refl
  where
    by_open : (o : Option OpenRow) → open_of owner file rows ≡ o → Suits (opened_row o counter file owner access deny) rows
    by_open None none x within ne =
        new_apart (file == x.file) (x.file == file) (same_owner owner x.owner) (shares_conflict access deny x.access x.deny) (same_test file x.file)
        (none_in (opposes owner file access deny) rows x free within)
        (open_of-none owner file rows x none within)
    by_open (Some row) found x within ne =
        let its = open_of-in owner file rows row found in
        let parts = and_parts (row.file == file) (same_owner owner row.owner) its.1 in
        let of_file : row.file ≡ file = eqb-true row.file file parts.0 in
        let of_owner : owner ≡ row.owner = (same_owner-Decides owner row.owner).0 parts.1 in
        let unopposed : (((row.file == x.file) && not (same_owner row.owner x.owner)) && shares_conflict access deny x.access x.deny) ≡ false =
        rw (of_file, same_test file x.file, ← of_owner) (none_in (opposes owner file access deny) rows x free within) in
        further_apart (row.file == x.file) (same_owner row.owner x.owner)
        (shares_conflict row.access row.deny x.access x.deny) (shares_conflict access deny x.access x.deny)
        (shares_conflict (bit_or row.access access) (bit_or row.deny deny) x.access x.deny)
        (apart_in rows row x all its.0 within (λ e. ne (sym e)))
        unopposed
        (λ old new. joined_apart row.access row.deny access deny x.access x.deny old new)

-- ---- a live open that keeps its owner and file, with no more of a share

-- all that a part has the whole has too, so what the whole doesn't meet the part doesn't
part_meets : (part whole deny : ℕ) → (bit_or part whole == whole) ≡ true → meets whole deny ≡ false → meets part deny ≡ false
part_meets part whole deny within apart =
    apart_meets _ (sym (and_or_apart deny part whole (meets_apart _ apart))
    ∙ ap (λ n. bit_and n deny) (eqb-true (bit_or part whole) whole within)
    ∙ meets_apart _ apart)

meets_part : (part whole access : ℕ) → (bit_or part whole == whole) ≡ true → meets access whole ≡ false → meets access part ≡ false
meets_part part whole access within apart =
    ap (λ n. not (n == 0)) (and_comm access part)
    ∙ part_meets part whole access within (ap (λ n. not (n == 0)) (and_comm whole access) ∙ apart)

pub renewed_suits : (row : OpenRow) (rows : List OpenRow) → all_apart rows ≡ true → IsIn row rows → Suits (renewed_row row) rows
renewed_suits row rows all at x within ne = apart_in rows row x all at within (λ e. ne (sym e))

less_apart : (f o whole part : Bool) → cond f (not o && not whole) true ≡ true → (whole ≡ false → part ≡ false) → cond f (not o && not part) true ≡ true
less_apart false o whole part apart less = refl
less_apart true true whole part apart less = absurd (false≢true apart)
less_apart true false true part apart less = absurd (false≢true apart)
less_apart true false false part apart less = rw (less refl) refl

pub narrowed_suits : (row : OpenRow) (access deny : ℕ) (rows : List OpenRow) → all_apart rows ≡ true → IsIn row rows
    → (bit_or access row.access == row.access) ≡ true → (bit_or deny row.deny == row.deny) ≡ true → Suits (narrowed_row access deny row) rows
narrowed_suits row access deny rows all at less_access less_deny x within ne =
    less_apart (row.file == x.file) (same_owner row.owner x.owner)
    (shares_conflict row.access row.deny x.access x.deny) (shares_conflict access deny x.access x.deny)
    (apart_in rows row x all at within (λ e. ne (sym e)))
    (λ apart.
    let parts = or_parts (meets row.access x.deny) (meets x.access row.deny) apart in
    or_from (meets access x.deny) (meets x.access deny)
    (part_meets access row.access x.deny less_access parts.0)
    (meets_part deny row.deny x.access less_deny parts.1))
