-- Laws of the stateids of locks: look-ups by owner and file after each word, and rising counters.
use Rattle.std.proofs.Common.{◌≡◌, ◌<◌, ◌≤◌, eqb-true, ℕ, ◌+◌, Bool, true, false, cond, List, [], ◌∷◌, Option, Some, None, refl, ap, sym, subst, ◌∙◌, arith}
use Rattle.std.proofs.lemmas.Bool.{false≢true, true≢false, both_ways, not-true, and_parts}
use Rattle.std.specs.Prelude.{◌==◌, ◌&&◌, ◌||◌, not, filter, find, nat_lt}
use Rattle.std.specs.List.{list_all, list_any}
use Rattle.std.proofs.lemmas.Bool.Decides.{nat_tests}
use Rattle.std.proofs.Math.Bool.{or-false}
use Rattle.nm_types.specs.Owners.{same_owner}
use Rattle.nm_rules.specs.LockRows.{lock_at, lock_of, is_lock_of, put_lock, locks_rise, differ, all_differ, is_on, is_lock_on}
use Rattle.nm_types.specs.declared.calls.Owner.{Owner}
use Rattle.nm_types.specs.declared.rows.LockRow.{LockRow}
use Rattle.nm_rules.proofs.OwnerLemmas.{same_owner-Decides, same_owner-sym}

-- ---- counters

-- Rows that rise above a number up to another one: the first is at most the second.
pub locks_rise-le : (above last : ℕ) (rows : List LockRow) → locks_rise above last rows ≡ true → above ≤ last
locks_rise-le above last [] rising = grind (arith, nat_tests)
locks_rise-le above last (row ∷ rows) rising = grind (arith, nat_tests, locks_rise-le row.counter last rows)

-- Above the greatest counter there is no row.
pub lock_at-counter : (k : ℕ) (rows : List LockRow) (row : LockRow) → lock_at k rows ≡ Some row → row.counter ≡ k
unfolding lock_at
lock_at-counter k [] row found = cc
lock_at-counter k (x ∷ xs) row found = by_test (x.counter == k) refl found (lock_at-counter k xs row)
  where
    by_test : (b : Bool) → (x.counter == k) ≡ b → cond b (Some x) (find (λ r. r.counter == k) xs) ≡ Some row
        → (find (λ r. r.counter == k) xs ≡ Some row → row.counter ≡ k) → row.counter ≡ k
    by_test true same here later = ap (λ (r : LockRow). r.counter) (sym (some_same here)) ∙ eqb-true x.counter k same
      where
        some_same : {a b : LockRow} → Some a ≡ Some b → a ≡ b
        some_same e = cc
    by_test false other there later = later there

pub lock_at-past : (above last : ℕ) (rows : List LockRow) (k : ℕ) → locks_rise above last rows ≡ true → last < k → lock_at k rows ≡ None
unfolding lock_at
lock_at-past above last [] k rising past = refl
lock_at-past above last (row ∷ rows) k rising past = grind (arith, nat_tests, locks_rise-le row.counter last rows, lock_at-past row.counter last rows k)

pub locks_rise-lower : (low above last : ℕ) (rows : List LockRow) → low ≤ above → locks_rise above last rows ≡ true → locks_rise low last rows ≡ true
locks_rise-lower low above last [] le rising = grind (arith, nat_tests)
locks_rise-lower low above last (row ∷ rows) le rising = grind (arith, nat_tests)

-- A greater end does for the same rows.
pub locks_rise-later : (above last later : ℕ) (rows : List LockRow) → last ≤ later → locks_rise above last rows ≡ true → locks_rise above later rows ≡ true
locks_rise-later above last later [] le rising = grind (arith, nat_tests)
locks_rise-later above last later (row ∷ rows) le rising = grind (arith, nat_tests, locks_rise-later row.counter last later rows)

-- What a filter leaves still rises.
pub locks_rise-filter : (p : LockRow → Bool) (above last : ℕ) (rows : List LockRow) → locks_rise above last rows ≡ true → locks_rise above last (filter p rows) ≡ true
locks_rise-filter p above last [] rising = rising
locks_rise-filter p above last (row ∷ rows) rising = at_head (p row) (locks_rise-filter p row.counter last rows (and_parts _ _ rising).1)
  where
    at_head : (b : Bool) → locks_rise row.counter last (filter p rows) ≡ true → locks_rise above last (cond b (row ∷ filter p rows) (filter p rows)) ≡ true
    at_head true later = grind (arith, nat_tests)
    at_head false later = locks_rise-lower above row.counter last (filter p rows) (grind (arith, nat_tests)) later

-- A put of a new counter, past the last, comes behind all others.
pub locks_rise-put_new : (above last : ℕ) (rows : List LockRow) (row : LockRow) → locks_rise above last rows ≡ true → row.counter ≡ last + 1
    → locks_rise above (last + 1) (put_lock row rows) ≡ true
locks_rise-put_new above last [] row rising new = grind (arith, nat_tests)
locks_rise-put_new above last (x ∷ xs) row rising new = grind (arith, nat_tests, locks_rise-le x.counter last xs, locks_rise-put_new x.counter last xs row)

-- A put of a counter that is there keeps it.
pub locks_rise-put_old : (above last : ℕ) (rows : List LockRow) (row old : LockRow) → locks_rise above last rows ≡ true → lock_at row.counter rows ≡ Some old
    → locks_rise above last (put_lock row rows) ≡ true
unfolding lock_at
locks_rise-put_old above last [] row old rising found = cc
locks_rise-put_old above last (x ∷ xs) row old rising found = grind (arith, nat_tests, locks_rise-put_old x.counter last xs row old)

-- ---- owners

-- The row may be put among these: of its counter there is none but one of its owner on its file, and its owner has no other there.
abbrev pub fit_by : Bool → Bool → Bool
fit_by true its = its
fit_by false its = not its

abbrev pub fits : LockRow → LockRow → Bool
fits row x = fit_by (x.counter == row.counter) (is_lock_of row.owner row.file x)

-- A new counter of an owner that has none on the file fits.
pub fits-new : (above last : ℕ) (rows : List LockRow) (row : LockRow) → locks_rise above last rows ≡ true → last < row.counter
    → lock_of row.owner row.file rows ≡ None → list_all (fits row) rows ≡ true
unfolding lock_of
fits-new above last [] row rising new none = refl
fits-new above last (x ∷ xs) row rising new none =
    by_tests (x.counter == row.counter) (is_lock_of row.owner row.file x) refl none
    (locks_rise-le x.counter last xs (and_parts (nat_lt above x.counter) (locks_rise x.counter last xs) rising).1)
    (fits-new x.counter last xs row (and_parts (nat_lt above x.counter) (locks_rise x.counter last xs) rising).1 new)
  where
    by_tests : (b c : Bool) → (x.counter == row.counter) ≡ b → cond c (Some x) (find (is_lock_of row.owner row.file) xs) ≡ None → x.counter ≤ last
        → (find (is_lock_of row.owner row.file) xs ≡ None → list_all (fits row) xs ≡ true) → (fit_by b c && list_all (fits row) xs) ≡ true
    by_tests true c same none within later = absurd (omega (arith, eqb-true x.counter row.counter same, new))
    by_tests false true other none within later = cc
    by_tests false false other none within later = later none

-- Where the counters rise above that of a row, and the others differ from it, the row fits among those.
fits-behind : (above last : ℕ) (rows : List LockRow) (row old : LockRow) → locks_rise above last rows ≡ true → row.counter ≤ above
    → list_all (differ old) rows ≡ true → old.file ≡ row.file → old.owner ≡ row.owner → list_all (fits row) rows ≡ true
fits-behind above last [] row old rising low apart file owner = refl
fits-behind above last (x ∷ xs) row old rising low apart file owner =
    by_tests (x.counter == row.counter) refl (and_parts (differ old x) (list_all (differ old) xs) apart).0
    (fits-behind x.counter last xs row old (and_parts (nat_lt above x.counter) (locks_rise x.counter last xs) rising).1
    (grind (arith, nat_tests)) (and_parts (differ old x) (list_all (differ old) xs) apart).1 file owner)
  where
    not_its : (c d e : Bool) → (old.file == x.file) ≡ e → (x.file == row.file) ≡ c → same_owner row.owner x.owner ≡ d → cond e (not (same_owner old.owner x.owner)) true ≡ true → (c && d) ≡ false
    not_its true true true at_old at_row its differs = absurd (false≢true (sym (ap not (ap (λ o. same_owner o x.owner) owner ∙ its)) ∙ differs))
    not_its true true false at_old at_row its differs = absurd (grind (arith, nat_tests))
    not_its true false e at_old at_row its differs = refl
    not_its false d e at_old at_row its differs = refl

    by_tests : (b : Bool) → (x.counter == row.counter) ≡ b → differ old x ≡ true → list_all (fits row) xs ≡ true
        → (fit_by b (is_lock_of row.owner row.file x) && list_all (fits row) xs) ≡ true
    by_tests true same differs later = absurd (grind (arith, nat_tests))
    by_tests false other differs later =
        rw (not_its (x.file == row.file) (same_owner row.owner x.owner) (old.file == x.file) refl refl refl differs, later) refl

pub same_number : (m n : ℕ) → m ≡ n → (m == n) ≡ true
same_number m n e = grind (arith, nat_tests)

pub other_number : (m n : ℕ) → m < n → (m == n) ≡ false
other_number m n lt = grind (arith, nat_tests)

pub some_is : {A : Type 0} {a b : A} → Some a ≡ Some b → a ≡ b
some_is e = cc

-- x is the owner's of the row, on its file; so who has x has the row, and the other way round
pub lock_parts : (owner : Owner) (file : ℕ) (x : LockRow) → is_lock_of owner file x ≡ true → (x.file ≡ file) × (owner ≡ x.owner)
lock_parts owner file x its =
    let parts = and_parts (x.file == file) (same_owner owner x.owner) its in
    (eqb-true x.file file parts.0, (same_owner-Decides owner x.owner).0 parts.1)

pub lock_is : (owner : Owner) (file : ℕ) (x : LockRow) → x.file ≡ file → owner ≡ x.owner → is_lock_of owner file x ≡ true
lock_is owner file x at its = rw (same_number x.file file at, (same_owner-Decides owner x.owner).1 its) refl

pub of_same : (owner : Owner) (file : ℕ) (row x : LockRow) → is_lock_of row.owner row.file x ≡ true → is_lock_of owner file x ≡ true → is_lock_of owner file row ≡ true
of_same owner file row x fit its =
    let one = lock_parts row.owner row.file x fit in
    let two = lock_parts owner file x its in
    lock_is owner file row (sym one.0 ∙ two.0) (two.1 ∙ sym one.1)

pub of_both : (owner : Owner) (file : ℕ) (row x : LockRow) → is_lock_of owner file row ≡ true → is_lock_of owner file x ≡ true → is_lock_of row.owner row.file x ≡ true
of_both owner file row x is_row its =
    let one = lock_parts owner file row is_row in
    let two = lock_parts owner file x its in
    lock_is row.owner row.file x (two.0 ∙ sym one.0) (sym one.1 ∙ two.1)

-- what a put leaves for an owner on a file
pub lock_of-put : (row : LockRow) (rows : List LockRow) (owner : Owner) (file : ℕ) → list_all (fits row) rows ≡ true
    → lock_of owner file (put_lock row rows) ≡ cond (is_lock_of owner file row) (Some row) (lock_of owner file rows)
unfolding lock_of
lock_of-put row [] owner file fit = refl
lock_of-put row (x ∷ xs) owner file fit =
    by_tests (x.counter == row.counter) (is_lock_of owner file x) (is_lock_of owner file row) refl refl refl
    (and_parts (fits row x) (list_all (fits row) xs) fit).0
    (lock_of-put row xs owner file (and_parts (fits row x) (list_all (fits row) xs) fit).1)
  where
    by_tests : (b c d : Bool) → (x.counter == row.counter) ≡ b → is_lock_of owner file x ≡ c → is_lock_of owner file row ≡ d
        → fit_by (x.counter == row.counter) (is_lock_of row.owner row.file x) ≡ true
        → find (is_lock_of owner file) (put_lock row xs) ≡ cond (is_lock_of owner file row) (Some row) (find (is_lock_of owner file) xs)
        → find (is_lock_of owner file) (cond b (row ∷ xs) (x ∷ put_lock row xs)) ≡ cond d (Some row) (cond c (Some x) (find (is_lock_of owner file) xs))
    by_tests true c true same its is_row fit later = rw is_row refl
    by_tests true true false same its is_row fit later = absurd (both_ways (is_lock_of owner file row) is_row (of_same owner file row x (subst (λ e. fit_by e (is_lock_of row.owner row.file x) ≡ true) same fit) its))
    by_tests true false false same its is_row fit later = rw is_row refl
    by_tests false true true other its is_row fit later = absurd (both_ways (is_lock_of row.owner row.file x) (not-true (is_lock_of row.owner row.file x) (subst (λ e. fit_by e (is_lock_of row.owner row.file x) ≡ true) other fit)) (of_both owner file row x is_row its))
    by_tests false true false other its is_row fit later = rw its refl
    by_tests false false true other its is_row fit later = rw its (later ∙ rw is_row refl)
    by_tests false false false other its is_row fit later = rw its (later ∙ rw is_row refl)

-- What a filter leaves for an owner on a file: its stateid, where it stays.
abbrev pub kept_by : (LockRow → Bool) → Option LockRow → Option LockRow
kept_by p None = None
kept_by p (Some x) = cond (p x) (Some x) None

none_other : (owner : Owner) (file : ℕ) (x : LockRow) (rows : List LockRow) → is_lock_of owner file x ≡ true → list_all (differ x) rows ≡ true
    → find (is_lock_of owner file) rows ≡ None
none_other owner file x [] its apart = refl
none_other owner file x (y ∷ ys) its apart =
    by_test (is_lock_of owner file y) refl (and_parts (differ x y) (list_all (differ x) ys) apart).0
    (none_other owner file x ys its (and_parts (differ x y) (list_all (differ x) ys) apart).1)
  where
    both_of : is_lock_of owner file y ≡ true → differ x y ≡ false
    both_of its_too =
        let one = lock_parts owner file x its in
        let two = lock_parts owner file y its_too in
        rw (same_number x.file y.file (one.0 ∙ sym two.0), (same_owner-Decides x.owner y.owner).1 (sym one.1 ∙ two.1)) refl

    by_test : (b : Bool) → is_lock_of owner file y ≡ b → differ x y ≡ true → find (is_lock_of owner file) ys ≡ None
        → cond b (Some y) (find (is_lock_of owner file) ys) ≡ None
    by_test true its_too differs later = absurd (both_ways (differ x y) (both_of its_too) differs)
    by_test false not_its differs later = later

pub lock_of-filter : (p : LockRow → Bool) (owner : Owner) (file : ℕ) (rows : List LockRow) → all_differ rows ≡ true
    → lock_of owner file (filter p rows) ≡ kept_by p (lock_of owner file rows)
unfolding lock_of
lock_of-filter p owner file [] apart = refl
lock_of-filter p owner file (x ∷ xs) apart =
    by_tests (p x) (is_lock_of owner file x) refl refl (lock_of-filter p owner file xs (and_parts (list_all (differ x) xs) (all_differ xs) apart).1)
  where
    by_tests : (b c : Bool) → p x ≡ b → is_lock_of owner file x ≡ c
        → find (is_lock_of owner file) (filter p xs) ≡ kept_by p (find (is_lock_of owner file) xs)
        → find (is_lock_of owner file) (cond b (x ∷ filter p xs) (filter p xs)) ≡ kept_by p (cond c (Some x) (find (is_lock_of owner file) xs))
    by_tests true true stays its later = rw (its, stays) refl
    by_tests true false stays its later = rw its later
    by_tests false true goes its later =
        later ∙ rw (none_other owner file x xs its (and_parts (list_all (differ x) xs) (all_differ xs) apart).0, goes) refl
    by_tests false false goes its later = later

-- ---- what is found

-- what is found passes the test, and is found by its counter too
pub found_at : (p : LockRow → Bool) (above last : ℕ) (rows : List LockRow) (x : LockRow) → locks_rise above last rows ≡ true → find p rows ≡ Some x
    → (p x ≡ true) × (lock_at x.counter rows ≡ Some x) × (above < x.counter)
unfolding lock_at
found_at p above last [] x rising found = cc
found_at p above last (y ∷ ys) x rising found =
    by_test (p y) refl found (found_at p y.counter last ys x (and_parts (nat_lt above y.counter) (locks_rise y.counter last ys) rising).1)
  where
    by_test : (b : Bool) → p y ≡ b → cond b (Some y) (find p ys) ≡ Some x
        → (find p ys ≡ Some x → (p x ≡ true) × (find (λ row. row.counter == x.counter) ys ≡ Some x) × (y.counter < x.counter))
        → (p x ≡ true) × (cond (y.counter == x.counter) (Some y) (find (λ row. row.counter == x.counter) ys) ≡ Some x) × (above < x.counter)
    by_test true passes here later =
        let one : y ≡ x = some_is here in
        (ap p (sym one) ∙ passes, rw (same_number y.counter x.counter (ap (λ (r : LockRow). r.counter) one)) here, grind (arith, nat_tests, ap (λ (r : LockRow). r.counter) one))
    by_test false fails there later =
        let rest = later there in
        (rest.0, rw (other_number y.counter x.counter rest.2) rest.1, grind (arith, nat_tests, rest.2))

-- the stateid of an owner on a file
pub found_of : (owner : Owner) (file above last : ℕ) (rows : List LockRow) (x : LockRow) → locks_rise above last rows ≡ true → lock_of owner file rows ≡ Some x
    → is_lock_of owner file x ≡ true
unfolding lock_of
found_of owner file above last rows x rising found = (found_at (is_lock_of owner file) above last rows x rising found).0

pub found_by : (owner : Owner) (file last : ℕ) (rows : List LockRow) (x : LockRow) → locks_rise 0 last rows ≡ true → lock_of owner file rows ≡ Some x
    → lock_at x.counter rows ≡ Some x
unfolding lock_of
found_by owner file last rows x rising found = (found_at (is_lock_of owner file) 0 last rows x rising found).1

-- rows that rise above a counter have none of that counter
pub none_at : (p : LockRow → Bool) (k above last : ℕ) (rows : List LockRow) → locks_rise above last rows ≡ true → k ≤ above
    → list_any (λ row. (row.counter == k) && p row) rows ≡ false
none_at p k above last [] rising low = refl
none_at p k above last (y ∷ ys) rising low =
    rw (later_number y.counter k (grind (arith, nat_tests)), none_at p k y.counter last ys (and_parts (nat_lt above y.counter) (locks_rise y.counter last ys) rising).1 (grind (arith, nat_tests))) refl
  where
    later_number : (m n : ℕ) → n < m → (m == n) ≡ false
    later_number m n lt = grind (arith, nat_tests)

-- a test of the stateid with a counter is that of the one which is found by it
pub any_at : (p : LockRow → Bool) (above last : ℕ) (rows : List LockRow) (x : LockRow) → locks_rise above last rows ≡ true → lock_at x.counter rows ≡ Some x
    → list_any (λ row. (row.counter == x.counter) && p row) rows ≡ p x
unfolding lock_at
any_at p above last [] x rising found = cc
any_at p above last (y ∷ ys) x rising found =
    by_test (y.counter == x.counter) refl found (any_at p y.counter last ys x (and_parts (nat_lt above y.counter) (locks_rise y.counter last ys) rising).1)
  where
    by_test : (b : Bool) → (y.counter == x.counter) ≡ b → cond b (Some y) (find (λ row. row.counter == x.counter) ys) ≡ Some x
        → (find (λ row. row.counter == x.counter) ys ≡ Some x → list_any (λ row. (row.counter == x.counter) && p row) ys ≡ p x)
        → ((b && p y) || list_any (λ row. (row.counter == x.counter) && p row) ys) ≡ p x
    by_test true same here later =
        rw (none_at p x.counter y.counter last ys (and_parts (nat_lt above y.counter) (locks_rise y.counter last ys) rising).1 (grind (arith, nat_tests, eqb-true y.counter x.counter same)))
        (or-false (p y) ∙ ap p (some_is here))
    by_test false other there later = later there

pub list_all-filter : {A : Type 0} (q p : A → Bool) (rows : List A) → list_all q rows ≡ true → list_all q (filter p rows) ≡ true
list_all-filter q p [] all = refl
list_all-filter q p (x ∷ xs) all = by_test (p x) (list_all-filter q p xs (and_parts (q x) (list_all q xs) all).1)
  where
    by_test : (b : Bool) → list_all q (filter p xs) ≡ true → list_all q (cond b (x ∷ filter p xs) (filter p xs)) ≡ true
    by_test true later = rw ((and_parts (q x) (list_all q xs) all).0, later) refl
    by_test false later = later

-- ---- puts

-- whether a stateid is on a file, after a put of one that fits
pub lock_on-put : (row : LockRow) (rows : List LockRow) (counter file : ℕ) → list_all (fits row) rows ≡ true
    → is_lock_on counter file (put_lock row rows) ≡ (is_on counter file row || is_lock_on counter file rows)
lock_on-put row [] counter file fit = refl
lock_on-put row (x ∷ xs) counter file fit =
    by_test (x.counter == row.counter) refl (and_parts (fits row x) (list_all (fits row) xs) fit).0
    (lock_on-put row xs counter file (and_parts (fits row x) (list_all (fits row) xs) fit).1)
  where
    swapped : (a b c : Bool) → (a || (b || c)) ≡ (b || (a || c))
    swapped true true c = refl
    swapped true false c = refl
    swapped false b c = refl

    twice : (a b c : Bool) → a ≡ b → (b || c) ≡ (b || (a || c))
    twice true true c e = refl
    twice false false c e = refl
    twice true false c e = absurd (true≢false e)
    twice false true c e = absurd (false≢true e)

    by_test : (b : Bool) → (x.counter == row.counter) ≡ b → fit_by (x.counter == row.counter) (is_lock_of row.owner row.file x) ≡ true
        → is_lock_on counter file (put_lock row xs) ≡ (is_on counter file row || is_lock_on counter file xs)
        → is_lock_on counter file (cond b (row ∷ xs) (x ∷ put_lock row xs)) ≡ (is_on counter file row || (is_on counter file x || is_lock_on counter file xs))
    by_test true same fit later =
        twice (is_on counter file x) (is_on counter file row) (is_lock_on counter file xs)
        (let its = lock_parts row.owner row.file x (subst (λ e. fit_by e (is_lock_of row.owner row.file x) ≡ true) same fit) in
        rw (eqb-true x.counter row.counter same, its.0) refl)
    by_test false other fit later = rw later (swapped (is_on counter file x) (is_on counter file row) (is_lock_on counter file xs))

differ-fits : (row x : LockRow) → (x.counter == row.counter) ≡ false → fits row x ≡ true → differ x row ≡ true
differ-fits row x other fit =
    rw (same_owner-sym x.owner row.owner)
    (by_tests (x.file == row.file) (same_owner row.owner x.owner) (subst (λ e. fit_by e (is_lock_of row.owner row.file x) ≡ true) other fit))
  where
    by_tests : (b c : Bool) → not (b && c) ≡ true → cond b (not c) true ≡ true
    by_tests true c h = h
    by_tests false c h = refl

pub list_all-put : (q : LockRow → Bool) (row : LockRow) (rows : List LockRow) → list_all q rows ≡ true → q row ≡ true → list_all q (put_lock row rows) ≡ true
list_all-put q row [] all it = rw it refl
list_all-put q row (x ∷ xs) all it =
    by_test (x.counter == row.counter) (list_all-put q row xs (and_parts (q x) (list_all q xs) all).1 it)
  where
    by_test : (b : Bool) → list_all q (put_lock row xs) ≡ true → list_all q (cond b (row ∷ xs) (x ∷ put_lock row xs)) ≡ true
    by_test true later = rw (it, (and_parts (q x) (list_all q xs) all).1) refl
    by_test false later = rw ((and_parts (q x) (list_all q xs) all).0, later) refl

-- after a put of a row that fits all differ
pub all_differ-put : (row : LockRow) (rows : List LockRow) → list_all (fits row) rows ≡ true → all_differ rows ≡ true → all_differ (put_lock row rows) ≡ true
all_differ-put row [] fit apart = refl
all_differ-put row (x ∷ xs) fit apart =
    by_test (x.counter == row.counter) refl (and_parts (fits row x) (list_all (fits row) xs) fit).0
    (and_parts (list_all (differ x) xs) (all_differ xs) apart).0
    (all_differ-put row xs (and_parts (fits row x) (list_all (fits row) xs) fit).1 (and_parts (list_all (differ x) xs) (all_differ xs) apart).1)
  where
    by_test : (b : Bool) → (x.counter == row.counter) ≡ b → fit_by (x.counter == row.counter) (is_lock_of row.owner row.file x) ≡ true
        → list_all (differ x) xs ≡ true → all_differ (put_lock row xs) ≡ true → all_differ (cond b (row ∷ xs) (x ∷ put_lock row xs)) ≡ true
    by_test true same fit apart_x later =
        let its = lock_parts row.owner row.file x (subst (λ e. fit_by e (is_lock_of row.owner row.file x) ≡ true) same fit) in
        rw (
          subst (λ f. list_all (λ y. cond (f == y.file) (not (same_owner row.owner y.owner)) true) xs ≡ true) its.0
              (subst (λ o. list_all (λ y. cond (x.file == y.file) (not (same_owner o y.owner)) true) xs ≡ true) (sym its.1) apart_x),
          (and_parts (list_all (differ x) xs) (all_differ xs) apart).1,
        ) refl
    by_test false other fit apart_x later =
        rw (list_all-put (differ x) row xs apart_x (differ-fits row x other fit), later) refl

pub all_differ-filter : (p : LockRow → Bool) (rows : List LockRow) → all_differ rows ≡ true → all_differ (filter p rows) ≡ true
all_differ-filter p [] apart = refl
all_differ-filter p (x ∷ xs) apart =
    by_test (p x) (all_differ-filter p xs (and_parts (list_all (differ x) xs) (all_differ xs) apart).1)
  where
    by_test : (b : Bool) → all_differ (filter p xs) ≡ true → all_differ (cond b (x ∷ filter p xs) (filter p xs)) ≡ true
    by_test true later = rw (list_all-filter (differ x) p xs (and_parts (list_all (differ x) xs) (all_differ xs) apart).0, later) refl
    by_test false later = later

-- what is found by one test and passes another is found by that one too
found_not_none : (p q : LockRow → Bool) (rows : List LockRow) (x : LockRow) → find p rows ≡ Some x → q x ≡ true → find q rows ≡ None → ⊥
found_not_none p q [] x found passes none = cc
found_not_none p q (y ∷ ys) x found passes none = by_tests (p y) (q y) refl refl found none (found_not_none p q ys x)
  where
    by_tests : (b c : Bool) → p y ≡ b → q y ≡ c → cond b (Some y) (find p ys) ≡ Some x → cond c (Some y) (find q ys) ≡ None
        → (find p ys ≡ Some x → q x ≡ true → find q ys ≡ None → ⊥) → ⊥
    by_tests b true at_p at_q here none later = cc
    by_tests true false at_p at_q here none later = both_ways (q x) (ap q (sym (some_is here)) ∙ at_q) passes
    by_tests false false at_p at_q there none later = later there passes none

-- The row of a stateid that is there, of the same owner on the same file, fits.
pub fits-known : (above last : ℕ) (rows : List LockRow) (row old : LockRow) → locks_rise above last rows ≡ true → all_differ rows ≡ true
    → lock_at row.counter rows ≡ Some old → is_lock_of row.owner row.file old ≡ true → list_all (fits row) rows ≡ true
unfolding lock_at
fits-known above last [] row old rising apart found its = refl
fits-known above last (x ∷ xs) row old rising apart found its =
    by_test (x.counter == row.counter) refl found
    (fits-known x.counter last xs row old (and_parts (nat_lt above x.counter) (locks_rise x.counter last xs) rising).1 (and_parts (list_all (differ x) xs) (all_differ xs) apart).1)
  where
    -- a later row of the counter is of the owner, so this one isn't
    not_before : find (λ y. y.counter == row.counter) xs ≡ Some old → is_lock_of row.owner row.file x ≡ false
    not_before there = by_own (is_lock_of row.owner row.file x) refl
      where
        by_own : (b : Bool) → is_lock_of row.owner row.file x ≡ b → b ≡ false
        by_own true its_too =
            absurd (found_not_none (λ y. y.counter == row.counter) (is_lock_of row.owner row.file) xs old there its
            (none_other row.owner row.file x xs its_too (and_parts (list_all (differ x) xs) (all_differ xs) apart).0))
        by_own false not_its = refl

    by_test : (b : Bool) → (x.counter == row.counter) ≡ b → cond b (Some x) (find (λ y. y.counter == row.counter) xs) ≡ Some old
        → (find (λ y. y.counter == row.counter) xs ≡ Some old → is_lock_of row.owner row.file old ≡ true → list_all (fits row) xs ≡ true)
        → (fit_by b (is_lock_of row.owner row.file x) && list_all (fits row) xs) ≡ true
    by_test true same here later =
        let one : x ≡ old = some_is here in
        let is_x : is_lock_of row.owner row.file x ≡ true = subst (λ r. is_lock_of row.owner row.file r ≡ true) (sym one) its in
        let parts = lock_parts row.owner row.file x is_x in
        rw (
          is_x,
          fits-behind x.counter last xs row x (and_parts (nat_lt above x.counter) (locks_rise x.counter last xs) rising).1
              (grind (arith, nat_tests, eqb-true x.counter row.counter same)) (and_parts (list_all (differ x) xs) (all_differ xs) apart).0 parts.0 (sym parts.1),
        ) refl
    by_test false other there later = rw (not_before there, later there its) refl
