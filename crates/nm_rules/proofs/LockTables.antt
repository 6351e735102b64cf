-- Laws of the tables of locks: what each word leaves of them, and that no two owners' locks conflict.
use Rattle.std.proofs.Common.{◌≡◌, ◌≢◌, ◌<◌, eqb-true, ℕ, ◌+◌, Bool, true, false, cond, List, [], ◌∷◌, Option, Some, None, refl, ap, sym, subst, ◌∙◌, arith}
use Rattle.std.proofs.lemmas.Bool.{false≢true, true≢false, both_ways, not-true, and_parts}
use Rattle.std.specs.Prelude.{◌==◌, ◌&&◌, ◌||◌, not, option_map, filter, map, find, is_none, nat_le}
use Rattle.std.specs.List.{list_all, list_any}
use Rattle.std.proofs.lemmas.Bool.Decides.{nat_tests}
use Rattle.nm_rules.specs.Lists.{is_empty}
use Rattle.nm_types.specs.Parties.{Party, same_party}
use Rattle.nm_types.specs.Owners.{same_owner}
use Rattle.nm_rules.specs.Locks.{kind_at, holds_byte, holds, cleared, set_to, is_inside, stands_behind, stand_behind, are_joined, none_conflict, conflicts, conflicts_with, IsJoined}
use Rattle.nm_rules.specs.LockRows.{LockWord, LocksStand, MayFollow, lock_at, lock_of, is_lock_of, ranges_on, put_file, put_ranges, held_by, lock_in, lock_left, locks_after, ranges_after, last_after, go_together, without, has_ranges, is_held_by, is_other_file, files_differ, is_on, is_lock_on, is_known, may_put, is_idle, are_idle_with, are_idle_of, put_lock, locks_rise}
use Rattle.nm_rules.specs.LockRows.LockWord.{AsIs, Claimed, Cleared, ClosedWith, Released, EndedOf}
use Rattle.nm_types.specs.declared.calls.Owner.{Owner}
use Rattle.nm_types.specs.declared.results.LockKind.{LockKind}
use Rattle.nm_types.specs.declared.rows.FileLocks.{FileLocks}
use Rattle.nm_types.specs.declared.rows.Held.{Held}
use Rattle.nm_types.specs.declared.rows.LockRow.{LockRow}
use Rattle.nm_rules.proofs.RangeApart.{free_at, none_meet, set_joined, cleared_joined}
use Rattle.nm_rules.proofs.RangeBytes.{kind_at-set, kind_at-cleared}
use Rattle.nm_rules.proofs.RangeRows.{rise_of}
use Rattle.nm_rules.proofs.LockRowLaws.{fits, fits-new, fits-known, lock_of-put, kept_by, lock_of-filter, found_at, any_at, lock_on-put, lock_parts, lock_is, of_same, of_both, fit_by, found_of, found_by, some_is, same_number, list_all-filter, all_differ-put, all_differ-filter, locks_rise-put_new, locks_rise-put_old, locks_rise-filter}

-- ---- no conflict

nothing_apart : (k : Option LockKind) → go_together k None ≡ true
nothing_apart None = refl
nothing_apart (Some kind) = refl

bytes_apart : (counter other byte : ℕ) (rows : List Held) → IsJoined rows → counter ≢ other
    → go_together (kind_at counter byte rows) (kind_at other byte rows) ≡ true
bytes_apart counter other byte rows joined differ = by_kind (kind_at counter byte rows) refl
  where
    by_other : (kind : LockKind) → kind_at counter byte rows ≡ Some kind → (o : Option LockKind) → kind_at other byte rows ≡ o → go_together (Some kind) o ≡ true
    by_other kind at None none = refl
    by_other kind at (Some its) found =
        ap not (subst (λ o. conflicts_with kind o ≡ false) found (free_at counter byte kind rows (none_meet rows joined.apart) at other (λ e. differ (sym e))))

    by_kind : (o : Option LockKind) → kind_at counter byte rows ≡ o → go_together o (kind_at other byte rows) ≡ true
    by_kind None none = refl
    by_kind (Some kind) at = by_other kind at (kind_at other byte rows) refl

-- two look-ups by different owners find different counters
pub owners-apart : (last : ℕ) (locks : List LockRow) (ranges : List FileLocks) → LocksStand last locks ranges
    → (owner other : Owner) (file byte : ℕ) → owner ≢ other
    → go_together (lock_in owner file byte locks ranges) (lock_in other file byte locks ranges) ≡ true
unfolding lock_in lock_of
owners-apart last locks ranges stand owner other file byte differ =
    by_rows (find (is_lock_of owner file) locks) (find (is_lock_of other file) locks) refl refl
  where
    by_rows : (a b : Option LockRow) → find (is_lock_of owner file) locks ≡ a → find (is_lock_of other file) locks ≡ b
        → go_together (held_by a byte (ranges_on file ranges)) (held_by b byte (ranges_on file ranges)) ≡ true
    by_rows None b none found = refl
    by_rows (Some x) None at none = nothing_apart (kind_at x.counter byte (ranges_on file ranges))
    by_rows (Some x) (Some y) at_x at_y =
        let one = found_at (is_lock_of owner file) 0 last locks x stand.rising at_x in
        let two = found_at (is_lock_of other file) 0 last locks y stand.rising at_y in
        bytes_apart x.counter y.counter byte (ranges_on file ranges) (stand.joined file) (λ e.
        differ ((lock_parts owner file x one.0).1
        ∙ ap (λ (r : LockRow). r.owner) (some_is (sym one.1 ∙ ap (λ k. lock_at k locks) e ∙ two.1))
        ∙ sym (lock_parts other file y two.0).1))

-- ---- ranges of a file

pub ranges_on-put : (file f : ℕ) (new : List Held) (ranges : List FileLocks)
    → ranges_on f (put_ranges file new ranges) ≡ cond (file == f) new (ranges_on f ranges)
unfolding put_ranges ranges_on
ranges_on-put file f [] ranges = without_file ranges
  where
    without_file : (xs : List FileLocks) → ranges_on f (filter (λ x. not (x.file == file)) xs) ≡ cond (file == f) [] (ranges_on f xs)
    without_file [] = by_test (file == f)
      where
        nothing : List Held
        nothing = []

        by_test : (b : Bool) → nothing ≡ cond b nothing nothing
        by_test true = refl
        by_test false = refl
    without_file (x ∷ xs) = by_tests (x.file == file) (x.file == f) (file == f) refl refl refl (without_file xs)
      where
        rest : List FileLocks
        rest = filter (λ y. not (y.file == file)) xs

        by_tests : (b c d : Bool) → (x.file == file) ≡ b → (x.file == f) ≡ c → (file == f) ≡ d
            → ranges_on f rest ≡ cond d [] (ranges_on f xs)
            → ranges_on f (cond (not b) (x ∷ rest) rest) ≡ cond d [] (cond c x.ranges (ranges_on f xs))
        by_tests true true true at_file at_f same later = later
        by_tests true true false at_file at_f same later = absurd (grind (arith, nat_tests))
        by_tests true false true at_file at_f same later = later
        by_tests true false false at_file at_f same later = later
        by_tests false true true at_file at_f same later = absurd (grind (arith, nat_tests))
        by_tests false true false at_file at_f same later = rw at_f refl
        by_tests false false true at_file at_f same later = rw at_f later
        by_tests false false false at_file at_f same later = rw at_f later
ranges_on-put file f (h ∷ hs) ranges = with_file ranges
  where
    with_file : (xs : List FileLocks) → ranges_on f (put_file file (h ∷ hs) xs) ≡ cond (file == f) (h ∷ hs) (ranges_on f xs)
    with_file [] = refl
    with_file (x ∷ xs) = by_tests (x.file == file) (x.file == f) (file == f) refl refl refl (with_file xs)
      where
        by_tests : (b c d : Bool) → (x.file == file) ≡ b → (x.file == f) ≡ c → (file == f) ≡ d
            → ranges_on f (put_file file (h ∷ hs) xs) ≡ cond d (h ∷ hs) (ranges_on f xs)
            → ranges_on f (cond b (record { file = file; ranges = h ∷ hs } ∷ xs) (x ∷ put_file file (h ∷ hs) xs)) ≡ cond d (h ∷ hs) (cond c x.ranges (ranges_on f xs))
        by_tests true c true at_file at_f same later = rw same refl
        by_tests true true false at_file at_f same later = absurd (grind (arith, nat_tests))
        by_tests true false false at_file at_f same later = rw same refl
        by_tests false true true at_file at_f same later = absurd (grind (arith, nat_tests))
        by_tests false true false at_file at_f same later = rw at_f refl
        by_tests false false true at_file at_f same later = rw at_f later
        by_tests false false false at_file at_f same later = rw at_f later

files_differ-filter : (p : FileLocks → Bool) (ranges : List FileLocks) → files_differ ranges ≡ true → files_differ (filter p ranges) ≡ true
files_differ-filter p [] all = refl
files_differ-filter p (x ∷ xs) all = by_test (p x) (files_differ-filter p xs (and_parts (list_all (is_other_file x.file) xs) (files_differ xs) all).1)
  where
    by_test : (b : Bool) → files_differ (filter p xs) ≡ true → files_differ (cond b (x ∷ filter p xs) (filter p xs)) ≡ true
    by_test true later = rw (list_all-filter (is_other_file x.file) p xs (and_parts (list_all (is_other_file x.file) xs) (files_differ xs) all).0, later) refl
    by_test false later = later

others-put : (k file : ℕ) (new : List Held) (ranges : List FileLocks) → list_all (is_other_file k) ranges ≡ true → (file == k) ≡ false
    → list_all (is_other_file k) (put_ranges file new ranges) ≡ true
unfolding put_ranges
others-put k file [] ranges all other = list_all-filter (is_other_file k) (λ x. not (x.file == file)) ranges all
others-put k file (h ∷ hs) ranges all other = with_file ranges all
  where
    with_file : (xs : List FileLocks) → list_all (is_other_file k) xs ≡ true → list_all (is_other_file k) (put_file file (h ∷ hs) xs) ≡ true
    with_file [] all = rw other refl
    with_file (x ∷ xs) all = by_test (x.file == file) (with_file xs (and_parts (is_other_file k x) (list_all (is_other_file k) xs) all).1)
      where
        by_test : (b : Bool) → list_all (is_other_file k) (put_file file (h ∷ hs) xs) ≡ true
            → list_all (is_other_file k) (cond b (record { file = file; ranges = h ∷ hs } ∷ xs) (x ∷ put_file file (h ∷ hs) xs)) ≡ true
        by_test true later = rw (other, (and_parts (is_other_file k x) (list_all (is_other_file k) xs) all).1) refl
        by_test false later = rw ((and_parts (is_other_file k x) (list_all (is_other_file k) xs) all).0, later) refl

files_differ-put : (file : ℕ) (new : List Held) (ranges : List FileLocks) → files_differ ranges ≡ true → files_differ (put_ranges file new ranges) ≡ true
unfolding put_ranges
files_differ-put file [] ranges all = files_differ-filter (λ x. not (x.file == file)) ranges all
files_differ-put file (h ∷ hs) ranges all = with_file ranges all
  where
    with_file : (xs : List FileLocks) → files_differ xs ≡ true → files_differ (put_file file (h ∷ hs) xs) ≡ true
    with_file [] all = refl
    with_file (x ∷ xs) all = by_test (x.file == file) refl (with_file xs (and_parts (list_all (is_other_file x.file) xs) (files_differ xs) all).1)
      where
        others : (k : ℕ) (ys : List FileLocks) → list_all (is_other_file k) ys ≡ true → (file == k) ≡ false → list_all (is_other_file k) (put_file file (h ∷ hs) ys) ≡ true
        others k ys all other = others-put k file (h ∷ hs) ys all other

        flipped : (m n : ℕ) → (m == n) ≡ false → (n == m) ≡ false
        flipped m n other = grind (arith, nat_tests)

        by_test : (b : Bool) → (x.file == file) ≡ b → files_differ (put_file file (h ∷ hs) xs) ≡ true
            → files_differ (cond b (record { file = file; ranges = h ∷ hs } ∷ xs) (x ∷ put_file file (h ∷ hs) xs)) ≡ true
        by_test true same later = subst (λ f. (list_all (is_other_file f) xs && files_differ xs) ≡ true) (eqb-true x.file file same) all
        by_test false other later =
            rw (others x.file xs (and_parts (list_all (is_other_file x.file) xs) (files_differ xs) all).0 (flipped x.file file other), later) refl

others-without : (party : Party) (locks : List LockRow) (k : ℕ) (ranges : List FileLocks)
    → list_all (is_other_file k) (map (without party locks) ranges) ≡ list_all (is_other_file k) ranges
others-without party locks k [] = refl
others-without party locks k (x ∷ xs) = rw (others-without party locks k xs) refl

files_differ-without : (party : Party) (locks : List LockRow) (ranges : List FileLocks) → files_differ (map (without party locks) ranges) ≡ files_differ ranges
files_differ-without party locks [] = refl
files_differ-without party locks (x ∷ xs) = rw (others-without party locks x.file xs, files_differ-without party locks xs) refl

-- what is left of an instance's end on a file
abbrev stays : Party → List LockRow → Held → Bool
stays party locks h = not (is_held_by party locks h.owner)

none_on : (file : ℕ) (ranges : List FileLocks) → list_all (is_other_file file) ranges ≡ true → ranges_on file ranges ≡ []
unfolding ranges_on
none_on file [] all = refl
none_on file (x ∷ xs) all = rw (not-true (x.file == file) (and_parts (is_other_file file x) (list_all (is_other_file file) xs) all).0) (none_on file xs (and_parts (is_other_file file x) (list_all (is_other_file file) xs) all).1)

ranges_on-ended : (party : Party) (locks : List LockRow) (f : ℕ) (ranges : List FileLocks) → files_differ ranges ≡ true
    → ranges_on f (filter has_ranges (map (without party locks) ranges)) ≡ filter (stays party locks) (ranges_on f ranges)
unfolding ranges_on is_empty
ranges_on-ended party locks f [] all = refl
ranges_on-ended party locks f (x ∷ xs) all =
    by_tests (x.file == f) refl (filter (stays party locks) x.ranges) refl
    (ranges_on-ended party locks f xs (and_parts (list_all (is_other_file x.file) xs) (files_differ xs) all).1)
  where
    later_rows : List FileLocks
    later_rows = filter has_ranges (map (without party locks) xs)

    no_later : x.file ≡ f → ranges_on f later_rows ≡ []
    no_later at = none_on f later_rows (list_all-filter (is_other_file f) has_ranges (map (without party locks) xs)
        (others-without party locks f xs ∙ subst (λ k. list_all (is_other_file k) xs ≡ true) at (and_parts (list_all (is_other_file x.file) xs) (files_differ xs) all).0))

    by_tests : (b : Bool) → (x.file == f) ≡ b → (left : List Held) → filter (stays party locks) x.ranges ≡ left
        → ranges_on f later_rows ≡ filter (stays party locks) (ranges_on f xs)
        → ranges_on f (cond (not (is_empty left)) (record { file = x.file; ranges = left } ∷ later_rows) later_rows)
        ≡ filter (stays party locks) (cond b x.ranges (ranges_on f xs))
    by_tests true at [] e later = no_later (eqb-true x.file f at) ∙ sym e
    by_tests true at (h ∷ hs) e later = rw at (sym e)
    by_tests false at [] e later = later
    by_tests false at (h ∷ hs) e later = rw at later

-- ---- words

-- the stateid of an owner on a file is known by its counter, whatever else is put
known_fits : (last : ℕ) (locks : List LockRow) (ranges : List FileLocks) (row : LockRow) → LocksStand last locks ranges
    → is_known row (lock_at row.counter locks) ≡ true → list_all (fits row) locks ≡ true
known_fits last locks ranges row stand known = by_old (lock_at row.counter locks) refl known
  where
    by_old : (o : Option LockRow) → lock_at row.counter locks ≡ o → is_known row o ≡ true → list_all (fits row) locks ≡ true
    by_old None none known = absurd (false≢true known)
    by_old (Some old) found known = fits-known 0 last locks row old stand.rising stand.owners found known

put_fits : (last : ℕ) (locks : List LockRow) (ranges : List FileLocks) (row : LockRow) → LocksStand last locks ranges
    → may_put last locks row ≡ true → list_all (fits row) locks ≡ true
put_fits last locks ranges row stand may = by_test (row.counter == last + 1) refl may
  where
    by_test : (b : Bool) → (row.counter == last + 1) ≡ b
        → cond b (is_none (lock_of row.owner row.file locks)) (is_known row (lock_at row.counter locks)) ≡ true → list_all (fits row) locks ≡ true
    by_test true new none =
        fits-new 0 last locks row stand.rising (grind (arith, nat_tests)) (none_is (lock_of row.owner row.file locks) none)
      where
        none_is : (o : Option LockRow) → is_none o ≡ true → o ≡ None
        none_is None h = refl
        none_is (Some x) h = absurd (false≢true h)
    by_test false old known = known_fits last locks ranges row stand known

-- what is found passes a test that all pass
all-found : (q p : LockRow → Bool) (rows : List LockRow) (x : LockRow) → find p rows ≡ Some x → list_all q rows ≡ true → q x ≡ true
all-found q p [] x found all = cc
all-found q p (y ∷ ys) x found all =
    by_test (p y) found (and_parts (q y) (list_all q ys) all).0 (λ there. all-found q p ys x there (and_parts (q y) (list_all q ys) all).1)
  where
    by_test : (b : Bool) → cond b (Some y) (find p ys) ≡ Some x → q y ≡ true → (find p ys ≡ Some x → q x ≡ true) → q x ≡ true
    by_test true here passes later = ap q (sym (some_is here)) ∙ passes
    by_test false there passes later = later there

-- An owner's stateid on a file has the counter of a row that fits, where that row is the owner's on the file, and else another one.
counter_fits : (locks : List LockRow) (row x : LockRow) (owner : Owner) (file : ℕ)
    → list_all (fits row) locks ≡ true → lock_of owner file locks ≡ Some x → is_lock_of owner file x ≡ true → (x.counter == row.counter) ≡ is_lock_of owner file row
unfolding lock_of
counter_fits locks row x owner file fit found its =
    by_tests (x.counter == row.counter) (is_lock_of owner file row) refl refl (all-found (fits row) (is_lock_of owner file) locks x found fit)
  where
    by_tests : (b c : Bool) → (x.counter == row.counter) ≡ b → is_lock_of owner file row ≡ c
        → fit_by (x.counter == row.counter) (is_lock_of row.owner row.file x) ≡ true → b ≡ c
    by_tests true true same is_row fit = refl
    by_tests false false other is_row fit = refl
    by_tests true false same is_row fit =
        absurd (both_ways (is_lock_of owner file row) is_row (of_same owner file row x (subst (λ e. fit_by e (is_lock_of row.owner row.file x) ≡ true) same fit) its))
    by_tests false true other is_row fit =
        absurd (both_ways (is_lock_of row.owner row.file x) (not-true (is_lock_of row.owner row.file x) (subst (λ e. fit_by e (is_lock_of row.owner row.file x) ≡ true) other fit)) (of_both owner file row x is_row its))

-- Where an owner has no stateid on the file, no stateid on it has the counter of a row of the owner's that fits.
none_fits : (locks : List LockRow) (row : LockRow) → list_all (fits row) locks ≡ true → lock_of row.owner row.file locks ≡ None
    → is_lock_on row.counter row.file locks ≡ false
unfolding lock_of
none_fits [] row fit none = refl
none_fits (x ∷ xs) row fit none =
    by_tests (x.counter == row.counter) (is_lock_of row.owner row.file x) refl none (and_parts (fits row x) (list_all (fits row) xs) fit).0
    (none_fits xs row (and_parts (fits row x) (list_all (fits row) xs) fit).1)
  where
    by_tests : (b c : Bool) → (x.counter == row.counter) ≡ b → cond c (Some x) (find (is_lock_of row.owner row.file) xs) ≡ None
        → fit_by b c ≡ true → (find (is_lock_of row.owner row.file) xs ≡ None → is_lock_on row.counter row.file xs ≡ false)
        → ((b && (x.file == row.file)) || is_lock_on row.counter row.file xs) ≡ false
    by_tests b true same none fit later = cc
    by_tests true false same none fit later = absurd (false≢true fit)
    by_tests false false other none fit later = later none

-- What an owner holds is what its stateid's counter holds, and a counter that fits holds nothing where the owner has no stateid.
held_by_row : (last : ℕ) (locks : List LockRow) (ranges : List FileLocks) (row : LockRow) (byte : ℕ) → LocksStand last locks ranges
    → list_all (fits row) locks ≡ true → lock_in row.owner row.file byte locks ranges ≡ kind_at row.counter byte (ranges_on row.file ranges)
unfolding lock_in
held_by_row last locks ranges row byte stand fit = by_row (lock_of row.owner row.file locks) refl
  where
    own : is_lock_of row.owner row.file row ≡ true
    own = lock_is row.owner row.file row refl refl

    by_row : (o : Option LockRow) → lock_of row.owner row.file locks ≡ o → held_by o byte (ranges_on row.file ranges) ≡ kind_at row.counter byte (ranges_on row.file ranges)
    by_row None none = sym (stand.held row.counter row.file byte (none_fits locks row fit none))
    by_row (Some x) found =
        let its = found_of row.owner row.file 0 last locks x stand.rising found in
        ap (λ k. kind_at k byte (ranges_on row.file ranges)) (eqb-true x.counter row.counter (counter_fits locks row x row.owner row.file fit found its ∙ own))

-- What a word that puts a row and changes the ranges of its file leaves at a byte, by what it leaves of the row's stateid.
put_held : (last : ℕ) (locks : List LockRow) (ranges : List FileLocks) (row : LockRow) (new : List Held) (kind : Option LockKind) (from to : ℕ)
    → LocksStand last locks ranges → list_all (fits row) locks ≡ true
    → ((counter byte : ℕ) → kind_at counter byte new ≡ cond ((counter == row.counter) && is_inside from to byte) kind (kind_at counter byte (ranges_on row.file ranges)))
    → (owner : Owner) (file byte : ℕ)
    → lock_in owner file byte (put_lock row locks) (put_ranges row.file new ranges)
    ≡ cond (is_lock_of owner file row && is_inside from to byte) kind (lock_in owner file byte locks ranges)
unfolding lock_in
put_held last locks ranges row new kind from to stand fit kinds owner file byte =
    rw (lock_of-put row locks owner file fit, ranges_on-put row.file file new ranges)
    (by_own (is_lock_of owner file row) refl)
  where
    before : Option LockKind
    before = lock_in owner file byte locks ranges

    -- the row is the owner's
    own_row : is_lock_of owner file row ≡ true
        → kind_at row.counter byte (cond (row.file == file) new (ranges_on file ranges)) ≡ cond (is_inside from to byte) kind before
    own_row its =
        let parts = lock_parts owner file row its in
        rw (same_number row.file file parts.0)
        (kinds row.counter byte ∙ rw (same_number row.counter row.counter refl)
        (ap (cond (is_inside from to byte) kind)
        (sym (held_by_row last locks ranges row byte stand fit) ∙ ap (λ o. lock_in o row.file byte locks ranges) (sym parts.1) ∙ ap (λ f. lock_in owner f byte locks ranges) parts.0)))

    -- it is another one's
    other_row : (o : Option LockRow) → lock_of owner file locks ≡ o → is_lock_of owner file row ≡ false
        → held_by o byte (cond (row.file == file) new (ranges_on file ranges)) ≡ held_by o byte (ranges_on file ranges)
    other_row None none other = refl
    other_row (Some x) found other = by_file (row.file == file) refl
      where
        its : is_lock_of owner file x ≡ true
        its = found_of owner file 0 last locks x stand.rising found

        by_file : (b : Bool) → (row.file == file) ≡ b → kind_at x.counter byte (cond b new (ranges_on file ranges)) ≡ kind_at x.counter byte (ranges_on file ranges)
        by_file false elsewhere = refl
        by_file true here =
            kinds x.counter byte ∙ rw (counter_fits locks row x owner file fit found its ∙ other)
            (ap (λ f. kind_at x.counter byte (ranges_on f ranges)) (eqb-true row.file file here))

    by_own : (b : Bool) → is_lock_of owner file row ≡ b
        → held_by (cond b (Some row) (lock_of owner file locks)) byte (cond (row.file == file) new (ranges_on file ranges))
        ≡ cond (b && is_inside from to byte) kind (held_by (lock_of owner file locks) byte (ranges_on file ranges))
    by_own true its = own_row its
    by_own false other = other_row (lock_of owner file locks) refl other

-- who holds no range holds no byte
none_held : (counter byte : ℕ) (rows : List Held) → holds counter rows ≡ false → kind_at counter byte rows ≡ None
unfolding holds kind_at
none_held counter byte [] none = refl
none_held counter byte (h ∷ hs) none =
    by_test (h.owner == counter) refl none (none_held counter byte hs)
  where
    by_test : (b : Bool) → (h.owner == counter) ≡ b → (b || holds counter hs) ≡ false → (holds counter hs ≡ false → kind_at counter byte hs ≡ None)
        → option_map (λ (x : Held). x.kind) (cond (b && is_inside h.first h.last byte) (Some h) (find (holds_byte counter byte) hs)) ≡ None
    by_test true its none later = absurd (true≢false none)
    by_test false other none later = later none

-- Stateids that hold nothing may go.
gone_held : (p : LockRow → Bool) (last : ℕ) (locks : List LockRow) (ranges : List FileLocks) → LocksStand last locks ranges
    → list_all (λ row. p row || is_idle ranges row) locks ≡ true → (owner : Owner) (file byte : ℕ)
    → lock_in owner file byte (filter p locks) ranges ≡ lock_in owner file byte locks ranges
unfolding lock_in lock_of
gone_held p last locks ranges stand idle owner file byte =
    rw (lock_of-filter p owner file locks stand.owners) (by_row (lock_of owner file locks) refl)
  where
    by_row : (o : Option LockRow) → lock_of owner file locks ≡ o → held_by (kept_by p o) byte (ranges_on file ranges) ≡ held_by o byte (ranges_on file ranges)
    by_row None none = refl
    by_row (Some x) found = by_test (p x) refl (all-found (λ row. p row || is_idle ranges row) (is_lock_of owner file) locks x found idle)
      where
        at : x.file ≡ file
        at = (lock_parts owner file x (found_of owner file 0 last locks x stand.rising found)).0

        by_test : (b : Bool) → p x ≡ b → (p x || is_idle ranges x) ≡ true → held_by (cond b (Some x) None) byte (ranges_on file ranges) ≡ kind_at x.counter byte (ranges_on file ranges)
        by_test true remains idle = refl
        by_test false goes idle =
            sym (none_held x.counter byte (ranges_on file ranges)
            (subst (λ f. holds x.counter (ranges_on f ranges) ≡ false) at (not-true (holds x.counter (ranges_on x.file ranges)) (subst (λ e. (e || is_idle ranges x) ≡ true) goes idle))))

-- what a filter by stateids leaves at a byte
kind_at-filter : (keep : ℕ → Bool) (counter byte : ℕ) (rows : List Held)
    → kind_at counter byte (filter (λ h. keep h.owner) rows) ≡ cond (keep counter) (kind_at counter byte rows) None
unfolding kind_at
kind_at-filter keep counter byte [] = by_test (keep counter)
  where
    nothing : Option LockKind
    nothing = None

    by_test : (b : Bool) → nothing ≡ cond b nothing nothing
    by_test true = refl
    by_test false = refl
kind_at-filter keep counter byte (h ∷ hs) =
    at_head (keep h.owner) ∙ by_tests (keep h.owner) (h.owner == counter) (is_inside h.first h.last byte) refl refl (kind_at-filter keep counter byte hs)
  where
    rest : List Held
    rest = filter (λ x. keep x.owner) hs

    kind_of : Held → LockKind
    kind_of x = x.kind

    at_head : (b : Bool) → option_map kind_of (find (holds_byte counter byte) (cond b (h ∷ rest) rest))
        ≡ option_map kind_of (cond b (cond (holds_byte counter byte h) (Some h) (find (holds_byte counter byte) rest)) (find (holds_byte counter byte) rest))
    at_head true = refl
    at_head false = refl

    kept_too : (b : Bool) → keep h.owner ≡ b → (h.owner == counter) ≡ true → keep counter ≡ b
    kept_too b keeps its = ap keep (sym (eqb-true h.owner counter its)) ∙ keeps

    by_tests : (b c d : Bool) → keep h.owner ≡ b → (h.owner == counter) ≡ c
        → option_map kind_of (find (holds_byte counter byte) rest) ≡ cond (keep counter) (option_map kind_of (find (holds_byte counter byte) hs)) None
        → option_map kind_of (cond b (cond (c && d) (Some h) (find (holds_byte counter byte) rest)) (find (holds_byte counter byte) rest))
        ≡ cond (keep counter) (option_map kind_of (cond (c && d) (Some h) (find (holds_byte counter byte) hs))) None
    by_tests true true true keeps its later = rw (kept_too true keeps its) refl
    by_tests true true false keeps its later = later
    by_tests true false d keeps its later = later
    by_tests false true true keeps its later = later ∙ rw (kept_too false keeps its) refl
    by_tests false true false keeps its later = later
    by_tests false false d keeps its later = later

-- With its instance's end an owner holds nothing, and others hold what they held.
ended_held : (party : Party) (last : ℕ) (locks : List LockRow) (ranges : List FileLocks) → LocksStand last locks ranges → (owner : Owner) (file byte : ℕ)
    → lock_in owner file byte (filter (λ x. not (same_party party x.owner.instance)) locks) (filter has_ranges (map (without party locks) ranges))
    ≡ cond (same_party party owner.instance) None (lock_in owner file byte locks ranges)
unfolding lock_in
ended_held party last locks ranges stand owner file byte =
    rw (lock_of-filter (λ x. not (same_party party x.owner.instance)) owner file locks stand.owners, ranges_on-ended party locks file ranges stand.files)
    (by_row (lock_of owner file locks) refl)
  where
    left : List Held
    left = filter (stays party locks) (ranges_on file ranges)

    nothing : Option LockKind
    nothing = None

    by_none : (b : Bool) → nothing ≡ cond b nothing nothing
    by_none true = refl
    by_none false = refl

    by_row : (o : Option LockRow) → lock_of owner file locks ≡ o
        → held_by (kept_by (λ x. not (same_party party x.owner.instance)) o) byte left ≡ cond (same_party party owner.instance) None (held_by o byte (ranges_on file ranges))
    by_row None none = by_none (same_party party owner.instance)
    by_row (Some x) found =
        subst (λ (o : Owner). held_by (cond (not (same_party party x.owner.instance)) (Some x) None) byte left ≡ cond (same_party party o.instance) None (kind_at x.counter byte (ranges_on file ranges))) (sym its.1)
        (by_test (same_party party x.owner.instance) refl)
      where
        by_test : (b : Bool) → same_party party x.owner.instance ≡ b
            → held_by (cond (not b) (Some x) None) byte left ≡ cond b None (kind_at x.counter byte (ranges_on file ranges))
        by_test true theirs = refl
        by_test false other =
            kind_at-filter (λ k. not (is_held_by party locks k)) x.counter byte (ranges_on file ranges)
            ∙ rw (any_at (λ row. same_party party row.owner.instance) 0 last locks x stand.rising (found_by owner file last locks x stand.rising found) ∙ other) refl

        its : (x.file ≡ file) × (owner ≡ x.owner)
        its = lock_parts owner file x (found_of owner file 0 last locks x stand.rising found)

pub held-after : (word : LockWord) (last : ℕ) (locks : List LockRow) (ranges : List FileLocks)
    → LocksStand last locks ranges → MayFollow word last locks ranges → (owner : Owner) (file byte : ℕ)
    → lock_in owner file byte (locks_after word locks) (ranges_after word locks ranges) ≡ lock_left word owner file byte (lock_in owner file byte locks ranges)
unfolding locks_after ranges_after lock_left are_idle_with are_idle_of
held-after AsIs last locks ranges stand follows owner file byte = refl
held-after (Claimed row kind from to) last locks ranges stand follows owner file byte =
    put_held last locks ranges row (set_to row.counter kind from to (ranges_on row.file ranges)) (Some kind) from to stand
    (put_fits last locks ranges row stand follows.0)
    (λ counter byte. kind_at-set row.counter kind from to (ranges_on row.file ranges) counter byte follows.1 (rise_of (ranges_on row.file ranges) (stand.joined row.file).rising)) owner file byte
held-after (Cleared row from to) last locks ranges stand follows owner file byte =
    put_held last locks ranges row (cleared row.counter from to (ranges_on row.file ranges)) None from to stand
    (known_fits last locks ranges row stand follows.0)
    (kind_at-cleared row.counter from to (ranges_on row.file ranges)) owner file byte
held-after (ClosedWith counter) last locks ranges stand follows owner file byte =
    gone_held (λ x. not (x.opened == counter)) last locks ranges stand follows owner file byte
held-after (Released its) last locks ranges stand follows owner file byte =
    gone_held (λ x. not (same_owner its x.owner)) last locks ranges stand follows owner file byte
held-after (EndedOf party) last locks ranges stand follows owner file byte = ended_held party last locks ranges stand owner file byte

-- ---- the tables after a word

-- where a put of a row that fits leaves no stateid on a file, there was none
no_lock_on : (row : LockRow) (rows : List LockRow) (counter file : ℕ) → list_all (fits row) rows ≡ true → is_lock_on counter file (put_lock row rows) ≡ false
    → (is_on counter file row ≡ false) × (is_lock_on counter file rows ≡ false)
no_lock_on row rows counter file fit none = neither (is_on counter file row) (is_lock_on counter file rows) (sym (lock_on-put row rows counter file fit) ∙ none)
  where
    neither : (a b : Bool) → (a || b) ≡ false → (a ≡ false) × (b ≡ false)
    neither true b h = absurd (true≢false h)
    neither false b h = (refl, h)

-- What a word does that puts a row and changes the ranges of its file, by what it leaves of the row's stateid.
record Puts (last : ℕ) (locks : List LockRow) (ranges : List FileLocks) (row : LockRow) (new : List Held) (kind : Option LockKind) (from to : ℕ) : Type 0 where
  fit : list_all (fits row) locks ≡ true
  kinds : (counter byte : ℕ) → kind_at counter byte new ≡ cond ((counter == row.counter) && is_inside from to byte) kind (kind_at counter byte (ranges_on row.file ranges))
  tidy : IsJoined new

known_rises : (last : ℕ) (locks : List LockRow) (row : LockRow) → locks_rise 0 last locks ≡ true → is_known row (lock_at row.counter locks) ≡ true
    → locks_rise 0 last (put_lock row locks) ≡ true
known_rises last locks row rising known = by_old (lock_at row.counter locks) refl known
  where
    by_old : (o : Option LockRow) → lock_at row.counter locks ≡ o → is_known row o ≡ true → locks_rise 0 last (put_lock row locks) ≡ true
    by_old None none known = absurd (false≢true known)
    by_old (Some old) found known = locks_rise-put_old 0 last locks row old rising found

lock_on-cond : (counter file : ℕ) (b : Bool) (x : LockRow) (rows : List LockRow)
    → is_lock_on counter file (cond b (x ∷ rows) rows) ≡ cond b (is_on counter file x || is_lock_on counter file rows) (is_lock_on counter file rows)
lock_on-cond counter file true x rows = refl
lock_on-cond counter file false x rows = refl

-- A stateid on a file that doesn't stay holds nothing.
idle_on : (p : LockRow → Bool) (counter file : ℕ) (ranges : List FileLocks) (rows : List LockRow) → list_all (λ row. p row || is_idle ranges row) rows ≡ true
    → is_lock_on counter file rows ≡ true → is_lock_on counter file (filter p rows) ≡ false → holds counter (ranges_on file ranges) ≡ false
idle_on p counter file ranges [] idle there none = absurd (false≢true there)
idle_on p counter file ranges (x ∷ xs) idle there none =
    by_tests (p x) (x.counter == counter) (x.file == file) refl refl refl there (sym (lock_on-cond counter file (p x) x (filter p xs)) ∙ none)
    (and_parts (p x || is_idle ranges x) (list_all (λ row. p row || is_idle ranges row) xs) idle).0
    (idle_on p counter file ranges xs (and_parts (p x || is_idle ranges x) (list_all (λ row. p row || is_idle ranges row) xs) idle).1)
  where
    rest : Bool
    rest = is_lock_on counter file (filter p xs)

    by_tests : (b c d : Bool) → p x ≡ b → (x.counter == counter) ≡ c → (x.file == file) ≡ d
        → ((c && d) || is_lock_on counter file xs) ≡ true → cond b ((c && d) || rest) rest ≡ false → (b || is_idle ranges x) ≡ true
        → (is_lock_on counter file xs ≡ true → rest ≡ false → holds counter (ranges_on file ranges) ≡ false)
        → holds counter (ranges_on file ranges) ≡ false
    by_tests true true true remains at_c at_f there none idle later = absurd (true≢false none)
    by_tests true true false remains at_c at_f there none idle later = later there none
    by_tests true false d remains at_c at_f there none idle later = later there none
    by_tests false true true goes at_c at_f there none idle later =
        subst (λ k. holds k (ranges_on file ranges) ≡ false) (eqb-true x.counter counter at_c)
        (subst (λ f. holds x.counter (ranges_on f ranges) ≡ false) (eqb-true x.file file at_f) (not-true (holds x.counter (ranges_on x.file ranges)) idle))
    by_tests false true false goes at_c at_f there none idle later = later there none
    by_tests false false d goes at_c at_f there none idle later = later there none

-- A stateid that isn't the instance's stays.
not_theirs : (party : Party) (counter file : ℕ) (rows : List LockRow) → is_held_by party rows counter ≡ false
    → is_lock_on counter file (filter (λ x. not (same_party party x.owner.instance)) rows) ≡ false → is_lock_on counter file rows ≡ false
not_theirs party counter file [] other none = refl
not_theirs party counter file (x ∷ xs) other none =
    by_tests (same_party party x.owner.instance) (x.counter == counter) (x.file == file) other
    (sym (lock_on-cond counter file (not (same_party party x.owner.instance)) x (filter (λ y. not (same_party party y.owner.instance)) xs)) ∙ none)
    (not_theirs party counter file xs)
  where
    rest : Bool
    rest = is_lock_on counter file (filter (λ y. not (same_party party y.owner.instance)) xs)

    by_tests : (s c d : Bool) → ((c && s) || is_held_by party xs counter) ≡ false → cond (not s) ((c && d) || rest) rest ≡ false
        → (is_held_by party xs counter ≡ false → rest ≡ false → is_lock_on counter file xs ≡ false)
        → ((c && d) || is_lock_on counter file xs) ≡ false
    by_tests true true d other none later = absurd (true≢false other)
    by_tests true false d other none later = later other none
    by_tests false true true other none later = absurd (true≢false none)
    by_tests false true false other none later = later other none
    by_tests false false d other none later = later other none

put_stands : (last later : ℕ) (locks : List LockRow) (ranges : List FileLocks) (row : LockRow) (new : List Held) (kind : Option LockKind) (from to : ℕ)
    → LocksStand last locks ranges → Puts last locks ranges row new kind from to → locks_rise 0 later (put_lock row locks) ≡ true
    → LocksStand later (put_lock row locks) (put_ranges row.file new ranges)
put_stands last later locks ranges row new kind from to stand puts rising = record {
  rising = rising;
  owners = all_differ-put row locks puts.fit stand.owners;
  files = files_differ-put row.file new ranges stand.files;
  joined = λ file. rw (ranges_on-put row.file file new ranges) (joined_by file (row.file == file));
  held = λ counter file byte none. rw (ranges_on-put row.file file new ranges) (held_by_file counter file byte (no_lock_on row locks counter file puts.fit none) (row.file == file) refl);
}
  where
    joined_by : (file : ℕ) (b : Bool) → IsJoined (cond b new (ranges_on file ranges))
    joined_by file true = puts.tidy
    joined_by file false = stand.joined file

    held_by_file : (counter file byte : ℕ) → (is_on counter file row ≡ false) × (is_lock_on counter file locks ≡ false)
        → (b : Bool) → (row.file == file) ≡ b → kind_at counter byte (cond b new (ranges_on file ranges)) ≡ None
    held_by_file counter file byte none false elsewhere = stand.held counter file byte none.1
    held_by_file counter file byte none true here =
        puts.kinds counter byte ∙ rw (other_counter (row.counter == counter) (counter == row.counter) (subst (λ e. ((row.counter == counter) && e) ≡ false) here none.0) (flip_test row.counter counter))
        (ap (λ f. kind_at counter byte (ranges_on f ranges)) (eqb-true row.file file here) ∙ stand.held counter file byte none.1)
      where
        other_counter : (a b : Bool) → (a && true) ≡ false → a ≡ b → b ≡ false
        other_counter true b h e = absurd (true≢false h)
        other_counter false b h e = sym e

        flip_test : (m n : ℕ) → (m == n) ≡ (n == m)
        flip_test m n = grind (arith, nat_tests)

-- stateids that hold nothing may go
gone_stand : (p : LockRow → Bool) (last : ℕ) (locks : List LockRow) (ranges : List FileLocks) → LocksStand last locks ranges
    → list_all (λ row. p row || is_idle ranges row) locks ≡ true → LocksStand last (filter p locks) ranges
gone_stand p last locks ranges stand idle = record {
  rising = locks_rise-filter p 0 last locks stand.rising;
  owners = all_differ-filter p locks stand.owners;
  files = stand.files;
  joined = stand.joined;
  held = λ counter file byte none. by_lock counter file byte none (is_lock_on counter file locks) refl;
}
  where
    by_lock : (counter file byte : ℕ) → is_lock_on counter file (filter p locks) ≡ false → (b : Bool) → is_lock_on counter file locks ≡ b
        → kind_at counter byte (ranges_on file ranges) ≡ None
    by_lock counter file byte none false absent = stand.held counter file byte absent
    by_lock counter file byte none true there = none_held counter byte (ranges_on file ranges) (idle_on p counter file ranges locks idle there none)

-- what an instance's end leaves of the ranges of a file is joined
behind_skipped : (h x : Held) (rows : List Held) → stand_behind h (x ∷ rows) ≡ true → h.owner < x.owner → stand_behind h rows ≡ true
behind_skipped h x [] behind less = grind (arith, nat_tests)
behind_skipped h x (y ∷ ys) behind less = grind (arith, nat_tests)

behind_kept : (keep : ℕ → Bool) (h : Held) (rows : List Held) → stand_behind h rows ≡ true → keep h.owner ≡ true
    → stand_behind h (filter (λ x. keep x.owner) rows) ≡ true
behind_kept keep h [] behind stays_too = behind
behind_kept keep h (x ∷ xs) behind stays_too =
    by_test (keep x.owner) refl (behind_kept keep x xs) (λ b. behind_kept keep h xs b stays_too)
  where
    parts : (nat_le h.first h.last && stands_behind h x ≡ true) × (stand_behind x xs ≡ true)
    parts = and_parts _ _ behind

    later_owner : keep x.owner ≡ false → h.owner < x.owner
    later_owner goes = at_owner (h.owner == x.owner) refl
      where
        at_owner : (b : Bool) → (h.owner == x.owner) ≡ b → h.owner < x.owner
        at_owner true same = absurd (both_ways (keep x.owner) goes (ap keep (sym (eqb-true h.owner x.owner same)) ∙ stays_too))
        at_owner false other = grind (arith, nat_tests)

    by_test : (b : Bool) → keep x.owner ≡ b
        → (stand_behind x xs ≡ true → keep x.owner ≡ true → stand_behind x (filter (λ y. keep y.owner) xs) ≡ true)
        → (stand_behind h xs ≡ true → stand_behind h (filter (λ y. keep y.owner) xs) ≡ true)
        → stand_behind h (cond b (x ∷ filter (λ y. keep y.owner) xs) (filter (λ y. keep y.owner) xs)) ≡ true
    by_test true keeps at_x at_h = rw (parts.0, at_x parts.1 keeps) refl
    by_test false goes at_x at_h = at_h (behind_skipped h x xs behind (later_owner goes))

tail_joined : (h : Held) (rows : List Held) → stand_behind h rows ≡ true → are_joined rows ≡ true
tail_joined h [] behind = refl
tail_joined h (x ∷ xs) behind = (and_parts (nat_le h.first h.last && stands_behind h x) (stand_behind x xs) behind).1

joined-filter : (keep : ℕ → Bool) (rows : List Held) → are_joined rows ≡ true → are_joined (filter (λ h. keep h.owner) rows) ≡ true
joined-filter keep [] joined = refl
joined-filter keep (h ∷ hs) joined = by_test (keep h.owner) refl (joined-filter keep hs (tail_joined h hs joined))
  where
    by_test : (b : Bool) → keep h.owner ≡ b → are_joined (filter (λ x. keep x.owner) hs) ≡ true
        → are_joined (cond b (h ∷ filter (λ x. keep x.owner) hs) (filter (λ x. keep x.owner) hs)) ≡ true
    by_test true keeps later = behind_kept keep h hs joined keeps
    by_test false goes later = later

none_conflict-filter : (keep : ℕ → Bool) (rows : List Held) → none_conflict rows ≡ true → none_conflict (filter (λ h. keep h.owner) rows) ≡ true
none_conflict-filter keep [] none = refl
none_conflict-filter keep (h ∷ hs) none =
    by_test (keep h.owner) (none_conflict-filter keep hs (and_parts (not (list_any (conflicts h) hs)) (none_conflict hs) none).1)
  where
    none_left : (xs : List Held) → not (list_any (conflicts h) xs) ≡ true → not (list_any (conflicts h) (filter (λ x. keep x.owner) xs)) ≡ true
    none_left [] none = refl
    none_left (x ∷ xs) none = at_head (keep x.owner) (conflicts h x) refl none (none_left xs)
      where
        at_head : (b c : Bool) → conflicts h x ≡ c → not (c || list_any (conflicts h) xs) ≡ true
            → (not (list_any (conflicts h) xs) ≡ true → not (list_any (conflicts h) (filter (λ y. keep y.owner) xs)) ≡ true)
            → not (list_any (conflicts h) (cond b (x ∷ filter (λ y. keep y.owner) xs) (filter (λ y. keep y.owner) xs))) ≡ true
        at_head b true at none later = absurd (false≢true none)
        at_head true false at none later = rw at (later none)
        at_head false false at none later = later none

    by_test : (b : Bool) → none_conflict (filter (λ x. keep x.owner) hs) ≡ true
        → none_conflict (cond b (h ∷ filter (λ x. keep x.owner) hs) (filter (λ x. keep x.owner) hs)) ≡ true
    by_test true later = rw (none_left hs (and_parts (not (list_any (conflicts h) hs)) (none_conflict hs) none).0, later) refl
    by_test false later = later

kept_joined : (keep : ℕ → Bool) (rows : List Held) → IsJoined rows → IsJoined (filter (λ h. keep h.owner) rows)
kept_joined keep rows joined = record { rising = joined-filter keep rows joined.rising; apart = none_conflict-filter keep rows joined.apart }

ended_stand : (party : Party) (last : ℕ) (locks : List LockRow) (ranges : List FileLocks) → LocksStand last locks ranges
    → LocksStand last (filter (λ x. not (same_party party x.owner.instance)) locks) (filter has_ranges (map (without party locks) ranges))
ended_stand party last locks ranges stand = record {
  rising = locks_rise-filter _ 0 last locks stand.rising;
  owners = all_differ-filter _ locks stand.owners;
  files = files_differ-filter has_ranges (map (without party locks) ranges) (files_differ-without party locks ranges ∙ stand.files);
  joined = λ file. rw (ranges_on-ended party locks file ranges stand.files) (kept_joined (λ k. not (is_held_by party locks k)) (ranges_on file ranges) (stand.joined file));
  held = λ counter file byte none. rw (ranges_on-ended party locks file ranges stand.files)
      (kind_at-filter (λ k. not (is_held_by party locks k)) counter byte (ranges_on file ranges) ∙ held_by_test counter file byte none (is_held_by party locks counter) refl);
}
  where
    held_by_test : (counter file byte : ℕ) → is_lock_on counter file (filter (λ x. not (same_party party x.owner.instance)) locks) ≡ false
        → (b : Bool) → is_held_by party locks counter ≡ b → cond (not b) (kind_at counter byte (ranges_on file ranges)) None ≡ None
    held_by_test counter file byte none true theirs = refl
    held_by_test counter file byte none false other = stand.held counter file byte (not_theirs party counter file locks other none)

claimed_stand : (row : LockRow) (kind : LockKind) (from to last : ℕ) (locks : List LockRow) (ranges : List FileLocks)
    → LocksStand last locks ranges → MayFollow (Claimed row kind from to) last locks ranges
    → (b : Bool) → (row.counter == last + 1) ≡ b
    → LocksStand (cond b (last + 1) last) (put_lock row locks) (put_ranges row.file (set_to row.counter kind from to (ranges_on row.file ranges)) ranges)
claimed_stand row kind from to last locks ranges stand follows b at =
    put_stands last (cond b (last + 1) last) locks ranges row (set_to row.counter kind from to (ranges_on row.file ranges)) (Some kind) from to stand
    (record {
      fit = put_fits last locks ranges row stand follows.0;
      kinds = λ counter byte. kind_at-set row.counter kind from to (ranges_on row.file ranges) counter byte follows.1 (rise_of (ranges_on row.file ranges) (stand.joined row.file).rising);
      tidy = set_joined row.counter kind from to (ranges_on row.file ranges) (stand.joined row.file) follows.1 follows.2;
    })
    (rises b at follows.0)
  where
    rises : (b : Bool) → (row.counter == last + 1) ≡ b
        → cond (row.counter == last + 1) (is_none (lock_of row.owner row.file locks)) (is_known row (lock_at row.counter locks)) ≡ true
        → locks_rise 0 (cond b (last + 1) last) (put_lock row locks) ≡ true
    rises true new may = locks_rise-put_new 0 last locks row stand.rising (eqb-true row.counter (last + 1) new)
    rises false old may = known_rises last locks row stand.rising (subst (λ e. cond e (is_none (lock_of row.owner row.file locks)) (is_known row (lock_at row.counter locks)) ≡ true) old may)

pub stand-after : (word : LockWord) (last : ℕ) (locks : List LockRow) (ranges : List FileLocks)
    → LocksStand last locks ranges → MayFollow word last locks ranges
    → LocksStand (last_after word last) (locks_after word locks) (ranges_after word locks ranges)
unfolding locks_after ranges_after are_idle_with are_idle_of
stand-after AsIs last locks ranges stand follows = stand
stand-after (Claimed row kind from to) last locks ranges stand follows = claimed_stand row kind from to last locks ranges stand follows (row.counter == last + 1) refl
stand-after (Cleared row from to) last locks ranges stand follows =
    put_stands last last locks ranges row (cleared row.counter from to (ranges_on row.file ranges)) None from to stand
    (record {
      fit = known_fits last locks ranges row stand follows.0;
      kinds = kind_at-cleared row.counter from to (ranges_on row.file ranges);
      tidy = cleared_joined row.counter from to (ranges_on row.file ranges) (stand.joined row.file) follows.1;
    })
    (known_rises last locks row stand.rising follows.0)
stand-after (ClosedWith counter) last locks ranges stand follows = gone_stand (λ x. not (x.opened == counter)) last locks ranges stand follows
stand-after (Released its) last locks ranges stand follows = gone_stand (λ x. not (same_owner its x.owner)) last locks ranges stand follows
stand-after (EndedOf party) last locks ranges stand follows = ended_stand party last locks ranges stand
