-- The ranges of files: how they are found, counted and changed.
use Rattle.std.proofs.Common.{◌≡◌, ◌<◌, ◌≤◌, ℕ, ◌+◌, Bool, true, false, cond, List, [], ◌∷◌, ◌++◌, Some, None, refl, ap, sym, subst, ◌∙◌, suc, arith, length, take, drop, get_or, set}
use Rattle.std.proofs.lemmas.List.{drop_all, drop_more as drop_more_list, take_more}
use Rattle.std.proofs.lemmas.Bool.Decides.{nat_tests}
use Rattle.std.specs.Prelude.{◌==◌, ◌&&◌, ◌||◌, not, nat_lt, filter, find}
use Rattle.std.specs.List.{position, position_or_len}
use Rattle.nm_rules.specs.LockRows.{is_held_by, is_of, put_file, put_lock, put_ranges, ranges_on, ranges_taken}
use Rattle.nm_rules.specs.Locks.{barrier, cleared, dropped, is_before, joined, joined_after, put_range, set_to, touches}
use Rattle.nm_rules.specs.Opens.{rows_limit}
use Rattle.nm_types.specs.Parties.{Party, same_party}
use Rattle.nm_types.specs.declared.results.LockKind.{LockKind}
use Rattle.nm_types.specs.declared.rows.FileLocks.{FileLocks}
use Rattle.nm_types.specs.declared.rows.Held.{Held}
use Rattle.nm_types.specs.declared.rows.LockRow.{LockRow}
use Rattle.nm_state.specs.Locking.{has_counter}
use Rattle.nm_state.specs.Taken.{adds, counted, has_file, ranges_in, taken_with, waits_after}

-- ---- found

-- a file's ranges are those of its row
pub file_found : (file : ℕ) (xs : List FileLocks) → ranges_on file xs ≡ ranges_in (find (has_file file) xs)
unfolding ranges_on
file_found file [] = refl
file_found file (x ∷ xs) = by_test (x.file == file) (file_found file xs)
  where
    by_test : (b : Bool) → ranges_on file xs ≡ ranges_in (find (has_file file) xs)
        → cond b x.ranges (ranges_on file xs) ≡ ranges_in (cond b (Some x) (find (has_file file) xs))
    by_test true same = refl
    by_test false same = same

-- ---- counted

-- where 64 bits don't count so far there are more rows than there may be
pub counted_past : (n : ℕ) → nat_lt rows_limit (counted n) ≡ nat_lt rows_limit n
counted_past n = grind (arith, nat_tests)

pub counted_more : (a b : ℕ) → counted (counted a + b) ≡ counted (a + b)
counted_more a b = omega arith

-- one row more
pub taken_more : (rows : List FileLocks) (i : ℕ) (d : FileLocks) → i < length rows
    → ranges_taken (take (i + 1) rows) ≡ ranges_taken (take i rows) + length (get_or rows i d).ranges
unfolding ranges_taken
taken_more rows i d within = ap ranges_taken (take_more rows i d within) ∙ behind (take i rows) (get_or rows i d)
  where
    behind : (xs : List FileLocks) (x : FileLocks) → ranges_taken (xs ++ x ∷ []) ≡ ranges_taken xs + length x.ranges
    behind [] x = omega arith
    behind (y ∷ ys) x = omega (arith, behind ys x)

pub taken_step : (file n : ℕ) (waits : Bool) (rows : List FileLocks) (i : ℕ) (d : FileLocks) (count added next all : ℕ) (after : Bool) → i < length rows → d ≡ get_or rows i d
    → added ≡ adds file n waits d → after ≡ waits_after file n waits d → next ≡ counted (count + added)
    → counted (count + taken_with file n waits (drop i rows)) ≡ all
    → counted (next + taken_with file n after (drop (i + 1) rows)) ≡ all
unfolding taken_with
taken_step file n waits rows i d count added next all after within its adds_is after_is next_is so_far =
    ap (λ m. counted (m + taken_with file n after (drop (i + 1) rows))) (next_is ∙ ap (λ m. counted (count + m)) adds_is)
    ∙ ap (λ w. counted (counted (count + adds file n waits d) + taken_with file n w (drop (i + 1) rows))) after_is
    ∙ counted_more (count + adds file n waits d) _
    ∙ ap (λ m. counted m) (sums (drop (i + 1) rows))
    ∙ ap (λ x. counted (count + taken_with file n waits (x ∷ drop (i + 1) rows))) its
    ∙ ap (λ xs. counted (count + taken_with file n waits xs)) (sym (drop_more_list rows i d within))
    ∙ so_far
  where
    sums : (xs : List FileLocks) → count + adds file n waits d + taken_with file n (waits_after file n waits d) xs ≡ count + taken_with file n waits (d ∷ xs)
    sums xs = by_test (waits && (d.file == file))
      where
        by_test : (b : Bool) → count + cond b n (length d.ranges) + taken_with file n (cond b (n == 0) waits) xs
            ≡ count + cond b (n + taken_with file n (n == 0) xs) (length d.ranges + taken_with file n waits xs)
        by_test true = omega arith
        by_test false = omega arith

pub taken_end : (file n : ℕ) (waits : Bool) (rows : List FileLocks) (i : ℕ) (count added all : ℕ) → length rows ≤ i
    → added ≡ cond waits n 0 → counted (count + taken_with file n waits (drop i rows)) ≡ all → counted (count + added) ≡ all
unfolding taken_with
taken_end file n waits rows i count added all past is so_far =
    ap (λ m. counted (count + m)) is ∙ ap (λ xs. counted (count + taken_with file n waits xs)) (sym (drop_all i rows past)) ∙ so_far

-- of a list in which the file's are put
without_file : (file : ℕ) (rows : List FileLocks) → taken_with file 0 true rows ≡ ranges_taken (filter (λ x. not (x.file == file)) rows)
unfolding taken_with ranges_taken
without_file file [] = refl
without_file file (x ∷ xs) = by_test (x.file == file) (without_file file xs)
  where
    rest : List FileLocks
    rest = filter (λ y. not (y.file == file)) xs

    by_test : (b : Bool) → taken_with file 0 true xs ≡ ranges_taken rest
        → cond b (0 + taken_with file 0 true xs) (length x.ranges + taken_with file 0 true xs) ≡ ranges_taken (cond (not b) (x ∷ rest) rest)
    by_test true later = omega (arith, later)
    by_test false later = ap (λ n. length x.ranges + n) later

none_waits : (file n : ℕ) (rows : List FileLocks) → taken_with file n false rows ≡ ranges_taken rows
unfolding taken_with ranges_taken
none_waits file n [] = refl
none_waits file n (x ∷ xs) = ap (λ m. length x.ranges + m) (none_waits file n xs)

with_file : (file : ℕ) (h : Held) (hs : List Held) (rows : List FileLocks)
    → taken_with file (length (h ∷ hs)) true rows ≡ ranges_taken (put_file file (h ∷ hs) rows)
unfolding taken_with ranges_taken
with_file file h hs [] = omega arith
with_file file h hs (x ∷ xs) = by_test (x.file == file) (with_file file h hs xs)
  where
    by_test : (b : Bool) → taken_with file (length (h ∷ hs)) true xs ≡ ranges_taken (put_file file (h ∷ hs) xs)
        → cond b (length (h ∷ hs) + taken_with file (length (h ∷ hs)) (length (h ∷ hs) == 0) xs) (length x.ranges + taken_with file (length (h ∷ hs)) true xs)
        ≡ ranges_taken (cond b (record { file = file; ranges = h ∷ hs } ∷ xs) (x ∷ put_file file (h ∷ hs) xs))
    by_test true later =
        let some : (length (h ∷ hs) == 0) ≡ false = grind (arith, nat_tests) in
        ap (λ waits. length (h ∷ hs) + taken_with file (length (h ∷ hs)) waits xs) some
        ∙ ap (λ m. length (h ∷ hs) + m) (none_waits file (length (h ∷ hs)) xs)
    by_test false later = ap (λ m. length x.ranges + m) later

pub taken_put : (file : ℕ) (new : List Held) (rows : List FileLocks) → taken_with file (length new) true rows ≡ ranges_taken (put_ranges file new rows)
unfolding put_ranges
taken_put file [] rows = without_file file rows
taken_put file (h ∷ hs) rows = with_file file h hs rows

-- ---- put

-- the row of a file in its place
put_at : (file : ℕ) (new : List Held) (rows : List FileLocks) → position_or_len (has_file file) rows < length rows
    → set rows (position_or_len (has_file file) rows) (record { file = file; ranges = new }) ≡ put_file file new rows
put_at file new [] within = absurd (omega (arith, within))
put_at file new (x ∷ xs) within = by_head (x.file == file) within (put_at file new xs)
  where
    by_head : (b : Bool) → cond (not b) (1 + position_or_len (has_file file) xs) 0 < length (x ∷ xs)
        → (position_or_len (has_file file) xs < length xs → set xs (position_or_len (has_file file) xs) (record { file = file; ranges = new }) ≡ put_file file new xs)
        → set (x ∷ xs) (cond (not b) (1 + position_or_len (has_file file) xs) 0) (record { file = file; ranges = new }) ≡ cond b (record { file = file; ranges = new } ∷ xs) (x ∷ put_file file new xs)
    by_head true within later = refl
    by_head false within later =
        let more : 1 + position_or_len (has_file file) xs ≡ suc (position_or_len (has_file file) xs) = omega arith in
        rw more (ap (λ rest. x ∷ rest) (later (omega (arith, within))))

-- or behind all
put_behind : (file : ℕ) (new : List Held) (rows : List FileLocks) → nat_lt (position_or_len (has_file file) rows) (length rows) ≡ false
    → rows ++ record { file = file; ranges = new } ∷ [] ≡ put_file file new rows
put_behind file new [] past = refl
put_behind file new (x ∷ xs) past = by_head (x.file == file) past (put_behind file new xs)
  where
    by_head : (b : Bool) → nat_lt (cond (not b) (1 + position_or_len (has_file file) xs) 0) (length (x ∷ xs)) ≡ false
        → (nat_lt (position_or_len (has_file file) xs) (length xs) ≡ false → xs ++ record { file = file; ranges = new } ∷ [] ≡ put_file file new xs)
        → x ∷ (xs ++ record { file = file; ranges = new } ∷ []) ≡ cond b (record { file = file; ranges = new } ∷ xs) (x ∷ put_file file new xs)
    by_head true past later = absurd (grind (arith, nat_tests))
    by_head false past later = ap (λ rest. x ∷ rest) (later (grind (arith, nat_tests)))

-- the ranges at the place
at_place : (file : ℕ) (rows : List FileLocks) (d : FileLocks) → position_or_len (has_file file) rows < length rows
    → (ranges_on file rows ≡ (get_or rows (position_or_len (has_file file) rows) d).ranges)
    × (file ≡ (get_or rows (position_or_len (has_file file) rows) d).file)
unfolding ranges_on
at_place file [] d within = absurd (omega (arith, within))
at_place file (x ∷ xs) d within = by_head (x.file == file) refl within (at_place file xs d)
  where
    by_head : (b : Bool) → (x.file == file) ≡ b → cond (not b) (1 + position_or_len (has_file file) xs) 0 < length (x ∷ xs)
        → (position_or_len (has_file file) xs < length xs
        → (ranges_on file xs ≡ (get_or xs (position_or_len (has_file file) xs) d).ranges) × (file ≡ (get_or xs (position_or_len (has_file file) xs) d).file))
        → (cond b x.ranges (ranges_on file xs) ≡ (get_or (x ∷ xs) (cond (not b) (1 + position_or_len (has_file file) xs) 0) d).ranges)
        × (file ≡ (get_or (x ∷ xs) (cond (not b) (1 + position_or_len (has_file file) xs) 0) d).file)
    by_head true same within later = (refl, grind (arith, nat_tests))
    by_head false same within later =
        let more : 1 + position_or_len (has_file file) xs ≡ suc (position_or_len (has_file file) xs) = omega arith in
        rw more (later (omega (arith, within)))

nowhere : (file : ℕ) (rows : List FileLocks) → nat_lt (position_or_len (has_file file) rows) (length rows) ≡ false
    → (ranges_on file rows ≡ []) × (filter (λ x. not (x.file == file)) rows ≡ rows)
unfolding ranges_on
nowhere file [] past = (refl, refl)
nowhere file (x ∷ xs) past = by_head (x.file == file) past (nowhere file xs)
  where
    rest : List FileLocks
    rest = filter (λ y. not (y.file == file)) xs

    by_head : (b : Bool) → nat_lt (cond (not b) (1 + position_or_len (has_file file) xs) 0) (length (x ∷ xs)) ≡ false
        → (nat_lt (position_or_len (has_file file) xs) (length xs) ≡ false → (ranges_on file xs ≡ []) × (rest ≡ xs))
        → (cond b x.ranges (ranges_on file xs) ≡ []) × (cond (not b) (x ∷ rest) rest ≡ x ∷ xs)
    by_head true past later = absurd (grind (arith, nat_tests))
    by_head false past later =
        let both = later (grind (arith, nat_tests)) in
        (both.0, ap (λ r. x ∷ r) both.1)

-- what is told by the place that is found
pub record IsPlace (its : ℕ) (rows : List FileLocks) (at : ℕ) (d : FileLocks) : Type 0 where
  pub within : at < length rows
  pub ranges : ranges_on its rows ≡ (get_or rows at d).ranges
  pub file : its ≡ (get_or rows at d).file
  pub put : (new : List Held) → set rows at (record { file = its; ranges = new }) ≡ put_file its new rows

pub place_found : (its : ℕ) (rows : List FileLocks) (at : ℕ) (d : FileLocks) → position (has_file its) rows ≡ Some at → IsPlace its rows at d
place_found its rows at d found = by_test (nat_lt (position_or_len (has_file its) rows) (length rows)) refl found
  where
    by_test : (b : Bool) → nat_lt (position_or_len (has_file its) rows) (length rows) ≡ b
        → cond b (Some (position_or_len (has_file its) rows)) None ≡ Some at → IsPlace its rows at d
    by_test true within same =
        let place : position_or_len (has_file its) rows ≡ at = cc in
        let less : position_or_len (has_file its) rows < length rows = grind (arith, nat_tests) in
        subst (λ k. IsPlace its rows k d) place (record {
          within = less;
          ranges = (at_place its rows d less).0;
          file = (at_place its rows d less).1;
          put = λ new. put_at its new rows less;
        })
    by_test false past same = cc

pub record IsNowhere (its : ℕ) (rows : List FileLocks) : Type 0 where
  pub ranges : ranges_on its rows ≡ []
  pub others : filter (λ x. not (x.file == its)) rows ≡ rows
  pub put : (new : List Held) → rows ++ record { file = its; ranges = new } ∷ [] ≡ put_file its new rows

pub place_none : (file : ℕ) (rows : List FileLocks) → position (has_file file) rows ≡ None → IsNowhere file rows
place_none file rows none = by_test (nat_lt (position_or_len (has_file file) rows) (length rows)) refl none
  where
    by_test : (b : Bool) → nat_lt (position_or_len (has_file file) rows) (length rows) ≡ b
        → cond b (Some (position_or_len (has_file file) rows)) None ≡ None → IsNowhere file rows
    by_test true within same = cc
    by_test false past same =
        record { ranges = (nowhere file rows past).0; others = (nowhere file rows past).1; put = λ new. put_behind file new rows past }

-- to set ranges of which there are some is to put them
set_some : (owner : ℕ) (kind : LockKind) (first last : ℕ) (rows : List Held) → (file : ℕ) (xs : List FileLocks)
    → put_file file (set_to owner kind first last rows) xs ≡ put_ranges file (set_to owner kind first last rows) xs
unfolding put_ranges set_to joined joined_after put_range
set_some owner kind first last rows file xs = by_put (cleared owner first last rows)
  where
    new : Held
    new = record { owner = owner; kind = kind; first = first; last = last }

    by_joined : (h : Held) (hs : List Held) → put_file file (joined_after h hs) xs ≡ put_ranges file (joined_after h hs) xs
    by_joined h [] = refl
    by_joined h (y ∷ ys) = by_touch (touches h y) (by_joined (record h { last = y.last }) ys)
      where
        by_touch : (b : Bool) → put_file file (joined_after (record h { last = y.last }) ys) xs ≡ put_ranges file (joined_after (record h { last = y.last }) ys) xs
            → put_file file (cond b (joined_after (record h { last = y.last }) ys) (h ∷ joined_after y ys)) xs
            ≡ put_ranges file (cond b (joined_after (record h { last = y.last }) ys) (h ∷ joined_after y ys)) xs
        by_touch true later = later
        by_touch false later = refl

    by_put : (left : List Held) → put_file file (joined (put_range new left)) xs ≡ put_ranges file (joined (put_range new left)) xs
    by_put [] = by_joined new []
    by_put (y ∷ ys) = by_before (is_before y new)
      where
        by_before : (b : Bool) → put_file file (joined (cond b (y ∷ put_range new ys) (new ∷ y ∷ ys))) xs
            ≡ put_ranges file (joined (cond b (y ∷ put_range new ys) (new ∷ y ∷ ys))) xs
        by_before true = by_joined y (put_range new ys)
        by_before false = by_joined new (y ∷ ys)

-- a lock takes its range
pub claim_there : (file : ℕ) (rows : List FileLocks) (at : ℕ) (d row : FileLocks) (h : Held) → position (has_file file) rows ≡ Some at → d ≡ get_or rows at d
    → row ≡ record { file = d.file; ranges = set_to h.owner h.kind h.first h.last d.ranges }
    → set rows at row ≡ put_ranges file (set_to h.owner h.kind h.first h.last (ranges_on file rows)) rows
claim_there file rows at d row h found read is =
    let place = place_found file rows at d found in
    let its : row ≡ record { file = file; ranges = set_to h.owner h.kind h.first h.last (ranges_on file rows) } =
    is ∙ ap (λ (x : FileLocks). record { file = x.file; ranges = set_to h.owner h.kind h.first h.last x.ranges }) read
    ∙ λ i. record { file = sym place.file i; ranges = set_to h.owner h.kind h.first h.last (sym place.ranges i) } in
    ap (λ r. set rows at r) its ∙ place.put _ ∙ set_some h.owner h.kind h.first h.last (ranges_on file rows) file rows

pub claim_free : (file : ℕ) (rows : List FileLocks) (at : ℕ) (d : FileLocks) (h : Held) → position (has_file file) rows ≡ Some at → d ≡ get_or rows at d
    → barrier h.owner h.kind h.first h.last (ranges_on file rows) ≡ None → barrier h.owner h.kind h.first h.last d.ranges ≡ None
claim_free file rows at d h found read free =
    ap (λ (x : FileLocks). barrier h.owner h.kind h.first h.last x.ranges) read
    ∙ ap (barrier h.owner h.kind h.first h.last) (sym (place_found file rows at d found).ranges) ∙ free

pub claim_first : (file : ℕ) (rows : List FileLocks) (row : FileLocks) (h : Held) → position (has_file file) rows ≡ None
    → row ≡ record { file = file; ranges = set_to h.owner h.kind h.first h.last [] }
    → rows ++ row ∷ [] ≡ put_ranges file (set_to h.owner h.kind h.first h.last (ranges_on file rows)) rows
claim_first file rows row h none is =
    let nothing = place_none file rows none in
    let its : row ≡ record { file = file; ranges = set_to h.owner h.kind h.first h.last (ranges_on file rows) } =
    is ∙ ap (λ rs. record { file = file; ranges = set_to h.owner h.kind h.first h.last rs }) (sym nothing.ranges) in
    ap (λ r. rows ++ r ∷ []) its ∙ nothing.put _ ∙ set_some h.owner h.kind h.first h.last (ranges_on file rows) file rows

-- a stateid gives up a range
put_none : (file : ℕ) (new : List Held) (xs : List FileLocks) → length new ≡ 0 → filter (λ x. not (x.file == file)) xs ≡ put_ranges file new xs
unfolding put_ranges
put_none file [] xs none = refl
put_none file (h ∷ hs) xs none = absurd (omega (arith, none))

put_some : (file : ℕ) (new : List Held) (xs : List FileLocks) → (length new == 0) ≡ false → put_file file new xs ≡ put_ranges file new xs
unfolding put_ranges
put_some file [] xs some = cc
put_some file (h ∷ hs) xs some = refl

pub clear_nowhere : (file owner first last : ℕ) (rows : List FileLocks) → position (has_file file) rows ≡ None
    → rows ≡ put_ranges file (cleared owner first last (ranges_on file rows)) rows
unfolding put_ranges cleared
clear_nowhere file owner first last rows none =
    let nothing = place_none file rows none in
    sym nothing.others ∙ ap (λ rs. put_ranges file (cleared owner first last rs) rows) (sym nothing.ranges)

pub clear_whole : (file owner first last : ℕ) (rows : List FileLocks) (at : ℕ) (d : FileLocks) → position (has_file file) rows ≡ Some at → d ≡ get_or rows at d
    → length (cleared owner first last d.ranges) ≡ 0
    → filter (λ x. not (x.file == file)) rows ≡ put_ranges file (cleared owner first last (ranges_on file rows)) rows
clear_whole file owner first last rows at d found read none =
    put_none file (cleared owner first last (ranges_on file rows)) rows
    (ap (λ rs. length (cleared owner first last rs)) (place_found file rows at d found).ranges
    ∙ ap (λ (x : FileLocks). length (cleared owner first last x.ranges)) (sym read) ∙ none)

pub clear_part : (file owner first last : ℕ) (rows : List FileLocks) (at : ℕ) (counted_as d row : FileLocks) → position (has_file file) rows ≡ Some at
    → counted_as ≡ get_or rows at counted_as → d ≡ get_or rows at d
    → (length (cleared owner first last counted_as.ranges) == 0) ≡ false
    → row ≡ record { file = d.file; ranges = cleared owner first last d.ranges }
    → set rows at row ≡ put_ranges file (cleared owner first last (ranges_on file rows)) rows
clear_part file owner first last rows at counted_as d row found counts read some is =
    let place = place_found file rows at d found in
    let its : row ≡ record { file = file; ranges = cleared owner first last (ranges_on file rows) } =
    is ∙ ap (λ (x : FileLocks). record { file = x.file; ranges = cleared owner first last x.ranges }) read
    ∙ λ i. record { file = sym place.file i; ranges = cleared owner first last (sym place.ranges i) } in
    ap (λ r. set rows at r) its ∙ place.put _
    ∙ put_some file (cleared owner first last (ranges_on file rows)) rows
    (ap (λ rs. length (cleared owner first last rs) == 0) (place_found file rows at counted_as found).ranges
    ∙ ap (λ (x : FileLocks). length (cleared owner first last x.ranges) == 0) (sym counts) ∙ some)

-- ---- an instance ends

-- what a stateid holds goes, where it is of the instance
pub drop_one : (party : Party) (row : LockRow) (rows : List Held) (b : Bool) → same_party party row.owner.instance ≡ b
    → cond b (dropped row.counter rows) rows ≡ filter (λ h. not (is_of party h.owner row)) rows
unfolding dropped
drop_one party row [] true its = refl
drop_one party row [] false its = refl
drop_one party row (h ∷ hs) b its =
    by_tests b (h.owner == row.counter) (row.counter == h.owner) refl refl (drop_one party row hs b its)
    ∙ ap (λ same. cond (not ((row.counter == h.owner) && same)) (h ∷ rest) rest) (sym its)
  where
    rest : List Held
    rest = filter (λ x. not (is_of party x.owner row)) hs

    by_tests : (b c d : Bool) → (h.owner == row.counter) ≡ c → (row.counter == h.owner) ≡ d
        → cond b (filter (λ x. not (x.owner == row.counter)) hs) hs ≡ rest
        → cond b (cond (not c) (h ∷ filter (λ x. not (x.owner == row.counter)) hs) (filter (λ x. not (x.owner == row.counter)) hs)) (h ∷ hs)
        ≡ cond (not (d && b)) (h ∷ rest) rest
    by_tests true true true one two later = later
    by_tests true false false one two later = ap (λ r. h ∷ r) later
    by_tests true true false one two later = absurd (grind (arith, nat_tests))
    by_tests true false true one two later = absurd (grind (arith, nat_tests))
    by_tests false c true one two later = ap (λ r. h ∷ r) later
    by_tests false c false one two later = ap (λ r. h ∷ r) later

-- and then what the others of it hold
pub drop_more : (party : Party) (locks : List LockRow) (i : ℕ) (d : LockRow) (rows : List Held) → i < length locks
    → filter (λ h. not (is_held_by party (drop i locks) h.owner)) rows
    ≡ filter (λ h. not (is_held_by party (drop (i + 1) locks) h.owner)) (filter (λ h. not (is_of party h.owner (get_or locks i d))) rows)
drop_more party locks i d rows within =
    ap (λ ls. filter (λ h. not (is_held_by party ls h.owner)) rows) (drop_more_list locks i d within) ∙ both (get_or locks i d) (drop (i + 1) locks) rows
  where
    both : (x : LockRow) (xs : List LockRow) (hs : List Held)
        → filter (λ h. not (is_held_by party (x ∷ xs) h.owner)) hs ≡ filter (λ h. not (is_held_by party xs h.owner)) (filter (λ h. not (is_of party h.owner x)) hs)
    both x xs [] = refl
    both x xs (h ∷ hs) = by_tests (is_of party h.owner x) (is_held_by party xs h.owner) refl (both x xs hs)
      where
        first : List Held
        first = filter (λ y. not (is_of party y.owner x)) hs

        by_tests : (b c : Bool) → is_held_by party xs h.owner ≡ c
            → filter (λ y. not (is_held_by party (x ∷ xs) y.owner)) hs ≡ filter (λ y. not (is_held_by party xs y.owner)) first
            → cond (not (b || c)) (h ∷ filter (λ y. not (is_held_by party (x ∷ xs) y.owner)) hs) (filter (λ y. not (is_held_by party (x ∷ xs) y.owner)) hs)
            ≡ filter (λ y. not (is_held_by party xs y.owner)) (cond (not b) (h ∷ first) first)
        by_tests true c its later = later
        by_tests false true its later = rw its later
        by_tests false false its later = rw its (ap (λ r. h ∷ r) later)

pub drop_step : (party : Party) (locks : List LockRow) (i : ℕ) (x : LockRow) (rows next all : List Held) → i < length locks → x ≡ get_or locks i x
    → next ≡ filter (λ h. not (is_of party h.owner x)) rows
    → filter (λ h. not (is_held_by party (drop i locks) h.owner)) rows ≡ all
    → filter (λ h. not (is_held_by party (drop (i + 1) locks) h.owner)) next ≡ all
drop_step party locks i x rows next all within its is so_far =
    ap (filter (λ h. not (is_held_by party (drop (i + 1) locks) h.owner)))
    (is ∙ ap (λ (row : LockRow). filter (λ (h : Held). not (is_of party h.owner row)) rows) its)
    ∙ sym (drop_more party locks i x rows within) ∙ so_far

-- at the end none is left
pub drop_end : (party : Party) (locks : List LockRow) (i : ℕ) (rows : List Held) → length locks ≤ i
    → filter (λ h. not (is_held_by party (drop i locks) h.owner)) rows ≡ rows
drop_end party locks i rows past = ap (λ ls. filter (λ h. not (is_held_by party ls h.owner)) rows) (drop_all i locks past) ∙ all rows
  where
    all : (hs : List Held) → filter (λ h. not (is_held_by party [] h.owner)) hs ≡ hs
    all [] = refl
    all (h ∷ hs) = ap (λ r. h ∷ r) (all hs)

-- ---- the stateid of a counter in its place

put_lock_at : (row : LockRow) (rows : List LockRow) → position_or_len (has_counter row.counter) rows < length rows
    → set rows (position_or_len (has_counter row.counter) rows) row ≡ put_lock row rows
put_lock_at row [] within = absurd (omega (arith, within))
put_lock_at row (x ∷ xs) within = by_head (x.counter == row.counter) within (put_lock_at row xs)
  where
    by_head : (b : Bool) → cond (not b) (1 + position_or_len (has_counter row.counter) xs) 0 < length (x ∷ xs)
        → (position_or_len (has_counter row.counter) xs < length xs → set xs (position_or_len (has_counter row.counter) xs) row ≡ put_lock row xs)
        → set (x ∷ xs) (cond (not b) (1 + position_or_len (has_counter row.counter) xs) 0) row ≡ cond b (row ∷ xs) (x ∷ put_lock row xs)
    by_head true within later = refl
    by_head false within later =
        let more : 1 + position_or_len (has_counter row.counter) xs ≡ suc (position_or_len (has_counter row.counter) xs) = omega arith in
        rw more (ap (λ rest. x ∷ rest) (later (omega (arith, within))))

put_lock_behind : (row : LockRow) (rows : List LockRow) → nat_lt (position_or_len (has_counter row.counter) rows) (length rows) ≡ false
    → rows ++ row ∷ [] ≡ put_lock row rows
put_lock_behind row [] past = refl
put_lock_behind row (x ∷ xs) past = by_head (x.counter == row.counter) past (put_lock_behind row xs)
  where
    by_head : (b : Bool) → nat_lt (cond (not b) (1 + position_or_len (has_counter row.counter) xs) 0) (length (x ∷ xs)) ≡ false
        → (nat_lt (position_or_len (has_counter row.counter) xs) (length xs) ≡ false → xs ++ row ∷ [] ≡ put_lock row xs)
        → x ∷ (xs ++ row ∷ []) ≡ cond b (row ∷ xs) (x ∷ put_lock row xs)
    by_head true past later = absurd (grind (arith, nat_tests))
    by_head false past later = ap (λ rest. x ∷ rest) (later (grind (arith, nat_tests)))

pub put_lock_found : (row : LockRow) (rows : List LockRow) (at : ℕ) → position (has_counter row.counter) rows ≡ Some at → set rows at row ≡ put_lock row rows
put_lock_found row rows at found = by_test (nat_lt (position_or_len (has_counter row.counter) rows) (length rows)) refl found
  where
    by_test : (b : Bool) → nat_lt (position_or_len (has_counter row.counter) rows) (length rows) ≡ b
        → cond b (Some (position_or_len (has_counter row.counter) rows)) None ≡ Some at → set rows at row ≡ put_lock row rows
    by_test true within same =
        let place : at ≡ position_or_len (has_counter row.counter) rows = cc in
        ap (λ i. set rows i row) place ∙ put_lock_at row rows (grind (arith, nat_tests))
    by_test false past same = cc

pub put_lock_new : (row : LockRow) (rows : List LockRow) → position (has_counter row.counter) rows ≡ None → rows ++ row ∷ [] ≡ put_lock row rows
put_lock_new row rows none = by_test (nat_lt (position_or_len (has_counter row.counter) rows) (length rows)) refl none
  where
    by_test : (b : Bool) → nat_lt (position_or_len (has_counter row.counter) rows) (length rows) ≡ b
        → cond b (Some (position_or_len (has_counter row.counter) rows)) None ≡ None → rows ++ row ∷ [] ≡ put_lock row rows
    by_test true within same = cc
    by_test false past same = put_lock_behind row rows past
