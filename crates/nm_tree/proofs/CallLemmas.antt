-- What refuses a call, and what a call that isn't refused may count on.
use Rattle.std.proofs.Common.{◌≡◌, ◌<◌, ◌≤◌, ℕ, ◌+◌, ◌-◌, Bool, true, false, cond, List, [], ◌∷◌, Option, Some, None, ◌++◌, refl, ap, sym, ◌∙◌, subst, arith, length, map, drop, get_or}
use Rattle.std.proofs.lemmas.List.{append_assoc, append-nil, at_drop_more}
use Rattle.std.proofs.Math.ListN.{drop_of_length-le}
use Rattle.std.specs.Prelude.{max, not, ◌&&◌, nat_lt, nat_le, ◌^◌}
use Rattle.std.specs.Option.{option_or}
use Rattle.nm_rules.specs.Lists.{is_empty}
use Rattle.std.proofs.lemmas.Bool.Decides.{nat_tests}
use Rattle.std.proofs.lemmas.Bool.{ltb-false}
use Rattle.nm_rules.proofs.Classes.{refuse_if-none}
use Rattle.nm_rules.specs.Checks.{refuse_if, arguments_fault, name_stop}
use Rattle.nm_rules.specs.Contents.{TreeNow, size_limit, total_limit, file_at}
use Rattle.nm_rules.specs.Names.{name_fault}
use Rattle.nm_types.specs.declared.status.OpStatus.{OpStatus}
use Rattle.nm_types.specs.declared.status.OpStatus.TheVariants.{Inval, FBig, NoSpc, Resource}
use Rattle.nm_rules.specs.Files.{size_of, is_listed, listed}
use Rattle.nm_types.specs.declared.rows.FileRow.{FileRow}
use Rattle.nm_tree.specs.declared.listing.Listed.{Listed}
use Rattle.nm_tree.specs.Rows.{total_with}
use Rattle.nm_tree.specs.Answers.{listed_as, file_stop, size_with, write_stop, size_stop, make_stop, remove_stop, makes_end, changes_end}

or_nothing : (fault : Option OpStatus) → option_or fault None ≡ fault
or_nothing None = refl
or_nothing (Some status) = refl

-- what is wrong with a name alone
pub name_stop_of : (name : List ℕ) → name_stop name ≡ cond (is_empty name) (Some Inval) (name_fault name)
unfolding name_stop arguments_fault is_empty
name_stop_of [] = refl
name_stop_of (byte ∷ name) = or_nothing (name_fault (byte ∷ name))

-- ---- what isn't refused

-- the last of several tests
or_last : (a b : Option OpStatus) → option_or a b ≡ None → b ≡ None
or_last None b none = none
or_last (Some status) b none = cc

-- none of four applies
record Unstopped (b c d : Option OpStatus) : Type 0 where
  pub second : b ≡ None
  pub third : c ≡ None
  pub fourth : d ≡ None

unstopped : (a b c d : Option OpStatus) → option_or a (option_or b (option_or c d)) ≡ None → Unstopped b c d
unstopped None None None d none = record { second = refl; third = refl; fourth = none }
unstopped (Some status) b c d none = cc
unstopped None (Some status) c d none = cc
unstopped None None (Some status) d none = cc

no_end : (t : TreeNow) → changes_end t ≡ false → t.change < 2 ^ 63
no_end t ends = grind (arith, nat_tests)

make_ends : (t : TreeNow) (dir : ℕ) (name : List ℕ) → make_stop t dir name ≡ None → makes_end t ≡ false
unfolding make_stop
make_ends t dir name none = refuse_if-none (makes_end t) Resource (or_last _ _ (or_last _ _ none))

pub make_changes : (t : TreeNow) (dir : ℕ) (name : List ℕ) → make_stop t dir name ≡ None → t.change < 2 ^ 63
make_changes t dir name none = grind (arith, nat_tests, make_ends t dir name none)

pub make_numbers : (t : TreeNow) (dir : ℕ) (name : List ℕ) → make_stop t dir name ≡ None → t.last_file < 2 ^ 63
make_numbers t dir name none = grind (arith, nat_tests, make_ends t dir name none)

pub remove_changes : (t : TreeNow) (dir : ℕ) (name : List ℕ) → remove_stop t dir name ≡ None → t.change < 2 ^ 63
unfolding remove_stop
remove_changes t dir name none = no_end t (refuse_if-none (changes_end t) Resource (or_last _ _ (or_last _ _ none)))

-- ---- listings

-- one row more is listed, or passed over
pub listed_more : (dir after : ℕ) (so_far all : List Listed) (rows : List FileRow) (at : ℕ) (row : FileRow) → at < length rows → row ≡ get_or rows at row
    → so_far ++ map listed_as (listed dir after (drop at rows)) ≡ all
    → (so_far ++ cond (is_listed dir after row) (listed_as row ∷ []) []) ++ map listed_as (listed dir after (drop (at + 1) rows)) ≡ all
unfolding listed
listed_more dir after so_far all rows at row ltb-false there before =
    by_test (is_listed dir after row)
    (sym (ap (λ (rest : List Listed). so_far ++ rest) (at_drop_more (λ (r : List FileRow). map listed_as (listed dir after r)) rows at row ltb-false
    ∙ ap (λ (x : FileRow). map listed_as (listed dir after (x ∷ drop (at + 1) rows))) (sym there))) ∙ before)
  where
    by_test : (b : Bool) → so_far ++ map listed_as (cond b (row ∷ listed dir after (drop (at + 1) rows)) (listed dir after (drop (at + 1) rows))) ≡ all
        → (so_far ++ cond b (listed_as row ∷ []) []) ++ map listed_as (listed dir after (drop (at + 1) rows)) ≡ all
    by_test true given = append_assoc so_far (listed_as row ∷ []) (map listed_as (listed dir after (drop (at + 1) rows))) ∙ given
    by_test false given = append_assoc so_far [] (map listed_as (listed dir after (drop (at + 1) rows))) ∙ given

-- past the last row all are listed
pub listed_all : (dir after : ℕ) (so_far all : List Listed) (rows : List FileRow) (at : ℕ) → length rows ≤ at
    → so_far ++ map listed_as (listed dir after (drop at rows)) ≡ all → so_far ≡ all
unfolding listed
listed_all dir after so_far all rows at past before =
    sym (append-nil so_far) ∙ sym (ap (λ (r : List FileRow). so_far ++ map listed_as (listed dir after r)) (drop_of_length-le rows past)) ∙ before

-- ---- limits

-- what the limits of a write leave
record WriteLimits (t : TreeNow) (file offset : ℕ) (bytes : List ℕ) : Type 0 where
  pub fits : nat_lt size_limit (offset + length bytes) ≡ false
  pub room : nat_lt total_limit (total_with file (size_with offset bytes (size_of (file_at file t.table))) t.table) ≡ false
  pub change : (not (is_empty bytes) && changes_end t) ≡ false

write_limits : (t : TreeNow) (file offset : ℕ) (bytes : List ℕ) → write_stop t file offset bytes ≡ None → WriteLimits t file offset bytes
unfolding write_stop
write_limits t file offset bytes none =
    let past : Bool = nat_lt size_limit (offset + length bytes) in
    let full : Bool = nat_lt total_limit (total_with file (size_with offset bytes (size_of (file_at file t.table))) t.table) in
    let last : Bool = not (is_empty bytes) && changes_end t in
    let clear : Unstopped (refuse_if past FBig) (refuse_if full NoSpc) (refuse_if last Resource) =
    unstopped (file_stop file t.table) (refuse_if past FBig) (refuse_if full NoSpc) (refuse_if last Resource) none in
    record { fits = refuse_if-none past FBig clear.second; room = refuse_if-none full NoSpc clear.third; change = refuse_if-none last Resource clear.fourth }

pub write_changes : (t : TreeNow) (file offset : ℕ) (bytes : List ℕ) → write_stop t file offset bytes ≡ None → is_empty bytes ≡ false → t.change < 2 ^ 63
write_changes t file offset bytes none some =
    no_end t (subst (λ (b : Bool). (not b && changes_end t) ≡ false) some (write_limits t file offset bytes none).change)

pub write_fits : (t : TreeNow) (file offset : ℕ) (bytes : List ℕ) → write_stop t file offset bytes ≡ None → offset + length bytes ≤ size_limit
write_fits t file offset bytes none = ltb-false size_limit (offset + length bytes) (write_limits t file offset bytes none).fits

pub write_room : (t : TreeNow) (file offset : ℕ) (bytes : List ℕ) → write_stop t file offset bytes ≡ None → is_empty bytes ≡ false
    → total_with file (max (size_of (file_at file t.table)) (offset + length bytes)) t.table ≤ total_limit
write_room t file offset bytes none some =
    ltb-false total_limit (total_with file (max (size_of (file_at file t.table)) (offset + length bytes)) t.table)
    (subst (λ (b : Bool). nat_lt total_limit (total_with file (cond b (size_of (file_at file t.table)) (max (size_of (file_at file t.table)) (offset + length bytes))) t.table) ≡ false)
    some (write_limits t file offset bytes none).room)

size_limits : (t : TreeNow) (file size : ℕ) → size_stop t file size ≡ None
    → Unstopped (refuse_if (nat_lt size_limit size) FBig) (refuse_if (nat_lt total_limit (total_with file size t.table)) NoSpc) (refuse_if (changes_end t) Resource)
unfolding size_stop
size_limits t file size none =
    unstopped (file_stop file t.table) (refuse_if (nat_lt size_limit size) FBig) (refuse_if (nat_lt total_limit (total_with file size t.table)) NoSpc)
    (refuse_if (changes_end t) Resource) none

pub size_changes : (t : TreeNow) (file size : ℕ) → size_stop t file size ≡ None → t.change < 2 ^ 63
size_changes t file size none = no_end t (refuse_if-none (changes_end t) Resource (size_limits t file size none).fourth)

pub size_room : (t : TreeNow) (file size : ℕ) → size_stop t file size ≡ None → total_with file size t.table ≤ total_limit
size_room t file size none = ltb-false total_limit (total_with file size t.table) (refuse_if-none (nat_lt total_limit (total_with file size t.table)) NoSpc (size_limits t file size none).third)

-- a file ends with what was read, where no more is left than the offset
pub ends_there : (offset size count : ℕ) → nat_le (size - count) offset ≡ nat_le size (offset + count)
ends_there offset size count = grind (arith, nat_tests)
