-- What nothing stops is within the limits, and has room.
use Rattle.std.proofs.Common.{◌≡◌, ℕ, ◌+◌, ◌-◌, ◌<◌, ◌≤◌, ◌^◌, Bool, true, false, cond, Option, Some, None, refl, ap, arith, length}
use Rattle.std.specs.Prelude.{not, ◌&&◌, ◌||◌, nat_le, nat_lt, max, IfSome}
use Rattle.std.proofs.lemmas.Bool.Decides.{nat_tests}
use Rattle.std.proofs.lemmas.Bool.{ltb-false}
use Rattle.nm_rules.specs.Attributes.{Asks, asked_mode, asked_size, set_words, sets_any}
use Rattle.nm_rules.specs.Contents.{file_at, files_limit, size_limit, taken, total_limit, total_size}
use Rattle.nm_rules.specs.Data.{set_limit, write_limit, written_size}
use Rattle.nm_rules.specs.Files.{changes_past_end, current, fills_up, makes_past_end, size_of, sized_limit}
use Rattle.nm_rules.specs.Lists.{is_empty}
use Rattle.nm_rules.specs.Seen.{Seen}
use Rattle.nm_types.specs.declared.args.WriteArgs.{WriteArgs}
use Rattle.nm_types.specs.declared.rows.FileRow.{FileRow}
use Rattle.nm_types.specs.declared.status.OpStatus.TheVariants.{FBig, NoSpc, Resource}
use Rattle.nm_rules.proofs.Classes.{or_none, refuse_if-none}
use Rattle.nm_tree.specs.Rows.{total_with}

-- there is a number for the next change
pub below_end : (s : Seen) → changes_past_end s ≡ false → s.tree.change < 2 ^ 63
below_end s h = grind (arith, nat_tests)

second_false : (a b : Bool) → (a && b) ≡ false → a ≡ true → b ≡ false
second_false true b h it = h
second_false false b h it = cc

first_false : (a b : Bool) → (a || b) ≡ false → a ≡ false
first_false true b h = cc
first_false false b h = refl

more_false : (a b : Bool) → (a || b) ≡ false → b ≡ false
more_false true b h = cc
more_false false b h = h

-- where something may be made there is a number for the change
pub makes_changes : (s : Seen) → makes_past_end s ≡ false → s.tree.change < 2 ^ 63
makes_changes s h = below_end s (first_false _ _ (first_false _ _ h))

-- and one for the file
pub makes_files : (s : Seen) → makes_past_end s ≡ false → s.tree.last_file < 2 ^ 63
makes_files s h =
    let its : nat_le (2 ^ 63) s.tree.last_file ≡ false = more_false (changes_past_end s) (nat_le (2 ^ 63) s.tree.last_file) (first_false _ (nat_le files_limit (length s.tree.table)) h) in
    grind (arith, nat_tests)

-- a WRITE keeps to the size of a file
pub write_fits : (s : Seen) (file : ℕ) (args : WriteArgs) → write_limit s file args ≡ None
    → args.offset + length (taken args.«data») ≤ size_limit
unfolding write_limit
write_fits s file args none =
    ltb-false size_limit (args.offset + length (taken args.«data»)) (refuse_if-none _ FBig (or_none _ _ none).0)

-- and to that of all files
pub write_room : (s : Seen) (file : ℕ) (args : WriteArgs) → write_limit s file args ≡ None → is_empty (taken args.«data») ≡ false
    → total_with file (max (size_of (file_at file s.tree.table)) (args.offset + length (taken args.«data»))) s.tree.table ≤ total_limit
unfolding write_limit
write_room s file args none some =
    let full : fills_up s (size_of (current s file)) (written_size (current s file) args) ≡ false =
    refuse_if-none _ NoSpc (or_none _ _ (or_none _ _ none).1).0 in
    let its : written_size (current s file) args ≡ max (size_of (current s file)) (args.offset + length (taken args.«data»)) =
    ap (λ (b : Bool). cond b (size_of (current s file)) (max (size_of (current s file)) (args.offset + length (taken args.«data»)))) some in
    let within = rw its at full in
    ltb-false total_limit _ within

-- and has a number for its change
pub write_changes : (s : Seen) (file : ℕ) (args : WriteArgs) → write_limit s file args ≡ None → is_empty (taken args.«data») ≡ false
    → s.tree.change < 2 ^ 63
unfolding write_limit
write_changes s file args none some =
    below_end s (second_false (not (is_empty (taken args.«data»))) (changes_past_end s)
    (refuse_if-none _ Resource (or_none _ _ (or_none _ _ none).1).1) (ap (λ (b : Bool). not b) some))

sized_room : (s : Seen) (row : Option FileRow) (size : Option ℕ) → sized_limit s row size ≡ None
    → IfSome size (λ n. total_size s.tree.table + (n - size_of row) ≤ total_limit)
unfolding sized_limit
sized_room s row None none = tt
sized_room s row (Some n) none = ltb-false total_limit _ (refuse_if-none _ NoSpc (or_none _ _ none).1)

-- a size that is set keeps to that of all files
pub set_room : (s : Seen) (file : ℕ) (asks : Asks) → set_limit s file asks ≡ None
    → IfSome (asked_size asks) (λ n. total_with file n s.tree.table ≤ total_limit)
unfolding set_limit
set_room s file asks none = sized_room s (current s file) (asked_size asks) (or_none _ _ none).0

-- and has a number for its change
pub set_changes : (s : Seen) (file : ℕ) (asks : Asks) → set_limit s file asks ≡ None → sets_any asks ≡ true → s.tree.change < 2 ^ 63
unfolding set_limit
set_changes s file asks none some =
    below_end s (second_false (sets_any asks) (changes_past_end s) (refuse_if-none _ Resource (or_none _ _ none).1) some)

-- the bitmap is empty just where nothing is set
pub sets_none : (asks : Asks) → is_empty (set_words (asked_size asks) (asked_mode asks)) ≡ not (sets_any asks)
unfolding is_empty set_words
sets_none Asks.Unsupported = refl
sets_none Asks.Invalid = refl
sets_none (Asks.Sets None None) = refl
sets_none (Asks.Sets None (Some mode)) = refl
sets_none (Asks.Sets (Some size) None) = refl
sets_none (Asks.Sets (Some size) (Some mode)) = refl
