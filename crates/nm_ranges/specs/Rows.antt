-- What `Ranges` keeps, and what each call makes of it.
use Rattle.std.specs.Prelude.{ℕ, Bool, not, List, [], ◌∷◌, Option, Some, None}
use Rattle.nm_rules.specs.Locks.{cleared, dropped, is_before, joined, joined_after, set_to}
use Rattle.nm_types.specs.declared.results.LockKind.{LockKind}
use Rattle.nm_types.specs.declared.rows.Held.{Held}

-- The ranges of one file that are held, by rising owner, and of one owner by rising first byte.
pub record RangesNow : Type 0 where
  pub table : List Held

abbrev pub no_ranges : RangesNow
no_ranges = record { table = [] }

-- A lock has taken the place of what its owner held in its range.
abbrev pub after_set : RangesNow → ℕ → LockKind → ℕ → ℕ → RangesNow
after_set r owner kind first last = record { table = set_to owner kind first last r.table }

-- An owner's lock is taken off a range.
abbrev pub after_clear : RangesNow → ℕ → ℕ → ℕ → RangesNow
after_clear r owner first last = record { table = cleared owner first last r.table }

-- An owner holds nothing any more.
abbrev pub after_drop : RangesNow → ℕ → RangesNow
after_drop r owner = record { table = dropped owner r.table }

-- the row doesn't end before that one
abbrev pub stays_behind : Held → Held → Bool
stays_behind new row = not (is_before row new)

-- the rows from the one that waits on, where there is one, with neighbours that touch as one
abbrev pub joined_from : Option Held → List Held → List Held
joined_from None rows = joined rows
joined_from (Some h) rows = joined_after h rows
