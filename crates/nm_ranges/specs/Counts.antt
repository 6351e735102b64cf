-- How many rows there are, counted as they come, where neighbours that touch are one.
use Rattle.std.specs.Prelude.{ℕ, ◌+◌, Bool, false, List, [], ◌∷◌, Option, Some, None, if◌then◌else◌}
use Rattle.nm_rules.specs.Locks.{is_before, touches}
use Rattle.nm_types.specs.declared.rows.Held.{Held}
use Rattle.nm_ranges.specs.declared.counts.Counting.{Counting}

-- the row touches the one that came last
abbrev pub goes_on : Option Held → Held → Bool
goes_on None row = false
goes_on (Some latest) row = touches latest row

-- how many rows more there are with this one
abbrev pub one_more : Option Held → Held → ℕ
one_more latest row = if goes_on latest row then 0 else 1

-- a row has come, and that one is still to come
abbrev pub came : Counting → Option Held → Held → Counting
came c waiting row = record { count = c.count + one_more c.latest row; latest = Some row; waiting = waiting }

-- A row has come. The one that waits comes before it, where the row doesn't end before that one.
abbrev pub took_with : Option Held → Counting → Held → Counting
took_with None c row = came c None row
took_with (Some new) c row = if is_before row new then came c (Some new) row else came (came c None new) None row

abbrev pub took : Counting → Held → Counting
took c row = took_with c.waiting c row

-- all these rows have come
unfoldable pub took_all : Counting → List Held → Counting
took_all c [] = c
took_all c (x ∷ rows) = took_all (took c x) rows

-- how many there are at the end, with the one that waits
abbrev pub total_with : Option Held → Counting → ℕ
total_with None c = c.count
total_with (Some new) c = c.count + one_more c.latest new

abbrev pub total : Counting → ℕ
total c = total_with c.waiting c

-- nothing has come yet
abbrev pub none_yet : Held → Counting
none_yet new = record { count = 0; latest = None; waiting = Some new }
