use Rattle.std.proofs.Common.{◌≡◌, ◌+◌, true, drop}
use Rattle.nm_state.specs.Taken.{counted, taken_with}
use Rattle.nm_state.proofs.file_ranges.taken_with.Given as goal

-- what is counted and what the rows from here on give is all
abbrev pub invariant-loop-row : goal.invariant-loop-row
invariant-loop-row l = counted (l.count + taken_with l.file l.ranges l.waits (drop l.row-index l.rows)) ≡ counted (taken_with l.file l.ranges true l.rows)
