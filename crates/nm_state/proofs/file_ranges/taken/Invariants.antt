use Rattle.std.proofs.Common.{◌≡◌, take}
use Rattle.nm_rules.specs.LockRows.{ranges_taken}
use Rattle.nm_state.specs.Taken.{counted}
use Rattle.nm_state.proofs.file_ranges.taken.Given as goal

-- the ranges of the rows so far are counted
abbrev pub invariant-loop-row : goal.invariant-loop-row
invariant-loop-row l = l.count ≡ counted (ranges_taken (take l.row-index l.rows))
