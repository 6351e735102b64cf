use Rattle.std.proofs.Common.{◌≡◌, ◌++◌, map, take, drop}
use Rattle.nm_rules.specs.LockRows.{without}
use Rattle.nm_state.proofs.file_ranges.drop_each.Given as goal

-- the rows so far are without them, and the others as they were
abbrev pub invariant-loop-row : goal.invariant-loop-row
invariant-loop-row l = l.row-items ≡ map (without l.instance l.locks) (take l.row-index l.initial.row-items) ++ drop l.row-index l.initial.row-items
