use Rattle.std.proofs.Common.{◌≡◌, ◌++◌, drop}
use Rattle.nm_rules.specs.Locks.{joined}
use Rattle.nm_ranges.specs.Rows.{joined_from}
use Rattle.nm_ranges.proofs.rows.joined.Given as goal

-- what is left, and what the row that waits and the rows from here on give, is all
abbrev pub invariant-loop-row : goal.invariant-loop-row
invariant-loop-row l = l.left.items ++ joined_from l.waiting (drop l.row-index l.rows) ≡ joined l.rows
