use Rattle.std.proofs.Common.{◌≡◌, take}
use Rattle.nm_rules.specs.Locks.{cleared}
use Rattle.nm_ranges.proofs.rows.cleared.Given as goal

-- what is left of the rows so far
abbrev pub invariant-loop-row : goal.invariant-loop-row
invariant-loop-row l = l.left.items ≡ cleared l.owner l.first l.last (take l.row-index l.rows)
