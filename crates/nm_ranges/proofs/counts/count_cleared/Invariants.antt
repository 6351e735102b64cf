use Rattle.std.proofs.Common.{◌≡◌, ◌≤◌, length, take}
use Rattle.std.specs.Prelude.{◌*◌}
use Rattle.nm_rules.specs.Locks.{cleared}
use Rattle.nm_ranges.proofs.counts.count_cleared.Given as goal

-- how many are left of the rows so far, at most two of each
abbrev pub invariant-loop-row : goal.invariant-loop-row
invariant-loop-row l = record {
  exact : l.count ≡ length (cleared l.owner l.first l.last (take l.row-index l.rows));
  few : l.count ≤ 2 * l.row-index;
}
