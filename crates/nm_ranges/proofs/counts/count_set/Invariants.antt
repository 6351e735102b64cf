use Rattle.std.proofs.Common.{◌≡◌, ◌≤◌, take}
use Rattle.std.specs.Prelude.{◌*◌}
use Rattle.nm_rules.specs.Locks.{cleared}
use Rattle.nm_ranges.specs.Counts.{none_yet, took_all}
use Rattle.nm_ranges.proofs.counts.count_set.Given as goal

-- what is left of the rows so far has come, at most two of each and the new one before each
abbrev pub invariant-loop-row : goal.invariant-loop-row
invariant-loop-row l = record {
  came : l.counting ≡ took_all (none_yet l.new) (cleared l.new.owner l.new.first l.new.last (take l.row-index l.rows));
  few : l.counting.count ≤ 4 * l.row-index;
}
