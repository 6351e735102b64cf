use Rattle.std.proofs.Common.{◌≡◌, ◌≤◌, length}
use Rattle.nm_script.specs.Reading.{lines_at, lines_of, nothing_yet}
use Rattle.nm_script.proofs.read.read_lines.Given as goal

-- the lines so far and those that are left give what all lines give
abbrev pub invariant-loop-rest : goal.invariant-loop-rest
invariant-loop-rest l = record {
  told : lines_at l.count l.draft (lines_of l.rest) ≡ lines_at 0 nothing_yet (lines_of l.bytes);
  few : l.count ≤ 200000;
}

abbrev pub decreases-loop-rest : goal.decreases-loop-rest
decreases-loop-rest l = length l.rest
