use Rattle.std.proofs.Common.{◌≡◌, take}
use Rattle.nm_rules.specs.Held.{ranges_of}
use Rattle.nm_state.proofs.shown.ranges_of.Given as goal

-- of the rows so far those of the stateid are listed
abbrev pub invariant-loop-row : goal.invariant-loop-row
invariant-loop-row l = l.list ≡ ranges_of l.counter (take l.row-index l.rows)
