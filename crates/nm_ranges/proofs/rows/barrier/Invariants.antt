use Rattle.std.proofs.Common.{◌≡◌, drop}
use Rattle.nm_rules.specs.Locks.{barrier}
use Rattle.nm_ranges.proofs.rows.barrier.Given as goal

-- what is found is what the rows from here on have in the way
abbrev pub invariant-loop-at : goal.invariant-loop-at
invariant-loop-at l = l.found ≡ barrier l.asked.owner l.asked.kind l.asked.first l.asked.last (drop l.at l.rows)
