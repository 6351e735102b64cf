use Rattle.std.proofs.Common.{◌≡◌, drop}
use Rattle.nm_rules.specs.Held.{with_locks}
use Rattle.nm_state.proofs.shown.put_locks.Given as goal

-- with the stateids from here on in their places it is all
abbrev pub invariant-loop-row : goal.invariant-loop-row
invariant-loop-row l = with_locks l.files l.ranges (drop l.row-index l.locks) l.held.items ≡ with_locks l.files l.ranges l.locks l.initial.held.items
