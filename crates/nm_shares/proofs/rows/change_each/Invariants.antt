use Rattle.std.proofs.Common.{◌≡◌, ◌++◌, map, take, drop}
use Rattle.nm_shares.specs.Rows.{changed_at}
use Rattle.nm_shares.proofs.rows.change_each.Given as goal

-- the rows so far are changed, and the others as they were
abbrev pub invariant-loop-row : goal.invariant-loop-row
invariant-loop-row l = l.row-items ≡ map (changed_at l.counter l.change) (take l.row-index l.initial.row-items) ++ drop l.row-index l.initial.row-items
