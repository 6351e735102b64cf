use Rattle.std.proofs.Common.{◌≡◌, ◌++◌, map, take, drop}
use Rattle.nm_short.specs.Known.{renewed_held}
use Rattle.nm_short.proofs.clients.renew_held.Given as goal

-- the rows so far have the stateid, and the others are as they were
abbrev pub invariant-loop-row : goal.invariant-loop-row
invariant-loop-row l =
    l.row-items ≡ map (renewed_held l.client l.a l.id) (take l.row-index l.initial.row-items) ++ drop l.row-index l.initial.row-items
