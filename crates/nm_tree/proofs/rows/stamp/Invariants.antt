use Rattle.std.proofs.Common.{◌≡◌, ◌++◌, map, take, drop}
use Rattle.nm_rules.specs.Contents.{stamped}
use Rattle.nm_tree.proofs.rows.stamp.Given as goal

-- the rows so far are stamped, and the others as they were
abbrev pub invariant-loop-row : goal.invariant-loop-row
invariant-loop-row l = l.row-items ≡ map (stamped l.change l.number) (take l.row-index l.initial.row-items) ++ drop l.row-index l.initial.row-items
