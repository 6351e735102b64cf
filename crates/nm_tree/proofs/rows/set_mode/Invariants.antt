use Rattle.std.proofs.Common.{◌≡◌, ◌++◌, map, take, drop, None}
use Rattle.nm_rules.specs.Contents.{edited_at}
use Rattle.nm_rules.specs.Contents.FileEdit.{Set}
use Rattle.nm_tree.proofs.rows.set_mode.Given as goal

-- the rows so far are changed, and the others as they were
abbrev pub invariant-loop-row : goal.invariant-loop-row
invariant-loop-row l =
    l.row-items ≡ map (edited_at l.change l.dir l.number (Set None l.mode)) (take l.row-index l.initial.row-items) ++ drop l.row-index l.initial.row-items
