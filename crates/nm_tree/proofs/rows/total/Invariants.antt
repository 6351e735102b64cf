use Rattle.std.proofs.Common.{◌≡◌, ◌+◌, drop}
use Rattle.nm_rules.specs.Contents.{total_size}
use Rattle.nm_tree.proofs.rows.total.Given as goal

-- the bytes so far and those of the rows that are left are all
abbrev pub invariant-loop-row : goal.invariant-loop-row
invariant-loop-row l = l.total + total_size (drop l.row-index l.rows) ≡ total_size l.rows
