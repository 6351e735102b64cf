use Rattle.std.proofs.Common.{sym, subst, List}
use Rattle.nm_types.specs.declared.rows.FileRow.{FileRow}
use Rattle.nm_tree.specs.Rows.{IsTree}
use Rattle.nm_tree.proofs.TreeLemmas.{empty_is}
use Rattle.nm_tree.proofs.tree.Tree.new.Goals as goal

pub invariant_of-result : goal.invariant_of-result
invariant_of-result c =
    subst (λ (rows : List FileRow). IsTree (record { table = rows; last_file = 15; change = 0 })) (sym c.in_ok-root_rows.ensures) empty_is
