use Rattle.std.proofs.lemmas.List.Edits.{map_over_more}
use Rattle.nm_rules.specs.Contents.{stamped}
use Rattle.nm_tree.proofs.rows.stamp.Goals as goal

pub loop-row-preserved : goal.loop-row-preserved
loop-row-preserved c =
    rw (c.stamp_row.ensures, ← c.row-item.is)
    (map_over_more (stamped c.args.change c.args.number) c.deref_mut-row-items.result.now c.loop-row.row-items c.loop-row.row-index c.row-item.result
    c.loop-row-test.true c.loop-row.invariant c.row-item.is)
