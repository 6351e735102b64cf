use Rattle.std.proofs.Common.{None}
use Rattle.std.proofs.lemmas.List.Edits.{map_over_more}
use Rattle.nm_rules.specs.Contents.{edited_at}
use Rattle.nm_rules.specs.Contents.FileEdit.{Set}
use Rattle.nm_tree.proofs.rows.set_mode.Goals as goal

pub loop-row-preserved : goal.loop-row-preserved
loop-row-preserved c =
    rw (c.set_row.ensures, ← c.row-item.is)
    (map_over_more (edited_at c.args.change c.args.dir c.args.number (Set None c.args.mode)) c.deref_mut-row-items.result.now c.loop-row.row-items c.loop-row.row-index c.row-item.result
    c.loop-row-test.true c.loop-row.invariant c.row-item.is)
