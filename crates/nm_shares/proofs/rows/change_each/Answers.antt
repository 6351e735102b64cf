use Rattle.std.proofs.lemmas.List.Edits.{map_over_more}
use Rattle.nm_shares.specs.Rows.{changed_at}
use Rattle.nm_shares.proofs.rows.change_each.Goals as goal

pub loop-row-preserved : goal.loop-row-preserved
loop-row-preserved c =
    rw (c.change_at.ensures, ← c.row-item.is)
    (map_over_more (changed_at c.args.counter c.args.change) c.deref_mut-row-items.result.now c.loop-row.row-items c.loop-row.row-index c.row-item.result
    c.loop-row-test.true c.loop-row.invariant c.row-item.is)
