use Rattle.std.proofs.lemmas.List.Edits.{map_over_more}
use Rattle.nm_rules.specs.LockRows.{without}
use Rattle.nm_state.proofs.file_ranges.drop_each.Goals as goal

pub loop-row-preserved : goal.loop-row-preserved
loop-row-preserved c =
    rw (c.drop_of.ensures, ← c.row-item.is)
    (map_over_more (without c.args.instance.now c.args.locks.now) c.deref_mut-row-items.result.now c.loop-row.row-items c.loop-row.row-index c.row-item.result
    c.loop-row-test.true c.loop-row.invariant c.row-item.is)
