use Rattle.std.proofs.lemmas.List.Edits.{map_over_more}
use Rattle.nm_short.specs.Known.{renewed_held}
use Rattle.nm_short.proofs.clients.renew_held.Goals as goal

pub loop-row-preserved : goal.loop-row-preserved
loop-row-preserved c =
    rw (c.renew_row.ensures, ← c.row-item.is)
    (map_over_more (renewed_held c.args.client c.args.a.now c.args.id) c.deref_mut-row-items.result.now c.loop-row.row-items c.loop-row.row-index c.row-item.result
    c.loop-row-test.true c.loop-row.invariant c.row-item.is)
