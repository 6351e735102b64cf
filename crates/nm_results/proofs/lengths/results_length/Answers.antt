use Rattle.std.proofs.Common.{length, ap, arith}
use Rattle.nm_results.proofs.LengthLaws.{results_measured}
use Rattle.nm_results.proofs.lengths.results_length.Goals as goal

pub returns : goal.returns
returns c =
    results_measured c.args.value.now c.opaque_length-tag.result c.rows_length-rows.result c.both.result c.both-2.result (omega (arith, c.if-items.false, ap length c.items.ensures)) c.both.ensures c.both-2.ensures
    (rw c.items-2.ensures at c.opaque_length-tag.ensures) (rw c.items-3.ensures at c.rows_length-rows.ensures)
