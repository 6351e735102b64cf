use Rattle.std.proofs.Common.{arith}
use Rattle.nm_ranges.proofs.CountLemmas.{came_more}
use Rattle.nm_ranges.proofs.counts.count_set.Goals as goal

pub loop-row-preserved : goal.loop-row-preserved
loop-row-preserved c = record {
  came = came_more c.args.new.now c.args.rows.now c.loop-row.row-index _ c.loop-row.counting c.take_cut-counting.result
      c.loop-row-test.true c.loop-row.invariant.came c.take_cut-counting.ensures.took;
  few = omega (arith, c.take_cut-counting.ensures.few, c.loop-row.invariant.few);
}
