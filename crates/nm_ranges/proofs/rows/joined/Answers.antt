use Rattle.nm_ranges.proofs.RowLemmas.{joined_step, joined_done}
use Rattle.nm_ranges.proofs.rows.joined.Goals as goal

pub loop-row-preserved : goal.loop-row-preserved
loop-row-preserved c = joined_step _ _ _ _ _ _ _ c.loop-row-test.true c.in_ok-join.ensures c.loop-row.invariant

pub returns : goal.returns
returns c = joined_done _ _ _ _ _ c.loop-row-test.false c.in_ok-push_waiting.ensures c.loop-row.invariant
