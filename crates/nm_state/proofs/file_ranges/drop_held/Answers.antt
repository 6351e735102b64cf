use Rattle.std.proofs.Common.{sym, ◌∙◌}
use Rattle.nm_state.proofs.RangeLemmas.{drop_end, drop_step}
use Rattle.nm_state.proofs.file_ranges.drop_held.Goals as goal

pub loop-row-preserved : goal.loop-row-preserved
loop-row-preserved c = drop_step _ _ _ _ _ _ _ c.loop-row-test.true c.row-item.is c.drop_if.ensures c.loop-row.invariant

pub returns : goal.returns
returns c = sym (drop_end _ _ _ _ c.loop-row-test.false) ∙ c.loop-row.invariant
