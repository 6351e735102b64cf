use Rattle.std.proofs.Common.{◌∙◌}
use Rattle.nm_state.proofs.RangeLemmas.{taken_end, taken_step}
use Rattle.nm_state.proofs.file_ranges.taken_with.Goals as goal

pub loop-row-preserved : goal.loop-row-preserved
loop-row-preserved c =
    taken_step _ _ _ _ _ _ _ _ _ _ _ c.loop-row-test.true c.row-item.is c.adds.ensures c.waits_after-waits.ensures c.saturating_add-count.ensures c.loop-row.invariant

pub returns : goal.returns
returns c = c.saturating_add.ensures ∙ taken_end _ _ _ _ _ _ _ _ c.loop-row-test.false c.adds_last.ensures c.loop-row.invariant
