use Rattle.nm_ranges.proofs.RowLemmas.{copy_stays}
use Rattle.nm_ranges.proofs.ranges.Ranges.copy.Goals as goal

pub invariant_of-result : goal.invariant_of-result
invariant_of-result c = copy_stays c.self.inside.rows.items c.in_ok-copy_rows.field-0.items c.self.invariant c.in_ok-copy_rows.ensures
