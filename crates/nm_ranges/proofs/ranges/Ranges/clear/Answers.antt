use Rattle.nm_ranges.proofs.RowLemmas.{clear_stays}
use Rattle.nm_ranges.proofs.ranges.Ranges.clear.Goals as goal

pub invariant_of-self-2 : goal.invariant_of-self-2
invariant_of-self-2 c =
    clear_stays c.args.owner c.args.first c.args.last c.self.inside.rows.items c.clear_rows.new.rows.items c.self.invariant c.requires.order c.in_ok-clear_rows.ensures.ok
