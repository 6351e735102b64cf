use Rattle.nm_ranges.proofs.RowLemmas.{set_stays}
use Rattle.nm_ranges.proofs.ranges.Ranges.set.Goals as goal

pub invariant_of-self-2 : goal.invariant_of-self-2
invariant_of-self-2 c =
    set_stays c.args.owner c.args.kind c.args.first c.args.last c.self.inside.rows.items c.set_rows.new.rows.items c.args.self.now
    c.self.invariant c.self.view_is c.requires.order c.requires.free c.in_ok-set_rows.ensures.ok
