use Rattle.nm_ranges.proofs.RowLemmas.{drop_stays}
use Rattle.nm_ranges.proofs.ranges.Ranges.drop_owner.Goals as goal

pub invariant_of-self : goal.invariant_of-self
invariant_of-self c = drop_stays c.args.owner c.self.inside.rows.items c.drop_owner.new.rows.items c.self.invariant c.drop_owner.ensures
