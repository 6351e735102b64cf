use Rattle.std.proofs.Common.{rules}
use Rattle.std.proofs.lemmas.Fn.{filter_same}
use Rattle.nm_rules.specs.Locks.{dropped}
use Rattle.nm_ranges.proofs.rows.drop_owner.Goals as goal

pub returns : goal.returns
unfolding dropped
returns c = filter_same _ _ _ (λ row b f' h. search rules) _ _ c.retain.ensures.filtered
