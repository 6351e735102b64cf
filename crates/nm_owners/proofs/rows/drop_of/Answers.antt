use Rattle.std.proofs.Common.{rules}
use Rattle.std.proofs.lemmas.Fn.{filter_same}
use Rattle.nm_rules.specs.Seqids.{owners_after}
use Rattle.nm_owners.proofs.rows.drop_of.Goals as goal

pub returns : goal.returns
unfolding owners_after
returns c = filter_same _ _ _ (λ row b f' h. search rules) _ _ c.retain.ensures.filtered
