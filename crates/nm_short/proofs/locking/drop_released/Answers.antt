use Rattle.std.proofs.Common.{rules}
use Rattle.std.proofs.lemmas.Fn.{filter_same}
use Rattle.nm_short.specs.Known.{still_held}
use Rattle.nm_short.proofs.locking.drop_released.Goals as goal

pub returns : goal.returns
unfolding still_held
returns c = filter_same _ _ _ (λ row b f' h. search rules) _ _ c.retain.ensures.filtered
