use Rattle.std.proofs.Common.{rules}
use Rattle.std.proofs.lemmas.Fn.{filter_same}
use Rattle.nm_short.specs.Known.{put_down}
use Rattle.nm_short.proofs.clients.drop_hand.Goals as goal

pub returns : goal.returns
unfolding put_down
returns c = filter_same _ _ _ (λ row b f' h. search rules) _ _ c.retain.ensures.filtered
