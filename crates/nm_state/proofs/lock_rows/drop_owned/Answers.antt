use Rattle.std.proofs.Common.{rules}
use Rattle.std.proofs.lemmas.Fn.{filter_same}
use Rattle.nm_state.proofs.lock_rows.drop_owned.Goals as goal

pub returns : goal.returns
returns c = filter_same _ _ _ (λ row b f' h. search rules) _ _ c.retain.ensures.filtered
