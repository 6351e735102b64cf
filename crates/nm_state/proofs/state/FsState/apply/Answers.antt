use Rattle.nm_state.proofs.OpeningLemmas.{applied_sound}
use Rattle.nm_state.proofs.state.FsState.apply.Goals as goal

pub invariant_of-self : goal.invariant_of-self
invariant_of-self c = λ _. applied_sound _ _ _ _ (c.self.invariant c.if-self.false) c.in-Ok.ensures
