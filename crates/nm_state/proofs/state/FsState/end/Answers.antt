use Rattle.nm_state.proofs.OpeningLemmas.{ended_is, ends_sound}
use Rattle.nm_state.proofs.state.FsState.end.Goals as goal

pub invariant_of-self : goal.invariant_of-self
invariant_of-self c = λ unspent. ends_sound _ _ _ (c.self.invariant unspent) c.end.ensures

pub returns : goal.returns
returns c = ended_is _ _ _ _ _ c.self.view_is c.end.ensures
