use Rattle.nm_laws.proofs.StateidLives.{locks_are_opened}
use Rattle.nm_laws.proofs.stateids.lock_stateids_have_their_opens.Goals as goal

pub returns : goal.returns
returns c fs grants es legal = locks_are_opened fs grants es legal
