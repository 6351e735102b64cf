use Rattle.nm_laws.proofs.StateidLives.{closed_kept}
use Rattle.nm_laws.proofs.stateids.closed_stateids_are_kept_closes.Goals as goal

pub returns : goal.returns
returns c fs grants es legal owner k = closed_kept fs grants es owner k legal
