use Rattle.nm_laws.proofs.StateidMakers.{lives_told}
use Rattle.nm_laws.proofs.stateids.stateids_live_as_told.Goals as goal

pub returns : goal.returns
returns c fs grants es legal k = lives_told fs grants es k legal
