use Rattle.nm_laws.proofs.OpenStateids.{opens_told, opens_whole}
use Rattle.nm_laws.proofs.stateids.open_stateids_are_told.Goals as goal

pub returns-clause-stateid : goal.returns-clause-stateid
returns-clause-stateid c fs grants es legal owner file = opens_told fs grants es owner file legal

pub returns-clause-row : goal.returns-clause-row
returns-clause-row c fs grants es legal owner file = opens_whole fs grants es owner file legal
