use Rattle.nm_laws.proofs.LockStateids.{locks_told, locks_whole}
use Rattle.nm_laws.proofs.stateids.lock_stateids_are_told.Goals as goal

pub returns-clause-stateid : goal.returns-clause-stateid
returns-clause-stateid c fs grants es legal owner file = locks_told fs grants es owner file legal

pub returns-clause-row : goal.returns-clause-row
returns-clause-row c fs grants es legal owner file = locks_whole fs grants es owner file legal
