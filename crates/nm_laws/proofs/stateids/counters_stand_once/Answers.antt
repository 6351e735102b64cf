use Rattle.nm_laws.proofs.ClosedCounters.{one_closed}
use Rattle.nm_laws.proofs.StateidOnce.{one_each}
use Rattle.nm_laws.proofs.StateidOrder.{held_in_order}
use Rattle.nm_laws.proofs.stateids.counters_stand_once.Goals as goal

pub returns-clause-once : goal.returns-clause-once
returns-clause-once c fs grants es legal k = one_each fs grants es k legal

pub returns-clause-rising : goal.returns-clause-rising
returns-clause-rising c fs grants es legal = held_in_order fs grants es legal

pub returns-clause-closed : goal.returns-clause-closed
returns-clause-closed c fs grants es legal k = one_closed fs grants es k legal
