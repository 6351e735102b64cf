use Rattle.nm_rules.proofs.LegalLocks.{stand-seen}
use Rattle.nm_rules.proofs.lock_rows.legal_locks_stand.Goals as goal

pub returns : goal.returns
returns c fs grants es legal = stand-seen fs grants es legal
