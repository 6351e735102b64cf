use Rattle.nm_rules.proofs.LockTables.{owners-apart}
use Rattle.nm_rules.proofs.lock_rows.held_locks_never_conflict.Goals as goal

pub returns : goal.returns
returns c last locks ranges stand owner other file byte differ = owners-apart last locks ranges stand owner other file byte differ
