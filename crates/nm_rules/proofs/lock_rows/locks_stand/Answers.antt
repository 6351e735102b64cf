use Rattle.nm_rules.proofs.LockTables.{stand-after}
use Rattle.nm_rules.proofs.lock_rows.locks_stand.Goals as goal

pub returns : goal.returns
returns c word last locks ranges stand follows = stand-after word last locks ranges stand follows
