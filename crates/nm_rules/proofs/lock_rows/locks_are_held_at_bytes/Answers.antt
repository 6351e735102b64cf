use Rattle.nm_rules.proofs.LockTables.{held-after}
use Rattle.nm_rules.proofs.lock_rows.locks_are_held_at_bytes.Goals as goal

pub returns : goal.returns
returns c word last locks ranges stand follows owner file byte = held-after word last locks ranges stand follows owner file byte
