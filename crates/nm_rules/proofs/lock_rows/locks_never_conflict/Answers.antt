use Rattle.nm_rules.proofs.LegalLocks.{bytes-apart}
use Rattle.nm_rules.proofs.lock_rows.locks_never_conflict.Goals as goal

pub returns : goal.returns
returns c fs grants es legal owner other file byte differ = bytes-apart fs grants es owner other file byte legal differ
