use Rattle.nm_rules.proofs.RangeApart.{free_at, none_meet}
use Rattle.nm_rules.proofs.lock_laws.ranges_never_conflict.Goals as goal

pub returns : goal.returns
returns c rows owner p kind kept at = free_at owner p kind rows (none_meet rows kept.apart) at
