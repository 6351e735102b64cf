use Rattle.nm_rules.proofs.RangeSame.{joined_same}
use Rattle.nm_rules.proofs.RangeRows.{rise_of}
use Rattle.nm_rules.proofs.lock_laws.joined_ranges_are_told_by_bytes.Goals as goal

pub returns : goal.returns
returns c rows others kept its same = joined_same rows others (rise_of rows kept.rising) (rise_of others its.rising) same
