use Rattle.nm_rules.proofs.RangeApart.{cleared_joined, dropped_joined, set_joined}
use Rattle.nm_rules.proofs.lock_laws.ranges_stay_joined.Goals as goal

pub returns : goal.returns
returns c = record {
  set = λ rows owner kind first last kept order none. set_joined owner kind first last rows kept order none;
  cleared = λ rows owner first last kept order. cleared_joined owner first last rows kept order;
  dropped = λ rows owner kept. dropped_joined owner rows kept;
}
