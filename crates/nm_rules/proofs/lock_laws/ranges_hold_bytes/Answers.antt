use Rattle.nm_rules.proofs.RangeBytes.{kind_at-cleared, kind_at-dropped, kind_at-set}
use Rattle.nm_rules.proofs.RangeRows.{rise_of}
use Rattle.nm_rules.proofs.lock_laws.ranges_hold_bytes.Goals as goal

pub returns : goal.returns
returns c = record {
  set = λ rows owner kind first last kept order other p. kind_at-set owner kind first last rows other p order (rise_of rows kept.rising);
  cleared = λ rows owner first last kept order other p. kind_at-cleared owner first last rows other p;
  dropped = λ rows owner other p. kind_at-dropped owner rows other p;
}
