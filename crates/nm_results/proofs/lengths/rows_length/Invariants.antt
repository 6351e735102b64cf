use Rattle.nm_results.specs.Results.{result_bytes, IsOpResult}
use Rattle.nm_results.proofs.LengthLaws.{RowsLong}
use Rattle.nm_results.proofs.lengths.rows_length.Given as goal

-- those so far are measured
abbrev pub invariant-loop-item : goal.invariant-loop-item
invariant-loop-item l = RowsLong IsOpResult result_bytes l.sum l.item-index l.results
