use Rattle.nm_results.proofs.LengthLaws.{row_measured, row_unmeasured, rows_past, rows_measured}
use Rattle.nm_results.specs.Results.{result_bytes, IsOpResult}
use Rattle.nm_results.proofs.lengths.rows_length.Goals as goal

pub returns-in_err-result_length : goal.returns-in_err-result_length
returns-in_err-result_length c =
    rw c.from_residual.ensures (row_unmeasured IsOpResult result_bytes c.loop-item.item-index c.args.results.now c.item-item.result c.loop-item-test.true c.item-item.is c.in_err-result_length.ensures)

pub returns-in_err-sum : goal.returns-in_err-sum
returns-in_err-sum c =
    rw c.from_residual-in_err-sum.ensures (
    rows_past IsOpResult result_bytes c.loop-item.sum c.in_ok-result_length.field-0 c.loop-item.item-index c.args.results.now c.item-item.result
    c.loop-item-test.true c.item-item.is c.in_err-sum.ensures c.in_ok-result_length.ensures c.loop-item.invariant)

pub loop-item-preserved : goal.loop-item-preserved
loop-item-preserved c =
    row_measured IsOpResult result_bytes c.loop-item.sum c.in_ok-result_length.field-0 c.in_ok-sum.sum c.loop-item.item-index c.args.results.now c.item-item.result
    c.loop-item-test.true c.item-item.is c.in_ok-sum.ensures c.in_ok-result_length.ensures c.loop-item.invariant

pub returns : goal.returns
returns c = rows_measured IsOpResult result_bytes c.loop-item.sum c.loop-item.item-index c.args.results.now c.loop-item-test.false c.loop-item.invariant
