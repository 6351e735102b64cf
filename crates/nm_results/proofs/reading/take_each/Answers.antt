use Rattle.std.proofs.lemmas.Result.{err_from_is_err_and}
use Rattle.nm_items.proofs.RowLaws.{row_taken, rows_taken, row_missing}
use Rattle.nm_results.specs.Results.{result_at}
use Rattle.nm_results.proofs.reading.take_each.Goals as goal

pub returns-in_err-take_result : goal.returns-in_err-take_result
returns-in_err-take_result c =
    let p = err_from_is_err_and c.from_residual.result c.from_residual.ensures.1 in
    rw (p.1, p.2) (row_missing result_at c.args.count c.loop.counter c.loop.results c.loop.cursor c.args.cursor.now c.in_err-take_result.field-0.0 c.loop-test.true c.in_err-take_result.ensures c.loop.invariant)

pub loop-preserved : goal.loop-preserved
loop-preserved c =
    row_taken result_at c.args.count c.loop.counter c.loop.results c.push.new.self c.loop.cursor c.take_result.new.cursor c.args.cursor.now c.in_ok-take_result.field-0
    c.loop-test.true c.in_ok-push.ensures.ok c.in_ok-take_result.ensures c.loop.invariant

pub returns : goal.returns
returns c = rows_taken result_at c.args.count c.loop.counter c.loop.results c.loop.cursor c.args.cursor.now c.loop-test.false c.loop.invariant
