use Rattle.std.proofs.lemmas.Result.{err_from_is_err_and}
use Rattle.nm_attrs.specs.Attributes.{location_at}
use Rattle.nm_items.proofs.RowLaws.{row_taken, rows_taken, row_missing}
use Rattle.nm_attrs.proofs.reading.take_each_location.Goals as goal

pub returns-in_err-take_location : goal.returns-in_err-take_location
returns-in_err-take_location c =
    let p = err_from_is_err_and c.from_residual.result c.from_residual.ensures.1 in
    rw (p.1, p.2) (row_missing location_at c.args.count c.loop.counter c.loop.locations c.loop.cursor c.args.cursor.now c.in_err-take_location.field-0.0 c.loop-test.true c.in_err-take_location.ensures c.loop.invariant)

pub loop-preserved : goal.loop-preserved
loop-preserved c =
    row_taken location_at c.args.count c.loop.counter c.loop.locations c.push.new.self c.loop.cursor c.take_location.new.cursor c.args.cursor.now c.in_ok-take_location.field-0
    c.loop-test.true c.in_ok-push.ensures.ok c.in_ok-take_location.ensures c.loop.invariant

pub returns : goal.returns
returns c = rows_taken location_at c.args.count c.loop.counter c.loop.locations c.loop.cursor c.args.cursor.now c.loop-test.false c.loop.invariant
