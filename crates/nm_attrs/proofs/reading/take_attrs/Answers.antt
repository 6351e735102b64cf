use Rattle.std.proofs.lemmas.Result.{err_from_is_err_and}
use Rattle.nm_attrs.proofs.AttrLaws.{attr_taken, attrs_taken, attr_missing}
use Rattle.nm_attrs.proofs.reading.take_attrs.Goals as goal

pub returns-in_err-attrs : goal.returns-in_err-attrs
returns-in_err-attrs c =
    let p = err_from_is_err_and c.from_residual.result c.from_residual.ensures.1 in
    rw (p.1, p.2) (attr_missing c.args.bitmap.now c.args.layouts.now c.loop-layout.layout-index _ c.loop-layout.attrs c.loop-layout.cursor c.args.cursor.now c.in_err-attrs.field-0.0
    c.loop-layout-test.true c.in_err-attrs.ensures c.loop-layout.invariant)

pub loop-layout-preserved : goal.loop-layout-preserved
loop-layout-preserved c =
    attr_taken c.args.bitmap.now c.args.layouts.now c.loop-layout.layout-index _ c.loop-layout.attrs c.in_ok-attrs.attrs c.loop-layout.cursor c.take_if_asked.new.cursor c.args.cursor.now
    c.loop-layout-test.true c.in_ok-attrs.ensures c.loop-layout.invariant

pub returns : goal.returns
returns c =
    attrs_taken c.args.bitmap.now c.args.layouts.now c.loop-layout.layout-index c.loop-layout.attrs c.loop-layout.cursor c.args.cursor.now c.loop-layout-test.false c.loop-layout.invariant
