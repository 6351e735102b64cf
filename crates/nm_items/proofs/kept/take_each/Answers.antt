use Rattle.std.proofs.Common.{◌∷◌, [], length, ap, arith}
use Rattle.std.proofs.lemmas.List.{length-append}
use Rattle.std.proofs.lemmas.Result.{err_from_is_err_and}
use Rattle.nm_xdr.specs.Items.{word_at}
use Rattle.nm_items.specs.declared.fault.ReadFault.TheVariants.{Xdr}
use Rattle.nm_items.proofs.RowLaws.{row_taken, rows_taken, row_missing}
use Rattle.nm_items.proofs.kept.take_each.Goals as goal

pub returns-in_err-take_u32-clause-item : goal.returns-in_err-take_u32-clause-item
returns-in_err-take_u32-clause-item c =
    let p = err_from_is_err_and c.from_residual.result c.from_residual.ensures.1 in
    rw (p.1, p.2) (row_missing word_at c.args.count c.loop.counter c.loop.words c.loop.cursor c.args.cursor.now (Xdr c.in_err-take_u32.field-0.0) c.loop-test.true c.in_err-take_u32.ensures.item c.loop.invariant.left)

pub loop-preserved : goal.loop-preserved
loop-preserved c = record {
  left =
      row_taken word_at c.args.count c.loop.counter c.loop.words c.push.new.self c.loop.cursor c.take_u32.new.self c.args.cursor.now c.in_ok-take_u32.field-0
      c.loop-test.true c.in_ok-push.ensures.ok c.in_ok-take_u32.ensures.item c.loop.invariant.left;
  few = omega (arith, ap length c.in_ok-push.ensures.ok, length-append c.loop.words (c.in_ok-take_u32.field-0 ∷ []), c.loop.invariant.few);
}

pub returns-clause-item : goal.returns-clause-item
returns-clause-item c = rows_taken word_at c.args.count c.loop.counter c.loop.words c.loop.cursor c.args.cursor.now c.loop-test.false c.loop.invariant.left
