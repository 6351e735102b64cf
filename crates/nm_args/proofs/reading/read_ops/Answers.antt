use Rattle.std.proofs.lemmas.Result.{err_from_is_err_and}
use Rattle.std.proofs.Common.{arith}
use Rattle.nm_args.proofs.LoopLaws.{op_taken, ops_end, op_missing, ops_left_over, ops_clean}
use Rattle.nm_args.proofs.reading.read_ops.Goals as goal

pub returns-in_err-op : goal.returns-in_err-op
returns-in_err-op c =
    let p = err_from_is_err_and c.from_residual-in_err-op.result c.from_residual-in_err-op.ensures.1 in
    rw (p.1, p.2) (op_missing c.args.count c.loop.counter c.loop.ops c.loop.cursor c.args.cursor.now c.in_err-op.field-0.0 c.loop-test.true c.in_err-op.ensures c.loop.invariant)

pub returns-in-End : goal.returns-in-End
returns-in-End c =
    ops_end c.args.count c.loop.counter c.loop.ops c.loop.cursor c.args.cursor.now c.in-End.end c.loop-test.true (rw c.in-End.is at c.in_ok-op.ensures) c.loop.invariant

pub loop-preserved : goal.loop-preserved
loop-preserved c =
    op_taken c.args.count c.loop.counter c.loop.ops c.push.new.self c.loop.cursor c.take_next.new.cursor c.args.cursor.now c.in-One.op c.loop-test.true
    c.in_ok-push-in-One.ensures.ok (rw c.in-One.is at c.in_ok-op.ensures) c.loop.invariant

pub returns-then-left-gt0 : goal.returns-then-left-gt0
returns-then-left-gt0 c =
    rw c.left_over.ensures (ops_left_over c.args.count c.loop.counter c.loop.ops c.loop.cursor c.args.cursor.now c.loop-test.false (omega arith) c.loop.invariant)

pub returns : goal.returns
returns c = ops_clean c.args.count c.loop.counter c.loop.ops c.loop.cursor c.args.cursor.now c.loop-test.false (omega arith) c.loop.invariant
