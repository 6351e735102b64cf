use Rattle.nm_roll.proofs.LoopLemmas.{settled_on, settled_out}
use Rattle.nm_roll.proofs.rows.settle_all.Goals as goal

pub loop-pass-preserved : goal.loop-pass-preserved
loop-pass-preserved c =
    settled_on c.args.clock c.args.fs c.args.passes.now c.loop-pass.pass-index c.pass-item.result _ _ _
    c.loop-pass-test.true c.pass-item.is c.settle.ensures c.loop-pass.invariant

pub returns : goal.returns
returns c = settled_out c.args.clock c.args.fs c.args.passes.now c.loop-pass.pass-index _ _ c.loop-pass-test.false c.loop-pass.invariant
