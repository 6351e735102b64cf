use Rattle.nm_roll.proofs.LoopLemmas.{gone_on, gone_out}
use Rattle.nm_roll.proofs.rows.add_moved_all.Goals as goal

pub loop-instance-preserved : goal.loop-instance-preserved
loop-instance-preserved c =
    gone_on c.args.lease c.args.clock c.args.fs c.args.instances.now c.loop-instance.instance-index c.instance-item.result _ _ _
    c.loop-instance-test.true c.instance-item.is c.add_moved.ensures c.loop-instance.invariant

pub returns : goal.returns
returns c =
    gone_out c.args.lease c.args.clock c.args.fs c.args.instances.now c.loop-instance.instance-index _ _ c.loop-instance-test.false c.loop-instance.invariant
