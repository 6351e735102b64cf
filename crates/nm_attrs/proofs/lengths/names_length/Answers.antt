use Rattle.std.proofs.Common.{length, ap, arith}
use Rattle.nm_xdr.specs.Items.{opaque}
use Rattle.nm_attrs.proofs.LengthLaws.{row_within}
use Rattle.nm_attrs.proofs.lengths.names_length.Goals as goal

pub opaque_length-sum-requires : goal.opaque_length-sum-requires
opaque_length-sum-requires c = rw c.items.ensures (omega (arith, row_within opaque c.args.names.now c.loop-name.name-index c.loop-name.sum 65536 c.name-item.result c.loop-name-test.true c.name-item.is c.loop-name.invariant c.requires))

pub overflow_add-sum : goal.overflow_add-sum
overflow_add-sum c = omega (arith, row_within opaque c.args.names.now c.loop-name.name-index c.loop-name.sum 65536 c.name-item.result c.loop-name-test.true c.name-item.is c.loop-name.invariant c.requires, c.opaque_length-sum.ensures, ap length (ap opaque c.items.ensures))
