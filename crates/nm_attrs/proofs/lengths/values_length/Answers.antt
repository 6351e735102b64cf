use Rattle.std.proofs.Common.{arith}
use Rattle.nm_attrs.specs.Attributes.{value_bytes}
use Rattle.nm_attrs.proofs.LengthLaws.{row_within}
use Rattle.nm_attrs.proofs.lengths.values_length.Goals as goal

pub value_length-sum-requires : goal.value_length-sum-requires
value_length-sum-requires c = omega (arith, row_within (λ a. value_bytes a.value) c.args.attrs.now c.loop-attr.attr-index c.loop-attr.sum 65536 c.attr-item.result c.loop-attr-test.true c.attr-item.is c.loop-attr.invariant c.requires)

pub overflow_add-sum : goal.overflow_add-sum
overflow_add-sum c = omega (arith, row_within (λ a. value_bytes a.value) c.args.attrs.now c.loop-attr.attr-index c.loop-attr.sum 65536 c.attr-item.result c.loop-attr-test.true c.attr-item.is c.loop-attr.invariant c.requires, c.value_length-sum.ensures)
