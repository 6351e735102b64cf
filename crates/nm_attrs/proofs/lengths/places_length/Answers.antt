use Rattle.std.proofs.Common.{arith}
use Rattle.nm_attrs.specs.Attributes.{location}
use Rattle.nm_attrs.proofs.LengthLaws.{row_within}
use Rattle.nm_attrs.proofs.lengths.places_length.Goals as goal

pub location_length-sum-requires : goal.location_length-sum-requires
location_length-sum-requires c = omega (arith, row_within location c.args.places.now c.loop-place.place-index c.loop-place.sum 65536 c.place-item.result c.loop-place-test.true c.place-item.is c.loop-place.invariant c.requires)

pub overflow_add-sum : goal.overflow_add-sum
overflow_add-sum c = omega (arith, row_within location c.args.places.now c.loop-place.place-index c.loop-place.sum 65536 c.place-item.result c.loop-place-test.true c.place-item.is c.loop-place.invariant c.requires, c.location_length-sum.ensures)
