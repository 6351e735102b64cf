use Rattle.nm_results.proofs.LengthLaws.{address_measured}
use Rattle.nm_results.proofs.lengths.address_length.Goals as goal

pub returns : goal.returns
returns c =
    address_measured c.args.value.now c.opaque_length-netid.result c.opaque_length-addr.result c.both.result c.both.ensures
    (rw c.items.ensures at c.opaque_length-netid.ensures) (rw c.items-2.ensures at c.opaque_length-addr.ensures)
