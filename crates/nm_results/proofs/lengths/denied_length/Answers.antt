use Rattle.std.proofs.Common.{arith}
use Rattle.nm_results.proofs.LengthLaws.{denied_measured}
use Rattle.nm_results.proofs.lengths.denied_length.Goals as goal

pub returns : goal.returns
returns c =
    denied_measured c.args.value.now c.opaque_length.result c.both.result (omega arith) (omega arith) (omega arith) c.both.ensures
    (rw c.items.ensures at c.opaque_length.ensures)
