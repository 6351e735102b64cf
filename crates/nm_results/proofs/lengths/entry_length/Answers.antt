use Rattle.std.proofs.Common.{arith}
use Rattle.nm_results.proofs.LengthLaws.{entry_measured}
use Rattle.nm_results.proofs.lengths.entry_length.Goals as goal

pub returns : goal.returns
returns c =
    entry_measured c.args.value.now c.opaque_length-name.result c.fattr_length.result c.both.result c.both-2.result (omega arith) c.both.ensures c.both-2.ensures
    (rw c.items.ensures at c.opaque_length-name.ensures) c.fattr_length.ensures
