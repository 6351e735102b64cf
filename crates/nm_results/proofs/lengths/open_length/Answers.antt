use Rattle.std.proofs.Common.{arith}
use Rattle.nm_results.proofs.LengthLaws.{open_measured}
use Rattle.nm_results.proofs.lengths.open_length.Goals as goal

pub returns : goal.returns
returns c =
    open_measured c.args.value.now c.stateid_length.result c.change_length.result c.bitmap_length.result c.delegation_length.result c.both-front.result c.both-set.result c.both.result c.both-2.result
    (omega arith) c.both-front.ensures c.both-set.ensures c.both.ensures c.both-2.ensures
    c.stateid_length.ensures c.change_length.ensures (rw c.items.ensures at c.bitmap_length.ensures) c.delegation_length.ensures
