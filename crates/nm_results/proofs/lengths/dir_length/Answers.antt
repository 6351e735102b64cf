use Rattle.std.proofs.Common.{arith}
use Rattle.nm_results.proofs.LengthLaws.{dir_measured}
use Rattle.nm_results.proofs.lengths.dir_length.Goals as goal

pub returns : goal.returns
returns c =
    dir_measured c.args.value.now c.entries_length.result c.both.result (omega arith) c.both.ensures (rw c.items.ensures at c.entries_length.ensures)
