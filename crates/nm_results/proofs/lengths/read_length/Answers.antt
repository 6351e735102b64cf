use Rattle.nm_results.proofs.LengthLaws.{read_measured}
use Rattle.nm_results.proofs.lengths.read_length.Goals as goal

pub returns : goal.returns
returns c = read_measured c.args.value.now c.opaque_length.result c.both.result c.both.ensures (rw c.items.ensures at c.opaque_length.ensures)
