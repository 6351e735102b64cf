use Rattle.nm_results.proofs.LengthLaws.{create_measured}
use Rattle.nm_results.proofs.lengths.create_length.Goals as goal

pub returns : goal.returns
returns c =
    create_measured c.args.value.now c.change_length.result c.bitmap_length.result c.both.result c.both.ensures c.change_length.ensures (rw c.items.ensures at c.bitmap_length.ensures)
