use Rattle.nm_xdr.proofs.ExactLaws.{exact_of}
use Rattle.nm_items.proofs.PartItems.{bitmap_item}
use Rattle.nm_attrs.proofs.laws.bitmaps_are_read_as_spelled.Goals as goal

pub returns-clause-item : goal.returns-clause-item
returns-clause-item c = bitmap_item

pub returns-clause-exact : goal.returns-clause-exact
returns-clause-exact c = exact_of bitmap_item
