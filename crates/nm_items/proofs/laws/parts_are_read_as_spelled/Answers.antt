use Rattle.nm_items.proofs.PartItems.{stateid_item, ref_item, handle_item, fattr_item}
use Rattle.nm_items.proofs.laws.parts_are_read_as_spelled.Goals as goal

pub returns-clause-numbers : goal.returns-clause-numbers
returns-clause-numbers c = stateid_item

pub returns-clause-stateids : goal.returns-clause-stateids
returns-clause-stateids c = ref_item

pub returns-clause-handles : goal.returns-clause-handles
returns-clause-handles c = handle_item

pub returns-clause-attributes : goal.returns-clause-attributes
returns-clause-attributes c = fattr_item
