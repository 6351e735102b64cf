use Rattle.nm_xdr.proofs.ItemLaws.{word_item, hyper_item, flag_item, fixed_item, opaque_item}
use Rattle.nm_xdr.proofs.laws.items_are_read_as_spelled.Goals as goal

pub returns-clause-words : goal.returns-clause-words
returns-clause-words c = word_item

pub returns-clause-hypers : goal.returns-clause-hypers
returns-clause-hypers c = hyper_item

pub returns-clause-flags : goal.returns-clause-flags
returns-clause-flags c = flag_item

pub returns-clause-fixed : goal.returns-clause-fixed
returns-clause-fixed c = fixed_item

pub returns-clause-opaque : goal.returns-clause-opaque
returns-clause-opaque c = opaque_item
