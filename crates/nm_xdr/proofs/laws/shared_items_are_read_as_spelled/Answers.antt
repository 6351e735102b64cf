use Rattle.nm_xdr.proofs.ItemLaws.{word_item}
use Rattle.nm_xdr.proofs.ByteLaws.{bytes_item, only_item, choice_item, inside_item}
use Rattle.nm_xdr.proofs.laws.shared_items_are_read_as_spelled.Goals as goal

pub returns-clause-bytes : goal.returns-clause-bytes
returns-clause-bytes c = bytes_item

pub returns-clause-wanted : goal.returns-clause-wanted
returns-clause-wanted c = only_item

pub returns-clause-choice : goal.returns-clause-choice
returns-clause-choice c = choice_item

pub returns-clause-inside : goal.returns-clause-inside
returns-clause-inside c = λ max small. inside_item max small word_item
