use Rattle.nm_items.proofs.PartItems.{same_numbers, from_spelled, found_again}
use Rattle.nm_items.proofs.laws.stateids_are_told_apart.Goals as goal

pub returns-clause-bytes : goal.returns-clause-bytes
returns-clause-bytes c = from_spelled

pub returns-clause-numbers : goal.returns-clause-numbers
returns-clause-numbers c = same_numbers

pub returns-clause-again : goal.returns-clause-again
returns-clause-again c = found_again
