use Rattle.nm_callback.proofs.ReadLaws.{callback_found, callback_again}
use Rattle.nm_callback.proofs.laws.callbacks_are_read_as_spelled.Goals as goal

pub returns-clause-found : goal.returns-clause-found
returns-clause-found c = callback_found

pub returns-clause-again : goal.returns-clause-again
returns-clause-again c = callback_again
