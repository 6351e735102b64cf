use Rattle.nm_results.proofs.ResultLaws.{results_found, results_again, results_few}
use Rattle.nm_results.proofs.laws.results_are_read_as_spelled.Goals as goal

pub returns-clause-found : goal.returns-clause-found
returns-clause-found c = results_found

pub returns-clause-again : goal.returns-clause-again
returns-clause-again c = results_again

pub returns-clause-few : goal.returns-clause-few
returns-clause-few c = results_few
