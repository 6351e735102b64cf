use Rattle.nm_results.proofs.ResultPlaceLaws.{begins, place_found, none_found}
use Rattle.nm_results.proofs.laws.results_have_places.Goals as goal

pub returns-clause-each : goal.returns-clause-each
returns-clause-each c = begins

pub returns-clause-found : goal.returns-clause-found
returns-clause-found c = place_found

pub returns-clause-no_more : goal.returns-clause-no_more
returns-clause-no_more c = none_found
