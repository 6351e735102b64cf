use Rattle.nm_attrs.proofs.LeastLaws.{told_is_least, least_is_told}
use Rattle.nm_attrs.proofs.laws.the_least_unsupported_is_told.Goals as goal

pub returns-clause-found : goal.returns-clause-found
returns-clause-found c = told_is_least

pub returns-clause-again : goal.returns-clause-again
returns-clause-again c = least_is_told
