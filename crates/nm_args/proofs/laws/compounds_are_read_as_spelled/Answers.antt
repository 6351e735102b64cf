use Rattle.nm_args.proofs.WholeLaws.{compound_found, compound_again, compound_few}
use Rattle.nm_args.proofs.laws.compounds_are_read_as_spelled.Goals as goal

pub returns-clause-found : goal.returns-clause-found
returns-clause-found c = compound_found

pub returns-clause-again : goal.returns-clause-again
returns-clause-again c = compound_again

pub returns-clause-few : goal.returns-clause-few
returns-clause-few c = compound_few
