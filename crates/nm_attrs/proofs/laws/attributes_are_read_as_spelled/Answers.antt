use Rattle.nm_attrs.proofs.FattrLaws.{fattr_found, fattr_again}
use Rattle.nm_attrs.proofs.laws.attributes_are_read_as_spelled.Goals as goal

pub returns-clause-found : goal.returns-clause-found
returns-clause-found c = fattr_found

pub returns-clause-again : goal.returns-clause-again
returns-clause-again c = fattr_again
