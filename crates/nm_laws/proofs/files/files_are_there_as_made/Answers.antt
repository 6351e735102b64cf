use Rattle.nm_laws.proofs.TreeLaws.{child-seen, there-seen}
use Rattle.nm_laws.proofs.files.files_are_there_as_made.Goals as goal

pub returns-clause-files : goal.returns-clause-files
returns-clause-files c fs grants es legal file = there-seen fs grants es legal file

pub returns-clause-names : goal.returns-clause-names
returns-clause-names c fs grants es legal dir name = child-seen fs grants es legal dir name
