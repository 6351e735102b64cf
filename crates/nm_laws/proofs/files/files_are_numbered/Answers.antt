use Rattle.nm_laws.proofs.TreeLaws.{last_file-seen, number-seen}
use Rattle.nm_laws.proofs.files.files_are_numbered.Goals as goal

pub returns-clause-last : goal.returns-clause-last
returns-clause-last c fs grants es legal = last_file-seen fs grants es legal

pub returns-clause-told : goal.returns-clause-told
returns-clause-told c fs grants es event new legal adds = number-seen fs grants es event new legal adds
