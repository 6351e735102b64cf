use Rattle.nm_laws.proofs.TreeLaws.{change-seen, change_number-seen}
use Rattle.nm_laws.proofs.files.changes_are_counted.Goals as goal

pub returns-clause-last : goal.returns-clause-last
returns-clause-last c fs grants es legal = change-seen fs grants es legal

pub returns-clause-files : goal.returns-clause-files
returns-clause-files c fs grants es legal file row found = change_number-seen fs grants es legal file row found
