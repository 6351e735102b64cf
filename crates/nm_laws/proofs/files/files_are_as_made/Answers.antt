use Rattle.nm_laws.proofs.TreeLaws.{kind-seen, verifier-seen}
use Rattle.nm_laws.proofs.files.files_are_as_made.Goals as goal

pub returns-clause-kinds : goal.returns-clause-kinds
returns-clause-kinds c fs grants es legal file row found = kind-seen fs grants es legal file row found

pub returns-clause-verifiers : goal.returns-clause-verifiers
returns-clause-verifiers c fs grants es legal file row found = verifier-seen fs grants es legal file row found
