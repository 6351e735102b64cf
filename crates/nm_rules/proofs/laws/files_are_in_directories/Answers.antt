use Rattle.nm_rules.proofs.ParentLaws.{parents-seen}
use Rattle.nm_rules.proofs.laws.files_are_in_directories.Goals as goal

pub returns : goal.returns
returns c fs grants es legal = parents-seen fs grants es legal
