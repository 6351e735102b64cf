use Rattle.nm_rules.proofs.Legal.{sound-seen}
use Rattle.nm_rules.proofs.laws.legal_tables_are_sound.Goals as goal

pub returns : goal.returns
returns c fs grants es legal = sound-seen fs grants es legal
