use Rattle.nm_rules.proofs.Legal.{look-seen}
use Rattle.nm_rules.proofs.laws.tables_show_what_stands.Goals as goal

pub returns : goal.returns
returns c fs grants es legal = look-seen fs grants es legal
