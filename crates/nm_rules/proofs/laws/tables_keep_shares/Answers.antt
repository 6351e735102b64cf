use Rattle.nm_rules.proofs.ShareLaws.{share-seen}
use Rattle.nm_rules.proofs.laws.tables_keep_shares.Goals as goal

pub returns : goal.returns
returns c fs grants es legal owner file = share-seen fs grants es owner file legal
