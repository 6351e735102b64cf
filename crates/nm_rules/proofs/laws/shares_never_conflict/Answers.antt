use Rattle.nm_rules.proofs.ShareLaws.{shares_are_compatible}
use Rattle.nm_rules.proofs.laws.shares_never_conflict.Goals as goal

pub returns : goal.returns
returns c fs grants es legal owner other file ne = shares_are_compatible fs grants es owner other file legal ne
