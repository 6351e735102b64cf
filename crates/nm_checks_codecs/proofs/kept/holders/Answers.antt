use Rattle.nm_checks_codecs.proofs.HolderLaws.{two_rise}
use Rattle.nm_checks_codecs.proofs.kept.holders.Goals as goal

pub returns : goal.returns
returns c = two_rise c.in-Ok.first c.in-Ok-make.second c.in-Ok.ensures.value.0 c.in-Ok-make.ensures.value.0
