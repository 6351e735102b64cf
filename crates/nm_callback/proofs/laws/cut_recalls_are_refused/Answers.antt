use Rattle.nm_callback.proofs.CutRecalls.{cut_is_refused}
use Rattle.nm_callback.proofs.laws.cut_recalls_are_refused.Goals as goal

pub returns : goal.returns
returns c xid program ident state handle front more can e some = cut_is_refused xid program ident state handle front more can e some
