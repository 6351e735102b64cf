use Rattle.nm_callback.proofs.WrittenLaws.{recall_read}
use Rattle.nm_callback.proofs.laws.recalls_are_read_as_written.Goals as goal

pub returns : goal.returns
returns c xid program ident state handle can = recall_read xid program ident state handle can
