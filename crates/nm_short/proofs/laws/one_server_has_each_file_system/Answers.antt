use Rattle.nm_short.proofs.RunLaws.{accounted}
use Rattle.nm_short.proofs.laws.one_server_has_each_file_system.Goals as goal

pub returns : goal.returns
returns c = accounted
