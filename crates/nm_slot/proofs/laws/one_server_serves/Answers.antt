use Rattle.nm_slot.proofs.HistoryLaws.{one_serves}
use Rattle.nm_slot.proofs.laws.one_server_serves.Goals as goal

pub returns : goal.returns
returns c home h s = one_serves home h s
