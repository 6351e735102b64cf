use Rattle.nm_rpc.proofs.WrittenCalls.{written_read}
use Rattle.nm_rpc.proofs.message_laws.calls_are_read_as_written.Goals as goal

pub returns : goal.returns
returns c services head body is spelled served = written_read services head body is spelled served
