use Rattle.nm_rpc.proofs.WrittenLaws.{written_again}
use Rattle.nm_rpc.proofs.stream_laws.spelled_records_are_given.Goals as goal

pub returns : goal.returns
returns c = written_again
