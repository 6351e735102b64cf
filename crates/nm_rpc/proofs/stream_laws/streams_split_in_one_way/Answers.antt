use Rattle.nm_rpc.proofs.RunLaws.{one_splitting}
use Rattle.nm_rpc.proofs.LimitLaws.{one_refusal}
use Rattle.nm_rpc.proofs.stream_laws.streams_split_in_one_way.Goals as goal

pub returns-clause-records : goal.returns-clause-records
returns-clause-records c = one_splitting

pub returns-clause-refusal : goal.returns-clause-refusal
returns-clause-refusal c = one_refusal
