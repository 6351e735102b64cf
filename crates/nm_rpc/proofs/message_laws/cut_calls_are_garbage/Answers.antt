use Rattle.nm_rpc.proofs.CutCalls.{short_is_no_call, cut_is_garbage}
use Rattle.nm_rpc.proofs.message_laws.cut_calls_are_garbage.Goals as goal

pub returns-clause-short : goal.returns-clause-short
returns-clause-short c = short_is_no_call

pub returns-clause-garbage : goal.returns-clause-garbage
returns-clause-garbage c = cut_is_garbage
