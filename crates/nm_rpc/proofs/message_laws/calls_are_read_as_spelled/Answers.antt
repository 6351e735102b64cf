use Rattle.nm_rpc.proofs.CallLaws.{call_found, call_again}
use Rattle.nm_rpc.proofs.message_laws.calls_are_read_as_spelled.Goals as goal

pub returns-clause-found : goal.returns-clause-found
returns-clause-found c = call_found

pub returns-clause-again : goal.returns-clause-again
returns-clause-again c = call_again
