use Rattle.nm_rpc.proofs.ReplyLaws.{reply_found, reply_again}
use Rattle.nm_rpc.proofs.message_laws.replies_are_read_as_spelled.Goals as goal

pub returns-clause-found : goal.returns-clause-found
returns-clause-found c = reply_found

pub returns-clause-again : goal.returns-clause-again
returns-clause-again c = reply_again
