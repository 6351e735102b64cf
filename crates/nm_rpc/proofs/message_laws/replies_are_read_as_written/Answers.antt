use Rattle.nm_rpc.proofs.ReplyLaws.{said_again, refusal_told}
use Rattle.nm_rpc.specs.Replies.{done}
use Rattle.nm_rpc.proofs.message_laws.replies_are_read_as_written.Goals as goal

pub returns-clause-success : goal.returns-clause-success
returns-clause-success c xid body small = said_again xid (done body) small tt

pub returns-clause-refused : goal.returns-clause-refused
returns-clause-refused c = refusal_told
