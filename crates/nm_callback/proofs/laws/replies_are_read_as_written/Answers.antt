use Rattle.nm_callback.proofs.WrittenLaws.{reply_read, reply_body}
use Rattle.nm_callback.proofs.laws.replies_are_read_as_written.Goals as goal

pub returns-clause-read : goal.returns-clause-read
returns-clause-read c = reply_read

pub returns-clause-behind : goal.returns-clause-behind
returns-clause-behind c = reply_body
