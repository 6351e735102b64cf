use Rattle.nm_rpc.proofs.LimitLaws.{after_splits, after_fits, after_refused}
use Rattle.nm_rpc.proofs.WholeLaws.{after_little}
use Rattle.nm_rpc.proofs.stream_laws.held_is_of_the_stream.Goals as goal

pub returns-clause-split : goal.returns-clause-split
returns-clause-split c = after_splits

pub returns-clause-fits : goal.returns-clause-fits
returns-clause-fits c = after_fits

pub returns-clause-refused : goal.returns-clause-refused
returns-clause-refused c = after_refused

pub returns-clause-little : goal.returns-clause-little
returns-clause-little c = after_little
