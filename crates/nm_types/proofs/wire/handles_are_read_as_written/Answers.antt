use Rattle.nm_types.proofs.WireLaws.{handle_read, handle_written}
use Rattle.nm_types.proofs.wire.handles_are_read_as_written.Goals as goal

pub returns-clause-read : goal.returns-clause-read
returns-clause-read c = handle_read

pub returns-clause-written : goal.returns-clause-written
returns-clause-written c = handle_written
