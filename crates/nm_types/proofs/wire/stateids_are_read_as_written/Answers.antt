use Rattle.nm_types.proofs.WireLaws.{zeros_read, ones_read, made_read, stateid_written}
use Rattle.nm_types.proofs.wire.stateids_are_read_as_written.Goals as goal

pub returns-clause-zeros : goal.returns-clause-zeros
returns-clause-zeros c = zeros_read

pub returns-clause-ones : goal.returns-clause-ones
returns-clause-ones c = ones_read

pub returns-clause-made : goal.returns-clause-made
returns-clause-made c = made_read

pub returns-clause-written : goal.returns-clause-written
returns-clause-written c seqid other small len are = stateid_written seqid other len are
