use Rattle.nm_attrs.proofs.FattrLaws.{fattr_written, fattr_taken, fattr_spelled}
use Rattle.nm_attrs.proofs.laws.attributes_are_read_as_written.Goals as goal

pub returns-clause-taken : goal.returns-clause-taken
returns-clause-taken c = fattr_taken

pub returns-clause-read : goal.returns-clause-read
returns-clause-read c = fattr_written

pub returns-clause-spelled : goal.returns-clause-spelled
returns-clause-spelled c = fattr_spelled
