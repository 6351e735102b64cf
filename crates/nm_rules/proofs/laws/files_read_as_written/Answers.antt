use Rattle.nm_rules.proofs.FileLaws.{files_are_read}
use Rattle.nm_rules.proofs.laws.files_read_as_written.Goals as goal

pub returns : goal.returns
returns c fs grants es legal file row found = files_are_read fs grants es file row legal found
