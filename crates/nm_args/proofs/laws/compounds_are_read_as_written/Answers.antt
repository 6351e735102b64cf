use Rattle.nm_args.proofs.WholeLaws.{compound_written}
use Rattle.nm_args.proofs.laws.compounds_are_read_as_written.Goals as goal

pub returns : goal.returns
returns c = compound_written
