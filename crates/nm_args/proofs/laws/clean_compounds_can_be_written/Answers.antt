use Rattle.nm_args.proofs.WholeLaws.{compound_clean}
use Rattle.nm_args.proofs.laws.clean_compounds_can_be_written.Goals as goal

pub returns : goal.returns
returns c = compound_clean
