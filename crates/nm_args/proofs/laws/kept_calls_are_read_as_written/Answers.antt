use Rattle.nm_xdr.proofs.ExactLaws.{exact_of}
use Rattle.nm_args.proofs.DeedLaws.{deed_item}
use Rattle.nm_args.proofs.laws.kept_calls_are_read_as_written.Goals as goal

pub returns-clause-item : goal.returns-clause-item
returns-clause-item c = deed_item

pub returns-clause-exact : goal.returns-clause-exact
returns-clause-exact c = exact_of deed_item
