use Rattle.nm_xdr.proofs.ExactLaws.{exact_of}
use Rattle.nm_results.proofs.KeptLaws.{kept_item}
use Rattle.nm_results.proofs.laws.kept_replies_are_read_as_written.Goals as goal

pub returns-clause-item : goal.returns-clause-item
returns-clause-item c = kept_item

pub returns-clause-exact : goal.returns-clause-exact
returns-clause-exact c holders rises few = exact_of (kept_item holders rises few)
