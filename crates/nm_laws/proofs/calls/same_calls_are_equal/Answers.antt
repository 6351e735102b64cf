use Rattle.nm_laws.proofs.SameCalls.{call_decides}
use Rattle.nm_laws.proofs.calls.same_calls_are_equal.Goals as goal

pub returns : goal.returns
returns c call kept = call_decides call kept
