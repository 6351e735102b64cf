use Rattle.nm_rpc.proofs.RefusedCalls.{header_judged}
use Rattle.nm_rpc.proofs.message_laws.calls_are_judged_by_their_items.Goals as goal

pub returns : goal.returns
returns c services h body is = header_judged services h body is
