use Rattle.nm_state.proofs.TurnLemmas.{nobody_locks}
use Rattle.nm_state.proofs.tables.Tables.lock_answer.Goals as goal

pub returns-in_default : goal.returns-in_default
returns-in_default c =
    rw c.reply.ensures (nobody_locks c.args.self.now c.args.call.now c.args.args.now c.args.verdict _ _ _ _ c.in_default.is c.requires c.in-New.is).answer
