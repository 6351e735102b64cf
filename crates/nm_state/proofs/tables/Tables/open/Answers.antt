use Rattle.nm_state.proofs.TurnLemmas.{nobody_opens}
use Rattle.nm_state.proofs.tables.Tables.open.Goals as goal

pub returns-in_default : goal.returns-in_default
returns-in_default c =
    rw c.reply.ensures (nobody_opens c.args.self.now c.args.call.now c.args.args.now c.args.verdict c.in_default.is c.requires)
