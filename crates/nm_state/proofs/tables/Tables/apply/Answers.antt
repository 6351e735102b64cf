use Rattle.nm_state.proofs.OpeningLemmas.{applied_end}
use Rattle.nm_state.proofs.tables.Tables.apply.Goals as goal

pub returns-in-Ended : goal.returns-in-Ended
returns-in-Ended c = rw (c.reply.ensures, c.end.ensures, c.in-Ended.is) (applied_end c.args.self.now _)
