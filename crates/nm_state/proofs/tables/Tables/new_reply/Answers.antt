use Rattle.std.proofs.Common.{sym, ◌∙◌}
use Rattle.nm_state.proofs.LockLemmas.{new_refused, new_went}
use Rattle.nm_state.proofs.tables.Tables.new_reply.Goals as goal

pub returns-in-Some : goal.returns-in-Some
returns-in-Some c = (new_refused c.args.self.now c.args.call.now c.args.args.now c.args.new.now c.args.verdict c.in-Some.reply c.requires (sym c.in-Some.is ∙ c.in_ok-reply.ensures)).answer

pub returns-in-None : goal.returns-in-None
returns-in-None c =
    rw (c.reply.ensures, c.new_stateid.ensures) (new_went c.args.self.now c.args.call.now c.args.args.now c.args.new.now c.args.verdict c.requires (sym c.in-None.is ∙ c.in_ok-reply.ensures)).answer
