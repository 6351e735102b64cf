use Rattle.std.proofs.Common.{sym, ◌∙◌}
use Rattle.nm_state.proofs.LockLemmas.{new_goes, new_refused, new_went}
use Rattle.nm_state.proofs.tables.Tables.new_in_turn.Goals as goal

pub give_new-requires-clause-range : goal.give_new-requires-clause-range
give_new-requires-clause-range c =
    (new_goes c.args.self.now c.args.call.now.file c.args.args.now c.args.new.now c.args.verdict (sym c.in-None.is ∙ c.in_ok-reply.ensures)).range

pub give_new-requires-clause-room : goal.give_new-requires-clause-room
give_new-requires-clause-room c =
    (new_goes c.args.self.now c.args.call.now.file c.args.args.now c.args.new.now c.args.verdict (sym c.in-None.is ∙ c.in_ok-reply.ensures)).room

pub returns-in-Some : goal.returns-in-Some
returns-in-Some c = new_refused c.args.self.now c.args.call.now c.args.args.now c.args.new.now c.args.verdict c.in-Some.reply c.requires (sym c.in-Some.is ∙ c.in_ok-reply.ensures)

pub returns-in_ok-give_new-in-None : goal.returns-in_ok-give_new-in-None
returns-in_ok-give_new-in-None c =
    rw (c.reply-reply.ensures, c.new_stateid.ensures, c.in_ok-give_new-in-None.ensures)
    (new_went c.args.self.now c.args.call.now c.args.args.now c.args.new.now c.args.verdict c.requires (sym c.in-None.is ∙ c.in_ok-reply.ensures))
