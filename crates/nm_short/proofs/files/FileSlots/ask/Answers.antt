use Rattle.std.proofs.Common.{sym, ◌∙◌}
use Rattle.nm_short.specs.Requests.{requests_limit}
use Rattle.nm_short.proofs.AskLemmas.{asked_on, asked_last, asked_out}
use Rattle.nm_short.proofs.files.FileSlots.ask.Goals as goal

pub returns-in-None : goal.returns-in-None
returns-in-None c =
    asked_last requests_limit c.loop-count._count _ _ _ _ _ _ _ _ _ _ _ _ _ _ c.loop-count-test.true c.in_ok-reply.ensures.reply c.in_ok-reply.ensures.after
    c.in_ok-reply.ensures.known c.in_ok-reply.ensures.names (sym c.in-None.is ∙ c.in_ok-reply.ensures.next) c.loop-count.invariant

pub loop-count-preserved : goal.loop-count-preserved
loop-count-preserved c =
    asked_on requests_limit c.loop-count._count _ _ _ _ _ _ _ _ _ _ _ _ _ _ _ c.loop-count-test.true c.in_ok-reply.ensures.reply c.in_ok-reply.ensures.after
    c.in_ok-reply.ensures.known c.in_ok-reply.ensures.names (sym c.in-Some.is ∙ c.in_ok-reply.ensures.next) c.loop-count.invariant

pub returns : goal.returns
returns c = asked_out requests_limit c.loop-count._count _ _ _ _ _ _ _ _ _ _ c.loop-count-test.false c.loop-count.invariant
