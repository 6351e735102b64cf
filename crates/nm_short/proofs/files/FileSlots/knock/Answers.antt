use Rattle.std.proofs.Common.{sym, ◌∙◌}
use Rattle.nm_short.proofs.FileLemmas.{knocked_on, knocked_in, knocked_out}
use Rattle.nm_short.specs.Requests.{requests_limit}
use Rattle.nm_short.proofs.files.FileSlots.knock.Goals as goal

pub returns-in-None : goal.returns-in-None
returns-in-None c =
    knocked_in requests_limit c.loop-count._count _ _ _ _ _ c.loop-count-test.true c.enter-answer.ensures.answer (sym c.sent_on.ensures ∙ c.in-None.is)
    c.enter-answer.ensures.after c.loop-count.invariant

pub loop-count-preserved : goal.loop-count-preserved
loop-count-preserved c =
    knocked_on requests_limit c.loop-count._count _ _ _ _ _ _ c.loop-count-test.true c.enter-answer.ensures.answer (sym c.sent_on.ensures ∙ c.in-Some.is)
    c.enter-answer.ensures.after c.loop-count.invariant

pub returns : goal.returns
returns c = knocked_out requests_limit c.loop-count._count _ _ _ c.loop-count-test.false c.loop-count.invariant
