use Rattle.nm_short.proofs.RunLaws.{text_next, text_done}
use Rattle.nm_short.proofs.run.text_of_lines.Goals as goal

pub loop-line-preserved : goal.loop-line-preserved
loop-line-preserved c =
    rw c.in_ok-append_line_text.ensures.ok
    (text_next c.args.script.now.head c.loop-line.run c.args.script.now.lines c.loop-line.line-index c.line-item.result c.in_ok-report.report c.line.new.self _ _
    (rw (← c.items-line-items.ensures) c.loop-line-test.true) (rw c.items-line-items.ensures at c.line-item.is) c.in_ok-report.ensures c.loop-line.invariant)

pub returns : goal.returns
returns c =
    text_done c.args.script.now.head c.loop-line.run c.args.script.now.lines c.loop-line.line-index _ _ (rw (← c.items-line-items.ensures) c.loop-line-test.false) c.loop-line.invariant
