use denote.Text.{Utf8}
use denote.Shadow.{shadow}
use Rattle.nm_checks_jobs.proofs.cases.answer_lines.Given as goal

-- the case is text
abbrev pub invariant-loop-line : goal.invariant-loop-line
invariant-loop-line l = (goal.iterator-loop-line).can_next l.line-iterator × (goal.iterator-loop-line).is_finite l.line-iterator × shadow (Utf8 l.case)
