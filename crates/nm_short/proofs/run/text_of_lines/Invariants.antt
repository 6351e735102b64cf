use Rattle.std.proofs.Common.{◌≡◌, ◌++◌, drop}
use Rattle.nm_short.specs.Tables.{tables_of_head, text_from}
use Rattle.nm_short.proofs.run.text_of_lines.Given as goal

-- the text so far and that of the lines left are the whole
abbrev pub invariant-loop-line : goal.invariant-loop-line
invariant-loop-line l = l.text.items ++ text_from l.script.head l.run (drop l.line-index l.script.lines) ≡ text_from l.script.head (tables_of_head l.script.head) l.script.lines
