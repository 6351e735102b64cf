use Rattle.std.proofs.Common.{rules, add-one}
use Rattle.std.proofs.lemmas.List.{take_rest}
use Rattle.nm_script.proofs.SourceLaws.{lines_of_first, lines_of_only}
use Rattle.nm_script.proofs.read.first_line.Goals as goal

pub returns-in-Some-clause-lines : goal.returns-in-Some-clause-lines
returns-in-Some-clause-lines c = rw (take_rest, add-one) (lines_of_first c.args.bytes.now c.in-Some.end (search rules) (search rules) (search rules))

pub returns-in-None-clause-lines : goal.returns-in-None-clause-lines
returns-in-None-clause-lines c = lines_of_only c.args.bytes.now c.requires (search rules)
