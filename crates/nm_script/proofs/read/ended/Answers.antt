use Rattle.std.proofs.Common.{rules, add-one}
use Rattle.nm_script.proofs.SourceLaws.{ended_last, ended_none}
use Rattle.nm_script.proofs.read.ended.Goals as goal

pub returns-in-Some : goal.returns-in-Some
returns-in-Some c = rw add-one (ended_last c.args.bytes.now c.in-Some.last (search rules) (search rules) (search rules))

pub returns-in-None : goal.returns-in-None
returns-in-None c = ended_none c.args.bytes.now (search rules)
