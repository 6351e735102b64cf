use Rattle.nm_cmd.proofs.ReplayLaws.{answer_told}
use Rattle.nm_cmd.proofs.replay.answer_source.Goals as goal

pub returns-in-Ok-clause-answer : goal.returns-in-Ok-clause-answer
returns-in-Ok-clause-answer g c =
    answer_told (g.S.Source.left c.args.source.now) c.in_ok-bytes.bytes.items c.in-Ok.answer c.in_ok-bytes.ensures.front (rw c.deref.ensures.value at c.in-Ok.ensures)
