use Rattle.std.proofs.Common.{arith}
use Rattle.nm_journal.proofs.JournalLemmas.{folded_next}
use Rattle.nm_journal.proofs.journal.fold.Goals as goal

pub loop-at-preserved : goal.loop-at-preserved
loop-at-preserved c =
    folded_next c.loop-at.at c.args.base.now.seen c.args.entries.now c.index-entries-at.result c.loop-at.base c.apply.new.self c.in_ok-apply.field-0
    (grind arith) c.requires.answered c.loop-at.invariant c.in_ok-apply.ensures.applies
