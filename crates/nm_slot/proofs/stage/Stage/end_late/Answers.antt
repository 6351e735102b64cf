use Rattle.std.proofs.Common.{ap, ◌∙◌}
use Rattle.std.specs.Prelude.{filter}
use Rattle.nm_slot.specs.Eras.{has_ended, row_of}
use Rattle.nm_slot.specs.Kept.{stage_of}
use Rattle.nm_slot.proofs.StateLemmas.{late_holders}
use Rattle.nm_slot.proofs.stage.Stage.end_late.Goals as goal

pub returns-clause-ends : goal.returns-clause-ends
returns-clause-ends c = λ fs epoch unspent staged.
    c.keep_ended.ensures.items
    ∙ ap (λ xs. filter (λ party. has_ended (row_of party c.args.eras.now)) xs) (c.list_holders-due.ensures.value fs epoch unspent staged)
    ∙ late_holders (stage_of c.args.self.now) c.args.eras.now
