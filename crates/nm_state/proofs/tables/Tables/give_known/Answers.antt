use Rattle.std.proofs.Common.{ap, ◌∙◌}
use Rattle.nm_rules.specs.LockRows.{lock_at}
use Rattle.nm_rules.specs.Seen.{Seen}
use Rattle.nm_state.proofs.LockLemmas.{give_free}
use Rattle.nm_state.proofs.tables.Tables.give_known.Goals as goal

pub claim-requires-clause-free : goal.claim-requires-clause-free
claim-requires-clause-free c =
    give_free c.args.self.now c.args.counter c.args.file c.args.args.now c.in-Some.row.now c.in_ok-row-in-Some.row c.asked-range.result
    (c.in-Some.ensures ∙ ap (lock_at c.args.counter) c.deref.ensures.value ∙ ap (λ (s : Seen). lock_at c.args.counter s.locks) c.self.view_is)
    c.in_ok-row-in-Some.ensures c.asked-range.ensures.value c.requires.live c.requires.free
