use Rattle.std.proofs.Common.{sym, ap, ◌∙◌}
use Rattle.std.specs.List.{position}
use Rattle.nm_state.specs.Taken.{has_file}
use Rattle.nm_state.proofs.RangeLemmas.{claim_first, claim_free, claim_there}
use Rattle.nm_state.proofs.file_ranges.claim.Goals as goal

pub set-requires-clause-free : goal.set-requires-clause-free
set-requires-clause-free c =
    claim_free c.args.file c.args.rows.now.items c.in-Some.at c.index_mut.result.now c.args.new.now
    (ap (position (has_file c.args.file)) (sym c.deref.ensures.value) ∙ sym c.in-Some.ensures) c.index_mut.ensures.value c.requires.free

pub returns-in_ok-set-in-Some : goal.returns-in_ok-set-in-Some
returns-in_ok-set-in-Some c =
    claim_there c.args.file c.args.rows.now.items c.in-Some.at c.index_mut.result.now _ c.args.new.now
    (ap (position (has_file c.args.file)) (sym c.deref.ensures.value) ∙ sym c.in-Some.ensures) c.index_mut.ensures.value c.in_ok-set-in-Some.ensures

pub returns-in_ok-push-in-None : goal.returns-in_ok-push-in-None
returns-in_ok-push-in-None c =
    rw c.in_ok-push-in-None.ensures.items
    (claim_first c.args.file c.args.rows.now.items c.in_ok-row-in-None.row c.args.new.now
    (ap (position (has_file c.args.file)) (sym c.deref.ensures.value) ∙ sym c.in-None.ensures) c.in_ok-row-in-None.ensures)
