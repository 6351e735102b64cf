use Rattle.std.proofs.Common.{sym, ap, ◌∙◌, arith}
use Rattle.std.specs.List.{position}
use Rattle.std.proofs.lemmas.Bool.Decides.{nat_tests}
use Rattle.nm_state.specs.Taken.{has_file}
use Rattle.nm_state.proofs.RangeLemmas.{clear_nowhere, clear_part, clear_whole}
use Rattle.nm_state.proofs.file_ranges.clear.Goals as goal

pub returns-then-count_with_clear-eq0 : goal.returns-then-count_with_clear-eq0
returns-then-count_with_clear-eq0 c =
    c.drop_file.ensures
    ∙ clear_whole c.args.file c.args.owner c.args.first c.args.last c.args.rows.now.items c.in-Some.at c.index.result.now
    (ap (position (has_file c.args.file)) (sym c.deref.ensures.value) ∙ sym c.in-Some.ensures) c.index.ensures
    (sym c.count_with_clear.ensures ∙ c.if-count_with_clear-eq0.true)

pub returns-in-None : goal.returns-in-None
returns-in-None c =
    clear_nowhere c.args.file c.args.owner c.args.first c.args.last c.args.rows.now.items
    (ap (position (has_file c.args.file)) (sym c.deref.ensures.value) ∙ sym c.in-None.ensures)

pub returns-in_ok-clear-in-Some : goal.returns-in_ok-clear-in-Some
returns-in_ok-clear-in-Some c =
    clear_part c.args.file c.args.owner c.args.first c.args.last c.args.rows.now.items c.in-Some.at c.index.result.now c.index_mut.result.now _
    (ap (position (has_file c.args.file)) (sym c.deref.ensures.value) ∙ sym c.in-Some.ensures) c.index.ensures c.index_mut.ensures.value
    (grind (arith, nat_tests, c.count_with_clear.ensures, c.if-count_with_clear-eq0.false)) c.in_ok-clear-in-Some.ensures
