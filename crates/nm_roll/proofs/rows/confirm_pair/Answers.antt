use Rattle.std.proofs.Common.{sym, ap, ◌∙◌, refl}
use Rattle.std.specs.List.{position}
use Rattle.nm_roll.specs.Clients.{has_pair, confirm_found, confirmed_row}
use Rattle.nm_roll.proofs.RowLemmas.{changed_at_place, same_where_none, answered_at_place, answered_nowhere}
use Rattle.nm_roll.proofs.rows.confirm_pair.Goals as goal

pub returns-in-Some-clause-answer : goal.returns-in-Some-clause-answer
returns-in-Some-clause-answer c =
    answered_at_place (has_pair c.args.clientid c.args.confirm) (confirm_found c.args.clientid c.args.confirm c.args.principal) c.args.rows.now.items c.in-Some.at c.index_mut.result.now c.confirm.result
    (ap (position (has_pair c.args.clientid c.args.confirm)) (sym c.deref.ensures.value) ∙ sym c.in-Some.ensures) c.index_mut.ensures.value c.confirm.ensures.answer

pub returns-in-Some-clause-rows : goal.returns-in-Some-clause-rows
returns-in-Some-clause-rows c =
    changed_at_place (has_pair c.args.clientid c.args.confirm) (confirmed_row c.args.clock c.args.clientid c.args.confirm c.args.principal) c.args.rows.now.items c.in-Some.at c.index_mut.result.now c.confirm.new.self
    (ap (position (has_pair c.args.clientid c.args.confirm)) (sym c.deref.ensures.value) ∙ sym c.in-Some.ensures) c.index_mut.ensures.value c.confirm.ensures.row

pub returns-in-None-clause-answer : goal.returns-in-None-clause-answer
unfolding confirm_found
returns-in-None-clause-answer c =
    answered_nowhere (has_pair c.args.clientid c.args.confirm) (confirm_found c.args.clientid c.args.confirm c.args.principal) c.args.rows.now.items _
    (ap (position (has_pair c.args.clientid c.args.confirm)) (sym c.deref.ensures.value) ∙ sym c.in-None.ensures) refl

pub returns-in-None-clause-rows : goal.returns-in-None-clause-rows
returns-in-None-clause-rows c =
    same_where_none (has_pair c.args.clientid c.args.confirm) (confirmed_row c.args.clock c.args.clientid c.args.confirm c.args.principal) c.args.rows.now.items
    (ap (position (has_pair c.args.clientid c.args.confirm)) (sym c.deref.ensures.value) ∙ sym c.in-None.ensures)
