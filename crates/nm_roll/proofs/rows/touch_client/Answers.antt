use Rattle.std.proofs.Common.{sym, ap, ◌∙◌, refl}
use Rattle.std.specs.List.{position}
use Rattle.nm_roll.specs.Leases.{is_client, touch_found, touched}
use Rattle.nm_roll.proofs.RowLemmas.{changed_at_place, same_where_none, answered_at_place, answered_nowhere}
use Rattle.nm_roll.proofs.rows.touch_client.Goals as goal

pub returns-in-Some-clause-answer : goal.returns-in-Some-clause-answer
returns-in-Some-clause-answer c =
    answered_at_place (is_client c.args.clientid) (touch_found c.args.lease c.args.clock) c.args.rows.now.items c.in-Some.at c.index_mut.result.now c.touch.result
    (ap (position (is_client c.args.clientid)) (sym c.deref.ensures.value) ∙ sym c.in-Some.ensures) c.index_mut.ensures.value c.touch.ensures.answer

pub returns-in-Some-clause-rows : goal.returns-in-Some-clause-rows
returns-in-Some-clause-rows c =
    changed_at_place (is_client c.args.clientid) (touched c.args.clock) c.args.rows.now.items c.in-Some.at c.index_mut.result.now c.touch.new.self
    (ap (position (is_client c.args.clientid)) (sym c.deref.ensures.value) ∙ sym c.in-Some.ensures) c.index_mut.ensures.value c.touch.ensures.row

pub returns-in-None-clause-answer : goal.returns-in-None-clause-answer
unfolding touch_found
returns-in-None-clause-answer c =
    answered_nowhere (is_client c.args.clientid) (touch_found c.args.lease c.args.clock) c.args.rows.now.items _
    (ap (position (is_client c.args.clientid)) (sym c.deref.ensures.value) ∙ sym c.in-None.ensures) refl

pub returns-in-None-clause-rows : goal.returns-in-None-clause-rows
returns-in-None-clause-rows c =
    same_where_none (is_client c.args.clientid) (touched c.args.clock) c.args.rows.now.items
    (ap (position (is_client c.args.clientid)) (sym c.deref.ensures.value) ∙ sym c.in-None.ensures)
