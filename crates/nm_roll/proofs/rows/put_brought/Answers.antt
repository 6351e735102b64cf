use Rattle.std.proofs.Common.{ℕ, List, sym, ap, ◌∙◌}
use Rattle.std.specs.List.{position}
use Rattle.nm_roll.specs.Records.{has_string}
use Rattle.nm_roll.specs.Moves.{brought_row}
use Rattle.nm_roll.proofs.RowLemmas.{string_changed, brought_pushed}
use Rattle.nm_roll.proofs.rows.put_brought.Goals as goal

pub returns-in-Some-clause-ok : goal.returns-in-Some-clause-ok
returns-in-Some-clause-ok c =
    string_changed c.args.instance.now.id (brought_row c.args.clock c.args.clientid c.args.instance.now) c.args.rows.now.items c.in-Some.at
    c.index_mut.result.now c.bring.new.self
    (ap (λ (s : List ℕ). position (has_string s) c.args.rows.now.items) (sym c.id-string.ensures.value)
    ∙ (ap (position (has_string c.id-string.result.now)) (sym c.deref.ensures.value) ∙ sym c.in-Some.ensures))
    c.index_mut.ensures.value c.bring.ensures

pub returns-in_ok-push-in-None-clause-ok : goal.returns-in_ok-push-in-None-clause-ok
returns-in_ok-push-in-None-clause-ok c =
    rw c.in_ok-push-in-None.ensures.items
    (brought_pushed c.args.clock c.args.clientid c.args.instance.now c.args.rows.now.items _ _
    (ap (λ (s : List ℕ). position (has_string s) c.args.rows.now.items) (sym c.id-string.ensures.value)
    ∙ (ap (position (has_string c.id-string.result.now)) (sym c.deref.ensures.value) ∙ sym c.in-None.ensures))
    (c.in_ok-id-in-None.ensures ∙ c.id-string.ensures.value) c.brought.ensures)
