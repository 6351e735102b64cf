use Rattle.std.proofs.Common.{ℕ, List, sym, ap, ◌∙◌, refl}
use Rattle.std.specs.List.{position}
use Rattle.nm_roll.specs.Records.{has_string}
use Rattle.nm_roll.specs.Clients.{waits}
use Rattle.nm_roll.proofs.RowLemmas.{string_changed, string_pushed, waiting_as}
use Rattle.nm_roll.proofs.rows.put_waiting.Goals as goal

pub returns-in-Some-clause-ok : goal.returns-in-Some-clause-ok
returns-in-Some-clause-ok c =
    string_changed c.args.id.now (waits c.args.waiting) c.args.rows.now.items c.in-Some.at c.index_mut.result.now _
    (ap (position (has_string c.args.id.now)) (sym c.deref.ensures.value) ∙ sym c.in-Some.ensures) c.index_mut.ensures.value refl

pub returns-in_ok-push-in-None-clause-ok : goal.returns-in_ok-push-in-None-clause-ok
returns-in_ok-push-in-None-clause-ok c =
    rw c.in_ok-push-in-None.ensures.items
    (string_pushed c.args.id.now (waits c.args.waiting) c.args.rows.now.items _
    (ap (position (has_string c.args.id.now)) (sym c.deref.ensures.value) ∙ sym c.in-None.ensures)
    (ap (λ (s : List ℕ). waiting_as s c.args.waiting) c.in_ok-id-in-None.ensures))
