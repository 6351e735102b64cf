use Rattle.std.proofs.Common.{sym, ap, ◌∙◌}
use Rattle.std.specs.List.{position}
use Rattle.nm_roll.specs.Leases.{lapsed_row}
use Rattle.nm_roll.specs.Records.{has_string}
use Rattle.nm_roll.proofs.RowLemmas.{changed_at_place, same_where_none}
use Rattle.nm_roll.proofs.rows.lapse.Goals as goal

pub returns-in-Some : goal.returns-in-Some
returns-in-Some c =
    changed_at_place (has_string c.args.id.now) lapsed_row c.args.rows.now.items c.in-Some.at c.index_mut.result.now c.lapse.new.self
    (ap (position (has_string c.args.id.now)) (sym c.deref.ensures.value) ∙ sym c.in-Some.ensures) c.index_mut.ensures.value c.lapse.ensures

pub returns-in_default : goal.returns-in_default
returns-in_default c =
    same_where_none (has_string c.args.id.now) lapsed_row c.args.rows.now.items
    (ap (position (has_string c.args.id.now)) (sym c.deref.ensures.value) ∙ sym c.in_default.ensures)
