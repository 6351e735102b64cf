use Rattle.std.proofs.Common.{sym, ap, ◌∙◌}
use Rattle.std.specs.List.{position}
use Rattle.nm_roll.specs.Leases.{is_instance}
use Rattle.nm_roll.specs.Moves.{gone_row}
use Rattle.nm_roll.proofs.RowLemmas.{changed_at_place, same_where_none}
use Rattle.nm_roll.proofs.rows.add_moved.Goals as goal

pub returns-in-Some : goal.returns-in-Some
returns-in-Some c =
    changed_at_place (is_instance c.args.instance.now) (gone_row c.args.lease c.args.clock c.args.fs) c.args.rows.now.items c.in-Some.at c.index_mut.result.now c.add_moved.new.self
    (ap (position (is_instance c.args.instance.now)) (sym c.deref.ensures.value) ∙ sym c.in-Some.ensures) c.index_mut.ensures.value c.add_moved.ensures

pub returns-in_default : goal.returns-in_default
returns-in_default c =
    same_where_none (is_instance c.args.instance.now) (gone_row c.args.lease c.args.clock c.args.fs) c.args.rows.now.items
    (ap (position (is_instance c.args.instance.now)) (sym c.deref.ensures.value) ∙ sym c.in_default.ensures)
