use Rattle.std.proofs.Common.{sym, ap, ◌∙◌}
use Rattle.std.specs.List.{position}
use Rattle.nm_owners.specs.Rows.{is_of}
use Rattle.nm_owners.proofs.RowLemmas.{put_found, put_new}
use Rattle.nm_owners.proofs.rows.put.Goals as goal

pub returns-in-Some-clause-ok : goal.returns-in-Some-clause-ok
returns-in-Some-clause-ok c =
    put_found c.args.row c.args.rows.now.items c.in-Some.at (ap (position (is_of c.args.row.owner)) (sym c.deref.ensures.value) ∙ sym c.in-Some.ensures)

pub returns-in_ok-push-in-None-clause-ok : goal.returns-in_ok-push-in-None-clause-ok
returns-in_ok-push-in-None-clause-ok c =
    rw c.in_ok-push-in-None.ensures.items
    (put_new c.args.row c.args.rows.now.items (ap (position (is_of c.args.row.owner)) (sym c.deref.ensures.value) ∙ sym c.in-None.ensures))
