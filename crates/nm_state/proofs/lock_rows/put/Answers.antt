use Rattle.std.proofs.Common.{sym, ap, ◌∙◌}
use Rattle.std.specs.List.{position}
use Rattle.nm_state.specs.Locking.{has_counter}
use Rattle.nm_state.proofs.RangeLemmas.{put_lock_found, put_lock_new}
use Rattle.nm_state.proofs.lock_rows.put.Goals as goal

pub returns-in-Some : goal.returns-in-Some
returns-in-Some c =
    put_lock_found c.args.row c.args.rows.now.items c.in-Some.at (ap (position (has_counter c.args.row.counter)) (sym c.deref.ensures.value) ∙ sym c.in-Some.ensures)

pub returns-in_ok-push-in-None : goal.returns-in_ok-push-in-None
returns-in_ok-push-in-None c =
    rw c.in_ok-push-in-None.ensures.items
    (put_lock_new c.args.row c.args.rows.now.items (ap (position (has_counter c.args.row.counter)) (sym c.deref.ensures.value) ∙ sym c.in-None.ensures))
