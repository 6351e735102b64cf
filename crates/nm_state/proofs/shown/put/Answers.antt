use Rattle.std.proofs.Common.{sym, ap, ◌∙◌}
use Rattle.std.specs.List.{position}
use Rattle.nm_state.specs.Listing.{is_behind}
use Rattle.nm_state.proofs.ShownLemmas.{put_found, put_last}
use Rattle.nm_state.proofs.shown.put.Goals as goal

pub returns-in_ok-insert-in-Some : goal.returns-in_ok-insert-in-Some
returns-in_ok-insert-in-Some c =
    rw c.in_ok-insert-in-Some.ensures.items
    (put_found c.args.row c.args.rows.now.items c.in-Some.at (ap (position (is_behind c.args.row.counter)) (sym c.deref.ensures.value) ∙ sym c.in-Some.ensures)).put

pub returns-in_ok-push-in-None : goal.returns-in_ok-push-in-None
returns-in_ok-push-in-None c =
    rw c.in_ok-push-in-None.ensures.items
    (put_last c.args.row c.args.rows.now.items (ap (position (is_behind c.args.row.counter)) (sym c.deref.ensures.value) ∙ sym c.in-None.ensures))
