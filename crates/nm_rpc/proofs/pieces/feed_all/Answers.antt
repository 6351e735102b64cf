use Rattle.std.proofs.Common.{◌<◌, ℕ, List, length, Err, refl, ap, subst, ◌∙◌, arith}
use Rattle.std.proofs.lemmas.Result.{err_from_is_err_and}
use Rattle.nm_rpc.specs.Feeding.{fed, Feeds}
use Rattle.nm_rpc.proofs.WholeLaws.{piece_next, feed_refused}
use Rattle.nm_rpc.proofs.pieces.feed_all.Goals as goal

pub loop-piece-init : goal.loop-piece-init
unfolding fed
loop-piece-init c = record { held = c.new-records.ensures; open_still = rw c.new-records.ensures refl }

pub returns-in_err-feed-clause-refused : goal.returns-in_err-feed-clause-refused
returns-in_err-feed-clause-refused c =
    let p = err_from_is_err_and c.from_residual.result c.from_residual.ensures.1 in
    let did = subst (λ (b : List ℕ). Feeds c.loop-piece.records b (Err c.in_err-feed.field-0.0) c.feed.new.self) c.deref.ensures.value c.in_err-feed.ensures.fed in
    let within : c.loop-piece.piece-index < length c.args.pieces.now = omega arith in
    rw (p.1, p.2) (feed_refused (λ v. v.items) c.args.limit c.loop-piece.records c.feed.new.self c.args.pieces.now c.loop-piece.piece-index c.piece-item.result
    c.in_err-feed.field-0.0
    within c.piece-item.is c.loop-piece.invariant.held did)

pub loop-piece-preserved : goal.loop-piece-preserved
loop-piece-preserved c =
    let within : c.loop-piece.piece-index < length c.args.pieces.now = omega arith in
    let step = c.in_ok-feed.ensures.fed.0 ∙ ap (fed c.loop-piece.records) c.deref.ensures.value in
    record {
      held = piece_next (λ v. v.items) c.args.limit c.loop-piece.records c.feed.new.self c.args.pieces.now c.loop-piece.piece-index c.piece-item.result within c.piece-item.is c.loop-piece.invariant.held step;
      open_still = c.in_ok-feed.ensures.fed.1;
    }
