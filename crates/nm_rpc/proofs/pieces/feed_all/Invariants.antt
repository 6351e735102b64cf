use Rattle.std.proofs.Common.{◌≡◌, take, None}
use Rattle.std.specs.List.{flat_map}
use Rattle.nm_rpc.specs.Feeding.{fresh, fed, refusal_of}
use Rattle.nm_rpc.proofs.pieces.feed_all.Given as goal

-- What is held is of the pieces so far.
abbrev pub invariant-loop-piece : goal.invariant-loop-piece
invariant-loop-piece l = record {
  held : l.records ≡ fed (fresh l.fn.limit) (flat_map (λ p. p.items) (take l.piece-index l.pieces));
  open_still : refusal_of l.records.phase ≡ None;
}
