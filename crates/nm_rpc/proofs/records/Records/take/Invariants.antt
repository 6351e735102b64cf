use Rattle.std.proofs.Common.{length, ◌-◌, ◌≡◌, ◌≤◌, take}
use Rattle.nm_rpc.specs.Feeding.{fed}
use Rattle.nm_rpc.proofs.records.Records.take.Given as goal

-- What is held now is what the bytes so far make of what was held.
abbrev pub invariant-loop-at : goal.invariant-loop-at
invariant-loop-at l = record { within : l.at ≤ length l.piece; so_far : l.self ≡ fed l.initial.self (take l.at l.piece) }

abbrev pub decreases-loop-at : goal.decreases-loop-at
decreases-loop-at l = length l.piece - l.at
