use Rattle.std.proofs.Common.{◌≡◌, ◌++◌, length, map}
use Rattle.nm_rpc.proofs.pieces.take_all.Given as goal

-- The records so far, and those that wait.
abbrev pub invariant-loop-record : goal.invariant-loop-record
invariant-loop-record l = map (λ r. r.items) l.whole.items ++ l.records.waiting ≡ l.initial.records.waiting

abbrev pub decreases-loop-record : goal.decreases-loop-record
decreases-loop-record l = length l.records.waiting
