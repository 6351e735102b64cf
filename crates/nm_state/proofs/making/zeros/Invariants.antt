use Rattle.std.proofs.Common.{◌≡◌, replicate}
use Rattle.nm_state.proofs.making.zeros.Given as goal

-- as many zeros as were counted
abbrev pub invariant-loop : goal.invariant-loop
invariant-loop l = l.bytes ≡ replicate l.counter 0
