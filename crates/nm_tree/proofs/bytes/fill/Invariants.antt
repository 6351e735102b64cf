use Rattle.std.proofs.Common.{◌≡◌, ◌++◌, replicate}
use Rattle.nm_tree.proofs.bytes.fill.Given as goal

-- what stood there, and the zeros so far
abbrev pub invariant-loop : goal.invariant-loop
invariant-loop l = l.out ≡ l.initial.out ++ replicate l.counter 0
