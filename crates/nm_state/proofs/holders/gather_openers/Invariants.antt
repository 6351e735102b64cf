use Rattle.std.specs.Vec.{vec_capacity}
use Rattle.nm_rules.specs.Holders.{opener_of}
use Rattle.nm_state.proofs.HolderLemmas.{Listed}
use Rattle.nm_state.proofs.holders.gather_openers.Given as goal

-- the instances of the rows from here on are listed
abbrev pub invariant-loop-at : goal.invariant-loop-at
invariant-loop-at l = Listed opener_of l.rows l.at l.initial.list.items l.list.items (vec_capacity l.initial.list) (vec_capacity l.list)
