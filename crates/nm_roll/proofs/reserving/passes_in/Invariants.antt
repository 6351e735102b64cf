use Rattle.std.proofs.Common.{◌≡◌, map, take}
use Rattle.nm_roll.specs.Moves.{pass_in}
use Rattle.nm_roll.proofs.reserving.passes_in.Given as goal

-- the passes so far are those of the instances so far
abbrev pub invariant-loop-instance : goal.invariant-loop-instance
invariant-loop-instance l = l.passes ≡ map (pass_in l.rows) (take l.instance-index l.instances)
