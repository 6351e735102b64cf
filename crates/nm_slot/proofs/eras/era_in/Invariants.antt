use Rattle.std.proofs.Common.{◌≡◌, drop}
use Rattle.nm_slot.specs.Eras.{greatest_era}
use Rattle.nm_slot.proofs.eras.era_in.Given as goal

-- with the leases that are left it is the greatest of all
abbrev pub invariant-loop-pass : goal.invariant-loop-pass
invariant-loop-pass l = greatest_era l.instance l.era (drop l.pass-index l.passes) ≡ greatest_era l.instance 0 l.passes
