use Rattle.std.proofs.Common.{◌≡◌, drop}
use Rattle.nm_slot.specs.Eras.{after_ends}
use Rattle.nm_slot.proofs.stage.end_all.Given as goal

-- with the instances that are left all have ended
abbrev pub invariant-loop-instance : goal.invariant-loop-instance
invariant-loop-instance l =
    (after_ends (drop l.instance-index l.instances) l.state.seen ≡ after_ends l.instances l.initial.state.seen)
    × (l.state.spent ≡ l.initial.state.spent)
