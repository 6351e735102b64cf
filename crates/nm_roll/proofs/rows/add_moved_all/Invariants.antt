use Rattle.std.proofs.Common.{◌≡◌, drop}
use Rattle.nm_roll.specs.Moves.{all_gone}
use Rattle.nm_roll.proofs.rows.add_moved_all.Given as goal

-- those that are left change the rows as all of them do
abbrev pub invariant-loop-instance : goal.invariant-loop-instance
invariant-loop-instance l =
    all_gone l.lease l.clock l.fs (drop l.instance-index l.instances) l.rows.items ≡ all_gone l.lease l.clock l.fs l.instances l.initial.rows.items
