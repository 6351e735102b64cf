use Rattle.std.proofs.Common.{◌≡◌, drop}
use Rattle.nm_roll.specs.Moves.{refusal_among, with_records}
use Rattle.nm_roll.proofs.roll.Roll.add_records.Given as goal

-- those that are left are refused as all are, and leave what all leave
abbrev pub invariant-loop-instance : goal.invariant-loop-instance
invariant-loop-instance l =
    (refusal_among l.self (drop l.instance-index l.instances) ≡ refusal_among l.initial.self l.instances)
    × (with_records l.self (drop l.instance-index l.instances) ≡ with_records l.initial.self l.instances)
