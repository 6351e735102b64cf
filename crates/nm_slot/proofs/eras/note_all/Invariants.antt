use Rattle.std.proofs.Common.{◌≡◌, ◌≤◌, ◌+◌, drop, length}
use Rattle.std.specs.Vec.{vec_capacity}
use Rattle.nm_slot.specs.Eras.{noted_all}
use Rattle.nm_slot.proofs.eras.note_all.Given as goal

-- with the leases that are left all are noted, and there is room for these
abbrev pub invariant-loop-pass : goal.invariant-loop-pass
invariant-loop-pass l =
    (noted_all (drop l.pass-index l.passes) l.rows.items ≡ noted_all l.passes l.initial.rows.items)
    × (vec_capacity l.initial.rows ≤ vec_capacity l.rows)
    × (length l.rows.items + length (drop l.pass-index l.passes) ≤ vec_capacity l.rows)
