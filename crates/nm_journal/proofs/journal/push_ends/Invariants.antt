use Rattle.std.proofs.Common.{◌≡◌, ◌≤◌, ◌+◌, ◌++◌, length, drop, take, map}
use Rattle.std.specs.Vec.{vec_capacity}
use Rattle.nm_journal.specs.Journals.{end_of}
use Rattle.nm_journal.proofs.journal.push_ends.Given as goal

-- the ends so far stand there, and there is room for those that are left
abbrev pub invariant-loop-instance : goal.invariant-loop-instance
invariant-loop-instance l =
    (l.entries.items ≡ l.initial.entries.items ++ map end_of (take l.instance-index l.instances))
    × (vec_capacity l.initial.entries ≤ vec_capacity l.entries)
    × (length l.entries.items + length (drop l.instance-index l.instances) ≤ vec_capacity l.entries)
