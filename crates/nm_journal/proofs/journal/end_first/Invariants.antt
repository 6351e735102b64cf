use Rattle.std.proofs.Common.{◌≡◌, drop, map}
use Rattle.nm_journal.specs.Journals.{after_entries, end_of}
use Rattle.nm_journal.proofs.journal.end_first.Given as goal

-- with the instances that are left all have ended
abbrev pub invariant-loop-instance : goal.invariant-loop-instance
invariant-loop-instance l =
    (after_entries l.base.seen (map end_of (drop l.instance-index l.instances)) ≡ after_entries l.initial.base.seen (map end_of l.instances))
    × (l.base.spent ≡ l.initial.base.spent)
