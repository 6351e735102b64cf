use Rattle.std.proofs.Common.{◌≡◌, ◌≤◌, ◌-◌}
use Rattle.nm_journal.specs.Journals.{halved}
use Rattle.nm_journal.proofs.journal.left_of.Given as goal

-- the halves that are left come to what all come to
abbrev pub invariant-loop-time : goal.invariant-loop-time
invariant-loop-time l = (halved (64 - l._time) l.left l.most ≡ halved 64 l.count l.most) × (l.left ≤ l.count)
