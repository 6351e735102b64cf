use Rattle.std.proofs.Common.{◌≡◌, false, take}
use Rattle.nm_journal.specs.Journals.{after_entries}
use Rattle.nm_journal.proofs.journal.fold.Given as goal

-- the first so many have gone into the base
abbrev pub invariant-loop-at : goal.invariant-loop-at
invariant-loop-at l = l.base ≡ record { seen = after_entries l.initial.base.seen (take l.at l.entries); spent = false }
