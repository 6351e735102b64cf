use Rattle.std.proofs.Common.{◌≡◌, ◌++◌, map, take}
use Rattle.nm_short.proofs.asks.add_entries.Given as goal

-- the names so far stand there
abbrev pub invariant-loop-entry : goal.invariant-loop-entry
invariant-loop-entry l = l.names ≡ l.initial.names ++ map (λ entry. entry.name) (take l.entry-index l.entries)
