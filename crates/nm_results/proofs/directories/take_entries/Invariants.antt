use Rattle.std.proofs.Common.{◌≡◌, ◌-◌, []}
use Rattle.nm_xdr.specs.Places.{end_of}
use Rattle.nm_results.specs.Directories.{entries_at}
use Rattle.nm_results.proofs.directories.take_entries.Given as goal

-- what is left to read, behind what was read, is what is read of all
abbrev pub invariant-loop : goal.invariant-loop
invariant-loop l =
    (entries_at (l.number - l.counter) l.entries l.cursor.rest ≡ entries_at l.number [] l.initial.cursor.rest)
    × (end_of l.cursor ≡ end_of l.initial.cursor)
