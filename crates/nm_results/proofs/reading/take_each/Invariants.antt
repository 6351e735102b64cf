use Rattle.std.proofs.Common.{◌≡◌, ◌-◌, []}
use Rattle.nm_xdr.specs.Fields.{rows_at}
use Rattle.nm_xdr.specs.Places.{end_of}
use Rattle.nm_results.specs.Results.{result_at}
use Rattle.nm_results.proofs.reading.take_each.Given as goal

-- what is left to read, behind what was read, is what is read of all
abbrev pub invariant-loop : goal.invariant-loop
invariant-loop l =
    (rows_at (λ _. result_at) (l.count - l.counter) l.results l.cursor.rest ≡ rows_at (λ _. result_at) l.count [] l.initial.cursor.rest)
    × (end_of l.cursor ≡ end_of l.initial.cursor)
