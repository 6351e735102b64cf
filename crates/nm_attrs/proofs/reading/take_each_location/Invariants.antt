use Rattle.std.proofs.Common.{◌≡◌, ◌-◌, []}
use Rattle.nm_xdr.specs.Fields.{rows_at}
use Rattle.nm_xdr.specs.Places.{end_of}
use Rattle.nm_attrs.specs.Attributes.{location_at}
use Rattle.nm_attrs.proofs.reading.take_each_location.Given as goal

-- what is left to read, behind what was read, is what is read of all
abbrev pub invariant-loop : goal.invariant-loop
invariant-loop l =
    (rows_at (λ _. location_at) (l.count - l.counter) l.locations l.cursor.rest ≡ rows_at (λ _. location_at) l.count [] l.initial.cursor.rest)
    × (end_of l.cursor ≡ end_of l.initial.cursor)
