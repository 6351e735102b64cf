use Rattle.std.proofs.Common.{◌≡◌, ◌-◌, []}
use Rattle.nm_xdr.specs.Fields.{rows_at}
use Rattle.nm_xdr.specs.Items.{opaque_at}
use Rattle.nm_xdr.specs.Places.{end_of}
use Rattle.nm_attrs.proofs.reading.take_names.Given as goal

-- what is left to read, behind what was read, is what is read of all
abbrev pub invariant-loop : goal.invariant-loop
invariant-loop l =
    (rows_at (λ _. (opaque_at 1048576)) (l.count - l.counter) l.names l.cursor.rest ≡ rows_at (λ _. (opaque_at 1048576)) l.count [] l.initial.cursor.rest)
    × (end_of l.cursor ≡ end_of l.initial.cursor)
