use Rattle.std.proofs.Common.{◌≡◌, ◌-◌, []}
use Rattle.nm_xdr.specs.Places.{end_of}
use Rattle.nm_args.specs.Compounds.{ops_at}
use Rattle.nm_args.proofs.reading.read_ops.Given as goal

-- what is left to read, behind what was read, is what is read of all
abbrev pub invariant-loop : goal.invariant-loop
invariant-loop l =
    (ops_at (l.count - l.counter) l.ops l.cursor.rest ≡ ops_at l.count [] l.initial.cursor.rest)
    × (end_of l.cursor ≡ end_of l.initial.cursor)
