use Rattle.std.proofs.Common.{◌≡◌, map, replicate}
use Rattle.nm_short.specs.Slots.{view_of}
use Rattle.nm_short.specs.Tables.{no_part}
use Rattle.nm_short.proofs.slots.no_parts.Given as goal

abbrev pub invariant-loop-count : goal.invariant-loop-count
invariant-loop-count l = map view_of l.list.items ≡ replicate l._count (no_part l.fs)
