use Rattle.std.proofs.Common.{◌≡◌, ◌++◌, take}
use Rattle.std.specs.List.{flat_map}
use Rattle.nm_attrs.specs.Attributes.{location}
use Rattle.nm_attrs.proofs.writing.put_locations.Given as goal

-- those so far are put
abbrev pub invariant-loop-place : goal.invariant-loop-place
invariant-loop-place l = l.writer ≡ l.initial.writer ++ flat_map location (take l.place-index l.locations)
