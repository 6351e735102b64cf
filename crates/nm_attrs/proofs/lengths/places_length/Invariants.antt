use Rattle.std.proofs.Common.{◌≡◌, length, take}
use Rattle.std.specs.List.{flat_map}
use Rattle.nm_attrs.specs.Attributes.{location}
use Rattle.nm_attrs.proofs.lengths.places_length.Given as goal

-- the length of those so far
abbrev pub invariant-loop-place : goal.invariant-loop-place
invariant-loop-place l = l.sum ≡ length (flat_map location (take l.place-index l.places))
