use Rattle.std.proofs.Common.{◌≡◌, length, take}
use Rattle.std.specs.List.{flat_map}
use Rattle.nm_xdr.specs.Items.{opaque}
use Rattle.nm_attrs.proofs.lengths.names_length.Given as goal

-- the length of those so far
abbrev pub invariant-loop-name : goal.invariant-loop-name
invariant-loop-name l = l.sum ≡ length (flat_map opaque (take l.name-index l.names))
