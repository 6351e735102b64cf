use Rattle.std.proofs.Common.{◌≡◌, length, take}
use Rattle.nm_attrs.specs.Attributes.{values_of}
use Rattle.nm_attrs.proofs.lengths.values_length.Given as goal

-- the length of those so far
abbrev pub invariant-loop-attr : goal.invariant-loop-attr
invariant-loop-attr l = l.sum ≡ length (values_of (take l.attr-index l.attrs))
