use Rattle.std.proofs.Common.{◌≡◌, take}
use Rattle.nm_attrs.specs.Attributes.{mask_of}
use Rattle.nm_attrs.proofs.writing.mask_of_attrs.Given as goal

-- the numbers so far are in the mask
abbrev pub invariant-loop-attr : goal.invariant-loop-attr
invariant-loop-attr l = l.mask ≡ mask_of (take l.attr-index l.attrs)
