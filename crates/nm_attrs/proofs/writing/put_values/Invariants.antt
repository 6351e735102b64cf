use Rattle.std.proofs.Common.{◌≡◌, ◌++◌, take}
use Rattle.nm_attrs.specs.Attributes.{values_of}
use Rattle.nm_attrs.proofs.writing.put_values.Given as goal

-- the values so far are put
abbrev pub invariant-loop-attr : goal.invariant-loop-attr
invariant-loop-attr l = l.writer ≡ l.initial.writer ++ values_of (take l.attr-index l.attrs)
