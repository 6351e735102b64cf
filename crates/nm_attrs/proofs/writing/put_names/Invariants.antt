use Rattle.std.proofs.Common.{◌≡◌, ◌++◌, take}
use Rattle.std.specs.List.{flat_map}
use Rattle.nm_xdr.specs.Items.{opaque}
use Rattle.nm_attrs.proofs.writing.put_names.Given as goal

-- those so far are put
abbrev pub invariant-loop-name : goal.invariant-loop-name
invariant-loop-name l = l.writer ≡ l.initial.writer ++ flat_map opaque (take l.name-index l.names)
