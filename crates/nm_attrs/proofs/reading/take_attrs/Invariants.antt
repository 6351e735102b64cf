use Rattle.std.proofs.Common.{◌≡◌, [], drop}
use Rattle.nm_xdr.specs.Places.{end_of}
use Rattle.nm_attrs.specs.Attributes.{in_bitmap, attrs_at}
use Rattle.nm_attrs.proofs.reading.take_attrs.Given as goal

-- what the other attributes leave to read, behind what was read, is what is read of all
abbrev pub invariant-loop-layout : goal.invariant-loop-layout
invariant-loop-layout l =
    (attrs_at (in_bitmap l.bitmap (drop l.layout-index l.layouts)) l.attrs l.cursor.rest ≡ attrs_at (in_bitmap l.bitmap l.layouts) [] l.initial.cursor.rest)
    × (end_of l.cursor ≡ end_of l.initial.cursor)
