-- Readings that answer a fault of attributes.
use Rattle.std.specs.Prelude.{◌≡◌, List, ℕ, Result, Ok, Err}
use Rattle.nm_xdr.specs.Fields.{Fault, Reading}
use Rattle.nm_xdr.specs.Places.{Spot, end_of, Tells}
use Rattle.nm_items.specs.declared.fault.ReadFault.{ReadFault}
use Rattle.nm_items.specs.declared.fault.ReadFault.TheVariants as item
use Rattle.nm_attrs.specs.declared.fault.AttrFault.{AttrFault}
use Rattle.nm_attrs.specs.declared.fault.AttrFault.TheVariants as attrs

-- The fault of an item, among those of attributes.
abbrev pub as_attr_fault : ReadFault → AttrFault
as_attr_fault (item.Xdr e) = attrs.Xdr e
as_attr_fault item.Memory = attrs.Memory

-- Reading an input of so many bytes gave this fault, or memory was wanting. No attribute is unsupported here.
abbrev pub FailsSo : {X : Type 0} → ℕ → AttrFault → Result (X × List ℕ) Fault → Type 0
FailsSo total (attrs.Unsupported bit) given = ⊥
FailsSo total (attrs.Xdr e) given = Tells total e given
FailsSo total attrs.Memory given = Unit {0}

-- A call that reads from one spot gives the value, with the cursor left after its bytes, or the first fault. For want of memory it may give nothing.
abbrev pub TakesOrFails : {X : Type 0} → Reading X → Spot → Result X AttrFault → Spot → Type 0
TakesOrFails read from (Ok x) to = (read from.rest ≡ Ok (x, to.rest)) × (end_of to ≡ end_of from)
TakesOrFails read from (Err e) to = FailsSo (end_of from) e (read from.rest)
