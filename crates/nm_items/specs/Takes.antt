-- Readings that keep what they take: beside the first fault they may answer want of memory.
use Rattle.std.specs.Prelude.{◌≡◌, List, ℕ, Result, Ok, Err}
use Rattle.nm_xdr.specs.Fields.{Fault, Reading}
use Rattle.nm_xdr.specs.Places.{Spot, end_of, Tells}
use Rattle.nm_items.specs.declared.fault.ReadFault.{ReadFault}
use Rattle.nm_items.specs.declared.fault.ReadFault.TheVariants as item

-- Reading an input of so many bytes gave this fault, or memory was wanting.
abbrev pub Fails : {X : Type 0} → ℕ → ReadFault → Result (X × List ℕ) Fault → Type 0
Fails total (item.Xdr e) given = Tells total e given
Fails total item.Memory given = Unit {0}

-- A call that reads from one spot gives what reading gives of the bytes there: the value, with the cursor left after its bytes, or the
-- first fault. For want of memory it may give nothing.
abbrev pub Takes : {X : Type 0} → Reading X → Spot → Result X ReadFault → Spot → Type 0
Takes read from (Ok x) to = (read from.rest ≡ Ok (x, to.rest)) × (end_of to ≡ end_of from)
Takes read from (Err e) to = Fails (end_of from) e (read from.rest)
