-- What the steps of reading a compound answer.
use Rattle.std.specs.Prelude.{◌≡◌, ℕ, ◌≤◌, List, Result, Ok, Err}
use Rattle.nm_xdr.specs.Fields.{Fault}
use Rattle.nm_xdr.specs.Places.{Spot, end_of, fault_of, place_of}
use Rattle.nm_items.specs.declared.fault.ReadFault.{ReadFault}
use Rattle.nm_items.specs.declared.fault.ReadFault.TheVariants as item
use Rattle.nm_args.specs.declared.op.Op.{Op}
use Rattle.nm_args.specs.declared.compound.CompoundEnd.{CompoundEnd}
use Rattle.nm_args.specs.declared.compound.CompoundEnd.TheVariants.{BadXdr}
use Rattle.nm_args.specs.declared.compound.ArgsFault.{ArgsFault}
use Rattle.nm_args.specs.declared.reading.Next.{Next as TakenNext}
use Rattle.nm_args.specs.declared.reading.Next.TheVariants.{One, End}
use Rattle.nm_args.specs.declared.reading.ReadOps.{ReadOps}
use Rattle.nm_args.specs.Compounds.{one, none_as, missing, next_at, IsRefused}

-- the operation n isn't read for this fault
abbrev pub unread : ReadFault → ℕ → Result TakenNext ReadFault
unread (item.Xdr e) n = Ok (End (BadXdr n))
unread item.Memory n = Err item.Memory

-- A call that takes the next operation gives what it is, and leaves the cursor behind it where there is one.
abbrev pub IsNext : Spot → TakenNext → Spot → Type 0
IsNext from (One o) to = (next_at from.rest ≡ one o to.rest) × (end_of to ≡ end_of from)
IsNext from (End end) to = next_at from.rest ≡ none_as end

abbrev pub IsMissing : Spot → ReadFault → Type 0
IsMissing from (item.Xdr e) = (next_at from.rest ≡ missing (fault_of (end_of from) e)) × (place_of e ≤ end_of from)
IsMissing from item.Memory = Unit {0}

abbrev pub TakesNext : Spot → Result TakenNext ReadFault → Spot → Type 0
TakesNext from (Ok next) to = IsNext from next to
TakesNext from (Err e) to = IsMissing from e

-- A call that reads operations to their end gives what is read of them.
abbrev pub OpsRead : Result ReadOps ArgsFault → ℕ → Result (List Op × CompoundEnd) Fault → Type 0
OpsRead (Ok r) total given = given ≡ Ok (r.ops, r.end)
OpsRead (Err e) total given = IsRefused total e given
