-- Kept calls, as an image has them: the number and the arguments of an operation that reaches a file system, with every clientid 0.
use Rattle.std.specs.Prelude.{◌≡◌, ℕ, Bool, true, false, List, Option, Some, None, Result, Ok, Err}
use Rattle.nm_xdr.specs.Fields.{short, Reading, fault_at, field, made, tested}
use Rattle.nm_xdr.specs.Items.{enum_at}
use Rattle.nm_xdr.specs.Places.{Spot, end_of}
use Rattle.nm_types.specs.declared.calls.Deed.{Deed}
use Rattle.nm_types.specs.declared.calls.Deed.TheVariants as deed
use Rattle.nm_args.specs.declared.parts.Clientids.TheVariants.{Zero}
use Rattle.nm_args.specs.declared.op.Op.{Op}
use Rattle.nm_args.specs.declared.op.Op.TheVariants as op
use Rattle.nm_args.specs.declared.op.OpCode.{OpCode}
use Rattle.nm_args.specs.declared.op.OpCode.TheVariants as code
use Rattle.nm_args.specs.declared.compound.ArgsFault.{ArgsFault}
use Rattle.nm_args.specs.Operations.{code_of_number, args_by, IsOpBy, operation}
use Rattle.nm_args.specs.Compounds.{IsRefused}

-- ---- Operations that reach a file system

unfoldable pub has_deed : OpCode → Bool
has_deed code.Access = true
has_deed code.Close = true
has_deed code.Commit = true
has_deed code.Create = true
has_deed code.GetAttr = true
has_deed code.Lock = true
has_deed code.LockT = true
has_deed code.LockU = true
has_deed code.Lookup = true
has_deed code.LookupP = true
has_deed code.Open = true
has_deed code.OpenConfirm = true
has_deed code.OpenDowngrade = true
has_deed code.Read = true
has_deed code.ReadDir = true
has_deed code.Remove = true
has_deed code.SetAttr = true
has_deed code.Write = true
has_deed code.ReleaseLockOwner = true
has_deed _ = false

-- The operation of a call: 0 stands for the clientid, which the caller's instance tells.
unfoldable pub op_of : Deed → Op
op_of (deed.Access a) = op.Access a
op_of (deed.Close a) = op.Close a
op_of (deed.Commit a) = op.Commit a
op_of (deed.Create a) = op.Create a
op_of (deed.GetAttr a) = op.GetAttr a
op_of (deed.Lock a) = op.Lock (record { clientid = 0; args = a })
op_of (deed.LockTest a) = op.LockT (record { clientid = 0; args = a })
op_of (deed.Lookup a) = op.Lookup a
op_of deed.LookupP = op.LookupP
op_of (deed.Open a) = op.Open (record { clientid = 0; args = a })
op_of (deed.OpenConfirm a) = op.OpenConfirm a
op_of (deed.OpenDowngrade a) = op.OpenDowngrade a
op_of (deed.Read a) = op.Read a
op_of (deed.ReadDir a) = op.ReadDir a
op_of (deed.ReleaseLockOwner a) = op.ReleaseLockOwner (record { clientid = 0; args = a })
op_of (deed.Remove a) = op.Remove a
op_of (deed.SetAttr a) = op.SetAttr a
op_of (deed.Unlock a) = op.LockU a
op_of (deed.Write a) = op.Write a

-- the call of an operation, where it is one
unfoldable pub deed_of : Op → Option Deed
deed_of (op.Access a) = Some (deed.Access a)
deed_of (op.Close a) = Some (deed.Close a)
deed_of (op.Commit a) = Some (deed.Commit a)
deed_of (op.Create a) = Some (deed.Create a)
deed_of (op.GetAttr a) = Some (deed.GetAttr a)
deed_of (op.Lock a) = Some (deed.Lock a.args)
deed_of (op.LockT a) = Some (deed.LockTest a.args)
deed_of (op.LockU a) = Some (deed.Unlock a)
deed_of (op.Lookup a) = Some (deed.Lookup a)
deed_of op.LookupP = Some deed.LookupP
deed_of (op.Open a) = Some (deed.Open a.args)
deed_of (op.OpenConfirm a) = Some (deed.OpenConfirm a)
deed_of (op.OpenDowngrade a) = Some (deed.OpenDowngrade a)
deed_of (op.Read a) = Some (deed.Read a)
deed_of (op.ReadDir a) = Some (deed.ReadDir a)
deed_of (op.Remove a) = Some (deed.Remove a)
deed_of (op.SetAttr a) = Some (deed.SetAttr a)
deed_of (op.Write a) = Some (deed.Write a)
deed_of (op.ReleaseLockOwner a) = Some (deed.ReleaseLockOwner a.args)
deed_of _ = None

-- ---- The layout

unfoldable pub deed_bytes : Deed → List ℕ
deed_bytes d = operation (op_of d)

-- numbers are within their size, and lengths within their limits
abbrev pub IsDeed : Deed → Type 0
IsDeed d = IsOpBy Zero (op_of d)

-- The number of an operation that reaches a file system. Another one is told at its first byte.
unfoldable pub deed_code_at : Reading OpCode
deed_code_at = tested has_deed (λ _. short) (enum_at code_of_number)

abbrev pub known : Option Deed → Reading Deed
known (Some d) = made d
known None = fault_at short

-- the arguments of such an operation
unfoldable pub deed_args_at : OpCode → Reading Deed
deed_args_at code = field (args_by Zero code) (λ o. known (deed_of o))

unfoldable pub deed_at : Reading Deed
deed_at = field deed_code_at deed_args_at

-- ---- What a call of the code answers

-- What is read from one spot: the value, with the cursor left after its bytes; or the place of the first item that can't be read.
abbrev pub ReadsFrom : {X : Type 0} → Reading X → Spot → Result X ArgsFault → Spot → Type 0
ReadsFrom read from (Ok x) to = (read from.rest ≡ Ok (x, to.rest)) × (end_of to ≡ end_of from)
ReadsFrom read from (Err e) to = IsRefused (end_of from) e (read from.rest)
