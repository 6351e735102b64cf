-- The arguments of COMPOUND (RFC 7530, 15.2; RFC 7531, COMPOUND4args): their layout, and what is read of any bytes.
use Rattle.std.specs.Prelude.{◌≡◌, ◌≢◌, ℕ, zero, suc, ◌+◌, ◌≤◌, ◌<◌, ◌==◌, not, nat_lt, List, [], ◌∷◌, ◌++◌, length, All, Option, Some, None, Result, Ok, Err, if◌then◌else◌}
use Rattle.std.specs.List.{flat_map}
use Rattle.nm_xdr.specs.Fields.{Fault, ◌>>=◌, ended}
use Rattle.nm_xdr.specs.Items.{word, opaque, counted, structure, word_at}
use Rattle.nm_xdr.specs.Places.{place_of}
use Rattle.nm_items.specs.declared.fault.ReadFault.{ReadFault}
use Rattle.nm_items.specs.declared.fault.ReadFault.TheVariants as item
use Rattle.nm_args.specs.declared.op.Op.{Op}
use Rattle.nm_args.specs.declared.op.OpCode.{OpCode}
use Rattle.nm_args.specs.declared.compound.Compound.{Compound}
use Rattle.nm_args.specs.declared.compound.CompoundEnd.{CompoundEnd}
use Rattle.nm_args.specs.declared.compound.CompoundEnd.TheVariants.{Clean, Minor, TooMany, BadXdr, Illegal}
use Rattle.nm_args.specs.declared.compound.ArgsFault.{ArgsFault}
use Rattle.nm_args.specs.declared.compound.ArgsFault.TheVariants as fault
use Rattle.nm_args.specs.Parts.{IsWord, text_at, IsText}
use Rattle.nm_args.specs.Operations.{code_of_number, code_of, args_at, args, IsOp, operation}

-- ---- Spelling

-- a tag, a minor version, and the operations behind their count
unfoldable pub compound : Compound → List ℕ
compound c = structure (opaque c.tag ∷ word c.minor ∷ counted operation c.ops ∷ [])

-- A compound that can be written: its end is Clean, its minor version 0, and it has at most 64 operations.
pub record CanBeWritten (c : Compound) : Type 0 where
  pub clean : c.end ≡ Clean
  pub minor : c.minor ≡ 0
  pub few : length c.ops ≤ 64
  pub tag : IsText c.tag
  pub ops : All IsOp c.ops

-- ---- Reading

-- What the next operation is.
pub data Next : Type 0 where
  -- this one, and these bytes are behind it
  one : Op → List ℕ → Next
  -- there is none, and the compound ends so
  none_as : CompoundEnd → Next
  -- its number can't be read
  missing : Fault → Next

-- the operation n, by what was read of its arguments
abbrev pub with_args : ℕ → Result (Op × List ℕ) Fault → Next
with_args n (Ok x) = one x.0 x.1
with_args n (Err f) = none_as (BadXdr n)

-- by which operation has the number n
abbrev pub with_code : ℕ → Option OpCode → List ℕ → Next
with_code n None bytes = none_as (Illegal n)
with_code n (Some code) bytes = with_args n (args_at code bytes)

abbrev pub with_number : Result (ℕ × List ℕ) Fault → Next
with_number (Ok n) = with_code n.0 (code_of_number n.0) n.1
with_number (Err f) = missing f

unfoldable pub next_at : List ℕ → Next
next_at bytes = with_number (word_at bytes)

-- what follows an operation, or how it ends
abbrev pub then_by : (Op → List ℕ → Result (List Op × CompoundEnd) Fault) → List Op → Next → Result (List Op × CompoundEnd) Fault
then_by more ops (one o rest) = more o rest
then_by more ops (none_as end) = Ok (ops, end)
then_by more ops (missing f) = Err f

-- So many operations behind those that were read, and how they end. Behind the last of all nothing is left.
unfoldable pub ops_at : ℕ → List Op → List ℕ → Result (List Op × CompoundEnd) Fault
ops_at zero ops bytes = ended (ops, Clean) bytes
ops_at (suc count) ops bytes = then_by (λ o rest. ops_at count (ops ++ o ∷ []) rest) ops (next_at bytes)

-- a compound with these operations
abbrev pub with_ops : List ℕ → ℕ → Result (List Op × CompoundEnd) Fault → Result Compound Fault
with_ops tag minor (Ok x) = Ok (record { tag = tag; minor = minor; ops = x.0; end = x.1 })
with_ops tag minor (Err f) = Err f

-- By the minor version first, then by the count.
abbrev pub judged : List ℕ → ℕ → ℕ → List ℕ → Result Compound Fault
judged tag minor count bytes =
    if not (minor == 0) then with_ops tag minor (Ok ([], Minor))
    else if nat_lt 64 count then with_ops tag minor (Ok ([], TooMany count))
    else with_ops tag minor (ops_at count [] bytes)

-- What is read of all of the bytes.
unfoldable pub compound_of : List ℕ → Result Compound Fault
compound_of bytes = text_at bytes >>= λ tag. word_at tag.1 >>= λ minor. word_at minor.1 >>= λ count. judged tag.0 minor.0 count.0 count.1

-- ---- What a call of the code answers

-- a fault by its place alone
abbrev pub as_garbage : ReadFault → ArgsFault
as_garbage (item.Xdr e) = fault.GarbageAt (place_of e)
as_garbage item.Memory = fault.Memory

-- Of an input of so many bytes nothing was read, since it is wrong at this place.
abbrev pub IsGarbage : {X : Type 0} → ℕ → ℕ → Result X Fault → Type 0
IsGarbage total at (Ok x) = ⊥
IsGarbage total at (Err f) = at + f.left ≡ total

-- The same of a fault that a call answers. For want of memory it may answer nothing.
abbrev pub IsRefused : {X : Type 0} → ℕ → ArgsFault → Result X Fault → Type 0
IsRefused total (fault.GarbageAt at) given = IsGarbage total at given
IsRefused total fault.Memory given = Unit {0}

-- A call answers what was read, or where it is wrong.
abbrev pub Answers : {X : Type 0} → Result X ArgsFault → ℕ → Result X Fault → Type 0
Answers (Ok x) total given = given ≡ Ok x
Answers (Err e) total given = IsRefused total e given

-- ---- What the arguments of a compound are, apart from how they are read

-- No beginning of these bytes spells the arguments of the operation.
abbrev pub NoArgs : OpCode → List ℕ → Type 0
NoArgs code bytes = (o : Op) (rest : List ℕ) → code_of o ≡ code → IsOp o → bytes ≢ args o ++ rest

-- What stands behind some operations that were read, of so many that were announced, where they end so: nothing behind the last of all;
-- a number and bytes of which no beginning is its arguments; or a number that no operation has, and any bytes.
abbrev pub IsBehind : CompoundEnd → ℕ → ℕ → List ℕ → Type 0
IsBehind Clean count read bytes = (read ≡ count) × (bytes ≡ [])
IsBehind Minor count read bytes = ⊥
IsBehind (TooMany n) count read bytes = ⊥
IsBehind (BadXdr n) count read bytes =
    (read < count) × ((code : OpCode) × (behind : List ℕ) × (code_of_number n ≡ Some code) × (bytes ≡ word n ++ behind) × NoArgs code behind)
IsBehind (Illegal n) count read bytes = (read < count) × IsWord n × (code_of_number n ≡ None) × ((behind : List ℕ) × (bytes ≡ word n ++ behind))

-- the operations of a compound that isn't refused by its minor version or its count
pub record EndsAfter (c : Compound) (count : ℕ) (bytes : List ℕ) : Type 0 where
  pub minor : c.minor ≡ 0
  pub few : count ≤ 64
  pub behind : List ℕ
  pub spelled : bytes ≡ flat_map operation c.ops ++ behind
  pub fits : All IsOp c.ops
  pub ends : IsBehind c.end count (length c.ops) behind

-- how a compound ends, by what stands behind its count
abbrev pub HasEnd : CompoundEnd → Compound → ℕ → List ℕ → Type 0
HasEnd Minor c count bytes = (c.minor ≢ 0) × (c.ops ≡ [])
HasEnd (TooMany n) c count bytes = (c.minor ≡ 0) × (64 < count) × (n ≡ count) × (c.ops ≡ [])
HasEnd Clean c count bytes = EndsAfter c count bytes
HasEnd (BadXdr n) c count bytes = EndsAfter c count bytes
HasEnd (Illegal n) c count bytes = EndsAfter c count bytes

-- These bytes are the arguments of this compound.
pub record IsCompound (c : Compound) (bytes : List ℕ) : Type 0 where
  pub count : ℕ
  pub behind : List ℕ
  pub tag : IsText c.tag
  pub minor : IsWord c.minor
  pub counts : IsWord count
  pub spelled : bytes ≡ opaque c.tag ++ (word c.minor ++ (word count ++ behind))
  pub ends : HasEnd c.end c count behind
