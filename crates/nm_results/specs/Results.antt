-- Results (RFC 7530, 16; RFC 7531, COMPOUND4res): their layout, and what is read of any bytes.
use Rattle.std.specs.Prelude.{◌≡◌, ℕ, ◌-◌, ◌^◌, ◌<◌, ◌≤◌, true, List, [], ◌∷◌, ◌++◌, length, All, Option, Some, None, Result, Ok, Err}
use Rattle.nm_xdr.specs.Fields.{enum, Fault, Reading, ◌>>=◌, fault_at, field, made, tested, all_of}
use Rattle.nm_xdr.specs.Items.{word, opaque, counted, structure, word_at, counted_at, enum_at, bytes_at}
use Rattle.nm_xdr.specs.Places.{place_of}
use Rattle.nm_items.specs.declared.fault.ReadFault.{ReadFault}
use Rattle.nm_items.specs.declared.fault.ReadFault.TheVariants as item
use Rattle.nm_types.specs.declared.status.OpStatus.{OpStatus}
use Rattle.nm_types.specs.Statuses.{number_of, status_of}
use Rattle.nm_results.specs.declared.arms.Arm.{Arm}
use Rattle.nm_results.specs.declared.values.OpResult.{OpResult}
use Rattle.nm_results.specs.declared.values.Results.{Results}
use Rattle.nm_results.specs.declared.fault.ResultsFault.{ResultsFault}
use Rattle.nm_results.specs.declared.fault.ResultsFault.TheVariants as fault
use Rattle.nm_results.specs.Arms.{is_op, arm_of}
use Rattle.nm_results.specs.Values.{arm_with, value_at, value_bytes, IsValue, IsSpelling}

-- ---- Reading

-- the number of an operation that has results
unfoldable pub op_at : Reading ℕ
op_at = tested is_op enum word_at

-- a status of the table
unfoldable pub status_at : Reading OpStatus
status_at = enum_at status_of

-- the value that goes with a status, which stands at these bytes
abbrev pub judged : Option Arm → OpStatus → List ℕ → List ℕ → Result ((OpStatus × Arm) × List ℕ) Fault
judged None status bytes rest = fault_at (enum (number_of status)) bytes
judged (Some arm) status bytes rest = Ok ((status, arm), rest)

-- a status that the operation can have, with the value that it has then
unfoldable pub arm_at : ℕ → Reading (OpStatus × Arm)
arm_at op bytes = status_at bytes >>= λ s. judged (arm_of op s.0) s.0 bytes s.1

-- the result of one operation
unfoldable pub result_at : Reading OpResult
result_at =
    field op_at (λ op. field (arm_at op) (λ s. field (value_at s.1) (λ v. made (record { op = op; status = s.0; value = v }))))

unfoldable pub items_at : Reading (List OpResult)
items_at = counted_at (2 ^ 32 - 1) (λ _. result_at)

-- the status of the whole, the tag, and the results
unfoldable pub results_at : Reading Results
results_at =
    field status_at (λ status. field (bytes_at 1024) (λ tag. field items_at (λ items. made (record { status = status; tag = tag; items = items }))))

-- What all of the bytes tell, or the first fault.
unfoldable pub results_of : List ℕ → Result Results Fault
results_of bytes = all_of results_at bytes

-- the place of a fault in an input of so many bytes
abbrev pub place_in : {X : Type 0} → ℕ → Result X Fault → Option ℕ
place_in total (Ok x) = None
place_in total (Err f) = Some (total - f.left)

-- the place that a fault of an item tells
abbrev pub as_results_fault : ReadFault → ResultsFault
as_results_fault (item.Xdr e) = fault.At (place_of e)
as_results_fault item.Memory = fault.Memory

-- A call that reads results answers these, or the place of the first item that isn't there or is outside. For want of memory
-- it may answer nothing.
abbrev pub AnswersResults : Result Results ResultsFault → List ℕ → Type 0
AnswersResults (Ok v) bytes = results_of bytes ≡ Ok v
AnswersResults (Err (fault.At at)) bytes = place_in (length bytes) (results_of bytes) ≡ Some at
AnswersResults (Err fault.Memory) bytes = Unit {0}

-- ---- Spelling

-- The bytes that are written for a result.
unfoldable pub result_bytes : OpResult → List ℕ
result_bytes r = structure (word r.op ∷ word (number_of r.status) ∷ value_bytes r.value ∷ [])

unfoldable pub results_bytes : Results → List ℕ
results_bytes v = structure (word (number_of v.status) ∷ opaque v.tag ∷ counted result_bytes v.items ∷ [])

-- What can be spelled: the value is the one that the operation has with this status.
pub record IsOpResult (r : OpResult) : Type 0 where
  pub op : is_op r.op ≡ true
  pub arm : arm_of r.op r.status ≡ Some (arm_with r.value)
  pub value : IsValue r.value

pub record AreResults (v : Results) : Type 0 where
  pub tag : length v.tag ≤ 1024
  pub count : length v.items < 2 ^ 32
  pub each : All IsOpResult v.items

-- ---- What bytes are results, apart from how they are read

-- the bytes of one result, with those of its value behind the numbers of its operation and its status
pub record IsResult (r : OpResult) (bytes : List ℕ) : Type 0 where
  pub op : is_op r.op ≡ true
  pub arm : arm_of r.op r.status ≡ Some (arm_with r.value)
  pub body : List ℕ
  pub value : IsSpelling r.value body
  pub spelled : bytes ≡ word r.op ++ (word (number_of r.status) ++ body)

-- one after the other
abbrev pub AreRows : List OpResult → List ℕ → Type 0
AreRows [] bytes = bytes ≡ []
AreRows (r ∷ rs) bytes = (front : List ℕ) × (back : List ℕ) × IsResult r front × AreRows rs back × (bytes ≡ front ++ back)

-- These bytes are the results. The status of the whole isn't tied to theirs.
pub record IsResults (v : Results) (bytes : List ℕ) : Type 0 where
  pub tag : length v.tag ≤ 1024
  pub count : length v.items < 2 ^ 32
  pub rows : List ℕ
  pub each : AreRows v.items rows
  pub spelled : bytes ≡ word (number_of v.status) ++ (opaque v.tag ++ (word (length v.items) ++ rows))
