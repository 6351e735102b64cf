-- A reply that is kept of an owner, as it stands in an image: the number of its operation, its status and its value. The operations are
-- those that take a seqid. Each value has one spelling.
use Rattle.std.specs.Prelude.{◌≡◌, ℕ, Bool, true, false, not, ◌==◌, ◌&&◌, List, [], ◌∷◌, Option, Some, None, find, IfSome, Result, Ok, Err, if◌then◌else◌}
use Rattle.nm_xdr.specs.Fields.{Reading, field, made}
use Rattle.nm_xdr.specs.Items.{word, structure, enum_at}
use Rattle.nm_xdr.specs.Places.{Spot, end_of}
use Rattle.nm_types.specs.Parties.{Party}
use Rattle.nm_types.specs.Statuses.{is_done, number_of}
use Rattle.nm_types.specs.declared.calls.Reply.{Reply}
use Rattle.nm_types.specs.declared.calls.ReplyValue.{ReplyValue}
use Rattle.nm_types.specs.declared.calls.ReplyValue.TheVariants as value
use Rattle.nm_types.specs.declared.results.LockOutcome.{LockOutcome}
use Rattle.nm_types.specs.declared.results.LockOutcome.TheVariants.{Locked, Denied as InTheWay}
use Rattle.nm_types.specs.declared.status.OpStatus.{OpStatus}
use Rattle.nm_types.specs.declared.status.OpStatus.TheVariants.{Denied as DeniedStatus}
use Rattle.nm_results.specs.declared.fault.ResultsFault.{ResultsFault}
use Rattle.nm_results.specs.declared.fault.ResultsFault.TheVariants as fault
use Rattle.nm_results.specs.declared.kept_values.KeptOp.{KeptOp}
use Rattle.nm_results.specs.declared.kept_values.KeptOp.TheVariants as op
use Rattle.nm_results.specs.KeptOpens.{opened, opened_at, IsOpened}
use Rattle.nm_results.specs.KeptLocks.{kept_denied, kept_denied_at, IsKeptDenied}
use Rattle.nm_items.specs.Parts.{stateid, stateid_at, IsStateId}
use Rattle.nm_results.specs.Results.{status_at, place_in}

-- ---- Values that are there with one status alone

abbrev pub where_at : {X : Type 0} → Bool → Reading X → Reading (Option X)
where_at true read = field read (λ x. made (Some x))
where_at false read = made None

abbrev pub where_there : {X : Type 0} → (X → List ℕ) → Option X → List ℕ
where_there spell None = []
where_there spell (Some x) = spell x

-- It is there exactly then.
abbrev pub is_there : {X : Type 0} → Bool → Option X → Bool
is_there holds None = not holds
is_there holds (Some x) = holds

-- ---- LOCK

abbrev pub is_denied : OpStatus → Bool
is_denied DeniedStatus = true
is_denied _ = false

-- what LOCK tells: with OK a stateid, with DENIED the lock that is in the way, else nothing
unfoldable pub outcome_at : List Party → OpStatus → Reading (Option LockOutcome)
outcome_at holders status =
    if is_done status then field stateid_at (λ s. made (Some (Locked s)))
    else if is_denied status then field (kept_denied_at holders) (λ d. made (Some (InTheWay d)))
    else made None

abbrev pub outcome : List Party → Option LockOutcome → List ℕ
outcome holders None = []
outcome holders (Some (Locked s)) = stateid s
outcome holders (Some (InTheWay d)) = kept_denied holders d

abbrev pub IsOutcome : List Party → Option LockOutcome → Type 0
IsOutcome holders None = Unit {0}
IsOutcome holders (Some (Locked s)) = IsStateId s
IsOutcome holders (Some (InTheWay d)) = IsKeptDenied holders d

abbrev pub outcome_suits : OpStatus → Option LockOutcome → Bool
outcome_suits status None = not (is_done status) && not (is_denied status)
outcome_suits status (Some (Locked s)) = is_done status
outcome_suits status (Some (InTheWay d)) = is_denied status

-- ---- The operations

-- their numbers (RFC 7531, nfs_opnum4)
unfoldable pub number_of_op : KeptOp → ℕ
number_of_op op.Close = 4
number_of_op op.Lock = 12
number_of_op op.LockU = 14
number_of_op op.Open = 18
number_of_op op.OpenConfirm = 20
number_of_op op.OpenDowngrade = 21

-- the one of this number
unfoldable pub kept_op : ℕ → Option KeptOp
kept_op n = find (λ o. number_of_op o == n) (op.Close ∷ op.Lock ∷ op.LockU ∷ op.Open ∷ op.OpenConfirm ∷ op.OpenDowngrade ∷ [])

-- the operation that has this value; the others are never kept
unfoldable pub op_with : ReplyValue → Option KeptOp
op_with (value.Close o) = Some op.Close
op_with (value.Lock o) = Some op.Lock
op_with (value.Unlock o) = Some op.LockU
op_with (value.Open o) = Some op.Open
op_with (value.OpenConfirm o) = Some op.OpenConfirm
op_with (value.OpenDowngrade o) = Some op.OpenDowngrade
op_with _ = None

abbrev pub number_by : Option KeptOp → ℕ
number_by None = 0
number_by (Some op) = number_of_op op

-- ---- The value

unfoldable pub kept_value_at : List Party → KeptOp → OpStatus → Reading ReplyValue
kept_value_at holders op.Close status = field (where_at (is_done status) stateid_at) (λ o. made (value.Close o))
kept_value_at holders op.Lock status = field (outcome_at holders status) (λ o. made (value.Lock o))
kept_value_at holders op.LockU status = field (where_at (is_done status) stateid_at) (λ o. made (value.Unlock o))
kept_value_at holders op.Open status = field (where_at (is_done status) opened_at) (λ o. made (value.Open o))
kept_value_at holders op.OpenConfirm status = field (where_at (is_done status) stateid_at) (λ o. made (value.OpenConfirm o))
kept_value_at holders op.OpenDowngrade status = field (where_at (is_done status) stateid_at) (λ o. made (value.OpenDowngrade o))

unfoldable pub kept_value : List Party → ReplyValue → List ℕ
kept_value holders (value.Close o) = where_there stateid o
kept_value holders (value.Lock o) = outcome holders o
kept_value holders (value.Unlock o) = where_there stateid o
kept_value holders (value.Open o) = where_there opened o
kept_value holders (value.OpenConfirm o) = where_there stateid o
kept_value holders (value.OpenDowngrade o) = where_there stateid o
kept_value holders _ = []

-- What can be spelled: a value of one of these operations.
unfoldable pub IsKeptValue : List Party → ReplyValue → Type 0
IsKeptValue holders (value.Close o) = IfSome o IsStateId
IsKeptValue holders (value.Lock o) = IsOutcome holders o
IsKeptValue holders (value.Unlock o) = IfSome o IsStateId
IsKeptValue holders (value.Open o) = IfSome o IsOpened
IsKeptValue holders (value.OpenConfirm o) = IfSome o IsStateId
IsKeptValue holders (value.OpenDowngrade o) = IfSome o IsStateId
IsKeptValue holders _ = ⊥

-- The value is one that the operation has with this status.
unfoldable pub suits : OpStatus → ReplyValue → Bool
suits status (value.Close o) = is_there (is_done status) o
suits status (value.Lock o) = outcome_suits status o
suits status (value.Unlock o) = is_there (is_done status) o
suits status (value.Open o) = is_there (is_done status) o
suits status (value.OpenConfirm o) = is_there (is_done status) o
suits status (value.OpenDowngrade o) = is_there (is_done status) o
suits status _ = false

-- ---- The whole

-- The bytes of a kept reply, with the holders of locks by their index among these.
unfoldable pub kept_bytes : List Party → Reply → List ℕ
kept_bytes holders r = structure (word (number_by (op_with r.value)) ∷ word (number_of r.status) ∷ kept_value holders r.value ∷ [])

-- A kept reply has no delegations to recall.
unfoldable pub kept_at : List Party → Reading Reply
kept_at holders =
    field (enum_at kept_op) (λ op. field status_at (λ status. field (kept_value_at holders op status) (λ v.
    made (record { status = status; value = v; recalls = [] }))))

pub record IsKeptReply (holders : List Party) (r : Reply) : Type 0 where
  pub value : IsKeptValue holders r.value
  pub status : suits r.status r.value ≡ true
  pub recalls : r.recalls ≡ []

-- A call that reads a kept reply answers the one whose bytes stand there, with the cursor left after them, or the place of the first item that
-- isn't there, is outside, or isn't the one that is written. For want of memory it may answer nothing.
abbrev pub TakesKept : List Party → Spot → Result Reply ResultsFault → Spot → Type 0
TakesKept holders from (Ok r) to = (kept_at holders from.rest ≡ Ok (r, to.rest)) × (end_of to ≡ end_of from)
TakesKept holders from (Err (fault.At at)) to = place_in (end_of from) (kept_at holders from.rest) ≡ Some at
TakesKept holders from (Err fault.Memory) to = Unit {0}
