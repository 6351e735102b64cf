-- Replies of RPC (RFC 5531, 9): their layout, and what is read of any bytes.
use Rattle.std.specs.Prelude.{◌≡◌, ◌≢◌, ℕ, ◌-◌, ◌≤◌, ◌<◌, ◌^◌, ◌==◌, List, [], ◌∷◌, ◌++◌, length, Option, Some, None, Result, Ok, Err, if◌then◌else◌}
use Rattle.nm_xdr.specs.declared.fault.XdrFault.{XdrFault}
use Rattle.nm_xdr.specs.Fields.{Fault, Reading, ◌>>=◌, field, made, ended}
use Rattle.nm_xdr.specs.Items.{word, opaque, structure, word_at, opaque_at, only_at, choice_at}
use Rattle.nm_xdr.specs.Places.{fault_of, place_of}
use Rattle.nm_rpc.specs.declared.calls.CallFault.{CallFault}
use Rattle.nm_rpc.specs.declared.calls.CallFault.TheVariants.{NotCall, RpcVersion, Auth, Program, Version, Proc, Garbage, Memory}
use Rattle.nm_rpc.specs.declared.replies.ReplyHead.{ReplyHead}
use Rattle.nm_rpc.specs.declared.replies.ReplyOutcome.{ReplyOutcome}
use Rattle.nm_rpc.specs.declared.replies.ReplyOutcome.TheVariants.{Success, Accepted, Denied}

-- ---- Spelling

-- What a reply says.
pub data Reply : Type 0 where
  -- the call was done, with this body
  done : List ℕ → Reply
  -- the call was accepted and not done: the status, which isn't 0 or 2
  undone : ℕ → Reply
  -- the program has other versions, from the lowest to the highest (PROG_MISMATCH)
  other_versions : ℕ → ℕ → Reply
  -- other versions of RPC are spoken, from the lowest to the highest (RPC_MISMATCH)
  other_rpc : ℕ → ℕ → Reply
  -- the caller isn't known: why (AUTH_ERROR)
  unknown_caller : ℕ → Reply

-- what a reply to an accepted call begins with: the verifier has flavor 0 and no bytes
unfoldable pub accepted : ℕ → ℕ → List ℕ
accepted xid stat = structure (word xid ∷ word 1 ∷ word 0 ∷ word 0 ∷ opaque [] ∷ word stat ∷ [])

-- what a reply to a denied call begins with
unfoldable pub denied : ℕ → ℕ → List ℕ
denied xid stat = structure (word xid ∷ word 1 ∷ word 1 ∷ word stat ∷ [])

-- the lowest and the highest version
abbrev pub versions : ℕ → ℕ → List ℕ
versions low high = structure (word low ∷ word high ∷ [])

unfoldable pub reply : ℕ → Reply → List ℕ
reply xid (done body) = accepted xid 0 ++ body
reply xid (undone stat) = accepted xid stat
reply xid (other_versions low high) = accepted xid 2 ++ versions low high
reply xid (other_rpc low high) = denied xid 0 ++ versions low high
reply xid (unknown_caller why) = denied xid 1 ++ word why

-- ---- Reading

-- Two versions are passed over, and this is the value.
abbrev pub versions_at : ReplyHead → Reading ReplyHead
versions_at head = field word_at (λ low. field word_at (λ high. made head))

-- What follows a status, in an input of so many bytes: the body stands behind SUCCESS.
abbrev pub success_at : ℕ → ℕ → Reading ReplyHead
success_at total xid bytes = Ok (record { xid = xid; outcome = Success (total - length bytes) }, bytes)

unfoldable pub accepted_as : ℕ → ℕ → ℕ → Reading ReplyHead
accepted_as total xid stat =
    if stat == 0 then success_at total xid
    else if stat == 2 then versions_at (record { xid = xid; outcome = Accepted stat })
    else made (record { xid = xid; outcome = Accepted stat })

unfoldable pub accepted_at : ℕ → ℕ → Reading ReplyHead
accepted_at total xid = field (only_at 0) (λ flavor. field (opaque_at 0) (λ verifier. field word_at (accepted_as total xid)))

unfoldable pub denied_as : ℕ → ℕ → Reading ReplyHead
denied_as xid stat =
    if stat == 0 then versions_at (record { xid = xid; outcome = Denied stat })
    else field word_at (λ why. made (record { xid = xid; outcome = Denied stat }))

unfoldable pub denied_at : ℕ → Reading ReplyHead
denied_at xid = field choice_at (denied_as xid)

unfoldable pub reply_at : ℕ → Reading ReplyHead
reply_at total =
    field word_at (λ xid. field (only_at 1) (λ kind. field choice_at (λ stat.
    if stat == 0 then accepted_at total xid else denied_at xid)))

-- Behind a refusal nothing is left.
abbrev pub closed : ReplyHead → ReplyOutcome → List ℕ → Result ReplyHead Fault
closed head (Success body) rest = Ok head
closed head (Accepted stat) rest = ended head rest
closed head (Denied stat) rest = ended head rest

-- What a whole reply tells, or the first fault.
unfoldable pub reply_of : List ℕ → Result ReplyHead Fault
reply_of bytes = reply_at (length bytes) bytes >>= λ x. closed x.0 x.0.outcome x.1

-- A call that reads a whole reply answers what it tells, or its first fault.
abbrev pub AnswersReply : Result ReplyHead XdrFault → List ℕ → Type 0
AnswersReply (Ok head) bytes = reply_of bytes ≡ Ok head
AnswersReply (Err e) bytes = (reply_of bytes ≡ Err (fault_of (length bytes) e)) × (place_of e ≤ length bytes)

-- ---- Refusals

-- The reply to a call with this fault, with its xid. What isn't a call has none, and for want of memory none is given.
unfoldable pub refusal : CallFault → Option (ℕ × Reply)
refusal NotCall = None
refusal (RpcVersion xid) = Some (xid, other_rpc 2 2)
refusal (Auth xid) = Some (xid, unknown_caller 1)
refusal (Program xid) = Some (xid, undone 1)
refusal (Version xid low high) = Some (xid, other_versions low high)
refusal (Proc xid) = Some (xid, undone 3)
refusal (Garbage xid at) = Some (xid, undone 4)
refusal Memory = None

-- its bytes
abbrev pub spelled : Option (ℕ × Reply) → Option (List ℕ)
spelled None = None
spelled (Some r) = Some (reply r.0 r.1)

-- ---- What a reply is, apart from how it is read

-- What can be said: the numbers are words.
abbrev pub IsSaid : Reply → Type 0
IsSaid (done body) = Unit {0}
IsSaid (undone stat) = (stat < 2 ^ 32) × (stat ≢ 0) × (stat ≢ 2)
IsSaid (other_versions low high) = (low < 2 ^ 32) × (high < 2 ^ 32)
IsSaid (other_rpc low high) = (low < 2 ^ 32) × (high < 2 ^ 32)
IsSaid (unknown_caller why) = why < 2 ^ 32

-- What is told of it: the body stands behind 24 bytes.
abbrev pub outcome_of : Reply → ReplyOutcome
outcome_of (done body) = Success 24
outcome_of (undone stat) = Accepted stat
outcome_of (other_versions low high) = Accepted 2
outcome_of (other_rpc low high) = Denied 0
outcome_of (unknown_caller why) = Denied 1

-- These bytes are a reply with this head.
pub record IsReply (head : ReplyHead) (bytes : List ℕ) : Type 0 where
  pub said : Reply
  pub fits : IsSaid said
  pub xid : head.xid < 2 ^ 32
  pub spelled : bytes ≡ reply head.xid said
  pub outcome : outcome_of said ≡ head.outcome

-- The numbers of a fault are words.
abbrev pub HasWords : CallFault → Type 0
HasWords NotCall = Unit {0}
HasWords (RpcVersion xid) = xid < 2 ^ 32
HasWords (Auth xid) = xid < 2 ^ 32
HasWords (Program xid) = xid < 2 ^ 32
HasWords (Version xid low high) = (xid < 2 ^ 32) × (low < 2 ^ 32) × (high < 2 ^ 32)
HasWords (Proc xid) = xid < 2 ^ 32
HasWords (Garbage xid at) = xid < 2 ^ 32
HasWords Memory = Unit {0}

-- What the caller is told of a fault, where it is answered.
abbrev pub told : CallFault → Option ReplyHead
told NotCall = None
told (RpcVersion xid) = Some (record { xid = xid; outcome = Denied 0 })
told (Auth xid) = Some (record { xid = xid; outcome = Denied 1 })
told (Program xid) = Some (record { xid = xid; outcome = Accepted 1 })
told (Version xid low high) = Some (record { xid = xid; outcome = Accepted 2 })
told (Proc xid) = Some (record { xid = xid; outcome = Accepted 3 })
told (Garbage xid at) = Some (record { xid = xid; outcome = Accepted 4 })
told Memory = None

-- what is read of a reply, where there is one
abbrev pub read_of : Option (ℕ × Reply) → Option (Result ReplyHead Fault)
read_of None = None
read_of (Some r) = Some (reply_of (reply r.0 r.1))

abbrev pub read_head : Option ReplyHead → Option (Result ReplyHead Fault)
read_head None = None
read_head (Some head) = Some (Ok head)
