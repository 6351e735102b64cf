-- Calls from a server to a client (RFC 7530, 16 and 10.4; RFC 7531, CB_COMPOUND4args): their layout, and what is read of any bytes.
use Rattle.std.specs.Prelude.{◌≡◌, ◌≢◌, ℕ, ◌-◌, ◌^◌, ◌<◌, ◌≤◌, Bool, true, false, ◌==◌, List, [], ◌∷◌, ◌++◌, length, All, Option, Some, None, Result, Ok, Err, if◌then◌else◌}
use Rattle.nm_xdr.specs.Fields.{Fault, Reading, ◌>>=◌, field, made, ended, pass}
use Rattle.nm_xdr.specs.Items.{word, hyper, flag, opaque, counted, structure, word_at, flag_at, bytes_at, only_at, choice_at, words_at}
use Rattle.nm_xdr.specs.Places.{place_of}
use Rattle.nm_xdr.specs.declared.fault.XdrFault.{XdrFault}
use Rattle.nm_rpc.specs.Messages.{CallHeader, parts, header, IsHeader, auth_at}
use Rattle.nm_rpc.specs.Replies.{done, reply}
use Rattle.nm_types.specs.declared.calls.StateId.{StateId}
use Rattle.nm_types.specs.declared.wire.Handle.{Handle}
use Rattle.nm_types.specs.declared.status.OpStatus.{OpStatus}
use Rattle.nm_types.specs.Statuses.{number_of}
use Rattle.nm_types.specs.Wire.{handle_bytes, IsHandle}
use Rattle.nm_items.specs.Parts.{stateid, stateid_at, IsStateId, handle_at}
use Rattle.nm_callback.specs.declared.callback.Callback.{Callback}
use Rattle.nm_callback.specs.declared.callback.Callback.TheVariants.{Null, Recall, GetAttr, Illegal}
use Rattle.nm_callback.specs.declared.callback.CallbackFault.{CallbackFault}
use Rattle.nm_callback.specs.declared.callback.CallbackFault.TheVariants.{At, Memory}

-- ---- Spelling

-- The one operation of a CB_COMPOUND, with its arguments.
pub data Operation : Type 0 where
  -- CB_RECALL: the delegation's stateid, whether the file will be cut to no bytes, and the file's handle
  recalls : StateId → Bool → Handle → Operation
  -- CB_GETATTR: the bytes of a handle, and the words of a bitmap
  asks : List ℕ → List ℕ → Operation
  -- another number, and whatever follows it
  others : ℕ → List ℕ → Operation

-- an operation: its number, and its arguments
unfoldable pub operation : Operation → List ℕ
operation (recalls state truncate handle) = structure (word 4 ∷ stateid state ∷ flag truncate ∷ opaque (handle_bytes handle) ∷ [])
operation (asks handle words) = structure (word 3 ∷ opaque handle ∷ counted word words ∷ [])
operation (others number arguments) = word number ++ arguments

-- What stands behind the header of a callback.
pub data Body : Type 0 where
  -- of CB_NULL: nothing
  null : Body
  -- of CB_COMPOUND: the tag, the minor version, the ident and one operation
  compound : List ℕ → ℕ → ℕ → Operation → Body

-- its bytes
unfoldable pub body : Body → List ℕ
body null = []
body (compound tag minor ident o) = structure (opaque tag ∷ word minor ∷ word ident ∷ word 1 ∷ operation o ∷ [])

-- the number of its procedure
abbrev pub procedure_of : Body → ℕ
procedure_of null = 0
procedure_of (compound tag minor ident o) = 1

-- The header of a callback that is written: version 1 of the program, with no name and an empty verifier.
abbrev pub written_header : ℕ → ℕ → CallHeader
written_header xid program = record {
  xid = xid;
  kind = 0;
  rpc_version = 2;
  program = program;
  version = 1;
  procedure = 1;
  flavor = 0;
  credential = [];
  verifier_flavor = 0;
  verifier = [];
}

-- A recall that is written: one CB_RECALL with an empty tag, minor version 0, and truncate false.
unfoldable pub recall : ℕ → ℕ → ℕ → StateId → Handle → List ℕ
recall xid program ident state handle =
    header (written_header xid program) ++ body (compound [] 0 ident (recalls state false handle))

-- What a CB_COMPOUND with one operation came to (CB_COMPOUND4res): the status, an empty tag, and one result, which has the
-- number of its operation and the same status.
unfoldable pub result_body : ℕ → OpStatus → List ℕ
result_body op status = structure (word (number_of status) ∷ opaque [] ∷ word 1 ∷ word op ∷ word (number_of status) ∷ [])

-- the reply with it
unfoldable pub callback_reply : ℕ → ℕ → OpStatus → List ℕ
callback_reply xid op status = reply xid (done (result_body op status))

-- ---- Reading

-- The xid and the procedure: all of the header is read, as that of a call to version 1 with procedure 0 or 1.
unfoldable pub opening_at : Reading (ℕ × ℕ)
opening_at =
    field word_at (λ xid. field (only_at 0) (λ kind. field (only_at 2) (λ rpc_version. field word_at (λ program. field (only_at 1) (λ version. field choice_at (λ procedure.
    field word_at (λ flavor. field auth_at (λ credential. field word_at (λ verifier_flavor. field auth_at (λ verifier.
    made (xid, procedure)))))))))))

unfoldable pub recall_at : ℕ → ℕ → Reading Callback
recall_at xid ident = field stateid_at (λ state. field flag_at (λ truncate. field handle_at (λ handle. made (Recall xid ident state handle))))

unfoldable pub getattr_at : ℕ → Reading Callback
getattr_at xid = field (bytes_at 128) (λ handle. field (pass (words_at 8)) (λ words. made (GetAttr xid)))

-- by the number of the operation
unfoldable pub operation_at : ℕ → ℕ → ℕ → Reading Callback
operation_at xid ident op = if op == 3 then getattr_at xid else if op == 4 then recall_at xid ident else made (Illegal xid)

unfoldable pub compound_at : ℕ → Reading Callback
compound_at xid =
    field (bytes_at 1024) (λ tag. field word_at (λ minor. field word_at (λ ident. field (only_at 1) (λ count.
    field word_at (operation_at xid ident)))))

-- by the procedure
unfoldable pub body_at : ℕ × ℕ → Reading Callback
body_at opening = if opening.1 == 0 then made (Null opening.0) else compound_at opening.0

unfoldable pub callback_at : Reading Callback
callback_at = field opening_at body_at

-- Nothing is left over, but behind the number of an operation that isn't known.
abbrev pub closed : Callback → List ℕ → Result Callback Fault
closed (Null xid) rest = ended (Null xid) rest
closed (Recall xid ident state handle) rest = ended (Recall xid ident state handle) rest
closed (GetAttr xid) rest = ended (GetAttr xid) rest
closed (Illegal xid) rest = Ok (Illegal xid)

-- a fault of an item is told by its place
abbrev pub as_callback_fault : XdrFault → CallbackFault
as_callback_fault e = At (place_of e)

-- A fault in an input of so many bytes, told by its place.
abbrev pub placed : ℕ → Result Callback Fault → Result Callback CallbackFault
placed total (Ok c) = Ok c
placed total (Err f) = Err (At (total - f.left))

-- The callback that all of the bytes are, or the place of the first item that can't be read or has another value, or else
-- of the first byte that is left over.
unfoldable pub callback_of : List ℕ → Result Callback CallbackFault
callback_of bytes = placed (length bytes) (callback_at bytes >>= λ x. closed x.0 x.1)

-- A fault is within the bytes, or at their end. Memory is never wanting.
abbrev pub IsWithin : ℕ → Result Callback CallbackFault → Type 0
IsWithin total (Ok c) = Unit {0}
IsWithin total (Err (At at)) = at ≤ total
IsWithin total (Err Memory) = ⊥

-- ---- What a callback is, apart from how it is read

-- What a callback's operation can be: a handle is one that this profile makes, but for that of CB_GETATTR, and other
-- numbers than 3 and 4 are unknown.
abbrev pub IsOperation : Operation → Type 0
IsOperation (recalls state truncate handle) = IsStateId state × IsHandle handle
IsOperation (asks handle words) = (length handle ≤ 128) × (length words ≤ 8) × All (λ n. n < 2 ^ 32) words
IsOperation (others number arguments) = (number < 2 ^ 32) × (number ≢ 3) × (number ≢ 4)

abbrev pub IsBody : Body → Type 0
IsBody null = Unit {0}
IsBody (compound tag minor ident o) = (length tag ≤ 1024) × (minor < 2 ^ 32) × (ident < 2 ^ 32) × IsOperation o

-- What is told of it: the tag, the minor version and truncate are passed over, and but for a recall all arguments.
abbrev pub told_operation : ℕ → ℕ → Operation → Callback
told_operation xid ident (recalls state truncate handle) = Recall xid ident state handle
told_operation xid ident (asks handle words) = GetAttr xid
told_operation xid ident (others number arguments) = Illegal xid

abbrev pub told : ℕ → Body → Callback
told xid null = Null xid
told xid (compound tag minor ident o) = told_operation xid ident o

-- These bytes are a callback that is told so: a call to version 1 of any program, with any credential and verifier, and
-- behind its header what stands there.
pub record IsCallback (c : Callback) (bytes : List ℕ) : Type 0 where
  pub items : CallHeader
  pub behind : Body
  pub spelled : bytes ≡ header items ++ body behind
  pub fits : IsHeader items
  pub kind : items.kind ≡ 0
  pub rpc_version : items.rpc_version ≡ 2
  pub version : items.version ≡ 1
  pub procedure : items.procedure ≡ procedure_of behind
  pub is_body : IsBody behind
  pub is_told : told items.xid behind ≡ c

-- The numbers of a recall are words, its stateid is one, and its handle is one that this profile makes.
pub record CanBeRecalled (xid program ident : ℕ) (state : StateId) (handle : Handle) : Type 0 where
  pub is_xid : xid < 2 ^ 32
  pub is_program : program < 2 ^ 32
  pub is_ident : ident < 2 ^ 32
  pub is_state : IsStateId state
  pub is_handle : IsHandle handle

-- ---- Where a recall can be cut

-- its items, one after the other
abbrev pub recall_items : ℕ → ℕ → ℕ → StateId → Handle → List (List ℕ)
recall_items xid program ident state handle =
    parts (written_header xid program)
    ++ (opaque [] ∷ word 0 ∷ word ident ∷ word 1 ∷ word 4 ∷ word state.seqid ∷ (word state.fs ++ hyper state.counter) ∷ flag false
    ∷ opaque (handle_bytes handle) ∷ [])

-- whether nothing may stand behind a callback
abbrev pub is_known : Callback → Bool
is_known (Null xid) = true
is_known (Recall xid ident state handle) = true
is_known (GetAttr xid) = true
is_known (Illegal xid) = false
