-- Calls of RPC (RFC 5531, sections 8.2 and 9): their layout, and what is read of any bytes.
use Rattle.std.specs.Prelude.{◌≡◌, ℕ, ◌+◌, ◌-◌, ◌≤◌, ◌<◌, ◌^◌, Bool, false, ◌==◌, ◌&&◌, not, nat_le, nat_lt, List, [], ◌∷◌, ◌++◌, length, drop, find, All, Option, Some, None, Result, Ok, Err, ◌⊎◌, if◌then◌else◌}
use Rattle.nm_xdr.specs.Fields.{Fault, Reading, field, made, all_of, pass}
use Rattle.nm_xdr.specs.Items.{word, opaque, counted, structure, word_at, opaque_at, bytes_at, words_at}
use Rattle.nm_types.specs.declared.instance.Principal.{Principal}
use Rattle.nm_rpc.specs.declared.calls.Service.{Service}
use Rattle.nm_rpc.specs.declared.calls.CallHead.{CallHead}
use Rattle.nm_rpc.specs.declared.calls.CallFault.{CallFault}
use Rattle.nm_rpc.specs.declared.calls.CallFault.TheVariants.{NotCall, RpcVersion, Auth, Program, Version, Proc, Garbage, Memory}

-- ---- Credentials (8.2, and AUTH_SYS in appendix A)

-- A credential of AUTH_SYS.
pub record SysCredential : Type 0 where
  pub stamp : ℕ
  pub machine : List ℕ
  pub uid : ℕ
  pub gid : ℕ
  pub gids : List ℕ

unfoldable pub sys_credential : SysCredential → List ℕ
sys_credential s = structure (word s.stamp ∷ opaque s.machine ∷ word s.uid ∷ word s.gid ∷ counted word s.gids ∷ [])

-- the gids, of which there are at most 16
abbrev pub gids_at : Reading (List ℕ)
gids_at = words_at 16

unfoldable pub sys_credential_at : Reading SysCredential
sys_credential_at =
    field word_at (λ stamp. field (opaque_at 255) (λ machine. field word_at (λ uid. field word_at (λ gid. field gids_at (λ gids.
    made (record { stamp = stamp; machine = machine; uid = uid; gid = gid; gids = gids }))))))

-- Who calls, and from which machine.
pub record Caller : Type 0 where
  pub principal : Principal
  pub machine : List ℕ

-- the caller of a credential of AUTH_SYS: stamp, gid and gids aren't kept
abbrev pub sys_caller : SysCredential → Caller
sys_caller s = record { principal = record { flavor = 1; uid = s.uid }; machine = s.machine }

-- the caller without a name
abbrev pub nobody : Caller
nobody = record { principal = record { flavor = 0; uid = 0 }; machine = [] }

-- The same of the bytes, with stamp, gid and gids passed over.
unfoldable pub sys_caller_at : Reading Caller
sys_caller_at =
    field word_at (λ stamp. field (opaque_at 255) (λ machine. field word_at (λ uid. field word_at (λ gid. field (pass gids_at) (λ gids.
    made (record { principal = record { flavor = 1; uid = uid }; machine = machine }))))))

abbrev pub sys_caller_of : Result SysCredential Fault → Option Caller
sys_caller_of (Ok s) = Some (sys_caller s)
sys_caller_of (Err f) = None

-- The caller of a credential of this flavor: AUTH_NONE is 0, whatever its bytes are, and AUTH_SYS is 1, where all of its
-- bytes are of its layout. Other flavors have none here.
unfoldable pub caller_in : ℕ → List ℕ → Option Caller
caller_in flavor credential =
    if flavor == 0 then Some nobody
    else if flavor == 1 then sys_caller_of (all_of sys_credential_at credential)
    else None

-- ---- The header of a call (9)

-- All items before a call's body.
pub record CallHeader : Type 0 where
  pub xid : ℕ
  pub kind : ℕ
  pub rpc_version : ℕ
  pub program : ℕ
  pub version : ℕ
  pub procedure : ℕ
  pub flavor : ℕ
  pub credential : List ℕ
  pub verifier_flavor : ℕ
  pub verifier : List ℕ

-- its items, spelled
abbrev pub parts : CallHeader → List (List ℕ)
parts h =
    word h.xid ∷ word h.kind ∷ word h.rpc_version ∷ word h.program ∷ word h.version ∷ word h.procedure
    ∷ word h.flavor ∷ opaque h.credential ∷ word h.verifier_flavor ∷ opaque h.verifier ∷ []

unfoldable pub header : CallHeader → List ℕ
header h = structure (parts h)

-- The bytes of a credential or a verifier, of which there are at most 400.
abbrev pub auth_at : Reading (List ℕ)
auth_at = bytes_at 400

unfoldable pub header_at : Reading CallHeader
header_at =
    field word_at (λ xid. field word_at (λ kind. field word_at (λ rpc_version. field word_at (λ program. field word_at (λ version. field word_at (λ procedure.
    field word_at (λ flavor. field auth_at (λ credential. field word_at (λ verifier_flavor. field auth_at (λ verifier.
    made (record {
      xid = xid;
      kind = kind;
      rpc_version = rpc_version;
      program = program;
      version = version;
      procedure = procedure;
      flavor = flavor;
      credential = credential;
      verifier_flavor = verifier_flavor;
      verifier = verifier;
    })))))))))))

-- ---- What is read of any bytes

-- what was read, where it can be
abbrev pub value_of : {X : Type 0} → Result (X × List ℕ) Fault → Option X
value_of (Ok x) = Some x.0
value_of (Err f) = None

-- The item of a header at this place, where it can be read. Up to the credential's bytes places are fixed.
unfoldable pub word_from : ℕ → List ℕ → Option ℕ
word_from place bytes = value_of (word_at (drop place bytes))

unfoldable pub auth_from : ℕ → List ℕ → Option (List ℕ)
auth_from place bytes = value_of (auth_at (drop place bytes))

-- The same answer, its value seen by another view.
abbrev pub seen_by : {X Y : Type 0} → (X → Y) → Result X CallFault → Result Y CallFault
seen_by view (Ok x) = Ok (view x)
seen_by view (Err f) = Err f

-- What isn't refused goes on.
infixl 10 ◌>>=◌
abbrev pub ◌>>=◌ : {X Y : Type 0} → Result X CallFault → (X → Result Y CallFault) → Result Y CallFault
(Ok x) >>= more = more x
(Err f) >>= more = Err f

-- Nothing is answered where the xid or the kind of message can't be read, or the kind isn't 0, a call.
abbrev pub id_of_call : Option ℕ → Option ℕ → Result ℕ CallFault
id_of_call (Some xid) (Some kind) = if kind == 0 then Ok xid else Err NotCall
id_of_call (Some xid) None = Err NotCall
id_of_call None kind = Err NotCall

unfoldable pub call_id : List ℕ → Result ℕ CallFault
call_id bytes = id_of_call (word_from 0 bytes) (word_from 4 bytes)

-- A number that was read, and is another one.
abbrev pub is_other : ℕ → Option ℕ → Bool
is_other n None = false
is_other n (Some m) = not (m == n)

-- The version of RPC is 2.
unfoldable pub rpc_checked : ℕ → List ℕ → Result (Unit {0}) CallFault
rpc_checked xid bytes = if is_other 2 (word_from 8 bytes) then Err (RpcVersion xid) else Ok tt

-- The flavor is 0 or 1, and a credential of AUTH_SYS is of its layout. Nobody is known where the credential can't be read.
abbrev pub known_caller : ℕ → Option Caller → Result (Option Caller) CallFault
known_caller xid None = Err (Auth xid)
known_caller xid (Some caller) = Ok (Some caller)

abbrev pub claimed : ℕ → Option ℕ → Option (List ℕ) → Result (Option Caller) CallFault
claimed xid None credential = Ok None
claimed xid (Some flavor) None = if nat_lt 1 flavor then Err (Auth xid) else Ok None
claimed xid (Some flavor) (Some credential) = known_caller xid (caller_in flavor credential)

unfoldable pub caller_checked : ℕ → List ℕ → Result (Option Caller) CallFault
caller_checked xid bytes = claimed xid (word_from 24 bytes) (auth_from 28 bytes)

-- There is a service of the program, it has the version, and the procedure isn't past its greatest. Of several services of
-- one program the first counts.
abbrev pub is_past : ℕ → Option ℕ → Bool
is_past greatest None = false
is_past greatest (Some procedure) = nat_lt greatest procedure

abbrev pub served_by : Option Service → ℕ → Option ℕ → Option ℕ → Result (Unit {0}) CallFault
served_by None xid version procedure = Err (Program xid)
served_by (Some s) xid version procedure =
    if is_other s.version version then Err (Version xid s.version s.version)
    else if is_past s.greatest procedure then Err (Proc xid)
    else Ok tt

unfoldable pub service_of : List Service → ℕ → Option Service
service_of services program = find (λ s. s.program == program) services

abbrev pub served : List Service → ℕ → Option ℕ → Option ℕ → Option ℕ → Result (Unit {0}) CallFault
served services xid None version procedure = Ok tt
served services xid (Some program) version procedure = served_by (service_of services program) xid version procedure

unfoldable pub service_checked : List Service → ℕ → List ℕ → Result (Unit {0}) CallFault
service_checked services xid bytes = served services xid (word_from 12 bytes) (word_from 16 bytes) (word_from 20 bytes)

-- The head of a call whose header was read, of so many bytes with its body. An item that can't be read is Garbage, at its
-- first byte. (Where nobody is known, the credential can't be read, and so no header is.)
abbrev pub head_from : ℕ → ℕ → Option Caller → Result (CallHeader × List ℕ) Fault → Result CallHead CallFault
head_from total xid caller (Err f) = Err (Garbage xid (total - f.left))
head_from total xid None (Ok h) = Err (Auth xid)
head_from total xid (Some caller) (Ok h) = Ok (record {
  xid = xid;
  program = h.0.program;
  version = h.0.version;
  procedure = h.0.procedure;
  principal = caller.principal;
  machine = caller.machine;
  body = total - length h.1;
})

unfoldable pub head_checked : ℕ → Option Caller → List ℕ → Result CallHead CallFault
head_checked xid caller bytes = head_from (length bytes) xid caller (header_at bytes)

-- The head of a call, or the first fault in this order, of those for which the items that can be read stand.
unfoldable pub call_of : List Service → List ℕ → Result CallHead CallFault
call_of services bytes =
    call_id bytes >>= λ xid. rpc_checked xid bytes >>= λ _. caller_checked xid bytes >>= λ caller.
    service_checked services xid bytes >>= λ _. head_checked xid caller bytes

-- ---- What a call of the code answers

-- Memory is wanting for the machine's name of a call that is taken, or not at all.
abbrev pub WantsMemory : Result CallHead CallFault → Type 0
WantsMemory (Ok head) = 0 < length head.machine
WantsMemory (Err f) = ⊥

-- The answer is this one, or memory was wanting for it.
abbrev pub Answers : Result CallHead CallFault → Result CallHead CallFault → Type 0
Answers result given = (given ≡ result) ⊎ ((result ≡ Err Memory) × WantsMemory given)

-- ---- Writing

-- A call that can be written has flavor 0, no uid and no machine, or flavor 1 and a machine of at most 255 bytes.
abbrev pub has_spelling : CallHead → Bool
has_spelling head =
    if head.principal.flavor == 0 then (head.principal.uid == 0) && (length head.machine == 0)
    else (head.principal.flavor == 1) && nat_le (length head.machine) 255

-- The credential that is written: stamp and gid are 0, and there are no gids.
unfoldable pub credential : CallHead → List ℕ
credential head =
    if head.principal.flavor == 0 then []
    else sys_credential (record { stamp = 0; machine = head.machine; uid = head.principal.uid; gid = 0; gids = [] })

-- The header that is written.
abbrev pub header_of : CallHead → CallHeader
header_of head = record {
  xid = head.xid;
  kind = 0;
  rpc_version = 2;
  program = head.program;
  version = head.version;
  procedure = head.procedure;
  flavor = head.principal.flavor;
  credential = credential head;
  verifier_flavor = 0;
  verifier = [];
}

-- A call with its body. The place in the head isn't written.
unfoldable pub call : CallHead → List ℕ → List ℕ
call head body = header (header_of head) ++ body

-- ---- What a call is, apart from how it is read

-- The numbers are words, the machine's name has at most 255 bytes, and there are at most 16 gids.
pub record IsSysCredential (s : SysCredential) : Type 0 where
  pub stamp : s.stamp < 2 ^ 32
  pub machine : length s.machine ≤ 255
  pub uid : s.uid < 2 ^ 32
  pub gid : s.gid < 2 ^ 32
  pub count : length s.gids ≤ 16
  pub gids : All (λ n. n < 2 ^ 32) s.gids

-- A credential of this flavor names this caller: that of AUTH_NONE nobody, whatever its bytes are, and that of AUTH_SYS
-- whom it spells, with any stamp, gid and gids.
abbrev pub Names : ℕ → List ℕ → Caller → Type 0
Names flavor credential caller =
    ((flavor ≡ 0) × (caller ≡ nobody))
    ⊎ ((flavor ≡ 1) × ((s : SysCredential) × IsSysCredential s × (credential ≡ sys_credential s) × (caller ≡ sys_caller s)))

-- The numbers are words, and credential and verifier have at most 400 bytes each.
pub record IsHeader (h : CallHeader) : Type 0 where
  pub xid : h.xid < 2 ^ 32
  pub kind : h.kind < 2 ^ 32
  pub rpc_version : h.rpc_version < 2 ^ 32
  pub program : h.program < 2 ^ 32
  pub version : h.version < 2 ^ 32
  pub procedure : h.procedure < 2 ^ 32
  pub flavor : h.flavor < 2 ^ 32
  pub credential : length h.credential ≤ 400
  pub verifier_flavor : h.verifier_flavor < 2 ^ 32
  pub verifier : length h.verifier ≤ 400

-- There is a service of the program with this version, up to this procedure or one behind it.
pub record IsServed (services : List Service) (program version procedure : ℕ) : Type 0 where
  pub service : Service
  pub found : service_of services program ≡ Some service
  pub same : service.version ≡ version
  pub within : procedure ≤ service.greatest

-- These bytes are a call with this head: the items of a header, with any verifier, and the body behind them.
pub record IsCall (services : List Service) (head : CallHead) (bytes : List ℕ) : Type 0 where
  pub items : CallHeader
  pub body : List ℕ
  pub spelled : bytes ≡ header items ++ body
  pub fits : IsHeader items
  pub kind : items.kind ≡ 0
  pub rpc_version : items.rpc_version ≡ 2
  pub xid : items.xid ≡ head.xid
  pub program : items.program ≡ head.program
  pub version : items.version ≡ head.version
  pub procedure : items.procedure ≡ head.procedure
  pub caller : Names items.flavor items.credential (record { principal = head.principal; machine = head.machine })
  pub served : IsServed services head.program head.version head.procedure
  pub place : length (header items) ≡ head.body

-- The numbers of a head are words.
pub record IsHead (head : CallHead) : Type 0 where
  pub xid : head.xid < 2 ^ 32
  pub program : head.program < 2 ^ 32
  pub version : head.version < 2 ^ 32
  pub procedure : head.procedure < 2 ^ 32
  pub uid : head.principal.uid < 2 ^ 32

-- ---- What is refused, by the items of a header

-- The answer to a header that is all there, with its body behind it.
abbrev pub judged_by : CallHeader → Option Caller → Option Service → Result CallHead CallFault
judged_by h None service = Err (Auth h.xid)
judged_by h (Some caller) None = Err (Program h.xid)
judged_by h (Some caller) (Some s) =
    if not (h.version == s.version) then Err (Version h.xid s.version s.version)
    else if nat_lt s.greatest h.procedure then Err (Proc h.xid)
    else Ok (record {
      xid = h.xid;
      program = h.program;
      version = h.version;
      procedure = h.procedure;
      principal = caller.principal;
      machine = caller.machine;
      body = length (header h);
    })

unfoldable pub judged : List Service → CallHeader → Result CallHead CallFault
judged services h =
    if not (h.kind == 0) then Err NotCall
    else if not (h.rpc_version == 2) then Err (RpcVersion h.xid)
    else judged_by h (caller_in h.flavor h.credential) (service_of services h.program)

-- Bytes end within one of these items, and it begins at this place: those before it are all there, and of it there is less
-- than all.
pub record EndsWithin (items : List (List ℕ)) (bytes : List ℕ) (place : ℕ) : Type 0 where
  pub before : List (List ℕ)
  pub cut : List ℕ
  pub behind : List (List ℕ)
  pub split : items ≡ before ++ cut ∷ behind
  pub is_place : place ≡ length (structure before)
  pub begun : place ≤ length bytes
  pub ended : length bytes < place + length cut
