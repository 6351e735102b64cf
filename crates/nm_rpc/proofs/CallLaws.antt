-- A call is read exactly where bytes are one.
use Rattle.std.proofs.Common.{◌≡◌, ℕ, ◌-◌, ◌≤◌, ◌<◌, Bool, true, false, not, cond, eqb, ltb, List, ◌++◌, length, replicate, Option, Some, None, Result, Ok, Err, refl, sym, ap, subst, ◌∙◌, arith, inl, inr}
use Rattle.std.proofs.lemmas.Bool.{cases_lt, eqb-true, eq-eqb, ltb-false, le-ltb}
use Rattle.std.proofs.lemmas.List.{length-append, get_or_past}
use Rattle.std.proofs.Math.ListN.{get_or-append}
use Rattle.nm_xdr.specs.Fields.{Fault, IsBytes, all_of}
use Rattle.nm_xdr.specs.Items.{word, fixed, opaque, padding_of}
use Rattle.nm_xdr.proofs.FieldLaws.{IsBytes-behind, all_found, all_again}
use Rattle.nm_rpc.specs.declared.calls.Service.{Service}
use Rattle.nm_rpc.specs.declared.calls.CallHead.{CallHead}
use Rattle.nm_rpc.specs.declared.calls.CallFault.{CallFault}
use Rattle.nm_rpc.specs.declared.calls.CallFault.TheVariants.{NotCall, RpcVersion, Version, Proc}
use Rattle.nm_rpc.specs.Messages.{SysCredential, sys_credential, sys_credential_at, Caller, sys_caller, nobody, sys_caller_of, caller_in, IsSysCredential, Names, CallHeader, header, header_at, IsHeader, word_from, auth_from, ◌>>=◌, id_of_call, call_id, is_other, rpc_checked, known_caller, claimed, caller_checked, served_by, service_of, served, service_checked, head_from, head_checked, call_of, IsServed, IsCall}
use Rattle.nm_rpc.proofs.HeaderLaws.{sys_credential_item, header_item, Stands, items_stand}

-- ---- Bytes within bytes

IsBytes-front : (front rest : List ℕ) → IsBytes (front ++ rest) → IsBytes front
IsBytes-front front rest h i =
    elim (cases_lt i (length front)) [
      | inl lt ↦ subst (λ b. b < 256) (get_or-append front rest 0 i lt) (h i)
      | inr le ↦ rw (get_or_past front i 0 le) (omega arith)
    ]

-- the bytes of an opaque item
IsBytes-opaque : (bytes : List ℕ) → IsBytes (opaque bytes) → IsBytes bytes
unfolding opaque fixed
IsBytes-opaque bytes h =
    IsBytes-front bytes (replicate (padding_of (length bytes)) 0) (IsBytes-behind (word (length bytes)) (bytes ++ replicate (padding_of (length bytes)) 0) h)

-- ---- Callers

names_sys : (credential : List ℕ) (caller : Caller) (r : Result SysCredential Fault) → IsBytes credential → all_of sys_credential_at credential ≡ r
    → sys_caller_of r ≡ Some caller → (s : SysCredential) × IsSysCredential s × (credential ≡ sys_credential s) × (caller ≡ sys_caller s)
names_sys credential caller (Ok s) fits all e =
    let p = all_found sys_credential_item credential s fits all in
    (s, p.1, p.0, cc)
names_sys credential caller (Err f) fits all e = absurd cc

names_found : (flavor : ℕ) (credential : List ℕ) (caller : Caller) → IsBytes credential → caller_in flavor credential ≡ Some caller → Names flavor credential caller
unfolding caller_in
names_found flavor credential caller fits e = by_flavor (eqb flavor 0) (eqb flavor 1) refl refl e
  where
    by_flavor : (none sys : Bool) → eqb flavor 0 ≡ none → eqb flavor 1 ≡ sys
        → cond none (Some nobody) (cond sys (sys_caller_of (all_of sys_credential_at credential)) None) ≡ Some caller → Names flavor credential caller
    by_flavor true sys a b h = inl (eqb-true flavor 0 a, cc)
    by_flavor false true a b h = inr (eqb-true flavor 1 b, names_sys credential caller (all_of sys_credential_at credential) fits refl h)
    by_flavor false false a b h = absurd cc

names_again : (flavor : ℕ) (credential : List ℕ) (caller : Caller) → Names flavor credential caller → caller_in flavor credential ≡ Some caller
unfolding caller_in
names_again flavor credential caller (inl h) = rw (h.0, h.1) refl
names_again flavor credential caller (inr h) =
    let s : SysCredential = h.1.0 in
    let all : all_of sys_credential_at credential ≡ Ok s = ap (all_of sys_credential_at) h.1.2 ∙ all_again sys_credential_item s h.1.1 in
    rw (h.0, all, h.1.3) refl

-- ---- The steps

went_on : {X Y : Type 0} (r : Result X CallFault) (more : X → Result Y CallFault) (y : Y) → (r >>= more) ≡ Ok y → (x : X) × (r ≡ Ok x) × (more x ≡ Ok y)
went_on (Ok x) more y e = (x, refl, e)
went_on (Err f) more y e = absurd cc

-- a call's kind
id_found : (id kind xid : ℕ) → id_of_call (Some id) (Some kind) ≡ Ok xid → (kind ≡ 0) × (id ≡ xid)
id_found id kind xid e = by_kind (eqb kind 0) refl e
  where
    by_kind : (b : Bool) → eqb kind 0 ≡ b → cond b (Ok id) (Err NotCall) ≡ Ok xid → (kind ≡ 0) × (id ≡ xid)
    by_kind true is h = (eqb-true kind 0 is, cc)
    by_kind false is h = absurd cc

-- a number that is no other
same_found : (n m : ℕ) (f : CallFault) → cond (is_other n (Some m)) (Err f) (Ok (tt {0})) ≡ Ok tt → m ≡ n
same_found n m f e = by_test (eqb m n) refl e
  where
    by_test : (b : Bool) → eqb m n ≡ b → cond (not b) (Err f) (Ok (tt {0})) ≡ Ok tt → m ≡ n
    by_test true is h = eqb-true m n is
    by_test false is h = absurd cc

-- a known caller
known_found : (xid : ℕ) (o : Option Caller) (c : Option Caller) → known_caller xid o ≡ Ok c → (caller : Caller) × (o ≡ Some caller) × (c ≡ Some caller)
known_found xid None c e = absurd cc
known_found xid (Some caller) c e = (caller, refl, cc)

-- a service with these numbers
served_found : (o : Option Service) (xid version procedure : ℕ) → served_by o xid (Some version) (Some procedure) ≡ Ok tt
    → (s : Service) × (o ≡ Some s) × (s.version ≡ version) × (procedure ≤ s.greatest)
served_found None xid version procedure e = absurd cc
served_found (Some s) xid version procedure e = by_tests (eqb version s.version) (ltb s.greatest procedure) refl refl e
  where
    by_tests : (a b : Bool) → eqb version s.version ≡ a → ltb s.greatest procedure ≡ b
        → cond (not a) (Err (Version xid s.version s.version)) (cond b (Err (Proc xid)) (Ok (tt {0}))) ≡ Ok tt
        → (t : Service) × (Some s ≡ Some t) × (t.version ≡ version) × (procedure ≤ t.greatest)
    by_tests true false a b h = (s, refl, sym (eqb-true version s.version a), ltb-false s.greatest procedure b)
    by_tests true true a b h = absurd cc
    by_tests false b a c h = absurd cc

served_again : (services : List Service) (xid program version procedure : ℕ) → IsServed services program version procedure
    → served_by (service_of services program) xid (Some version) (Some procedure) ≡ Ok tt
served_again services xid program version procedure i =
    rw (i.found, eq-eqb version i.service.version (sym i.same), le-ltb i.service.greatest procedure i.within) refl

-- the head of a header
head_found : (total xid : ℕ) (o : Option Caller) (r : Result (CallHeader × List ℕ) Fault) (head : CallHead) → head_from total xid o r ≡ Ok head
    → (x : CallHeader × List ℕ) × (c : Caller) × (r ≡ Ok x) × (o ≡ Some c) × (record {
      xid = xid;
      program = x.0.program;
      version = x.0.version;
      procedure = x.0.procedure;
      principal = c.principal;
      machine = c.machine;
      body = total - length x.1;
    } ≡ head)
head_found total xid o (Err f) head e = absurd cc
head_found total xid None (Ok x) head e = absurd cc
head_found total xid (Some c) (Ok x) head e = (x, c, refl, refl, cc)

-- ---- Whole calls

-- what the steps ask, of a header that stands there
kind_found : (h : CallHeader) (bytes : List ℕ) (xid : ℕ) → Stands h bytes → call_id bytes ≡ Ok xid → (h.kind ≡ 0) × (h.xid ≡ xid)
unfolding call_id
kind_found h bytes xid at e = id_found h.xid h.kind xid (sym (ap (λ (o : Option ℕ). id_of_call o (word_from 4 bytes)) at.xid ∙ ap (id_of_call (Some h.xid)) at.kind) ∙ e)

rpc_found : (h : CallHeader) (bytes : List ℕ) (xid : ℕ) → Stands h bytes → rpc_checked xid bytes ≡ Ok (tt {0}) → h.rpc_version ≡ 2
unfolding rpc_checked
rpc_found h bytes xid at e =
    same_found 2 h.rpc_version (RpcVersion xid) (sym (ap (λ (o : Option ℕ). cond (is_other 2 o) (Err (RpcVersion xid)) (Ok (tt {0}))) at.rpc_version) ∙ e)

caller_found : (h : CallHeader) (bytes : List ℕ) (xid : ℕ) (c : Option Caller) → Stands h bytes → caller_checked xid bytes ≡ Ok c
    → (caller : Caller) × (caller_in h.flavor h.credential ≡ Some caller) × (c ≡ Some caller)
unfolding caller_checked
caller_found h bytes xid c at e =
    known_found xid (caller_in h.flavor h.credential) c
    (sym (ap (λ (o : Option ℕ). claimed xid o (auth_from 28 bytes)) at.flavor ∙ ap (claimed xid (Some h.flavor)) at.credential) ∙ e)

service_found : (services : List Service) (h : CallHeader) (bytes : List ℕ) (xid : ℕ) → Stands h bytes → service_checked services xid bytes ≡ Ok (tt {0})
    → IsServed services h.program h.version h.procedure
unfolding service_checked
service_found services h bytes xid at e =
    let seen : served services xid (word_from 12 bytes) (word_from 16 bytes) (word_from 20 bytes) ≡ served services xid (Some h.program) (Some h.version) (Some h.procedure) =
    ap (λ (o : Option ℕ). served services xid o (word_from 16 bytes) (word_from 20 bytes)) at.program
    ∙ ap (λ (o : Option ℕ). served services xid (Some h.program) o (word_from 20 bytes)) at.version
    ∙ ap (λ (o : Option ℕ). served services xid (Some h.program) (Some h.version) o) at.procedure in
    let p = served_found (service_of services h.program) xid h.version h.procedure (sym seen ∙ e) in
    record { service = p.0; found = p.1; same = p.2; within = p.3 }

-- the steps that a call passes
record Passed (services : List Service) (bytes : List ℕ) (head : CallHead) : Type 0 where
  xid : ℕ
  caller : Option Caller
  is_call : call_id bytes ≡ Ok xid
  rpc : rpc_checked xid bytes ≡ Ok (tt {0})
  known : caller_checked xid bytes ≡ Ok caller
  service : service_checked services xid bytes ≡ Ok (tt {0})
  taken : head_checked xid caller bytes ≡ Ok head

all_passed : (services : List Service) (head : CallHead) (bytes : List ℕ) → call_of services bytes ≡ Ok head → Passed services bytes head
unfolding call_of
all_passed services head bytes e =
    let a = went_on (call_id bytes) _ head e in
    let b = went_on (rpc_checked a.0 bytes) _ head a.2 in
    let c = went_on (caller_checked a.0 bytes) _ head b.2 in
    let d = went_on (service_checked services a.0 bytes) _ head c.2 in
    record { xid = a.0; caller = c.0; is_call = a.1; rpc = b.1; known = c.1; service = d.1; taken = d.2 }

-- what was read of the header that they passed
record Told (bytes : List ℕ) (xid : ℕ) (caller : Option Caller) (head : CallHead) : Type 0 where
  items : CallHeader
  rest : List ℕ
  known : Caller
  spelled : bytes ≡ header items ++ rest
  fits : IsHeader items
  is_known : caller ≡ Some known
  same : record {
    xid = xid;
    program = items.program;
    version = items.version;
    procedure = items.procedure;
    principal = known.principal;
    machine = known.machine;
    body = length bytes - length rest;
  } ≡ head

all_told : (bytes : List ℕ) (xid : ℕ) (caller : Option Caller) (head : CallHead) → IsBytes bytes → head_checked xid caller bytes ≡ Ok head → Told bytes xid caller head
unfolding head_checked
all_told bytes xid caller head fits e =
    let r = head_found (length bytes) xid caller (header_at bytes) head e in
    let read = header_item.found bytes r.0.0 r.0.1 fits r.2 in
    record { items = r.0.0; rest = r.0.1; known = r.1; spelled = read.0; fits = read.1; is_known = r.3; same = r.4 }

some_same : {X : Type 0} (x y : X) → Some x ≡ Some y → x ≡ y
some_same x y e = cc

-- the bytes of the credential
credential_bytes : (h : CallHeader) (rest : List ℕ) → IsBytes (header h ++ rest) → IsBytes h.credential
unfolding header
credential_bytes h rest fits =
    let all = IsBytes-front (header h) rest fits in
    let b4 = IsBytes-behind (word h.xid) _ all in
    let b8 = IsBytes-behind (word h.kind) _ b4 in
    let b12 = IsBytes-behind (word h.rpc_version) _ b8 in
    let b16 = IsBytes-behind (word h.program) _ b12 in
    let b20 = IsBytes-behind (word h.version) _ b16 in
    let b24 = IsBytes-behind (word h.procedure) _ b20 in
    let b28 = IsBytes-behind (word h.flavor) _ b24 in
    IsBytes-opaque h.credential (IsBytes-front (opaque h.credential) _ b28)

pub place_found : (front rest bytes : List ℕ) → bytes ≡ front ++ rest → length front ≡ length bytes - length rest
place_found front rest bytes e = omega (arith, ap length e, length-append front rest)

call_told : (services : List Service) (head : CallHead) (bytes : List ℕ) → IsBytes bytes → (p : Passed services bytes head) → Told bytes p.xid p.caller head
    → IsCall services head bytes
call_told services head bytes fits p t =
    let at : Stands t.items bytes = subst (Stands t.items) (sym t.spelled) (items_stand t.items t.rest t.fits) in
    let kind = kind_found t.items bytes p.xid at p.is_call in
    let known = caller_found t.items bytes p.xid p.caller at p.known in
    let same : known.0 ≡ t.known = some_same known.0 t.known (sym known.2 ∙ t.is_known) in
    let names : Names t.items.flavor t.items.credential t.known =
    names_found t.items.flavor t.items.credential t.known (credential_bytes t.items t.rest (subst IsBytes t.spelled fits)) (known.1 ∙ ap (λ (c : Caller). Some c) same) in
    let served : IsServed services t.items.program t.items.version t.items.procedure = service_found services t.items bytes p.xid at p.service in
    subst (λ (h : CallHead). IsCall services h bytes) t.same (record {
      items = t.items;
      body = t.rest;
      spelled = t.spelled;
      fits = t.fits;
      kind = kind.0;
      rpc_version = rpc_found t.items bytes p.xid at p.rpc;
      xid = kind.1;
      program = refl;
      version = refl;
      procedure = refl;
      caller = names;
      served = served;
      place = place_found (header t.items) t.rest bytes t.spelled;
    })

-- What is read of bytes is what they are.
pub call_found : (services : List Service) (head : CallHead) (bytes : List ℕ) → IsBytes bytes → call_of services bytes ≡ Ok head → IsCall services head bytes
call_found services head bytes fits e =
    let p = all_passed services head bytes e in
    call_told services head bytes fits p (all_told bytes p.xid p.caller head fits p.taken)

-- ---- And the other way round

pub kind_again : (h : CallHeader) (bytes : List ℕ) → Stands h bytes → h.kind ≡ 0 → call_id bytes ≡ Ok h.xid
unfolding call_id
kind_again h bytes at kind = rw (at.xid, at.kind, kind) refl

pub rpc_again : (h : CallHeader) (bytes : List ℕ) (xid : ℕ) → Stands h bytes → h.rpc_version ≡ 2 → rpc_checked xid bytes ≡ Ok (tt {0})
unfolding rpc_checked
rpc_again h bytes xid at rpc = rw (at.rpc_version, rpc) refl

caller_again : (h : CallHeader) (bytes : List ℕ) (xid : ℕ) (caller : Caller) → Stands h bytes → Names h.flavor h.credential caller
    → caller_checked xid bytes ≡ Ok (Some caller)
unfolding caller_checked
caller_again h bytes xid caller at names = rw (at.flavor, at.credential, names_again h.flavor h.credential caller names) refl

service_again : (services : List Service) (h : CallHeader) (bytes : List ℕ) (xid : ℕ) → Stands h bytes → IsServed services h.program h.version h.procedure
    → service_checked services xid bytes ≡ Ok (tt {0})
unfolding service_checked
service_again services h bytes xid at served =
    rw (at.program, at.version, at.procedure) (served_again services xid h.program h.version h.procedure served)

pub head_again : (h : CallHeader) (rest : List ℕ) (xid : ℕ) (caller : Caller) → IsHeader h
    → head_checked xid (Some caller) (header h ++ rest) ≡ Ok (record {
      xid = xid;
      program = h.program;
      version = h.version;
      procedure = h.procedure;
      principal = caller.principal;
      machine = caller.machine;
      body = length (header h ++ rest) - length rest;
    })
unfolding head_checked
head_again h rest xid caller fits = rw (header_item.again h rest fits) refl

-- a header with its body is read as itself
pub header_read : (services : List Service) (h : CallHeader) (rest : List ℕ) (caller : Caller) → IsHeader h → h.kind ≡ 0 → h.rpc_version ≡ 2
    → Names h.flavor h.credential caller → IsServed services h.program h.version h.procedure
    → call_of services (header h ++ rest) ≡ Ok (record {
      xid = h.xid;
      program = h.program;
      version = h.version;
      procedure = h.procedure;
      principal = caller.principal;
      machine = caller.machine;
      body = length (header h);
    })
unfolding call_of
header_read services h rest caller fits kind rpc names served =
    let bytes : List ℕ = header h ++ rest in
    let at : Stands h bytes = items_stand h rest fits in
    let place : length bytes - length rest ≡ length (header h) = sym (place_found (header h) rest bytes refl) in
    rw (
      kind_again h bytes at kind,
      rpc_again h bytes h.xid at rpc,
      caller_again h bytes h.xid caller at names,
      service_again services h bytes h.xid at served,
      head_again h rest h.xid caller fits,
      place,
    ) refl

-- What is a call is read.
pub call_again : (services : List Service) (head : CallHead) (bytes : List ℕ) → IsCall services head bytes → call_of services bytes ≡ Ok head
call_again services head bytes i =
    let h : CallHeader = i.items in
    let served : IsServed services h.program h.version h.procedure = rw (i.program, i.version, i.procedure) i.served in
    let read = header_read services h i.body (record { principal = head.principal; machine = head.machine }) i.fits i.kind i.rpc_version i.caller served in
    ap (call_of services) i.spelled ∙ read ∙ rw (i.place, i.xid, i.program, i.version, i.procedure) refl
