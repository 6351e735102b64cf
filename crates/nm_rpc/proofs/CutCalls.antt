-- A call that is cut in its header is Garbage at the item in which it is cut.
use Rattle.std.proofs.Common.{◌≡◌, ◌≢◌, ℕ, ◌+◌, ◌-◌, ◌≤◌, ◌<◌, Bool, true, false, not, cond, eqb, ltb, List, [], ◌++◌, length, drop, Option, Some, None, Result, Ok, Err, refl, sym, ap, subst, ◌∙◌, arith, ◌⊎◌, inl, inr}
use Rattle.std.proofs.lemmas.Bool.{cases_lt, eqb-true, eq-eqb, ltb-false, le-ltb, lt-ltb}
use Rattle.std.proofs.lemmas.Bool.Decides.{nat_tests}
use Rattle.std.proofs.lemmas.List.{drop-append-le, drop_all, get_or-drop, append-nil, length-append, length-drop}
use Rattle.nm_xdr.specs.Fields.{short, Fault, Reading, fault_at, IsBytes, IsItem, all_of}
use Rattle.nm_xdr.specs.Items.{structure, word_at, opaque_at, length_at, bytes_at}
use Rattle.nm_xdr.proofs.FieldLaws.{reads_longer}
use Rattle.nm_xdr.proofs.ItemLaws.{word_item}
use Rattle.nm_rpc.specs.declared.calls.Service.{Service}
use Rattle.nm_rpc.specs.declared.calls.CallHead.{CallHead}
use Rattle.nm_rpc.specs.declared.calls.CallFault.TheVariants.{NotCall, RpcVersion, Version, Proc, Garbage}
use Rattle.nm_rpc.specs.Messages.{sys_credential_at, Caller, nobody, sys_caller_of, caller_in, CallHeader, parts, header, auth_at, header_at, IsHeader, value_of, word_from, auth_from, ◌>>=◌, id_of_call, call_id, is_other, rpc_checked, claimed, caller_checked, is_past, served_by, service_of, served, service_checked, head_from, head_checked, call_of, judged_by, judged, EndsWithin}
use Rattle.nm_rpc.proofs.HeaderLaws.{auth_item, Stands, items_stand}
use Rattle.nm_xdr.proofs.CutStructures.{CutIn}
use Rattle.nm_rpc.proofs.CutHeaders.{header_cut}

-- ---- Items of bytes that are cut

-- an item that is read of bytes is read of longer ones
prefix_item : {X : Type 0} {read : Reading X} {spell : X → List ℕ} {Fits : X → Type 0} → IsItem read spell Fits → ((y : X × List ℕ) → read [] ≡ Ok y → ⊥)
    → (place : ℕ) (front more : List ℕ) (x : X) → IsBytes front → value_of (read (drop place (front ++ more))) ≡ Some x
    → (value_of (read (drop place front)) ≡ None) ⊎ (value_of (read (drop place front)) ≡ Some x)
prefix_item {X} {read} {spell} {Fits} item none place front more x are e = by_read (read (drop place front)) refl
  where
    bytes_behind : (n : ℕ) (bytes : List ℕ) → IsBytes bytes → IsBytes (drop n bytes)
    bytes_behind n bytes h i = rw (get_or-drop n bytes i 0) (h (n + i))

    longer : (y : X × List ℕ) → read (drop place front) ≡ Ok y → place ≤ length front → y.0 ≡ x
    longer y found le =
        let both : read (drop place (front ++ more)) ≡ Ok (y.0, y.1 ++ more) =
        ap read (drop-append-le place front more le) ∙ reads_longer item (drop place front) y.0 y.1 more (bytes_behind place front are) found in
        let same : Some y.0 ≡ Some x = sym (ap value_of both) ∙ e in
        cc

    by_read : (r : Result (X × List ℕ) Fault) → read (drop place front) ≡ r → (value_of r ≡ None) ⊎ (value_of r ≡ Some x)
    by_read (Err f) is = inl refl
    by_read (Ok y) is = elim (cases_lt (length front) place) [
      | inl lt ↦ absurd (none y (ap read (sym (drop_all place front (omega arith))) ∙ is))
      | inr le ↦ inr (ap (λ (v : X). Some v) (longer y is le))
    ]

no_word : (y : ℕ × List ℕ) → word_at [] ≡ Ok y → ⊥
unfolding word_at
no_word y e = cc

no_auth : (y : List ℕ × List ℕ) → auth_at [] ≡ Ok y → ⊥
unfolding bytes_at opaque_at length_at word_at
no_auth y e = cc

prefix_word : (place : ℕ) (front more : List ℕ) (x : ℕ) → IsBytes front → word_from place (front ++ more) ≡ Some x
    → (word_from place front ≡ None) ⊎ (word_from place front ≡ Some x)
unfolding word_from
prefix_word place front more x are e = prefix_item word_item no_word place front more x are e

prefix_auth : (place : ℕ) (front more x : List ℕ) → IsBytes front → auth_from place (front ++ more) ≡ Some x
    → (auth_from place front ≡ None) ⊎ (auth_from place front ≡ Some x)
unfolding auth_from
prefix_auth place front more x are e = prefix_item auth_item no_auth place front more x are e

-- a word that ends too soon, and one that is there
word_missing : (place : ℕ) (bytes : List ℕ) → length bytes < place + 4 → word_from place bytes ≡ None
unfolding word_from word_at
word_missing place bytes lt =
    let h : ltb (length (drop place bytes)) 4 ≡ true = lt-ltb _ _ (omega (arith, length-drop place bytes)) in
    rw h refl

word_there : (place : ℕ) (bytes : List ℕ) → place + 4 ≤ length bytes → word_from place bytes ≢ None
unfolding word_from word_at
word_there place bytes le e =
    let h : ltb (length (drop place bytes)) 4 ≡ false = le-ltb _ _ (omega (arith, length-drop place bytes)) in
    let f = rw h at e in
    cc

-- ---- What a header that is taken is

record Taken (services : List Service) (h : CallHeader) : Type 0 where
  kind : h.kind ≡ 0
  rpc : h.rpc_version ≡ 2
  caller : Caller
  named : caller_in h.flavor h.credential ≡ Some caller
  service : Service
  found : service_of services h.program ≡ Some service
  version : h.version ≡ service.version
  within : h.procedure ≤ service.greatest

taken_by : (h : CallHeader) (caller : Option Caller) (service : Option Service) (head : CallHead) → judged_by h caller service ≡ Ok head
    → (c : Caller) × (s : Service) × (caller ≡ Some c) × (service ≡ Some s) × (h.version ≡ s.version) × (h.procedure ≤ s.greatest)
taken_by h None service head e = absurd cc
taken_by h (Some caller) None head e = absurd cc
taken_by h (Some caller) (Some s) head e = by_tests (eqb h.version s.version) (ltb s.greatest h.procedure) refl refl e
  where
    by_tests : (a b : Bool) → eqb h.version s.version ≡ a → ltb s.greatest h.procedure ≡ b
        → cond (not a) (Err (Version h.xid s.version s.version)) (cond b (Err (Proc h.xid)) (Ok (record {
          xid = h.xid;
          program = h.program;
          version = h.version;
          procedure = h.procedure;
          principal = caller.principal;
          machine = caller.machine;
          body = length (header h);
        }))) ≡ Ok head
        → (c : Caller) × (t : Service) × (Some caller ≡ Some c) × (Some s ≡ Some t) × (h.version ≡ t.version) × (h.procedure ≤ t.greatest)
    by_tests true false x y f = (caller, s, refl, refl, eqb-true h.version s.version x, ltb-false s.greatest h.procedure y)
    by_tests true true x y f = absurd cc
    by_tests false b x y f = absurd cc

taken : (services : List Service) (h : CallHeader) (head : CallHead) → judged services h ≡ Ok head → Taken services h
unfolding judged
taken services h head e = by_tests (eqb h.kind 0) (eqb h.rpc_version 2) refl refl e
  where
    by_tests : (a b : Bool) → eqb h.kind 0 ≡ a → eqb h.rpc_version 2 ≡ b
        → cond (not a) (Err NotCall) (cond (not b) (Err (RpcVersion h.xid)) (judged_by h (caller_in h.flavor h.credential) (service_of services h.program))) ≡ Ok head
        → Taken services h
    by_tests true true x y f =
        let p = taken_by h (caller_in h.flavor h.credential) (service_of services h.program) head f in
        record { kind = eqb-true h.kind 0 x; rpc = eqb-true h.rpc_version 2 y; caller = p.0; named = p.2; service = p.1; found = p.3; version = p.4; within = p.5 }
    by_tests true false x y f = absurd cc
    by_tests false b x y f = absurd cc

-- ---- The steps, over a part of it

is_there : {X : Type 0} (o : Option X) (x : X) → o ≢ None → (o ≡ None) ⊎ (o ≡ Some x) → o ≡ Some x
is_there o x some (inl none) = absurd (some none)
is_there o x some (inr is) = is

id_cut : (h : CallHeader) (front more : List ℕ) → IsBytes front → Stands h (front ++ more) → h.kind ≡ 0 → 8 ≤ length front → call_id front ≡ Ok h.xid
unfolding call_id
id_cut h front more are at kind long =
    let x = is_there (word_from 0 front) h.xid (word_there 0 front (omega arith)) (prefix_word 0 front more h.xid are at.xid) in
    let k = is_there (word_from 4 front) h.kind (word_there 4 front (omega arith)) (prefix_word 4 front more h.kind are at.kind) in
    rw (x, k, kind) refl

rpc_cut : (h : CallHeader) (front more : List ℕ) (xid : ℕ) → IsBytes front → Stands h (front ++ more) → h.rpc_version ≡ 2 → rpc_checked xid front ≡ Ok (tt {0})
unfolding rpc_checked
rpc_cut h front more xid are at rpc = by_word (prefix_word 8 front more h.rpc_version are at.rpc_version)
  where
    by_word : (word_from 8 front ≡ None) ⊎ (word_from 8 front ≡ Some h.rpc_version)
        → cond (is_other 2 (word_from 8 front)) (Err (RpcVersion xid)) (Ok (tt {0})) ≡ Ok tt
    by_word (inl none) = rw none refl
    by_word (inr some) = rw (some, rpc) refl

-- the flavor of a caller
flavor_small : (flavor : ℕ) (credential : List ℕ) (caller : Caller) → caller_in flavor credential ≡ Some caller → ltb 1 flavor ≡ false
unfolding caller_in
flavor_small flavor credential caller e = by_flavor (eqb flavor 0) (eqb flavor 1) refl refl e
  where
    by_flavor : (a b : Bool) → eqb flavor 0 ≡ a → eqb flavor 1 ≡ b
        → cond a (Some nobody) (cond b (sys_caller_of (all_of sys_credential_at credential)) None) ≡ Some caller → ltb 1 flavor ≡ false
    by_flavor true b x y f = grind (arith, nat_tests)
    by_flavor false true x y f = grind (arith, nat_tests)
    by_flavor false false x y f = absurd cc

caller_cut : (h : CallHeader) (front more : List ℕ) (xid : ℕ) (caller : Caller) → IsBytes front → Stands h (front ++ more) → caller_in h.flavor h.credential ≡ Some caller
    → (c : Option Caller) × (caller_checked xid front ≡ Ok c)
unfolding caller_checked
caller_cut h front more xid caller are at named =
    by_items (prefix_word 24 front more h.flavor are at.flavor) (prefix_auth 28 front more h.credential are at.credential)
  where
    by_items : (word_from 24 front ≡ None) ⊎ (word_from 24 front ≡ Some h.flavor) → (auth_from 28 front ≡ None) ⊎ (auth_from 28 front ≡ Some h.credential)
        → (c : Option Caller) × (claimed xid (word_from 24 front) (auth_from 28 front) ≡ Ok c)
    by_items (inl none) credential = (None, rw none refl)
    by_items (inr flavor) (inl none) = (None, rw (flavor, none, flavor_small h.flavor h.credential caller named) refl)
    by_items (inr flavor) (inr credential) = (Some caller, rw (flavor, credential, named) refl)

service_cut : (services : List Service) (h : CallHeader) (front more : List ℕ) (xid : ℕ) → IsBytes front → Stands h (front ++ more) → Taken services h
    → service_checked services xid front ≡ Ok (tt {0})
unfolding service_checked
service_cut services h front more xid are at t =
    by_program (prefix_word 12 front more h.program are at.program)
  where
    by_procedure : (word_from 20 front ≡ None) ⊎ (word_from 20 front ≡ Some h.procedure)
        → cond (is_past t.service.greatest (word_from 20 front)) (Err (Proc xid)) (Ok (tt {0})) ≡ Ok tt
    by_procedure (inl none) = rw none refl
    by_procedure (inr some) = rw (some, le-ltb t.service.greatest h.procedure t.within) refl

    by_version : (word_from 16 front ≡ None) ⊎ (word_from 16 front ≡ Some h.version)
        → served_by (Some t.service) xid (word_from 16 front) (word_from 20 front) ≡ Ok tt
    by_version (inl none) = rw none (by_procedure (prefix_word 20 front more h.procedure are at.procedure))
    by_version (inr some) = rw (some, eq-eqb h.version t.service.version t.version) (by_procedure (prefix_word 20 front more h.procedure are at.procedure))

    by_program : (word_from 12 front ≡ None) ⊎ (word_from 12 front ≡ Some h.program)
        → served services xid (word_from 12 front) (word_from 16 front) (word_from 20 front) ≡ Ok tt
    by_program (inl none) = rw none refl
    by_program (inr some) = rw (some, t.found) (by_version (prefix_word 16 front more h.version are at.version))

head_missing : (total xid : ℕ) (c : Option Caller) (r : Result (CallHeader × List ℕ) Fault) (piece : List ℕ) → r ≡ fault_at short piece
    → head_from total xid c r ≡ Err (Garbage xid (total - length piece))
head_missing total xid None r piece e = ap (head_from total xid None) e
head_missing total xid (Some c) r piece e = ap (head_from total xid (Some c)) e

-- ---- The whole

cut_place : (h : CallHeader) (front : List ℕ) → (c : CutIn (parts h) front (header_at front)) → EndsWithin (parts h) front (length front - length c.piece)
cut_place h front c =
    let len : length front ≡ length (structure c.before) + length c.piece = ap length c.is_front ∙ length-append (structure c.before) c.piece in
    record {
      before = c.before;
      cut = c.cut;
      behind = c.behind;
      split = c.split;
      is_place = omega (arith, len);
      begun = omega arith;
      ended = omega (arith, len, c.shorter);
    }

-- Bytes of a header that would be taken, and that is cut behind its kind, are Garbage at the item in which it is cut.
pub cut_is_garbage : (services : List Service) (h : CallHeader) (head : CallHead) (front more : List ℕ) → IsHeader h → judged services h ≡ Ok head
    → IsBytes front → header h ≡ front ++ more → more ≢ [] → 8 ≤ length front
    → (at : ℕ) × EndsWithin (parts h) front at × (call_of services front ≡ Err (Garbage h.xid at))
unfolding call_of head_checked header
cut_is_garbage services h head front more f e are is some long =
    let t : Taken services h = taken services h head e in
    let at : Stands h (front ++ more) = subst (Stands h) (append-nil (header h) ∙ is) (items_stand h [] f) in
    let c : CutIn (parts h) front (header_at front) = header_cut h f front more some is in
    let known = caller_cut h front more h.xid t.caller are at t.named in (
      length front - length c.piece,
      cut_place h front c,
      rw (id_cut h front more are at t.kind long, rpc_cut h front more h.xid are at t.rpc, known.1, service_cut services h front more h.xid are at t)
          (head_missing (length front) h.xid known.0 (header_at front) c.piece c.fault),
    )

-- Fewer than 8 bytes are no call.
pub short_is_no_call : (services : List Service) (front : List ℕ) → length front < 8 → call_of services front ≡ Err NotCall
unfolding call_of call_id
short_is_no_call services front lt = by_words (word_from 0 front) (word_from 4 front) (word_missing 4 front lt)
  where
    by_words : (a b : Option ℕ) → b ≡ None
        → (id_of_call a b >>= λ xid. rpc_checked xid front >>= λ _. caller_checked xid front >>= λ caller. service_checked services xid front >>= λ _. head_checked xid caller front)
        ≡ Err NotCall
    by_words None b e = refl
    by_words (Some x) None e = refl
    by_words (Some x) (Some k) e = absurd cc
