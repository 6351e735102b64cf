-- A header that is all there is judged by its items, and one that is cut is Garbage at the item in which it is cut.
use Rattle.std.proofs.Common.{◌≡◌, ℕ, Bool, true, false, not, cond, eqb, ltb, List, ◌++◌, length, Option, Some, None, Result, Ok, Err, refl, sym, ap, ◌∙◌}
use Rattle.std.proofs.lemmas.Bool.{eqb-true}
use Rattle.nm_rpc.specs.declared.calls.Service.{Service}
use Rattle.nm_rpc.specs.declared.calls.CallHead.{CallHead}
use Rattle.nm_rpc.specs.declared.calls.CallFault.{CallFault}
use Rattle.nm_rpc.specs.declared.calls.CallFault.TheVariants.{NotCall, RpcVersion, Version, Proc}
use Rattle.nm_rpc.specs.Messages.{Caller, caller_in, CallHeader, header, IsHeader, ◌>>=◌, call_id, rpc_checked, known_caller, caller_checked, served_by, service_of, service_checked, head_checked, call_of, judged_by, judged}
use Rattle.nm_rpc.proofs.HeaderLaws.{Stands, items_stand}
use Rattle.nm_rpc.proofs.CallLaws.{kind_again, rpc_again, head_again, place_found}

-- ---- Headers that are all there

kind_refused : (h : CallHeader) (bytes : List ℕ) → Stands h bytes → eqb h.kind 0 ≡ false → call_id bytes ≡ Err NotCall
unfolding call_id
kind_refused h bytes at kind = rw (at.xid, at.kind, kind) refl

rpc_refused : (h : CallHeader) (bytes : List ℕ) (xid : ℕ) → Stands h bytes → eqb h.rpc_version 2 ≡ false → rpc_checked xid bytes ≡ Err (RpcVersion xid)
unfolding rpc_checked
rpc_refused h bytes xid at rpc = rw (at.rpc_version, rpc) refl

caller_stands : (h : CallHeader) (bytes : List ℕ) (xid : ℕ) → Stands h bytes → caller_checked xid bytes ≡ known_caller xid (caller_in h.flavor h.credential)
unfolding caller_checked
caller_stands h bytes xid at = rw (at.flavor, at.credential) refl

service_stands : (services : List Service) (h : CallHeader) (bytes : List ℕ) (xid : ℕ) → Stands h bytes
    → service_checked services xid bytes ≡ served_by (service_of services h.program) xid (Some h.version) (Some h.procedure)
unfolding service_checked
service_stands services h bytes xid at = rw (at.program, at.version, at.procedure) refl

-- whoever calls, and whoever serves
judged_steps : (h : CallHeader) (rest : List ℕ) (caller : Option Caller) (service : Option Service) → IsHeader h
    → (known_caller h.xid caller >>= λ c. served_by service h.xid (Some h.version) (Some h.procedure) >>= λ _. head_checked h.xid c (header h ++ rest))
    ≡ judged_by h caller service
judged_steps h rest None service f = refl
judged_steps h rest (Some caller) None f = refl
judged_steps h rest (Some caller) (Some s) f = by_tests (eqb h.version s.version) (ltb s.greatest h.procedure)
  where
    taken : CallHead
    taken = record {
      xid = h.xid;
      program = h.program;
      version = h.version;
      procedure = h.procedure;
      principal = caller.principal;
      machine = caller.machine;
      body = length (header h);
    }

    read : head_checked h.xid (Some caller) (header h ++ rest) ≡ Ok taken
    read = head_again h rest h.xid caller f ∙ rw (sym (place_found (header h) rest (header h ++ rest) refl)) refl

    by_tests : (a b : Bool)
        → (cond (not a) (Err (Version h.xid s.version s.version)) (cond b (Err (Proc h.xid)) (Ok (tt {0}))) >>= λ _. head_checked h.xid (Some caller) (header h ++ rest))
        ≡ cond (not a) (Err (Version h.xid s.version s.version)) (cond b (Err (Proc h.xid)) (Ok taken))
    by_tests false b = refl
    by_tests true true = refl
    by_tests true false = read

-- A header that is all there is judged by its items.
pub header_judged : (services : List Service) (h : CallHeader) (rest : List ℕ) → IsHeader h → call_of services (header h ++ rest) ≡ judged services h
unfolding call_of judged
header_judged services h rest f = by_kind (eqb h.kind 0) (eqb h.rpc_version 2) refl refl
  where
    bytes : List ℕ
    bytes = header h ++ rest

    at : Stands h (header h ++ rest)
    at = items_stand h rest f

    steps : ℕ → Result CallHead CallFault
    steps xid = rpc_checked xid (header h ++ rest) >>= λ _. caller_checked xid (header h ++ rest) >>= λ caller.
        service_checked services xid (header h ++ rest) >>= λ _. head_checked xid caller (header h ++ rest)

    by_kind : (a b : Bool) → eqb h.kind 0 ≡ a → eqb h.rpc_version 2 ≡ b
        → (call_id (header h ++ rest) >>= steps)
        ≡ cond (not a) (Err NotCall) (cond (not b) (Err (RpcVersion h.xid)) (judged_by h (caller_in h.flavor h.credential) (service_of services h.program)))
    by_kind false b x y = ap (λ (r : Result ℕ CallFault). r >>= steps) (kind_refused h (header h ++ rest) at x)
    by_kind true false x y =
        ap (λ (r : Result ℕ CallFault). r >>= steps) (kind_again h (header h ++ rest) at (eqb-true h.kind 0 x))
        ∙ ap (λ (r : Result (Unit {0}) CallFault). r >>= λ _. caller_checked h.xid (header h ++ rest) >>= λ caller.
        service_checked services h.xid (header h ++ rest) >>= λ _. head_checked h.xid caller (header h ++ rest)) (rpc_refused h (header h ++ rest) h.xid at y)
    by_kind true true x y =
        ap (λ (r : Result ℕ CallFault). r >>= steps) (kind_again h (header h ++ rest) at (eqb-true h.kind 0 x))
        ∙ ap (λ (r : Result (Unit {0}) CallFault). r >>= λ _. caller_checked h.xid (header h ++ rest) >>= λ caller.
        service_checked services h.xid (header h ++ rest) >>= λ _. head_checked h.xid caller (header h ++ rest)) (rpc_again h (header h ++ rest) h.xid at (eqb-true h.rpc_version 2 y))
        ∙ ap (λ (r : Result (Option Caller) CallFault). r >>= λ caller.
        service_checked services h.xid (header h ++ rest) >>= λ _. head_checked h.xid caller (header h ++ rest)) (caller_stands h (header h ++ rest) h.xid at)
        ∙ ap (λ (r : Result (Unit {0}) CallFault). known_caller h.xid (caller_in h.flavor h.credential) >>= λ caller.
        r >>= λ _. head_checked h.xid caller (header h ++ rest)) (service_stands services h (header h ++ rest) h.xid at)
        ∙ judged_steps h rest (caller_in h.flavor h.credential) (service_of services h.program) f
