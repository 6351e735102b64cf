-- A call that is written is read as it was.
use Rattle.std.proofs.Common.{◌≡◌, ℕ, ◌^◌, ◌<◌, Bool, true, false, cond, eqb, leb, ◌&&◌, List, [], ◌∷◌, length, All, Ok, refl, arith, inl, inr}
use Rattle.std.proofs.lemmas.Bool.{eqb-true}
use Rattle.std.proofs.lemmas.Bool.Decides.{nat_tests}
use Rattle.std.proofs.lemmas.List.Elements.{All-from_recursion}
use Rattle.nm_rpc.specs.declared.calls.Service.{Service}
use Rattle.nm_rpc.specs.declared.calls.CallHead.{CallHead}
use Rattle.nm_rpc.specs.Messages.{sys_credential, Names, header, IsHeader, has_spelling, credential, header_of, call, call_of, IsServed, IsHead}
use Rattle.nm_rpc.proofs.Lengths.{credential_fits, machine_fits}
use Rattle.nm_rpc.proofs.CallLaws.{header_read}

-- who may call: nobody, or a user with a machine
no_user : (flavor uid n : ℕ) → cond (eqb flavor 0) (eqb uid 0 && eqb n 0) (eqb flavor 1 && leb n 255) ≡ true → flavor ≡ 0 → (uid ≡ 0) × (n ≡ 0)
no_user flavor uid n e is = (grind (arith, nat_tests), grind (arith, nat_tests))

is_user : (flavor uid n : ℕ) → cond (eqb flavor 0) (eqb uid 0 && eqb n 0) (eqb flavor 1 && leb n 255) ≡ true → eqb flavor 0 ≡ false → flavor ≡ 1
is_user flavor uid n e is = grind (arith, nat_tests)

empty : (xs : List ℕ) → length xs ≡ 0 → xs ≡ []
empty [] e = refl
empty (x ∷ xs) e = absurd (omega (arith, e))

no_gids : All (λ n. n < 2 ^ 32) []
no_gids = All-from_recursion (λ n. n < 2 ^ 32) [] tt

written_names : (head : CallHead) → IsHead head → has_spelling head ≡ true → Names head.principal.flavor (credential head) (record { principal = head.principal; machine = head.machine })
unfolding credential
written_names head is e = by_flavor (eqb head.principal.flavor 0) refl
  where
    by_flavor : (b : Bool) → eqb head.principal.flavor 0 ≡ b
        → Names head.principal.flavor (cond b [] (sys_credential (record { stamp = 0; machine = head.machine; uid = head.principal.uid; gid = 0; gids = [] })))
        (record { principal = head.principal; machine = head.machine })
    by_flavor true b =
        let flavor : head.principal.flavor ≡ 0 = eqb-true head.principal.flavor 0 b in
        let none = no_user head.principal.flavor head.principal.uid (length head.machine) e flavor in
        inl (flavor, rw (flavor, none.0, empty head.machine none.1) refl)
    by_flavor false b =
        let flavor : head.principal.flavor ≡ 1 = is_user head.principal.flavor head.principal.uid (length head.machine) e b in
        inr (
          flavor,
          (
            record { stamp = 0; machine = head.machine; uid = head.principal.uid; gid = 0; gids = [] },
            record { stamp = omega arith; machine = machine_fits head e; uid = is.uid; gid = omega arith; count = omega arith; gids = no_gids },
            refl,
            rw flavor refl,
          ),
        )

written_fits : (head : CallHead) → IsHead head → has_spelling head ≡ true → IsHeader (header_of head)
written_fits head is e = record {
  xid = is.xid;
  kind = omega arith;
  rpc_version = omega arith;
  program = is.program;
  version = is.version;
  procedure = is.procedure;
  flavor = small_flavor head.principal.flavor head.principal.uid (length head.machine) e;
  credential = credential_fits head e;
  verifier_flavor = omega arith;
  verifier = omega arith;
}
  where
    small_flavor : (flavor uid n : ℕ) → cond (eqb flavor 0) (eqb uid 0 && eqb n 0) (eqb flavor 1 && leb n 255) ≡ true → flavor < 2 ^ 32
    small_flavor flavor uid n e = grind (arith, nat_tests)

-- What is written is read, with the place of its body.
pub written_read : (services : List Service) (head : CallHead) (body : List ℕ) → IsHead head → has_spelling head ≡ true
    → IsServed services head.program head.version head.procedure
    → call_of services (call head body) ≡ Ok (record head { body = length (header (header_of head)) })
unfolding call
written_read services head body is e served =
    header_read services (header_of head) body (record { principal = head.principal; machine = head.machine }) (written_fits head is e) refl refl (written_names head is e) served
