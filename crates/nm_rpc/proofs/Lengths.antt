-- How long spellings are.
use Rattle.std.proofs.Common.{◌≡◌, ℕ, ◌+◌, ◌≤◌, ◌<◌, Bool, true, false, cond, eqb, leb, ◌&&◌, List, [], ◌++◌, length, replicate, refl, arith}
use Rattle.std.proofs.lemmas.Bool.Decides.{nat_tests}
use Rattle.std.proofs.lemmas.List.{length-append, length-replicate}
use Rattle.nm_xdr.specs.Items.{word, padding_of, fixed, opaque}
use Rattle.nm_rpc.specs.declared.calls.CallHead.{CallHead}
use Rattle.nm_rpc.specs.Messages.{sys_credential, has_spelling, credential}

pub word_length : (n : ℕ) → length (word n) ≡ 4
unfolding word
word_length n = refl

padding_small : (n : ℕ) → padding_of n < 4
unfolding padding_of
padding_small n = omega arith

pub opaque_length : (bytes : List ℕ) → length (opaque bytes) ≤ length bytes + 7
unfolding opaque fixed
opaque_length bytes =
    omega (
      arith,
      length-append (word (length bytes)) (bytes ++ replicate (padding_of (length bytes)) 0),
      word_length (length bytes),
      length-append bytes (replicate (padding_of (length bytes)) 0),
      length-replicate {A = ℕ} (padding_of (length bytes)) 0,
      padding_small (length bytes),
    )

sys_length : (machine : List ℕ) (uid : ℕ) → length machine ≤ 255
    → length (sys_credential (record { stamp = 0; machine = machine; uid = uid; gid = 0; gids = [] })) ≤ 400
unfolding sys_credential
sys_length machine uid h = simp (length-append, word_length) (omega (arith, opaque_length machine))

by_numbers : (flavor uid n : ℕ) → cond (eqb flavor 0) (eqb uid 0 && eqb n 0) (eqb flavor 1 && leb n 255) ≡ true → n ≤ 255
by_numbers flavor uid n e = grind (arith, nat_tests)

pub machine_fits : (head : CallHead) → has_spelling head ≡ true → length head.machine ≤ 255
machine_fits head e = by_numbers head.principal.flavor head.principal.uid (length head.machine) e

-- A credential that is written fits into a header.
pub credential_fits : (head : CallHead) → has_spelling head ≡ true → length (credential head) ≤ 400
unfolding credential
credential_fits head e = by_flavor (eqb head.principal.flavor 0)
  where
    by_flavor : (b : Bool) → length (cond b [] (sys_credential (record { stamp = 0; machine = head.machine; uid = head.principal.uid; gid = 0; gids = [] }))) ≤ 400
    by_flavor true = omega arith
    by_flavor false = sys_length head.machine head.principal.uid (machine_fits head e)
