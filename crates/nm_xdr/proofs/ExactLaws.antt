-- What gives what reading an item gives goes past exactly its spelling.
use Rattle.std.proofs.Common.{◌≡◌, ℕ, List, length, Ok, Err, ap, ◌∙◌, arith}
use Rattle.std.proofs.lemmas.List.{length-append}
use Rattle.nm_xdr.specs.Fields.{Reading, IsItem}
use Rattle.nm_xdr.specs.Places.{end_of, fault_of, IsExact}

pub exact_of : {X : Type 0} {read : Reading X} {spell : X → List ℕ} {Fits : X → Type 0} → IsItem read spell Fits → IsExact read spell Fits
exact_of {X} {read} {spell} {Fits} item from to (Ok x) bytes gives =
    let p = item.found from.rest x to.rest bytes gives.0 in
    (p.1, p.0, omega (arith, gives.1, ap length p.0, length-append (spell x) to.rest))
exact_of {X} {read} {spell} {Fits} item from to (Err e) bytes gives = λ x rest fits spelt.
    let again : read from.rest ≡ Ok (x, rest) = ap read spelt ∙ item.again x rest fits in
    let given : read from.rest ≡ Err (fault_of (end_of from) e) = gives.0 in
    absurd cc
