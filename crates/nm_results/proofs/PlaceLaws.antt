-- The place of a fault, told by how many bytes are left from there on.
use Rattle.std.proofs.Common.{◌≡◌, ℕ, ◌+◌, ◌-◌, ◌≤◌, ◌<◌, List, [], ◌∷◌, length, Some, Ok, Err, refl, ap, arith}
use Rattle.nm_xdr.specs.declared.fault.XdrFault.{XdrFault}
use Rattle.nm_xdr.specs.declared.fault.XdrFault.TheVariants as told
use Rattle.nm_xdr.specs.Fields.{Reading, ended, all_of}
use Rattle.nm_xdr.specs.Places.{fault_of, place_of}
use Rattle.nm_results.specs.Results.{place_in}

-- A fault at a place within the input is told with this place.
pub place_back : (total : ℕ) (e : XdrFault) → place_of e ≤ total → total - (fault_of total e).left ≡ place_of e
place_back total (told.Short at) le = omega (arith, le)
place_back total (told.Padding at) le = omega (arith, le)
place_back total (told.Bool at got) le = omega (arith, le)
place_back total (told.TooLong at got max) le = omega (arith, le)
place_back total (told.Enum at got) le = omega (arith, le)

pub told_place : {X : Type 0} (read : Reading X) (bytes : List ℕ) (e : XdrFault) → read bytes ≡ Err (fault_of (length bytes) e) → place_of e ≤ length bytes
    → place_in (length bytes) (all_of read bytes) ≡ Some (place_of e)
told_place {X} read bytes e is le = rw is (ap (λ (n : ℕ). Some n) (place_back (length bytes) e le))

-- Bytes are left over from a place on.
over : {X : Type 0} (x : X) (place total : ℕ) (rest : List ℕ) → 0 < length rest → place + length rest ≡ total → place_in total (ended x rest) ≡ Some place
over x place total [] some e = absurd (omega (arith, some))
over x place total (b ∷ rest) some e = ap (λ (n : ℕ). Some n) (omega (arith, e))

pub left_over : {X : Type 0} (read : Reading X) (bytes rest : List ℕ) (x : X) (place : ℕ) → read bytes ≡ Ok (x, rest) → 0 < length rest
    → place + length rest ≡ length bytes → place_in (length bytes) (all_of read bytes) ≡ Some place
left_over read bytes rest x place is some e = rw is (over x place (length bytes) rest some e)

pub nothing_left : {X : Type 0} (read : Reading X) (bytes rest : List ℕ) (x : X) → read bytes ≡ Ok (x, rest) → length rest ≤ 0 → all_of read bytes ≡ Ok x
nothing_left read bytes [] x is none = rw is refl
nothing_left read bytes (b ∷ rest) x is none = absurd (omega (arith, none))
