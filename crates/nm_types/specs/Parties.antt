-- Who speaks: a client's instance, as what it says of itself; and the owners that it has.
use Rattle.std.specs.Prelude.{◌≡◌, ℕ, Bool, ◌==◌, ◌&&◌, ◌-◌, ◌≤◌, List, ◌++◌, length, take, replicate}
use Rattle.std.specs.Str.{bytes_eq}
use Rattle.std.specs.Cmp.Lexicographic.{slice_cmp}
use Rattle.std.specs.Ordering.{nat_cmp, on, then_cmp}
use Rattle.std.specs.declared.cmp.Ordering.{Ordering}
use Rattle.nm_types.specs.declared.instance.Principal.{Principal}

-- A client that has started: the string that it gives itself, the verifier of this start, and who vouches for it
-- (RFC 7530, 9.1.1 and 9.1.2).
pub record Party : Type 0 where
  pub id : List ℕ
  pub verifier : ℕ
  pub principal : Principal

-- the same start of the same client: string, verifier and principal are equal
abbrev pub same_party : Party → Party → Bool
same_party a b =
    (a.verifier == b.verifier)
    && (a.principal.flavor == b.principal.flavor)
    && (a.principal.uid == b.principal.uid)
    && bytes_eq a.id b.id

-- the order of parties: by string, verifier, flavor and user
abbrev pub party_cmp : Party → Party → Ordering
party_cmp = then_cmp (on (λ (p : Party). p.id) (slice_cmp nat_cmp)) (then_cmp (on (λ (p : Party). p.verifier) nat_cmp)
    (then_cmp (on (λ (p : Party). p.principal.flavor) nat_cmp) (on (λ (p : Party). p.principal.uid) nat_cmp)))

-- a string, filled up with zeros to 1,024 bytes
unfoldable pub padded : List ℕ → List ℕ
padded id = id ++ replicate (1024 - length id) 0

-- the first bytes of the array are the string, and the others are 0
pub record IsKept (bytes : List ℕ) (used : ℕ) : Type 0 where
  pub room : length bytes ≡ 1024
  pub fits : used ≤ 1024
  pub zeros : padded (take used bytes) ≡ bytes
