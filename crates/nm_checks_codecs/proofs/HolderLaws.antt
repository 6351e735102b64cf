-- Holders of locks that the tests give.
use Rattle.std.proofs.Common.{◌≡◌, [], ◌∷◌, refl}
use Rattle.std.specs.List.Sorted.{IsStrictlySortedBy}
use Rattle.nm_types.specs.Parties.{Party, party_cmp}

-- `A` stands before `B`
pub two_rise : (a b : Party) → a.id ≡ 65 ∷ [] → b.id ≡ 66 ∷ [] → IsStrictlySortedBy party_cmp (a ∷ b ∷ [])
unfolding IsStrictlySortedBy
two_rise a b e f = (((rw (e, f) refl), tt), (tt, tt))
