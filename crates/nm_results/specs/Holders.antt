-- Who holds the lock that is in the way, by its index among instances that are given.
use Rattle.std.specs.Prelude.{ℕ, ◌<◌, Bool, List, length, Option, Some, None}
use Rattle.std.specs.List.{position_or_len}
use Rattle.std.specs.Ordering.{eq_by_cmp}
use Rattle.nm_types.specs.Parties.{Party, party_cmp}

-- the one that the order doesn't tell apart from it
abbrev pub is_party : Party → Party → Bool
is_party party h = eq_by_cmp party_cmp h party

-- The place of the first one. One that isn't among them has the number of them all.
unfoldable pub index_of : List Party → Option Party → ℕ
index_of holders None = length holders
index_of holders (Some party) = position_or_len (is_party party) holders

-- It is one of them.
abbrev pub IsHolder : List Party → Option Party → Type 0
IsHolder holders o = index_of holders o < length holders
