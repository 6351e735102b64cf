-- The list of holders, and that of what is held, as they are made.
use Rattle.std.specs.Prelude.{◌==◌, nat_lt, ℕ, Bool, List, [], ◌∷◌, Option, Some, None, if◌then◌else◌}
use Rattle.std.specs.List.{insert}
use Rattle.nm_rules.specs.Held.{range_of}
use Rattle.nm_types.specs.Parties.{Party}
use Rattle.nm_types.specs.declared.results.LockRange.{LockRange}
use Rattle.nm_types.specs.declared.rows.Held.{Held}
use Rattle.nm_types.specs.declared.table.HeldRow.{HeldRow}

-- the list with a party at that place, or as it is where there is none for it
abbrev pub put_at : Option ℕ → Party → List Party → List Party
put_at None party parties = parties
put_at (Some place) party parties = insert parties place party

-- the range, where that stateid holds it
abbrev pub range_if : ℕ → Held → List LockRange
range_if counter h = if h.owner == counter then range_of h ∷ [] else []

-- the row is of a higher counter
abbrev pub is_behind : ℕ → HeldRow → Bool
is_behind counter row = nat_lt counter row.counter
