-- Who holds something in a file system.
use Rattle.std.specs.Prelude.{Bool, true, ◌&&◌, ◌||◌, List, [], ◌∷◌}
use Rattle.std.specs.List.{list_any}
use Rattle.std.specs.Ordering.{is_lt}
use Rattle.std.specs.declared.cmp.Ordering.{Ordering}
use Rattle.std.specs.declared.cmp.Ordering.TheVariants.{Less, Equal, Greater}
use Rattle.nm_types.specs.Parties.{Party, same_party, party_cmp}
use Rattle.nm_rules.specs.Seen.{Seen}
use Rattle.nm_types.specs.declared.owners.OwnerRow.{OwnerRow}
use Rattle.nm_types.specs.declared.rows.OpenRow.{OpenRow}

-- by where the first one stands to the party: before it, at it, or after it
abbrev pub put_by : Ordering → Party → Party → List Party → List Party → List Party
put_by Less party x xs put = x ∷ put
put_by Equal party x xs put = x ∷ xs
put_by Greater party x xs put = party ∷ x ∷ xs

-- a party in its place in a rising list, once
abbrev pub put_party : Party → List Party → List Party
put_party party [] = party ∷ []
put_party party (x ∷ xs) = put_by (party_cmp x party) party x xs (put_party party xs)

-- the parties of these rows and more, each once, in the order of string, verifier, flavor and user
unfoldable pub gathered : {A : Type 0} → (A → Party) → List A → List Party → List Party
gathered of [] more = more
gathered of (row ∷ rows) more = put_party (of row) (gathered of rows more)

abbrev pub opener_of : OpenRow → Party
opener_of row = row.owner.instance

abbrev pub known_of : OwnerRow → Party
known_of row = row.owner.instance

-- The instances that have a row in the file system: an owner of theirs is known, or an open is live.
abbrev pub holders : Seen → List Party
holders s = gathered opener_of s.opens (gathered known_of s.owners [])

abbrev pub is_owner_of : Party → OwnerRow → Bool
is_owner_of party row = same_party party (known_of row)

abbrev pub is_opener_of : Party → OpenRow → Bool
is_opener_of party row = same_party party (opener_of row)

-- an owner that is known, or a live open, is of that instance
abbrev pub has_row : Party → Seen → Bool
has_row party s = list_any (is_opener_of party) s.opens || list_any (is_owner_of party) s.owners

-- each stands after the one before it, the first after this one
abbrev pub rises_after : Party → List Party → Bool
rises_after before [] = true
rises_after before (x ∷ xs) = is_lt (party_cmp before x) && rises_after x xs

-- the list rises, so that none stands in it twice
abbrev pub parties_rise : List Party → Bool
parties_rise [] = true
parties_rise (x ∷ xs) = rises_after x xs

-- the party is one of these
abbrev pub is_among : Party → List Party → Bool
is_among party parties = list_any (same_party party) parties
