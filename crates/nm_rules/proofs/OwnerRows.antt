-- Laws of the table of owners: look-ups by owner after each word.
use Rattle.std.proofs.Common.{◌≡◌, Bool, true, false, cond, List, [], ◌∷◌, Option, Some, None, refl, ◌∙◌}
use Rattle.std.specs.Prelude.{not, filter}
use Rattle.std.proofs.lemmas.Bool.{both_ways}
use Rattle.nm_types.specs.Parties.{Party, same_party}
use Rattle.nm_types.specs.Owners.{same_owner}
use Rattle.nm_rules.specs.Seqids.{OwnerWord, owner_at, put_owner, owners_after, owner_left}
use Rattle.nm_rules.specs.Seqids.OwnerWord.{Stays, Noted, Gone, GoneOf}
use Rattle.nm_types.specs.declared.calls.Owner.{Owner}
use Rattle.nm_types.specs.declared.owners.OwnerRow.{OwnerRow}
use Rattle.nm_rules.proofs.OwnerLemmas.{same_owner-Decides}

-- a put takes the place of its owner's row
pub owner_at-put : (row : OwnerRow) (rows : List OwnerRow) (owner : Owner)
    → owner_at owner (put_owner row rows) ≡ cond (same_owner owner row.owner) (Some row) (owner_at owner rows)
unfolding owner_at
owner_at-put row [] owner = refl
owner_at-put row (x ∷ xs) owner =
    by_tests (same_owner row.owner x.owner) (same_owner owner x.owner) (same_owner owner row.owner) refl refl refl (owner_at-put row xs owner)
  where
    by_tests : (b c d : Bool) → same_owner row.owner x.owner ≡ b → same_owner owner x.owner ≡ c → same_owner owner row.owner ≡ d
        → owner_at owner (put_owner row xs) ≡ cond (same_owner owner row.owner) (Some row) (owner_at owner xs)
        → owner_at owner (cond b (row ∷ xs) (x ∷ put_owner row xs)) ≡ cond d (Some row) (cond c (Some x) (owner_at owner xs))
    by_tests true true true its is_x is_row later = rw is_row refl
    by_tests true true false its is_x is_row later =
        absurd (both_ways (same_owner owner row.owner) is_row (rw ((same_owner-Decides row.owner x.owner).0 its) is_x))
    by_tests true false true its is_x is_row later = rw is_row refl
    by_tests true false false its is_x is_row later = rw is_row refl
    by_tests false true true other is_x is_row later =
        absurd (both_ways (same_owner row.owner x.owner) other (rw (← (same_owner-Decides owner row.owner).0 is_row) is_x))
    by_tests false true false other is_x is_row later = rw is_x refl
    by_tests false false true other is_x is_row later = rw is_x (later ∙ rw is_row refl)
    by_tests false false false other is_x is_row later = rw is_x (later ∙ rw is_row refl)

-- with an instance all its owners go, and no others
pub owner_at-gone : (party : Party) (rows : List OwnerRow) (owner : Owner)
    → owner_at owner (filter (λ x. not (same_party party x.owner.instance)) rows) ≡ cond (same_party party owner.instance) None (owner_at owner rows)
unfolding owner_at
owner_at-gone party [] owner = by_test (same_party party owner.instance)
  where
    nothing : Option OwnerRow
    nothing = None

    by_test : (b : Bool) → nothing ≡ cond b nothing nothing
    by_test true = refl
    by_test false = refl
owner_at-gone party (x ∷ xs) owner =
    by_tests (same_party party x.owner.instance) (same_owner owner x.owner) (same_party party owner.instance) refl refl refl (owner_at-gone party xs owner)
  where
    kept : OwnerRow → Bool
    kept row = not (same_party party row.owner.instance)

    by_tests : (b c d : Bool) → same_party party x.owner.instance ≡ b → same_owner owner x.owner ≡ c → same_party party owner.instance ≡ d
        → owner_at owner (filter kept xs) ≡ cond d None (owner_at owner xs)
        → owner_at owner (cond (not b) (x ∷ filter kept xs) (filter kept xs)) ≡ cond d None (cond c (Some x) (owner_at owner xs))
    by_tests true true true its is_x gone later = later
    by_tests true true false its is_x gone later =
        absurd (both_ways (same_party party owner.instance) gone (rw ((same_owner-Decides owner x.owner).0 is_x) its))
    by_tests true false d its not_x gone later = later
    by_tests false true true other is_x gone later =
        absurd (both_ways (same_party party x.owner.instance) other (rw (← (same_owner-Decides owner x.owner).0 is_x) gone))
    by_tests false true false other is_x gone later = rw is_x refl
    by_tests false false d other not_x gone later = rw not_x later

-- an owner that goes is gone, and no other
pub owner_at-without : (its : Owner) (rows : List OwnerRow) (owner : Owner)
    → owner_at owner (filter (λ x. not (same_owner its x.owner)) rows) ≡ cond (same_owner owner its) None (owner_at owner rows)
unfolding owner_at
owner_at-without its [] owner = by_test (same_owner owner its)
  where
    nothing : Option OwnerRow
    nothing = None

    by_test : (b : Bool) → nothing ≡ cond b nothing nothing
    by_test true = refl
    by_test false = refl
owner_at-without its (x ∷ xs) owner =
    by_tests (same_owner its x.owner) (same_owner owner x.owner) (same_owner owner its) refl refl refl (owner_at-without its xs owner)
  where
    kept : OwnerRow → Bool
    kept row = not (same_owner its row.owner)

    by_tests : (b c d : Bool) → same_owner its x.owner ≡ b → same_owner owner x.owner ≡ c → same_owner owner its ≡ d
        → owner_at owner (filter kept xs) ≡ cond d None (owner_at owner xs)
        → owner_at owner (cond (not b) (x ∷ filter kept xs) (filter kept xs)) ≡ cond d None (cond c (Some x) (owner_at owner xs))
    by_tests true true true is_it is_x gone later = later
    by_tests true true false is_it is_x gone later =
        absurd (both_ways (same_owner owner its) gone (rw ((same_owner-Decides its x.owner).0 is_it) is_x))
    by_tests true false d is_it not_x gone later = later
    by_tests false true true other is_x gone later =
        absurd (both_ways (same_owner its x.owner) other (rw (← (same_owner-Decides owner its).0 gone) is_x))
    by_tests false true false other is_x gone later = rw is_x refl
    by_tests false false d other not_x gone later = rw not_x later

-- One law for all words: what they leave of an owner is read off the table after them.
pub owner_by-after : (word : OwnerWord) (rows : List OwnerRow) (owner : Owner)
    → owner_at owner (owners_after word rows) ≡ owner_left word owner (owner_at owner rows)
unfolding owners_after owner_left
owner_by-after Stays rows owner = refl
owner_by-after (Noted row closed) rows owner = owner_at-put row rows owner
owner_by-after (Gone its) rows owner = owner_at-without its rows owner
owner_by-after (GoneOf party) rows owner = owner_at-gone party rows owner
