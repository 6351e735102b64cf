-- The seqids of owners (RFC 7530, 9.1.7): what is kept of an owner, what a seqid says of a call, and how the table of owners
-- changes.
use Rattle.std.specs.Prelude.{◌==◌, ◌&&◌, not, ℕ, Bool, true, false, List, [], ◌∷◌, ◌++◌, Option, Some, None, find, filter, if◌then◌else◌}
use Rattle.nm_types.specs.Parties.{Party, same_party}
use Rattle.nm_types.specs.Owners.{same_owner}
use Rattle.nm_rules.specs.Repeats.{same_call}
use Rattle.nm_rules.specs.Shares.{next_seqid}
use Rattle.nm_types.specs.declared.calls.Deed.{Deed}
use Rattle.nm_types.specs.declared.calls.Owner.{Owner}
use Rattle.nm_types.specs.declared.calls.Reply.{Reply}
use Rattle.nm_types.specs.declared.owners.Judgement.{Judgement}
use Rattle.nm_types.specs.declared.owners.Judgement.TheVariants.{Unknown, Fresh, Again, Bad}
use Rattle.nm_types.specs.declared.owners.OwnerRow.{OwnerRow}
use Rattle.nm_types.specs.declared.rows.OpenRow.{OpenRow}

-- What an operation's seqid says of it, by what is kept of its owner: it has to be the next one, or the last one with the same
-- call. The first operation of an owner that isn't known may have any.
unfoldable pub judged : Option OwnerRow → ℕ → Option Party → ℕ → Deed → Judgement
judged None seqid caller file d = Unknown
judged (Some row) seqid caller file d =
    if seqid == next_seqid row.seqid then Fresh
    else (if (seqid == row.seqid) && same_call caller file d row.call then Again else Bad)

-- it is carried out, or refused for another reason
abbrev pub is_fresh : Judgement → Bool
is_fresh Unknown = true
is_fresh Fresh = true
is_fresh Again = false
is_fresh Bad = false

abbrev pub is_confirmed : Option OwnerRow → Bool
is_confirmed None = false
is_confirmed (Some row) = row.confirmed

-- A kept reply has no delegations to recall.
abbrev pub without_recalls : Reply → Reply
without_recalls r = record r { recalls = [] }

-- ---- the table of owners, and that of the opens that their kept calls closed

-- what is kept of an owner
unfoldable pub owner_at : Owner → List OwnerRow → Option OwnerRow
owner_at owner rows = find (λ row. same_owner owner row.owner) rows

pub data OwnerWord : Type 0 where
  Stays : OwnerWord
  -- an owner moves on: its row, and the open that the call closed
  Noted : OwnerRow → Option OpenRow → OwnerWord
  -- an owner goes
  Gone : Owner → OwnerWord
  -- all owners of an instance go
  GoneOf : Party → OwnerWord

-- in the place of the owner's row, else as the last
abbrev pub put_owner : OwnerRow → List OwnerRow → List OwnerRow
put_owner row [] = row ∷ []
put_owner row (x ∷ xs) = if same_owner row.owner x.owner then row ∷ xs else x ∷ put_owner row xs

unfoldable pub owners_after : OwnerWord → List OwnerRow → List OwnerRow
owners_after Stays rows = rows
owners_after (Noted row closed) rows = put_owner row rows
owners_after (Gone owner) rows = filter (λ x. not (same_owner owner x.owner)) rows
owners_after (GoneOf party) rows = filter (λ x. not (same_party party x.owner.instance)) rows

-- what the word leaves of an owner's row
unfoldable pub owner_left : OwnerWord → Owner → Option OwnerRow → Option OwnerRow
owner_left Stays owner before = before
owner_left (Noted row closed) owner before = if same_owner owner row.owner then Some row else before
owner_left (Gone its) owner before = if same_owner owner its then None else before
owner_left (GoneOf party) owner before = if same_party party owner.instance then None else before

abbrev pub listed : Option OpenRow → List OpenRow
listed None = []
listed (Some row) = row ∷ []

-- An open stays in the table of the closed ones while its CLOSE is its owner's kept call.
unfoldable pub closed_after : OwnerWord → List OpenRow → List OpenRow
closed_after Stays rows = rows
closed_after (Noted row closed) rows = filter (λ x. not (same_owner row.owner x.owner)) rows ++ listed closed
closed_after (Gone owner) rows = filter (λ x. not (same_owner owner x.owner)) rows
closed_after (GoneOf party) rows = filter (λ x. not (same_party party x.owner.instance)) rows
