-- What is known of an owner, in the standard's words, read off the entries alone (RFC 7530, 9.1.7, 16.10, 16.18 and 16.37).
use Rattle.std.specs.Prelude.{ℕ, Bool, true, false, List, [], ◌∷◌, filter, map, Option, Some, None, if◌then◌else◌}
use Rattle.nm_rules.specs.LockAsks.{lock_owner}
use Rattle.nm_types.specs.Parties.{Party, same_party}
use Rattle.nm_types.specs.Owners.{same_owner}
use Rattle.nm_rules.specs.Seqids.{is_fresh, without_recalls}
use Rattle.nm_types.specs.Statuses.{advances}
use Rattle.nm_types.specs.Calls.{seqid_of}
use Rattle.nm_rules.specs.Past.{Past, Now, now, acts, judgement, seqid_owner, confirms, is_locked, is_released}
use Rattle.nm_types.specs.declared.args.Locker.{Locker}
use Rattle.nm_types.specs.declared.args.Locker.TheVariants.{New, Known}
use Rattle.nm_types.specs.declared.calls.Call.{Call}
use Rattle.nm_types.specs.declared.calls.Deed.{Deed}
use Rattle.nm_types.specs.declared.calls.Deed.TheVariants as deed
use Rattle.nm_types.specs.declared.calls.Event.{Event}
use Rattle.nm_types.specs.declared.calls.Event.TheVariants.{Asked, Ended}
use Rattle.nm_types.specs.declared.calls.Owner.{Owner}
use Rattle.nm_types.specs.declared.calls.Reply.{Reply}
use Rattle.nm_types.specs.declared.calls.ReplyValue.{ReplyValue}
use Rattle.nm_types.specs.declared.calls.ReplyValue.TheVariants as told
use Rattle.nm_types.specs.declared.owners.OwnerRow.{OwnerRow}
use Rattle.nm_types.specs.declared.rows.OpenRow.{OpenRow}

abbrev pub is_owner : Owner → Option Owner → Bool
is_owner owner None = false
is_owner owner (Some its) = same_owner owner its

-- The call was an operation of that owner which moved it on: it was fresh, and its status advances.
unfoldable pub moves_on : Now → Owner → Call → Reply → Bool
moves_on n owner call r =
    if is_fresh (judgement n call)
    then (if is_owner owner (seqid_owner n call.caller call.deed) then advances r.status else false)
    else false

-- the seqid with which a LOCK starts the owner, where it is its new lock owner
abbrev pub first_of : Owner → Option Party → Locker → Option ℕ
first_of owner None locker = None
first_of owner (Some party) (Known stateid lock_seqid) = None
first_of owner (Some party) (New open_seqid stateid lock_seqid text) = if same_owner owner (lock_owner party text) then Some lock_seqid else None

unfoldable pub first_seqid : Owner → Option Party → Deed → ReplyValue → Option ℕ
first_seqid owner caller (deed.Lock args) value = if is_locked value then first_of owner caller args.locker else None
first_seqid owner caller _ value = None

-- A LOCK that was carried out started the owner.
abbrev pub started_with : Now → Owner → Call → Reply → Option ℕ
started_with n owner call r = if acts n call r then first_seqid owner call.caller call.deed r.value else None

-- it is the owner that a RELEASE_LOCKOWNER names
abbrev pub is_named : Owner → Option Party → List ℕ → Bool
is_named owner None text = false
is_named owner (Some party) text = same_owner owner (lock_owner party text)

unfoldable pub names_owner : Owner → Option Party → Deed → ReplyValue → Bool
names_owner owner caller (deed.ReleaseLockOwner args) value = if is_released value then is_named owner caller args.owner else false
names_owner owner caller _ value = false

-- A RELEASE_LOCKOWNER of the owner was carried out.
abbrev pub released_by : Now → Owner → Call → Reply → Bool
released_by n owner call r = if acts n call r then names_owner owner call.caller call.deed r.value else false

-- an OPEN_CONFIRM that was carried out
abbrev pub confirmed_by : Now → Call → Reply → Bool
confirmed_by n call r = if confirms call.deed then acts n call r else false

-- An OPEN_CONFIRM of the owner was carried out since its client's latest end and its own latest release.
unfoldable pub was_confirmed : Past → Owner → Bool
was_confirmed [] owner = false
was_confirmed (x ∷ earlier) owner = was_confirmed_with (now earlier) x.event x.reply (was_confirmed earlier owner)
  where
    was_confirmed_with : Now → Event → Reply → Bool → Bool
    was_confirmed_with n (Ended party) r before = if same_party party owner.instance then false else before
    was_confirmed_with n (Asked call verdict) r before =
        if released_by n owner call r then false
        else (if moves_on n owner call r then (if confirmed_by n call r then true else before) else before)

-- what a LOCK that started an owner leaves of it, or else this
abbrev pub or_started : Option ℕ → (ℕ → OwnerRow) → Option OwnerRow → Option OwnerRow
or_started None row more = more
or_started (Some seqid) row more = Some (row seqid)

-- The latest operation that moved the owner on or started it, since its client's latest end and its own latest release: its
-- seqid, the call and the reply, without delegations to recall. None where there is none: the owner isn't known.
unfoldable pub owner_now : Past → Owner → Option OwnerRow
owner_now [] owner = None
owner_now (x ∷ earlier) owner = owner_with (now earlier) x.event x.reply (owner_now earlier owner)
  where
    owner_with : Now → Event → Reply → Option OwnerRow → Option OwnerRow
    owner_with n (Ended party) r before = if same_party party owner.instance then None else before
    owner_with n (Asked call verdict) r before =
        or_started (started_with n owner call r)
        (λ seqid. record { owner = owner; seqid = seqid; confirmed = was_confirmed earlier owner; call = call; reply = without_recalls r })
        (if released_by n owner call r then None
        else (if moves_on n owner call r
        then Some (record {
          owner = owner;
          seqid = seqid_of call.deed;
          confirmed = if confirmed_by n call r then true else was_confirmed earlier owner;
          call = call;
          reply = without_recalls r;
        })
        else before))

-- the seqid by which an owner started in front of these, or else those
abbrev pub or_first : Option ℕ → List ℕ → List ℕ → List ℕ
or_first None before more = more
or_first (Some seqid) before more = seqid ∷ before

-- The seqids by which an owner started or moved on since its client's latest end and its own latest release, the newest first.
unfoldable pub seqids_of : Past → Owner → List ℕ
seqids_of [] owner = []
seqids_of (x ∷ earlier) owner = seqids_with (now earlier) x.event x.reply (seqids_of earlier owner)
  where
    seqids_with : Now → Event → Reply → List ℕ → List ℕ
    seqids_with n (Ended party) r before = if same_party party owner.instance then [] else before
    seqids_with n (Asked call verdict) r before =
        or_first (started_with n owner call r) before
        (if released_by n owner call r then [] else (if moves_on n owner call r then seqid_of call.deed ∷ before else before))

-- ---- closed opens

-- the counter of the open that an owner's kept call has closed, where it is a CLOSE that was carried out
unfoldable pub closed_by_call : Deed → ReplyValue → Option ℕ
closed_by_call (deed.Close _) (told.Close (Some id)) = Some id.counter
closed_by_call _ _ = None

abbrev pub kept_close : Option OwnerRow → Option ℕ
kept_close None = None
kept_close (Some row) = closed_by_call row.call.deed row.reply.value

abbrev pub counter_list : Option ℕ → List ℕ
counter_list None = []
counter_list (Some counter) = counter ∷ []

-- the counters of an owner's closed opens in a table
unfoldable pub closed_of : Owner → List OpenRow → List ℕ
closed_of owner rows = map (λ row. row.counter) (filter (λ row. same_owner owner row.owner) rows)
