-- The table of owners keeps what the entries say of each, and a call that came before changes nothing.
use Rattle.std.proofs.Common.{◌≡◌, Bool, true, false, cond, List, [], ◌∷◌, Option, Some, None, refl, ap, sym, ◌∙◌, ℕ}
use Rattle.std.specs.Prelude.{◌||◌}
use Rattle.std.proofs.Math.Bool.{or-false}
use Rattle.nm_types.specs.Parties.{Party, same_party}
use Rattle.nm_types.specs.Owners.{same_owner}
use Rattle.nm_rules.specs.LockAsks.{lock_owner}
use Rattle.nm_rules.specs.LockRows.{locks_after, ranges_after}
use Rattle.nm_rules.specs.Shares.{opens_after}
use Rattle.nm_rules.specs.Contents.{tree_after}
use Rattle.nm_rules.specs.Seqids.{is_fresh, is_confirmed, without_recalls, owner_at, owners_after, owner_left, closed_after}
use Rattle.nm_types.specs.Statuses.{advances, is_done}
use Rattle.nm_types.specs.Calls.{seqid_of}
use Rattle.nm_rules.specs.Seqids.OwnerWord.{Stays, Noted}
use Rattle.nm_rules.specs.OwnerReadings.{is_owner, moves_on, first_of, first_seqid, started_with, is_named, names_owner, released_by, or_started, confirmed_by, was_confirmed, owner_now}
use Rattle.nm_rules.specs.Past.{Past, Now, now, left, acts, started, started_by, ended, is_locked, is_released, words, no_words, confirms, judgement, seqid_owner, noted, noted_row, closed_by}
use Rattle.nm_rules.specs.Seen.{Seen, seen, look, after, after_words}
use Rattle.nm_rules.specs.Answer.{IsLegal}
use Rattle.nm_types.specs.declared.calls.Call.{Call}
use Rattle.nm_types.specs.declared.args.LockArgs.{LockArgs}
use Rattle.nm_types.specs.declared.args.Locker.{Locker}
use Rattle.nm_types.specs.declared.args.Locker.TheVariants.{New, Known}
use Rattle.nm_types.specs.declared.calls.Deed.{Deed}
use Rattle.nm_types.specs.declared.calls.Deed.TheVariants as deed
use Rattle.nm_types.specs.declared.calls.Event.{Event}
use Rattle.nm_types.specs.declared.calls.Event.TheVariants.{Asked, Ended}
use Rattle.nm_types.specs.declared.calls.Owner.{Owner}
use Rattle.nm_types.specs.declared.calls.Reply.{Reply}
use Rattle.nm_types.specs.declared.calls.Verdict.{Verdict}
use Rattle.nm_types.specs.declared.owners.OwnerRow.{OwnerRow}
use Rattle.nm_rules.proofs.OwnerLemmas.{same_owner-Decides}
use Rattle.nm_rules.proofs.Legal.{look-seen, words-old}

-- what an operation leaves of an owner, in the words of the reading
abbrev pub read_row : Bool → Owner → Call → Reply → OwnerRow
read_row confirmed owner call r = record { owner = owner; seqid = seqid_of call.deed; confirmed = confirmed; call = call; reply = without_recalls r }

or_then : (b c : Bool) → (b || c) ≡ cond c true b
or_then true true = refl
or_then true false = refl
or_then false true = refl
or_then false false = refl

done_is_act : (n : Now) (call : Call) (r : Reply) → is_fresh (judgement n call) ≡ true
    → cond (confirms call.deed) (is_done r.status) false ≡ confirmed_by n call r
done_is_act n call r fresh = rw fresh refl

-- One step: what is left of an owner's row is what the reading says.
step : (n : Now) (owner : Owner) (call : Call) (r : Reply)
    → owner_left (cond (is_fresh (judgement n call)) (noted n call r (seqid_owner n call.caller call.deed)) Stays) owner (n.owner_by owner)
    ≡ cond (moves_on n owner call r)
    (Some (read_row (cond (confirmed_by n call r) true (is_confirmed (n.owner_by owner))) owner call r)) (n.owner_by owner)
unfolding owner_left noted moves_on
step n owner call r = by_fresh (is_fresh (judgement n call)) refl
  where
    before : Option OwnerRow
    before = n.owner_by owner

    confirmed : Bool
    confirmed = cond (confirmed_by n call r) true (is_confirmed before)

    by_status : (o : Owner) → is_fresh (judgement n call) ≡ true → (same b : Bool) → same_owner owner o ≡ same
        → owner_left (cond b (Noted (noted_row (n.owner_by o) o (seqid_of call.deed) call r) (closed_by n call.deed r.value)) Stays) owner before
        ≡ cond (cond same b false) (Some (read_row confirmed owner call r)) before
    by_status o fresh true true its =
        rw its
        (let one : owner ≡ o = (same_owner-Decides owner o).0 its in
        ap (λ c. Some (read_row c o call r))
        (ap (λ c. is_confirmed (n.owner_by o) || c) (done_is_act n call r fresh)
        ∙ or_then (is_confirmed (n.owner_by o)) (confirmed_by n call r)
        ∙ ap (λ q. cond (confirmed_by n call r) true (is_confirmed (n.owner_by q))) (sym one))
        ∙ ap (λ q. Some (read_row confirmed q call r)) (sym one))
    by_status o fresh true false its = refl
    by_status o fresh false true other = rw other refl
    by_status o fresh false false other = refl

    by_owner : is_fresh (judgement n call) ≡ true → (o : Option Owner)
        → owner_left (noted n call r o) owner before ≡ cond (cond (is_owner owner o) (advances r.status) false) (Some (read_row confirmed owner call r)) before
    by_owner fresh None = refl
    by_owner fresh (Some o) = by_status o fresh (same_owner owner o) (advances r.status) refl

    by_fresh : (b : Bool) → is_fresh (judgement n call) ≡ b
        → owner_left (cond b (noted n call r (seqid_owner n call.caller call.deed)) Stays) owner before
        ≡ cond (cond b (cond (is_owner owner (seqid_owner n call.caller call.deed)) (advances r.status) false) false) (Some (read_row confirmed owner call r)) before
    by_fresh true fresh = by_owner fresh (seqid_owner n call.caller call.deed)
    by_fresh false old = refl

-- ---- owners that start, or are released

-- what a LOCK that started an owner leaves of it, in the words of the reading
abbrev pub start_row : Bool → Owner → Call → Reply → ℕ → OwnerRow
start_row confirmed owner call r seqid = record { owner = owner; seqid = seqid; confirmed = confirmed; call = call; reply = without_recalls r }

started_row : (n : Now) (owner its : Owner) (seqid : ℕ) (call : Call) (r : Reply) (args : LockArgs) → call.deed ≡ deed.Lock args → (mid : Option OwnerRow)
    → owner_left (Noted (noted_row (n.owner_by its) its seqid call r) None) owner mid
    ≡ or_started (cond (same_owner owner its) (Some seqid) None) (start_row (is_confirmed (n.owner_by owner)) owner call r) mid
unfolding owner_left confirms
started_row n owner its seqid call r args it mid = by_test (same_owner owner its) refl
  where
    starts : ℕ → OwnerRow
    starts = start_row (is_confirmed (n.owner_by owner)) owner call r

    confirmed : (is_confirmed (n.owner_by its) || cond (confirms call.deed) (is_done r.status) false) ≡ is_confirmed (n.owner_by its)
    confirmed = rw it (or-false (is_confirmed (n.owner_by its)))

    by_test : (b : Bool) → same_owner owner its ≡ b
        → cond b (Some (noted_row (n.owner_by its) its seqid call r)) mid ≡ or_started (cond b (Some seqid) None) starts mid
    by_test true same =
        ap (λ c. Some (start_row c its call r seqid)) confirmed
        ∙ ap (λ (o : Owner). Some (start_row (is_confirmed (n.owner_by o)) o call r seqid)) (sym ((same_owner-Decides owner its).0 same))
    by_test false other = refl

-- what starts or is released, as the reading says
start_step : (n : Now) (owner : Owner) (call : Call) (r : Reply) (mid : Option OwnerRow)
    → owner_left (cond (acts n call r) (started_by n call r call.deed r.value) Stays) owner mid
    ≡ or_started (started_with n owner call r) (start_row (is_confirmed (n.owner_by owner)) owner call r) (cond (released_by n owner call r) None mid)
unfolding owner_left started_by first_seqid names_owner
start_step n owner call r mid = by_acts (acts n call r)
  where
    starts : ℕ → OwnerRow
    starts = start_row (is_confirmed (n.owner_by owner)) owner call r

    by_locker : (caller : Option Party) (locker : Locker) (args : LockArgs) → call.deed ≡ deed.Lock args
        → owner_left (started n call r caller locker) owner mid ≡ or_started (first_of owner caller locker) starts mid
    by_locker None (New open_seqid stateid lock_seqid text) args it = refl
    by_locker None (Known stateid lock_seqid) args it = refl
    by_locker (Some party) (Known stateid lock_seqid) args it = refl
    by_locker (Some party) (New open_seqid stateid lock_seqid text) args it = started_row n owner (lock_owner party text) lock_seqid call r args it mid

    by_name : (caller : Option Party) (text : List ℕ) → owner_left (ended caller text) owner mid ≡ cond (is_named owner caller text) None mid
    by_name None text = refl
    by_name (Some party) text = refl

    by_deed : (d : Deed) → call.deed ≡ d
        → owner_left (started_by n call r d r.value) owner mid
        ≡ or_started (first_seqid owner call.caller d r.value) starts (cond (names_owner owner call.caller d r.value) None mid)
    by_deed (deed.Access _) it = refl
    by_deed (deed.Close _) it = refl
    by_deed (deed.Commit _) it = refl
    by_deed (deed.Create _) it = refl
    by_deed (deed.GetAttr _) it = refl
    by_deed (deed.Lock args) it = by_test (is_locked r.value)
      where
        by_test : (b : Bool) → owner_left (cond b (started n call r call.caller args.locker) Stays) owner mid
            ≡ or_started (cond b (first_of owner call.caller args.locker) None) starts mid
        by_test true = by_locker call.caller args.locker args it
        by_test false = refl
    by_deed (deed.LockTest _) it = refl
    by_deed (deed.Lookup _) it = refl
    by_deed deed.LookupP it = refl
    by_deed (deed.Open _) it = refl
    by_deed (deed.OpenConfirm _) it = refl
    by_deed (deed.OpenDowngrade _) it = refl
    by_deed (deed.Read _) it = refl
    by_deed (deed.ReadDir _) it = refl
    by_deed (deed.ReleaseLockOwner args) it = by_test (is_released r.value)
      where
        by_test : (b : Bool) → owner_left (cond b (ended call.caller args.owner) Stays) owner mid ≡ cond (cond b (is_named owner call.caller args.owner) false) None mid
        by_test true = by_name call.caller args.owner
        by_test false = refl
    by_deed (deed.Remove _) it = refl
    by_deed (deed.SetAttr _) it = refl
    by_deed (deed.Unlock _) it = refl
    by_deed (deed.Write _) it = refl

    by_acts : (b : Bool) → owner_left (cond b (started_by n call r call.deed r.value) Stays) owner mid
        ≡ or_started (cond b (first_seqid owner call.caller call.deed r.value) None) starts (cond (cond b (names_owner owner call.caller call.deed r.value) false) None mid)
    by_acts true = by_deed call.deed refl
    by_acts false = refl

-- what starts an owner releases none, and confirms none
pub record StartsAlone (n : Now) (owner : Owner) (call : Call) (r : Reply) : Type 0 where
  pub released : released_by n owner call r ≡ false
  pub confirmed : confirmed_by n call r ≡ false

starts_alone : (n : Now) (owner : Owner) (call : Call) (r : Reply) (seqid : ℕ) → started_with n owner call r ≡ Some seqid → StartsAlone n owner call r
unfolding first_seqid names_owner confirms
starts_alone n owner call r seqid starts = by_deed call.deed refl starts
  where
    never : (b : Bool) → cond b None None ≡ Some seqid → ⊥
    never true e = cc
    never false e = cc

    either_way : (b : Bool) → cond b false false ≡ false
    either_way true = refl
    either_way false = refl

    by_deed : (d : Deed) → call.deed ≡ d → cond (acts n call r) (first_seqid owner call.caller d r.value) None ≡ Some seqid → StartsAlone n owner call r
    by_deed (deed.Lock args) it starts = record {
      released = ap (λ its. cond (acts n call r) (names_owner owner call.caller its r.value) false) it ∙ either_way (acts n call r);
      confirmed = ap (λ its. cond (confirms its) (acts n call r) false) it;
    }
    by_deed (deed.Access _) it starts = absurd (never (acts n call r) starts)
    by_deed (deed.Close _) it starts = absurd (never (acts n call r) starts)
    by_deed (deed.Commit _) it starts = absurd (never (acts n call r) starts)
    by_deed (deed.Create _) it starts = absurd (never (acts n call r) starts)
    by_deed (deed.GetAttr _) it starts = absurd (never (acts n call r) starts)
    by_deed (deed.LockTest _) it starts = absurd (never (acts n call r) starts)
    by_deed (deed.Lookup _) it starts = absurd (never (acts n call r) starts)
    by_deed deed.LookupP it starts = absurd (never (acts n call r) starts)
    by_deed (deed.Open _) it starts = absurd (never (acts n call r) starts)
    by_deed (deed.OpenConfirm _) it starts = absurd (never (acts n call r) starts)
    by_deed (deed.OpenDowngrade _) it starts = absurd (never (acts n call r) starts)
    by_deed (deed.Read _) it starts = absurd (never (acts n call r) starts)
    by_deed (deed.ReadDir _) it starts = absurd (never (acts n call r) starts)
    by_deed (deed.ReleaseLockOwner _) it starts = absurd (never (acts n call r) starts)
    by_deed (deed.Remove _) it starts = absurd (never (acts n call r) starts)
    by_deed (deed.SetAttr _) it starts = absurd (never (acts n call r) starts)
    by_deed (deed.Unlock _) it starts = absurd (never (acts n call r) starts)
    by_deed (deed.Write _) it starts = absurd (never (acts n call r) starts)

-- what a row says of the confirmation
confirmed_of : (b c : Bool) (owner : Owner) (call : Call) (r : Reply) (before : Option OwnerRow)
    → is_confirmed (cond b (Some (read_row (cond c true (is_confirmed before)) owner call r)) before)
    ≡ cond b (cond c true (is_confirmed before)) (is_confirmed before)
confirmed_of true c owner call r before = refl
confirmed_of false c owner call r before = refl

gone_of : (b : Bool) (before : Option OwnerRow) → is_confirmed (cond b None before) ≡ cond b false (is_confirmed before)
gone_of true before = refl
gone_of false before = refl

-- with what starts or is released
confirmed_by_entry : (n : Now) (owner : Owner) (call : Call) (r : Reply) (before : Option OwnerRow)
    → is_confirmed (or_started (started_with n owner call r) (start_row (is_confirmed before) owner call r)
    (cond (released_by n owner call r) None
    (cond (moves_on n owner call r) (Some (read_row (cond (confirmed_by n call r) true (is_confirmed before)) owner call r)) before)))
    ≡ cond (released_by n owner call r) false (cond (moves_on n owner call r) (cond (confirmed_by n call r) true (is_confirmed before)) (is_confirmed before))
confirmed_by_entry n owner call r before = by_start_of (started_with n owner call r) refl
  where
    either_way : (b c : Bool) → cond b c c ≡ c
    either_way true c = refl
    either_way false c = refl

    by_start_of : (o : Option ℕ) → started_with n owner call r ≡ o
        → is_confirmed (or_started o (start_row (is_confirmed before) owner call r)
        (cond (released_by n owner call r) None
        (cond (moves_on n owner call r) (Some (read_row (cond (confirmed_by n call r) true (is_confirmed before)) owner call r)) before)))
        ≡ cond (released_by n owner call r) false (cond (moves_on n owner call r) (cond (confirmed_by n call r) true (is_confirmed before)) (is_confirmed before))
    by_start_of None none =
        gone_of (released_by n owner call r) (cond (moves_on n owner call r) (Some (read_row (cond (confirmed_by n call r) true (is_confirmed before)) owner call r)) before)
        ∙ ap (cond (released_by n owner call r) false) (confirmed_of (moves_on n owner call r) (confirmed_by n call r) owner call r before)
    by_start_of (Some seqid) starts =
        let alone : StartsAlone n owner call r = starts_alone n owner call r seqid starts in
        rw (alone.released, alone.confirmed) (sym (either_way (moves_on n owner call r) (is_confirmed before)))

-- the row is confirmed where the reading says so
confirmed-now : (es : Past) (owner : Owner) → is_confirmed (owner_now es owner) ≡ was_confirmed es owner
unfolding owner_now was_confirmed
confirmed-now [] owner = refl
confirmed-now (x ∷ earlier) owner = by_event x.event (confirmed-now earlier owner)
  where
    by_event : (event : Event) → is_confirmed (owner_now earlier owner) ≡ was_confirmed earlier owner
        → is_confirmed (owner_now (record x { event = event } ∷ earlier) owner) ≡ was_confirmed (record x { event = event } ∷ earlier) owner
    by_event (Ended party) same = gone_of (same_party party owner.instance) (owner_now earlier owner) ∙ ap (cond (same_party party owner.instance) false) same
    by_event (Asked call verdict) same = rw (← same) (confirmed_by_entry (now earlier) owner call x.reply (owner_now earlier owner))

-- what an entry leaves of an owner's row, by what stood and whether it was confirmed
abbrev entry_row : Now → Owner → Call → Reply → Option OwnerRow → Bool → Option OwnerRow
entry_row n owner call r before confirmed = or_started (started_with n owner call r) (start_row confirmed owner call r)
    (cond (released_by n owner call r) None
    (cond (moves_on n owner call r) (Some (read_row (cond (confirmed_by n call r) true confirmed) owner call r)) before))

-- What stands says of each owner what the entries say.
pub owner-now : (es : Past) (owner : Owner) → (now es).owner_by owner ≡ owner_now es owner
unfolding now owner_now left words owner_left
owner-now [] owner = refl
owner-now (x ∷ earlier) owner = by_event x.event (owner-now earlier owner)
  where
    by_event : (event : Event) → (now earlier).owner_by owner ≡ owner_now earlier owner
        → (left (now earlier) (words (now earlier) event x.reply)).owner_by owner ≡ owner_now (record x { event = event } ∷ earlier) owner
    by_event (Ended party) same = ap (λ o. cond (same_party party owner.instance) None o) same
    by_event (Asked call verdict) same =
        start_step (now earlier) owner call x.reply _
        ∙ ap (λ m. or_started (started_with (now earlier) owner call x.reply) (start_row (is_confirmed ((now earlier).owner_by owner)) owner call x.reply)
        (cond (released_by (now earlier) owner call x.reply) None m)) (step (now earlier) owner call x.reply)
        ∙ ap (λ o. entry_row (now earlier) owner call x.reply o (is_confirmed o)) same
        ∙ ap (λ c. entry_row (now earlier) owner call x.reply (owner_now earlier owner) c) (confirmed-now earlier owner)

-- So does the table.
pub owner-seen : (fs : ℕ) (grants : Bool) (es : Past) (owner : Owner) → IsLegal fs grants es
    → owner_at owner (seen fs grants es).owners ≡ owner_now es owner
unfolding look
owner-seen fs grants es owner legal = ap (λ (n : Now). n.owner_by owner) (look-seen fs grants es legal) ∙ owner-now es owner

-- no words leave all as it was
pub same-after : (s : Seen) → after_words s no_words ≡ s
unfolding after_words opens_after tree_after owners_after closed_after locks_after ranges_after
same-after s = refl

-- What came before changes nothing.
pub old-after : (s : Seen) (call : Call) (verdict : Verdict) (r : Reply) → is_fresh (judgement (look s) call) ≡ false → after s (Asked call verdict) r ≡ s
old-after s call verdict r old = ap (after_words s) (words-old (look s) call verdict r old) ∙ same-after s
