-- Whose turn it is, and what an operation leaves whose turn it was.
use Rattle.std.proofs.Common.{◌≡◌, ℕ, Bool, true, false, cond, List, Option, Some, None, refl, ap, sym, subst, ◌∙◌}
use Rattle.std.specs.Prelude.{◌==◌, ◌||◌, not, nat_le, option_map}
use Rattle.std.specs.Option.{option_or}
use Rattle.nm_rules.specs.Answer.{answer_to, checks, refused_value, refusal_value, reply_by, reply_with}
use Rattle.nm_rules.specs.Checks.{Checks, Stop, behind_seqid, first, refusal}
use Rattle.nm_rules.specs.Checks.Stop.{Refuse, Repeat}
use Rattle.nm_rules.specs.Lists.{is_empty}
use Rattle.nm_rules.specs.LockAsks.{lock_owner}
use Rattle.nm_rules.specs.LockOps.{lock_checks, newcomer_stop, unlock_checks}
use Rattle.nm_rules.specs.LockRows.{lock_at}
use Rattle.nm_rules.specs.Opens.{claim_unresolved, close_checks, confirm_checks, downgrade_checks, open_checks, rows_limit, rows_taken, GoesOpen}
use Rattle.nm_types.specs.Parties.{Party}
use Rattle.nm_rules.specs.Past.{Now, Words, confirms, set_tree, closed_by, deed_words, judgement, lock_named_by, lock_owner_named, named_by, no_words, noted, noted_row, opener, owner_named, owner_word, seqid_owner, started_by, with_owners, words}
use Rattle.nm_types.specs.Statuses.{is_done, advances}
use Rattle.nm_rules.specs.Seen.{Seen, after_words, look}
use Rattle.nm_types.specs.Owners.{same_owner}
use Rattle.nm_rules.specs.Seqids.{OwnerWord, closed_after, is_confirmed, is_fresh, judged, owner_at, owner_left, owners_after, without_recalls}
use Rattle.nm_types.specs.Calls.{seqid_of}
use Rattle.nm_rules.specs.Seqids.OwnerWord.{Noted, Stays}
use Rattle.nm_rules.specs.Shares.{open_at}
use Rattle.nm_rules.specs.Stateids.{is_own, is_own_lock, judged_stop, lock_named, lock_owner_stop_at, lock_unresolved, owner_stop, owner_stop_at, resolved, unresolved_at}
use Rattle.nm_types.specs.declared.args.Claim.{Claim}
use Rattle.nm_types.specs.declared.args.Claim.TheVariants.{Null, Previous, DelegateCur, DelegatePrev}
use Rattle.nm_types.specs.declared.args.CloseArgs.{CloseArgs}
use Rattle.nm_types.specs.declared.args.LockArgs.{LockArgs}
use Rattle.nm_types.specs.declared.args.LockTestArgs.{LockTestArgs}
use Rattle.nm_types.specs.declared.args.Locker.TheVariants.{New, Known}
use Rattle.nm_types.specs.declared.args.OpenArgs.{OpenArgs}
use Rattle.nm_types.specs.declared.args.OpenConfirmArgs.{OpenConfirmArgs}
use Rattle.nm_types.specs.declared.args.OpenDowngradeArgs.{OpenDowngradeArgs}
use Rattle.nm_types.specs.declared.args.UnlockArgs.{UnlockArgs}
use Rattle.nm_types.specs.declared.calls.Call.{Call}
use Rattle.nm_types.specs.declared.calls.Deed.{Deed}
use Rattle.nm_types.specs.declared.calls.Deed.TheVariants as deed
use Rattle.nm_types.specs.declared.calls.Event.TheVariants.{Asked}
use Rattle.nm_types.specs.declared.calls.Owner.{Owner}
use Rattle.nm_types.specs.declared.calls.Reply.{Reply}
use Rattle.nm_types.specs.declared.calls.ReplyValue.{ReplyValue}
use Rattle.nm_types.specs.declared.calls.ReplyValue.TheVariants as told
use Rattle.nm_types.specs.declared.calls.StateRef.{StateRef}
use Rattle.nm_types.specs.declared.calls.StateRef.TheVariants.{Zeros, Ones, Named}
use Rattle.nm_types.specs.declared.calls.Verdict.{Verdict}
use Rattle.nm_types.specs.declared.owners.Judgement.{Judgement}
use Rattle.nm_types.specs.declared.owners.Judgement.TheVariants as judged_as
use Rattle.nm_types.specs.declared.owners.OwnerRow.{OwnerRow}
use Rattle.nm_types.specs.declared.results.Denied.{Denied}
use Rattle.nm_types.specs.declared.results.LockOutcome.TheVariants.{Denied as IsDenied}
use Rattle.nm_types.specs.declared.rows.LockRow.{LockRow}
use Rattle.nm_types.specs.declared.rows.OpenRow.{OpenRow}
use Rattle.nm_types.specs.declared.status.OpStatus.{OpStatus}
use Rattle.nm_types.specs.declared.status.OpStatus.TheVariants.{BadSeqid, BadStateId, StaleClientId}
use Rattle.nm_rules.proofs.Legal.{SeqidTells, open_goes, repeat_is_old, seqid_tells, named_resolved, named_lock}
use Rattle.nm_rules.proofs.OwnerLaws.{old-after, same-after}
use Rattle.nm_rules.proofs.OwnerLemmas.{same_owner-Decides}
use Rattle.nm_rules.proofs.OwnerRows.{owner_by-after}
use Rattle.nm_rules.proofs.Refusals.{by_refusal}
use Rattle.nm_state.proofs.OpeningLemmas.{applied_stopped, other_refusal, stays_other, stopped_answer}
use Rattle.nm_state.specs.Locking.{locker_of}
use Rattle.nm_state.specs.Opening.{Applied}
use Rattle.nm_state.specs.Turns.{Comes, IsTurn, Locks, Passes, Went, after_noting, lock_turn_at, note_word, reply_behind, start_word, turn_at, turn_behind, turn_by, turn_to_lock, turn_to_open, turn_unless}
use Rattle.nm_state.specs.declared.lock_asks.Newcomer.{Newcomer}
use Rattle.nm_state.specs.declared.seqids.Turn.{Turn}
use Rattle.nm_state.specs.declared.seqids.Turn.TheVariants.{Answered, Of}

-- ---- it isn't its turn

-- An owner stays with a status that doesn't advance.
stays_put : (n : Now) (call : Call) (r : Reply) → advances r.status ≡ false → owner_word n call r ≡ Stays
unfolding noted
stays_put n call r stays = by_fresh (is_fresh (judgement n call)) (seqid_owner n call.caller call.deed)
  where
    by_fresh : (b : Bool) (o : Option Owner) → cond b (noted n call r o) Stays ≡ Stays
    by_fresh true None = refl
    by_fresh true (Some owner) = rw stays refl
    by_fresh false o = refl

pub applied_before : (s : Seen) (call : Call) (verdict : Verdict) (status : OpStatus) → first (checks s call.caller call.file verdict call.deed) ≡ Some (Refuse status)
    → advances status ≡ false → Applied s (Asked call verdict) (reply_with status (refused_value call.deed)) s
applied_before s call verdict status stops stays =
    subst (λ v. Applied s (Asked call verdict) (reply_with status v) s)
    (other_refusal s call.caller call.file call.deed status (stays_other status stays))
    (applied_stopped s call verdict status stops (stays_put (look s) call (reply_by s call (Some (Refuse status))) stays))

applied_again : (s : Seen) (call : Call) (verdict : Verdict) (kept : Reply) → first (checks s call.caller call.file verdict call.deed) ≡ Some (Repeat kept)
    → Applied s (Asked call verdict) kept s
applied_again s call verdict kept repeats = record {
  answer = stopped_answer s call verdict (Some (Repeat kept)) repeats;
  tables = sym (old-after s call verdict kept (repeat_is_old s call verdict kept repeats));
}

-- the first of the classes, by the first two
first_unresolved : (c : Checks) (status : OpStatus) → c.unresolved ≡ Some status → first c ≡ Some (Refuse status)
first_unresolved c status stops = rw stops refl

first_seqid : (c : Checks) (stop : Stop) → c.unresolved ≡ None → c.seqid ≡ Some stop → first c ≡ Some stop
first_seqid c stop own stops = rw (own, stops) refl

-- ---- whose turn it is

-- an owner's seqid stops an operation by a status that doesn't advance
abbrev StopStays : Option Stop → Type 0
StopStays None = Unit {0}
StopStays (Some (Refuse status)) = advances status ≡ false
StopStays (Some (Repeat kept)) = Unit {0}

judged_stays : (kept : Reply) (j : Judgement) → StopStays (judged_stop kept j)
unfolding advances
judged_stays kept judged_as.Unknown = tt
judged_stays kept judged_as.Fresh = tt
judged_stays kept judged_as.Again = tt
judged_stays kept judged_as.Bad = refl

stop_stays : (full : Bool) (o : Option OwnerRow) (seqid : ℕ) (caller : Option Party) (file : ℕ) (d : Deed) → StopStays (owner_stop full o seqid caller file d)
unfolding owner_stop advances
stop_stays true None seqid caller file d = refl
stop_stays false None seqid caller file d = tt
stop_stays full (Some row) seqid caller file d = judged_stays row.reply (judged (Some row) seqid caller file d)

turn_of_stop : (s : Seen) (call : Call) (verdict : Verdict) (owner : Owner) (x : Option Stop)
    → (checks s call.caller call.file verdict call.deed).unresolved ≡ None → (checks s call.caller call.file verdict call.deed).seqid ≡ x → StopStays x
    → seqid_owner (look s) call.caller call.deed ≡ Some owner → IsTurn s call verdict (turn_by call.deed owner x)
turn_of_stop s call verdict owner None own stops stays its = (record { unresolved = own; seqid = stops }, its)
turn_of_stop s call verdict owner (Some (Refuse status)) own stops stays its =
    applied_before s call verdict status (first_seqid (checks s call.caller call.file verdict call.deed) (Refuse status) own stops) stays
turn_of_stop s call verdict owner (Some (Repeat kept)) own stops stays its =
    applied_again s call verdict kept (first_seqid (checks s call.caller call.file verdict call.deed) (Repeat kept) own stops)

-- an operation on an open
at_turn : (s : Seen) (call : Call) (verdict : Verdict) (seqid : ℕ) (stateid : StateRef)
    → (checks s call.caller call.file verdict call.deed).unresolved ≡ unresolved_at call.caller (resolved s stateid)
    → (checks s call.caller call.file verdict call.deed).seqid ≡ owner_stop_at s (resolved s stateid) seqid call.caller call.file call.deed
    → seqid_owner (look s) call.caller call.deed ≡ owner_named (look s) stateid
    → IsTurn s call verdict (turn_at s (resolved s stateid) seqid call.caller call.file call.deed)
unfolding turn_at owner_stop_at advances
at_turn s call verdict seqid stateid unresolved stops its = by_row (resolved s stateid) refl unresolved stops
  where
    c : Checks
    c = checks s call.caller call.file verdict call.deed

    bad : c.unresolved ≡ Some BadStateId → IsTurn s call verdict (Answered (reply_with BadStateId (refused_value call.deed)))
    bad it = applied_before s call verdict BadStateId (first_unresolved c BadStateId it) refl

    by_own : (row : OpenRow) (b : Bool) → resolved s stateid ≡ Some row → c.unresolved ≡ cond (not b) (Some BadStateId) None
        → c.seqid ≡ owner_stop false (owner_at row.owner s.owners) seqid call.caller call.file call.deed
        → IsTurn s call verdict (cond b (turn_by call.deed row.owner (owner_stop false (owner_at row.owner s.owners) seqid call.caller call.file call.deed)) (Answered (reply_with BadStateId (refused_value call.deed))))
    by_own row true found own stops =
        turn_of_stop s call verdict row.owner (owner_stop false (owner_at row.owner s.owners) seqid call.caller call.file call.deed) own stops
        (stop_stays false (owner_at row.owner s.owners) seqid call.caller call.file call.deed)
        (its ∙ ap (λ o. option_map (λ (r : OpenRow). r.owner) o) (named_resolved s stateid row found))
    by_own row false found own stops = bad own

    by_row : (o : Option OpenRow) → resolved s stateid ≡ o → c.unresolved ≡ unresolved_at call.caller o
        → c.seqid ≡ owner_stop_at s o seqid call.caller call.file call.deed
        → IsTurn s call verdict (turn_at s o seqid call.caller call.file call.deed)
    by_row None found own stops = bad own
    by_row (Some row) found own stops = by_own row (is_own call.caller row) found own stops

at_lock_turn : (s : Seen) (call : Call) (verdict : Verdict) (seqid : ℕ) (stateid : StateRef)
    → (checks s call.caller call.file verdict call.deed).unresolved ≡ lock_unresolved call.caller (lock_named s stateid)
    → (checks s call.caller call.file verdict call.deed).seqid ≡ lock_owner_stop_at s (lock_named s stateid) seqid call.caller call.file call.deed
    → seqid_owner (look s) call.caller call.deed ≡ lock_owner_named (look s) stateid
    → IsTurn s call verdict (lock_turn_at s (lock_named s stateid) seqid call.caller call.file call.deed)
unfolding lock_turn_at lock_owner_stop_at advances
at_lock_turn s call verdict seqid stateid unresolved stops its = by_row (lock_named s stateid) refl unresolved stops
  where
    c : Checks
    c = checks s call.caller call.file verdict call.deed

    bad : c.unresolved ≡ Some BadStateId → IsTurn s call verdict (Answered (reply_with BadStateId (refused_value call.deed)))
    bad it = applied_before s call verdict BadStateId (first_unresolved c BadStateId it) refl

    by_own : (row : LockRow) (b : Bool) → lock_named s stateid ≡ Some row → c.unresolved ≡ cond (not b) (Some BadStateId) None
        → c.seqid ≡ owner_stop false (owner_at row.owner s.owners) seqid call.caller call.file call.deed
        → IsTurn s call verdict (cond b (turn_by call.deed row.owner (owner_stop false (owner_at row.owner s.owners) seqid call.caller call.file call.deed)) (Answered (reply_with BadStateId (refused_value call.deed))))
    by_own row true found own stops =
        turn_of_stop s call verdict row.owner (owner_stop false (owner_at row.owner s.owners) seqid call.caller call.file call.deed) own stops
        (stop_stays false (owner_at row.owner s.owners) seqid call.caller call.file call.deed)
        (its ∙ ap (λ o. option_map (λ (r : LockRow). r.owner) o) (named_lock s stateid row found))
    by_own row false found own stops = bad own

    by_row : (o : Option LockRow) → lock_named s stateid ≡ o → c.unresolved ≡ lock_unresolved call.caller o
        → c.seqid ≡ lock_owner_stop_at s o seqid call.caller call.file call.deed
        → IsTurn s call verdict (lock_turn_at s o seqid call.caller call.file call.deed)
    by_row None found own stops = bad own
    by_row (Some row) found own stops = by_own row (is_own_lock call.caller row) found own stops

unlock_turn_of : (s : Seen) (caller : Option Party) (file : ℕ) (args : UnlockArgs) (verdict : Verdict)
    → IsTurn s (record { caller = caller; file = file; deed = deed.Unlock args }) verdict (lock_turn_at s (lock_named s args.stateid) args.seqid caller file (deed.Unlock args))
unfolding unlock_checks seqid_owner
unlock_turn_of s caller file args verdict = at_lock_turn s (record { caller = caller; file = file; deed = deed.Unlock args }) verdict args.seqid args.stateid refl refl refl

known_turn_of : (s : Seen) (caller : Option Party) (file : ℕ) (args : LockArgs) (stateid : StateRef) (seqid : ℕ) (verdict : Verdict)
    → IsTurn s (record { caller = caller; file = file; deed = deed.Lock (record args { locker = Known stateid seqid }) }) verdict
    (lock_turn_at s (lock_named s stateid) seqid caller file (deed.Lock (record args { locker = Known stateid seqid })))
unfolding lock_checks seqid_owner
known_turn_of s caller file args stateid seqid verdict =
    by_caller caller
  where
    by_caller : (its : Option Party) → IsTurn s (record { caller = its; file = file; deed = deed.Lock (record args { locker = Known stateid seqid }) }) verdict
        (lock_turn_at s (lock_named s stateid) seqid its file (deed.Lock (record args { locker = Known stateid seqid })))
    by_caller None = at_lock_turn s (record { caller = None; file = file; deed = deed.Lock (record args { locker = Known stateid seqid }) }) verdict seqid stateid refl refl refl
    by_caller (Some party) = at_lock_turn s (record { caller = Some party; file = file; deed = deed.Lock (record args { locker = Known stateid seqid }) }) verdict seqid stateid refl refl refl

-- a LOCK of an owner that comes as a new one
newcomer_stays : (b : Bool) (o : Option Stop) → StopStays o → StopStays (option_or o (refusal (cond b (Some BadSeqid) None)))
unfolding advances
newcomer_stays true None stays = refl
newcomer_stays false None stays = tt
newcomer_stays b (Some (Refuse status)) stays = stays
newcomer_stays b (Some (Repeat kept)) stays = tt

turn_behind_is : (d : Deed) (owner : Owner) (newcomer : Option OpStatus) (o : Option Stop)
    → turn_behind d newcomer (turn_by d owner o) ≡ turn_by d owner (option_or o (refusal newcomer))
turn_behind_is d owner None None = refl
turn_behind_is d owner (Some status) None = refl
turn_behind_is d owner None (Some (Refuse status)) = refl
turn_behind_is d owner None (Some (Repeat kept)) = refl
turn_behind_is d owner (Some other) (Some (Refuse status)) = refl
turn_behind_is d owner (Some other) (Some (Repeat kept)) = refl

new_turn_of : (s : Seen) (file : ℕ) (args : LockArgs) (new : Newcomer) (verdict : Verdict)
    → IsTurn s (record { caller = Some new.owner.instance; file = file; deed = deed.Lock (record args { locker = locker_of new }) }) verdict
    (turn_behind (deed.Lock (record args { locker = locker_of new })) (newcomer_stop s (lock_owner new.owner.instance new.owner.text) file new.lock_seqid)
    (turn_at s (resolved s new.stateid) new.open_seqid (Some new.owner.instance) file (deed.Lock (record args { locker = locker_of new }))))
unfolding lock_checks seqid_owner turn_at owner_stop_at newcomer_stop advances
new_turn_of s file args new verdict = by_row (resolved s new.stateid) refl refl refl
  where
    call : Call
    call = record { caller = Some new.owner.instance; file = file; deed = deed.Lock (record args { locker = locker_of new }) }

    c : Checks
    c = checks s call.caller call.file verdict call.deed

    newcomer : Option OpStatus
    newcomer = newcomer_stop s (lock_owner new.owner.instance new.owner.text) file new.lock_seqid

    its_stop : OpenRow → Option Stop
    its_stop row = owner_stop false (owner_at row.owner s.owners) new.open_seqid call.caller file call.deed

    bad : c.unresolved ≡ Some BadStateId → IsTurn s call verdict (Answered (reply_with BadStateId (refused_value call.deed)))
    bad it = applied_before s call verdict BadStateId (first_unresolved c BadStateId it) refl

    by_own : (row : OpenRow) (b : Bool) → resolved s new.stateid ≡ Some row → c.unresolved ≡ cond (not b) (Some BadStateId) None
        → c.seqid ≡ option_or (its_stop row) (refusal newcomer)
        → IsTurn s call verdict (turn_behind call.deed newcomer (cond b (turn_by call.deed row.owner (its_stop row)) (Answered (reply_with BadStateId (refused_value call.deed)))))
    by_own row true found own stops =
        subst (λ t. IsTurn s call verdict t) (sym (turn_behind_is call.deed row.owner newcomer (its_stop row)))
        (turn_of_stop s call verdict row.owner (option_or (its_stop row) (refusal newcomer)) own stops
        (newcomer_stays _ (its_stop row) (stop_stays false (owner_at row.owner s.owners) new.open_seqid call.caller file call.deed))
        (ap (λ o. option_map (λ (r : OpenRow). r.owner) o) (named_resolved s new.stateid row found)))
    by_own row false found own stops = bad own

    by_row : (o : Option OpenRow) → resolved s new.stateid ≡ o → c.unresolved ≡ unresolved_at call.caller o
        → c.seqid ≡ option_or (owner_stop_at s o new.open_seqid call.caller file call.deed) (refusal newcomer)
        → IsTurn s call verdict (turn_behind call.deed newcomer (turn_at s o new.open_seqid call.caller file call.deed))
    by_row None found own stops = bad own
    by_row (Some row) found own stops = by_own row (is_own call.caller row) found own stops

close_turn_of : (s : Seen) (caller : Option Party) (file : ℕ) (args : CloseArgs) (verdict : Verdict)
    → IsTurn s (record { caller = caller; file = file; deed = deed.Close args }) verdict (turn_at s (resolved s args.stateid) args.seqid caller file (deed.Close args))
unfolding close_checks seqid_owner
close_turn_of s caller file args verdict = at_turn s (record { caller = caller; file = file; deed = deed.Close args }) verdict args.seqid args.stateid refl refl refl

confirm_turn_of : (s : Seen) (caller : Option Party) (file : ℕ) (args : OpenConfirmArgs) (verdict : Verdict)
    → IsTurn s (record { caller = caller; file = file; deed = deed.OpenConfirm args }) verdict (turn_at s (resolved s args.stateid) args.seqid caller file (deed.OpenConfirm args))
unfolding confirm_checks seqid_owner
confirm_turn_of s caller file args verdict = at_turn s (record { caller = caller; file = file; deed = deed.OpenConfirm args }) verdict args.seqid args.stateid refl refl refl

downgrade_turn_of : (s : Seen) (caller : Option Party) (file : ℕ) (args : OpenDowngradeArgs) (verdict : Verdict)
    → IsTurn s (record { caller = caller; file = file; deed = deed.OpenDowngrade args }) verdict (turn_at s (resolved s args.stateid) args.seqid caller file (deed.OpenDowngrade args))
unfolding downgrade_checks seqid_owner
downgrade_turn_of s caller file args verdict = at_turn s (record { caller = caller; file = file; deed = deed.OpenDowngrade args }) verdict args.seqid args.stateid refl refl refl

claim_stays : (claim : Claim) → StopStays (refusal (claim_unresolved claim))
unfolding claim_unresolved advances
claim_stays (Null _) = tt
claim_stays (Previous _) = tt
claim_stays (DelegateCur _ _) = refl
claim_stays (DelegatePrev _) = tt

open_turn_of : (s : Seen) (party : Party) (file : ℕ) (args : OpenArgs) (verdict : Verdict)
    → IsTurn s (record { caller = Some party; file = file; deed = deed.Open args }) verdict (turn_to_open s party file args)
unfolding open_checks seqid_owner turn_to_open advances
open_turn_of s party file args verdict = by_claim (claim_unresolved args.claim) refl (claim_stays args.claim)
  where
    call : Call
    call = record { caller = Some party; file = file; deed = deed.Open args }

    by_claim : (o : Option OpStatus) → claim_unresolved args.claim ≡ o → StopStays (refusal o)
        → IsTurn s call verdict (turn_unless (deed.Open args) o (turn_by (deed.Open args) (opener party args)
        (owner_stop (nat_le rows_limit (rows_taken s)) (owner_at (opener party args) s.owners) args.seqid (Some party) file (deed.Open args))))
    by_claim None own stays =
        turn_of_stop s call verdict (opener party args) _ own refl
        (stop_stays (nat_le rows_limit (rows_taken s)) (owner_at (opener party args) s.owners) args.seqid (Some party) file (deed.Open args)) refl
    by_claim (Some status) own stays =
        applied_before s call verdict status (first_unresolved (open_checks s (Some party) file args verdict) status own) stays

-- ---- by the call as it came

pub call_is : (call : Call) (d : Deed) → call.deed ≡ d → record { caller = call.caller; file = call.file; deed = d } ≡ call
call_is call d its = λ i. record { caller = call.caller; file = call.file; deed = sym its i }

pub open_is : (call : Call) (party : Party) (d : Deed) → call.caller ≡ Some party → call.deed ≡ d → record { caller = Some party; file = call.file; deed = d } ≡ call
open_is call party d its_caller its = λ i. record { caller = sym its_caller i; file = call.file; deed = sym its i }

turn_as : (s : Seen) (call other : Call) (verdict : Verdict) (o : Option OpenRow) (stateid : StateRef) (seqid : ℕ) (t its : Turn)
    → IsTurn s other verdict (turn_at s (resolved s stateid) seqid other.caller other.file other.deed)
    → other ≡ call → o ≡ resolved s stateid → t ≡ turn_at s o seqid call.caller call.file call.deed → t ≡ its → IsTurn s call verdict its
turn_as s call other verdict o stateid seqid t its turn same row told is =
    subst (λ x. IsTurn s call verdict x) (ap (λ r. turn_at s r seqid call.caller call.file call.deed) (sym row) ∙ sym told ∙ is)
    (subst (λ q. IsTurn s q verdict (turn_at s (resolved s stateid) seqid q.caller q.file q.deed)) same turn)

pub close_turn : (s : Seen) (call : Call) (args : CloseArgs) (verdict : Verdict) (o : Option OpenRow) (t its : Turn) → call.deed ≡ deed.Close args
    → o ≡ resolved s args.stateid → t ≡ turn_at s o args.seqid call.caller call.file call.deed → t ≡ its → IsTurn s call verdict its
close_turn s call args verdict o t its asks row told is =
    turn_as s call _ verdict o args.stateid args.seqid t its (close_turn_of s call.caller call.file args verdict) (call_is call (deed.Close args) asks) row told is

pub confirm_turn : (s : Seen) (call : Call) (args : OpenConfirmArgs) (verdict : Verdict) (o : Option OpenRow) (t its : Turn) → call.deed ≡ deed.OpenConfirm args
    → o ≡ resolved s args.stateid → t ≡ turn_at s o args.seqid call.caller call.file call.deed → t ≡ its → IsTurn s call verdict its
confirm_turn s call args verdict o t its asks row told is =
    turn_as s call _ verdict o args.stateid args.seqid t its (confirm_turn_of s call.caller call.file args verdict) (call_is call (deed.OpenConfirm args) asks) row told is

pub downgrade_turn : (s : Seen) (call : Call) (args : OpenDowngradeArgs) (verdict : Verdict) (o : Option OpenRow) (t its : Turn) → call.deed ≡ deed.OpenDowngrade args
    → o ≡ resolved s args.stateid → t ≡ turn_at s o args.seqid call.caller call.file call.deed → t ≡ its → IsTurn s call verdict its
downgrade_turn s call args verdict o t its asks row told is =
    turn_as s call _ verdict o args.stateid args.seqid t its (downgrade_turn_of s call.caller call.file args verdict) (call_is call (deed.OpenDowngrade args) asks) row told is

lock_turn_as : (s : Seen) (call other : Call) (verdict : Verdict) (o : Option LockRow) (stateid : StateRef) (seqid : ℕ) (t its : Turn)
    → IsTurn s other verdict (lock_turn_at s (lock_named s stateid) seqid other.caller other.file other.deed)
    → other ≡ call → o ≡ lock_named s stateid → t ≡ lock_turn_at s o seqid call.caller call.file call.deed → t ≡ its → IsTurn s call verdict its
lock_turn_as s call other verdict o stateid seqid t its turn same row told is =
    subst (λ x. IsTurn s call verdict x) (ap (λ r. lock_turn_at s r seqid call.caller call.file call.deed) (sym row) ∙ sym told ∙ is)
    (subst (λ q. IsTurn s q verdict (lock_turn_at s (lock_named s stateid) seqid q.caller q.file q.deed)) same turn)

pub unlock_turn : (s : Seen) (call : Call) (args : UnlockArgs) (verdict : Verdict) (o : Option LockRow) (t its : Turn) → call.deed ≡ deed.Unlock args
    → o ≡ lock_named s args.stateid → t ≡ lock_turn_at s o args.seqid call.caller call.file call.deed → t ≡ its → IsTurn s call verdict its
unlock_turn s call args verdict o t its asks row told is =
    lock_turn_as s call _ verdict o args.stateid args.seqid t its (unlock_turn_of s call.caller call.file args verdict) (call_is call (deed.Unlock args) asks) row told is

pub known_is : (call : Call) (args : LockArgs) (stateid : StateRef) (seqid : ℕ) → Locks call args stateid seqid
    → record { caller = call.caller; file = call.file; deed = deed.Lock (record args { locker = Known stateid seqid }) } ≡ call
known_is call args stateid seqid locks =
    let same : record args { locker = Known stateid seqid } ≡ args = λ i. record args { locker = sym locks.locker i } in
    call_is call (deed.Lock (record args { locker = Known stateid seqid })) (locks.asks ∙ ap deed.Lock (sym same))

pub known_turn : (s : Seen) (call : Call) (args : LockArgs) (stateid : StateRef) (seqid : ℕ) (verdict : Verdict) (o : Option LockRow) (t its : Turn) → Locks call args stateid seqid
    → o ≡ lock_named s stateid → t ≡ lock_turn_at s o seqid call.caller call.file call.deed → t ≡ its → IsTurn s call verdict its
known_turn s call args stateid seqid verdict o t its locks row told is =
    lock_turn_as s call _ verdict o stateid seqid t its (known_turn_of s call.caller call.file args stateid seqid verdict) (known_is call args stateid seqid locks) row told is

pub comes_is : (call : Call) (args : LockArgs) (new : Newcomer) → Comes call args new
    → record { caller = Some new.owner.instance; file = call.file; deed = deed.Lock (record args { locker = locker_of new }) } ≡ call
comes_is call args new comes =
    let same : record args { locker = locker_of new } ≡ args = λ i. record args { locker = sym comes.locker i } in
    open_is call new.owner.instance (deed.Lock (record args { locker = locker_of new })) comes.caller (comes.asks ∙ ap deed.Lock (sym same))

pub new_turn : (s : Seen) (call : Call) (args : LockArgs) (new : Newcomer) (verdict : Verdict) (t its : Turn) → Comes call args new
    → t ≡ turn_to_lock s new.owner.instance call.file args new → t ≡ its → IsTurn s call verdict its
unfolding turn_to_lock
new_turn s call args new verdict t its comes told is =
    let same : record args { locker = locker_of new } ≡ args = λ i. record args { locker = sym comes.locker i } in
    subst (λ x. IsTurn s call verdict x)
    (ap (λ a. turn_behind (deed.Lock a) (newcomer_stop s (lock_owner new.owner.instance new.owner.text) call.file new.lock_seqid)
    (turn_at s (resolved s new.stateid) new.open_seqid (Some new.owner.instance) call.file (deed.Lock a))) same ∙ sym told ∙ is)
    (subst (λ q. IsTurn s q verdict (turn_behind (deed.Lock (record args { locker = locker_of new })) (newcomer_stop s (lock_owner new.owner.instance new.owner.text) call.file new.lock_seqid)
    (turn_at s (resolved s new.stateid) new.open_seqid (Some new.owner.instance) call.file (deed.Lock (record args { locker = locker_of new })))))
    (comes_is call args new comes) (new_turn_of s call.file args new verdict))

-- a LOCK of a new lock owner that names no caller
pub nobody_locks : (s : Seen) (call : Call) (args : LockArgs) (verdict : Verdict) (open_seqid : ℕ) (stateid : StateRef) (lock_seqid : ℕ) (text : List ℕ)
    → call.caller ≡ None → call.deed ≡ deed.Lock args → args.locker ≡ New open_seqid stateid lock_seqid text
    → Applied s (Asked call verdict) (reply_with BadStateId (told.Lock None)) s
unfolding lock_checks advances
nobody_locks s call args verdict open_seqid stateid lock_seqid text caller asks locker =
    let its : LockArgs = record args { locker = New open_seqid stateid lock_seqid text } in
    let same : its ≡ args = λ i. record args { locker = sym locker i } in
    subst (λ q. Applied s (Asked q verdict) (reply_with BadStateId (told.Lock None)) s)
    (λ i. record { caller = sym caller i; file = call.file; deed = sym (asks ∙ ap deed.Lock (sym same)) i })
    (applied_before s (record { caller = None; file = call.file; deed = deed.Lock its }) verdict BadStateId refl refl)

pub open_turn : (s : Seen) (call : Call) (party : Party) (args : OpenArgs) (verdict : Verdict) (t its : Turn) → call.caller ≡ Some party → call.deed ≡ deed.Open args
    → t ≡ turn_to_open s party call.file args → t ≡ its → IsTurn s call verdict its
open_turn s call party args verdict t its caller asks told is =
    subst (λ x. IsTurn s call verdict x) (sym told ∙ is)
    (subst (λ q. IsTurn s q verdict (turn_to_open s party call.file args)) (open_is call party (deed.Open args) caller asks) (open_turn_of s party call.file args verdict))

-- the owner is the one that opens
pub open_its : (s : Seen) (call : Call) (party : Party) (args : OpenArgs) (verdict : Verdict) (o owner : Owner) → call.caller ≡ Some party → call.deed ≡ deed.Open args
    → owner ≡ opener party args → IsTurn s call verdict (Of o) → IsTurn s call verdict (Of owner)
unfolding seqid_owner
open_its s call party args verdict o owner caller asks its turn =
    (turn.0, ap (λ q. seqid_owner (look s) q.caller q.deed) (sym (open_is call party (deed.Open args) caller asks)) ∙ ap Some (sym its))

pub open_let_pass : (s : Seen) (call : Call) (party : Party) (args : OpenArgs) (verdict : Verdict) (o : Owner) → call.caller ≡ Some party → call.deed ≡ deed.Open args
    → IsTurn s call verdict (Of o) → Passes (open_checks s (Some party) call.file args verdict)
open_let_pass s call party args verdict o caller asks turn =
    subst (λ q. Passes (checks s q.caller q.file verdict q.deed)) (sym (open_is call party (deed.Open args) caller asks)) turn.0

-- an OPEN that names no caller
nobody : (s : Seen) (file : ℕ) (args : OpenArgs) (verdict : Verdict)
    → Applied s (Asked (record { caller = None; file = file; deed = deed.Open args }) verdict) (reply_with StaleClientId (told.Open None)) s
unfolding open_checks advances
nobody s file args verdict = applied_before s (record { caller = None; file = file; deed = deed.Open args }) verdict StaleClientId refl refl

pub nobody_opens : (s : Seen) (call : Call) (args : OpenArgs) (verdict : Verdict) → call.caller ≡ None → call.deed ≡ deed.Open args
    → Applied s (Asked call verdict) (reply_with StaleClientId (told.Open None)) s
nobody_opens s call args verdict caller asks =
    subst (λ q. Applied s (Asked q verdict) (reply_with StaleClientId (told.Open None)) s)
    (λ i. record { caller = sym caller i; file = call.file; deed = sym asks i }) (nobody s call.file args verdict)

-- ---- it was its turn

behind : (c : Checks) → Passes c → first c ≡ refusal (behind_seqid c)
behind c passes = rw (passes.unresolved, passes.seqid) refl

-- what is told of it is the answer
told_behind : (s : Seen) (call : Call) (verdict : Verdict) (owner : Owner) (r : Reply) → IsTurn s call verdict (Of owner)
    → r ≡ reply_behind s call verdict → r ≡ answer_to s (Asked call verdict)
unfolding answer_to
told_behind s call verdict owner r turn it = it ∙ ap (reply_by s call) (sym (behind _ turn.0))

pub open_passes : (s : Seen) (party : Party) (file : ℕ) (args : OpenArgs) (verdict : Verdict) → Passes (open_checks s (Some party) file args verdict)
    → None ≡ behind_seqid (open_checks s (Some party) file args verdict) → GoesOpen s party file args
open_passes s party file args verdict passes goes =
    open_goes s party file args verdict (behind (open_checks s (Some party) file args verdict) passes ∙ ap refusal (sym goes))

is_its_turn : (s : Seen) (call : Call) (verdict : Verdict) → Passes (checks s call.caller call.file verdict call.deed) → is_fresh (judgement (look s) call) ≡ true
is_its_turn s call verdict passes =
    subst (λ o. SeqidTells o (judgement (look s) call)) passes.seqid (seqid_tells s call.caller call.file verdict call.deed passes.unresolved)

-- a refusal has no words, closes nothing, and starts nobody
record SaysNothing (n : Now) (call : Call) (r : Reply) (d : Deed) (value : ReplyValue) : Type 0 where
  pub changes : (caller : Option Party) (file : ℕ) → deed_words n caller file d value ≡ no_words
  pub closes : None ≡ closed_by n d value
  pub starts : Stays ≡ started_by n call r d value

refused_says : (n : Now) (call : Call) (r : Reply) (d : Deed) → SaysNothing n call r d (refused_value d)
unfolding set_tree is_empty closed_by started_by
refused_says n call r (deed.Access _) = record { changes = λ caller file. refl; closes = refl; starts = refl }
refused_says n call r (deed.Close _) = record { changes = λ caller file. refl; closes = refl; starts = refl }
refused_says n call r (deed.Commit _) = record { changes = λ caller file. refl; closes = refl; starts = refl }
refused_says n call r (deed.Create _) = record { changes = λ caller file. refl; closes = refl; starts = refl }
refused_says n call r (deed.GetAttr _) = record { changes = λ caller file. refl; closes = refl; starts = refl }
refused_says n call r (deed.Lock _) = record { changes = λ caller file. refl; closes = refl; starts = refl }
refused_says n call r (deed.LockTest _) = record { changes = λ caller file. refl; closes = refl; starts = refl }
refused_says n call r (deed.Lookup _) = record { changes = λ caller file. refl; closes = refl; starts = refl }
refused_says n call r deed.LookupP = record { changes = λ caller file. refl; closes = refl; starts = refl }
refused_says n call r (deed.Open args) = record { changes = by_caller; closes = refl; starts = refl }
  where
    by_caller : (caller : Option Party) (file : ℕ) → deed_words n caller file (deed.Open args) (told.Open None) ≡ no_words
    by_caller None file = refl
    by_caller (Some party) file = refl
refused_says n call r (deed.OpenConfirm _) = record { changes = λ caller file. refl; closes = refl; starts = refl }
refused_says n call r (deed.OpenDowngrade _) = record { changes = λ caller file. refl; closes = refl; starts = refl }
refused_says n call r (deed.Read _) = record { changes = λ caller file. refl; closes = refl; starts = refl }
refused_says n call r (deed.ReadDir _) = record { changes = λ caller file. refl; closes = refl; starts = refl }
refused_says n call r (deed.ReleaseLockOwner _) = record { changes = λ caller file. refl; closes = refl; starts = refl }
refused_says n call r (deed.Remove _) = record { changes = λ caller file. refl; closes = refl; starts = refl }
refused_says n call r (deed.SetAttr _) = record { changes = λ caller file. refl; closes = refl; starts = refl }
refused_says n call r (deed.Unlock _) = record { changes = λ caller file. refl; closes = refl; starts = refl }
refused_says n call r (deed.Write _) = record { changes = λ caller file. refl; closes = refl; starts = refl }

denial_says : (n : Now) (call : Call) (r : Reply) (args : LockArgs) (o : Option Denied) → SaysNothing n call r (deed.Lock args) (told.Lock (option_map IsDenied o))
unfolding closed_by started_by
denial_says n call r args None = record { changes = λ caller file. refl; closes = refl; starts = refl }
denial_says n call r args (Some denied) = record { changes = λ caller file. refl; closes = refl; starts = refl }

test_says : (n : Now) (call : Call) (r : Reply) (args : LockTestArgs) (o : Option Denied) → SaysNothing n call r (deed.LockTest args) (told.LockTest o)
unfolding closed_by started_by
test_says n call r args o = record { changes = λ caller file. refl; closes = refl; starts = refl }

refusal_says : (s : Seen) (call : Call) (r : Reply) (status : OpStatus) → SaysNothing (look s) call r call.deed (refusal_value s call.caller call.file call.deed status)
refusal_says s call r status = by_refusal (λ d value. SaysNothing (look s) call r d value)
    (refused_says (look s) call r) (denial_says (look s) call r) (test_says (look s) call r) s call.caller call.file call.deed status

-- an operation that a class behind the seqid refuses
pub went_refused_as : (s : Seen) (call : Call) (verdict : Verdict) (status : OpStatus) → Some status ≡ behind_seqid (checks s call.caller call.file verdict call.deed)
    → Went s call verdict (reply_by s call (Some (Refuse status))) None Stays s
went_refused_as s call verdict status stops =
    let r : Reply = reply_by s call (Some (Refuse status)) in
    let says = refusal_says s call r status in
    record {
      answer = ap (λ x. reply_by s call (refusal x)) stops;
      tables = sym (ap (λ w. after_words s (with_owners w Stays Stays)) (says.changes call.caller call.file) ∙ same-after s);
      closed = says.closes;
      started = says.starts;
    }

either_way : {A : Type 0} (b : Bool) (x y : A) → x ≡ y → cond b x y ≡ x
either_way true x y same = refl
either_way false x y same = sym same

-- so it doesn't matter whether it is done
record DoneOrNot (s : Seen) (call : Call) (r : Reply) : Type 0 where
  pub changes : cond (is_done r.status) (deed_words (look s) call.caller call.file call.deed r.value) no_words ≡ deed_words (look s) call.caller call.file call.deed r.value
  pub starts : cond (is_done r.status) (started_by (look s) call r call.deed r.value) Stays ≡ started_by (look s) call r call.deed r.value

words_behind : (s : Seen) (call : Call) (x : Option OpStatus) → DoneOrNot s call (reply_by s call (refusal x))
unfolding is_done
words_behind s call None = record { changes = refl; starts = refl }
words_behind s call (Some status) =
    let r : Reply = reply_by s call (Some (Refuse status)) in
    let says = refusal_says s call r status in
    record {
      changes = either_way (is_done status) _ no_words (says.changes call.caller call.file);
      starts = either_way (is_done status) _ Stays (sym says.starts);
    }

applied_noted : (s : Seen) (call : Call) (verdict : Verdict) (owner : Owner) (r : Reply) (closed : Option OpenRow) (start : OwnerWord) (mid : Seen)
    → IsTurn s call verdict (Of owner) → Went s call verdict r closed start mid
    → Applied s (Asked call verdict) r (after_noting start (after_noting (note_word s owner call r closed) mid))
unfolding words noted note_word look after_noting after_words owners_after closed_after
applied_noted s call verdict owner r closed start mid turn went = record {
  answer = told_behind s call verdict owner r turn went.answer;
  tables = ap (λ m. after_noting start (after_noting (note_word s owner call r closed) m)) went.tables
      ∙ notes done (note_word s owner call r closed) start
      ∙ ap (λ o. after_words s (with_owners done (note_word s owner call r o) start)) went.closed
      ∙ ap (λ x. after_words s (with_owners done (note_word s owner call r (closed_by (look s) call.deed r.value)) x)) went.started
      ∙ ap (after_words s) (sym its_words);
}
  where
    done : Words
    done = deed_words (look s) call.caller call.file call.deed r.value

    notes : (w : Words) (word its : OwnerWord) → after_noting its (after_noting word (after_words s (with_owners w Stays Stays))) ≡ after_words s (with_owners w word its)
    notes w word its = refl

    same : DoneOrNot s call r
    same = subst (λ (q : Reply). DoneOrNot s call q) (sym went.answer) (words_behind s call (behind_seqid (checks s call.caller call.file verdict call.deed)))

    its_words : words (look s) (Asked call verdict) r
        ≡ with_owners done (note_word s owner call r (closed_by (look s) call.deed r.value)) (started_by (look s) call r call.deed r.value)
    its_words = rw (is_its_turn s call verdict turn.0, turn.1)
        (ap (λ w. with_owners w (note_word s owner call r (closed_by (look s) call.deed r.value)) (cond (is_done r.status) (started_by (look s) call r call.deed r.value) Stays)) same.changes
        ∙ ap (λ x. with_owners done (note_word s owner call r (closed_by (look s) call.deed r.value)) x) same.starts)

-- by the call as it came, and the owners as they were then
pub noted_as : (s : Seen) (call other : Call) (verdict : Verdict) (owner : Owner) (r : Reply) (closed : Option OpenRow) (mid new : Seen)
    → other ≡ call → IsTurn s call verdict (Of owner) → Went s other verdict r closed Stays mid → new ≡ after_noting (note_word mid owner call r closed) mid
    → Applied s (Asked call verdict) r new
unfolding after_words owners_after closed_after note_word after_noting
noted_as s call other verdict owner r closed mid new same turn went noted =
    let its : Went s call verdict r closed Stays mid = subst (λ q. Went s q verdict r closed Stays mid) same went in
    let kept : note_word mid owner call r closed ≡ note_word s owner call r closed = ap (λ (m : Seen). note_word m owner call r closed) its.tables in
    subst (λ x. Applied s (Asked call verdict) r x) (sym (noted ∙ ap (λ w. after_noting w mid) kept)) (applied_noted s call verdict owner r closed Stays mid turn its)

-- a lock owner starts behind it; whether it was confirmed is as it was before
confirmed_before : (s : Seen) (owner locker : Owner) (call : Call) (r : Reply) → confirms call.deed ≡ false
    → is_confirmed (owner_left (note_word s owner call r None) locker (owner_at locker s.owners)) ≡ is_confirmed (owner_at locker s.owners)
unfolding note_word owner_left
confirmed_before s owner locker call r none = by_status (advances r.status)
  where
    row : OwnerRow
    row = noted_row (owner_at owner s.owners) owner (seqid_of call.deed) call r

    same_as : (b : Bool) → b ≡ false → (c d : Bool) → (c || cond b d false) ≡ c
    same_as b isnt true d = refl
    same_as b isnt false d = rw isnt refl

    by_owner : (b : Bool) → same_owner locker owner ≡ b → is_confirmed (cond b (Some row) (owner_at locker s.owners)) ≡ is_confirmed (owner_at locker s.owners)
    by_owner true same =
        let its : locker ≡ owner = (same_owner-Decides locker owner).0 same in
        same_as (confirms call.deed) none (is_confirmed (owner_at owner s.owners)) (is_done r.status)
        ∙ ap (λ o. is_confirmed (owner_at o s.owners)) (sym its)
    by_owner false same = refl

    by_status : (b : Bool) → is_confirmed (owner_left (cond b (Noted row None) Stays) locker (owner_at locker s.owners)) ≡ is_confirmed (owner_at locker s.owners)
    by_status true = by_owner (same_owner locker owner) refl
    by_status false = refl

lock_confirms_none : (call : Call) (args : LockArgs) (new : Newcomer) → Comes call args new → confirms call.deed ≡ false
unfolding confirms
lock_confirms_none call args new comes = ap confirms comes.asks

pub started_as : (s : Seen) (call : Call) (args : LockArgs) (new : Newcomer) (verdict : Verdict) (owner : Owner) (r : Reply) (starts : Bool) (mid noted_so last : Seen)
    → Comes call args new → IsTurn s call verdict (Of owner)
    → Went s call verdict r None (start_word starts s new.owner new.lock_seqid call r) mid
    → noted_so ≡ after_noting (note_word mid owner call r None) mid
    → last ≡ after_noting (start_word starts noted_so new.owner new.lock_seqid call r) noted_so
    → Applied s (Asked call verdict) r last
unfolding after_words owners_after closed_after note_word after_noting
started_as s call args new verdict owner r starts mid noted_so last comes turn went noted_is last_is =
    let owners : mid.owners ≡ s.owners = ap (λ (m : Seen). m.owners) went.tables in
    let kept : note_word mid owner call r None ≡ note_word s owner call r None = ap (λ os. word_by os) owners in
    let its : noted_so ≡ after_noting (note_word s owner call r None) mid = noted_is ∙ ap (λ w. after_noting w mid) kept in
    let start : start_word starts noted_so new.owner new.lock_seqid call r ≡ start_word starts s new.owner new.lock_seqid call r =
    ap (λ (x : Seen). start_word starts x new.owner new.lock_seqid call r) its ∙ ap (λ os. start_by starts (owners_after (note_word s owner call r None) os)) owners ∙ same_start starts in
    subst (λ x. Applied s (Asked call verdict) r x) (sym (last_is ∙ ap (λ w. after_noting w noted_so) start ∙ ap (λ x. after_noting (start_word starts s new.owner new.lock_seqid call r) x) its))
    (applied_noted s call verdict owner r None (start_word starts s new.owner new.lock_seqid call r) mid turn went)
  where
    word_by : List OwnerRow → OwnerWord
    word_by os = cond (advances r.status) (Noted (noted_row (owner_at owner os) owner (seqid_of call.deed) call r) None) Stays

    start_by : Bool → List OwnerRow → OwnerWord
    start_by b os = cond b (Noted (noted_row (owner_at new.owner os) new.owner new.lock_seqid call r) None) Stays

    same_start : (b : Bool) → start_by b (owners_after (note_word s owner call r None) s.owners) ≡ start_by b s.owners
    same_start true =
        ap (λ c. Noted (record { owner = new.owner; seqid = new.lock_seqid; confirmed = c || cond (confirms call.deed) (is_done r.status) false; call = call; reply = without_recalls r }) None)
        (ap is_confirmed (owner_by-after (note_word s owner call r None) s.owners new.owner)
        ∙ confirmed_before s owner new.owner call r (lock_confirms_none call args new comes))
    same_start false = refl

pub told_as : (s : Seen) (call other : Call) (verdict : Verdict) (owner : Owner) (r : Reply)
    → other ≡ call → IsTurn s call verdict (Of owner) → r ≡ reply_behind s other verdict → r ≡ answer_to s (Asked call verdict)
told_as s call other verdict owner r same turn it = told_behind s call verdict owner r turn (it ∙ ap (λ q. reply_behind s q verdict) same)
