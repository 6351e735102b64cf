-- The k-th stateid that was made has counter k.
use Rattle.std.proofs.Common.{◌≡◌, Bool, true, false, cond, [], ◌∷◌, Option, Some, None, refl, ap, sym, subst, ◌∙◌, ℕ, ◌+◌}
use Rattle.std.proofs.lemmas.Bool.{false≢true}
use Rattle.std.specs.Prelude.{is_none, option_map}
use Rattle.nm_types.specs.Parties.{Party}
use Rattle.nm_rules.specs.Shares.{open_of, opened_row}
use Rattle.nm_rules.specs.Past.{Past, Words, now, words, acts, deed_words, close_words, confirm_words, downgrade_words, lock_words, unlock_words, opener}
use Rattle.nm_types.specs.Statuses.{is_done}
use Rattle.nm_rules.specs.Seen.{Seen, seen, look, after_words}
use Rattle.nm_rules.specs.Readings.{Share, row_share, share_in, share_of}
use Rattle.nm_rules.specs.StateidReadings.{is_newcomer, makes_one, makes, stateids_made, TellsCounter}
use Rattle.nm_rules.specs.Checks.{Stop, first}
use Rattle.nm_rules.specs.Checks.Stop.{Refuse, Repeat}
use Rattle.nm_rules.specs.Data.{write_value}
use Rattle.nm_rules.specs.Files.{create_value}
use Rattle.nm_rules.specs.LockOps.{lock_value, locked_stateid, changed_lock}
use Rattle.nm_rules.specs.Opens.{open_checks, open_value, row_to_open, file_to_open}
use Rattle.nm_rules.specs.Answer.{answer_to, reply_by, refused_value, refusal_value, ok_value, checks, IsLegal}
use Rattle.nm_rules.specs.Sound.{IsSound}
use Rattle.nm_types.specs.declared.args.Locker.{Locker}
use Rattle.nm_types.specs.declared.args.Locker.TheVariants.{New, Known}
use Rattle.nm_types.specs.declared.calls.Call.{Call}
use Rattle.nm_types.specs.declared.calls.Deed.{Deed}
use Rattle.nm_types.specs.declared.calls.Deed.TheVariants as deed
use Rattle.nm_types.specs.declared.calls.Event.{Event}
use Rattle.nm_types.specs.declared.calls.Event.TheVariants.{Asked, Ended}
use Rattle.nm_types.specs.declared.calls.Owner.{Owner}
use Rattle.nm_types.specs.declared.calls.Reply.{Reply}
use Rattle.nm_types.specs.declared.calls.ReplyValue.TheVariants as told
use Rattle.nm_types.specs.declared.calls.StateId.{StateId}
use Rattle.nm_types.specs.declared.calls.StateRef.{StateRef}
use Rattle.nm_types.specs.declared.calls.Verdict.{Verdict}
use Rattle.nm_types.specs.declared.results.Denied.{Denied}
use Rattle.nm_types.specs.declared.results.LockOutcome.TheVariants.{Locked, Denied as IsDenied}
use Rattle.nm_types.specs.declared.rows.OpenRow.{OpenRow}
use Rattle.nm_types.specs.declared.status.OpStatus.{OpStatus}
use Rattle.nm_rules.proofs.Legal.{drew_new, free_is_fresh, repeat_is_old, words-free, words-old, words-refused, sound-seen, look-seen}
use Rattle.nm_rules.proofs.Refusals.{by_refusal}
use Rattle.nm_rules.proofs.ShareLaws.{share-seen}

-- a reading of shares, where the entries stand for these tables
abbrev Reads : Past → Seen → Type 0
Reads earlier s = (owner : Owner) (file : ℕ) → share_of earlier owner file ≡ share_in owner file s.opens

either : (b : Bool) → cond b false false ≡ false
either true = refl
either false = refl

refused_anew : (earlier : Past) (caller : Option Party) (d : Deed) → makes_one earlier caller d (refused_value d) ≡ false
unfolding makes_one
refused_anew earlier caller (deed.Access _) = refl
refused_anew earlier caller (deed.Close _) = refl
refused_anew earlier caller (deed.Commit _) = refl
refused_anew earlier caller (deed.Create _) = refl
refused_anew earlier caller (deed.GetAttr _) = refl
refused_anew earlier caller (deed.Lock args) = none_new args.locker caller
  where
    none_new : (locker : Locker) (caller : Option Party) → is_newcomer locker caller (told.Lock None) ≡ false
    none_new (Known stateid lock_seqid) caller = refl
    none_new (New open_seqid stateid lock_seqid text) None = refl
    none_new (New open_seqid stateid lock_seqid text) (Some party) = refl
refused_anew earlier caller (deed.LockTest _) = refl
refused_anew earlier caller (deed.Lookup _) = refl
refused_anew earlier caller deed.LookupP = refl
refused_anew earlier None (deed.Open _) = refl
refused_anew earlier (Some party) (deed.Open _) = refl
refused_anew earlier caller (deed.OpenConfirm _) = refl
refused_anew earlier caller (deed.OpenDowngrade _) = refl
refused_anew earlier caller (deed.Read _) = refl
refused_anew earlier caller (deed.ReadDir _) = refl
refused_anew earlier caller (deed.ReleaseLockOwner _) = refl
refused_anew earlier caller (deed.Remove _) = refl
refused_anew earlier caller (deed.SetAttr _) = refl
refused_anew earlier caller (deed.Unlock _) = refl
refused_anew earlier caller (deed.Write _) = refl

denied_anew : (locker : Locker) (caller : Option Party) (o : Option Denied) → is_newcomer locker caller (told.Lock (option_map IsDenied o)) ≡ false
denied_anew (Known stateid lock_seqid) caller o = refl
denied_anew (New open_seqid stateid lock_seqid text) None o = refl
denied_anew (New open_seqid stateid lock_seqid text) (Some party) None = refl
denied_anew (New open_seqid stateid lock_seqid text) (Some party) (Some denied) = refl

refusal_anew : (earlier : Past) (its_caller : Option Party) (s : Seen) (caller : Option Party) (file : ℕ) (d : Deed) (status : OpStatus)
    → makes_one earlier its_caller d (refusal_value s caller file d status) ≡ false
unfolding makes_one
refusal_anew earlier its_caller s caller file d status =
    by_refusal (λ its_deed value. makes_one earlier its_caller its_deed value ≡ false) (refused_anew earlier its_caller)
    (λ args o. denied_anew args.locker its_caller o) (λ args o. refl) s caller file d status

none_mapped : (o : Option OpenRow) → is_none (option_map row_share o) ≡ is_none o
none_mapped None = refl
none_mapped (Some row) = refl

-- an OPEN that nothing stops draws a counter just where it opens anew
free_draws : (s : Seen) (earlier : Past) (caller : Option Party) (file : ℕ) (verdict : Verdict) (d : Deed) → IsSound s → Reads earlier s
    → first (checks s caller file verdict d) ≡ None
    → (deed_words (look s) caller file d (ok_value s caller file d)).drew ≡ makes_one earlier caller d (ok_value s caller file d)
unfolding makes_one open_value open_checks row_to_open look create_value write_value locked_stateid
free_draws s earlier caller file verdict (deed.Access _) sound reads goes = refl
free_draws s earlier caller file verdict (deed.Close _) sound reads goes = none_drawn _
  where
    none_drawn : (o : Option StateId) → (close_words (told.Close o)).drew ≡ false
    none_drawn None = refl
    none_drawn (Some id) = refl
free_draws s earlier caller file verdict (deed.Commit _) sound reads goes = refl
free_draws s earlier caller file verdict (deed.Create _) sound reads goes = refl
free_draws s earlier caller file verdict (deed.GetAttr _) sound reads goes = refl
free_draws s earlier caller file verdict (deed.Lock args) sound reads goes = by_locker caller args.locker
  where
    by_row : (its_caller : Option Party) (stateid : StateRef) (lock_seqid : ℕ) (o : Option StateId)
        → (lock_words (look s) its_caller file (record args { locker = Known stateid lock_seqid }) (told.Lock (option_map Locked o))).drew ≡ false
    by_row None stateid lock_seqid None = refl
    by_row (Some party) stateid lock_seqid None = refl
    by_row None stateid lock_seqid (Some id) = refl
    by_row (Some party) stateid lock_seqid (Some id) = refl

    by_locker : (its_caller : Option Party) (locker : Locker)
        → (lock_words (look s) its_caller file (record args { locker = locker }) (told.Lock (lock_value s (record args { locker = locker })))).drew
        ≡ is_newcomer locker its_caller (told.Lock (lock_value s (record args { locker = locker })))
    by_locker None (New open_seqid stateid lock_seqid text) = refl
    by_locker (Some party) (New open_seqid stateid lock_seqid text) = refl
    by_locker its_caller (Known stateid lock_seqid) = by_row its_caller stateid lock_seqid (changed_lock s stateid)
free_draws s earlier caller file verdict (deed.LockTest _) sound reads goes = refl
free_draws s earlier caller file verdict (deed.Lookup _) sound reads goes = refl
free_draws s earlier caller file verdict deed.LookupP sound reads goes = refl
free_draws s earlier None file verdict (deed.Open args) sound reads goes = cc
free_draws s earlier (Some party) file verdict (deed.Open args) sound reads goes =
    drew_new s.last s.opens (opener party args) (file_to_open s file args) args.access args.deny sound.rising
    (open_of (opener party args) (file_to_open s file args) s.opens) refl
    ∙ sym (none_mapped (open_of (opener party args) (file_to_open s file args) s.opens))
    ∙ ap (λ (o : Option Share). is_none o) (sym (reads (opener party args) (file_to_open s file args)))
free_draws s earlier caller file verdict (deed.OpenConfirm _) sound reads goes = none_drawn _
  where
    none_drawn : (o : Option StateId) → (confirm_words (look s) (told.OpenConfirm o)).drew ≡ false
    none_drawn None = refl
    none_drawn (Some id) = refl
free_draws s earlier caller file verdict (deed.OpenDowngrade args) sound reads goes = none_drawn _
  where
    none_drawn : (o : Option StateId) → (downgrade_words (look s) args (told.OpenDowngrade o)).drew ≡ false
    none_drawn None = refl
    none_drawn (Some id) = refl
free_draws s earlier caller file verdict (deed.Read _) sound reads goes = refl
free_draws s earlier caller file verdict (deed.ReadDir _) sound reads goes = refl
free_draws s earlier None file verdict (deed.ReleaseLockOwner _) sound reads goes = refl
free_draws s earlier (Some party) file verdict (deed.ReleaseLockOwner _) sound reads goes = refl
free_draws s earlier caller file verdict (deed.Remove _) sound reads goes = refl
free_draws s earlier caller file verdict (deed.SetAttr _) sound reads goes = refl
free_draws s earlier caller file verdict (deed.Unlock args) sound reads goes = none_drawn (changed_lock s args.stateid)
  where
    none_drawn : (o : Option StateId) → (unlock_words (look s) args (told.Unlock o)).drew ≡ false
    none_drawn None = refl
    none_drawn (Some id) = refl
free_draws s earlier caller file verdict (deed.Write _) sound reads goes = refl

-- what nothing stops acts
free_makes : (s : Seen) (call : Call) (verdict : Verdict) (b : Bool) → first (checks s call.caller call.file verdict call.deed) ≡ None
    → b ≡ cond (acts (look s) call (reply_by s call None)) b false
unfolding is_done
free_makes s call verdict b goes = rw (free_is_fresh s call verdict goes) refl

-- an event that is answered draws a counter just where it makes a stateid
event_draws : (earlier : Past) (event : Event) → (s : Seen) → look s ≡ now earlier → IsSound s → Reads earlier s
    → (words (look s) event (answer_to s event)).drew ≡ makes earlier event (answer_to s event)
unfolding answer_to words
event_draws earlier (Ended party) s same sound reads = refl
event_draws earlier (Asked call verdict) s same sound reads = by_stop (first (checks s call.caller call.file verdict call.deed)) refl
  where
    anew : Reply → Bool
    anew r = makes_one earlier call.caller call.deed r.value

    -- the entries before stand for these tables
    at_tables : (r : Reply) → cond (acts (look s) call r) (anew r) false ≡ makes earlier (Asked call verdict) r
    at_tables r = ap (λ n. cond (acts n call r) (anew r) false) same

    either_way : (b : Bool) (x : Bool) → x ≡ false → cond b x false ≡ false
    either_way true x is = is
    either_way false x is = refl

    by_stop : (x : Option Stop) → first (checks s call.caller call.file verdict call.deed) ≡ x
        → (words (look s) (Asked call verdict) (reply_by s call x)).drew ≡ makes earlier (Asked call verdict) (reply_by s call x)
    by_stop (Some (Refuse status)) refused =
        ap (λ (w : Words). w.drew) (words-refused s call verdict status)
        ∙ sym (either_way (acts (look s) call (reply_by s call (Some (Refuse status)))) _ (refusal_anew earlier call.caller s call.caller call.file call.deed status))
        ∙ at_tables (reply_by s call (Some (Refuse status)))
    by_stop (Some (Repeat kept)) repeats =
        let old = repeat_is_old s call verdict kept repeats in
        ap (λ (w : Words). w.drew) (words-old (look s) call verdict kept old)
        ∙ ap (λ b. cond (cond b (is_done kept.status) false) (anew kept) false) (sym old)
        ∙ at_tables kept
    by_stop None goes =
        ap (λ (w : Words). w.drew) (words-free s call verdict goes)
        ∙ free_draws s earlier call.caller call.file verdict call.deed sound reads goes
        ∙ free_makes s call verdict (anew (reply_by s call None)) goes
        ∙ at_tables (reply_by s call None)

-- The counter of the last stateid is how many were made.
pub last-seen : (fs : ℕ) (grants : Bool) (es : Past) → IsLegal fs grants es → (seen fs grants es).last ≡ stateids_made es
unfolding seen stateids_made after_words
last-seen fs grants [] legal = refl
last-seen fs grants (x ∷ earlier) legal =
    let s : Seen = seen fs grants earlier in
    ap (λ r. cond (words (look s) x.event r).drew (s.last + 1) s.last) legal.0
    ∙ ap (λ b. cond b (s.last + 1) s.last)
    (event_draws earlier x.event s (look-seen fs grants earlier legal.1) (sound-seen fs grants earlier legal.1) (λ owner file. share-seen fs grants earlier owner file legal.1))
    ∙ ap (λ r. cond (makes earlier x.event r) (s.last + 1) s.last) (sym legal.0)
    ∙ ap (λ n. cond (makes earlier x.event x.reply) (n + 1) n) (last-seen fs grants earlier legal.1)

-- ---- the counter that is told

both_true : (b x : Bool) → cond b x false ≡ true → (b ≡ true) × (x ≡ true)
both_true true x h = (refl, h)
both_true false x h = absurd (false≢true h)

next_told : (last : ℕ) (o : Option OpenRow) (owner : Owner) (file access deny : ℕ) → is_none o ≡ true
    → (opened_row o (last + 1) file owner access deny).counter ≡ last + 1
unfolding opened_row
next_told last None owner file access deny none = refl
next_told last (Some row) owner file access deny none = cc

free_tells : (s : Seen) (earlier : Past) (caller : Option Party) (file : ℕ) (verdict : Verdict) (d : Deed) → Reads earlier s
    → first (checks s caller file verdict d) ≡ None → makes_one earlier caller d (ok_value s caller file d) ≡ true
    → TellsCounter (ok_value s caller file d) (s.last + 1)
unfolding makes_one open_value open_checks row_to_open locked_stateid
free_tells s earlier caller file verdict (deed.Access _) reads goes anew = absurd (false≢true anew)
free_tells s earlier caller file verdict (deed.Close _) reads goes anew = absurd (false≢true anew)
free_tells s earlier caller file verdict (deed.Commit _) reads goes anew = absurd (false≢true anew)
free_tells s earlier caller file verdict (deed.Create _) reads goes anew = absurd (false≢true anew)
free_tells s earlier caller file verdict (deed.GetAttr _) reads goes anew = absurd (false≢true anew)
free_tells s earlier caller file verdict (deed.Lock args) reads goes anew = by_locker args.locker caller anew
  where
    by_locker : (locker : Locker) (its_caller : Option Party) → is_newcomer locker its_caller (told.Lock (lock_value s (record args { locker = locker }))) ≡ true
        → TellsCounter (told.Lock (lock_value s (record args { locker = locker }))) (s.last + 1)
    by_locker (Known stateid lock_seqid) its_caller it = absurd (false≢true it)
    by_locker (New open_seqid stateid lock_seqid text) None it = absurd (false≢true it)
    by_locker (New open_seqid stateid lock_seqid text) (Some party) it = refl
free_tells s earlier caller file verdict (deed.LockTest _) reads goes anew = absurd (false≢true anew)
free_tells s earlier caller file verdict (deed.Lookup _) reads goes anew = absurd (false≢true anew)
free_tells s earlier caller file verdict deed.LookupP reads goes anew = absurd (false≢true anew)
free_tells s earlier None file verdict (deed.Open args) reads goes anew = cc
free_tells s earlier (Some party) file verdict (deed.Open args) reads goes anew =
    next_told s.last (open_of (opener party args) (file_to_open s file args) s.opens) (opener party args) (file_to_open s file args) args.access args.deny
    (sym (none_mapped (open_of (opener party args) (file_to_open s file args) s.opens))
    ∙ ap (λ (o : Option Share). is_none o) (sym (reads (opener party args) (file_to_open s file args)))
    ∙ anew)
free_tells s earlier caller file verdict (deed.OpenConfirm _) reads goes anew = absurd (false≢true anew)
free_tells s earlier caller file verdict (deed.OpenDowngrade _) reads goes anew = absurd (false≢true anew)
free_tells s earlier caller file verdict (deed.Read _) reads goes anew = absurd (false≢true anew)
free_tells s earlier caller file verdict (deed.ReadDir _) reads goes anew = absurd (false≢true anew)
free_tells s earlier caller file verdict (deed.ReleaseLockOwner _) reads goes anew = absurd (false≢true anew)
free_tells s earlier caller file verdict (deed.Remove _) reads goes anew = absurd (false≢true anew)
free_tells s earlier caller file verdict (deed.SetAttr _) reads goes anew = absurd (false≢true anew)
free_tells s earlier caller file verdict (deed.Unlock _) reads goes anew = absurd (false≢true anew)
free_tells s earlier caller file verdict (deed.Write _) reads goes anew = absurd (false≢true anew)

event_tells : (earlier : Past) (event : Event) (s : Seen) → look s ≡ now earlier → Reads earlier s
    → makes earlier event (answer_to s event) ≡ true → TellsCounter (answer_to s event).value (s.last + 1)
unfolding answer_to
event_tells earlier (Ended party) s same reads made = absurd (false≢true made)
event_tells earlier (Asked call verdict) s same reads made = by_stop (first (checks s call.caller call.file verdict call.deed)) refl made
  where
    by_stop : (x : Option Stop) → first (checks s call.caller call.file verdict call.deed) ≡ x
        → makes earlier (Asked call verdict) (reply_by s call x) ≡ true → TellsCounter (reply_by s call x).value (s.last + 1)
    by_stop (Some (Refuse status)) refused it =
        absurd (false≢true (sym (refusal_anew earlier call.caller s call.caller call.file call.deed status)
        ∙ (both_true (acts (now earlier) call (reply_by s call (Some (Refuse status)))) (makes_one earlier call.caller call.deed (refusal_value s call.caller call.file call.deed status)) it).1))
    by_stop (Some (Repeat kept)) repeats it =
        absurd (false≢true (sym (ap (λ b. cond b (is_done kept.status) false) (repeat_is_old s call verdict kept repeats))
        ∙ ap (λ n. acts n call kept) same ∙ (both_true (acts (now earlier) call kept) (makes_one earlier call.caller call.deed kept.value) it).0))
    by_stop None goes it = free_tells s earlier call.caller call.file verdict call.deed reads goes
        (both_true (acts (now earlier) call (reply_by s call None)) (makes_one earlier call.caller call.deed (ok_value s call.caller call.file call.deed)) it).1

-- A stateid that is made has the number of those that were made.
pub told-seen : (fs : ℕ) (grants : Bool) (es : Past) (event : Event) → IsLegal fs grants es
    → makes es event (answer_to (seen fs grants es) event) ≡ true → TellsCounter (answer_to (seen fs grants es) event).value (stateids_made es + 1)
told-seen fs grants es event legal made =
    subst (λ n. TellsCounter (answer_to (seen fs grants es) event).value (n + 1)) (last-seen fs grants es legal)
    (event_tells es event (seen fs grants es) (look-seen fs grants es legal) (λ owner file. share-seen fs grants es owner file legal) made)
