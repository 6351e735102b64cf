-- In every legal list the open that a stateid stands for is the one that the entries tell.
use Rattle.std.proofs.Common.{◌≡◌, ℕ, ◌+◌, Bool, true, false, cond, List, Option, Some, None, refl, ap, sym, subst, ◌∙◌, arith, eqb-true}
use Rattle.std.specs.Prelude.{◌==◌, ◌&&◌, option_map}
use Rattle.std.proofs.lemmas.Bool.{and_parts}
use Rattle.nm_types.specs.Parties.{Party}
use Rattle.nm_types.specs.Owners.{same_owner}
use Rattle.nm_types.specs.Statuses.{is_done}
use Rattle.nm_rules.specs.Checks.{Stop, first}
use Rattle.nm_rules.specs.Checks.Stop.{Refuse, Repeat}
use Rattle.nm_rules.specs.LockAsks.{access_for, counter_of, lock_owner, kind_of}
use Rattle.nm_rules.specs.LockOps.{lock_checks, lock_value, new_checks, locked_stateid, changed_lock, next_lock_stateid}
use Rattle.nm_rules.specs.LockRows.{LockWord, lock_at, locks_rise, new_lock}
use Rattle.nm_rules.specs.LockRows.LockWord.{AsIs, Claimed, Cleared, ClosedWith, Released, EndedOf}
use Rattle.nm_rules.specs.Data.{write_value}
use Rattle.nm_rules.specs.Files.{create_value}
use Rattle.nm_rules.specs.Opens.{open_checks, open_value, changed_stateid, next_stateid, row_to_open, file_to_open}
use Rattle.nm_rules.specs.Past.{Now, Words, acts, words, no_words, deed_words, judgement, close_words, confirm_words, downgrade_words, lock_words, unlock_words, release_words, with_owners, opener}
use Rattle.nm_rules.specs.Seen.{Seen, look}
use Rattle.nm_rules.specs.Seqids.{OwnerWord, is_fresh}
use Rattle.nm_rules.specs.Shares.{OpenWord, open_at, open_of, opened_row}
use Rattle.nm_rules.specs.Shares.OpenWord.{Keep, Put, Drop, DropOf}
use Rattle.nm_rules.specs.Stateids.{open_named, lock_named, is_owner_confirmed, live_stop, stateid_stop}
use Rattle.nm_rules.specs.Answer.{answer_to, reply_by, refused_value, ok_value, checks}
use Rattle.nm_rules.specs.Sound.{IsSound}
use Rattle.nm_types.specs.declared.args.LockArgs.{LockArgs}
use Rattle.nm_types.specs.declared.args.Locker.{Locker}
use Rattle.nm_types.specs.declared.args.Locker.TheVariants.{New, Known}
use Rattle.nm_types.specs.declared.args.OpenArgs.{OpenArgs}
use Rattle.nm_types.specs.declared.args.OpenDowngradeArgs.{OpenDowngradeArgs}
use Rattle.nm_types.specs.declared.args.UnlockArgs.{UnlockArgs}
use Rattle.nm_types.specs.declared.calls.Call.{Call}
use Rattle.nm_types.specs.declared.calls.Deed.{Deed}
use Rattle.nm_types.specs.declared.calls.Deed.TheVariants as deed
use Rattle.nm_types.specs.declared.calls.Event.{Event}
use Rattle.nm_types.specs.declared.calls.Event.TheVariants.{Asked, Ended}
use Rattle.nm_types.specs.declared.calls.Owner.{Owner}
use Rattle.nm_types.specs.declared.calls.Reply.{Reply}
use Rattle.nm_types.specs.declared.calls.ReplyValue.TheVariants as told
use Rattle.nm_types.specs.declared.calls.StateId.{StateId}
use Rattle.nm_types.specs.declared.calls.StateRef.{StateRef}
use Rattle.nm_types.specs.declared.calls.StateRef.TheVariants.{Zeros, Ones, Named}
use Rattle.nm_types.specs.declared.calls.Verdict.{Verdict}
use Rattle.nm_types.specs.declared.results.Denied.{Denied}
use Rattle.nm_types.specs.declared.results.LockOutcome.TheVariants.{Locked, Denied as IsDenied}
use Rattle.nm_types.specs.declared.rows.LockRow.{LockRow}
use Rattle.nm_types.specs.declared.rows.OpenRow.{OpenRow}
use Rattle.nm_types.specs.declared.status.OpStatus.{OpStatus}
use Rattle.nm_types.specs.declared.status.OpStatus.TheVariants.{BadStateId}
use Rattle.nm_rules.proofs.Apart.{open_of-in}
use Rattle.nm_rules.proofs.Classes.{IsFree, all_free}
use Rattle.nm_rules.proofs.Legal.{free_is_fresh, repeat_is_old, words-free, words-old, words-refused, named_is_live}
use Rattle.nm_rules.proofs.LockRowLaws.{lock_at-past}
use Rattle.nm_rules.proofs.OpenRows.{open_at-past, open_at-in, in-open_at}
use Rattle.nm_rules.proofs.OwnerLemmas.{same_owner-Decides}
use Rattle.nm_rules.proofs.Refusals.{by_refusal}
use Rattle.nm_rules.proofs.RowLimit.{named_lock_at}
use Rattle.nm_laws.specs.DataReadings.{StateIdSaid, deed_said, entry_said}
use Rattle.nm_laws.specs.DataReadings.StateIdSaid.{NothingSaid, ForOpen, ForLocks}

-- ---- each word fits what is said and what stands

-- What is put is the open that is there, changed, or one that is said to be an owner's and has the next counter.
abbrev pub PutFits : StateIdSaid → ℕ → OpenRow → Option OpenRow → Type 0
PutFits said last row None = (said ≡ ForOpen row.counter row.owner) × (row.counter ≡ last + 1)
PutFits said last row (Some old) = (row.owner ≡ old.owner) × (row.file ≡ old.file)

abbrev pub OpensFit : StateIdSaid → Now → OpenWord → Type 0
OpensFit said n Keep = Unit {0}
OpensFit said n (Put row) = PutFits said n.last row (n.open_by row.counter)
OpensFit said n (Drop counter) = Unit {0}
OpensFit said n (DropOf party) = Unit {0}

-- a lock is for an open that is there, of the same file
abbrev pub IsByOpen : LockRow → Option OpenRow → Type 0
IsByOpen row None = ⊥
IsByOpen row (Some opened) = opened.file ≡ row.file

abbrev pub ClaimFits : StateIdSaid → Now → LockRow → Option LockRow → Type 0
ClaimFits said n row None = (said ≡ ForLocks row.counter row.opened) × IsByOpen row (n.open_by row.opened)
ClaimFits said n row (Some old) = (row.opened ≡ old.opened) × (row.file ≡ old.file)

abbrev pub LocksFit : StateIdSaid → Now → LockWord → Type 0
LocksFit said n AsIs = Unit {0}
LocksFit said n (Claimed row kind from to) = ClaimFits said n row (lock_at row.counter n.locks)
LocksFit said n (Cleared row from to) = ClaimFits said n row (lock_at row.counter n.locks)
LocksFit said n (ClosedWith counter) = Unit {0}
LocksFit said n (Released owner) = Unit {0}
LocksFit said n (EndedOf party) = Unit {0}

-- a stateid that is said to be an owner's is a new one, or that of an open of its
abbrev pub IsOwners : Owner → ℕ → ℕ → Option OpenRow → Type 0
IsOwners owner counter last None = counter ≡ last + 1
IsOwners owner counter last (Some old) = old.owner ≡ owner

abbrev pub SaidFits : StateIdSaid → Now → Bool → Type 0
SaidFits NothingSaid n drew = Unit {0}
SaidFits (ForOpen counter owner) n drew = IsOwners owner counter n.last (n.open_by counter)
SaidFits (ForLocks counter opened) n drew = (counter ≡ n.last + 1) × (drew ≡ true)

pub record AllFit (said : StateIdSaid) (n : Now) (w : Words) : Type 0 where
  pub opens : OpensFit said n w.opens
  pub locks : LocksFit said n w.locks
  pub fits : SaidFits said n w.drew

-- the counters of lock stateids rise up to the last
abbrev pub rises_to : Seen → Type 0
rises_to s = locks_rise 0 s.last s.locks ≡ true

-- ---- each operation

nothing_fits : (n : Now) → AllFit NothingSaid n no_words
nothing_fits n = record { opens = tt; locks = tt; fits = tt }

-- the counter that an OPEN tells is the next, or that of an open of its owner
counter_told : (s : Seen) (owner : Owner) (file access deny : ℕ) → IsSound s → (o : Option OpenRow) → open_of owner file s.opens ≡ o
    → (q : Option OpenRow) → open_at (opened_row o (s.last + 1) file owner access deny).counter s.opens ≡ q
    → IsOwners owner (opened_row o (s.last + 1) file owner access deny).counter s.last q
unfolding opened_row
counter_told s owner file access deny sound None none None absent = refl
counter_told s owner file access deny sound None none (Some old) there = absurd (never (sym (open_at-past 0 s.last s.opens (s.last + 1) sound.rising (omega arith)) ∙ there))
  where
    never : None ≡ Some old → ⊥
    never e = cc
counter_told s owner file access deny sound (Some row) found q there =
    by_row q (sym there ∙ (in-open_at 0 s.last s.opens row sound.rising (open_of-in owner file s.opens row found).0).0)
  where
    its_owner : owner ≡ row.owner
    its_owner = (same_owner-Decides owner row.owner).0 (and_parts (row.file == file) (same_owner owner row.owner) (open_of-in owner file s.opens row found).1).1

    some_same : {a b : OpenRow} → Some a ≡ Some b → a ≡ b
    some_same e = cc

    by_row : (o : Option OpenRow) → o ≡ Some row → IsOwners owner row.counter s.last o
    by_row None e = cc
    by_row (Some old) e = ap (λ (r : OpenRow). r.owner) (some_same e) ∙ sym its_owner

put_told : (s : Seen) (counter : ℕ) (owner : Owner) (file access deny : ℕ) (q : Option OpenRow) → open_at counter s.opens ≡ q → IsOwners owner counter s.last q
    → PutFits (ForOpen counter owner) s.last (opened_row q counter file owner access deny) (open_at (opened_row q counter file owner access deny).counter s.opens)
unfolding opened_row
put_told s counter owner file access deny None absent is = rw absent (refl, is)
put_told s counter owner file access deny (Some old) there is =
    rw (ap (λ k. open_at k s.opens) (open_at-in counter s.opens old there).1 ∙ there) (refl, refl)

open_fit : (s : Seen) (party : Party) (file : ℕ) (args : OpenArgs) → IsSound s
    → AllFit (deed_said (deed.Open args) (Some party) (ok_value s (Some party) file (deed.Open args))) (look s)
    (deed_words (look s) (Some party) file (deed.Open args) (ok_value s (Some party) file (deed.Open args)))
unfolding open_value row_to_open look
open_fit s party file args sound =
    let owner : Owner = opener party args in
    let counter : ℕ = (opened_row (open_of owner (file_to_open s file args) s.opens) (s.last + 1) (file_to_open s file args) owner args.access args.deny).counter in
    let is : IsOwners owner counter s.last (open_at counter s.opens) =
    counter_told s owner (file_to_open s file args) args.access args.deny sound (open_of owner (file_to_open s file args) s.opens) refl (open_at counter s.opens) refl in
    record {
      opens = put_told s counter owner (file_to_open s file args) args.access args.deny (open_at counter s.opens) refl is;
      locks = tt;
      fits = is;
    }

close_fit : (n : Now) (o : Option StateId) → AllFit NothingSaid n (close_words (told.Close o))
close_fit n None = nothing_fits n
close_fit n (Some id) = record { opens = tt; locks = tt; fits = tt }

confirm_fit : (s : Seen) (o : Option OpenRow) → ((row : OpenRow) → o ≡ Some row → open_at row.counter s.opens ≡ Some row)
    → AllFit NothingSaid (look s) (confirm_words (look s) (told.OpenConfirm (option_map (next_stateid s.fs) o)))
unfolding look
confirm_fit s None live = nothing_fits (look s)
confirm_fit s (Some row) live = record {
  opens = rw (live row refl) (rw (live row refl) (refl, refl));
  locks = tt;
  fits = tt;
}

downgrade_fit : (s : Seen) (args : OpenDowngradeArgs) (o : Option OpenRow) → ((row : OpenRow) → o ≡ Some row → open_at row.counter s.opens ≡ Some row)
    → AllFit NothingSaid (look s) (downgrade_words (look s) args (told.OpenDowngrade (option_map (next_stateid s.fs) o)))
unfolding look
downgrade_fit s args None live = nothing_fits (look s)
downgrade_fit s args (Some row) live = record {
  opens = rw (live row refl) (rw (live row refl) (refl, refl));
  locks = tt;
  fits = tt;
}

-- ---- locks

-- an open whose stateid nothing stops is of the current file
live_file : (s : Seen) (file : ℕ) (stateid : StateRef) (access : ℕ) (row : OpenRow) → live_stop s file stateid access (Some row) ≡ None → row.file ≡ file
unfolding live_stop stateid_stop
live_file s file stateid access row goes = by_tests (is_owner_confirmed s row) (row.file == file) refl _ goes
  where
    by_tests : (b c : Bool) → (row.file == file) ≡ c → (o : Option OpStatus) → cond (b && c) o (Some BadStateId) ≡ None → row.file ≡ file
    by_tests true true same o goes = eqb-true row.file file same
    by_tests true false other o goes = cc
    by_tests false c its o goes = cc

-- a live stateid that nothing stops is of an open of the file
live_open : (s : Seen) (file : ℕ) (stateid : StateRef) (access : ℕ) (row : LockRow) → row.file ≡ file → row.opened ≡ counter_of stateid
    → live_stop s file stateid access (open_named s stateid) ≡ None → IsByOpen row (open_at row.opened s.opens)
unfolding open_named live_stop counter_of
live_open s file Zeros access row its opened goes = cc
live_open s file Ones access row its opened goes = cc
live_open s file (Named id) access row its opened goes = rw opened (by_fs (id.fs == s.fs) goes)
  where
    by_open : (o : Option OpenRow) → live_stop s file (Named id) access o ≡ None → IsByOpen row o
    by_open None goes = cc
    by_open (Some opened_at) goes = live_file s file (Named id) access opened_at goes ∙ sym its

    by_fs : (b : Bool) → live_stop s file (Named id) access (cond b (open_at id.counter s.opens) None) ≡ None → IsByOpen row (open_at id.counter s.opens)
    by_fs true goes = by_open (open_at id.counter s.opens) goes
    by_fs false goes = cc

lock_fit : (s : Seen) (caller : Option Party) (file : ℕ) (args : LockArgs) (verdict : Verdict) (its : Locker) → rises_to s → first (lock_checks s caller file args its verdict) ≡ None
    → AllFit (deed_said (deed.Lock (record args { locker = its })) caller (told.Lock (lock_value s (record args { locker = its })))) (look s)
    (lock_words (look s) caller file (record args { locker = its }) (told.Lock (lock_value s (record args { locker = its }))))
unfolding lock_checks locked_stateid changed_lock look
lock_fit s None file args verdict (New open_seqid stateid lock_seqid text) rising goes = cc
lock_fit s (Some party) file args verdict (New open_seqid stateid lock_seqid text) rising goes =
    let free : IsFree (new_checks s party file args open_seqid stateid lock_seqid text verdict) = all_free _ goes in
    record {
      opens = tt;
      locks = rw (lock_at-past 0 s.last s.locks (s.last + 1) rising (omega arith))
          (refl, live_open s file stateid (access_for (kind_of args.kind)) (new_lock (s.last + 1) (lock_owner party text) (counter_of stateid) file) refl refl free.stale);
      fits = (refl, refl);
    }
lock_fit s caller file args verdict (Known stateid lock_seqid) rising goes = by_row (lock_named s stateid) refl
  where
    by_row : (o : Option LockRow) → lock_named s stateid ≡ o
        → AllFit (deed_said (deed.Lock (record args { locker = Known stateid lock_seqid })) caller (told.Lock (option_map Locked (option_map (next_lock_stateid s.fs) o)))) (look s)
        (lock_words (look s) caller file (record args { locker = Known stateid lock_seqid }) (told.Lock (option_map Locked (option_map (next_lock_stateid s.fs) o))))
    by_row None none = record { opens = tt; locks = tt; fits = tt }
    by_row (Some row) found =
        let at : lock_at row.counter s.locks ≡ Some row = (named_lock_at s stateid row found).0 in
        record { opens = tt; locks = rw at (rw at (refl, refl)); fits = tt }

unlock_fit : (s : Seen) (args : UnlockArgs) (o : Option LockRow) → lock_named s args.stateid ≡ o
    → AllFit NothingSaid (look s) (unlock_words (look s) args (told.Unlock (option_map (next_lock_stateid s.fs) o)))
unfolding look
unlock_fit s args None none = nothing_fits (look s)
unlock_fit s args (Some row) found =
    let at : lock_at row.counter s.locks ≡ Some row = (named_lock_at s args.stateid row found).0 in
    record { opens = tt; locks = rw at (rw at (refl, refl)); fits = tt }

release_fit : (n : Now) (caller : Option Party) (text : List ℕ) → AllFit NothingSaid n (release_words caller text (told.ReleaseLockOwner true))
release_fit n None text = nothing_fits n
release_fit n (Some party) text = record { opens = tt; locks = tt; fits = tt }

goes_fit : (s : Seen) (caller : Option Party) (file : ℕ) (verdict : Verdict) (d : Deed) → IsSound s → rises_to s → first (checks s caller file verdict d) ≡ None
    → AllFit (deed_said d caller (ok_value s caller file d)) (look s) (deed_words (look s) caller file d (ok_value s caller file d))
unfolding create_value write_value changed_stateid changed_lock open_checks
goes_fit s caller file verdict (deed.Access _) sound rising goes = nothing_fits (look s)
goes_fit s caller file verdict (deed.Close args) sound rising goes = close_fit (look s) _
goes_fit s caller file verdict (deed.Commit _) sound rising goes = nothing_fits (look s)
goes_fit s caller file verdict (deed.Create args) sound rising goes = record { opens = tt; locks = tt; fits = tt }
goes_fit s caller file verdict (deed.GetAttr _) sound rising goes = nothing_fits (look s)
goes_fit s caller file verdict (deed.Lock args) sound rising goes = lock_fit s caller file args verdict args.locker rising goes
goes_fit s caller file verdict (deed.LockTest _) sound rising goes = nothing_fits (look s)
goes_fit s caller file verdict (deed.Lookup _) sound rising goes = nothing_fits (look s)
goes_fit s caller file verdict deed.LookupP sound rising goes = nothing_fits (look s)
goes_fit s None file verdict (deed.Open args) sound rising goes = cc
goes_fit s (Some party) file verdict (deed.Open args) sound rising goes = open_fit s party file args sound
goes_fit s caller file verdict (deed.OpenConfirm args) sound rising goes = confirm_fit s (open_named s args.stateid) (named_is_live s args.stateid)
goes_fit s caller file verdict (deed.OpenDowngrade args) sound rising goes = downgrade_fit s args (open_named s args.stateid) (named_is_live s args.stateid)
goes_fit s caller file verdict (deed.Read _) sound rising goes = nothing_fits (look s)
goes_fit s caller file verdict (deed.ReadDir _) sound rising goes = nothing_fits (look s)
goes_fit s caller file verdict (deed.ReleaseLockOwner args) sound rising goes = release_fit (look s) caller args.owner
goes_fit s caller file verdict (deed.Remove _) sound rising goes = record { opens = tt; locks = tt; fits = tt }
goes_fit s caller file verdict (deed.SetAttr args) sound rising goes = record { opens = tt; locks = tt; fits = tt }
goes_fit s caller file verdict (deed.Unlock args) sound rising goes = unlock_fit s args (lock_named s args.stateid) refl
goes_fit s caller file verdict (deed.Write args) sound rising goes = record { opens = tt; locks = tt; fits = tt }

-- ---- each entry

either_way : (b : Bool) → cond b NothingSaid NothingSaid ≡ NothingSaid
either_way true = refl
either_way false = refl

value_said : (caller : Option Party) (d : Deed) (b : Bool) → cond b (deed_said d caller (refused_value d)) NothingSaid ≡ NothingSaid
value_said caller (deed.Access _) b = either_way b
value_said caller (deed.Close _) b = either_way b
value_said caller (deed.Commit _) b = either_way b
value_said caller (deed.Create _) b = either_way b
value_said caller (deed.GetAttr _) b = either_way b
value_said caller (deed.Lock _) b = either_way b
value_said caller (deed.LockTest _) b = either_way b
value_said caller (deed.Lookup _) b = either_way b
value_said caller deed.LookupP b = either_way b
value_said None (deed.Open _) b = either_way b
value_said (Some party) (deed.Open _) b = either_way b
value_said caller (deed.OpenConfirm _) b = either_way b
value_said caller (deed.OpenDowngrade _) b = either_way b
value_said caller (deed.Read _) b = either_way b
value_said caller (deed.ReadDir _) b = either_way b
value_said caller (deed.ReleaseLockOwner _) b = either_way b
value_said caller (deed.Remove _) b = either_way b
value_said caller (deed.SetAttr _) b = either_way b
value_said caller (deed.Unlock _) b = either_way b
value_said caller (deed.Write _) b = either_way b

denied_said : (caller : Option Party) (args : LockArgs) (o : Option Denied) (b : Bool)
    → cond b (deed_said (deed.Lock args) caller (told.Lock (option_map IsDenied o))) NothingSaid ≡ NothingSaid
denied_said caller args None b = either_way b
denied_said caller args (Some denied) b = either_way b

refused_said : (n : Now) (s : Seen) (call : Call) (verdict : Verdict) (status : OpStatus)
    → entry_said n (Asked call verdict) (reply_by s call (Some (Refuse status))) ≡ NothingSaid
refused_said n s call verdict status =
    by_refusal (λ d value. (b : Bool) → cond b (deed_said d call.caller value) NothingSaid ≡ NothingSaid)
    (value_said call.caller) (denied_said call.caller) (λ args o b. either_way b) s call.caller call.file call.deed status
    (acts n call (reply_by s call (Some (Refuse status))))

-- the words of owners have no part in it
fit_with : (said : StateIdSaid) (n : Now) (w : Words) (word start : OwnerWord) → AllFit said n w → AllFit said n (with_owners w word start)
fit_with said n w word start fit = record { opens = fit.opens; locks = fit.locks; fits = fit.fits }

free_said : (s : Seen) (call : Call) (verdict : Verdict) → first (checks s call.caller call.file verdict call.deed) ≡ None
    → entry_said (look s) (Asked call verdict) (reply_by s call None) ≡ deed_said call.deed call.caller (ok_value s call.caller call.file call.deed)
unfolding is_done
free_said s call verdict goes = rw (free_is_fresh s call verdict goes) refl

pub entry_fit : (s : Seen) (event : Event) → IsSound s → rises_to s → AllFit (entry_said (look s) event (answer_to s event)) (look s) (words (look s) event (answer_to s event))
unfolding answer_to words
entry_fit s (Ended party) sound rising = record { opens = tt; locks = tt; fits = tt }
entry_fit s (Asked call verdict) sound rising = by_stop (first (checks s call.caller call.file verdict call.deed)) refl
  where
    old_said : (r : Reply) → is_fresh (judgement (look s) call) ≡ false → entry_said (look s) (Asked call verdict) r ≡ NothingSaid
    old_said r old = rw old refl

    by_stop : (x : Option Stop) → first (checks s call.caller call.file verdict call.deed) ≡ x
        → AllFit (entry_said (look s) (Asked call verdict) (reply_by s call x)) (look s) (words (look s) (Asked call verdict) (reply_by s call x))
    by_stop (Some (Refuse status)) refused =
        subst (λ said. AllFit said (look s) (words (look s) (Asked call verdict) (reply_by s call (Some (Refuse status))))) (sym (refused_said (look s) s call verdict status))
        (subst (AllFit NothingSaid (look s)) (sym (words-refused s call verdict status)) (fit_with NothingSaid (look s) no_words _ _ (nothing_fits (look s))))
    by_stop (Some (Repeat kept)) repeats =
        let old = repeat_is_old s call verdict kept repeats in
        subst (λ said. AllFit said (look s) (words (look s) (Asked call verdict) kept)) (sym (old_said kept old))
        (subst (AllFit NothingSaid (look s)) (sym (words-old (look s) call verdict kept old)) (nothing_fits (look s)))
    by_stop None goes =
        subst (λ said. AllFit said (look s) (words (look s) (Asked call verdict) (reply_by s call None))) (sym (free_said s call verdict goes))
        (subst (AllFit (deed_said call.deed call.caller (ok_value s call.caller call.file call.deed)) (look s)) (sym (words-free s call verdict goes))
        (fit_with _ (look s) _ _ _ (goes_fit s call.caller call.file verdict call.deed sound rising goes)))
