-- What an event that is answered does to stateids, and what its words of change leave of their tables.
use Rattle.std.proofs.Common.{◌≡◌, ℕ, ◌+◌, Bool, true, false, cond, List, Option, Some, None, refl, ap, sym, subst, ◌∙◌, arith}
use Rattle.std.specs.Prelude.{◌==◌, ◌&&◌, not, is_none, option_map}
use Rattle.std.specs.Option.{option_or}
use Rattle.std.proofs.lemmas.Bool.{true≢false, or_parts}
use Rattle.std.proofs.lemmas.Bool.Decides.{nat_tests}
use Rattle.nm_types.specs.Parties.{Party, same_party}
use Rattle.nm_types.specs.Statuses.{is_done}
use Rattle.nm_rules.specs.Answer.{answer_to, reply_by, refused_value, refusal_value, ok_value, checks}
use Rattle.nm_rules.specs.Checks.{Stop, first, refuse_if}
use Rattle.nm_rules.specs.Checks.Stop.{Refuse, Repeat}
use Rattle.nm_rules.specs.Data.{write_value}
use Rattle.nm_rules.specs.Files.{create_value}
use Rattle.nm_rules.specs.LockAsks.{kind_of, access_for, lock_owner, counter_of}
use Rattle.nm_rules.specs.LockOps.{lock_checks, new_checks, newcomer_stop, lock_value, locked_stateid, changed_lock, next_lock_stateid}
use Rattle.nm_rules.specs.LockRows.{lock_at, lock_of, locks_after, new_lock, put_lock, renewed_lock}
use Rattle.nm_rules.specs.LockRows.LockWord.{AsIs, ClosedWith, Released, EndedOf}
use Rattle.nm_rules.specs.Opens.{open_checks, open_value, row_to_open, file_to_open, changed_stateid, next_stateid}
use Rattle.nm_rules.specs.Past.{Words, acts, words, with_owners, deed_words, close_words, confirm_words, downgrade_words, lock_words, unlock_words, opener}
use Rattle.nm_rules.specs.Seen.{Seen, look}
use Rattle.nm_rules.specs.Seqids.{OwnerWord}
use Rattle.nm_rules.specs.Shares.{next_seqid, open_at, open_of, opened_row, renewed_row, narrowed_row, put_if}
use Rattle.nm_rules.specs.Shares.OpenWord.{Keep, Put, Drop, DropOf}
use Rattle.nm_rules.specs.Sound.{IsSound}
use Rattle.nm_rules.specs.Stateids.{open_named, lock_named, resolved, unresolved_at, live_stop, stateid_stop}
use Rattle.nm_types.specs.declared.args.CloseArgs.{CloseArgs}
use Rattle.nm_types.specs.declared.args.LockArgs.{LockArgs}
use Rattle.nm_types.specs.declared.args.Locker.{Locker}
use Rattle.nm_types.specs.declared.args.Locker.TheVariants.{New, Known}
use Rattle.nm_types.specs.declared.args.OpenDowngradeArgs.{OpenDowngradeArgs}
use Rattle.nm_types.specs.declared.args.UnlockArgs.{UnlockArgs}
use Rattle.nm_types.specs.declared.calls.Call.{Call}
use Rattle.nm_types.specs.declared.calls.Deed.{Deed}
use Rattle.nm_types.specs.declared.calls.Deed.TheVariants as deed
use Rattle.nm_types.specs.declared.calls.Event.{Event}
use Rattle.nm_types.specs.declared.calls.Event.TheVariants.{Asked, Ended}
use Rattle.nm_types.specs.declared.calls.Owner.{Owner}
use Rattle.nm_types.specs.declared.calls.OwnerKind.TheVariants as kind
use Rattle.nm_types.specs.declared.calls.ReplyValue.TheVariants as told
use Rattle.nm_types.specs.declared.calls.StateRef.{StateRef}
use Rattle.nm_types.specs.declared.calls.StateRef.TheVariants.{Zeros, Ones, Named}
use Rattle.nm_types.specs.declared.calls.Verdict.{Verdict}
use Rattle.nm_types.specs.declared.results.Denied.{Denied}
use Rattle.nm_types.specs.declared.results.LockOutcome.TheVariants.{Locked, Denied as IsDenied}
use Rattle.nm_types.specs.declared.rows.LockRow.{LockRow}
use Rattle.nm_types.specs.declared.rows.OpenRow.{OpenRow}
use Rattle.nm_types.specs.declared.status.OpStatus.{OpStatus}
use Rattle.nm_types.specs.declared.status.OpStatus.TheVariants.{BadStateId, BadSeqid}
use Rattle.nm_rules.proofs.Classes.{IsFree, all_free, or_none, refusal_none, refuse_if-none}
use Rattle.nm_rules.proofs.Legal.{same_row, free_is_fresh, repeat_is_old, words-free, words-old, words-refused}
use Rattle.nm_rules.proofs.OwnerLemmas.{same_party-Decides}
use Rattle.nm_rules.proofs.OpenRows.{open_at-in}
use Rattle.nm_rules.proofs.Refusals.{by_refusal}
use Rattle.nm_rules.proofs.RowLimit.{named_lock_at}
use Rattle.nm_laws.specs.StateidNow.{StateidWord, stateid_word, event_word}
use Rattle.nm_laws.specs.StateidNow.StateidWord.{Nothing, OpenedFor, RenewedAt, ClosedAt, LockedFor, RelockedAt, ReleasedFor, EndedFor}

-- ---- what words of change leave, by what the entry did

pub record Opens (s : Seen) (owner : Owner) (file : ℕ) (w : Words) : Type 0 where
  pub access : ℕ
  pub deny : ℕ
  pub puts : w.opens ≡ Put (opened_row (open_of owner file s.opens) (s.last + 1) file owner access deny)
  pub rest : w.locks ≡ AsIs

pub record Renews (s : Seen) (k : ℕ) (w : Words) : Type 0 where
  pub old : OpenRow
  pub new : OpenRow
  pub live : open_at k s.opens ≡ Some old
  pub counter : new.counter ≡ old.counter
  pub seqid : new.seqid ≡ next_seqid old.seqid
  pub owner : new.owner ≡ old.owner
  pub file : new.file ≡ old.file
  pub puts : w.opens ≡ Put new
  pub rest : w.locks ≡ AsIs

pub record Locks (s : Seen) (its : Owner) (its_file : ℕ) (counter : ℕ) (w : Words) : Type 0 where
  pub opened : OpenRow
  pub live : open_at counter s.opens ≡ Some opened
  pub file : opened.file ≡ its_file
  pub party : opened.owner.instance ≡ its.instance
  pub fresh : lock_of its its_file s.locks ≡ None
  pub rest : w.opens ≡ Keep
  pub puts : locks_after w.locks s.locks ≡ put_lock (new_lock (s.last + 1) its counter its_file) s.locks

pub record Relocks (s : Seen) (k : ℕ) (w : Words) : Type 0 where
  pub old : LockRow
  pub live : lock_at k s.locks ≡ Some old
  pub rest : w.opens ≡ Keep
  pub puts : locks_after w.locks s.locks ≡ put_lock (renewed_lock old) s.locks

abbrev pub Leaves : Seen → StateidWord → Words → Type 0
Leaves s Nothing w = (w.opens ≡ Keep) × (w.locks ≡ AsIs)
Leaves s (OpenedFor owner file) w = Opens s owner file w
Leaves s (RenewedAt k) w = Renews s k w
Leaves s (ClosedAt k) w = (w.opens ≡ Drop k) × (w.locks ≡ ClosedWith k)
Leaves s (LockedFor owner file counter) w = Locks s owner file counter w
Leaves s (RelockedAt k) w = Relocks s k w
Leaves s (ReleasedFor owner) w = (owner.kind ≡ kind.Locks) × (w.opens ≡ Keep) × (w.locks ≡ Released owner)
Leaves s (EndedFor party) w = (w.opens ≡ DropOf party) × (w.locks ≡ EndedOf party)

-- ---- each operation

-- a live open has the counter that its stateid names
named_open_at : (s : Seen) (stateid : StateRef) (row : OpenRow) → open_named s stateid ≡ Some row
    → (open_at (counter_of stateid) s.opens ≡ Some row) × (row.counter ≡ counter_of stateid)
unfolding open_named counter_of
named_open_at s Zeros row found = cc
named_open_at s Ones row found = cc
named_open_at s (Named id) row found = by_fs (id.fs == s.fs) found
  where
    by_fs : (b : Bool) → cond b (open_at id.counter s.opens) None ≡ Some row → (open_at id.counter s.opens ≡ Some row) × (row.counter ≡ id.counter)
    by_fs true here = (here, (open_at-in id.counter s.opens row here).1)
    by_fs false elsewhere = cc

close_leaves : (s : Seen) (args : CloseArgs) (o : Option OpenRow) → open_named s args.stateid ≡ o
    → Leaves s (stateid_word None 0 (deed.Close args) (told.Close (option_map (next_stateid s.fs) o))) (close_words (told.Close (option_map (next_stateid s.fs) o)))
unfolding stateid_word
close_leaves s args None named = (refl, refl)
close_leaves s args (Some row) named =
    let its : row.counter ≡ counter_of args.stateid = (named_open_at s args.stateid row named).1 in
    (ap Drop its, ap ClosedWith its)

-- a put of the row that is there, as it is changed
put_leaves : (s : Seen) (k : ℕ) (old : OpenRow) (change : OpenRow → OpenRow) (w : Words) → open_at k s.opens ≡ Some old → old.counter ≡ k
    → (change old).counter ≡ old.counter → (change old).seqid ≡ next_seqid old.seqid → (change old).owner ≡ old.owner → (change old).file ≡ old.file
    → w.opens ≡ put_if (option_map change (open_at old.counter s.opens)) → w.locks ≡ AsIs → Renews s k w
put_leaves s k old change w live at counter seqid owner file puts rest = record {
  old = old;
  new = change old;
  live = live;
  counter = counter;
  seqid = seqid;
  owner = owner;
  file = file;
  puts = puts ∙ ap (λ o. put_if (option_map change o)) (ap (λ n. open_at n s.opens) at ∙ live);
  rest = rest;
}

confirm_leaves : (s : Seen) (caller : Option Party) (file : ℕ) (stateid : StateRef) (seqid : ℕ) (o : Option OpenRow) → open_named s stateid ≡ o
    → Leaves s (stateid_word caller file (deed.OpenConfirm (record { stateid = stateid; seqid = seqid })) (told.OpenConfirm (option_map (next_stateid s.fs) o)))
    (confirm_words (look s) (told.OpenConfirm (option_map (next_stateid s.fs) o)))
unfolding stateid_word look
confirm_leaves s caller file stateid seqid None named = (refl, refl)
confirm_leaves s caller file stateid seqid (Some row) named =
    let its = named_open_at s stateid row named in
    put_leaves s (counter_of stateid) row renewed_row _ its.0 its.1 refl refl refl refl refl refl

downgrade_leaves : (s : Seen) (caller : Option Party) (file : ℕ) (args : OpenDowngradeArgs) (o : Option OpenRow) → open_named s args.stateid ≡ o
    → Leaves s (stateid_word caller file (deed.OpenDowngrade args) (told.OpenDowngrade (option_map (next_stateid s.fs) o)))
    (downgrade_words (look s) args (told.OpenDowngrade (option_map (next_stateid s.fs) o)))
unfolding stateid_word look
downgrade_leaves s caller file args None named = (refl, refl)
downgrade_leaves s caller file args (Some row) named =
    let its = named_open_at s args.stateid row named in
    put_leaves s (counter_of args.stateid) row (narrowed_row args.access args.deny) _ its.0 its.1 refl refl refl refl refl refl

unlock_leaves : (s : Seen) (caller : Option Party) (file : ℕ) (args : UnlockArgs) (o : Option LockRow) → lock_named s args.stateid ≡ o
    → Leaves s (stateid_word caller file (deed.Unlock args) (told.Unlock (option_map (next_lock_stateid s.fs) o)))
    (unlock_words (look s) args (told.Unlock (option_map (next_lock_stateid s.fs) o)))
unfolding stateid_word look locks_after
unlock_leaves s caller file args None named = (refl, refl)
unlock_leaves s caller file args (Some row) named =
    let at = named_lock_at s args.stateid row named in
    record { old = row; live = ap (λ k. lock_at k s.locks) at.1 ∙ at.0; rest = refl; puts = rw at.0 refl }

known_leaves : (s : Seen) (caller : Option Party) (file : ℕ) (args : LockArgs) (stateid : StateRef) (lock_seqid : ℕ) (o : Option LockRow) → lock_named s stateid ≡ o
    → Leaves s (stateid_word caller file (deed.Lock (record args { locker = Known stateid lock_seqid })) (told.Lock (option_map Locked (option_map (next_lock_stateid s.fs) o))))
    (lock_words (look s) caller file (record args { locker = Known stateid lock_seqid }) (told.Lock (option_map Locked (option_map (next_lock_stateid s.fs) o))))
unfolding stateid_word look locks_after
known_leaves s caller file args stateid lock_seqid None named = (refl, refl)
known_leaves s caller file args stateid lock_seqid (Some row) named =
    let at = named_lock_at s stateid row named in
    record { old = row; live = ap (λ k. lock_at k s.locks) at.1 ∙ at.0; rest = refl; puts = rw at.0 refl }

-- ---- LOCK of a new lock owner

none_of : (o : Option LockRow) → not (is_none o) ≡ false → o ≡ None
none_of None h = refl
none_of (Some row) h = absurd (true≢false h)

-- the open that isn't refused is live, and on this file
record Live (s : Seen) (its_file : ℕ) (stateid : StateRef) : Type 0 where
  row : OpenRow
  named : open_named s stateid ≡ Some row
  file : row.file ≡ its_file

and_right : (a b : Bool) (status : Option OpStatus) → cond (a && b) status (Some BadStateId) ≡ None → b ≡ true
and_right true true status goes = refl
and_right true false status goes = cc
and_right false b status goes = cc

live_of : (s : Seen) (file : ℕ) (stateid : StateRef) (access : ℕ) (o : Option OpenRow) → open_named s stateid ≡ o → live_stop s file stateid access o ≡ None
    → Live s file stateid
unfolding live_stop stateid_stop
live_of s file stateid access None named goes = cc
live_of s file stateid access (Some row) named goes = record { row = row; named = named; file = grind (arith, nat_tests, and_right _ (row.file == file) _ goes) }

live_resolved : (s : Seen) (stateid : StateRef) (row : OpenRow) → open_named s stateid ≡ Some row → resolved s stateid ≡ Some row
unfolding open_named resolved
live_resolved s Zeros row named = cc
live_resolved s Ones row named = cc
live_resolved s (Named id) row named = by_fs (id.fs == s.fs) named
  where
    by_fs : (b : Bool) → cond b (open_at id.counter s.opens) None ≡ Some row
        → cond b (option_or (open_at id.counter s.opens) (open_at id.counter s.closed)) None ≡ Some row
    by_fs true here = rw here refl
    by_fs false elsewhere = cc

own_is : (b : Bool) → refuse_if (not b) BadStateId ≡ None → b ≡ true
own_is true goes = refl
own_is false goes = cc

own_of : (s : Seen) (party : Party) (stateid : StateRef) (row : OpenRow) → open_named s stateid ≡ Some row
    → unresolved_at (Some party) (resolved s stateid) ≡ None → row.owner.instance ≡ party
own_of s party stateid row named goes =
    let own : unresolved_at (Some party) (Some row) ≡ None = ap (unresolved_at (Some party)) (sym (live_resolved s stateid row named)) ∙ goes in
    sym ((same_party-Decides party row.owner.instance).0 (own_is (same_party party row.owner.instance) own))

new_leaves : (s : Seen) (party : Party) (file : ℕ) (args : LockArgs) (open_seqid : ℕ) (stateid : StateRef) (lock_seqid : ℕ) (text : List ℕ) (verdict : Verdict)
    → first (new_checks s party file args open_seqid stateid lock_seqid text verdict) ≡ None
    → Locks s (lock_owner party text) file (counter_of stateid)
    (lock_words (look s) (Some party) file (record args { locker = New open_seqid stateid lock_seqid text })
    (told.Lock (lock_value s (record args { locker = New open_seqid stateid lock_seqid text }))))
unfolding newcomer_stop locked_stateid locks_after
new_leaves s party file args open_seqid stateid lock_seqid text verdict goes =
    let free : IsFree (new_checks s party file args open_seqid stateid lock_seqid text verdict) = all_free _ goes in
    let live : Live s file stateid = live_of s file stateid (access_for (kind_of args.kind)) (open_named s stateid) refl free.stale in
    let comes : newcomer_stop s (lock_owner party text) file lock_seqid ≡ None = refusal_none _ (or_none _ _ free.seqid).1 in
    record {
      opened = live.row;
      live = (named_open_at s stateid live.row live.named).0;
      file = live.file;
      party = own_of s party stateid live.row live.named free.unresolved;
      fresh = none_of (lock_of (lock_owner party text) file s.locks) (or_parts _ _ (refuse_if-none _ BadSeqid comes)).0;
      rest = refl;
      puts = refl;
    }

lock_leaves : (s : Seen) (caller : Option Party) (file : ℕ) (args : LockArgs) (verdict : Verdict) (its : Locker) → first (lock_checks s caller file args its verdict) ≡ None
    → Leaves s (stateid_word caller file (deed.Lock (record args { locker = its })) (told.Lock (lock_value s (record args { locker = its }))))
    (lock_words (look s) caller file (record args { locker = its }) (told.Lock (lock_value s (record args { locker = its }))))
unfolding lock_checks locked_stateid changed_lock stateid_word
lock_leaves s None file args verdict (New open_seqid stateid lock_seqid text) goes = cc
lock_leaves s (Some party) file args verdict (New open_seqid stateid lock_seqid text) goes =
    new_leaves s party file args open_seqid stateid lock_seqid text verdict goes
lock_leaves s caller file args verdict (Known stateid lock_seqid) goes = known_leaves s caller file args stateid lock_seqid (lock_named s stateid) refl

-- ---- all operations

goes_leaves : (s : Seen) (caller : Option Party) (file : ℕ) (verdict : Verdict) (d : Deed) → IsSound s → first (checks s caller file verdict d) ≡ None
    → Leaves s (stateid_word caller file d (ok_value s caller file d)) (deed_words (look s) caller file d (ok_value s caller file d))
unfolding stateid_word open_checks open_value row_to_open create_value write_value changed_stateid changed_lock look
goes_leaves s caller file verdict (deed.Access _) sound goes = (refl, refl)
goes_leaves s caller file verdict (deed.Close args) sound goes = close_leaves s args (open_named s args.stateid) refl
goes_leaves s caller file verdict (deed.Commit _) sound goes = (refl, refl)
goes_leaves s caller file verdict (deed.Create _) sound goes = (refl, refl)
goes_leaves s caller file verdict (deed.GetAttr _) sound goes = (refl, refl)
goes_leaves s caller file verdict (deed.Lock args) sound goes = lock_leaves s caller file args verdict args.locker goes
goes_leaves s caller file verdict (deed.LockTest _) sound goes = (refl, refl)
goes_leaves s caller file verdict (deed.Lookup _) sound goes = (refl, refl)
goes_leaves s caller file verdict deed.LookupP sound goes = (refl, refl)
goes_leaves s None file verdict (deed.Open args) sound goes = cc
goes_leaves s (Some party) file verdict (deed.Open args) sound goes = record {
  access = args.access;
  deny = args.deny;
  puts = ap Put (same_row s.last s.opens (opener party args) (file_to_open s file args) args.access args.deny sound.rising
      (open_of (opener party args) (file_to_open s file args) s.opens) refl);
  rest = refl;
}
goes_leaves s caller file verdict (deed.OpenConfirm args) sound goes = confirm_leaves s caller file args.stateid args.seqid (open_named s args.stateid) refl
goes_leaves s caller file verdict (deed.OpenDowngrade args) sound goes = downgrade_leaves s caller file args (open_named s args.stateid) refl
goes_leaves s caller file verdict (deed.Read _) sound goes = (refl, refl)
goes_leaves s caller file verdict (deed.ReadDir _) sound goes = (refl, refl)
goes_leaves s None file verdict (deed.ReleaseLockOwner args) sound goes = (refl, refl)
goes_leaves s (Some party) file verdict (deed.ReleaseLockOwner args) sound goes = (refl, refl, refl)
goes_leaves s caller file verdict (deed.Remove _) sound goes = (refl, refl)
goes_leaves s caller file verdict (deed.SetAttr _) sound goes = (refl, refl)
goes_leaves s caller file verdict (deed.Unlock args) sound goes = unlock_leaves s caller file args (lock_named s args.stateid) refl
goes_leaves s caller file verdict (deed.Write _) sound goes = (refl, refl)

-- a refusal says nothing
refused_word : (caller : Option Party) (file : ℕ) (d : Deed) → stateid_word caller file d (refused_value d) ≡ Nothing
unfolding stateid_word
refused_word caller file (deed.Access _) = refl
refused_word caller file (deed.Close _) = refl
refused_word caller file (deed.Commit _) = refl
refused_word caller file (deed.Create _) = refl
refused_word caller file (deed.GetAttr _) = refl
refused_word caller file (deed.Lock _) = refl
refused_word caller file (deed.LockTest _) = refl
refused_word caller file (deed.Lookup _) = refl
refused_word caller file deed.LookupP = refl
refused_word None file (deed.Open _) = refl
refused_word (Some party) file (deed.Open _) = refl
refused_word caller file (deed.OpenConfirm _) = refl
refused_word caller file (deed.OpenDowngrade _) = refl
refused_word caller file (deed.Read _) = refl
refused_word caller file (deed.ReadDir _) = refl
refused_word caller file (deed.ReleaseLockOwner _) = refl
refused_word caller file (deed.Remove _) = refl
refused_word caller file (deed.SetAttr _) = refl
refused_word caller file (deed.Unlock _) = refl
refused_word caller file (deed.Write _) = refl

denied_word : (caller : Option Party) (file : ℕ) (args : LockArgs) (o : Option Denied) → stateid_word caller file (deed.Lock args) (told.Lock (option_map IsDenied o)) ≡ Nothing
unfolding stateid_word
denied_word caller file args None = refl
denied_word caller file args (Some denied) = refl

refusal_word : (s : Seen) (caller : Option Party) (file : ℕ) (d : Deed) (status : OpStatus) → stateid_word caller file d (refusal_value s caller file d status) ≡ Nothing
unfolding stateid_word
refusal_word s caller file d status =
    by_refusal (λ its value. stateid_word caller file its value ≡ Nothing) (refused_word caller file) (denied_word caller file) (λ args o. refl) s caller file d status

either_nothing : (b : Bool) (word : StateidWord) → word ≡ Nothing → cond b word Nothing ≡ Nothing
either_nothing true word none = none
either_nothing false word none = refl

-- what moves owners on has no part in it
with_leaves : (s : Seen) (word : StateidWord) (w : Words) (owners begins : OwnerWord) → Leaves s word w → Leaves s word (with_owners w owners begins)
with_leaves s Nothing w owners begins leaves = leaves
with_leaves s (OpenedFor owner file) w owners begins leaves = record { access = leaves.access; deny = leaves.deny; puts = leaves.puts; rest = leaves.rest }
with_leaves s (RenewedAt k) w owners begins leaves = record {
  old = leaves.old;
  new = leaves.new;
  live = leaves.live;
  counter = leaves.counter;
  seqid = leaves.seqid;
  owner = leaves.owner;
  file = leaves.file;
  puts = leaves.puts;
  rest = leaves.rest;
}
with_leaves s (ClosedAt k) w owners begins leaves = leaves
with_leaves s (LockedFor owner file counter) w owners begins leaves = record {
  opened = leaves.opened;
  live = leaves.live;
  file = leaves.file;
  party = leaves.party;
  fresh = leaves.fresh;
  rest = leaves.rest;
  puts = leaves.puts;
}
with_leaves s (RelockedAt k) w owners begins leaves = record { old = leaves.old; live = leaves.live; rest = leaves.rest; puts = leaves.puts }
with_leaves s (ReleasedFor owner) w owners begins leaves = leaves
with_leaves s (EndedFor party) w owners begins leaves = leaves

free_leaves : (s : Seen) (call : Call) (verdict : Verdict) → IsSound s → first (checks s call.caller call.file verdict call.deed) ≡ None
    → Leaves s (stateid_word call.caller call.file call.deed (ok_value s call.caller call.file call.deed)) (words (look s) (Asked call verdict) (reply_by s call None))
free_leaves s call verdict sound goes =
    subst (Leaves s (stateid_word call.caller call.file call.deed (ok_value s call.caller call.file call.deed))) (sym (words-free s call verdict goes))
    (with_leaves s _ _ _ _ (goes_leaves s call.caller call.file verdict call.deed sound goes))

nothing_leaves : (s : Seen) (word : StateidWord) (w : Words) → word ≡ Nothing → w.opens ≡ Keep → w.locks ≡ AsIs → Leaves s word w
nothing_leaves s word w none opens locks = subst (λ x. Leaves s x w) (sym none) (opens, locks)

-- An event that is answered leaves of the tables of stateids what the reading says.
pub event_leaves : (s : Seen) (event : Event) → IsSound s → Leaves s (event_word (look s) event (answer_to s event)) (words (look s) event (answer_to s event))
unfolding answer_to words event_word is_done
event_leaves s (Ended party) sound = (refl, refl)
event_leaves s (Asked call verdict) sound = by_stop (first (checks s call.caller call.file verdict call.deed)) refl
  where
    by_stop : (x : Option Stop) → first (checks s call.caller call.file verdict call.deed) ≡ x
        → Leaves s (event_word (look s) (Asked call verdict) (reply_by s call x)) (words (look s) (Asked call verdict) (reply_by s call x))
    by_stop (Some (Refuse status)) refused =
        nothing_leaves s (event_word (look s) (Asked call verdict) (reply_by s call (Some (Refuse status))))
        (words (look s) (Asked call verdict) (reply_by s call (Some (Refuse status))))
        (either_nothing (acts (look s) call (reply_by s call (Some (Refuse status)))) _ (refusal_word s call.caller call.file call.deed status))
        (ap (λ (w : Words). w.opens) (words-refused s call verdict status)) (ap (λ (w : Words). w.locks) (words-refused s call verdict status))
    by_stop (Some (Repeat kept)) repeats =
        let old = repeat_is_old s call verdict kept repeats in
        nothing_leaves s (event_word (look s) (Asked call verdict) kept) (words (look s) (Asked call verdict) kept)
        (ap (λ b. cond (cond b (is_done kept.status) false) (stateid_word call.caller call.file call.deed kept.value) Nothing) old)
        (ap (λ (w : Words). w.opens) (words-old (look s) call verdict kept old)) (ap (λ (w : Words). w.locks) (words-old (look s) call verdict kept old))
    by_stop None goes =
        subst (λ b. Leaves s (cond (cond b true false) (stateid_word call.caller call.file call.deed (ok_value s call.caller call.file call.deed)) Nothing)
        (words (look s) (Asked call verdict) (reply_by s call None))) (sym (free_is_fresh s call verdict goes))
        (free_leaves s call verdict sound goes)
