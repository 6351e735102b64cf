-- The tables of locks of every legal list stand, and hold what the entries say.
use Rattle.std.proofs.Common.{◌≡◌, ◌≢◌, ◌<◌, ◌≤◌, ℕ, ◌+◌, ◌-◌, Bool, true, false, cond, List, [], ◌∷◌, Option, Some, None, refl, ap, sym, subst, ◌∙◌, arith}
use Rattle.std.proofs.lemmas.Bool.{true≢false, or_parts}
use Rattle.std.proofs.lemmas.Bool.Decides.{nat_tests}
use Rattle.std.specs.Prelude.{◌==◌, ◌||◌, not, is_none, nat_lt, option_map}
use Rattle.nm_types.specs.Parties.{Party}
use Rattle.nm_rules.specs.Locks.{barrier, kind_at}
use Rattle.nm_rules.specs.LockAsks.{kind_of, access_for, last_of, is_no_range, range_stop, lock_owner, counter_of}
use Rattle.nm_types.specs.Calls.{greatest}
use Rattle.nm_rules.specs.LockOps.{lock_checks, new_checks, known_checks, unlock_checks, release_checks, lock_fault, newcomer_stop, in_the_way, denied_stop, lock_value, locked_stateid, changed_lock, next_lock_stateid}
use Rattle.nm_rules.specs.LockReadings.{locks_for, covers, locks_byte, unlocks_byte, or_before, byte_after, byte_lock}
use Rattle.nm_rules.specs.LockRows.{LocksStand, MayFollow, last_after, lock_at, lock_of, lock_in, lock_left, new_lock, renewed_lock, claim_if, clear_if, ranges_on, are_idle_with, go_together, may_put, is_known}
use Rattle.nm_rules.specs.LockRows.LockWord.{Claimed}
use Rattle.nm_rules.specs.Checks.{Stop, first, refuse_if}
use Rattle.nm_rules.specs.Checks.Stop.{Refuse, Repeat}
use Rattle.nm_rules.specs.Data.{write_value}
use Rattle.nm_rules.specs.Files.{create_value}
use Rattle.nm_rules.specs.Opens.{close_checks, locks_stop, changed_stateid, next_stateid, open_value}
use Rattle.nm_rules.specs.Past.{Past, Now, Words, now, acts, words, no_words, deed_words, close_words, confirm_words, downgrade_words, lock_words, unlock_words, released_words, lock_owner_named}
use Rattle.nm_types.specs.Statuses.{is_done}
use Rattle.nm_rules.specs.Seen.{Seen, seen, look, after, after_words}
use Rattle.nm_rules.specs.Stateids.{open_named, lock_named, lock_live_stop}
use Rattle.nm_rules.specs.Answer.{answer_to, reply_by, refused_value, ok_value, checks, IsLegal}
use Rattle.nm_types.specs.declared.args.CloseArgs.{CloseArgs}
use Rattle.nm_types.specs.declared.args.LockArgs.{LockArgs}
use Rattle.nm_types.specs.declared.args.LockTestArgs.{LockTestArgs}
use Rattle.nm_types.specs.declared.args.Locker.{Locker}
use Rattle.nm_types.specs.declared.args.Locker.TheVariants.{New, Known}
use Rattle.nm_types.specs.declared.args.ReleaseLockOwnerArgs.{ReleaseLockOwnerArgs}
use Rattle.nm_types.specs.declared.args.UnlockArgs.{UnlockArgs}
use Rattle.nm_types.specs.declared.calls.Deed.{Deed}
use Rattle.nm_types.specs.declared.calls.Deed.TheVariants as deed
use Rattle.nm_types.specs.declared.calls.Event.{Event}
use Rattle.nm_types.specs.declared.calls.Event.TheVariants.{Asked, Ended}
use Rattle.nm_types.specs.declared.calls.Owner.{Owner}
use Rattle.nm_types.specs.declared.calls.Reply.{Reply}
use Rattle.nm_types.specs.declared.calls.ReplyValue.{ReplyValue}
use Rattle.nm_types.specs.declared.calls.ReplyValue.TheVariants as told
use Rattle.nm_types.specs.declared.calls.StateId.{StateId}
use Rattle.nm_types.specs.declared.calls.StateRef.{StateRef}
use Rattle.nm_types.specs.declared.calls.Verdict.{Verdict}
use Rattle.nm_types.specs.declared.results.Denied.{Denied}
use Rattle.nm_types.specs.declared.results.LockKind.{LockKind}
use Rattle.nm_types.specs.declared.results.LockOutcome.TheVariants.{Locked, Denied as IsDenied}
use Rattle.nm_types.specs.declared.rows.FileLocks.{FileLocks}
use Rattle.nm_types.specs.declared.rows.Held.{Held}
use Rattle.nm_types.specs.declared.rows.LockRow.{LockRow}
use Rattle.nm_types.specs.declared.rows.OpenRow.{OpenRow}
use Rattle.nm_types.specs.declared.status.OpStatus.TheVariants.{Inval, BadSeqid, LocksHeld}
use Rattle.nm_rules.proofs.Classes.{IsFree, all_free, or_none, refusal_none, refuse_if-none}
use Rattle.nm_rules.proofs.Legal.{words-free, words-old, words-refused, repeat_is_old, free_is_fresh, look-seen, named_lock, either_way}
use Rattle.nm_rules.proofs.LockRowLaws.{locks_rise-later, lock_at-past, same_number, other_number}
use Rattle.nm_rules.proofs.LockTables.{held-after, stand-after, owners-apart}
use Rattle.nm_rules.proofs.OwnerLemmas.{same_owner-Decides}
use Rattle.nm_rules.proofs.Refusals.{by_refusal}
use Rattle.nm_rules.proofs.RowLimit.{named_lock_at, live_lock_file, unlock_stale}

-- ---- arguments

-- a range that isn't refused has a last byte that isn't before its first
range_rises : (offset len : ℕ) → is_no_range offset len ≡ false → offset ≤ last_of offset len
unfolding is_no_range last_of
range_rises offset len valid = by_tests (len == 0) refl (len == greatest) refl valid
  where
    by_tests : (z : Bool) → (len == 0) ≡ z → (w : Bool) → (len == greatest) ≡ w → (z || nat_lt greatest (cond w offset (offset + len))) ≡ false
        → offset ≤ cond w greatest (offset + len - 1)
    by_tests true zero w whole valid = absurd (true≢false valid)
    by_tests false some true whole valid = grind (arith, nat_tests)
    by_tests false some false part valid = grind (arith, nat_tests)

valid_range : (offset len : ℕ) → range_stop offset len ≡ None → offset ≤ last_of offset len
valid_range offset len goes = range_rises offset len (refuse_if-none _ Inval goes)

-- ---- what words leave, where counters may be drawn

stand_later : (last later : ℕ) (locks : List LockRow) (ranges : List FileLocks) → last ≤ later → LocksStand last locks ranges → LocksStand later locks ranges
stand_later last later locks ranges le stand =
    record { rising = locks_rise-later 0 last later locks le stand.rising; owners = stand.owners; files = stand.files; joined = stand.joined; held = stand.held }

-- A word that may follow, and that draws no counter beyond the one that is counted.
pub record Follows (s : Seen) (w : Words) : Type 0 where
  pub may : MayFollow w.locks s.last s.locks s.ranges
  pub last : last_after w.locks s.last ≤ cond w.drew (s.last + 1) s.last

pub stand-words : (s : Seen) (w : Words) → LocksStand s.last s.locks s.ranges → Follows s w
    → LocksStand (after_words s w).last (after_words s w).locks (after_words s w).ranges
unfolding after_words
stand-words s w stand follows =
    stand_later _ _ _ _ follows.last (stand-after w.locks s.last s.locks s.ranges stand follows.may)

-- ---- each operation

idle_is : (b : Bool) → refuse_if (not b) LocksHeld ≡ None → b ≡ true
idle_is true goes = refl
idle_is false goes = cc

none_is : (o : Option Held) → denied_stop o ≡ None → o ≡ None
none_is None goes = refl
none_is (Some h) goes = cc

closes_idle : (s : Seen) (o : Option OpenRow) → locks_stop s o ≡ None → Follows s (close_words (told.Close (option_map (next_stateid s.fs) o)))
closes_idle s None goes = record { may = tt; last = omega arith }
closes_idle s (Some row) goes = record { may = idle_is (are_idle_with row.counter s.locks s.ranges) goes; last = omega arith }

close_follows : (s : Seen) (caller : Option Party) (file : ℕ) (args : CloseArgs) (verdict : Verdict) → first (close_checks s caller file args verdict) ≡ None
    → Follows s (close_words (told.Close (option_map (next_stateid s.fs) (open_named s args.stateid))))
unfolding close_checks
close_follows s caller file args verdict goes =
    let free : IsFree (close_checks s caller file args verdict) = all_free _ goes in
    closes_idle s (open_named s args.stateid) free.conflict

release_follows : (s : Seen) (party : Party) (args : ReleaseLockOwnerArgs) (verdict : Verdict) → first (release_checks s (Some party) args verdict) ≡ None
    → Follows s (released_words (Some party) args.owner)
unfolding release_checks
release_follows s party args verdict goes =
    let free : IsFree (release_checks s (Some party) args verdict) = all_free _ goes in
    record { may = idle_is _ free.conflict; last = omega arith }

-- the row that a lock or an unlock puts is of the owner and the file of the one that is there
renewed_known : (s : Seen) (row : LockRow) → lock_at row.counter s.locks ≡ Some row → is_known (renewed_lock row) (lock_at row.counter s.locks) ≡ true
renewed_known s row found = rw found (rw (same_number row.file row.file refl, (same_owner-Decides row.owner row.owner).1 refl) refl)

counter_below : (s : Seen) (row : LockRow) → LocksStand s.last s.locks s.ranges → lock_at row.counter s.locks ≡ Some row → (row.counter == s.last + 1) ≡ false
counter_below s row stand found = by_test (nat_lt s.last row.counter) refl
  where
    none : s.last < row.counter → None ≡ Some row
    none past = sym (lock_at-past 0 s.last s.locks row.counter stand.rising past) ∙ found

    never : None ≡ Some row → ⊥
    never e = cc

    above : nat_lt s.last row.counter ≡ true → s.last < row.counter
    above is = grind (arith, nat_tests)

    at_most : nat_lt s.last row.counter ≡ false → row.counter < s.last + 1
    at_most is = grind (arith, nat_tests)

    by_test : (b : Bool) → nat_lt s.last row.counter ≡ b → (row.counter == s.last + 1) ≡ false
    by_test true past = absurd (never (none (above past)))
    by_test false within = other_number row.counter (s.last + 1) (at_most within)

-- LOCK of a stateid that is there
known_follows : (s : Seen) (caller : Option Party) (file : ℕ) (args : LockArgs) (stateid : StateRef) (lock_seqid : ℕ) (verdict : Verdict) → LocksStand s.last s.locks s.ranges
    → first (known_checks s caller file args stateid lock_seqid verdict) ≡ None
    → (o : Option LockRow) → lock_named s stateid ≡ o → lock_live_stop s file stateid (access_for (kind_of args.kind)) o ≡ None
    → Follows s (lock_words (look s) caller file (record args { locker = Known stateid lock_seqid }) (told.Lock (option_map Locked (option_map (next_lock_stateid s.fs) o))))
unfolding look lock_fault in_the_way lock_live_stop
known_follows s caller file args stateid lock_seqid verdict stand goes None named live = cc
known_follows s caller file args stateid lock_seqid verdict stand goes (Some row) named live =
    let free : IsFree (known_checks s caller file args stateid lock_seqid verdict) = all_free _ goes in
    let at = named_lock_at s stateid row named in
    let same_file : row.file ≡ file = live_lock_file s file stateid (access_for (kind_of args.kind)) row live in
    let within : args.offset ≤ last_of args.offset args.length = valid_range args.offset args.length (or_none _ _ free.arguments).0 in
    let clear : barrier row.counter (kind_of args.kind) args.offset (last_of args.offset args.length) (ranges_on row.file s.ranges) ≡ None =
    ap (λ f. barrier row.counter (kind_of args.kind) args.offset (last_of args.offset args.length) (ranges_on f s.ranges)) same_file
    ∙ ap (λ k. barrier k (kind_of args.kind) args.offset (last_of args.offset args.length) (ranges_on file s.ranges)) (sym at.1)
    ∙ none_is _ free.conflict in
    let put : may_put s.last s.locks (renewed_lock row) ≡ true = rw (counter_below s row stand at.0) (renewed_known s row at.0) in
    rw at.0 (record { may = (put, within, clear); last = rw (counter_below s row stand at.0) (omega arith) })

-- LOCK of a new lock owner
none_of : (o : Option LockRow) → not (is_none o) ≡ false → is_none o ≡ true
none_of None h = refl
none_of (Some row) h = absurd (true≢false h)

new_follows : (s : Seen) (party : Party) (file : ℕ) (args : LockArgs) (open_seqid : ℕ) (stateid : StateRef) (lock_seqid : ℕ) (text : List ℕ) (verdict : Verdict)
    → first (new_checks s party file args open_seqid stateid lock_seqid text verdict) ≡ None
    → Follows s (record no_words {
      drew = true;
      locks = Claimed (new_lock (s.last + 1) (lock_owner party text) (counter_of stateid) file) (kind_of args.kind) args.offset (last_of args.offset args.length);
    })
unfolding lock_fault in_the_way newcomer_stop
new_follows s party file args open_seqid stateid lock_seqid text verdict goes =
    let free : IsFree (new_checks s party file args open_seqid stateid lock_seqid text verdict) = all_free _ goes in
    let comes : newcomer_stop s (lock_owner party text) file lock_seqid ≡ None = refusal_none _ (or_none _ _ free.seqid).1 in
    let none : is_none (lock_of (lock_owner party text) file s.locks) ≡ true = none_of _ (or_parts _ _ (refuse_if-none _ BadSeqid comes)).0 in
    let within : args.offset ≤ last_of args.offset args.length = valid_range args.offset args.length (or_none _ _ free.arguments).0 in
    let next : (s.last + 1 == s.last + 1) ≡ true = same_number (s.last + 1) (s.last + 1) refl in
    record { may = (rw next none, within, none_is _ free.conflict); last = rw next (omega arith) }

-- LOCKU
unlock_follows : (s : Seen) (caller : Option Party) (file : ℕ) (args : UnlockArgs) (verdict : Verdict)
    → first (unlock_checks s caller file args verdict) ≡ None
    → (o : Option LockRow) → lock_named s args.stateid ≡ o
    → Follows s (unlock_words (look s) args (told.Unlock (option_map (next_lock_stateid s.fs) o)))
unfolding look unlock_checks
unlock_follows s caller file args verdict goes None named = record { may = tt; last = omega arith }
unlock_follows s caller file args verdict goes (Some row) named =
    let free : IsFree (unlock_checks s caller file args verdict) = all_free _ goes in
    let at = named_lock_at s args.stateid row named in
    rw at.0 (record { may = (renewed_known s row at.0, valid_range args.offset args.length free.arguments); last = omega arith })

drawn_le : (b : Bool) (last : ℕ) → last ≤ cond b (last + 1) last
drawn_le true last = omega arith
drawn_le false last = omega arith

lock_follows : (s : Seen) (caller : Option Party) (file : ℕ) (args : LockArgs) (verdict : Verdict) (its : Locker) → LocksStand s.last s.locks s.ranges
    → first (lock_checks s caller file args its verdict) ≡ None
    → Follows s (lock_words (look s) caller file (record args { locker = its }) (told.Lock (lock_value s (record args { locker = its }))))
unfolding lock_checks locked_stateid changed_lock
lock_follows s None file args verdict (New open_seqid stateid lock_seqid text) stand goes = cc
lock_follows s (Some party) file args verdict (New open_seqid stateid lock_seqid text) stand goes =
    new_follows s party file args open_seqid stateid lock_seqid text verdict goes
lock_follows s caller file args verdict (Known stateid lock_seqid) stand goes =
    let free : IsFree (known_checks s caller file args stateid lock_seqid verdict) = all_free _ goes in
    known_follows s caller file args stateid lock_seqid verdict stand goes (lock_named s stateid) refl free.stale

goes_follow : (s : Seen) (caller : Option Party) (file : ℕ) (verdict : Verdict) (d : Deed) → LocksStand s.last s.locks s.ranges
    → first (checks s caller file verdict d) ≡ None → Follows s (deed_words (look s) caller file d (ok_value s caller file d))
unfolding create_value write_value changed_stateid changed_lock open_value
goes_follow s caller file verdict (deed.Access _) stand goes = record { may = tt; last = omega arith }
goes_follow s caller file verdict (deed.Close args) stand goes = close_follows s caller file args verdict goes
goes_follow s caller file verdict (deed.Commit _) stand goes = record { may = tt; last = omega arith }
goes_follow s caller file verdict (deed.Create _) stand goes = record { may = tt; last = omega arith }
goes_follow s caller file verdict (deed.GetAttr _) stand goes = record { may = tt; last = omega arith }
goes_follow s caller file verdict (deed.Lock args) stand goes = lock_follows s caller file args verdict args.locker stand goes
goes_follow s caller file verdict (deed.LockTest _) stand goes = record { may = tt; last = omega arith }
goes_follow s caller file verdict (deed.Lookup _) stand goes = record { may = tt; last = omega arith }
goes_follow s caller file verdict deed.LookupP stand goes = record { may = tt; last = omega arith }
goes_follow s None file verdict (deed.Open args) stand goes = record { may = tt; last = omega arith }
goes_follow s (Some party) file verdict (deed.Open args) stand goes = record { may = tt; last = drawn_le _ s.last }
goes_follow s caller file verdict (deed.OpenConfirm args) stand goes = by_told (option_map (next_stateid s.fs) (open_named s args.stateid))
  where
    by_told : (o : Option StateId) → Follows s (confirm_words (look s) (told.OpenConfirm o))
    by_told None = record { may = tt; last = omega arith }
    by_told (Some id) = record { may = tt; last = omega arith }
goes_follow s caller file verdict (deed.OpenDowngrade args) stand goes = by_told (option_map (next_stateid s.fs) (open_named s args.stateid))
  where
    by_told : (o : Option StateId) → Follows s (downgrade_words (look s) args (told.OpenDowngrade o))
    by_told None = record { may = tt; last = omega arith }
    by_told (Some id) = record { may = tt; last = omega arith }
goes_follow s caller file verdict (deed.Read _) stand goes = record { may = tt; last = omega arith }
goes_follow s caller file verdict (deed.ReadDir _) stand goes = record { may = tt; last = omega arith }
goes_follow s None file verdict (deed.ReleaseLockOwner args) stand goes = record { may = tt; last = omega arith }
goes_follow s (Some party) file verdict (deed.ReleaseLockOwner args) stand goes = release_follows s party args verdict goes
goes_follow s caller file verdict (deed.Remove _) stand goes = record { may = tt; last = omega arith }
goes_follow s caller file verdict (deed.SetAttr _) stand goes = record { may = tt; last = omega arith }
goes_follow s caller file verdict (deed.Unlock args) stand goes = unlock_follows s caller file args verdict goes (lock_named s args.stateid) refl
goes_follow s caller file verdict (deed.Write _) stand goes = record { may = tt; last = omega arith }

follows-event : (s : Seen) (event : Event) → LocksStand s.last s.locks s.ranges → Follows s (words (look s) event (answer_to s event))
unfolding answer_to words
follows-event s (Ended party) stand = record { may = tt; last = omega arith }
follows-event s (Asked call verdict) stand = by_stop (first (checks s call.caller call.file verdict call.deed)) refl
  where
    by_stop : (x : Option Stop) → first (checks s call.caller call.file verdict call.deed) ≡ x → Follows s (words (look s) (Asked call verdict) (reply_by s call x))
    by_stop (Some (Refuse status)) refused = subst (Follows s) (sym (words-refused s call verdict status)) (record { may = tt; last = omega arith })
    by_stop (Some (Repeat kept)) repeats =
        subst (Follows s) (sym (words-old (look s) call verdict kept (repeat_is_old s call verdict kept repeats))) (record { may = tt; last = omega arith })
    by_stop None goes =
        let it : Follows s (deed_words (look s) call.caller call.file call.deed (ok_value s call.caller call.file call.deed)) =
        goes_follow s call.caller call.file verdict call.deed stand goes in
        subst (Follows s) (sym (words-free s call verdict goes)) (record { may = it.may; last = it.last })

-- The tables of locks of a legal list stand.
pub stand-seen : (fs : ℕ) (grants : Bool) (es : Past) → IsLegal fs grants es → LocksStand (seen fs grants es).last (seen fs grants es).locks (seen fs grants es).ranges
unfolding seen ranges_on kind_at
stand-seen fs grants [] legal = record { rising = refl; owners = refl; files = refl; joined = λ file. record { rising = refl; apart = refl }; held = λ counter file byte none. refl }
stand-seen fs grants (x ∷ earlier) legal =
    let s : Seen = seen fs grants earlier in
    let stand : LocksStand s.last s.locks s.ranges = stand-seen fs grants earlier legal.1 in
    rw legal.0 (stand-words s (words (look s) x.event (answer_to s x.event)) stand (follows-event s x.event stand))

-- ---- what the entries say of a byte

or_cond : (t : Bool) (kind : LockKind) (before : Option LockKind) → or_before (cond t (Some kind) None) before ≡ cond t (Some kind) before
or_cond true kind before = refl
or_cond false kind before = refl

-- what a value says of a byte
abbrev SaysByte : Now → Owner → ℕ → ℕ → Option Party → ℕ → Option LockKind → Deed → ReplyValue → Option LockKind
SaysByte n owner file byte caller its_file before d value =
    or_before (locks_byte n owner file byte caller its_file d value) (cond (unlocks_byte n owner file byte its_file d value) None before)

refused_byte : (n : Now) (owner : Owner) (file byte : ℕ) (caller : Option Party) (its_file : ℕ) (before : Option LockKind) (d : Deed)
    → SaysByte n owner file byte caller its_file before d (refused_value d) ≡ before
unfolding locks_byte unlocks_byte
refused_byte n owner file byte caller its_file before (deed.Access _) = refl
refused_byte n owner file byte caller its_file before (deed.Close _) = refl
refused_byte n owner file byte caller its_file before (deed.Commit _) = refl
refused_byte n owner file byte caller its_file before (deed.Create _) = refl
refused_byte n owner file byte caller its_file before (deed.GetAttr _) = refl
refused_byte n owner file byte caller its_file before (deed.Lock _) = refl
refused_byte n owner file byte caller its_file before (deed.LockTest _) = refl
refused_byte n owner file byte caller its_file before (deed.Lookup _) = refl
refused_byte n owner file byte caller its_file before deed.LookupP = refl
refused_byte n owner file byte caller its_file before (deed.Open _) = refl
refused_byte n owner file byte caller its_file before (deed.OpenConfirm _) = refl
refused_byte n owner file byte caller its_file before (deed.OpenDowngrade _) = refl
refused_byte n owner file byte caller its_file before (deed.Read _) = refl
refused_byte n owner file byte caller its_file before (deed.ReadDir _) = refl
refused_byte n owner file byte caller its_file before (deed.ReleaseLockOwner _) = refl
refused_byte n owner file byte caller its_file before (deed.Remove _) = refl
refused_byte n owner file byte caller its_file before (deed.SetAttr _) = refl
refused_byte n owner file byte caller its_file before (deed.Unlock _) = refl
refused_byte n owner file byte caller its_file before (deed.Write _) = refl

denied_byte : (n : Now) (owner : Owner) (file byte : ℕ) (caller : Option Party) (its_file : ℕ) (before : Option LockKind) (args : LockArgs) (o : Option Denied)
    → SaysByte n owner file byte caller its_file before (deed.Lock args) (told.Lock (option_map IsDenied o)) ≡ before
unfolding locks_byte unlocks_byte
denied_byte n owner file byte caller its_file before args None = refl
denied_byte n owner file byte caller its_file before args (Some denied) = refl

test_byte : (n : Now) (owner : Owner) (file byte : ℕ) (caller : Option Party) (its_file : ℕ) (before : Option LockKind) (args : LockTestArgs) (o : Option Denied)
    → SaysByte n owner file byte caller its_file before (deed.LockTest args) (told.LockTest o) ≡ before
unfolding locks_byte unlocks_byte
test_byte n owner file byte caller its_file before args o = refl

-- LOCK of a stateid that is there
known_byte : (s : Seen) (caller : Option Party) (its_file : ℕ) (args : LockArgs) (stateid : StateRef) (lock_seqid : ℕ) (owner : Owner) (file byte : ℕ) (before : Option LockKind)
    → (o : Option LockRow) → lock_named s stateid ≡ o → lock_live_stop s its_file stateid (access_for (kind_of args.kind)) o ≡ None
    → SaysByte (look s) owner file byte caller its_file before (deed.Lock (record args { locker = Known stateid lock_seqid })) (told.Lock (option_map Locked (option_map (next_lock_stateid s.fs) o)))
    ≡ lock_left (lock_words (look s) caller its_file (record args { locker = Known stateid lock_seqid }) (told.Lock (option_map Locked (option_map (next_lock_stateid s.fs) o)))).locks owner file byte before
unfolding locks_byte unlocks_byte locks_for lock_left lock_live_stop look
known_byte s caller its_file args stateid lock_seqid owner file byte before None named live = cc
known_byte s caller its_file args stateid lock_seqid owner file byte before (Some row) named live = by_caller caller
  where
    at : (lock_at row.counter s.locks ≡ Some row) × (counter_of stateid ≡ row.counter)
    at = named_lock_at s stateid row named

    -- what the reading says, and what the word does
    same : or_before (cond (covers owner file byte (lock_owner_named (look s) stateid) its_file args.offset args.length) (Some (kind_of args.kind)) None) before
        ≡ lock_left (claim_if (option_map renewed_lock (lock_at row.counter s.locks)) (kind_of args.kind) args.offset (last_of args.offset args.length)) owner file byte before
    same =
        or_cond (covers owner file byte (lock_owner_named (look s) stateid) its_file args.offset args.length) (kind_of args.kind) before
        ∙ ap (λ o. cond (covers owner file byte (option_map (λ (x : LockRow). x.owner) o) its_file args.offset args.length) (Some (kind_of args.kind)) before) (named_lock s stateid row named)
        ∙ ap (λ f. cond (covers owner file byte (Some row.owner) f args.offset args.length) (Some (kind_of args.kind)) before) (sym (live_lock_file s its_file stateid (access_for (kind_of args.kind)) row live))
        ∙ ap (λ o. lock_left (claim_if (option_map renewed_lock o) (kind_of args.kind) args.offset (last_of args.offset args.length)) owner file byte before) (sym at.0)

    by_caller : (c : Option Party)
        → or_before (cond (covers owner file byte (lock_owner_named (look s) stateid) its_file args.offset args.length) (Some (kind_of args.kind)) None) before
        ≡ lock_left (lock_words (look s) c its_file (record args { locker = Known stateid lock_seqid }) (told.Lock (Some (Locked (next_lock_stateid s.fs row))))).locks owner file byte before
    by_caller None = same
    by_caller (Some party) = same

-- any LOCK
lock_byte : (s : Seen) (caller : Option Party) (its_file : ℕ) (args : LockArgs) (verdict : Verdict) (its : Locker) (owner : Owner) (file byte : ℕ) (before : Option LockKind)
    → first (lock_checks s caller its_file args its verdict) ≡ None
    → SaysByte (look s) owner file byte caller its_file before (deed.Lock (record args { locker = its })) (told.Lock (lock_value s (record args { locker = its })))
    ≡ lock_left (lock_words (look s) caller its_file (record args { locker = its }) (told.Lock (lock_value s (record args { locker = its })))).locks owner file byte before
unfolding lock_checks locked_stateid changed_lock locks_byte unlocks_byte locks_for lock_left
lock_byte s None its_file args verdict (New open_seqid stateid lock_seqid text) owner file byte before goes = cc
lock_byte s (Some party) its_file args verdict (New open_seqid stateid lock_seqid text) owner file byte before goes =
    or_cond (covers owner file byte (Some (lock_owner party text)) its_file args.offset args.length) (kind_of args.kind) before
lock_byte s caller its_file args verdict (Known stateid lock_seqid) owner file byte before goes =
    let free : IsFree (known_checks s caller its_file args stateid lock_seqid verdict) = all_free _ goes in
    known_byte s caller its_file args stateid lock_seqid owner file byte before (lock_named s stateid) refl free.stale

-- LOCKU
unlock_byte : (s : Seen) (caller : Option Party) (its_file : ℕ) (args : UnlockArgs) (owner : Owner) (file byte : ℕ) (before : Option LockKind)
    → (o : Option LockRow) → lock_named s args.stateid ≡ o → lock_live_stop s its_file args.stateid 0 o ≡ None
    → SaysByte (look s) owner file byte caller its_file before (deed.Unlock args) (told.Unlock (option_map (next_lock_stateid s.fs) o))
    ≡ lock_left (unlock_words (look s) args (told.Unlock (option_map (next_lock_stateid s.fs) o))).locks owner file byte before
unfolding locks_byte unlocks_byte lock_left lock_live_stop look
unlock_byte s caller its_file args owner file byte before None named live = cc
unlock_byte s caller its_file args owner file byte before (Some row) named live =
    let at = named_lock_at s args.stateid row named in
    ap (λ o. cond (covers owner file byte (option_map (λ (x : LockRow). x.owner) o) its_file args.offset args.length) None before) (named_lock s args.stateid row named)
    ∙ ap (λ f. cond (covers owner file byte (Some row.owner) f args.offset args.length) None before) (sym (live_lock_file s its_file args.stateid 0 row live))
    ∙ ap (λ o. lock_left (clear_if (option_map renewed_lock o) args.offset (last_of args.offset args.length)) owner file byte before) (sym at.0)

goes_byte : (s : Seen) (caller : Option Party) (its_file : ℕ) (verdict : Verdict) (d : Deed) (owner : Owner) (file byte : ℕ) (before : Option LockKind)
    → first (checks s caller its_file verdict d) ≡ None
    → SaysByte (look s) owner file byte caller its_file before d (ok_value s caller its_file d)
    ≡ lock_left (deed_words (look s) caller its_file d (ok_value s caller its_file d)).locks owner file byte before
unfolding create_value write_value changed_stateid changed_lock open_value locks_byte unlocks_byte lock_left
goes_byte s caller its_file verdict (deed.Access _) owner file byte before goes = refl
goes_byte s caller its_file verdict (deed.Close args) owner file byte before goes = by_told (option_map (next_stateid s.fs) (open_named s args.stateid))
  where
    by_told : (o : Option StateId) → before ≡ lock_left (close_words (told.Close o)).locks owner file byte before
    by_told None = refl
    by_told (Some id) = refl
goes_byte s caller its_file verdict (deed.Commit _) owner file byte before goes = refl
goes_byte s caller its_file verdict (deed.Create _) owner file byte before goes = refl
goes_byte s caller its_file verdict (deed.GetAttr _) owner file byte before goes = refl
goes_byte s caller its_file verdict (deed.Lock args) owner file byte before goes = lock_byte s caller its_file args verdict args.locker owner file byte before goes
goes_byte s caller its_file verdict (deed.LockTest _) owner file byte before goes = refl
goes_byte s caller its_file verdict (deed.Lookup _) owner file byte before goes = refl
goes_byte s caller its_file verdict deed.LookupP owner file byte before goes = refl
goes_byte s None its_file verdict (deed.Open args) owner file byte before goes = refl
goes_byte s (Some party) its_file verdict (deed.Open args) owner file byte before goes = refl
goes_byte s caller its_file verdict (deed.OpenConfirm args) owner file byte before goes = by_told (option_map (next_stateid s.fs) (open_named s args.stateid))
  where
    by_told : (o : Option StateId) → before ≡ lock_left (confirm_words (look s) (told.OpenConfirm o)).locks owner file byte before
    by_told None = refl
    by_told (Some id) = refl
goes_byte s caller its_file verdict (deed.OpenDowngrade args) owner file byte before goes = by_told (option_map (next_stateid s.fs) (open_named s args.stateid))
  where
    by_told : (o : Option StateId) → before ≡ lock_left (downgrade_words (look s) args (told.OpenDowngrade o)).locks owner file byte before
    by_told None = refl
    by_told (Some id) = refl
goes_byte s caller its_file verdict (deed.Read _) owner file byte before goes = refl
goes_byte s caller its_file verdict (deed.ReadDir _) owner file byte before goes = refl
goes_byte s None its_file verdict (deed.ReleaseLockOwner args) owner file byte before goes = refl
goes_byte s (Some party) its_file verdict (deed.ReleaseLockOwner args) owner file byte before goes = refl
goes_byte s caller its_file verdict (deed.Remove _) owner file byte before goes = refl
goes_byte s caller its_file verdict (deed.SetAttr _) owner file byte before goes = refl
goes_byte s caller its_file verdict (deed.Unlock args) owner file byte before goes =
    unlock_byte s caller its_file args owner file byte before (lock_named s args.stateid) refl (unlock_stale s caller its_file args verdict (all_free _ goes))
goes_byte s caller its_file verdict (deed.Write _) owner file byte before goes = refl

-- an event that is answered does to a byte what the reading says
byte-event : (s : Seen) (event : Event) (owner : Owner) (file byte : ℕ) (before : Option LockKind)
    → byte_after (look s) owner file byte event (answer_to s event) before ≡ lock_left (words (look s) event (answer_to s event)).locks owner file byte before
unfolding answer_to words byte_after lock_left is_done
byte-event s (Ended party) owner file byte before = refl
byte-event s (Asked call verdict) owner file byte before = by_stop (first (checks s call.caller call.file verdict call.deed)) refl
  where
    says : Reply → Option LockKind
    says r = SaysByte (look s) owner file byte call.caller call.file before call.deed r.value

    by_stop : (x : Option Stop) → first (checks s call.caller call.file verdict call.deed) ≡ x
        → cond (acts (look s) call (reply_by s call x)) (says (reply_by s call x)) before
        ≡ lock_left (words (look s) (Asked call verdict) (reply_by s call x)).locks owner file byte before
    by_stop (Some (Refuse status)) refused =
        ap (λ v. cond (acts (look s) call (reply_by s call (Some (Refuse status)))) v before)
        (by_refusal (λ d value. SaysByte (look s) owner file byte call.caller call.file before d value ≡ before)
        (refused_byte (look s) owner file byte call.caller call.file before) (denied_byte (look s) owner file byte call.caller call.file before)
        (test_byte (look s) owner file byte call.caller call.file before) s call.caller call.file call.deed status)
        ∙ either_way (acts (look s) call (reply_by s call (Some (Refuse status)))) before
        ∙ ap (λ (w : Words). lock_left w.locks owner file byte before) (sym (words-refused s call verdict status))
    by_stop (Some (Repeat kept)) repeats =
        let old = repeat_is_old s call verdict kept repeats in
        ap (λ b. cond (cond b (is_done kept.status) false) (says kept) before) old
        ∙ ap (λ (w : Words). lock_left w.locks owner file byte before) (sym (words-old (look s) call verdict kept old))
    by_stop None goes =
        ap (λ b. cond (cond b true false) (says (reply_by s call None)) before) (free_is_fresh s call verdict goes)
        ∙ goes_byte s call.caller call.file verdict call.deed owner file byte before goes
        ∙ ap (λ (w : Words). lock_left w.locks owner file byte before) (sym (words-free s call verdict goes))

-- The tables hold at each byte what the entries say.
pub byte-seen : (fs : ℕ) (grants : Bool) (es : Past) (owner : Owner) (file byte : ℕ) → IsLegal fs grants es
    → lock_in owner file byte (seen fs grants es).locks (seen fs grants es).ranges ≡ byte_lock es owner file byte
unfolding seen byte_lock after_words lock_in lock_of
byte-seen fs grants [] owner file byte legal = refl
byte-seen fs grants (x ∷ earlier) owner file byte legal =
    let s : Seen = seen fs grants earlier in
    let stand : LocksStand s.last s.locks s.ranges = stand-seen fs grants earlier legal.1 in
    ap (λ r. lock_in owner file byte (after s x.event r).locks (after s x.event r).ranges) legal.0
    ∙ held-after (words (look s) x.event (answer_to s x.event)).locks s.last s.locks s.ranges stand (follows-event s x.event stand).may owner file byte
    ∙ sym (byte-event s x.event owner file byte (lock_in owner file byte s.locks s.ranges))
    ∙ ap (λ n. byte_after n owner file byte x.event (answer_to s x.event) (lock_in owner file byte s.locks s.ranges)) (look-seen fs grants earlier legal.1)
    ∙ ap (λ r. byte_after (now earlier) owner file byte x.event r (lock_in owner file byte s.locks s.ranges)) (sym legal.0)
    ∙ ap (byte_after (now earlier) owner file byte x.event x.reply) (byte-seen fs grants earlier owner file byte legal.1)

-- No two owners hold a byte where one of them writes.
pub bytes-apart : (fs : ℕ) (grants : Bool) (es : Past) (owner other : Owner) (file byte : ℕ) → IsLegal fs grants es → owner ≢ other
    → go_together (byte_lock es owner file byte) (byte_lock es other file byte) ≡ true
bytes-apart fs grants es owner other file byte legal differ =
    subst (λ o. go_together o (byte_lock es other file byte) ≡ true) (byte-seen fs grants es owner file byte legal)
    (subst (λ o. go_together (lock_in owner file byte (seen fs grants es).locks (seen fs grants es).ranges) o ≡ true) (byte-seen fs grants es other file byte legal)
    (owners-apart (seen fs grants es).last (seen fs grants es).locks (seen fs grants es).ranges (stand-seen fs grants es legal) owner other file byte differ))
