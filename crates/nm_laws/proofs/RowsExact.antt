-- The number that a call is limited by is how many rows there are once it was carried out.
use Rattle.std.proofs.Common.{◌≡◌, ℕ, ◌+◌, Bool, true, false, cond, List, [], ◌++◌, Option, Some, None, refl, ap, sym, subst, ◌∙◌, arith, length}
use Rattle.std.specs.Prelude.{◌==◌, not, is_none, nat_lt, filter, option_map}
use Rattle.std.specs.List.{list_all}
use Rattle.std.specs.Option.{option_or}
use Rattle.std.proofs.lemmas.Bool.{false≢true}
use Rattle.nm_types.specs.Calls.{seqid_of}
use Rattle.nm_types.specs.Owners.{same_kind, same_owner}
use Rattle.nm_types.specs.Parties.{Party}
use Rattle.nm_rules.specs.Answer.{IsLegal, answer_to, checks, ok_value, reply_by, reply_with}
use Rattle.nm_rules.specs.Checks.{Checks, first, refusal, refuse_if}
use Rattle.nm_rules.specs.LockAsks.{access_for, counter_of, kind_of, last_of, lock_owner}
use Rattle.nm_rules.specs.LockOps.{changed_lock, lock_checks, lock_value, locked_stateid, new_limit, next_lock_stateid, ranges_with, ranges_without, rows_with_known, rows_with_new, unlock_checks}
use Rattle.nm_rules.specs.LockRows.{lock_at, locks_after, locks_rise, new_lock, put_lock, put_ranges, ranges_after, ranges_on, ranges_taken, renewed_lock}
use Rattle.nm_rules.specs.LockRows.LockWord.{Claimed}
use Rattle.nm_rules.specs.Locks.{cleared, set_to}
use Rattle.nm_rules.specs.Opens.{draws_past_end, file_to_open, one_if, open_checks, open_limit, open_value, row_to_open, rows_limit, rows_taken, rows_with_open, target, tree_limit}
use Rattle.nm_rules.specs.Past.{Now, Past, closed_by, deed_words, judgement, lock_owner_named, lock_starts, lock_words, no_words, noted, noted_row, open_words, opener, owner_named, seqid_owner, started, started_by, unlock_words, with_owners}
use Rattle.nm_rules.specs.Seen.{Seen, after_words, look, seen}
use Rattle.nm_rules.specs.Seqids.{closed_after, owner_at, owners_after, put_owner}
use Rattle.nm_rules.specs.Seqids.OwnerWord.{Noted, Stays}
use Rattle.nm_rules.specs.Shares.{open_at, open_of, opened_row, opens_after, put_open}
use Rattle.nm_rules.specs.Sound.{IsSound, OwnersAreKnown, is_known, is_locker, is_opener}
use Rattle.nm_rules.specs.Stateids.{live_stop, lock_live_stop, lock_named, open_named}
use Rattle.nm_types.specs.declared.args.LockArgs.{LockArgs}
use Rattle.nm_types.specs.declared.args.Locker.{Locker}
use Rattle.nm_types.specs.declared.args.Locker.TheVariants as locker
use Rattle.nm_types.specs.declared.args.OpenArgs.{OpenArgs}
use Rattle.nm_types.specs.declared.args.UnlockArgs.{UnlockArgs}
use Rattle.nm_types.specs.declared.calls.Call.{Call}
use Rattle.nm_types.specs.declared.calls.Deed.{Deed}
use Rattle.nm_types.specs.declared.calls.Deed.TheVariants as deed
use Rattle.nm_types.specs.declared.calls.Event.TheVariants.{Asked}
use Rattle.nm_types.specs.declared.calls.Owner.{Owner}
use Rattle.nm_types.specs.declared.calls.OwnerKind.TheVariants.{Locks, Opens}
use Rattle.nm_types.specs.declared.calls.Reply.{Reply}
use Rattle.nm_types.specs.declared.calls.ReplyValue.{ReplyValue}
use Rattle.nm_types.specs.declared.calls.ReplyValue.TheVariants as told
use Rattle.nm_types.specs.declared.calls.StateRef.{StateRef}
use Rattle.nm_types.specs.declared.calls.Verdict.{Verdict}
use Rattle.nm_types.specs.declared.owners.OwnerRow.{OwnerRow}
use Rattle.nm_types.specs.declared.results.LockOutcome.TheVariants.{Locked}
use Rattle.nm_types.specs.declared.rows.LockRow.{LockRow}
use Rattle.nm_types.specs.declared.rows.OpenRow.{OpenRow}
use Rattle.nm_types.specs.declared.status.OpStatus.{OpStatus}
use Rattle.nm_types.specs.declared.status.OpStatus.TheVariants.{Nfs4Ok, Resource}
use Rattle.nm_rules.proofs.Classes.{IsFree, all_free, or_none}
use Rattle.nm_rules.proofs.ClosedLaws.{live_named}
use Rattle.nm_rules.proofs.KnownLaws.{all_at, lock_all_at, known-seen, noted_done}
use Rattle.nm_rules.proofs.Legal.{SeqidTells, drew_new, named_is_live, named_lock, put_row, same_row, seqid_tells, sound-seen}
use Rattle.nm_rules.proofs.LockRowLaws.{list_all-filter, lock_at-past}
use Rattle.nm_rules.proofs.OwnerRows.{owner_at-put}
use Rattle.nm_rules.proofs.RowLimit.{live_lock_file, named_lock_at}
use Rattle.nm_laws.specs.RowsLeft.{but_rows, is_limited, rows_if_done}
use Rattle.nm_laws.proofs.AnswerWords.{words_done}
use Rattle.nm_laws.proofs.LockStateids.{locks_apart}
use Rattle.nm_laws.proofs.OwnerKinds.{KindsStand, closed_stay, is_lockers, kinds-seen, kinds_differ}
use Rattle.nm_laws.proofs.Puts.{length_put, nothing_behind}

-- what is used of the tables
record Facts (s : Seen) : Type 0 where
  sound : IsSound s
  known : OwnersAreKnown s
  kinds : KindsStand s
  rising : locks_rise 0 s.last s.locks ≡ true

-- ---- lengths

put_owners : (row : OwnerRow) (rows : List OwnerRow) → length (put_owner row rows) ≡ length rows + one_if (is_none (owner_at row.owner rows))
unfolding owner_at
put_owners row rows = length_put row (λ x. same_owner row.owner x.owner) (put_owner row) (record { last = refl; place = λ x xs. refl }) rows

put_opens : (row : OpenRow) (rows : List OpenRow) → length (put_open row rows) ≡ length rows + one_if (is_none (open_at row.counter rows))
unfolding open_at
put_opens row rows = length_put row (λ x. x.counter == row.counter) (put_open row) (record { last = refl; place = λ x xs. refl }) rows

put_locks : (row : LockRow) (rows : List LockRow) → length (put_lock row rows) ≡ length rows + one_if (is_none (lock_at row.counter rows))
unfolding lock_at
put_locks row rows = length_put row (λ x. x.counter == row.counter) (put_lock row) (record { last = refl; place = λ x xs. refl }) rows

is_there : (b : Bool) → not b ≡ true → b ≡ false
is_there true h = absurd (false≢true h)
is_there false h = refl

-- ---- OPEN

open_count : (s : Seen) (party : Party) (file : ℕ) (args : OpenArgs) (call : Call) (r : Reply) → IsSound s → r.status ≡ Nfs4Ok
    → closed_by (look s) call.deed r.value ≡ None
    → rows_taken (after_words s (with_owners (open_words (look s) (Some party) file args (told.Open (open_value s (Some party) file args)))
    (noted (look s) call r (Some (opener party args))) Stays))
    ≡ rows_with_open s (opener party args) (file_to_open s file args)
unfolding after_words open_value look opens_after row_to_open owners_after closed_after locks_after ranges_after
open_count s party file args call r sound done none =
    rw (noted_done (look s) call r owner done, none)
    (omega (
      arith,
      opens_rows,
      put_owners (noted_row (owner_at owner s.owners) owner (seqid_of call.deed) call r) s.owners,
      ap length (nothing_behind (filter (λ (x : OpenRow). not (same_owner owner x.owner)) s.closed)),
    ))
  where
    owner : Owner
    owner = opener party args

    its_file : ℕ
    its_file = file_to_open s file args

    row : OpenRow
    row = opened_row (open_of owner its_file s.opens) (s.last + 1) its_file owner args.access args.deny

    opens_rows : length (put_open (put_row s.opens row.counter owner its_file args.access args.deny) s.opens) ≡ length s.opens + one_if (is_none (open_of owner its_file s.opens))
    opens_rows =
        ap (λ (x : OpenRow). length (put_open x s.opens)) (same_row s.last s.opens owner its_file args.access args.deny sound.rising (open_of owner its_file s.opens) refl)
        ∙ put_opens row s.opens
        ∙ ap (λ b. length s.opens + one_if b) (drew_new s.last s.opens owner its_file args.access args.deny sound.rising (open_of owner its_file s.opens) refl)

-- ---- a lock owner that is known

-- it is one row still, and no closed open is its
record IsOne (s : Seen) (row : OwnerRow) : Type 0 where
  owners : length (put_owner row s.owners) ≡ length s.owners
  closed : filter (λ x. not (same_owner row.owner x.owner)) s.closed ++ [] ≡ s.closed

is_one_still : (s : Seen) (row : OwnerRow) → Facts s → is_none (owner_at row.owner s.owners) ≡ false → same_kind row.owner.kind Locks ≡ true → IsOne s row
is_one_still s row facts there locks = record {
  owners = put_owners row s.owners ∙ rw there (omega arith);
  closed = nothing_behind (filter (λ (x : OpenRow). not (same_owner row.owner x.owner)) s.closed) ∙ closed_stay row.owner s.closed locks facts.kinds.closed;
}

-- a stateid that is there, with its owner
record IsHere (s : Seen) (stateid : StateRef) (row : LockRow) : Type 0 where
  at : lock_at row.counter s.locks ≡ Some row
  counter : counter_of stateid ≡ row.counter
  owner : is_none (owner_at row.owner s.owners) ≡ false
  kind : same_kind row.owner.kind Locks ≡ true

is_here : (s : Seen) (stateid : StateRef) (row : LockRow) → Facts s → lock_named s stateid ≡ Some row → IsHere s stateid row
is_here s stateid row facts named =
    let at = named_lock_at s stateid row named in
    record {
      at = at.0;
      counter = at.1;
      owner = is_there _ (lock_all_at (is_locker s.owners) row.counter s.locks row facts.known.locks at.0);
      kind = lock_all_at is_lockers row.counter s.locks row facts.kinds.locks at.0;
    }

-- its owner moves on, and its row is renewed
noting : (s : Seen) (call : Call) (r : Reply) (stateid : StateRef) (row : LockRow) → lock_named s stateid ≡ Some row → r.status ≡ Nfs4Ok
    → closed_by (look s) call.deed r.value ≡ None
    → noted (look s) call r (lock_owner_named (look s) stateid) ≡ Noted (noted_row ((look s).owner_by row.owner) row.owner (seqid_of call.deed) call r) None
noting s call r stateid row named done none =
    ap (λ o. noted (look s) call r (option_map (λ (x : LockRow). x.owner) o)) (named_lock s stateid row named)
    ∙ noted_done (look s) call r row.owner done
    ∙ ap (λ c. Noted (noted_row ((look s).owner_by row.owner) row.owner (seqid_of call.deed) call r) c) none

known_locks : (s : Seen) (row : LockRow) → lock_at row.counter s.locks ≡ Some row → length (put_lock (renewed_lock row) s.locks) ≡ length s.locks
known_locks s row found = put_locks (renewed_lock row) s.locks ∙ rw found (omega arith)

-- LOCKU
unlock_count : (s : Seen) (file : ℕ) (args : UnlockArgs) (call : Call) (r : Reply) → Facts s → r.status ≡ Nfs4Ok → closed_by (look s) call.deed r.value ≡ None
    → (o : Option LockRow) → lock_named s args.stateid ≡ o → lock_live_stop s file args.stateid 0 o ≡ None
    → rows_taken (after_words s (with_owners (unlock_words (look s) args (told.Unlock (option_map (next_lock_stateid s.fs) o)))
    (noted (look s) call r (lock_owner_named (look s) args.stateid)) Stays))
    ≡ rows_with_known s file (ranges_without s (counter_of args.stateid) file args.offset args.length)
unfolding after_words look opens_after owners_after closed_after locks_after ranges_after ranges_without lock_live_stop
unlock_count s file args call r facts done none None named live = cc
unlock_count s file args call r facts done none (Some row) named live =
    let here : IsHere s args.stateid row = is_here s args.stateid row facts named in
    let one : IsOne s (noted_row ((look s).owner_by row.owner) row.owner (seqid_of call.deed) call r) = is_one_still s _ facts here.owner here.kind in
    rw (noting s call r args.stateid row named done none, here.at)
    (omega (
      arith,
      one.owners,
      ap length one.closed,
      known_locks s row here.at,
      ap (λ k. ranges_taken (put_ranges file (cleared k args.offset (last_of args.offset args.length) (ranges_on file s.ranges)) s.ranges)) here.counter,
      ap (λ f. ranges_taken (put_ranges f (cleared row.counter args.offset (last_of args.offset args.length) (ranges_on f s.ranges)) s.ranges))
          (live_lock_file s file args.stateid 0 row live),
    ))

-- LOCK with a stateid that is there
known_count : (s : Seen) (caller : Option Party) (file : ℕ) (args : LockArgs) (stateid : StateRef) (lock_seqid : ℕ) (call : Call) (r : Reply) → Facts s
    → r.status ≡ Nfs4Ok → closed_by (look s) call.deed r.value ≡ None
    → (o : Option LockRow) → lock_named s stateid ≡ o → lock_live_stop s file stateid (access_for (kind_of args.kind)) o ≡ None
    → rows_taken (after_words s (with_owners
    (lock_words (look s) caller file (record args { locker = locker.Known stateid lock_seqid }) (told.Lock (option_map Locked (option_map (next_lock_stateid s.fs) o))))
    (noted (look s) call r (lock_owner_named (look s) stateid)) Stays))
    ≡ rows_with_known s file (ranges_with s (counter_of stateid) file args.kind args.offset args.length)
unfolding after_words look opens_after owners_after closed_after locks_after ranges_after ranges_with lock_live_stop
known_count s caller file args stateid lock_seqid call r facts done none None named live = cc
known_count s caller file args stateid lock_seqid call r facts done none (Some row) named live =
    let here : IsHere s stateid row = is_here s stateid row facts named in
    let one : IsOne s (noted_row ((look s).owner_by row.owner) row.owner (seqid_of call.deed) call r) = is_one_still s _ facts here.owner here.kind in
    rw (noting s call r stateid row named done none, here.at)
    (omega (
      arith,
      one.owners,
      ap length one.closed,
      known_locks s row here.at,
      ap (λ k. ranges_taken (put_ranges file (set_to k (kind_of args.kind) args.offset (last_of args.offset args.length) (ranges_on file s.ranges)) s.ranges)) here.counter,
      ap (λ f. ranges_taken (put_ranges f (set_to row.counter (kind_of args.kind) args.offset (last_of args.offset args.length) (ranges_on f s.ranges)) s.ranges))
          (live_lock_file s file stateid (access_for (kind_of args.kind)) row live),
    ))

-- ---- a lock owner that is new on the file

-- the owner of an open that is there is known, and opens
record IsOpen (s : Seen) (row : OpenRow) : Type 0 where
  owner : is_none (owner_at row.owner s.owners) ≡ false
  kind : same_kind row.owner.kind Opens ≡ true

is_open : (s : Seen) (stateid : StateRef) (row : OpenRow) → Facts s → open_named s stateid ≡ Some row → IsOpen s row
is_open s stateid row facts named =
    let live : open_at row.counter s.opens ≡ Some row = named_is_live s stateid row named in
    record {
      owner = is_there _ (all_at (is_known s.owners) row.counter s.opens row facts.known.opens live);
      kind = all_at is_opener row.counter s.opens row facts.known.kinds live;
    }

-- first the open owner moves on, then the lock owner
both_owners : (row start : OwnerRow) (owners : List OwnerRow) → is_none (owner_at row.owner owners) ≡ false → same_owner start.owner row.owner ≡ false
    → length (put_owner start (put_owner row owners)) ≡ length owners + one_if (is_none (owner_at start.owner owners))
both_owners row start owners there other =
    put_owners start (put_owner row owners)
    ∙ rw (owner_at-put row owners start.owner, other, put_owners row owners, there) (omega arith)

both_closed : (its : Owner) (owner : Owner) (closed : List OpenRow) → same_kind its.kind Locks ≡ true → list_all is_opener closed ≡ true
    → filter (λ x. not (same_owner its x.owner)) (filter (λ x. not (same_owner owner x.owner)) closed ++ []) ++ [] ≡ filter (λ x. not (same_owner owner x.owner)) closed
both_closed its owner closed locks opens =
    nothing_behind (filter (λ (x : OpenRow). not (same_owner its x.owner)) (filter (λ (x : OpenRow). not (same_owner owner x.owner)) closed ++ []))
    ∙ ap (filter (λ (x : OpenRow). not (same_owner its x.owner))) (nothing_behind (filter (λ (x : OpenRow). not (same_owner owner x.owner)) closed))
    ∙ closed_stay its (filter (λ (x : OpenRow). not (same_owner owner x.owner)) closed) locks
    (list_all-filter is_opener (λ (x : OpenRow). not (same_owner owner x.owner)) closed opens)

new_count : (s : Seen) (party : Party) (file : ℕ) (args : LockArgs) (stateid : StateRef) (lock_seqid : ℕ) (text : List ℕ) (call starting : Call) (r : Reply) → Facts s
    → r.status ≡ Nfs4Ok → closed_by (look s) call.deed r.value ≡ None
    → (o : Option OpenRow) → open_named s stateid ≡ o → live_stop s file stateid (access_for (kind_of args.kind)) o ≡ None
    → rows_taken (after_words s (with_owners
    (record no_words {
      drew = true;
      locks = Claimed (new_lock (s.last + 1) (lock_owner party text) (counter_of stateid) file) (kind_of args.kind) args.offset (last_of args.offset args.length);
    })
    (noted (look s) call r (owner_named (look s) stateid))
    (Noted (noted_row ((look s).owner_by (lock_owner party text)) (lock_owner party text) lock_seqid starting r) None)))
    ≡ rows_with_new s o (lock_owner party text) file args
unfolding after_words opens_after owners_after closed_after locks_after ranges_after ranges_with live_stop
new_count s party file args stateid lock_seqid text call starting r facts done none None named live = cc
new_count s party file args stateid lock_seqid text call starting r facts done none (Some row) named live =
    let is : IsOpen s row = is_open s stateid row facts named in
    let noting : noted (look s) call r (owner_named (look s) stateid) ≡ Noted (noted_row ((look s).owner_by row.owner) row.owner (seqid_of call.deed) call r) None =
    ap (λ o. noted (look s) call r (option_map (λ (x : OpenRow). x.owner) o)) (live_named s stateid row named) ∙ noted_done (look s) call r row.owner done
    ∙ ap (λ c. Noted (noted_row ((look s).owner_by row.owner) row.owner (seqid_of call.deed) call r) c) none in
    rw noting (omega (
      arith,
      both_owners (noted_row ((look s).owner_by row.owner) row.owner (seqid_of call.deed) call r)
          (noted_row ((look s).owner_by (lock_owner party text)) (lock_owner party text) lock_seqid starting r) s.owners is.owner
          (kinds_differ (lock_owner party text) row.owner refl is.kind),
      ap length (both_closed (lock_owner party text) row.owner s.closed refl facts.kinds.closed),
      put_locks (new_lock (s.last + 1) (lock_owner party text) (counter_of stateid) file) s.locks,
      ap (λ o. one_if (is_none o)) (lock_at-past 0 s.last s.locks (s.last + 1) facts.rising (omega arith)),
    ))

-- ---- where rows alone limit

first_limit : (c : Checks) (l : Option OpStatus) → IsFree c → first (record c { limit = l }) ≡ refusal l
first_limit c l free =
    rw (free.unresolved, free.seqid, free.lease, free.missing, free.kind, free.arguments, free.stale, free.name, free.recall, free.conflict) refl

by_rows : (s : Seen) (call : Call) (b : Bool) → (reply_by s call (refusal (refuse_if b Resource))).status ≡ cond b Resource Nfs4Ok
by_rows s call true = refl
by_rows s call false = refl

-- it is told exactly where too many would be left
abbrev pub IsExact : Seen → Call → Verdict → Type 0
IsExact s call verdict = (answer_to s (Asked call verdict)).status ≡ cond (nat_lt rows_limit (rows_if_done s call verdict)) Resource Nfs4Ok

exact_by : (s : Seen) (call : Call) (verdict : Verdict) (n : ℕ) → IsFree (but_rows s call.caller call.file verdict call.deed)
    → (checks s call.caller call.file verdict call.deed).limit ≡ refuse_if (nat_lt rows_limit n) Resource → rows_if_done s call verdict ≡ n → IsExact s call verdict
unfolding answer_to
exact_by s call verdict n free limit count =
    ap (λ x. (reply_by s call x).status) (first_limit (but_rows s call.caller call.file verdict call.deed) (checks s call.caller call.file verdict call.deed).limit free ∙ ap refusal limit)
    ∙ by_rows s call (nat_lt rows_limit n)
    ∙ ap (λ m. cond (nat_lt rows_limit m) Resource Nfs4Ok) (sym count)

-- the words of the call, carried out
done_words : (s : Seen) (call : Call) (verdict : Verdict) → IsFree (but_rows s call.caller call.file verdict call.deed)
    → rows_if_done s call verdict
    ≡ rows_taken (after_words s (with_owners (deed_words (look s) call.caller call.file call.deed (ok_value s call.caller call.file call.deed))
    (noted (look s) call (reply_with Nfs4Ok (ok_value s call.caller call.file call.deed)) (seqid_owner (look s) call.caller call.deed))
    (started_by (look s) call (reply_with Nfs4Ok (ok_value s call.caller call.file call.deed)) call.deed (ok_value s call.caller call.file call.deed))))
done_words s call verdict free =
    ap (λ w. rows_taken (after_words s w)) (words_done s call verdict (ok_value s call.caller call.file call.deed)
    (subst (λ o. SeqidTells o (judgement (look s) call)) free.seqid (seqid_tells s call.caller call.file verdict call.deed free.unresolved)))

open_closes : (n : Now) (args : OpenArgs) (value : ReplyValue) → closed_by n (deed.Open args) value ≡ None
unfolding closed_by
open_closes n args value = refl

lock_closes : (n : Now) (args : LockArgs) (value : ReplyValue) → closed_by n (deed.Lock args) value ≡ None
unfolding closed_by
lock_closes n args value = refl

unlock_closes : (n : Now) (args : UnlockArgs) (value : ReplyValue) → closed_by n (deed.Unlock args) value ≡ None
unfolding closed_by
unlock_closes n args value = refl

-- the limit of rows comes last
last_limit : (a b c : Option OpStatus) → option_or a b ≡ None → option_or a (option_or b c) ≡ c
last_limit a b c none = let parts = or_none a b none in rw (parts.0, parts.1) refl

open_exact : (s : Seen) (party : Party) (file : ℕ) (args : OpenArgs) (verdict : Verdict) → Facts s
    → IsFree (but_rows s (Some party) file verdict (deed.Open args)) → IsExact s (record { caller = Some party; file = file; deed = deed.Open args }) verdict
unfolding open_checks open_limit seqid_owner started_by
open_exact s party file args verdict facts free =
    let call : Call = record { caller = Some party; file = file; deed = deed.Open args } in
    let value : ReplyValue = told.Open (open_value s (Some party) file args) in
    exact_by s call verdict (rows_with_open s (opener party args) (file_to_open s file args)) free
    (last_limit (tree_limit s (target s file args) args.opentype) (refuse_if (draws_past_end s party file args) Resource) _ free.limit)
    (done_words s call verdict free
    ∙ open_count s party file args call (reply_with Nfs4Ok value) facts.sound refl (open_closes (look s) args value))

unlock_exact : (s : Seen) (caller : Option Party) (file : ℕ) (args : UnlockArgs) (verdict : Verdict) → Facts s
    → IsFree (but_rows s caller file verdict (deed.Unlock args)) → IsExact s (record { caller = caller; file = file; deed = deed.Unlock args }) verdict
unfolding unlock_checks seqid_owner started_by changed_lock
unlock_exact s caller file args verdict facts free =
    let call : Call = record { caller = caller; file = file; deed = deed.Unlock args } in
    let value : ReplyValue = told.Unlock (option_map (next_lock_stateid s.fs) (lock_named s args.stateid)) in
    exact_by s call verdict (rows_with_known s file (ranges_without s (counter_of args.stateid) file args.offset args.length)) free refl
    (done_words s call verdict free
    ∙ unlock_count s file args call (reply_with Nfs4Ok value) facts refl (unlock_closes (look s) args value) (lock_named s args.stateid) refl free.stale)

known_exact : (s : Seen) (caller : Option Party) (file : ℕ) (args : LockArgs) (stateid : StateRef) (lock_seqid : ℕ) (verdict : Verdict) → Facts s
    → IsFree (but_rows s caller file verdict (deed.Lock (record args { locker = locker.Known stateid lock_seqid })))
    → IsExact s (record { caller = caller; file = file; deed = deed.Lock (record args { locker = locker.Known stateid lock_seqid }) }) verdict
unfolding lock_checks seqid_owner started_by locked_stateid changed_lock
known_exact s caller file args stateid lock_seqid verdict facts free =
    exact_by s call verdict (rows_with_known s file (ranges_with s (counter_of stateid) file args.kind args.offset args.length)) free refl
    (done_words s call verdict free
    ∙ ap (λ w. rows_taken (after_words s (with_owners (lock_words (look s) caller file its (told.Lock (lock_value s its)))
    (noted (look s) call (reply_with Nfs4Ok (told.Lock (lock_value s its))) (lock_owner_named (look s) stateid)) w))) (starts_none (lock_named s stateid))
    ∙ known_count s caller file args stateid lock_seqid call (reply_with Nfs4Ok (told.Lock (lock_value s its))) facts refl
    (lock_closes (look s) its (told.Lock (lock_value s its))) (lock_named s stateid) refl free.stale)
  where
    its : LockArgs
    its = record args { locker = locker.Known stateid lock_seqid }

    call : Call
    call = record { caller = caller; file = file; deed = deed.Lock its }

    by_caller : (r : Reply) (c : Option Party) → started (look s) call r c (locker.Known stateid lock_seqid) ≡ Stays
    by_caller r None = refl
    by_caller r (Some party) = refl

    starts_none : (o : Option LockRow) → lock_starts (look s) call (reply_with Nfs4Ok (told.Lock (lock_value s its))) (locker.Known stateid lock_seqid)
        (told.Lock (option_map Locked (option_map (next_lock_stateid s.fs) o))) ≡ Stays
    starts_none None = refl
    starts_none (Some row) = by_caller (reply_with Nfs4Ok (told.Lock (lock_value s its))) caller

new_exact : (s : Seen) (caller : Option Party) (file : ℕ) (args : LockArgs) (open_seqid : ℕ) (stateid : StateRef) (lock_seqid : ℕ) (text : List ℕ) (verdict : Verdict) → Facts s
    → IsFree (but_rows s caller file verdict (deed.Lock (record args { locker = locker.New open_seqid stateid lock_seqid text })))
    → IsExact s (record { caller = caller; file = file; deed = deed.Lock (record args { locker = locker.New open_seqid stateid lock_seqid text }) }) verdict
unfolding lock_checks new_limit seqid_owner started_by locked_stateid
new_exact s None file args open_seqid stateid lock_seqid text verdict facts free = let no = free.unresolved in cc
new_exact s (Some party) file args open_seqid stateid lock_seqid text verdict facts free =
    let its : LockArgs = record args { locker = locker.New open_seqid stateid lock_seqid text } in
    let call : Call = record { caller = Some party; file = file; deed = deed.Lock its } in
    let value : ReplyValue = told.Lock (lock_value s its) in
    exact_by s call verdict (rows_with_new s (open_named s stateid) (lock_owner party text) file its) free
    (ap (λ o. option_or o (refuse_if (nat_lt rows_limit (rows_with_new s (open_named s stateid) (lock_owner party text) file its)) Resource)) free.limit)
    (done_words s call verdict free
    ∙ new_count s party file args stateid lock_seqid text call call (reply_with Nfs4Ok value) facts refl
    (lock_closes (look s) its value) (open_named s stateid) refl free.stale)

exact : (s : Seen) (caller : Option Party) (file : ℕ) (d : Deed) (verdict : Verdict) → Facts s → is_limited d ≡ true → IsFree (but_rows s caller file verdict d)
    → IsExact s (record { caller = caller; file = file; deed = d }) verdict
unfolding open_checks
exact s caller file (deed.Lock args) verdict facts limited free = by_locker args.locker refl
  where
    by_locker : (its : Locker) → args.locker ≡ its → IsExact s (record { caller = caller; file = file; deed = deed.Lock args }) verdict
    by_locker (locker.New open_seqid stateid lock_seqid text) same =
        let e : record args { locker = locker.New open_seqid stateid lock_seqid text } ≡ args = ap (λ l. record args { locker = l }) (sym same) in
        subst (λ a. IsExact s (record { caller = caller; file = file; deed = deed.Lock a }) verdict) e
        (new_exact s caller file args open_seqid stateid lock_seqid text verdict facts (subst (λ a. IsFree (but_rows s caller file verdict (deed.Lock a))) (sym e) free))
    by_locker (locker.Known stateid lock_seqid) same =
        let e : record args { locker = locker.Known stateid lock_seqid } ≡ args = ap (λ l. record args { locker = l }) (sym same) in
        subst (λ a. IsExact s (record { caller = caller; file = file; deed = deed.Lock a }) verdict) e
        (known_exact s caller file args stateid lock_seqid verdict facts (subst (λ a. IsFree (but_rows s caller file verdict (deed.Lock a))) (sym e) free))
exact s None file (deed.Open args) verdict facts limited free = let no = free.unresolved in cc
exact s (Some party) file (deed.Open args) verdict facts limited free = open_exact s party file args verdict facts free
exact s caller file (deed.Unlock args) verdict facts limited free = unlock_exact s caller file args verdict facts free
exact s caller file _ verdict facts limited free = absurd (false≢true limited)

facts-seen : (fs : ℕ) (grants : Bool) (es : Past) → IsLegal fs grants es → Facts (seen fs grants es)
facts-seen fs grants es legal = record {
  sound = sound-seen fs grants es legal;
  known = known-seen fs grants es legal;
  kinds = kinds-seen fs grants es legal;
  rising = (locks_apart fs grants es legal).rising;
}

pub exact-seen : (fs : ℕ) (grants : Bool) (es : Past) (call : Call) (verdict : Verdict) → IsLegal fs grants es → is_limited call.deed ≡ true
    → first (but_rows (seen fs grants es) call.caller call.file verdict call.deed) ≡ None → IsExact (seen fs grants es) call verdict
exact-seen fs grants es call verdict legal limited goes =
    exact (seen fs grants es) call.caller call.file call.deed verdict (facts-seen fs grants es legal) limited
    (all_free (but_rows (seen fs grants es) call.caller call.file verdict call.deed) goes)
