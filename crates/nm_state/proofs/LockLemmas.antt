-- What operations on byte-range locks are refused with, and what they leave.
use Rattle.std.proofs.Common.{◌≡◌, ℕ, ◌+◌, ◌<◌, Bool, true, false, cond, List, [], ◌∷◌, Option, Some, None, refl, ap, sym, subst, ◌∙◌, arith}
use Rattle.std.specs.Prelude.{◌==◌, ◌&&◌, ◌^◌, ◌-◌, ◌%◌, nat_le, IsSome, option_map, find}
use Rattle.std.specs.Option.{option_or}
use Rattle.std.proofs.lemmas.Bool.Decides.{nat_tests}
use Rattle.nm_rules.specs.Answer.{answer_to, checks, is_denial, reply_by, reply_with}
use Rattle.nm_rules.specs.Checks.{behind_seqid, first, is_dir, lease_stop, missing_stop, refusal, refuse_if}
use Rattle.nm_rules.specs.Checks.Stop.{Refuse}
use Rattle.nm_rules.specs.Contents.{tree_after}
use Rattle.nm_rules.specs.Files.{current}
use Rattle.nm_rules.specs.LockAsks.{access_for, counter_of, is_no_range, kind_of, last_of, lock_owner, range_stop}
use Rattle.nm_rules.specs.LockOps.{changed_lock, denied_stop, denied_told, in_the_way, lock_checks, lock_denied, lock_fault, locked_stateid, locker_counter, new_limit, next_lock_stateid, ranges_with, release_checks, rows_stop, rows_with_known, test_barrier, test_checks, test_denied, unlock_checks}
use Rattle.nm_rules.specs.LockRows.{claim_if, clear_if, lock_at, ranges_on, renewed_lock}
use Rattle.nm_rules.specs.Locks.{barrier}
use Rattle.nm_types.specs.Parties.{Party}
use Rattle.nm_rules.specs.Past.{closed_by, seqid_owner, started_by}
use Rattle.nm_rules.specs.Seen.{Seen, after_words, look}
use Rattle.nm_rules.specs.Seqids.{closed_after, owners_after}
use Rattle.nm_rules.specs.Seqids.OwnerWord.{Gone, Stays}
use Rattle.nm_rules.specs.Shares.{opens_after}
use Rattle.nm_rules.specs.Stateids.{given_seqid, is_owner_confirmed, live_stop, lock_live_stop, lock_named, lock_stop, mode_stop, open_named, opened_access, seqid_stop, stateid_stop}
use Rattle.nm_types.specs.declared.args.LockArgs.{LockArgs}
use Rattle.nm_types.specs.declared.args.LockTestArgs.{LockTestArgs}
use Rattle.nm_types.specs.declared.args.Locker.TheVariants.{Known}
use Rattle.nm_types.specs.declared.args.ReleaseLockOwnerArgs.{ReleaseLockOwnerArgs}
use Rattle.nm_types.specs.declared.args.UnlockArgs.{UnlockArgs}
use Rattle.nm_types.specs.declared.calls.Call.{Call}
use Rattle.nm_types.specs.declared.calls.Deed.TheVariants as deed
use Rattle.nm_types.specs.declared.calls.Event.TheVariants.{Asked}
use Rattle.nm_types.specs.declared.calls.Owner.{Owner}
use Rattle.nm_types.specs.declared.calls.Reply.{Reply}
use Rattle.nm_types.specs.declared.calls.ReplyValue.TheVariants as told
use Rattle.nm_types.specs.declared.calls.StateId.{StateId}
use Rattle.nm_types.specs.declared.calls.StateRef.{StateRef}
use Rattle.nm_types.specs.declared.calls.StateRef.TheVariants.{Zeros, Ones, Named}
use Rattle.nm_types.specs.declared.calls.Verdict.{Verdict}
use Rattle.nm_types.specs.declared.calls.Verdict.TheVariants.{Pass, LeaseMoved}
use Rattle.nm_types.specs.declared.results.Denied.{Denied}
use Rattle.nm_types.specs.declared.results.LockOutcome.TheVariants.{Locked, Denied as IsDenied}
use Rattle.nm_types.specs.declared.rows.Held.{Held}
use Rattle.nm_types.specs.declared.rows.LockRow.{LockRow}
use Rattle.nm_types.specs.declared.rows.OpenRow.{OpenRow}
use Rattle.nm_types.specs.declared.status.OpStatus.{OpStatus}
use Rattle.nm_types.specs.declared.status.OpStatus.TheVariants.{BadStateId, Inval, IsDir, Nfs4Ok, NoGrace, OldStateId, OpenMode, Resource, Stale, StaleClientId, Denied as DeniedStatus}
use Rattle.nm_rules.proofs.Classes.{or_none, refuse_if-none}
use Rattle.nm_state.specs.Locking.{IsOn, after_drawing, after_locks, after_new_lock, known_front, locker_of, new_front, refused_lock, test_front}
use Rattle.nm_state.specs.Opening.{Applied, after_release}
use Rattle.nm_state.specs.Turns.{Comes, Locks, Went, reply_behind, start_word}
use Rattle.nm_state.specs.declared.lock_asks.Newcomer.{Newcomer}
use Rattle.nm_state.proofs.OpeningLemmas.{applied_refused, applied_starting, other_refusal}
use Rattle.nm_state.proofs.TurnLemmas.{comes_is, known_is, went_refused_as}

-- ---- ranges

pub range_is : (offset length : ℕ) → None ≡ range_stop offset length → is_no_range offset length ≡ false
range_is offset length free = refuse_if-none (is_no_range offset length) Inval (sym free)

front_parts : (a b c d e : Option OpStatus) → option_or a (option_or b (option_or c (option_or d e))) ≡ None → (d ≡ None) × (e ≡ None)
front_parts a b c d e none =
    or_none d e (or_none c _ (or_none b _ (or_none a _ none).1).1).1

fault_range : (args : LockArgs) → lock_fault args ≡ None → is_no_range args.offset args.length ≡ false
unfolding lock_fault
fault_range args none = range_is args.offset args.length (sym (or_none (range_stop args.offset args.length) _ none).0)

pub new_range : (s : Seen) (file : ℕ) (args : LockArgs) (stateid : StateRef) (verdict : Verdict)
    → None ≡ new_front s file args stateid verdict → is_no_range args.offset args.length ≡ false
unfolding new_front
new_range s file args stateid verdict free = fault_range args (front_parts (lease_stop verdict) _ _ (lock_fault args) _ (sym free)).0

pub known_range : (s : Seen) (file : ℕ) (args : LockArgs) (stateid : StateRef) (verdict : Verdict)
    → None ≡ known_front s file args stateid verdict → is_no_range args.offset args.length ≡ false
unfolding known_front
known_range s file args stateid verdict free = fault_range args (front_parts (lease_stop verdict) _ _ (lock_fault args) _ (sym free)).0

pub test_range : (s : Seen) (file : ℕ) (args : LockTestArgs) (verdict : Verdict)
    → None ≡ test_front s file args verdict → is_no_range args.offset args.length ≡ false
unfolding test_front
test_range s file args verdict free =
    range_is args.offset args.length (sym (or_none (refuse_if (is_dir (current s file)) IsDir) _ (or_none (missing_stop (current s file)) _ (or_none (lease_stop verdict) _ (sym free)).1).1).1)

-- ---- no class but the conflict is DENIED

abbrev NoDenial : Option OpStatus → Type 0
NoDenial None = Unit {0}
NoDenial (Some status) = is_denial status ≡ false

both_plain : (a b : Option OpStatus) → NoDenial a → NoDenial b → NoDenial (option_or a b)
both_plain None b one two = two
both_plain (Some status) b one two = one

refuse_plain : (b : Bool) (status : OpStatus) → is_denial status ≡ false → NoDenial (refuse_if b status)
refuse_plain true status plain = plain
refuse_plain false status plain = tt

lease_plain : (verdict : Verdict) → NoDenial (lease_stop verdict)
unfolding is_denial
lease_plain Pass = tt
lease_plain LeaseMoved = refl

fault_plain : (args : LockArgs) → NoDenial (lock_fault args)
unfolding lock_fault is_denial
fault_plain args = both_plain (range_stop args.offset args.length) _ (refuse_plain (is_no_range args.offset args.length) Inval refl) (refuse_plain args.reclaim NoGrace refl)

seqid_plain : (now given : ℕ) → NoDenial (seqid_stop now given)
unfolding is_denial
seqid_plain now given = by_same (now == given)
  where
    by_age : (b : Bool) → NoDenial (cond b (Some OldStateId) (Some BadStateId))
    by_age true = refl
    by_age false = refl

    by_same : (b : Bool) → NoDenial (cond b None (cond (nat_le ((now + 4294967296 - given) % 4294967296) 2147483648) (Some OldStateId) (Some BadStateId)))
    by_same true = tt
    by_same false = by_age (nat_le ((now + 4294967296 - given) % 4294967296) 2147483648)

mode_plain : (access its : ℕ) → NoDenial (mode_stop access its)
unfolding is_denial
mode_plain access its = refuse_plain _ OpenMode refl

live_plain : (s : Seen) (file : ℕ) (stateid : StateRef) (access : ℕ) (o : Option OpenRow) → NoDenial (live_stop s file stateid access o)
unfolding live_stop stateid_stop is_denial
live_plain s file stateid access None = refl
live_plain s file stateid access (Some row) = by_suits (is_owner_confirmed s row && (row.file == file))
  where
    by_suits : (b : Bool) → NoDenial (cond b (option_or (seqid_stop row.seqid (given_seqid stateid)) (mode_stop access row.access)) (Some BadStateId))
    by_suits true = both_plain (seqid_stop row.seqid (given_seqid stateid)) _ (seqid_plain row.seqid (given_seqid stateid)) (mode_plain access row.access)
    by_suits false = refl

lock_plain : (s : Seen) (file : ℕ) (stateid : StateRef) (access : ℕ) (o : Option LockRow) → NoDenial (lock_live_stop s file stateid access o)
unfolding lock_live_stop lock_stop is_denial
lock_plain s file stateid access None = refl
lock_plain s file stateid access (Some row) = by_file (row.file == file)
  where
    by_file : (b : Bool) → NoDenial (cond b (option_or (seqid_stop row.seqid (given_seqid stateid)) (mode_stop access (opened_access s row))) (Some BadStateId))
    by_file true = both_plain (seqid_stop row.seqid (given_seqid stateid)) _ (seqid_plain row.seqid (given_seqid stateid)) (mode_plain access (opened_access s row))
    by_file false = refl

file_plain : (s : Seen) (file : ℕ) (verdict : Verdict) (more : Option OpStatus) → NoDenial more
    → NoDenial (option_or (lease_stop verdict) (option_or (missing_stop (current s file)) (option_or (refuse_if (is_dir (current s file)) IsDir) more)))
unfolding is_denial
file_plain s file verdict more plain =
    both_plain (lease_stop verdict) _ (lease_plain verdict)
    (both_plain (missing_stop (current s file)) _ (refuse_plain _ Stale refl)
    (both_plain (refuse_if (is_dir (current s file)) IsDir) _ (refuse_plain _ IsDir refl) plain))

new_plain : (s : Seen) (file : ℕ) (args : LockArgs) (stateid : StateRef) (verdict : Verdict) → NoDenial (new_front s file args stateid verdict)
unfolding new_front
new_plain s file args stateid verdict =
    file_plain s file verdict _ (both_plain (lock_fault args) _ (fault_plain args) (live_plain s file stateid (access_for (kind_of args.kind)) (open_named s stateid)))

known_plain : (s : Seen) (file : ℕ) (args : LockArgs) (stateid : StateRef) (verdict : Verdict) → NoDenial (known_front s file args stateid verdict)
unfolding known_front
known_plain s file args stateid verdict =
    file_plain s file verdict _ (both_plain (lock_fault args) _ (fault_plain args) (lock_plain s file stateid (access_for (kind_of args.kind)) (lock_named s stateid)))

pub test_plain : (s : Seen) (file : ℕ) (args : LockTestArgs) (verdict : Verdict) → NoDenial (test_front s file args verdict)
unfolding test_front is_denial
test_plain s file args verdict = file_plain s file verdict _ (refuse_plain (is_no_range args.offset args.length) Inval refl)

rows_plain : (rows : ℕ) → NoDenial (rows_stop rows)
unfolding is_denial
rows_plain rows = refuse_plain _ Resource refl

-- ---- what refuses a LOCK

-- the classes before the conflict, the conflict and the limit
joins : (a b c d e more : Option OpStatus)
    → option_or a (option_or b (option_or c (option_or d (option_or e more)))) ≡ option_or (option_or a (option_or b (option_or c (option_or d e)))) more
joins (Some x) b c d e more = refl
joins None (Some x) c d e more = refl
joins None None (Some x) d e more = refl
joins None None None (Some x) e more = refl
joins None None None None e more = refl

-- A call is refused so.
record IsRefusal (s : Seen) (call : Call) (behind : Option OpStatus) (r : Reply) : Type 0 where
  pub status : OpStatus
  pub stops : Some status ≡ behind
  pub reply : r ≡ reply_by s call (Some (Refuse status))

lock_refused : (s : Seen) (caller : Option Party) (file : ℕ) (args : LockArgs) (front : Option OpStatus) (way : Option Held) (limit : Option OpStatus) (r : Reply)
    → lock_denied s file args ≡ denied_told s.locks way → NoDenial front → NoDenial limit → Some r ≡ refused_lock s front way limit
    → IsRefusal s (record { caller = caller; file = file; deed = deed.Lock args }) (option_or front (option_or (denied_stop way) limit)) r
unfolding is_denial
lock_refused s caller file args (Some status) way limit r denied plain fits it =
    let its : r ≡ reply_with status (told.Lock None) = cc in
    record { status = status; stops = refl; reply = its ∙ ap (reply_with status) (sym (other_refusal s caller file (deed.Lock args) status plain)) }
lock_refused s caller file args None (Some h) limit r denied plain fits it =
    let its : r ≡ reply_with DeniedStatus (told.Lock (option_map IsDenied (denied_told s.locks (Some h)))) = cc in
    record { status = DeniedStatus; stops = refl; reply = its ∙ ap (λ d. reply_with DeniedStatus (told.Lock (option_map IsDenied d))) (sym denied) }
lock_refused s caller file args None None (Some status) r denied plain fits it =
    let its : r ≡ reply_with status (told.Lock None) = cc in
    record { status = status; stops = refl; reply = its ∙ ap (reply_with status) (sym (other_refusal s caller file (deed.Lock args) status fits)) }
lock_refused s caller file args None None None r denied plain fits it = cc

-- nothing does
pub record IsLetBy (f : Option OpStatus) (w : Option Held) (l : Option OpStatus) : Type 0 where
  pub front : f ≡ None
  pub way : w ≡ None
  pub limit : l ≡ None

pub let_by : (s : Seen) (front : Option OpStatus) (way : Option Held) (limit : Option OpStatus) → None ≡ refused_lock s front way limit → IsLetBy front way limit
let_by s (Some status) way limit free = cc
let_by s None (Some h) limit free = cc
let_by s None None (Some status) free = cc
let_by s None None None free = record { front = refl; way = refl; limit = refl }

-- a call that is refused so
refused_went : (s : Seen) (call : Call) (verdict : Verdict) (behind : Option OpStatus) (r : Reply) → IsRefusal s call behind r
    → behind ≡ behind_seqid (checks s call.caller call.file verdict call.deed) → Went s call verdict r None Stays s
refused_went s call verdict behind r refused same =
    subst (λ x. Went s call verdict x None Stays s) (sym refused.reply) (went_refused_as s call verdict refused.status (refused.stops ∙ same))

-- ---- a lock owner that is new on the file

-- with the owner that the call names
abbrev named : Newcomer → Newcomer
named new = record new { owner = lock_owner new.owner.instance new.owner.text }

abbrev asked_by : Call → LockArgs → Newcomer → Call
asked_by call args new = record { caller = Some new.owner.instance; file = call.file; deed = deed.Lock (record args { locker = locker_of new }) }

limit_plain : (s : Seen) (o : Option OpenRow) (new : Newcomer) (file : ℕ) (args : LockArgs) → NoDenial (new_limit s o new.owner file args)
unfolding new_limit is_denial
limit_plain s o new file args = both_plain (refuse_if (nat_le (2 ^ 63) s.last) Resource) _ (refuse_plain _ Resource refl) (rows_plain _)

new_behind : (s : Seen) (call : Call) (args : LockArgs) (new : Newcomer) (verdict : Verdict)
    → option_or (new_front s call.file args new.stateid verdict)
    (option_or (denied_stop (in_the_way s (s.last + 1) call.file args.kind args.offset args.length))
    (new_limit s (open_named s new.stateid) (lock_owner new.owner.instance new.owner.text) call.file args))
    ≡ behind_seqid (lock_checks s (Some new.owner.instance) call.file (record args { locker = locker_of new }) (locker_of new) verdict)
unfolding new_front lock_checks lock_fault new_limit
new_behind s call args new verdict = sym (joins (lease_stop verdict) (missing_stop (current s call.file)) (refuse_if (is_dir (current s call.file)) IsDir) (lock_fault args) _ _)

pub new_refused : (s : Seen) (call : Call) (args : LockArgs) (new : Newcomer) (verdict : Verdict) (r : Reply) → Comes call args new
    → Some r ≡ refused_lock s (new_front s call.file args new.stateid verdict) (in_the_way s (s.last + 1) call.file args.kind args.offset args.length)
    (new_limit s (open_named s new.stateid) new.owner call.file args)
    → Went s call verdict r None Stays s
unfolding locker_counter new_limit
new_refused s call args new verdict r comes it =
    subst (λ q. Went s q verdict r None Stays s) (comes_is call args new comes)
    (refused_went s (asked_by call args new) verdict _ r
    (lock_refused s (Some new.owner.instance) call.file (record args { locker = locker_of new }) (new_front s call.file args new.stateid verdict)
    (in_the_way s (s.last + 1) call.file args.kind args.offset args.length) (new_limit s (open_named s new.stateid) new.owner call.file args) r refl
    (new_plain s call.file args new.stateid verdict) (limit_plain s (open_named s new.stateid) new call.file args) it)
    (ap (λ owner. option_or (new_front s call.file args new.stateid verdict)
    (option_or (denied_stop (in_the_way s (s.last + 1) call.file args.kind args.offset args.length)) (new_limit s (open_named s new.stateid) owner call.file args))) comes.owner
    ∙ new_behind s call args new verdict))

-- what it needs where nothing refuses it
pub record GoesNew (s : Seen) (file : ℕ) (args : LockArgs) : Type 0 where
  pub range : is_no_range args.offset args.length ≡ false
  pub free : in_the_way s (s.last + 1) file args.kind args.offset args.length ≡ None
  pub room : s.last < 2 ^ 63

pub new_goes : (s : Seen) (file : ℕ) (args : LockArgs) (new : Newcomer) (verdict : Verdict)
    → None ≡ refused_lock s (new_front s file args new.stateid verdict) (in_the_way s (s.last + 1) file args.kind args.offset args.length)
    (new_limit s (open_named s new.stateid) new.owner file args)
    → GoesNew s file args
unfolding new_limit
new_goes s file args new verdict free =
    let goes = let_by s (new_front s file args new.stateid verdict) (in_the_way s (s.last + 1) file args.kind args.offset args.length) (new_limit s (open_named s new.stateid) new.owner file args) free in
    record {
      range = new_range s file args new.stateid verdict (sym goes.front);
      free = goes.way;
      room = below (refuse_if-none (nat_le (2 ^ 63) s.last) Resource (or_none (refuse_if (nat_le (2 ^ 63) s.last) Resource) _ goes.limit).0);
    }
  where
    below : nat_le (2 ^ 63) s.last ≡ false → s.last < 2 ^ 63
    below h = grind (arith, nat_tests)

abbrev new_value : Seen → Reply
new_value s = reply_with Nfs4Ok (told.Lock (Some (Locked (record { seqid = 1; fs = s.fs; counter = s.last + 1 }))))

new_went_of : (s : Seen) (call : Call) (args : LockArgs) (new : Newcomer) (verdict : Verdict)
    → None ≡ behind_seqid (lock_checks s (Some new.owner.instance) call.file (record args { locker = locker_of new }) (locker_of new) verdict)
    → Went s (asked_by call args new) verdict (new_value s) None
    (start_word true s (named new).owner new.lock_seqid (asked_by call args new) (new_value s)) (after_new_lock s call.file args (named new))
unfolding after_words tree_after opens_after owners_after closed_after after_new_lock after_drawing after_locks closed_by started_by look locked_stateid
new_went_of s call args new verdict free = record {
  answer = ap (λ x. reply_by s (asked_by call args new) (refusal x)) free;
  tables = refl;
  closed = refl;
  started = refl;
}

pub new_went : (s : Seen) (call : Call) (args : LockArgs) (new : Newcomer) (verdict : Verdict) → Comes call args new
    → None ≡ refused_lock s (new_front s call.file args new.stateid verdict) (in_the_way s (s.last + 1) call.file args.kind args.offset args.length)
    (new_limit s (open_named s new.stateid) new.owner call.file args)
    → Went s call verdict (reply_with Nfs4Ok (told.Lock (Some (Locked (record { seqid = 1; fs = s.fs; counter = s.last + 1 }))))) None
    (start_word true s new.owner new.lock_seqid call (reply_with Nfs4Ok (told.Lock (Some (Locked (record { seqid = 1; fs = s.fs; counter = s.last + 1 }))))))
    (after_new_lock s call.file args new)
new_went s call args new verdict comes free =
    let goes = let_by s (new_front s call.file args new.stateid verdict) (in_the_way s (s.last + 1) call.file args.kind args.offset args.length) (new_limit s (open_named s new.stateid) new.owner call.file args) free in
    let nothing : None ≡ behind_seqid (lock_checks s (Some new.owner.instance) call.file (record args { locker = locker_of new }) (locker_of new) verdict) =
    sym (ap (λ f. option_or f (option_or (denied_stop (in_the_way s (s.last + 1) call.file args.kind args.offset args.length)) (new_limit s (open_named s new.stateid) new.owner call.file args))) goes.front
    ∙ ap (λ w. option_or (denied_stop w) (new_limit s (open_named s new.stateid) new.owner call.file args)) goes.way ∙ goes.limit)
    ∙ ap (λ owner. option_or (new_front s call.file args new.stateid verdict)
    (option_or (denied_stop (in_the_way s (s.last + 1) call.file args.kind args.offset args.length)) (new_limit s (open_named s new.stateid) owner call.file args))) comes.owner
    ∙ new_behind s call args new verdict in
    let same : named new ≡ new = λ i. record new { owner = sym comes.owner i } in
    subst (λ q. Went s q verdict (new_value s) None (start_word true s new.owner new.lock_seqid q (new_value s)) (after_new_lock s call.file args new)) (comes_is call args new comes)
    (subst (λ (n : Newcomer). Went s (asked_by call args new) verdict (new_value s) None (start_word true s n.owner new.lock_seqid (asked_by call args new) (new_value s)) (after_new_lock s call.file args n)) same
    (new_went_of s call args new verdict nothing))

-- ---- the stateid of a lock owner that is there

counter_found : (counter : ℕ) (rows : List LockRow) (row : LockRow) → lock_at counter rows ≡ Some row → row.counter ≡ counter
unfolding lock_at
counter_found counter [] row found = cc
counter_found counter (x ∷ xs) row found = by_head (x.counter == counter) refl found (counter_found counter xs row)
  where
    by_head : (b : Bool) → (x.counter == counter) ≡ b → cond b (Some x) (find (λ y. y.counter == counter) xs) ≡ Some row
        → (find (λ y. y.counter == counter) xs ≡ Some row → row.counter ≡ counter) → row.counter ≡ counter
    by_head true same here later =
        let it : x.counter ≡ row.counter = cc in
        let its : x.counter ≡ counter = grind (arith, nat_tests) in
        sym it ∙ its
    by_head false same here later = later here

-- What is named is found by its counter.
record IsNamed (s : Seen) (stateid : StateRef) (row : LockRow) : Type 0 where
  pub found : lock_at row.counter s.locks ≡ Some row
  pub counter : counter_of stateid ≡ row.counter

is_named : (s : Seen) (stateid : StateRef) (row : LockRow) → lock_named s stateid ≡ Some row → IsNamed s stateid row
unfolding lock_named counter_of
is_named s Zeros row named = cc
is_named s Ones row named = cc
is_named s (Named id) row named = by_fs (id.fs == s.fs) named
  where
    by_fs : (b : Bool) → cond b (lock_at id.counter s.locks) None ≡ Some row → IsNamed s (Named id) row
    by_fs true here =
        let same : row.counter ≡ id.counter = counter_found id.counter s.locks row here in
        record { found = ap (λ k. lock_at k s.locks) same ∙ here; counter = sym same }
    by_fs false here = cc

-- what is changed is found by the counter that is told
pub record IsChanged (s : Seen) (stateid : StateRef) (file : ℕ) (id : StateId) : Type 0 where
  pub on : IsOn file (lock_at id.counter s.locks)
  pub counter : counter_of stateid ≡ id.counter

changed_of : (s : Seen) (file : ℕ) (stateid : StateRef) (access : ℕ) (id : StateId) → lock_live_stop s file stateid access (lock_named s stateid) ≡ None
    → changed_lock s stateid ≡ Some id → IsChanged s stateid file id
unfolding changed_lock lock_live_stop lock_stop
changed_of s file stateid access id live value = by_row (lock_named s stateid) refl live value
  where
    by_row : (o : Option LockRow) → lock_named s stateid ≡ o → lock_live_stop s file stateid access o ≡ None → option_map (next_lock_stateid s.fs) o ≡ Some id → IsChanged s stateid file id
    by_row None named live value = cc
    by_row (Some row) named live value = by_file (row.file == file) refl live
      where
        it : row.counter ≡ id.counter
        it = cc

        its : IsNamed s stateid row
        its = is_named s stateid row named

        by_file : (b : Bool) → (row.file == file) ≡ b
            → cond b (option_or (seqid_stop row.seqid (given_seqid stateid)) (mode_stop access (opened_access s row))) (Some BadStateId) ≡ None → IsChanged s stateid file id
        by_file true same free =
            let here : row.file ≡ file = grind (arith, nat_tests) in
            record {
              on = subst (λ o. IsOn file o) (sym its.found ∙ ap (λ k. lock_at k s.locks) it) here;
              counter = its.counter ∙ it;
            }
        by_file false same free = cc

pub lock_is_named : (s : Seen) (file : ℕ) (stateid : StateRef) (access : ℕ) → lock_live_stop s file stateid access (lock_named s stateid) ≡ None → IsSome (lock_named s stateid)
unfolding lock_live_stop
lock_is_named s file stateid access live = by_row (lock_named s stateid) live
  where
    by_row : (o : Option LockRow) → lock_live_stop s file stateid access o ≡ None → IsSome o
    by_row None live = cc
    by_row (Some row) live = refl

-- what a stateid that is there locks is free
pub give_free : (s : Seen) (counter file : ℕ) (args : LockArgs) (found row : LockRow) (range : Held) → Some found ≡ lock_at counter s.locks → row ≡ renewed_lock found
    → range ≡ record { owner = row.counter; kind = kind_of args.kind; first = args.offset; last = last_of args.offset args.length }
    → IsOn file (lock_at counter s.locks) → in_the_way s counter file args.kind args.offset args.length ≡ None
    → barrier range.owner range.kind range.first range.last (ranges_on row.file s.ranges) ≡ None
unfolding in_the_way
give_free s counter file args found row range is renewed asks on free =
    let here : found.file ≡ file = subst (λ o. IsOn file o) (sym is) on in
    let its : row.file ≡ file = ap (λ (r : LockRow). r.file) renewed ∙ here in
    let same : row.counter ≡ counter = ap (λ (r : LockRow). r.counter) renewed ∙ counter_found counter s.locks found (sym is) in
    ap (λ (h : Held). barrier h.owner h.kind h.first h.last (ranges_on row.file s.ranges)) asks
    ∙ ap (λ k. barrier k (kind_of args.kind) args.offset (last_of args.offset args.length) (ranges_on row.file s.ranges)) same
    ∙ ap (λ f. barrier counter (kind_of args.kind) args.offset (last_of args.offset args.length) (ranges_on f s.ranges)) its
    ∙ free

-- ---- LOCK by it

abbrev locked_by : Call → LockArgs → StateRef → ℕ → Call
locked_by call args stateid seqid = record { caller = call.caller; file = call.file; deed = deed.Lock (record args { locker = Known stateid seqid }) }

known_behind : (s : Seen) (caller : Option Party) (file : ℕ) (args : LockArgs) (stateid : StateRef) (seqid : ℕ) (verdict : Verdict)
    → option_or (known_front s file args stateid verdict)
    (option_or (denied_stop (in_the_way s (counter_of stateid) file args.kind args.offset args.length))
    (rows_stop (rows_with_known s file (ranges_with s (counter_of stateid) file args.kind args.offset args.length))))
    ≡ behind_seqid (lock_checks s caller file (record args { locker = Known stateid seqid }) (Known stateid seqid) verdict)
unfolding known_front lock_checks lock_fault
known_behind s None file args stateid seqid verdict =
    sym (joins (lease_stop verdict) (missing_stop (current s file)) (refuse_if (is_dir (current s file)) IsDir) (lock_fault args) _ _)
known_behind s (Some party) file args stateid seqid verdict =
    sym (joins (lease_stop verdict) (missing_stop (current s file)) (refuse_if (is_dir (current s file)) IsDir) (lock_fault args) _ _)

pub known_refused : (s : Seen) (call : Call) (args : LockArgs) (stateid : StateRef) (seqid : ℕ) (verdict : Verdict) (r : Reply) → Locks call args stateid seqid
    → Some r ≡ refused_lock s (known_front s call.file args stateid verdict) (in_the_way s (counter_of stateid) call.file args.kind args.offset args.length)
    (rows_stop (rows_with_known s call.file (ranges_with s (counter_of stateid) call.file args.kind args.offset args.length)))
    → Went s call verdict r None Stays s
unfolding locker_counter
known_refused s call args stateid seqid verdict r locks it =
    subst (λ q. Went s q verdict r None Stays s) (known_is call args stateid seqid locks)
    (refused_went s (locked_by call args stateid seqid) verdict _ r
    (lock_refused s call.caller call.file (record args { locker = Known stateid seqid }) (known_front s call.file args stateid verdict)
    (in_the_way s (counter_of stateid) call.file args.kind args.offset args.length)
    (rows_stop (rows_with_known s call.file (ranges_with s (counter_of stateid) call.file args.kind args.offset args.length))) r refl
    (known_plain s call.file args stateid verdict) (rows_plain _) it)
    (known_behind s call.caller call.file args stateid seqid verdict))

known_live : (s : Seen) (file : ℕ) (args : LockArgs) (stateid : StateRef) (verdict : Verdict) → known_front s file args stateid verdict ≡ None
    → lock_live_stop s file stateid (access_for (kind_of args.kind)) (lock_named s stateid) ≡ None
unfolding known_front
known_live s file args stateid verdict free = (front_parts (lease_stop verdict) _ _ (lock_fault args) _ free).1

pub known_names : (s : Seen) (file : ℕ) (args : LockArgs) (stateid : StateRef) (verdict : Verdict)
    → None ≡ refused_lock s (known_front s file args stateid verdict) (in_the_way s (counter_of stateid) file args.kind args.offset args.length)
    (rows_stop (rows_with_known s file (ranges_with s (counter_of stateid) file args.kind args.offset args.length)))
    → IsSome (lock_named s stateid)
known_names s file args stateid verdict free =
    lock_is_named s file stateid (access_for (kind_of args.kind)) (known_live s file args stateid verdict (let_by s (known_front s file args stateid verdict) _ _ free).front)

pub record GoesKnown (s : Seen) (file : ℕ) (args : LockArgs) (id : StateId) : Type 0 where
  pub on : IsOn file (lock_at id.counter s.locks)
  pub range : is_no_range args.offset args.length ≡ false
  pub free : in_the_way s id.counter file args.kind args.offset args.length ≡ None

pub known_goes : (s : Seen) (file : ℕ) (args : LockArgs) (stateid : StateRef) (verdict : Verdict) (id : StateId)
    → None ≡ refused_lock s (known_front s file args stateid verdict) (in_the_way s (counter_of stateid) file args.kind args.offset args.length)
    (rows_stop (rows_with_known s file (ranges_with s (counter_of stateid) file args.kind args.offset args.length)))
    → changed_lock s stateid ≡ Some id → GoesKnown s file args id
known_goes s file args stateid verdict id free value =
    let goes = let_by s (known_front s file args stateid verdict) (in_the_way s (counter_of stateid) file args.kind args.offset args.length) _ free in
    let changed = changed_of s file stateid (access_for (kind_of args.kind)) id (known_live s file args stateid verdict goes.front) value in
    record {
      on = changed.on;
      range = known_range s file args stateid verdict (sym goes.front);
      free = ap (λ k. in_the_way s k file args.kind args.offset args.length) (sym changed.counter) ∙ goes.way;
    }

known_went_of : (s : Seen) (caller : Option Party) (file : ℕ) (args : LockArgs) (stateid : StateRef) (seqid : ℕ) (verdict : Verdict) (id : StateId)
    → None ≡ behind_seqid (lock_checks s caller file (record args { locker = Known stateid seqid }) (Known stateid seqid) verdict)
    → changed_lock s stateid ≡ Some id
    → Went s (record { caller = caller; file = file; deed = deed.Lock (record args { locker = Known stateid seqid }) }) verdict (reply_with Nfs4Ok (told.Lock (Some (Locked id)))) None Stays
    (after_locks (claim_if (option_map renewed_lock (lock_at id.counter s.locks)) (kind_of args.kind) args.offset (last_of args.offset args.length)) s)
unfolding after_words tree_after opens_after owners_after closed_after after_locks closed_by started_by look locked_stateid
known_went_of s None file args stateid seqid verdict id free value = record {
  answer = ap (λ v. reply_with Nfs4Ok (told.Lock (option_map Locked v))) (sym value)
      ∙ ap (λ x. reply_by s (record { caller = None; file = file; deed = deed.Lock (record args { locker = Known stateid seqid }) }) (refusal x)) free;
  tables = refl;
  closed = refl;
  started = refl;
}
known_went_of s (Some party) file args stateid seqid verdict id free value = record {
  answer = ap (λ v. reply_with Nfs4Ok (told.Lock (option_map Locked v))) (sym value)
      ∙ ap (λ x. reply_by s (record { caller = Some party; file = file; deed = deed.Lock (record args { locker = Known stateid seqid }) }) (refusal x)) free;
  tables = refl;
  closed = refl;
  started = refl;
}

pub known_went : (s : Seen) (call : Call) (args : LockArgs) (stateid : StateRef) (seqid : ℕ) (verdict : Verdict) (id : StateId) → Locks call args stateid seqid
    → None ≡ refused_lock s (known_front s call.file args stateid verdict) (in_the_way s (counter_of stateid) call.file args.kind args.offset args.length)
    (rows_stop (rows_with_known s call.file (ranges_with s (counter_of stateid) call.file args.kind args.offset args.length)))
    → changed_lock s stateid ≡ Some id
    → Went s call verdict (reply_with Nfs4Ok (told.Lock (Some (Locked id)))) None Stays
    (after_locks (claim_if (option_map renewed_lock (lock_at id.counter s.locks)) (kind_of args.kind) args.offset (last_of args.offset args.length)) s)
known_went s call args stateid seqid verdict id locks free value =
    let goes = let_by s (known_front s call.file args stateid verdict) (in_the_way s (counter_of stateid) call.file args.kind args.offset args.length)
    (rows_stop (rows_with_known s call.file (ranges_with s (counter_of stateid) call.file args.kind args.offset args.length))) free in
    subst (λ q. Went s q verdict (reply_with Nfs4Ok (told.Lock (Some (Locked id)))) None Stays
    (after_locks (claim_if (option_map renewed_lock (lock_at id.counter s.locks)) (kind_of args.kind) args.offset (last_of args.offset args.length)) s)) (known_is call args stateid seqid locks)
    (known_went_of s call.caller call.file args stateid seqid verdict id
    (sym (ap (λ f. option_or f (option_or (denied_stop (in_the_way s (counter_of stateid) call.file args.kind args.offset args.length))
    (rows_stop (rows_with_known s call.file (ranges_with s (counter_of stateid) call.file args.kind args.offset args.length))))) goes.front
    ∙ ap (λ w. option_or (denied_stop w) (rows_stop (rows_with_known s call.file (ranges_with s (counter_of stateid) call.file args.kind args.offset args.length)))) goes.way ∙ goes.limit)
    ∙ known_behind s call.caller call.file args stateid seqid verdict) value)

-- ---- LOCKU

record FreeUnlock (s : Seen) (file : ℕ) (args : UnlockArgs) : Type 0 where
  pub range : is_no_range args.offset args.length ≡ false
  pub live : lock_live_stop s file args.stateid 0 (lock_named s args.stateid) ≡ None

unlock_free : (s : Seen) (caller : Option Party) (file : ℕ) (args : UnlockArgs) (verdict : Verdict) → None ≡ behind_seqid (unlock_checks s caller file args verdict) → FreeUnlock s file args
unfolding unlock_checks
unlock_free s caller file args verdict goes =
    let kind = (or_none (missing_stop (current s file)) _ (or_none (lease_stop verdict) _ (sym goes)).1).1 in
    let arguments = or_none (range_stop args.offset args.length) _ (or_none (refuse_if (is_dir (current s file)) IsDir) _ kind).1 in
    record { range = range_is args.offset args.length (sym arguments.0); live = (or_none (lock_live_stop s file args.stateid 0 (lock_named s args.stateid)) _ arguments.1).0 }

pub unlock_names : (s : Seen) (caller : Option Party) (file : ℕ) (args : UnlockArgs) (verdict : Verdict) → None ≡ behind_seqid (unlock_checks s caller file args verdict)
    → IsSome (lock_named s args.stateid)
unlock_names s caller file args verdict goes = lock_is_named s file args.stateid 0 (unlock_free s caller file args verdict goes).live

pub record GoesUnlock (s : Seen) (args : UnlockArgs) (id : StateId) : Type 0 where
  pub live : IsSome (lock_at id.counter s.locks)
  pub range : is_no_range args.offset args.length ≡ false

pub unlock_goes : (s : Seen) (caller : Option Party) (file : ℕ) (args : UnlockArgs) (verdict : Verdict) (id : StateId) → None ≡ behind_seqid (unlock_checks s caller file args verdict)
    → changed_lock s args.stateid ≡ Some id → GoesUnlock s args id
unlock_goes s caller file args verdict id goes value =
    let free = unlock_free s caller file args verdict goes in
    record { live = is_some (lock_at id.counter s.locks) (changed_of s file args.stateid 0 id free.live value).on; range = free.range }
  where
    is_some : (o : Option LockRow) → IsOn file o → IsSome o
    is_some None on = absurd on
    is_some (Some row) on = refl

pub told_unlock : (s : Seen) (caller : Option Party) (file : ℕ) (args : UnlockArgs) (verdict : Verdict) (id : StateId)
    → None ≡ behind_seqid (unlock_checks s caller file args verdict) → changed_lock s args.stateid ≡ Some id
    → reply_with Nfs4Ok (told.Unlock (Some id)) ≡ reply_behind s (record { caller = caller; file = file; deed = deed.Unlock args }) verdict
told_unlock s caller file args verdict id goes value =
    ap (λ v. reply_with Nfs4Ok (told.Unlock v)) (sym value) ∙ ap (λ x. reply_by s (record { caller = caller; file = file; deed = deed.Unlock args }) (refusal x)) goes

pub went_unlock : (s : Seen) (caller : Option Party) (file : ℕ) (args : UnlockArgs) (verdict : Verdict) (id : StateId)
    → None ≡ behind_seqid (unlock_checks s caller file args verdict) → changed_lock s args.stateid ≡ Some id
    → Went s (record { caller = caller; file = file; deed = deed.Unlock args }) verdict (reply_with Nfs4Ok (told.Unlock (Some id))) None Stays
    (after_locks (clear_if (option_map renewed_lock (lock_at id.counter s.locks)) args.offset (last_of args.offset args.length)) s)
unfolding after_words tree_after opens_after owners_after closed_after after_locks closed_by started_by look
went_unlock s caller file args verdict id goes value = record {
  answer = told_unlock s caller file args verdict id goes value;
  tables = refl;
  closed = refl;
  started = refl;
}

-- ---- LOCKT

pub test_nobody : (s : Seen) (file : ℕ) (args : LockTestArgs) (verdict : Verdict)
    → reply_with StaleClientId (told.LockTest None) ≡ answer_to s (Asked (record { caller = None; file = file; deed = deed.LockTest args }) verdict)
unfolding answer_to test_checks is_denial
test_nobody s file args verdict = refl

test_first : (s : Seen) (party : Party) (file : ℕ) (args : LockTestArgs) (verdict : Verdict)
    → first (test_checks s (Some party) file args verdict) ≡ refusal (option_or (test_front s file args verdict) (option_or (denied_stop (test_barrier s party file args)) None))
unfolding test_checks test_front
test_first s party file args verdict =
    ap refusal (parts (lease_stop verdict) (missing_stop (current s file)) (refuse_if (is_dir (current s file)) IsDir) (range_stop args.offset args.length) _)
  where
    parts : (a b c d more : Option OpStatus) → option_or a (option_or b (option_or c (option_or d more))) ≡ option_or (option_or a (option_or b (option_or c d))) more
    parts (Some x) b c d more = refl
    parts None (Some x) c d more = refl
    parts None None (Some x) d more = refl
    parts None None None d more = refl

pub test_front_answer : (s : Seen) (party : Party) (file : ℕ) (args : LockTestArgs) (verdict : Verdict) (status : OpStatus) → Some status ≡ test_front s file args verdict
    → reply_with status (told.LockTest None) ≡ answer_to s (Asked (record { caller = Some party; file = file; deed = deed.LockTest args }) verdict)
unfolding answer_to
test_front_answer s party file args verdict status stops =
    ap (reply_with status) (sym (other_refusal s (Some party) file (deed.LockTest args) status (subst (λ o. NoDenial o) (sym stops) (test_plain s file args verdict))))
    ∙ ap (λ f. reply_by s (record { caller = Some party; file = file; deed = deed.LockTest args }) (refusal (option_or f (option_or (denied_stop (test_barrier s party file args)) None)))) stops
    ∙ ap (reply_by s (record { caller = Some party; file = file; deed = deed.LockTest args })) (sym (test_first s party file args verdict))

pub test_answered : (s : Seen) (party : Party) (file : ℕ) (args : LockTestArgs) (verdict : Verdict) (way : Option Held) → None ≡ test_front s file args verdict
    → way ≡ test_barrier s party file args
    → reply_by s (record { caller = Some party; file = file; deed = deed.LockTest args }) (refusal (option_or (denied_stop way) None))
    ≡ answer_to s (Asked (record { caller = Some party; file = file; deed = deed.LockTest args }) verdict)
unfolding answer_to
test_answered s party file args verdict way free its =
    ap (λ w. reply_by s (record { caller = Some party; file = file; deed = deed.LockTest args }) (refusal (option_or (denied_stop w) None))) its
    ∙ ap (λ f. reply_by s (record { caller = Some party; file = file; deed = deed.LockTest args }) (refusal (option_or f (option_or (denied_stop (test_barrier s party file args)) None)))) free
    ∙ ap (reply_by s (record { caller = Some party; file = file; deed = deed.LockTest args })) (sym (test_first s party file args verdict))

pub test_free_answer : (s : Seen) (party : Party) (file : ℕ) (args : LockTestArgs) (verdict : Verdict) (way : Option Held) → None ≡ test_front s file args verdict
    → way ≡ test_barrier s party file args → way ≡ None
    → reply_with Nfs4Ok (told.LockTest None) ≡ answer_to s (Asked (record { caller = Some party; file = file; deed = deed.LockTest args }) verdict)
test_free_answer s party file args verdict way free its none = test_answered s party file args verdict None free (sym none ∙ its)

pub test_denied_answer : (s : Seen) (party : Party) (file : ℕ) (args : LockTestArgs) (verdict : Verdict) (way : Option Held) (h : Held) (denied : Option Denied)
    → None ≡ test_front s file args verdict → way ≡ test_barrier s party file args → way ≡ Some h → denied ≡ denied_told s.locks (Some h)
    → reply_with DeniedStatus (told.LockTest denied) ≡ answer_to s (Asked (record { caller = Some party; file = file; deed = deed.LockTest args }) verdict)
unfolding is_denial test_denied
test_denied_answer s party file args verdict way h denied free its found told_so =
    ap (λ d. reply_with DeniedStatus (told.LockTest d)) (told_so ∙ ap (denied_told s.locks) (sym found ∙ its))
    ∙ test_answered s party file args verdict (Some h) free (sym found ∙ its)

pub test_as : (s : Seen) (caller its : Option Party) (file : ℕ) (args : LockTestArgs) (verdict : Verdict) (r : Reply) → caller ≡ its
    → r ≡ answer_to s (Asked (record { caller = its; file = file; deed = deed.LockTest args }) verdict)
    → r ≡ answer_to s (Asked (record { caller = caller; file = file; deed = deed.LockTest args }) verdict)
test_as s caller its file args verdict r is it =
    it ∙ ap (λ who. answer_to s (Asked (record { caller = who; file = file; deed = deed.LockTest args }) verdict)) (sym is)

-- ---- RELEASE_LOCKOWNER

pub release_nobody : (s : Seen) (caller : Option Party) (file : ℕ) (args : ReleaseLockOwnerArgs) (verdict : Verdict) → caller ≡ None
    → Applied s (Asked (record { caller = caller; file = file; deed = deed.ReleaseLockOwner args }) verdict) (reply_with StaleClientId (told.ReleaseLockOwner false)) s
unfolding release_checks seqid_owner
release_nobody s caller file args verdict is =
    subst (λ who. Applied s (Asked (record { caller = who; file = file; deed = deed.ReleaseLockOwner args }) verdict) (reply_with StaleClientId (told.ReleaseLockOwner false)) s) (sym is)
    (applied_refused s (record { caller = None; file = file; deed = deed.ReleaseLockOwner args }) verdict StaleClientId refl refl refl)

pub release_refused : (s : Seen) (caller : Option Party) (party : Party) (file : ℕ) (args : ReleaseLockOwnerArgs) (verdict : Verdict) (status : OpStatus) → caller ≡ Some party
    → Some (Refuse status) ≡ first (release_checks s (Some party) args verdict)
    → Applied s (Asked (record { caller = caller; file = file; deed = deed.ReleaseLockOwner args }) verdict) (reply_with status (told.ReleaseLockOwner false)) s
unfolding seqid_owner
release_refused s caller party file args verdict status is stops =
    subst (λ who. Applied s (Asked (record { caller = who; file = file; deed = deed.ReleaseLockOwner args }) verdict) (reply_with status (told.ReleaseLockOwner false)) s) (sym is)
    (applied_refused s (record { caller = Some party; file = file; deed = deed.ReleaseLockOwner args }) verdict status refl refl stops)

released : (s : Seen) (party : Party) (file : ℕ) (args : ReleaseLockOwnerArgs) (verdict : Verdict) → None ≡ first (release_checks s (Some party) args verdict)
    → Applied s (Asked (record { caller = Some party; file = file; deed = deed.ReleaseLockOwner args }) verdict) (reply_with Nfs4Ok (told.ReleaseLockOwner true))
    (after_release (lock_owner party args.owner) s)
unfolding after_words tree_after opens_after owners_after closed_after after_release seqid_owner started_by look
released s party file args verdict goes =
    applied_starting s (record { caller = Some party; file = file; deed = deed.ReleaseLockOwner args }) verdict _ (Gone (lock_owner party args.owner)) _ refl goes refl refl refl

pub release_goes : (s : Seen) (caller : Option Party) (party : Party) (file : ℕ) (args : ReleaseLockOwnerArgs) (verdict : Verdict) (owner : Owner) → caller ≡ Some party
    → owner ≡ lock_owner party args.owner → None ≡ first (release_checks s (Some party) args verdict)
    → Applied s (Asked (record { caller = caller; file = file; deed = deed.ReleaseLockOwner args }) verdict) (reply_with Nfs4Ok (told.ReleaseLockOwner true)) (after_release owner s)
release_goes s caller party file args verdict owner is its goes =
    subst (λ who. Applied s (Asked (record { caller = who; file = file; deed = deed.ReleaseLockOwner args }) verdict) (reply_with Nfs4Ok (told.ReleaseLockOwner true)) (after_release owner s)) (sym is)
    (subst (λ o. Applied s (Asked (record { caller = Some party; file = file; deed = deed.ReleaseLockOwner args }) verdict) (reply_with Nfs4Ok (told.ReleaseLockOwner true)) (after_release o s)) (sym its)
    (released s party file args verdict goes))
