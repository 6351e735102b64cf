-- Whether it is an operation's turn: what its stateid and its owner's seqid say before all other classes (RFC 7530, 9.1.7).
use Rattle.std.specs.Prelude.{◌≡◌, ℕ, Bool, false, Option, Some, None, nat_le, if◌then◌else◌}
use Rattle.nm_types.specs.Parties.{Party}
use Rattle.nm_rules.specs.Checks.{Checks, Stop, behind_seqid, refusal}
use Rattle.nm_rules.specs.Checks.Stop.{Refuse, Repeat}
use Rattle.nm_rules.specs.LockAsks.{lock_owner}
use Rattle.nm_rules.specs.LockOps.{newcomer_stop}
use Rattle.nm_rules.specs.Opens.{claim_unresolved, rows_limit, rows_taken}
use Rattle.nm_rules.specs.Past.{closed_by, deed_words, noted_row, opener, seqid_owner, started_by, with_owners}
use Rattle.nm_rules.specs.Seen.{Seen, after_words, look}
use Rattle.nm_rules.specs.Seqids.{OwnerWord, closed_after, owner_at, owners_after}
use Rattle.nm_types.specs.Statuses.{advances}
use Rattle.nm_types.specs.Calls.{seqid_of}
use Rattle.nm_rules.specs.Seqids.OwnerWord.{Noted, Stays}
use Rattle.nm_rules.specs.Stateids.{is_own, is_own_lock, owner_stop, resolved}
use Rattle.nm_rules.specs.Answer.{checks, refused_value, reply_by, reply_with}
use Rattle.nm_types.specs.declared.args.LockArgs.{LockArgs}
use Rattle.nm_types.specs.declared.args.Locker.TheVariants.{Known}
use Rattle.nm_types.specs.declared.args.OpenArgs.{OpenArgs}
use Rattle.nm_types.specs.declared.calls.Call.{Call}
use Rattle.nm_types.specs.declared.calls.Deed.{Deed}
use Rattle.nm_types.specs.declared.calls.Deed.TheVariants as deed
use Rattle.nm_types.specs.declared.calls.Event.TheVariants.{Asked}
use Rattle.nm_types.specs.declared.calls.Owner.{Owner}
use Rattle.nm_types.specs.declared.calls.Reply.{Reply}
use Rattle.nm_types.specs.declared.calls.StateRef.{StateRef}
use Rattle.nm_types.specs.declared.calls.Verdict.{Verdict}
use Rattle.nm_types.specs.declared.rows.LockRow.{LockRow}
use Rattle.nm_types.specs.declared.rows.OpenRow.{OpenRow}
use Rattle.nm_types.specs.declared.status.OpStatus.{OpStatus}
use Rattle.nm_types.specs.declared.status.OpStatus.TheVariants.{BadStateId}
use Rattle.nm_state.specs.Locking.{locker_of}
use Rattle.nm_state.specs.Opening.{Applied}
use Rattle.nm_state.specs.declared.lock_asks.Newcomer.{Newcomer}
use Rattle.nm_state.specs.declared.seqids.Turn.{Turn}
use Rattle.nm_state.specs.declared.seqids.Turn.TheVariants.{Answered, Of}

-- what an owner's seqid says
abbrev pub turn_by : Deed → Owner → Option Stop → Turn
turn_by d owner None = Of owner
turn_by d owner (Some (Refuse status)) = Answered (reply_with status (refused_value d))
turn_by d owner (Some (Repeat kept)) = Answered kept

-- an operation on an open, by the row that its stateid stands for
unfoldable pub turn_at : Seen → Option OpenRow → ℕ → Option Party → ℕ → Deed → Turn
turn_at s None seqid caller file d = Answered (reply_with BadStateId (refused_value d))
turn_at s (Some row) seqid caller file d =
    if is_own caller row
    then turn_by d row.owner (owner_stop false (owner_at row.owner s.owners) seqid caller file d)
    else Answered (reply_with BadStateId (refused_value d))

-- an operation on the locks of an owner
unfoldable pub lock_turn_at : Seen → Option LockRow → ℕ → Option Party → ℕ → Deed → Turn
lock_turn_at s None seqid caller file d = Answered (reply_with BadStateId (refused_value d))
lock_turn_at s (Some row) seqid caller file d =
    if is_own_lock caller row
    then turn_by d row.owner (owner_stop false (owner_at row.owner s.owners) seqid caller file d)
    else Answered (reply_with BadStateId (refused_value d))

-- an OPEN
abbrev pub turn_unless : Deed → Option OpStatus → Turn → Turn
turn_unless d None turn = turn
turn_unless d (Some status) turn = Answered (reply_with status (refused_value d))

unfoldable pub turn_to_open : Seen → Party → ℕ → OpenArgs → Turn
turn_to_open s party file args = turn_unless (deed.Open args) (claim_unresolved args.claim)
    (turn_by (deed.Open args) (opener party args)
    (owner_stop (nat_le rows_limit (rows_taken s)) (owner_at (opener party args) s.owners) args.seqid (Some party) file (deed.Open args)))

-- a LOCK of an owner that comes as a new one, unless it doesn't
abbrev pub turn_behind : Deed → Option OpStatus → Turn → Turn
turn_behind d newcomer (Answered r) = Answered r
turn_behind d newcomer (Of owner) = turn_unless d newcomer (Of owner)

unfoldable pub turn_to_lock : Seen → Party → ℕ → LockArgs → Newcomer → Turn
turn_to_lock s party file args new = turn_behind (deed.Lock args) (newcomer_stop s (lock_owner party new.owner.text) file new.lock_seqid)
    (turn_at s (resolved s new.stateid) new.open_seqid (Some party) file (deed.Lock args))

-- Its stateid and its owner's seqid let it pass.
pub record Passes (c : Checks) : Type 0 where
  pub unresolved : c.unresolved ≡ None
  pub seqid : c.seqid ≡ None

-- It is its owner's turn, or it is answered so and nothing changes.
abbrev pub IsTurn : Seen → Call → Verdict → Turn → Type 0
IsTurn s call verdict (Answered r) = Applied s (Asked call verdict) r s
IsTurn s call verdict (Of owner) =
    Passes (checks s call.caller call.file verdict call.deed) × (seqid_owner (look s) call.caller call.deed ≡ Some owner)

-- what an operation whose turn it is is answered
abbrev pub reply_behind : Seen → Call → Verdict → Reply
reply_behind s call verdict = reply_by s call (refusal (behind_seqid (checks s call.caller call.file verdict call.deed)))

-- What an operation whose turn it is leaves of the files, the opens and the locks, its reply, the open that it closed, and the lock
-- owner that it starts.
pub record Went (before : Seen) (call : Call) (verdict : Verdict) (reply : Reply) (gone : Option OpenRow) (start : OwnerWord) (new : Seen) : Type 0 where
  pub answer : reply ≡ reply_behind before call verdict
  pub tables : new ≡ after_words before (with_owners (deed_words (look before) call.caller call.file call.deed reply.value) Stays Stays)
  pub closed : gone ≡ closed_by (look before) call.deed reply.value
  pub started : start ≡ started_by (look before) call reply call.deed reply.value

-- how its owner moves on
unfoldable pub note_word : Seen → Owner → Call → Reply → Option OpenRow → OwnerWord
note_word s owner call r closed =
    if advances r.status then Noted (noted_row (owner_at owner s.owners) owner (seqid_of call.deed) call r) closed else Stays

-- the tables after an owner's word
unfoldable pub after_noting : OwnerWord → Seen → Seen
after_noting word s = record s { owners = owners_after word s.owners; closed = closed_after word s.closed }

-- the word by which a lock owner starts, where it does
abbrev pub start_word : Bool → Seen → Owner → ℕ → Call → Reply → OwnerWord
start_word starts s owner seqid call r = if starts then Noted (noted_row (owner_at owner s.owners) owner seqid call r) None else Stays

-- The call is a LOCK by which a lock owner comes as a new one, which its caller names.
pub record Comes (call : Call) (args : LockArgs) (new : Newcomer) : Type 0 where
  pub asks : call.deed ≡ deed.Lock args
  pub caller : call.caller ≡ Some new.owner.instance
  pub locker : args.locker ≡ locker_of new
  pub owner : new.owner ≡ lock_owner new.owner.instance new.owner.text

-- The call is a LOCK of an owner with this stateid.
pub record Locks (call : Call) (args : LockArgs) (stateid : StateRef) (seqid : ℕ) : Type 0 where
  pub asks : call.deed ≡ deed.Lock args
  pub locker : args.locker ≡ Known stateid seqid
