-- The requests of an action: the reply to each, what goes on with it, and what the client is told of them.
use Rattle.std.specs.Prelude.{ℕ, Bool, true, false, List, [], ◌∷◌, ◌==◌, not, bit_and, map, Option, Some, None, if◌then◌else◌}
use Rattle.nm_rules.specs.Answer.{reply_with, refused_value}
use Rattle.nm_types.specs.Parties.{Party}
use Rattle.nm_types.specs.Statuses.{is_done}
use Rattle.nm_rules.specs.Shares.{next_seqid}
use Rattle.nm_types.specs.declared.action.Action.{Action}
use Rattle.nm_types.specs.declared.action.Action.TheVariants as action
use Rattle.nm_types.specs.declared.args.OpenArgs.{OpenArgs}
use Rattle.nm_types.specs.declared.args.ReadDirArgs.{ReadDirArgs}
use Rattle.nm_types.specs.declared.calls.Call.{Call}
use Rattle.nm_types.specs.declared.calls.Deed.{Deed}
use Rattle.nm_types.specs.declared.calls.Deed.TheVariants as deed
use Rattle.nm_types.specs.declared.calls.Reply.{Reply}
use Rattle.nm_types.specs.declared.calls.ReplyValue.{ReplyValue}
use Rattle.nm_types.specs.declared.calls.ReplyValue.TheVariants as value
use Rattle.nm_types.specs.declared.results.DirEntry.{DirEntry}
use Rattle.nm_types.specs.declared.results.LockOutcome.TheVariants.{Denied as IsDenied}
use Rattle.nm_types.specs.declared.results.Opened.{Opened}
use Rattle.nm_types.specs.declared.results.ReadDirOk.{ReadDirOk}
use Rattle.nm_types.specs.declared.status.OpStatus.{OpStatus}
use Rattle.nm_types.specs.declared.status.OpStatus.TheVariants as status
use Rattle.nm_script.specs.declared.report.Told.{Told}
use Rattle.nm_script.specs.declared.report.Told.TheVariants as told
use Rattle.nm_slot.specs.declared.answers.Answer.{Answer}
use Rattle.nm_slot.specs.declared.answers.Answer.TheVariants as answer
use Rattle.nm_script.specs.declared.script.ClientRow.{ClientRow}
use Rattle.nm_slot.specs.declared.answers.Enter.{Enter}
use Rattle.nm_slot.specs.declared.answers.Enter.TheVariants as enter
use Rattle.nm_short.specs.declared.locking.Freed.{Freed}
use Rattle.nm_short.specs.declared.locking.Freed.TheVariants.{On, Waits, Ends}
use Rattle.nm_short.specs.Known.{confirm_call, list_call, test_call}

-- the requests of one line
abbrev pub requests_limit : ℕ
requests_limit = 1000

-- a call's reply; one that came to no entry has no value
abbrev pub reply_of : Call → Answer → Reply
reply_of call (answer.Done place reply) = reply
reply_of call (answer.Ended era) = reply_with status.Expired (refused_value call.deed)
reply_of call (answer.Strayed pass slot) = reply_with status.ServerFault (refused_value call.deed)
reply_of call (answer.Last count) = reply_with status.Resource (refused_value call.deed)

-- A list that has more goes on behind the last cookie that it was told.
abbrev pub last_cookie : ℕ → List DirEntry → ℕ
last_cookie cookie [] = cookie
last_cookie cookie (entry ∷ entries) = last_cookie entry.cookie entries

abbrev pub more_of : ReadDirArgs → ReadDirOk → Option Call
more_of args ok = if ok.eof then None else Some (list_call (last_cookie args.cookie ok.entries))

-- After an OPEN whose flags have 2 its owner has to be confirmed, with the next seqid (RFC 7530, 16.18).
abbrev pub confirms : Option Party → OpenArgs → Opened → Option Call
confirms caller args opened =
    if not (bit_and opened.ok.rflags 2 == 0) then Some (confirm_call caller opened (next_seqid args.seqid)) else None

-- With the file that a LOOKUP tells goes on what asked for it.
unfoldable pub tests : ℕ → ClientRow → Action → ReplyValue → Option Call
tests client row (action.Test a) (value.Lookup (Some file)) = Some (test_call client row a file)
tests client row _ _ = None

unfoldable pub listing_goes_on : ReadDirArgs → ReplyValue → Option Call
listing_goes_on args (value.ReadDir (Some ok)) = more_of args ok
listing_goes_on args _ = None

unfoldable pub opening_goes_on : Option Party → OpenArgs → ReplyValue → Option Call
opening_goes_on caller args (value.Open (Some opened)) = confirms caller args opened
opening_goes_on caller args _ = None

-- what goes on with an operation of that caller
unfoldable pub goes_on_by : ℕ → ClientRow → Action → Option Party → Deed → ReplyValue → Option Call
goes_on_by client row act caller (deed.ReadDir args) its_value = listing_goes_on args its_value
goes_on_by client row act caller (deed.Open args) its_value = opening_goes_on caller args its_value
goes_on_by client row act caller (deed.Lookup _) its_value = tests client row act its_value
goes_on_by client row act caller _ its_value = None

abbrev pub goes_on_with : ℕ → ClientRow → Action → Call → ReplyValue → Option Call
goes_on_with client row act call its_value = goes_on_by client row act call.caller call.deed its_value

-- the names that a reply lists
unfoldable pub names_of : ReplyValue → List (List ℕ)
names_of (value.ReadDir (Some ok)) = map (λ entry. entry.name) ok.entries
names_of _ = []

-- what a client is told of an OK
unfoldable pub told_ok : ReplyValue → List (List ℕ) → Told
told_ok (value.Write (Some ok)) names = told.Wrote ok.count
told_ok (value.Read (Some ok)) names = told.Read ok
told_ok (value.ReadDir (Some _)) names = told.Listed names
told_ok _ names = told.Answered status.Nfs4Ok

-- and of another status: what is in the way of a lock, and that of a LOOKUP, which decides nothing itself
unfoldable pub told_refused : OpStatus → ReplyValue → Told
told_refused status (value.Lock (Some (IsDenied denied))) = told.Denied denied
told_refused status (value.LockTest (Some denied)) = told.Denied denied
told_refused status (value.Lookup _) = told.Refused status
told_refused status _ = told.Answered status

unfoldable pub told_by : Reply → List (List ℕ) → Told
told_by reply names = if is_done reply.status then told_ok reply.value names else told_refused reply.status reply.value

-- ---- RELEASE_LOCKOWNER, which goes to each file system of a server in turn

-- the owner that an action releases
unfoldable pub released_by : Action → Option (List ℕ)
released_by (action.Release a) = Some a.owner
released_by _ = None

-- The pass of who is let in at a door, by its epoch.
unfoldable pub let_in : Option Enter → Option ℕ
let_in None = None
let_in (Some (enter.Entered pass)) = Some pass.epoch
let_in (Some (enter.Moved _)) = None
let_in (Some (enter.Full _)) = None
let_in (Some enter.Delay) = None
let_in (Some enter.Unknown) = None

-- With OK it goes on with the next file system, and another status is its answer.
unfoldable pub freed_by : OpStatus → Freed
freed_by its_status = if is_done its_status then On else Ends its_status

abbrev pub frees_more : Freed → Bool
frees_more On = true
frees_more Waits = false
frees_more (Ends _) = false

unfoldable pub told_freed : Freed → Told
told_freed On = told.Answered status.Nfs4Ok
told_freed Waits = told.Delayed
told_freed (Ends its_status) = told.Answered its_status

-- A file system that the server doesn't know: where a client looks it up by name it isn't there, and what it has a handle of
-- is stale.
unfoldable pub unknown_status : Action → OpStatus
unknown_status (action.Open _) = status.NoEnt
unknown_status (action.Create _) = status.NoEnt
unknown_status (action.Close _) = status.Stale
unknown_status (action.Downgrade _) = status.Stale
unknown_status (action.Lock _) = status.Stale
unknown_status (action.Unlock _) = status.Stale
unknown_status (action.Test _) = status.NoEnt
unknown_status (action.Release _) = status.NoEnt
unknown_status (action.Read _) = status.Stale
unknown_status (action.Write _) = status.Stale
unknown_status (action.Size _) = status.Stale
unknown_status (action.Remove _) = status.NoEnt
unknown_status (action.MkDir _) = status.NoEnt
unknown_status (action.List _) = status.NoEnt
