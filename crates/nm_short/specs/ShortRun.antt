-- The run of a script without messages: each call of a client reaches a server at once, and its reply the client; what
-- the servers of a move send one another is delivered by the lines `commit` and `settle`. A file system is nothing but
-- the list of its servers' steps.
use Rattle.std.specs.Prelude.{ℕ, zero, suc, ◌+◌, Bool, true, false, List, [], ◌∷◌, ◌++◌, Option, Some, None, option_map, unwrap_or, slice_get, slice_set, if◌then◌else◌}
use Rattle.nm_types.specs.Actions.{verb_of, fs_of}
use Rattle.nm_rules.specs.Held.{held_table}
use Rattle.nm_types.specs.declared.action.Action.{Action}
use Rattle.nm_types.specs.declared.calls.Call.{Call}
use Rattle.nm_types.specs.declared.calls.Verdict.TheVariants.{Pass}
use Rattle.nm_types.specs.declared.calls.Reply.{Reply}
use Rattle.nm_types.specs.declared.cause.Cause.TheVariants as cause
use Rattle.nm_types.specs.declared.status.OpStatus.{OpStatus}
use Rattle.nm_types.specs.declared.status.OpStatus.TheVariants as status
use Rattle.nm_script.specs.declared.script.ClientRow.{ClientRow}
use Rattle.nm_script.specs.declared.script.Head.{Head}
use Rattle.nm_script.specs.declared.script.FsRow.{FsRow}
use Rattle.nm_script.specs.declared.script.Line.{Line}
use Rattle.nm_script.specs.declared.script.Line.TheVariants.{Do, Finish, Move as MoveLine, Freeze as FreezeLine, Abandon as AbandonLine, Commit as CommitLine, Settle as SettleLine, Shift as ShiftLine, Show}
use Rattle.nm_script.specs.declared.script.Script.{Script}
use Rattle.nm_script.specs.declared.report.MoveTold.{MoveTold}
use Rattle.nm_script.specs.declared.report.MoveTold.TheVariants as move_told
use Rattle.nm_script.specs.declared.report.ReportRow.{ReportRow}
use Rattle.nm_script.specs.declared.report.ReportRow.TheVariants.{Outcome, Idle as IdleClient, Held, Phase as PhaseLine, Move as MoveRow, NoPacket}
use Rattle.nm_script.specs.declared.report.PhaseNow.{PhaseNow}
use Rattle.nm_script.specs.declared.report.PhaseNow.TheVariants as shown
use Rattle.nm_script.specs.declared.report.Told.{Told}
use Rattle.nm_script.specs.declared.report.Told.TheVariants as told
use Rattle.nm_slot.specs.declared.answers.Abandon.{Abandon}
use Rattle.nm_slot.specs.declared.answers.Abandon.TheVariants as abandon
use Rattle.nm_slot.specs.declared.answers.Accept.{Accept}
use Rattle.nm_slot.specs.declared.answers.Accept.TheVariants as accept
use Rattle.nm_slot.specs.declared.answers.Begin.{Begin}
use Rattle.nm_slot.specs.declared.answers.Begin.TheVariants as begin
use Rattle.nm_slot.specs.declared.answers.Enter.{Enter}
use Rattle.nm_slot.specs.declared.answers.Enter.TheVariants as enter
use Rattle.nm_slot.specs.declared.answers.Freeze.{Freeze}
use Rattle.nm_slot.specs.declared.answers.Freeze.TheVariants as freeze
use Rattle.nm_slot.specs.Answers.{enter_answer, apply_answer, begin_answer, freeze_answer, image_answer, commit_answer, abandon_answer, abandon_ends, accept_answer, install_answer, install_ends}
use Rattle.nm_slot.specs.History.{Home, slot_now, tables_now}
use Rattle.nm_slot.specs.Moves.{Sent, move_now, latest_offer, latest_handed}
use Rattle.nm_slot.specs.Phases.{Phase, Moment, phase_now, source_of}
use Rattle.nm_slot.specs.Phases.Phase.{At, Closing, Frozen, Passing}
use Rattle.nm_slot.specs.SlotNow.{SlotView, SlotStep}
use Rattle.nm_slot.specs.SlotNow.SlotStep.{Entering, Leaving, Applying, Beginning, Freezing, Imaging, Committing, Abandoning, Accepting, Installing}
use Rattle.nm_short.specs.declared.locking.Freed.{Freed}
use Rattle.nm_short.specs.declared.locking.Freed.TheVariants.{On, Waits, Ends}
use Rattle.nm_short.specs.Known.{Known, knows_nothing, learned, call_of, place_of, sent_to, hand_of, put_down, taken_up, known_freed}
use Rattle.nm_short.specs.Requests.{requests_limit, reply_of, goes_on_with, names_of, told_by, released_by, let_in, freed_by, frees_more, told_freed, unknown_status}

-- ---- a file system

-- where it is at first, and what its servers did so far, the newest first
pub record FileNow : Type 0 where
  pub home : Home
  pub moments : List Moment

-- what a server's slot has of it
abbrev pub at_server : FileNow → ℕ → SlotView
at_server f s = slot_now f.home f.moments s

-- one more step of a server
abbrev pub did : FileNow → ℕ → SlotStep → FileNow
did f s step = record f { moments = record { server = s; step = step } ∷ f.moments }

abbrev pub phase_of_file : FileNow → Phase
phase_of_file f = phase_now f.home.first f.moments

-- the server that serves, closes or froze it, or else the source of the move under way
abbrev pub source : FileNow → ℕ
source f = source_of (phase_of_file f)

-- ---- names

abbrev pub server_name : Head → ℕ → List ℕ
server_name head s = unwrap_or (option_map (λ row. row.name) (slice_get head.servers s)) []

abbrev pub fs_name : Head → ℕ → List ℕ
fs_name head fs = unwrap_or (option_map (λ row. row.name) (slice_get head.file_systems fs)) []

unfoldable pub phase_shown : Head → Phase → PhaseNow
phase_shown head (At s) = shown.At (server_name head s)
phase_shown head (Closing s d number) = shown.Closing (record { source = server_name head s; dest = server_name head d; number = number })
phase_shown head (Frozen s d number) = shown.Frozen (record { source = server_name head s; dest = server_name head d; number = number })
phase_shown head (Passing s d number) = shown.Passing (record { source = server_name head s; dest = server_name head d; number = number })

abbrev pub phase_row : Head → ℕ → Phase → ReportRow
phase_row head fs phase = PhaseLine (record { file_system = fs_name head fs; phase = phase_shown head phase })

abbrev pub move_row : Head → ℕ → MoveTold → ReportRow
move_row head fs what = MoveRow (record { file_system = fs_name head fs; told = what })

-- ---- what an operator has done with a file system: what is printed, what it leaves, and whether it came to what it was
-- for

pub record Went : Type 0 where
  pub rows : List ReportRow
  pub file : FileNow
  pub well : Bool

abbrev pub goes_well : Head → FileNow → Went
goes_well head f = record { rows = phase_row head f.home.fs (phase_of_file f) ∷ []; file = f; well = true }

abbrev pub ends_with : Head → FileNow → MoveTold → Went
ends_with head f what = record { rows = move_row head f.home.fs what ∷ []; file = f; well = false }

-- `move F S`: a begin step
unfoldable pub after_begin : Head → FileNow → Begin → Went
after_begin head f (begin.Begun number) = goes_well head f
after_begin head f begin.NotServed = ends_with head f move_told.NotServed
after_begin head f (begin.Busy number) = ends_with head f (move_told.Busy number)
after_begin head f begin.Same = ends_with head f move_told.Same
after_begin head f begin.Last = ends_with head f move_told.Last

unfoldable pub begins : Head → FileNow → ℕ → Went
begins head f dest =
    let s = source f in
    let a = begin_answer (at_server f s) s dest in
    after_begin head (did f s (Beginning s dest a)) a

-- `freeze F`: a freeze step, and where it froze the offer is sent
abbrev pub offers_at : FileNow → ℕ → FileNow
offers_at f s = did f s (Imaging (image_answer (at_server f s)))

unfoldable pub after_freeze : Head → FileNow → ℕ → Freeze → Went
after_freeze head f s (freeze.Frozen number) = goes_well head (offers_at f s)
after_freeze head f s (freeze.Waiting passes) = ends_with head f (move_told.Waiting passes)
after_freeze head f s freeze.Idle = ends_with head f move_told.Idle

unfoldable pub freezes : Head → FileNow → Went
freezes head f =
    let s = source f in
    let a = freeze_answer (at_server f s) in
    after_freeze head (did f s (Freezing a)) s a

-- `abandon F`: an abandon step
unfoldable pub abandon_told : Head → ℕ → Abandon → MoveTold
abandon_told head s (abandon.Back number) = move_told.Back (server_name head s)
abandon_told head s abandon.Late = move_told.Late (server_name head s)
abandon_told head s abandon.Idle = move_told.Idle

unfoldable pub abandons : Head → FileNow → Went
abandons head f =
    let s = source f in
    let a = abandon_answer (at_server f s) in
    ends_with head (did f s (Abandoning (abandon_ends (at_server f s)) a)) (abandon_told head s a)

-- `commit F`: the latest offer reaches its destination, and the answer its source. Where it is held the source commits.
abbrev pub commits_at : FileNow → ℕ → ℕ → FileNow
commits_at f s number = did f s (Committing number (commit_answer (at_server f s) number))

unfoldable pub after_accept : Head → FileNow → ℕ → ℕ → Accept → Went
after_accept head f s number accept.Held = goes_well head (commits_at f s number)
after_accept head f s number (accept.Old known) = ends_with head f (move_told.Refused (cause.Old known))
after_accept head f s number accept.Live = ends_with head f (move_told.Refused cause.Live)

abbrev pub no_packet : FileNow → Went
no_packet f = record { rows = NoPacket ∷ []; file = f; well = false }

unfoldable pub delivers_offer : Head → FileNow → Option Sent → Went
delivers_offer head f None = no_packet f
delivers_offer head f (Some sent) =
    let d = (move_now f.moments sent.offer.number).dest in
    let a = accept_answer (at_server f d) sent.offer.number in
    after_accept head (did f d (Accepting sent.offer [] a)) sent.source sent.offer.number a

unfoldable pub commits : Head → FileNow → Went
commits head f = delivers_offer head f (latest_offer f.moments)

-- `settle F`: the latest word that it was handed over reaches its destination, which installs what it holds.
unfoldable pub delivers_handed : Head → FileNow → Option ℕ → Went
delivers_handed head f None = no_packet f
delivers_handed head f (Some number) =
    let d = (move_now f.moments number).dest in
    goes_well head (did f d (Installing number (install_ends (at_server f d)) (install_answer (at_server f d) number)))

unfoldable pub settles : Head → FileNow → Went
settles head f = delivers_handed head f (latest_handed f.moments)

-- `shift F S`: these four, as far as each goes well
abbrev pub and_then : Went → Went → Went
and_then before next = if before.well then record next { rows = before.rows ++ next.rows } else before

unfoldable pub shifts : Head → FileNow → ℕ → Went
shifts head f dest =
    let one = begins head f dest in
    let two = and_then one (freezes head one.file) in
    let three = and_then two (commits head two.file) in
    and_then three (settles head three.file)

-- ---- what a client does

-- What came of an action: the steps of the servers, what the clients know, and what its client was told.
pub record Tried : Type 0 where
  pub file : FileNow
  pub known : Known
  pub told : Told

-- A client knocks where it believes the file system to be, and where it is sent elsewhere, there, so many times at most.
pub record Knocked : Type 0 where
  pub file : FileNow
  -- the server where it knocked last, and the answer there; none where it was sent on each time
  pub server : ℕ
  pub door : Option Enter

unfoldable pub knocks : ℕ → FileNow → ℕ → Knocked
knocks zero f s = record { file = f; server = s; door = None }
knocks (suc n) f s = elim (enter_answer (at_server f s)) [
  | enter.Moved dest ↦ knocks n (did f s (Entering (enter.Moved dest))) dest
  | enter.Entered pass ↦ record { file = did f s (Entering (enter.Entered pass)); server = s; door = Some (enter.Entered pass) }
  | enter.Full passes ↦ record { file = did f s (Entering (enter.Full passes)); server = s; door = Some (enter.Full passes) }
  | enter.Delay ↦ record { file = did f s (Entering enter.Delay); server = s; door = Some enter.Delay }
  | enter.Unknown ↦ record { file = did f s (Entering enter.Unknown); server = s; door = Some enter.Unknown }
]

-- What came of an action's first request and of those that go on with it, so many at most: what the clients know, the last
-- reply, none where there were more to make, and the names that all of them listed. The client learns from each reply.
pub record Asked : Type 0 where
  pub file : FileNow
  pub known : Known
  pub reply : Option Reply
  pub names : List (List ℕ)

unfoldable pub asks : ℕ → FileNow → ℕ → ℕ → ℕ → ClientRow → Action → Call → Known → List (List ℕ) → Asked
asks zero f s epoch client row act call known names = record { file = f; known = known; reply = None; names = names }
asks (suc n) f s epoch client row act call known names =
    let a = apply_answer (at_server f s) epoch None call Pass in
    let reply = reply_of call a in
    let now = did f s (Applying epoch None call Pass [] a) in
    let knows = learned client act call reply known in
    let listed = names ++ names_of reply.value in
    elim (goes_on_with client row act call reply.value) [
      | None ↦ record { file = now; known = knows; reply = Some reply; names = listed }
      | Some next ↦ asks n now s epoch client row act next knows listed
    ]

abbrev pub stays_in_hand : FileNow → ℕ → Action → Known → Told → Tried
stays_in_hand f client act known what =
    record { file = f; known = record known { in_hand = taken_up client act known.in_hand }; told = what }

unfoldable pub after_asking : FileNow → ℕ → Action → Known → List (List ℕ) → Option Reply → Tried
after_asking f client act known names None = stays_in_hand f client act known told.Stopped
after_asking f client act known names (Some reply) = record {
  file = f;
  known = record known { in_hand = put_down client known.in_hand };
  told = told_by reply names;
}

-- with the pass the calls are made, and the pass comes back
unfoldable pub calls_at : FileNow → ℕ → ℕ → ℕ → ClientRow → Action → Call → Known → Tried
calls_at f s epoch client row act call known =
    let asked = asks requests_limit f s epoch client row act call known [] in
    after_asking (did asked.file s (Leaving epoch)) client act asked.known asked.names asked.reply

abbrev pub is_refused : FileNow → ℕ → Known → OpStatus → Tried
is_refused f client known why = record { file = f; known = record known { in_hand = put_down client known.in_hand }; told = told.Refused why }

-- what the door answered
unfoldable pub at_door : FileNow → ℕ → Option Enter → ℕ → ClientRow → Action → Call → Known → Tried
at_door f s None client row act call known = stays_in_hand f client act known told.Stopped
at_door f s (Some (enter.Entered pass)) client row act call known = calls_at f s pass.epoch client row act call known
at_door f s (Some enter.Delay) client row act call known = stays_in_hand f client act known told.Delayed
at_door f s (Some (enter.Moved dest)) client row act call known = stays_in_hand f client act known told.Stopped
at_door f s (Some (enter.Full passes)) client row act call known = is_refused f client known status.Resource
at_door f s (Some enter.Unknown) client row act call known = is_refused f client known (unknown_status act)

-- The client believes the file system to be where it knocked last.
unfoldable pub tries : FileNow → ℕ → ClientRow → Action → Call → Known → Tried
tries f client row act call known =
    let knocked = knocks requests_limit f (place_of client f.home.fs f.home.first known.places) in
    at_door knocked.file knocked.server knocked.door client row act call
    (record known { places = sent_to client f.home.fs knocked.server known.places })

-- ---- what a server releases

-- What came of a RELEASE_LOCKOWNER in one file system at a server.
pub record FreedFile : Type 0 where
  pub file : FileNow
  pub freed : Freed

-- with the pass the call is made, and the pass comes back
unfoldable pub frees_within : FileNow → ℕ → ℕ → Call → FreedFile
frees_within f s epoch call =
    let a = apply_answer (at_server f s) epoch None call Pass in
    record { file = did (did f s (Applying epoch None call Pass [] a)) s (Leaving epoch); freed = freed_by (reply_of call a).status }

-- A file system that isn't there is passed over.
unfoldable pub frees_after : FileNow → ℕ → Call → Enter → FreedFile
frees_after f s call (enter.Entered pass) = frees_within f s pass.epoch call
frees_after f s call (enter.Moved dest) = record { file = f; freed = On }
frees_after f s call (enter.Full passes) = record { file = f; freed = Ends status.Resource }
frees_after f s call enter.Delay = record { file = f; freed = Waits }
frees_after f s call enter.Unknown = record { file = f; freed = On }

unfoldable pub frees : FileNow → ℕ → Call → FreedFile
frees f s call =
    let a = enter_answer (at_server f s) in
    frees_after (did f s (Entering a)) s call a

-- each file system by its number, until one ends it
pub record FreedFiles : Type 0 where
  pub files : List FileNow
  pub freed : Freed

abbrev pub freed_then : FreedFile → List FileNow → FreedFiles → FreedFiles
freed_then one rest further =
    if frees_more one.freed then record { files = one.file ∷ further.files; freed = further.freed }
    else record { files = one.file ∷ rest; freed = one.freed }

unfoldable pub frees_all : List FileNow → ℕ → Call → FreedFiles
frees_all [] s call = record { files = []; freed = On }
frees_all (f ∷ fs) s call = freed_then (frees f s call) fs (frees_all fs s call)

-- a pass of a file system comes back
unfoldable pub left_by : List FileNow → ℕ → ℕ → ℕ → Option FileNow → List FileNow
left_by files fs s epoch None = files
left_by files fs s epoch (Some f) = slice_set files fs (did f s (Leaving epoch))

abbrev pub leaves_at : List FileNow → ℕ → ℕ → ℕ → List FileNow
leaves_at files fs s epoch = left_by files fs s epoch (slice_get files fs)

-- ---- the run

-- Each file system, and what the clients know.
pub record RunNow : Type 0 where
  pub files : List FileNow
  pub known : Known

-- what a line prints, and what it leaves
pub record Ran : Type 0 where
  pub rows : List ReportRow
  pub run : RunNow

abbrev pub nothing_said : RunNow → Ran
nothing_said r = record { rows = []; run = r }

abbrev pub outcome : ClientRow → Action → Told → ReportRow
outcome row act what = Outcome (record { client = row.name; verb = verb_of act; told = what })

abbrev pub ran_tried : RunNow → ClientRow → Action → Tried → Ran
ran_tried r row act t = record {
  rows = outcome row act t.told ∷ [];
  run = record { files = slice_set r.files (fs_of act) t.file; known = t.known };
}

-- With a pass of the file system that it names, the client asks the server to release the owner in each file system.
unfoldable pub frees_at : RunNow → ℕ → ClientRow → Action → List ℕ → Call → ℕ → ℕ → Ran
frees_at r client row act owner call s epoch =
    let all = frees_all r.files s call in
    record {
      rows = outcome row act (told_freed all.freed) ∷ [];
      run = record {
        files = leaves_at all.files (fs_of act) s epoch;
        known = known_freed client act owner s all.freed r.known;
      };
    }

-- not let in, as with every action
unfoldable pub turned_away : RunNow → ℕ → ClientRow → Action → Call → ℕ → Option Enter → Option FileNow → Ran
turned_away r client row act call s door None = nothing_said r
turned_away r client row act call s door (Some f) = ran_tried r row act (at_door f s door client row act call r.known)

-- what came of the knock at the file system that it names
unfoldable pub released_at : RunNow → ℕ → ClientRow → Action → List ℕ → Call → ℕ → Option Enter → Option ℕ → Ran
released_at r client row act owner call s door None = turned_away r client row act call s door (slice_get r.files (fs_of act))
released_at r client row act owner call s door (Some epoch) = frees_at r client row act owner call s epoch

unfoldable pub releases : RunNow → ℕ → ClientRow → Action → List ℕ → Call → Option FileNow → Ran
releases r client row act owner call None = nothing_said r
releases r client row act owner call (Some f) =
    let knocked = knocks requests_limit f (place_of client f.home.fs f.home.first r.known.places) in
    released_at (record {
      files = slice_set r.files (fs_of act) knocked.file;
      known = record r.known { places = sent_to client f.home.fs knocked.server r.known.places };
    }) client row act owner call knocked.server knocked.door (let_in knocked.door)

unfoldable pub ran_tries : RunNow → ℕ → ClientRow → Action → Call → Option FileNow → Ran
ran_tries r client row act call None = nothing_said r
ran_tries r client row act call (Some f) = ran_tried r row act (tries f client row act call r.known)

-- a release of an owner, and every other action
unfoldable pub ran_found : RunNow → ℕ → ClientRow → Action → Call → Option (List ℕ) → Option FileNow → Ran
ran_found r client row act call None f = ran_tries r client row act call f
ran_found r client row act call (Some owner) f = releases r client row act owner call f

-- Without a stateid that it needs nothing is sent.
unfoldable pub ran_call : RunNow → ℕ → ClientRow → Action → Option Call → Option FileNow → Ran
ran_call r client row act None f = record { rows = outcome row act told.NoState ∷ []; run = r }
ran_call r client row act (Some call) f = ran_found r client row act call (released_by act) f

unfoldable pub acts : RunNow → ℕ → ClientRow → Action → Ran
acts r client row act = ran_call r client row act (call_of client row r.known act) (slice_get r.files (fs_of act))

-- `do C ACTION`: a client does one thing at a time.
unfoldable pub starts : RunNow → ℕ → ClientRow → Action → Option Action → Ran
starts r client row act (Some in_hand) = record { rows = outcome row act told.Busy ∷ []; run = r }
starts r client row act None = acts r client row act

-- `do C finish`: it goes on with what waits.
unfoldable pub goes_on : RunNow → ℕ → ClientRow → Option Action → Ran
goes_on r client row None = record { rows = IdleClient (record { client = row.name }) ∷ []; run = r }
goes_on r client row (Some act) = acts r client row act

-- a line of a client; a number that no client has says nothing
unfoldable pub ran_do : RunNow → ℕ → Action → Option ClientRow → Ran
ran_do r client act None = nothing_said r
ran_do r client act (Some row) = starts r client row act (hand_of client r.known.in_hand)

unfoldable pub ran_finish : RunNow → ℕ → Option ClientRow → Ran
ran_finish r client None = nothing_said r
ran_finish r client (Some row) = goes_on r client row (hand_of client r.known.in_hand)

-- a line of an operator
abbrev pub ran_went : RunNow → ℕ → Went → Ran
ran_went r fs went = record { rows = went.rows; run = record r { files = slice_set r.files fs went.file } }

-- What stands in a file system is what its entries left, wherever it is.
abbrev pub held_row : Head → FileNow → ReportRow
held_row head f = Held (record {
  file_system = fs_name head f.home.fs;
  phase = phase_shown head (phase_of_file f);
  table = held_table (tables_now f.home f.moments);
})

-- What a line does with its file system; a number that none has says nothing.
pub data Order : Type 0 where
  ToMove : (dest : ℕ) → Order
  ToFreeze : Order
  ToAbandon : Order
  ToCommit : Order
  ToSettle : Order
  ToShift : (dest : ℕ) → Order
  ToShow : Order

unfoldable pub ordered : Head → FileNow → Order → Went
ordered head f (ToMove dest) = begins head f dest
ordered head f ToFreeze = freezes head f
ordered head f ToAbandon = abandons head f
ordered head f ToCommit = commits head f
ordered head f ToSettle = settles head f
ordered head f (ToShift dest) = shifts head f dest
ordered head f ToShow = record { rows = held_row head f ∷ []; file = f; well = true }

unfoldable pub ran_order : Head → RunNow → ℕ → Order → Option FileNow → Ran
ran_order head r fs order None = nothing_said r
ran_order head r fs order (Some f) = ran_went r fs (ordered head f order)

abbrev pub gives_order : Head → RunNow → ℕ → Order → Ran
gives_order head r fs order = ran_order head r fs order (slice_get r.files fs)

unfoldable pub run_line : Head → RunNow → Line → Ran
run_line head r (Do client act) = ran_do r client act (slice_get head.clients client)
run_line head r (Finish client) = ran_finish r client (slice_get head.clients client)
run_line head r (MoveLine fs to) = gives_order head r fs (ToMove to)
run_line head r (FreezeLine fs) = gives_order head r fs ToFreeze
run_line head r (AbandonLine fs) = gives_order head r fs ToAbandon
run_line head r (CommitLine fs) = gives_order head r fs ToCommit
run_line head r (SettleLine fs) = gives_order head r fs ToSettle
run_line head r (ShiftLine fs to) = gives_order head r fs (ToShift to)
run_line head r (Show fs) = gives_order head r fs ToShow

-- the reports of the lines, in order
unfoldable pub reports : Head → RunNow → List Line → List (List ReportRow)
reports head r [] = []
reports head r (line ∷ lines) = (run_line head r line).rows ∷ reports head (run_line head r line).run lines

-- the file systems of these rows, numbered from here on, before any step
abbrev pub files_from : ℕ → List FsRow → List FileNow
files_from fs [] = []
files_from fs (row ∷ rows) =
    record { home = record { fs = fs; grants = false; first = row.at }; moments = [] } ∷ files_from (fs + 1) rows

-- The run of a script: at first no server has done anything, and no client knows anything.
unfoldable pub short_run : Script → List (List ReportRow)
short_run s = reports s.head (record { files = files_from 0 s.head.file_systems; known = knows_nothing }) s.lines
