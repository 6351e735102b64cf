-- The same run over what the servers have: what the code keeps in the place of the list of steps.
use Rattle.std.specs.Prelude.{ℕ, zero, suc, ◌+◌, ◌≤◌, All, length, Bool, true, false, List, [], ◌∷◌, ◌++◌, Option, Some, None, unwrap_or, replicate, slice_get, slice_set, if◌then◌else◌}
use Rattle.nm_types.specs.Actions.{fs_of}
use Rattle.nm_rules.specs.Held.{held_table}
use Rattle.nm_rules.specs.Seen.{empty}
use Rattle.nm_types.specs.declared.action.Action.{Action}
use Rattle.nm_types.specs.declared.calls.Call.{Call}
use Rattle.nm_types.specs.declared.calls.Reply.{Reply}
use Rattle.nm_types.specs.declared.calls.Verdict.TheVariants.{Pass}
use Rattle.nm_types.specs.declared.cause.Cause.TheVariants as cause
use Rattle.nm_types.specs.declared.status.OpStatus.{OpStatus}
use Rattle.nm_types.specs.declared.status.OpStatus.TheVariants as status
use Rattle.nm_types.specs.declared.table.HeldRow.{HeldRow}
use Rattle.nm_script.specs.declared.script.ClientRow.{ClientRow}
use Rattle.nm_script.specs.declared.script.FsRow.{FsRow}
use Rattle.nm_script.specs.declared.script.Head.{Head}
use Rattle.nm_script.specs.declared.script.Line.{Line}
use Rattle.nm_script.specs.declared.script.Line.TheVariants.{Do, Finish, Move as MoveLine, Freeze as FreezeLine, Abandon as AbandonLine, Commit as CommitLine, Settle as SettleLine, Shift as ShiftLine, Show}
use Rattle.nm_script.specs.declared.report.MoveTold.{MoveTold}
use Rattle.nm_script.specs.declared.report.MoveTold.TheVariants as move_told
use Rattle.nm_script.specs.declared.report.ReportRow.{ReportRow}
use Rattle.nm_script.specs.declared.report.ReportRow.TheVariants.{Idle as IdleClient, Held, NoPacket}
use Rattle.nm_script.specs.declared.report.Told.{Told}
use Rattle.nm_script.specs.declared.report.Told.TheVariants as told
use Rattle.nm_script.specs.Text.{report_text}
use Rattle.nm_slot.specs.declared.answers.Accept.{Accept}
use Rattle.nm_slot.specs.declared.answers.Accept.TheVariants as accept
use Rattle.nm_slot.specs.declared.answers.Begin.{Begin}
use Rattle.nm_slot.specs.declared.answers.Begin.TheVariants as begin
use Rattle.nm_slot.specs.declared.answers.Enter.{Enter}
use Rattle.nm_slot.specs.declared.answers.Enter.TheVariants as enter
use Rattle.nm_slot.specs.declared.answers.Freeze.{Freeze}
use Rattle.nm_slot.specs.declared.answers.Freeze.TheVariants as freeze
use Rattle.nm_slot.specs.declared.answers.Install.{Install}
use Rattle.nm_slot.specs.declared.answers.Install.TheVariants as install
use Rattle.nm_slot.specs.declared.phase.Phase.{Phase as SlotPhase}
use Rattle.nm_slot.specs.declared.phase.Phase.TheVariants as slot_phase
use Rattle.nm_slot.specs.Answers.{enter_answer, apply_answer, begin_answer, freeze_answer, image_answer, commit_answer, abandon_answer, abandon_ends, accept_answer, install_answer, install_ends}
use Rattle.nm_slot.specs.Changes.{slot_after}
use Rattle.nm_slot.specs.Phases.{Phase}
use Rattle.nm_slot.specs.Phases.Phase.{At, Closing, Frozen, Passing}
use Rattle.nm_slot.specs.SlotNow.{Offer, Stage, SlotView, SlotStep, HandedOver, nothing_yet, phase_of}
use Rattle.nm_slot.specs.SlotNow.Doing.{Serves}
use Rattle.nm_slot.specs.SlotNow.HandedOver.{Committed, Again, Dead}
use Rattle.nm_slot.specs.SlotNow.SlotStep.{Entering, Leaving, Applying, Beginning, Freezing, Committing, Abandoning, Accepting, Installing}
use Rattle.nm_slot.specs.SlotNow.Stage.{Away, Here}
use Rattle.nm_short.specs.declared.locking.Freed.{Freed}
use Rattle.nm_short.specs.declared.locking.Freed.TheVariants.{On, Waits, Ends}
use Rattle.nm_short.specs.Known.{Known, knows_nothing, learned, call_of, place_of, sent_to, hand_of, put_down, taken_up, known_freed}
use Rattle.nm_short.specs.Requests.{requests_limit, reply_of, goes_on_with, names_of, told_by, released_by, let_in, freed_by, frees_more, told_freed, unknown_status}
use Rattle.nm_short.specs.ShortRun.{Order, fs_name, phase_shown, phase_row, move_row, abandon_told, outcome}
use Rattle.nm_short.specs.ShortRun.Order.{ToMove, ToFreeze, ToAbandon, ToCommit, ToSettle, ToShift, ToShow}

-- ---- a file system

-- the latest offer that was sent, with its source and its destination
pub record SentTo : Type 0 where
  pub source : ℕ
  pub dest : ℕ
  pub offer : Offer

-- the latest move of which word was sent that it was handed over, with its destination
pub record HandedTo : Type 0 where
  pub dest : ℕ
  pub number : ℕ

-- Its number, the server that has it at first, what each server has of it, the server that has it or handed it over, and
-- what was sent last.
pub record FileTables : Type 0 where
  pub fs : ℕ
  pub first : ℕ
  pub slots : List SlotView
  pub at : ℕ
  pub offer : Option SentTo
  pub handed : Option HandedTo

-- a server that had no part in it
abbrev pub no_part : ℕ → SlotView
no_part fs = record { fs = fs; stage = Away; own = nothing_yet }

unfoldable pub slot_in : FileTables → ℕ → SlotView
slot_in f s = unwrap_or (slice_get f.slots s) (no_part f.fs)

unfoldable pub stepped : FileTables → ℕ → SlotStep → FileTables
stepped f s step = record f { slots = slice_set f.slots s (slot_after (slot_in f s) step) }

-- the phase, by what the server does that has it or handed it over, and the greatest number that this server knows
abbrev pub phase_by : ℕ → SlotPhase → ℕ → Phase
phase_by at slot_phase.Never known = At at
phase_by at slot_phase.Serving known = At at
phase_by at (slot_phase.Closing dest number) known = Closing at dest number
phase_by at (slot_phase.Frozen dest number) known = Frozen at dest number
phase_by at (slot_phase.Gone dest epoch) known = Passing at dest known
phase_by at (slot_phase.Incoming epoch number) known = At at

unfoldable pub phase_in : FileTables → Phase
phase_in f = phase_by f.at (phase_of (slot_in f f.at)) (slot_in f f.at).own.known

-- ---- what an operator has done

pub record WentTo : Type 0 where
  pub rows : List ReportRow
  pub file : FileTables
  pub well : Bool

abbrev pub goes_well_to : Head → FileTables → WentTo
goes_well_to head f = record { rows = phase_row head f.fs (phase_in f) ∷ []; file = f; well = true }

abbrev pub ends_in : Head → FileTables → MoveTold → WentTo
ends_in head f what = record { rows = move_row head f.fs what ∷ []; file = f; well = false }

unfoldable pub begin_to : Head → FileTables → Begin → WentTo
begin_to head f (begin.Begun number) = goes_well_to head f
begin_to head f begin.NotServed = ends_in head f move_told.NotServed
begin_to head f (begin.Busy number) = ends_in head f (move_told.Busy number)
begin_to head f begin.Same = ends_in head f move_told.Same
begin_to head f begin.Last = ends_in head f move_told.Last

unfoldable pub begins_to : Head → FileTables → ℕ → WentTo
begins_to head f dest =
    let a = begin_answer (slot_in f f.at) f.at dest in
    begin_to head (stepped f f.at (Beginning f.at dest a)) a

-- what is sent of a frozen state
abbrev pub sends : ℕ → SlotPhase → Option Offer → Option SentTo → Option SentTo
sends s (slot_phase.Frozen dest number) (Some offer) before = Some (record { source = s; dest = dest; offer = offer })
sends s phase offer before = before

unfoldable pub offers_in : FileTables → FileTables
offers_in f =
    record f { offer = sends f.at (phase_of (slot_in f f.at)) (image_answer (slot_in f f.at)) f.offer }

unfoldable pub freeze_to : Head → FileTables → Freeze → WentTo
freeze_to head f (freeze.Frozen number) = goes_well_to head (offers_in f)
freeze_to head f (freeze.Waiting passes) = ends_in head f (move_told.Waiting passes)
freeze_to head f freeze.Idle = ends_in head f move_told.Idle

unfoldable pub freezes_to : Head → FileTables → WentTo
freezes_to head f =
    let a = freeze_answer (slot_in f f.at) in
    freeze_to head (stepped f f.at (Freezing a)) a

unfoldable pub abandons_to : Head → FileTables → WentTo
abandons_to head f =
    let a = abandon_answer (slot_in f f.at) in
    ends_in head (stepped f f.at (Abandoning (abandon_ends (slot_in f f.at)) a)) (abandon_told head f.at a)

abbrev pub hands : HandedOver → ℕ → ℕ → Option HandedTo → Option HandedTo
hands (Committed parties) dest number before = Some (record { dest = dest; number = number })
hands Again dest number before = Some (record { dest = dest; number = number })
hands (Dead current) dest number before = before

unfoldable pub commits_in : FileTables → SentTo → FileTables
commits_in f sent =
    let a = commit_answer (slot_in f sent.source) sent.offer.number in
    record (stepped f sent.source (Committing sent.offer.number a)) { handed = hands a sent.dest sent.offer.number f.handed }

unfoldable pub accept_to : Head → FileTables → SentTo → Accept → WentTo
accept_to head f sent accept.Held = goes_well_to head (commits_in f sent)
accept_to head f sent (accept.Old known) = ends_in head f (move_told.Refused (cause.Old known))
accept_to head f sent accept.Live = ends_in head f (move_told.Refused cause.Live)

abbrev pub nothing_sent : FileTables → WentTo
nothing_sent f = record { rows = NoPacket ∷ []; file = f; well = false }

unfoldable pub delivers_to : Head → FileTables → Option SentTo → WentTo
delivers_to head f None = nothing_sent f
delivers_to head f (Some sent) =
    let a = accept_answer (slot_in f sent.dest) sent.offer.number in
    accept_to head (stepped f sent.dest (Accepting sent.offer [] a)) sent a

abbrev pub commits_to : Head → FileTables → WentTo
commits_to head f = delivers_to head f f.offer

-- the server that installs it has it
abbrev pub had_by : Install → ℕ → ℕ → ℕ
had_by install.Now dest at = dest
had_by install.Already dest at = at
had_by install.Absent dest at = at

unfoldable pub settles_by : Head → FileTables → Option HandedTo → WentTo
settles_by head f None = nothing_sent f
settles_by head f (Some handed) =
    let a = install_answer (slot_in f handed.dest) handed.number in
    goes_well_to head (record (stepped f handed.dest (Installing handed.number (install_ends (slot_in f handed.dest)) a)) { at = had_by a handed.dest f.at })

abbrev pub settles_to : Head → FileTables → WentTo
settles_to head f = settles_by head f f.handed

abbrev pub then_to : WentTo → WentTo → WentTo
then_to before next = if before.well then record next { rows = before.rows ++ next.rows } else before

unfoldable pub shifts_to : Head → FileTables → ℕ → WentTo
shifts_to head f dest =
    let one = begins_to head f dest in
    let two = then_to one (freezes_to head one.file) in
    let three = then_to two (commits_to head two.file) in
    then_to three (settles_to head three.file)

-- ---- what a client does

pub record TriedTo : Type 0 where
  pub file : FileTables
  pub known : Known
  pub told : Told

pub record KnockedTo : Type 0 where
  pub file : FileTables
  pub server : ℕ
  pub door : Option Enter

unfoldable pub knocks_to : ℕ → FileTables → ℕ → KnockedTo
knocks_to zero f s = record { file = f; server = s; door = None }
knocks_to (suc n) f s = elim (enter_answer (slot_in f s)) [
  | enter.Moved dest ↦ knocks_to n (stepped f s (Entering (enter.Moved dest))) dest
  | enter.Entered pass ↦ record { file = stepped f s (Entering (enter.Entered pass)); server = s; door = Some (enter.Entered pass) }
  | enter.Full passes ↦ record { file = stepped f s (Entering (enter.Full passes)); server = s; door = Some (enter.Full passes) }
  | enter.Delay ↦ record { file = stepped f s (Entering enter.Delay); server = s; door = Some enter.Delay }
  | enter.Unknown ↦ record { file = stepped f s (Entering enter.Unknown); server = s; door = Some enter.Unknown }
]

pub record AskedTo : Type 0 where
  pub file : FileTables
  pub known : Known
  pub reply : Option Reply
  pub names : List (List ℕ)

unfoldable pub asks_to : ℕ → FileTables → ℕ → ℕ → ℕ → ClientRow → Action → Call → Known → List (List ℕ) → AskedTo
asks_to zero f s epoch client row act call known names = record { file = f; known = known; reply = None; names = names }
asks_to (suc n) f s epoch client row act call known names =
    let a = apply_answer (slot_in f s) epoch None call Pass in
    let reply = reply_of call a in
    let now = stepped f s (Applying epoch None call Pass [] a) in
    let knows = learned client act call reply known in
    let listed = names ++ names_of reply.value in
    elim (goes_on_with client row act call reply.value) [
      | None ↦ record { file = now; known = knows; reply = Some reply; names = listed }
      | Some next ↦ asks_to n now s epoch client row act next knows listed
    ]

abbrev pub waits_to : FileTables → ℕ → Action → Known → Told → TriedTo
waits_to f client act known what =
    record { file = f; known = record known { in_hand = taken_up client act known.in_hand }; told = what }

unfoldable pub asked_to : FileTables → ℕ → Action → Known → List (List ℕ) → Option Reply → TriedTo
asked_to f client act known names None = waits_to f client act known told.Stopped
asked_to f client act known names (Some reply) = record {
  file = f;
  known = record known { in_hand = put_down client known.in_hand };
  told = told_by reply names;
}

unfoldable pub calls_to : FileTables → ℕ → ℕ → ℕ → ClientRow → Action → Call → Known → TriedTo
calls_to f s epoch client row act call known =
    let asked = asks_to requests_limit f s epoch client row act call known [] in
    asked_to (stepped asked.file s (Leaving epoch)) client act asked.known asked.names asked.reply

abbrev pub refused_to : FileTables → ℕ → Known → OpStatus → TriedTo
refused_to f client known why = record { file = f; known = record known { in_hand = put_down client known.in_hand }; told = told.Refused why }

unfoldable pub door_to : FileTables → ℕ → Option Enter → ℕ → ClientRow → Action → Call → Known → TriedTo
door_to f s None client row act call known = waits_to f client act known told.Stopped
door_to f s (Some (enter.Entered pass)) client row act call known = calls_to f s pass.epoch client row act call known
door_to f s (Some enter.Delay) client row act call known = waits_to f client act known told.Delayed
door_to f s (Some (enter.Moved dest)) client row act call known = waits_to f client act known told.Stopped
door_to f s (Some (enter.Full passes)) client row act call known = refused_to f client known status.Resource
door_to f s (Some enter.Unknown) client row act call known = refused_to f client known (unknown_status act)

unfoldable pub tries_to : FileTables → ℕ → ClientRow → Action → Call → Known → TriedTo
tries_to f client row act call known =
    let knocked = knocks_to requests_limit f (place_of client f.fs f.first known.places) in
    door_to knocked.file knocked.server knocked.door client row act call
    (record known { places = sent_to client f.fs knocked.server known.places })

-- ---- what a server releases

pub record FreedTo : Type 0 where
  pub file : FileTables
  pub freed : Freed

unfoldable pub frees_within_to : FileTables → ℕ → ℕ → Call → FreedTo
frees_within_to f s epoch call =
    let a = apply_answer (slot_in f s) epoch None call Pass in
    record { file = stepped (stepped f s (Applying epoch None call Pass [] a)) s (Leaving epoch); freed = freed_by (reply_of call a).status }

unfoldable pub frees_after_to : FileTables → ℕ → Call → Enter → FreedTo
frees_after_to f s call (enter.Entered pass) = frees_within_to f s pass.epoch call
frees_after_to f s call (enter.Moved dest) = record { file = f; freed = On }
frees_after_to f s call (enter.Full passes) = record { file = f; freed = Ends status.Resource }
frees_after_to f s call enter.Delay = record { file = f; freed = Waits }
frees_after_to f s call enter.Unknown = record { file = f; freed = On }

unfoldable pub frees_to : FileTables → ℕ → Call → FreedTo
frees_to f s call =
    let a = enter_answer (slot_in f s) in
    frees_after_to (stepped f s (Entering a)) s call a

pub record FreedAllTo : Type 0 where
  pub files : List FileTables
  pub freed : Freed

abbrev pub freed_then_to : FreedTo → List FileTables → FreedAllTo → FreedAllTo
freed_then_to one rest further =
    if frees_more one.freed then record { files = one.file ∷ further.files; freed = further.freed }
    else record { files = one.file ∷ rest; freed = one.freed }

unfoldable pub frees_all_to : List FileTables → ℕ → Call → FreedAllTo
frees_all_to [] s call = record { files = []; freed = On }
frees_all_to (f ∷ fs) s call = freed_then_to (frees_to f s call) fs (frees_all_to fs s call)

unfoldable pub left_to : List FileTables → ℕ → ℕ → ℕ → Option FileTables → List FileTables
left_to files fs s epoch None = files
left_to files fs s epoch (Some f) = slice_set files fs (stepped f s (Leaving epoch))

abbrev pub leaves_to : List FileTables → ℕ → ℕ → ℕ → List FileTables
leaves_to files fs s epoch = left_to files fs s epoch (slice_get files fs)

-- ---- the run

-- what the servers have, and what the clients know
pub record TablesNow : Type 0 where
  pub files : List FileTables
  pub known : Known

-- what a line prints, and what it leaves
pub record Step : Type 0 where
  pub rows : List ReportRow
  pub next : TablesNow

abbrev pub says_nothing : TablesNow → Step
says_nothing t = record { rows = []; next = t }

abbrev pub told_tried : TablesNow → ClientRow → Action → TriedTo → Step
told_tried t row act tried = record {
  rows = outcome row act tried.told ∷ [];
  next = record { files = slice_set t.files (fs_of act) tried.file; known = tried.known };
}

unfoldable pub frees_at_to : TablesNow → ℕ → ClientRow → Action → List ℕ → Call → ℕ → ℕ → Step
frees_at_to t client row act owner call s epoch =
    let all = frees_all_to t.files s call in
    record {
      rows = outcome row act (told_freed all.freed) ∷ [];
      next = record {
        files = leaves_to all.files (fs_of act) s epoch;
        known = known_freed client act owner s all.freed t.known;
      };
    }

unfoldable pub turned_to : TablesNow → ℕ → ClientRow → Action → Call → ℕ → Option Enter → Option FileTables → Step
turned_to t client row act call s door None = says_nothing t
turned_to t client row act call s door (Some f) = told_tried t row act (door_to f s door client row act call t.known)

unfoldable pub released_to : TablesNow → ℕ → ClientRow → Action → List ℕ → Call → ℕ → Option Enter → Option ℕ → Step
released_to t client row act owner call s door None = turned_to t client row act call s door (slice_get t.files (fs_of act))
released_to t client row act owner call s door (Some epoch) = frees_at_to t client row act owner call s epoch

unfoldable pub releases_to : TablesNow → ℕ → ClientRow → Action → List ℕ → Call → Option FileTables → Step
releases_to t client row act owner call None = says_nothing t
releases_to t client row act owner call (Some f) =
    let knocked = knocks_to requests_limit f (place_of client f.fs f.first t.known.places) in
    released_to (record {
      files = slice_set t.files (fs_of act) knocked.file;
      known = record t.known { places = sent_to client f.fs knocked.server t.known.places };
    }) client row act owner call knocked.server knocked.door (let_in knocked.door)

unfoldable pub told_tries : TablesNow → ℕ → ClientRow → Action → Call → Option FileTables → Step
told_tries t client row act call None = says_nothing t
told_tries t client row act call (Some f) = told_tried t row act (tries_to f client row act call t.known)

unfoldable pub told_found : TablesNow → ℕ → ClientRow → Action → Call → Option (List ℕ) → Option FileTables → Step
told_found t client row act call None f = told_tries t client row act call f
told_found t client row act call (Some owner) f = releases_to t client row act owner call f

unfoldable pub told_call : TablesNow → ℕ → ClientRow → Action → Option Call → Option FileTables → Step
told_call t client row act None f = record { rows = outcome row act told.NoState ∷ []; next = t }
told_call t client row act (Some call) f = told_found t client row act call (released_by act) f

unfoldable pub told_act : TablesNow → ℕ → ClientRow → Action → Step
told_act t client row act = told_call t client row act (call_of client row t.known act) (slice_get t.files (fs_of act))

unfoldable pub told_start : TablesNow → ℕ → ClientRow → Action → Option Action → Step
told_start t client row act (Some in_hand) = record { rows = outcome row act told.Busy ∷ []; next = t }
told_start t client row act None = told_act t client row act

unfoldable pub told_go_on : TablesNow → ℕ → ClientRow → Option Action → Step
told_go_on t client row None = record { rows = IdleClient (record { client = row.name }) ∷ []; next = t }
told_go_on t client row (Some act) = told_act t client row act

unfoldable pub told_do : TablesNow → ℕ → Action → Option ClientRow → Step
told_do t client act None = says_nothing t
told_do t client act (Some row) = told_start t client row act (hand_of client t.known.in_hand)

unfoldable pub told_finish : TablesNow → ℕ → Option ClientRow → Step
told_finish t client None = says_nothing t
told_finish t client (Some row) = told_go_on t client row (hand_of client t.known.in_hand)

-- what a server shows: what stands in the state that is here, else in the offer that it holds
abbrev pub offer_table : Option Offer → Option (List HeldRow)
offer_table None = None
offer_table (Some offer) = Some (held_table offer.state)

abbrev pub stage_table : Stage → Option Offer → Option (List HeldRow)
stage_table (Here doing state) held = Some (held_table state)
stage_table Away held = offer_table held

abbrev pub table_of : SlotView → Option (List HeldRow)
table_of v = stage_table v.stage v.own.held

-- where the file system was handed over, the destination shows it
unfoldable pub shower : FileTables → SlotPhase → ℕ
shower f (slot_phase.Gone dest epoch) = dest
shower f _ = f.at

unfoldable pub shown_table : FileTables → List HeldRow
shown_table f = unwrap_or (table_of (slot_in f (shower f (phase_of (slot_in f f.at))))) []

abbrev pub held_line : Head → FileTables → ReportRow
held_line head f = Held (record {
  file_system = fs_name head f.fs;
  phase = phase_shown head (phase_in f);
  table = shown_table f;
})

unfoldable pub ordered_to : Head → FileTables → Order → WentTo
ordered_to head f (ToMove dest) = begins_to head f dest
ordered_to head f ToFreeze = freezes_to head f
ordered_to head f ToAbandon = abandons_to head f
ordered_to head f ToCommit = commits_to head f
ordered_to head f ToSettle = settles_to head f
ordered_to head f (ToShift dest) = shifts_to head f dest
ordered_to head f ToShow = record { rows = held_line head f ∷ []; file = f; well = true }

abbrev pub told_went : TablesNow → ℕ → WentTo → Step
told_went t fs went = record { rows = went.rows; next = record t { files = slice_set t.files fs went.file } }

unfoldable pub told_order : Head → TablesNow → ℕ → Order → Option FileTables → Step
told_order head t fs order None = says_nothing t
told_order head t fs order (Some f) = told_went t fs (ordered_to head f order)

abbrev pub told_ordered : Head → TablesNow → ℕ → Order → Step
told_ordered head t fs order = told_order head t fs order (slice_get t.files fs)

unfoldable pub told_line : Head → TablesNow → Line → Step
told_line head t (Do client act) = told_do t client act (slice_get head.clients client)
told_line head t (Finish client) = told_finish t client (slice_get head.clients client)
told_line head t (MoveLine fs to) = told_ordered head t fs (ToMove to)
told_line head t (FreezeLine fs) = told_ordered head t fs ToFreeze
told_line head t (AbandonLine fs) = told_ordered head t fs ToAbandon
told_line head t (CommitLine fs) = told_ordered head t fs ToCommit
told_line head t (SettleLine fs) = told_ordered head t fs ToSettle
told_line head t (ShiftLine fs to) = told_ordered head t fs (ToShift to)
told_line head t (Show fs) = told_ordered head t fs ToShow

-- the text of the lines from here on
unfoldable pub text_from : Head → TablesNow → List Line → List ℕ
text_from head t [] = []
text_from head t (line ∷ lines) = report_text (told_line head t line).rows ++ text_from head (told_line head t line).next lines

-- at first a file system is served at one server, and no other server had a part in it
abbrev pub first_slot : ℕ → SlotView
first_slot fs = record { fs = fs; stage = Here Serves (empty fs false); own = nothing_yet }

abbrev pub first_slots : ℕ → ℕ → ℕ → List SlotView
first_slots servers fs at = slice_set (replicate servers (no_part fs)) at (first_slot fs)

abbrev pub tables_at_first : ℕ → ℕ → List FsRow → List FileTables
tables_at_first servers fs [] = []
tables_at_first servers fs (row ∷ rows) =
    record { fs = fs; first = row.at; slots = first_slots servers fs row.at; at = row.at; offer = None; handed = None }
    ∷ tables_at_first servers (fs + 1) rows

abbrev pub tables_of_head : Head → TablesNow
tables_of_head head = record { files = tables_at_first (length head.servers) 0 head.file_systems; known = knows_nothing }

-- names as a script has them
abbrev pub AreShort : List ClientRow → Type 0
AreShort rows = All (λ row. length row.name ≤ 16) rows
