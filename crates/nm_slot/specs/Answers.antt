-- What each call on a file system at a server answers, by what the server has of it.
use Rattle.std.specs.Prelude.{◌==◌, ◌||◌, ◌&&◌, not, nat_le, nat_lt, ℕ, ◌+◌, ◌-◌, ◌^◌, Bool, true, false, List, [], length, Option, Some, None, Result, Err, if◌then◌else◌}
use Rattle.nm_types.specs.declared.leases.LeasePass.{LeasePass}
use Rattle.nm_rules.specs.Answer.{answer_to}
use Rattle.nm_rules.specs.Holders.{holders, has_row}
use Rattle.nm_types.specs.Parties.{Party}
use Rattle.nm_rules.specs.Seen.{Seen}
use Rattle.nm_types.specs.declared.calls.Call.{Call}
use Rattle.nm_types.specs.declared.calls.Event.TheVariants.{Asked}
use Rattle.nm_types.specs.declared.calls.StateId.{StateId}
use Rattle.nm_types.specs.declared.calls.Verdict.{Verdict}
use Rattle.nm_types.specs.declared.status.OpStatus.{OpStatus}
use Rattle.nm_types.specs.declared.status.OpStatus.TheVariants.{BadStateId}
use Rattle.nm_state.specs.State.{holder_of}
use Rattle.nm_slot.specs.declared.answers.Abandon.{Abandon}
use Rattle.nm_slot.specs.declared.answers.Abandon.TheVariants as abandon
use Rattle.nm_slot.specs.declared.answers.Accept.{Accept}
use Rattle.nm_slot.specs.declared.answers.Accept.TheVariants as accept
use Rattle.nm_slot.specs.declared.answers.Answer.{Answer}
use Rattle.nm_slot.specs.declared.answers.Answer.TheVariants as answer
use Rattle.nm_slot.specs.declared.answers.Begin.{Begin}
use Rattle.nm_slot.specs.declared.answers.Begin.TheVariants as begin
use Rattle.nm_slot.specs.declared.answers.Enter.{Enter}
use Rattle.nm_slot.specs.declared.answers.Enter.TheVariants as enter
use Rattle.nm_slot.specs.declared.answers.Freeze.{Freeze}
use Rattle.nm_slot.specs.declared.answers.Freeze.TheVariants as freeze
use Rattle.nm_slot.specs.declared.answers.Install.{Install}
use Rattle.nm_slot.specs.declared.answers.Install.TheVariants as install
use Rattle.nm_slot.specs.declared.answers.Swept.{Swept}
use Rattle.nm_slot.specs.declared.eras.EraRow.{EraRow}
use Rattle.nm_slot.specs.declared.answers.Swept.TheVariants as sweep
use Rattle.nm_slot.specs.Eras.{row_of, is_late, era_seen, one_if, ends_late, ends_brought, after_ends}
use Rattle.nm_slot.specs.SlotNow.{Doing, Stage, Offer, Left, Own, SlotView, HandedOver}
use Rattle.nm_slot.specs.SlotNow.Doing.{Serves, Closes, Froze}
use Rattle.nm_slot.specs.SlotNow.Stage.{Away, Here}
use Rattle.nm_slot.specs.SlotNow.HandedOver.{Committed, Again, Dead}

-- ---- the door

-- A server that hasn't the state lets nobody in: a held offer is on its way, and after a commit the file system is at
-- that commit's destination.
abbrev pub turned_away : Option Offer → Option Left → Enter
turned_away (Some offer) left = enter.Delay
turned_away None (Some left) = enter.Moved left.dest
turned_away None None = enter.Unknown

abbrev pub let_in : ℕ → Doing → Own → Enter
let_in fs Serves own =
    if nat_le (2 ^ 63) own.out then enter.Full own.out else enter.Entered (record { fs = fs; epoch = own.epoch })
let_in fs (Closes dest number) own = enter.Delay
let_in fs (Froze dest number) own = enter.Delay

abbrev pub entered : ℕ → Stage → Own → Enter
entered fs (Here doing state) own = let_in fs doing own
entered fs Away own = turned_away own.held own.left

unfoldable pub enter_answer : SlotView → Enter
enter_answer v = entered v.fs v.stage v.own

-- ---- calls

-- from so many entries on no call and no sweep makes a further one, so that the ends at an install have room
abbrev pub is_full : Own → Bool
is_full own = nat_le (2 ^ 63 - 2 ^ 17) own.count

-- its entry comes after those of the rows that end before it
abbrev pub done_after : List Party → Call → Verdict → Seen → Own → Answer
done_after ends call verdict state own =
    answer.Done (own.count + length ends + 1) (answer_to (after_ends ends state) (Asked call verdict))

-- an instance has something in the state that is here
abbrev pub has_here : Party → Stage → Bool
has_here party Away = false
has_here party (Here doing state) = has_row party state

-- what an instance has of an earlier era ends before its first call of a later one
abbrev pub ends_before : Option LeasePass → Stage → List EraRow → List Party
ends_before None stage rows = []
ends_before (Some lease) stage rows = one_if (nat_lt (row_of lease.instance rows).era lease.era && has_here lease.instance stage) lease.instance

-- A pass of this epoch makes a call whose lease doesn't come too late, while there is room for its entry.
abbrev pub called : ℕ → Option LeasePass → Call → Verdict → Seen → List Party → Own → Answer
called epoch lease call verdict state ends own =
    if not (epoch == own.epoch) then answer.Strayed epoch own.epoch else
    if is_late lease own.eras then answer.Ended (era_seen lease own.eras) else
    if is_full own then answer.Last own.count else
    done_after ends call verdict state own

-- calls are taken while the state is served, and while its move waits for those under way
abbrev pub applied : ℕ → Option LeasePass → Call → Verdict → Stage → Own → Answer
applied epoch lease call verdict (Here Serves state) own =
    called epoch lease call verdict state (ends_before lease (Here Serves state) own.eras) own
applied epoch lease call verdict (Here (Closes dest number) state) own =
    called epoch lease call verdict state (ends_before lease (Here (Closes dest number) state) own.eras) own
applied epoch lease call verdict (Here (Froze dest number) state) own = answer.Strayed epoch own.epoch
applied epoch lease call verdict Away own = answer.Strayed epoch own.epoch

unfoldable pub apply_answer : SlotView → ℕ → Option LeasePass → Call → Verdict → Answer
apply_answer v epoch lease call verdict = applied epoch lease call verdict v.stage v.own

unfoldable pub apply_ends : SlotView → Option LeasePass → List Party
apply_ends v lease = ends_before lease v.stage v.own.eras

-- the instance for whose owner a stateid stands here, if it can be resolved
abbrev pub resolved_at : StateId → Stage → Result Party OpStatus
resolved_at id Away = Err BadStateId
resolved_at id (Here doing state) = holder_of state id

unfoldable pub resolve_answer : SlotView → StateId → Result Party OpStatus
resolve_answer v id = resolved_at id v.stage

-- ---- an era that has ended

abbrev pub put_off_if : Bool → Swept
put_off_if true = sweep.PutOff
put_off_if false = sweep.Nothing

abbrev pub swept_held : Party → Option Offer → Swept
swept_held party None = sweep.Nothing
swept_held party (Some offer) = put_off_if (has_row party offer.state)

abbrev pub swept_here : Own → Swept
swept_here own = if is_full own then sweep.Last else sweep.Ended

-- The rows end where calls are taken. While the state is frozen or on offer here their end is put off.
abbrev pub swept_at : Party → Stage → Own → Swept
swept_at party (Here Serves state) own = swept_here own
swept_at party (Here (Closes dest number) state) own = swept_here own
swept_at party (Here (Froze dest number) state) own = put_off_if (has_row party state)
swept_at party Away own = swept_held party own.held

-- The end of an era that isn't the latest one seen here changes nothing.
abbrev pub swept_by : Bool → Party → Stage → Own → Swept
swept_by true party stage own = sweep.Nothing
swept_by false party stage own = swept_at party stage own

abbrev pub is_past : Party → ℕ → Own → Bool
is_past party era own = nat_lt era (row_of party own.eras).era

unfoldable pub sweep_answer : SlotView → Party → ℕ → Swept
sweep_answer v party era = swept_by (is_past party era v.own) party v.stage v.own

-- what it has here would end
unfoldable pub sweep_ends : SlotView → Party → List Party
sweep_ends v party = one_if (has_here party v.stage) party

-- ---- the source

-- No move begins where its number, the epoch or the count of entries would have no successor.
abbrev pub is_at_end : Own → Bool
is_at_end own = nat_le (2 ^ 63) own.known || nat_le (2 ^ 63) own.epoch || nat_lt (2 ^ 63) own.count

abbrev pub begun : ℕ → ℕ → Stage → Own → Begin
begun here dest Away own = begin.NotServed
begun here dest (Here (Closes to number) state) own = begin.Busy number
begun here dest (Here (Froze to number) state) own = begin.Busy number
begun here dest (Here Serves state) own =
    if here == dest then begin.Same else
    if is_at_end own then begin.Last else begin.Begun (own.known + 1)

unfoldable pub begin_answer : SlotView → ℕ → ℕ → Begin
begin_answer v here dest = begun here dest v.stage v.own

-- A move waits until no pass is out.
abbrev pub frozen : Stage → Own → Freeze
frozen (Here (Closes dest number) state) own = if own.out == 0 then freeze.Frozen number else freeze.Waiting own.out
frozen (Here (Froze dest number) state) own = freeze.Frozen number
frozen (Here Serves state) own = freeze.Idle
frozen Away own = freeze.Idle

unfoldable pub freeze_answer : SlotView → Freeze
freeze_answer v = frozen v.stage v.own

-- What is on offer is the frozen state, for the next epoch.
abbrev pub offered : Stage → Own → Option Offer
offered (Here (Froze dest number) state) own =
    Some (record { number = number; epoch = own.epoch + 1; count = own.count; state = state })
offered (Here (Closes dest number) state) own = None
offered (Here Serves state) own = None
offered Away own = None

unfoldable pub image_answer : SlotView → Option Offer
image_answer v = offered v.stage v.own

-- it went by this move
abbrev pub is_left_by : ℕ → Option Left → Bool
is_left_by number None = false
is_left_by number (Some left) = left.number == number

abbrev pub committed_away : ℕ → Option Offer → Own → HandedOver
committed_away number (Some offer) own = Dead own.known
committed_away number None own = if is_left_by number own.left then Again else Dead own.known

abbrev pub committed : ℕ → Stage → Own → HandedOver
committed number (Here (Froze dest its) state) own = if its == number then Committed (holders state) else Dead own.known
committed number (Here (Closes dest its) state) own = Dead own.known
committed number (Here Serves state) own = Dead own.known
committed number Away own = committed_away number own.held own

unfoldable pub commit_answer : SlotView → ℕ → HandedOver
commit_answer v number = committed number v.stage v.own

abbrev pub abandoned_away : Option Offer → Option Left → Abandon
abandoned_away (Some offer) left = abandon.Idle
abandoned_away None (Some left) = abandon.Late
abandoned_away None None = abandon.Idle

abbrev pub abandoned : Stage → Own → Abandon
abandoned (Here (Closes dest number) state) own = abandon.Back number
abandoned (Here (Froze dest number) state) own = abandon.Back number
abandoned (Here Serves state) own = abandon.Idle
abandoned Away own = abandoned_away own.held own.left

unfoldable pub abandon_answer : SlotView → Abandon
abandon_answer v = abandoned v.stage v.own

-- Whose rows end where a move is given up: those whose era ended while the state was frozen.
abbrev pub ends_abandoned : List EraRow → Stage → List Party
ends_abandoned rows Away = []
ends_abandoned rows (Here doing state) = ends_late rows state

unfoldable pub abandon_ends : SlotView → List Party
abandon_ends v = ends_abandoned v.own.eras v.stage

-- ---- the destination

-- the offer of this move is held
abbrev pub is_offer_of : ℕ → Option Offer → Bool
is_offer_of number None = false
is_offer_of number (Some offer) = offer.number == number

abbrev pub accepted_at : Stage → Accept
accepted_at Away = accept.Held
accepted_at (Here doing state) = accept.Live

-- An offer is held once, and only where no move of its number or a greater one is known.
abbrev pub accepted : ℕ → Stage → Own → Accept
accepted number stage own =
    if is_offer_of number own.held then accept.Held else
    if nat_le number own.known then accept.Old own.known else accepted_at stage

unfoldable pub accept_answer : SlotView → ℕ → Accept
accept_answer v number = accepted number v.stage v.own

abbrev pub installed : ℕ → Own → Install
installed number own =
    if is_offer_of number own.held then install.Now else
    if nat_le number own.installed then install.Already else install.Absent

unfoldable pub install_answer : SlotView → ℕ → Install
install_answer v number = installed number v.own

-- Whose rows end where an offer is installed: those of which the era of their lease, or a later one, ended here.
abbrev pub ends_installed : Option Offer → Own → List Party
ends_installed None own = []
ends_installed (Some offer) own = ends_brought own.brought own.eras offer.state

unfoldable pub install_ends : SlotView → List Party
install_ends v = ends_installed v.own.held v.own

unfoldable pub withdraw_answer : SlotView → ℕ → Bool
withdraw_answer v number = is_offer_of number v.own.held
