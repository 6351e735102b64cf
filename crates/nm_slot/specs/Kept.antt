-- What a slot keeps, and what contracts see of it.
use Rattle.std.specs.Prelude.{◌≡◌, ◌≤◌, ◌<◌, ◌^◌, ◌+◌, ◌-◌, ◌⊎◌, ℕ, Bool, true, false, List, [], Option, Some, None, length, option_map}
use Rattle.nm_types.specs.declared.leases.LeasePass.{LeasePass}
use Rattle.nm_types.specs.Parties.{Party}
use Rattle.nm_rules.specs.Answer.{answer_to}
use Rattle.nm_rules.specs.Holders.{holders}
use Rattle.nm_rules.specs.Seen.{Seen}
use Rattle.nm_types.specs.declared.calls.Call.{Call}
use Rattle.nm_types.specs.declared.calls.Event.{Event}
use Rattle.nm_types.specs.declared.calls.Reply.{Reply}
use Rattle.nm_types.specs.declared.calls.Verdict.{Verdict}
use Rattle.nm_state.specs.State.{StateNow}
use Rattle.nm_slot.specs.declared.answers.Abandon.{Abandon}
use Rattle.nm_slot.specs.declared.answers.Abandon.TheVariants as abandon
use Rattle.nm_slot.specs.declared.answers.Answer.{Answer}
use Rattle.nm_slot.specs.declared.answers.Begin.{Begin}
use Rattle.nm_slot.specs.declared.answers.Begin.TheVariants as begin
use Rattle.nm_slot.specs.declared.answers.Swept.{Swept}
use Rattle.nm_slot.specs.declared.answers.Swept.TheVariants as sweep
use Rattle.nm_slot.specs.declared.image.Image.{Image}
use Rattle.nm_slot.specs.declared.stage.Doing.{Doing as KeptDoing}
use Rattle.nm_slot.specs.declared.stage.Doing.TheVariants as kept_doing
use Rattle.nm_slot.specs.declared.stage.Stage.{Stage as KeptStage}
use Rattle.nm_slot.specs.declared.stage.Stage.TheVariants as kept_stage
use Rattle.nm_slot.specs.Images.{offer_of, MayBeOffered}
use Rattle.nm_slot.specs.Answers.{is_offer_of, committed, committed_away, applied, called, done_after, ends_before}
use Rattle.nm_slot.specs.Changes.{dest_at, slot_after, stage_called, stage_ended}
use Rattle.nm_slot.specs.Eras.{noted_lease}
use Rattle.nm_slot.specs.SlotNow.{Doing, Stage, Offer, Own, SlotView, SlotNow, HandedOver, nothing_yet, phase_of}
use Rattle.nm_slot.specs.SlotNow.SlotStep.{Applying}
use Rattle.nm_slot.specs.SlotNow.HandedOver.{Committed, Again, Dead}
use Rattle.nm_slot.specs.SlotNow.Doing.{Serves, Closes, Froze}
use Rattle.nm_slot.specs.SlotNow.Stage.{Away, Here}

abbrev pub doing_of : KeptDoing → Doing
doing_of kept_doing.Serves = Serves
doing_of (kept_doing.Closes dest number) = Closes dest number
doing_of (kept_doing.Froze dest number) = Froze dest number

abbrev pub stage_of : KeptStage → Stage
stage_of (kept_stage.Away held) = Away
stage_of (kept_stage.Here doing state) = Here (doing_of doing) state.seen

-- an offer is held only where the state isn't here
abbrev pub held_of : KeptStage → Option Offer
held_of (kept_stage.Away held) = option_map offer_of held
held_of (kept_stage.Here doing state) = None

abbrev pub spent_of : KeptStage → Bool
spent_of (kept_stage.Away held) = false
spent_of (kept_stage.Here doing state) = state.spent

-- opens and owners: there are no more holders than these
abbrev pub rows_in : Seen → ℕ
rows_in s = length s.opens + length s.owners

-- A state that isn't spent is that of the file system, and so many holders have room.
pub record IsReady (its_fs its_room : ℕ) (state : StateNow) : Type 0 where
  pub fs : state.seen.fs ≡ its_fs
  pub room : rows_in state.seen ≤ its_room

-- A held offer may be offered here, isn't spent, and its holders have room.
pub record IsHeldWell (fs its_room : ℕ) (image : Image) : Type 0 where
  pub offered : MayBeOffered fs image
  pub unspent : image.state.spent ≡ false
  pub room : rows_in image.state.seen ≤ its_room

abbrev pub AreHeldWell : (fs its_room : ℕ) → Option Image → Type 0
AreHeldWell fs its_room None = Unit {0}
AreHeldWell fs its_room (Some image) = IsHeldWell fs its_room image

abbrev pub number_of : KeptDoing → ℕ
number_of kept_doing.Serves = 0
number_of (kept_doing.Closes dest number) = number
number_of (kept_doing.Froze dest number) = number

-- the epoch that an install would begin, or the one that is
abbrev pub epoch_after : ℕ → KeptDoing → ℕ
epoch_after epoch kept_doing.Serves = epoch
epoch_after epoch (kept_doing.Closes dest number) = epoch + 1
epoch_after epoch (kept_doing.Froze dest number) = epoch + 1

-- A move under way has a number, and the epoch has a next one.
pub record IsNumbered (its_epoch : ℕ) (doing : KeptDoing) : Type 0 where
  pub number : number_of doing ≤ 2 ^ 63
  pub epoch : epoch_after its_epoch doing ≤ 2 ^ 63

-- how many entries go with a move that is under way
abbrev pub count_doing : KeptDoing → ℕ → ℕ
count_doing kept_doing.Serves count = 0
count_doing (kept_doing.Closes dest number) count = count
count_doing (kept_doing.Froze dest number) count = count

abbrev pub count_moving : KeptStage → ℕ → ℕ
count_moving (kept_stage.Away held) count = 0
count_moving (kept_stage.Here doing state) count = count_doing doing count

abbrev pub StageFacts : (fs its_room epoch : ℕ) → KeptStage → Type 0
StageFacts fs its_room epoch (kept_stage.Away held) = AreHeldWell fs its_room held × (epoch ≤ 2 ^ 63)
StageFacts fs its_room epoch (kept_stage.Here doing state) = (state.spent ≡ false → IsReady fs its_room state) × IsNumbered epoch doing

pub record IsStaged (fs its_room epoch : ℕ) (stage : KeptStage) : Type 0 where
  pub facts : StageFacts fs its_room epoch stage

-- What is true of every slot.
pub record IsKept (fs epoch its_count its_passes its_room : ℕ) (list : List Party) (its_stage : KeptStage) : Type 0 where
  pub stage : IsStaged fs its_room epoch its_stage
  pub count : count_moving its_stage its_count ≤ 2 ^ 63
  pub passes : its_passes ≤ 2 ^ 63
  pub empty : list ≡ []

-- There is room for the eras of the leases that came with an offer.
pub record HasRoom (eras brought room : ℕ) : Type 0 where
  pub fits : eras + brought ≤ room

-- What a call that takes an offer gets, and what it leaves.
pub record TookIt (number : ℕ) (old : KeptStage) (taken : Option Image) (new : KeptStage) : Type 0 where
  pub offer : option_map offer_of taken ≡ held_of old
  pub away : stage_of old ≡ Away
  pub unspent : spent_of old ≡ false
  pub left : new ≡ kept_stage.Away None
  pub well : (fs its_room epoch : ℕ) → IsStaged fs its_room epoch old → AreHeldWell fs its_room taken

pub record LeftIt (old : KeptStage) (taken : Option Image) (new : KeptStage) : Type 0 where
  pub none : taken ≡ None
  pub left : new ≡ old

abbrev pub took_by : Bool → ℕ → KeptStage → Option Image → KeptStage → Type 0
took_by true number old taken new = TookIt number old taken new
took_by false number old taken new = LeftIt old taken new

abbrev pub Took : ℕ → KeptStage → Option Image → KeptStage → Type 0
Took number old taken new = took_by (is_offer_of number (held_of old)) number old taken new

-- a state that is served, or none
abbrev pub first_stage : Option StateNow → Stage
first_stage None = Away
first_stage (Some state) = Here Serves state.seen

abbrev pub first_spent : Option StateNow → Bool
first_spent None = false
first_spent (Some state) = state.spent

-- the slot of a file system that is served here, or that was never here
abbrev pub first_slot : ℕ → Option StateNow → SlotNow
first_slot fs serving = record {
  view = record { fs = fs; stage = first_stage serving; own = nothing_yet };
  spent = first_spent serving;
}

abbrev pub rows_of : KeptStage → ℕ
rows_of (kept_stage.Away held) = 0
rows_of (kept_stage.Here doing state) = rows_in state.seen

-- where a move is given up, all entries went with it
abbrev pub IsCounted : Abandon → (ℕ → ℕ) → Type 0
IsCounted (abandon.Back number) moving = (count : ℕ) → moving count ≡ count
IsCounted abandon.Late moving = Unit {0}
IsCounted abandon.Idle moving = Unit {0}

abbrev pub is_serving : Stage → Bool
is_serving Away = false
is_serving (Here Serves state) = true
is_serving (Here (Closes dest number) state) = false
is_serving (Here (Froze dest number) state) = false

-- where a move is given up, the state is served
abbrev pub IsServedAfter : Abandon → Stage → Type 0
IsServedAfter (abandon.Back number) stage = is_serving stage ≡ true
IsServedAfter abandon.Late stage = Unit {0}
IsServedAfter abandon.Idle stage = Unit {0}

abbrev pub is_here : KeptStage → Bool
is_here (kept_stage.Away held) = false
is_here (kept_stage.Here doing state) = true

-- those who hold something in the state that is here
abbrev pub holders_at : Stage → List Party
holders_at Away = []
holders_at (Here doing state) = holders state

-- where a commit of that number hands nothing over
abbrev pub refused_at : ℕ → Stage → Own → HandedOver
refused_at number (Here doing state) own = Dead own.known
refused_at number Away own = committed_away number own.held own

pub record Hands (number to : ℕ) (stage : KeptStage) : Type 0 where
  pub holders : (own : Own) → committed number (stage_of stage) own ≡ Committed (holders_at (stage_of stage))
  pub dest : dest_at (stage_of stage) ≡ to
  pub free : held_of stage ≡ None

-- Where the state is on offer by the move of that number, its commit hands it over to that destination.
abbrev pub OffersTo : ℕ → KeptStage → Option ℕ → Type 0
OffersTo number stage (Some dest) = Hands number dest stage
OffersTo number stage None = (own : Own) → committed number (stage_of stage) own ≡ refused_at number (stage_of stage) own

-- the reply is the state's answer
abbrev pub IsReplyAt : Stage → Event → Reply → Type 0
IsReplyAt Away event reply = Unit {0}
IsReplyAt (Here doing state) event reply = reply ≡ answer_to state event

abbrev pub is_staged : Stage → Bool
is_staged Away = false
is_staged (Here doing state) = true

-- A call goes on to the state that is here.
abbrev pub Goes : ℕ → Option LeasePass → Stage → Own → Type 0
Goes epoch lease Away own = ⊥
Goes epoch lease (Here doing state) own = ((call : Call) (verdict : Verdict)
    → applied epoch lease call verdict (Here doing state) own ≡ done_after (ends_before lease (Here doing state) own.eras) call verdict state own)
    × (own.count < 2 ^ 63 - 2 ^ 17)

-- What stops a call is its answer, and changes nothing.
pub record IsStopped (epoch : ℕ) (lease : Option LeasePass) (stage : Stage) (own : Own) (a : Answer) : Type 0 where
  pub answer : (call : Call) (verdict : Verdict) → applied epoch lease call verdict stage own ≡ a
  pub same : (v : SlotView) (at : ℕ) (call : Call) (verdict : Verdict) (ends : List Party) → slot_after v (Applying at lease call verdict ends a) ≡ v

-- what stops a call while calls are taken
abbrev pub IsStop : ℕ → Option LeasePass → Own → Option Answer → Type 0
IsStop epoch lease own (Some a) = ((call : Call) (verdict : Verdict) (state : Seen) (ends : List Party) → called epoch lease call verdict state ends own ≡ a)
    × ((v : SlotView) (at : ℕ) (call : Call) (verdict : Verdict) (ends : List Party) → slot_after v (Applying at lease call verdict ends a) ≡ v)
IsStop epoch lease own None = ((call : Call) (verdict : Verdict) (state : Seen) (ends : List Party)
    → called epoch lease call verdict state ends own ≡ done_after ends call verdict state own) × (own.count < 2 ^ 63 - 2 ^ 17)

-- what a call leaves that was carried out with that reply
abbrev pub called_view : SlotView → Option LeasePass → Event → Reply → SlotView
called_view v lease event reply = record v {
  stage = stage_called event reply (stage_ended (ends_before lease v.stage v.own.eras) v.stage);
  own = record v.own { count = v.own.count + length (ends_before lease v.stage v.own.eras) + 1; eras = noted_lease lease v.own.eras };
}

abbrev pub Stops : ℕ → Option LeasePass → Stage → Own → Option Answer → Type 0
Stops epoch lease stage own (Some a) = IsStopped epoch lease stage own a
Stops epoch lease stage own None = Goes epoch lease stage own

-- After want of memory a slot is as it was, or its state was spent in this call, and it remembers and does what it did.
pub record IsSpentBy (old new : SlotNow) : Type 0 where
  pub spent : new.spent ≡ true
  pub own : new.view.own ≡ old.view.own
  pub phase : phase_of new.view ≡ phase_of old.view

abbrev pub IsKeptOrSpent : SlotNow → SlotNow → Type 0
IsKeptOrSpent old new = (new ≡ old) ⊎ IsSpentBy old new

-- Where rows end there is room for that.
abbrev pub IsRoomy : Swept → ℕ → Type 0
IsRoomy sweep.Ended count = count < 2 ^ 63 - 2 ^ 17
IsRoomy sweep.Nothing count = Unit {0}
IsRoomy sweep.PutOff count = Unit {0}
IsRoomy sweep.Last count = Unit {0}

-- What begins a move has a number, and the epoch a successor.
abbrev pub MayBegin : (epoch count : ℕ) → Begin → Type 0
MayBegin epoch count (begin.Begun number) = (number ≤ 2 ^ 63) × (epoch < 2 ^ 63) × (count ≤ 2 ^ 63)
MayBegin epoch count _ = Unit {0}

-- what is handed over is gone
abbrev pub spent_after : HandedOver → Bool → Bool
spent_after (Committed parties) spent = false
spent_after Again spent = spent
spent_after (Dead current) spent = spent
