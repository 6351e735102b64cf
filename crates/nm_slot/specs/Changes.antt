-- What each answered call leaves of a file system at a server.
use Rattle.std.specs.Prelude.{ℕ, ◌+◌, ◌-◌, ◌==◌, Bool, true, false, List, [], length, Option, Some, None, max, if◌then◌else◌}
use Rattle.nm_types.specs.declared.leases.LeasePass.{LeasePass}
use Rattle.nm_types.specs.Parties.{Party}
use Rattle.nm_rules.specs.Seen.{after}
use Rattle.nm_types.specs.declared.calls.Event.{Event}
use Rattle.nm_types.specs.declared.calls.Event.TheVariants.{Asked}
use Rattle.nm_types.specs.declared.calls.Reply.{Reply}
use Rattle.nm_slot.specs.declared.answers.Abandon.{Abandon}
use Rattle.nm_slot.specs.declared.answers.Abandon.TheVariants as abandon
use Rattle.nm_slot.specs.declared.answers.Accept.TheVariants as accept
use Rattle.nm_slot.specs.declared.answers.Answer.TheVariants as answer
use Rattle.nm_slot.specs.declared.answers.Begin.TheVariants as begin
use Rattle.nm_slot.specs.declared.answers.Enter.TheVariants as enter
use Rattle.nm_slot.specs.declared.answers.Freeze.TheVariants as freeze
use Rattle.nm_slot.specs.declared.answers.Install.TheVariants as install
use Rattle.nm_slot.specs.declared.answers.Swept.{Swept}
use Rattle.nm_slot.specs.declared.answers.Swept.TheVariants as sweep
use Rattle.nm_slot.specs.Answers.{is_past}
use Rattle.nm_slot.specs.Eras.{after_ends, noted_lease, noted_all, marked}
use Rattle.nm_slot.specs.SlotNow.{Doing, Stage, Offer, Own, SlotView, SlotStep}
use Rattle.nm_slot.specs.SlotNow.Doing.{Serves, Closes, Froze}
use Rattle.nm_slot.specs.SlotNow.Stage.{Away, Here}
use Rattle.nm_slot.specs.SlotNow.HandedOver.{Committed}
use Rattle.nm_slot.specs.SlotNow.SlotStep.{Entering, Leaving, Applying, Sweeping, Beginning, Freezing, Committing, Abandoning, Accepting, Installing, Withdrawing}

-- ---- the state, and what is done with it

abbrev pub with_doing : Doing → Stage → Stage
with_doing doing Away = Away
with_doing doing (Here its state) = Here doing state

-- the destination of the move that is under way here
abbrev pub dest_doing : Doing → ℕ
dest_doing Serves = 0
dest_doing (Closes dest number) = dest
dest_doing (Froze dest number) = dest

abbrev pub dest_at : Stage → ℕ
dest_at Away = 0
dest_at (Here doing state) = dest_doing doing

abbrev pub stage_called : Event → Reply → Stage → Stage
stage_called event reply Away = Away
stage_called event reply (Here doing state) = Here doing (after state event reply)

abbrev pub stage_ended : List Party → Stage → Stage
stage_ended ends Away = Away
stage_ended ends (Here doing state) = Here doing (after_ends ends state)

abbrev pub stage_of_offer : Option Offer → Stage → Stage
stage_of_offer None stage = stage
stage_of_offer (Some offer) stage = Here Serves offer.state

-- a move that is given up
abbrev pub stage_back : Abandon → Stage → Stage
stage_back (abandon.Back number) stage = with_doing Serves stage
stage_back abandon.Late stage = stage
stage_back abandon.Idle stage = stage

abbrev pub stage_after : SlotStep → Option Offer → Stage → Stage
stage_after (Applying epoch lease call verdict ends (answer.Done place reply)) held stage = stage_called (Asked call verdict) reply (stage_ended ends stage)
stage_after (Sweeping party era ends sweep.Ended) held stage = stage_ended ends stage
stage_after (Beginning here dest (begin.Begun number)) held stage = with_doing (Closes dest number) stage
stage_after (Freezing (freeze.Frozen number)) held stage = with_doing (Froze (dest_at stage) number) stage
stage_after (Committing number (Committed parties)) held stage = Away
stage_after (Abandoning ends (abandon.Back number)) held stage = stage_ended ends (with_doing Serves stage)
stage_after (Installing number ends install.Now) held stage = stage_ended ends (stage_of_offer held stage)
stage_after _ held stage = stage

-- ---- what the server remembers

abbrev pub own_installed : ℕ → List Party → Option Offer → Own → Own
own_installed number ends None own = own
own_installed number ends (Some offer) own = record own {
  held = None;
  brought = [];
  installed = number;
  epoch = offer.epoch;
  count = offer.count + length ends;
  eras = noted_all own.brought own.eras;
}

-- An era has ended: it is the latest that was seen, and it was swept.
abbrev pub own_swept : Swept → Party → ℕ → List Party → Own → Own
own_swept sweep.Ended party era ends own = record own { count = own.count + length ends; eras = marked party era own.eras }
own_swept sweep.PutOff party era ends own = record own { eras = marked party era own.eras }
own_swept sweep.Last party era ends own = own
own_swept sweep.Nothing party era ends own = if is_past party era own then own else record own { eras = marked party era own.eras }

-- The offer is held from now on, in the place of a lower one. One that is held already stays.
abbrev pub own_accepted : Offer → List LeasePass → Option Offer → Own → Own
own_accepted offer passes None own = record own { held = Some offer; brought = passes; known = offer.number }
own_accepted offer passes (Some its) own =
    if its.number == offer.number then own else record own { held = Some offer; brought = passes; known = offer.number }

abbrev pub own_withdrawn : Bool → ℕ → Own → Own
own_withdrawn true number own = record own { held = None; brought = []; known = max own.known number }
own_withdrawn false number own = record own { known = max own.known number }

-- by the destination of the move that is under way here
abbrev pub own_after : SlotStep → ℕ → Own → Own
own_after (Entering (enter.Entered pass)) dest own = record own { out = own.out + 1 }
own_after (Leaving epoch) dest own = record own { out = own.out - 1 }
own_after (Applying epoch lease call verdict ends (answer.Done place reply)) dest own = record own { count = place; eras = noted_lease lease own.eras }
own_after (Sweeping party era ends a) dest own = own_swept a party era ends own
own_after (Abandoning ends (abandon.Back number)) dest own = record own { count = own.count + length ends }
own_after (Beginning here to (begin.Begun number)) dest own = record own { known = number }
own_after (Committing number (Committed parties)) dest own = record own { left = Some (record { dest = dest; number = number }) }
own_after (Accepting offer passes accept.Held) dest own = own_accepted offer passes own.held own
own_after (Installing number ends install.Now) dest own = own_installed number ends own.held own
own_after (Withdrawing number dropped) dest own = own_withdrawn dropped number own
own_after _ dest own = own

-- what an answered call leaves
unfoldable pub slot_after : SlotView → SlotStep → SlotView
slot_after v step = record v {
  stage = stage_after step v.own.held v.stage;
  own = own_after step (dest_at v.stage) v.own;
}
