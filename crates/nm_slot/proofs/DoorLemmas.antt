-- What stops a call.
use Rattle.std.proofs.Common.{◌≡◌, ◌<◌, ◌^◌, ℕ, Bool, true, false, refl, Option, Some, None}
use Rattle.std.specs.Prelude.{◌-◌, ◌==◌, not}
use Rattle.nm_types.specs.declared.leases.LeasePass.{LeasePass}
use Rattle.nm_slot.specs.declared.answers.Answer.{Answer}
use Rattle.nm_slot.specs.declared.answers.Answer.TheVariants as answer
use Rattle.nm_slot.specs.Answers.{is_full, ends_before}
use Rattle.nm_slot.specs.Changes.{slot_after}
use Rattle.nm_slot.specs.Eras.{is_late, era_seen}
use Rattle.nm_slot.specs.Kept.{IsStop, IsStopped, Goes}
use Rattle.nm_slot.specs.SlotNow.{Doing, Own}
use Rattle.nm_slot.specs.SlotNow.Doing.{Serves, Closes, Froze}
use Rattle.nm_slot.specs.SlotNow.Stage.{Here}
use Rattle.nm_rules.specs.Seen.{Seen}

abbrev takes_calls : Doing → Bool
takes_calls Serves = true
takes_calls (Closes dest number) = true
takes_calls (Froze dest number) = false

-- a pass of another epoch
pub strays : (epoch : ℕ) (lease : Option LeasePass) (own : Own) → not (epoch == own.epoch) ≡ true → IsStop epoch lease own (Some (answer.Strayed epoch own.epoch))
unfolding slot_after
strays epoch lease own ne = ((λ call verdict state ends. rw ne refl), (λ v at call verdict ends. refl))

-- a lease that comes too late
pub comes_late : (epoch : ℕ) (lease : Option LeasePass) (own : Own) → not (epoch == own.epoch) ≡ false → is_late lease own.eras ≡ true
    → IsStop epoch lease own (Some (answer.Ended (era_seen lease own.eras)))
unfolding slot_after
comes_late epoch lease own same late = ((λ call verdict state ends. rw (same, late) refl), (λ v at call verdict ends. refl))

-- no room for a further entry
pub has_no_room : (epoch : ℕ) (lease : Option LeasePass) (own : Own) → not (epoch == own.epoch) ≡ false → is_late lease own.eras ≡ false → is_full own ≡ true
    → IsStop epoch lease own (Some (answer.Last own.count))
unfolding slot_after
has_no_room epoch lease own same late full = ((λ call verdict state ends. rw (same, late, full) refl), (λ v at call verdict ends. refl))

pub goes_on : (epoch : ℕ) (lease : Option LeasePass) (own : Own) → not (epoch == own.epoch) ≡ false → is_late lease own.eras ≡ false → is_full own ≡ false
    → own.count < 2 ^ 63 - 2 ^ 17 → IsStop epoch lease own None
goes_on epoch lease own same late full room = ((λ call verdict state ends. rw (same, late, full) refl), room)

-- what stops a call while calls are taken stops it here
pub stopped : (epoch : ℕ) (lease : Option LeasePass) (doing : Doing) (state : Seen) (own : Own) (a : Answer)
    → takes_calls doing ≡ true → IsStop epoch lease own (Some a) → IsStopped epoch lease (Here doing state) own a
stopped epoch lease Serves state own a takes it = record { answer = λ call verdict. it.0 call verdict state (ends_before lease (Here Serves state) own.eras); same = it.1 }
stopped epoch lease (Closes dest number) state own a takes it =
    record { answer = λ call verdict. it.0 call verdict state (ends_before lease (Here (Closes dest number) state) own.eras); same = it.1 }
stopped epoch lease (Froze dest number) state own a takes it = cc

pub goes : (epoch : ℕ) (lease : Option LeasePass) (doing : Doing) (state : Seen) (own : Own)
    → takes_calls doing ≡ true → IsStop epoch lease own None → Goes epoch lease (Here doing state) own
goes epoch lease Serves state own takes it = ((λ call verdict. it.0 call verdict state (ends_before lease (Here Serves state) own.eras)), it.1)
goes epoch lease (Closes dest number) state own takes it = ((λ call verdict. it.0 call verdict state (ends_before lease (Here (Closes dest number) state) own.eras)), it.1)
goes epoch lease (Froze dest number) state own takes it = cc
