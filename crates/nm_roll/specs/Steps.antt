-- The steps of a roll, each with its answer, newest first; and what the roll is after them.
use Rattle.std.specs.Prelude.{◌≡◌, ℕ, max, List, [], ◌∷◌, Option}
use Rattle.nm_types.specs.Parties.{Party}
use Rattle.nm_types.specs.declared.instance.Principal.{Principal}
use Rattle.nm_roll.specs.Records.{RollNow}
use Rattle.nm_roll.specs.Clients.{set_answer, set_after, confirm_answer, confirm_after}
use Rattle.nm_roll.specs.Leases.{is_client, is_instance, touch_answer, touch_after, expire_answer, expire_after}
use Rattle.nm_roll.specs.Moves.{Reserved, reserve_answer, reserve_after, settle_after, release_after, moved_after, probed_after}
use Rattle.nm_roll.specs.declared.answers.CallbackPath.{CallbackPath}
use Rattle.nm_roll.specs.declared.answers.ConfirmAnswer.{ConfirmAnswer}
use Rattle.nm_types.specs.declared.leases.Ended.{Ended}
use Rattle.nm_roll.specs.declared.answers.SetAnswer.{SetAnswer}
use Rattle.nm_roll.specs.declared.answers.Touch.{Touch}

pub data RollStep : Type 0 where
  Ticking : ℕ → RollStep
  Setting : List ℕ → ℕ → Principal → CallbackPath → SetAnswer → RollStep
  Confirming : ℕ → ℕ → Principal → ConfirmAnswer → RollStep
  -- by a clientid, and by an instance
  Touching : ℕ → Touch → RollStep
  Meeting : Party → Touch → RollStep
  Expiring : List ℕ → Option Ended → RollStep
  -- of a file system, by the number of its move
  Reserving : ℕ → ℕ → List Party → Reserved → RollStep
  Settling : ℕ → ℕ → RollStep
  Releasing : ℕ → ℕ → RollStep
  -- a file system has moved away; a client has asked where it is
  Leaving : ℕ → List Party → RollStep
  Probing : ℕ → ℕ → RollStep

unfoldable pub roll_after : RollNow → RollStep → RollNow
roll_after r (Ticking now) = record r { clock = max r.clock now }
roll_after r (Setting id verifier principal path a) = set_after r id verifier principal path
roll_after r (Confirming clientid confirm principal a) = confirm_after r clientid confirm principal
roll_after r (Touching clientid a) = touch_after r (is_client clientid)
roll_after r (Meeting party a) = touch_after r (is_instance party)
roll_after r (Expiring id a) = expire_after r id
roll_after r (Reserving fs number parties a) = reserve_after r fs number parties
roll_after r (Settling fs number) = settle_after r fs number
roll_after r (Releasing fs number) = release_after r fs number
roll_after r (Leaving fs parties) = moved_after r fs parties
roll_after r (Probing clientid fs) = probed_after r clientid fs

-- the step has the answer that the roll gives
unfoldable pub IsAnswered : RollNow → RollStep → Type 0
IsAnswered r (Ticking now) = Unit {0}
IsAnswered r (Setting id verifier principal path a) = a ≡ set_answer r id verifier principal
IsAnswered r (Confirming clientid confirm principal a) = a ≡ confirm_answer r clientid confirm principal
IsAnswered r (Touching clientid a) = a ≡ touch_answer r (is_client clientid)
IsAnswered r (Meeting party a) = a ≡ touch_answer r (is_instance party)
IsAnswered r (Expiring id a) = a ≡ expire_answer r id
IsAnswered r (Reserving fs number parties a) = a ≡ reserve_answer r fs number parties
IsAnswered r (Settling fs number) = Unit {0}
IsAnswered r (Releasing fs number) = Unit {0}
IsAnswered r (Leaving fs parties) = Unit {0}
IsAnswered r (Probing clientid fs) = Unit {0}

-- what the roll is after these steps
unfoldable pub roll_now : RollNow → List RollStep → RollNow
roll_now first [] = first
roll_now first (x ∷ earlier) = roll_after (roll_now first earlier) x

-- each step has the answer that the roll gave
unfoldable pub IsRollRun : RollNow → List RollStep → Type 0
IsRollRun first [] = Unit {0}
IsRollRun first (x ∷ earlier) = IsAnswered (roll_now first earlier) x × IsRollRun first earlier
