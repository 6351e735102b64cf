-- What holds of every history of a file system.
use Rattle.std.specs.Prelude.{◌≡◌, ℕ, List, ◌++◌, Some}
use Rattle.nm_slot.specs.declared.answers.Accept.TheVariants as accept
use Rattle.nm_slot.specs.declared.answers.Answer.TheVariants as answer
use Rattle.nm_slot.specs.declared.answers.Install.TheVariants as install
use Rattle.nm_slot.specs.History.{Home, IsHistory, tables_now, entries_now, own_now, frozen_entries}
use Rattle.nm_slot.specs.Phases.{Moment, phase_now}
use Rattle.nm_slot.specs.Phases.Phase.{At, Passing}
use Rattle.nm_slot.specs.SlotNow.{Offer, SlotStep}
use Rattle.nm_slot.specs.SlotNow.SlotStep.{Applying, Accepting, Installing}

-- Just before a server installs a move: the file system was handed over to it by this move, and the state that it holds
-- is that of all entries so far, which are those at the freeze.
pub record IsWhole (home : Home) (h : List Moment) (dest number : ℕ) : Type 0 where
  pub source : ℕ
  pub offer : Offer
  pub handed : phase_now home.first h ≡ Passing source dest number
  pub held : (own_now home.first h dest).held ≡ Some offer
  pub state : offer.state ≡ tables_now home h
  pub frozen : frozen_entries h number ≡ entries_now h

-- With some further steps, which may come, the file system is served there.
pub record MayMoveTo (home : Home) (h : List Moment) (dest : ℕ) : Type 0 where
  pub steps : List Moment
  pub may_come : IsHistory home (steps ++ h)
  pub served : phase_now home.first (steps ++ h) ≡ At dest

-- Answers that never come: no call strays from its epoch, no offer meets the file system itself, and none that was
-- handed over is missing.
abbrev pub NeverComes : SlotStep → Type 0
NeverComes (Applying epoch lease call verdict ends (answer.Strayed pass slot)) = ⊥
NeverComes (Accepting offer passes accept.Live) = ⊥
NeverComes (Installing number ends install.Absent) = ⊥
NeverComes _ = Unit {0}
