-- The one phase that a file system has for all servers together, read off their steps.
use Rattle.std.specs.Prelude.{◌==◌, ◌&&◌, ℕ, Bool, List, [], ◌∷◌, if◌then◌else◌}
use Rattle.nm_rules.specs.Seen.{Seen}
use Rattle.nm_slot.specs.declared.answers.Abandon.TheVariants as abandon
use Rattle.nm_slot.specs.declared.answers.Begin.TheVariants as begin
use Rattle.nm_slot.specs.declared.answers.Freeze.TheVariants as freeze
use Rattle.nm_slot.specs.declared.answers.Install.TheVariants as install
use Rattle.nm_slot.specs.SlotNow.{Doing, Stage, SlotStep}
use Rattle.nm_slot.specs.SlotNow.Doing.{Serves, Closes, Froze}
use Rattle.nm_slot.specs.SlotNow.Stage.{Away, Here}
use Rattle.nm_slot.specs.SlotNow.HandedOver.{Committed}
use Rattle.nm_slot.specs.SlotNow.SlotStep.{Beginning, Freezing, Committing, Abandoning, Installing}

-- One step, with its answer, at a server.
pub record Moment : Type 0 where
  pub server : ℕ
  pub step : SlotStep

-- Who has a file system, and the move that is under way: its source, its destination and its number.
pub data Phase : Type 0 where
  -- it is served there
  At : (server : ℕ) → Phase
  -- the source lets the calls under way end
  Closing : (source dest number : ℕ) → Phase
  -- the source has its state on offer
  Frozen : (source dest number : ℕ) → Phase
  -- the source has handed it over, and the destination hasn't installed it yet
  Passing : (source dest number : ℕ) → Phase

-- the server that serves, closes or froze it, or handed it over
abbrev pub source_of : Phase → ℕ
source_of (At server) = server
source_of (Closing source dest number) = source
source_of (Frozen source dest number) = source
source_of (Passing source dest number) = source

-- What a step at that server makes of the phase.
abbrev pub after_at_source : Phase → SlotStep → Phase
after_at_source (At server) (Beginning here dest (begin.Begun number)) = Closing server dest number
after_at_source (Closing source dest number) (Freezing (freeze.Frozen its)) = Frozen source dest number
after_at_source (Closing source dest number) (Abandoning ends (abandon.Back its)) = At source
after_at_source (Frozen source dest number) (Committing its (Committed parties)) = Passing source dest number
after_at_source (Frozen source dest number) (Abandoning ends (abandon.Back its)) = At source
after_at_source phase _ = phase

-- What a step at another server makes of it: the destination installs what was handed over.
abbrev pub after_elsewhere : Phase → ℕ → SlotStep → Phase
after_elsewhere (Passing source dest number) server (Installing its ends install.Now) =
    if (server == dest) && (its == number) then At dest else Passing source dest number
after_elsewhere phase server _ = phase

-- No other step changes the phase.
abbrev pub phase_after : Phase → Moment → Phase
phase_after phase x =
    if x.server == source_of phase then after_at_source phase x.step else after_elsewhere phase x.server x.step

-- the phase after the steps so far, the newest first; at first the file system is served at one server
unfoldable pub phase_now : ℕ → List Moment → Phase
phase_now first [] = At first
phase_now first (x ∷ earlier) = phase_after (phase_now first earlier) x

abbrev pub here_if : Bool → Doing → Seen → Stage
here_if there doing state = if there then Here doing state else Away

-- The column of a server: what its slot has, where the file system is in this phase and these are its tables.
abbrev pub column : Phase → Seen → ℕ → Stage
column (At server) state s = here_if (s == server) Serves state
column (Closing source dest number) state s = here_if (s == source) (Closes dest number) state
column (Frozen source dest number) state s = here_if (s == source) (Froze dest number) state
column (Passing source dest number) state s = Away
