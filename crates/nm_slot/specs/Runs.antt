-- The slots of all servers, each by its own steps alone.
use Rattle.std.specs.Prelude.{◌==◌, ℕ, List, [], ◌∷◌, if◌then◌else◌}
use Rattle.nm_rules.specs.Seen.{empty}
use Rattle.nm_slot.specs.Changes.{slot_after}
use Rattle.nm_slot.specs.History.{Home, IsAnswered, IsDelivered, passes_now}
use Rattle.nm_slot.specs.Moves.{move_now}
use Rattle.nm_slot.specs.Phases.{Moment, here_if}
use Rattle.nm_slot.specs.SlotNow.{SlotView, nothing_yet}
use Rattle.nm_slot.specs.SlotNow.Doing.{Serves}

-- At first one server has the file system, with nothing in it. Each step then changes its own server's slot.
unfoldable pub slot_run : Home → List Moment → ℕ → SlotView
slot_run home [] s =
    record { fs = home.fs; stage = here_if (s == home.first) Serves (empty home.fs home.grants); own = nothing_yet }
slot_run home (x ∷ earlier) s =
    if x.server == s then slot_after (slot_run home earlier s) x.step else slot_run home earlier s

-- the server's slot answers the step so, and what it takes was sent
pub record MayRun (home : Home) (earlier : List Moment) (x : Moment) : Type 0 where
  pub answered : IsAnswered (slot_run home earlier x.server) x.step
  pub delivered : IsDelivered (move_now earlier) (passes_now earlier x.server) x.server x.step

-- each step came so
abbrev pub IsRun : Home → List Moment → Type 0
IsRun home [] = Unit {0}
IsRun home (x ∷ earlier) = MayRun home earlier x × IsRun home earlier
