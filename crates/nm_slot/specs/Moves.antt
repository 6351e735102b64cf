-- What became of each move of a file system, read off the steps of all servers.
use Rattle.std.specs.Prelude.{◌==◌, ℕ, Bool, true, false, List, [], ◌∷◌, Option, Some, None, if◌then◌else◌}
use Rattle.nm_slot.specs.declared.answers.Abandon.TheVariants as abandon
use Rattle.nm_slot.specs.declared.answers.Accept.TheVariants as accept
use Rattle.nm_slot.specs.declared.answers.Begin.TheVariants as begin
use Rattle.nm_slot.specs.declared.answers.Install.TheVariants as install
use Rattle.nm_slot.specs.Phases.{Moment}
use Rattle.nm_slot.specs.SlotNow.{Offer, SlotStep}
use Rattle.nm_slot.specs.SlotNow.HandedOver.{Committed, Again}
use Rattle.nm_slot.specs.SlotNow.SlotStep.{Beginning, Imaging, Committing, Abandoning, Accepting, Installing}

-- How far a move has come.
pub data Fate : Type 0 where
  NotBegun : Fate
  UnderWay : Fate
  GivenUp : Fate
  Handed : Fate
  Done : Fate

-- A move: from where, to where, what was offered, whether an offer of it was held, and how far it has come.
pub record Move : Type 0 where
  pub source : ℕ
  pub dest : ℕ
  pub offer : Option Offer
  pub prepared : Bool
  pub fate : Fate

abbrev pub no_move : Move
no_move = record { source = 0; dest = 0; offer = None; prepared = false; fate = NotBegun }

-- a step of that move changes it, and no other does
abbrev pub of_move : ℕ → ℕ → Move → Move → Move
of_move number its changed move = if its == number then changed else move

abbrev pub move_after : ℕ → ℕ → SlotStep → Move → Move
move_after number server (Beginning here dest (begin.Begun its)) move =
    of_move number its (record { source = server; dest = dest; offer = None; prepared = false; fate = UnderWay }) move
move_after number server (Imaging (Some offer)) move = of_move number offer.number (record move { offer = Some offer }) move
move_after number server (Accepting offer passes accept.Held) move = of_move number offer.number (record move { prepared = true }) move
move_after number server (Committing its (Committed parties)) move = of_move number its (record move { fate = Handed }) move
move_after number server (Abandoning ends (abandon.Back its)) move = of_move number its (record move { fate = GivenUp }) move
move_after number server (Installing its ends install.Now) move = of_move number its (record move { fate = Done }) move
move_after number server _ move = move

-- the move of that number, after the steps so far, the newest first
unfoldable pub move_now : List Moment → ℕ → Move
move_now [] number = no_move
move_now (x ∷ earlier) number = move_after number x.server x.step (move_now earlier number)

-- it was handed over, and perhaps installed since
abbrev pub is_handed : Fate → Bool
is_handed NotBegun = false
is_handed UnderWay = false
is_handed GivenUp = false
is_handed Handed = true
is_handed Done = true

-- The latest offer that was sent, with the server that made it.
pub record Sent : Type 0 where
  pub source : ℕ
  pub offer : Offer

abbrev pub sent_by : ℕ → SlotStep → Option Sent → Option Sent
sent_by server (Imaging (Some offer)) before = Some (record { source = server; offer = offer })
sent_by server _ before = before

unfoldable pub latest_offer : List Moment → Option Sent
latest_offer [] = None
latest_offer (x ∷ earlier) = sent_by x.server x.step (latest_offer earlier)

-- The number of the latest move of which word was sent that it was handed over.
abbrev pub told_by : SlotStep → Option ℕ → Option ℕ
told_by (Committing number (Committed parties)) before = Some number
told_by (Committing number Again) before = Some number
told_by _ before = before

unfoldable pub latest_handed : List Moment → Option ℕ
latest_handed [] = None
latest_handed (x ∷ earlier) = told_by x.step (latest_handed earlier)
