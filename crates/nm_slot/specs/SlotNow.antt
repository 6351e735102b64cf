-- A file system at one server: what the server has of it.
use Rattle.std.specs.Prelude.{ℕ, Bool, List, [], Option, Some, None}
use Rattle.nm_types.specs.declared.leases.LeasePass.{LeasePass}
use Rattle.nm_types.specs.Parties.{Party}
use Rattle.nm_rules.specs.Seen.{Seen}
use Rattle.nm_types.specs.declared.calls.Call.{Call}
use Rattle.nm_types.specs.declared.calls.Verdict.{Verdict}
use Rattle.nm_slot.specs.declared.answers.Abandon.{Abandon}
use Rattle.nm_slot.specs.declared.answers.Accept.{Accept}
use Rattle.nm_slot.specs.declared.answers.Answer.{Answer}
use Rattle.nm_slot.specs.declared.answers.Begin.{Begin}
use Rattle.nm_slot.specs.declared.answers.Commit.{Commit as CommitAnswer}
use Rattle.nm_slot.specs.declared.answers.Commit.TheVariants as commit
use Rattle.nm_slot.specs.declared.answers.Enter.{Enter}
use Rattle.nm_slot.specs.declared.answers.Freeze.{Freeze}
use Rattle.nm_slot.specs.declared.answers.Install.{Install}
use Rattle.nm_slot.specs.declared.answers.Swept.{Swept}
use Rattle.nm_slot.specs.declared.eras.EraRow.{EraRow}
use Rattle.nm_slot.specs.declared.phase.Phase.{Phase}
use Rattle.nm_slot.specs.declared.phase.Phase.TheVariants as phase

-- What the server that has the state does with it.
pub data Doing : Type 0 where
  Serves : Doing
  -- a move to that server, of that number, waits for the calls under way
  Closes : (dest number : ℕ) → Doing
  -- it is on offer to that server
  Froze : (dest number : ℕ) → Doing

-- Whether the state is here: its tables, and what is done with it.
pub data Stage : Type 0 where
  Away : Stage
  Here : Doing → Seen → Stage

-- A state as a move offers it: the move's number, the epoch that begins where it is installed, how many entries there
-- were, and the tables that they left.
pub record Offer : Type 0 where
  pub number : ℕ
  pub epoch : ℕ
  pub count : ℕ
  pub state : Seen

-- Where a file system went from here, and by which move.
pub record Left : Type 0 where
  pub dest : ℕ
  pub number : ℕ

-- What a server remembers of a file system by its own steps alone.
pub record Own : Type 0 where
  -- the offer that it holds, and the leases that came with it
  pub held : Option Offer
  pub brought : List LeasePass
  -- its latest commit
  pub left : Option Left
  -- the greatest move number that it began, accepted or was told to withdraw, and the greatest that it installed
  pub known : ℕ
  pub installed : ℕ
  -- the latest epoch in which it served
  pub epoch : ℕ
  -- how many entries there were when it last had the state
  pub count : ℕ
  -- how many passes are out
  pub out : ℕ
  -- in which eras it has seen instances
  pub eras : List EraRow

pub record SlotView : Type 0 where
  pub fs : ℕ
  pub stage : Stage
  pub own : Own

-- A slot in clauses: what the server has of the file system, and whether memory was wanting in the middle of a call, so
-- that its state answers want of memory alone.
pub record SlotNow : Type 0 where
  pub view : SlotView
  pub spent : Bool

-- a server that had no part in a file system yet
abbrev pub nothing_yet : Own
nothing_yet = record { held = None; brought = []; left = None; known = 0; installed = 0; epoch = 0; count = 0; out = 0; eras = [] }

-- Without its state the file system is on its way here, or it went from here, or it was never here.
abbrev pub phase_away : Option Offer → Option Left → ℕ → Phase
phase_away (Some offer) left epoch = phase.Incoming offer.epoch offer.number
phase_away None (Some left) epoch = phase.Gone left.dest epoch
phase_away None None epoch = phase.Never

abbrev pub phase_here : Doing → Phase
phase_here Serves = phase.Serving
phase_here (Closes dest number) = phase.Closing dest number
phase_here (Froze dest number) = phase.Frozen dest number

abbrev pub phase_at : Stage → Own → Phase
phase_at (Here doing state) own = phase_here doing
phase_at Away own = phase_away own.held own.left own.epoch

-- what the server does with the file system
unfoldable pub phase_of : SlotView → Phase
phase_of v = phase_at v.stage v.own

-- The answer of a commit, with the instances as a list.
pub data HandedOver : Type 0 where
  Committed : List Party → HandedOver
  Again : HandedOver
  Dead : ℕ → HandedOver

abbrev pub handed_over : CommitAnswer → HandedOver
handed_over (commit.Committed instances) = Committed instances.items
handed_over commit.Again = Again
handed_over (commit.Dead current) = Dead current

-- One call on a file system at a server, with its answer. Where it can end the rows of instances, those whose rows it would end
-- stand before the answer, in order.
pub data SlotStep : Type 0 where
  Entering : Enter → SlotStep
  -- a pass of that epoch comes back
  Leaving : (epoch : ℕ) → SlotStep
  -- a call with a pass of that epoch, in the name of a lease or of none
  Applying : (epoch : ℕ) → Option LeasePass → Call → Verdict → List Party → Answer → SlotStep
  -- an era of an instance has ended
  Sweeping : Party → (era : ℕ) → List Party → Swept → SlotStep
  -- at that server, to that one
  Beginning : (here dest : ℕ) → Begin → SlotStep
  Freezing : Freeze → SlotStep
  -- the offer that is made of a frozen state
  Imaging : Option Offer → SlotStep
  Committing : (number : ℕ) → HandedOver → SlotStep
  Abandoning : List Party → Abandon → SlotStep
  -- an offer, and the leases of its holders at this server
  Accepting : Offer → List LeasePass → Accept → SlotStep
  Installing : (number : ℕ) → List Party → Install → SlotStep
  Withdrawing : (number : ℕ) → Bool → SlotStep
