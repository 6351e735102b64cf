-- What may happen to a file system: its servers' steps in any order, each answered by what its server has, where only
-- what was sent is ever delivered, late or often or never.
use Rattle.std.specs.Prelude.{◌≡◌, ◌==◌, ℕ, Bool, true, List, [], ◌∷◌, Some, if◌then◌else◌}
use Rattle.std.specs.List.{list_any}
use Rattle.nm_rules.specs.Answer.{reply_with}
use Rattle.nm_rules.specs.Past.{Past}
use Rattle.nm_rules.specs.Seen.{Seen, seen}
use Rattle.nm_types.specs.Parties.{Party}
use Rattle.nm_types.specs.declared.calls.Entry.{Entry}
use Rattle.nm_types.specs.declared.calls.Event.TheVariants.{Asked, Ended}
use Rattle.nm_types.specs.declared.calls.ReplyValue.TheVariants as told
use Rattle.nm_types.specs.declared.status.OpStatus.TheVariants.{Nfs4Ok}
use Rattle.nm_slot.specs.declared.answers.Abandon.TheVariants as abandon
use Rattle.nm_slot.specs.declared.answers.Answer.TheVariants as answer
use Rattle.nm_slot.specs.declared.answers.Enter.TheVariants as enter
use Rattle.nm_slot.specs.declared.answers.Freeze.TheVariants as freeze
use Rattle.nm_slot.specs.declared.answers.Install.TheVariants as install
use Rattle.nm_slot.specs.declared.answers.Swept.TheVariants as sweep
use Rattle.nm_slot.specs.Answers.{enter_answer, apply_answer, apply_ends, sweep_answer, sweep_ends, abandon_ends, install_ends, begin_answer, freeze_answer, image_answer, commit_answer, abandon_answer, accept_answer, install_answer, withdraw_answer}
use Rattle.nm_slot.specs.Changes.{own_after}
use Rattle.nm_slot.specs.Moves.{Move, move_now, is_handed}
use Rattle.nm_slot.specs.Moves.Fate.{GivenUp}
use Rattle.nm_slot.specs.Phases.{Phase, Moment, phase_now, column}
use Rattle.nm_slot.specs.Phases.Phase.{At, Closing, Frozen, Passing}
use Rattle.nm_slot.specs.SlotNow.{Own, SlotView, SlotStep, nothing_yet}
use Rattle.nm_slot.specs.SlotNow.SlotStep.{Entering, Leaving, Applying, Sweeping, Beginning, Freezing, Imaging, Committing, Abandoning, Accepting, Installing, Withdrawing}

-- A file system: its number, whether it grants delegations, and the server that has it at first.
pub record Home : Type 0 where
  pub fs : ℕ
  pub grants : Bool
  pub first : ℕ

-- ---- what is read off the steps so far, the newest first

-- the end of an instance
abbrev pub end_of : Party → Entry
end_of party = record { event = Ended party; reply = reply_with Nfs4Ok told.Nothing }

-- the ends of instances, one after the other
abbrev pub with_ends : List Party → Past → Past
with_ends [] entries = entries
with_ends (party ∷ parties) entries = with_ends parties (end_of party ∷ entries)

-- A call that was carried out is an entry, whichever server carried it out, and so is each end of an instance's rows.
abbrev pub with_entry : SlotStep → Past → Past
with_entry (Applying epoch lease call verdict ends (answer.Done place reply)) entries =
    record { event = Asked call verdict; reply = reply } ∷ with_ends ends entries
with_entry (Sweeping party era ends sweep.Ended) entries = with_ends ends entries
with_entry (Abandoning ends (abandon.Back number)) entries = with_ends ends entries
with_entry (Installing number ends install.Now) entries = with_ends ends entries
with_entry _ entries = entries

-- the one list of entries
unfoldable pub entries_now : List Moment → Past
entries_now [] = []
entries_now (x ∷ earlier) = with_entry x.step (entries_now earlier)

-- the destination of the move that is under way at a server
abbrev pub dest_from : Phase → ℕ → ℕ
dest_from (At server) s = 0
dest_from (Closing source dest number) s = if s == source then dest else 0
dest_from (Frozen source dest number) s = if s == source then dest else 0
dest_from (Passing source dest number) s = 0

-- what a server remembers of its own steps
unfoldable pub own_now : ℕ → List Moment → ℕ → Own
own_now first [] s = nothing_yet
own_now first (x ∷ earlier) s =
    if x.server == s
    then own_after x.step (dest_from (phase_now first earlier) s) (own_now first earlier s)
    else own_now first earlier s

-- the tables that the entries leave
abbrev pub tables_now : Home → List Moment → Seen
tables_now home h = seen home.fs home.grants (entries_now h)

-- what a server's slot is: its column of the one phase, and what it remembers
unfoldable pub slot_now : Home → List Moment → ℕ → SlotView
slot_now home h s = record {
  fs = home.fs;
  stage = column (phase_now home.first h) (tables_now home h) s;
  own = own_now home.first h s;
}

-- one of these epochs fewer
abbrev pub without_one : ℕ → List ℕ → List ℕ
without_one epoch [] = []
without_one epoch (e ∷ epochs) = if e == epoch then epochs else e ∷ without_one epoch epochs

abbrev pub passes_after : SlotStep → List ℕ → List ℕ
passes_after (Entering (enter.Entered pass)) passes = pass.epoch ∷ passes
passes_after (Leaving epoch) passes = without_one epoch passes
passes_after _ passes = passes

-- the passes that are out at a server, each by its epoch: those that its door gave and that didn't come back
unfoldable pub passes_now : List Moment → ℕ → List ℕ
passes_now [] s = []
passes_now (x ∷ earlier) s = if x.server == s then passes_after x.step (passes_now earlier s) else passes_now earlier s

-- the entries as they were when a move froze the file system
unfoldable pub frozen_entries : List Moment → ℕ → Past
frozen_entries [] number = []
frozen_entries (x ∷ earlier) number = frozen_by number (entries_now earlier) (frozen_entries earlier number) x.step
  where
    frozen_by : ℕ → Past → Past → SlotStep → Past
    frozen_by number now before (Freezing (freeze.Frozen its)) = if its == number then now else before
    frozen_by number now before _ = before

-- ---- what may come next

-- The answer is that of a slot which is so.
abbrev pub IsAnswered : SlotView → SlotStep → Type 0
IsAnswered v (Entering a) = a ≡ enter_answer v
IsAnswered v (Leaving epoch) = Unit {0}
IsAnswered v (Applying epoch lease call verdict ends a) = (a ≡ apply_answer v epoch lease call verdict) × (ends ≡ apply_ends v lease)
IsAnswered v (Sweeping party era ends a) = (a ≡ sweep_answer v party era) × (ends ≡ sweep_ends v party)
IsAnswered v (Beginning here dest a) = a ≡ begin_answer v here dest
IsAnswered v (Freezing a) = a ≡ freeze_answer v
IsAnswered v (Imaging a) = a ≡ image_answer v
IsAnswered v (Committing number a) = a ≡ commit_answer v number
IsAnswered v (Abandoning ends a) = (a ≡ abandon_answer v) × (ends ≡ abandon_ends v)
IsAnswered v (Accepting offer passes a) = a ≡ accept_answer v offer.number
IsAnswered v (Installing number ends a) = (a ≡ install_answer v number) × (ends ≡ install_ends v)
IsAnswered v (Withdrawing number a) = a ≡ withdraw_answer v number

abbrev pub is_out : ℕ → List ℕ → Bool
is_out epoch passes = list_any (λ e. e == epoch) passes

-- An offer reaches the destination that it was made for. Word that it is held reaches the source. That a move was handed
-- over, or given up, reaches its destination. A server begins a move in its own name, and calls are made with passes that
-- are out.
abbrev pub IsDelivered : (ℕ → Move) → List ℕ → ℕ → SlotStep → Type 0
IsDelivered moves passes s (Accepting offer leases a) = ((moves offer.number).offer ≡ Some offer) × ((moves offer.number).dest ≡ s)
IsDelivered moves passes s (Committing number a) = ((moves number).prepared ≡ true) × ((moves number).source ≡ s)
IsDelivered moves passes s (Installing number ends a) = (is_handed (moves number).fate ≡ true) × ((moves number).dest ≡ s)
IsDelivered moves passes s (Withdrawing number a) = ((moves number).fate ≡ GivenUp) × ((moves number).dest ≡ s)
IsDelivered moves passes s (Beginning here dest a) = here ≡ s
IsDelivered moves passes s (Leaving epoch) = is_out epoch passes ≡ true
IsDelivered moves passes s (Applying epoch lease call verdict ends a) = is_out epoch passes ≡ true
IsDelivered moves passes s _ = Unit {0}

pub record MayCome (home : Home) (earlier : List Moment) (x : Moment) : Type 0 where
  pub answered : IsAnswered (slot_now home earlier x.server) x.step
  pub delivered : IsDelivered (move_now earlier) (passes_now earlier x.server) x.server x.step

-- each step came as it may
abbrev pub IsHistory : Home → List Moment → Type 0
IsHistory home [] = Unit {0}
IsHistory home (x ∷ earlier) = MayCome home earlier x × IsHistory home earlier
