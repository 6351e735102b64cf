-- Words for one more step of a history, over plain variables: the phase, what each server remembers, and each move.
use Rattle.std.proofs.Common.{◌≡◌, ℕ, Bool, true, false, cond, Option, Some, None}
use Rattle.std.specs.Prelude.{◌==◌}
use Rattle.nm_rules.specs.Seen.{Seen}
use Rattle.nm_slot.specs.Changes.{own_after}
use Rattle.nm_slot.specs.History.{dest_from}
use Rattle.nm_slot.specs.Moves.{Move, Sent, of_move, move_after}
use Rattle.nm_slot.specs.Phases.{Phase, phase_after, column}
use Rattle.nm_slot.specs.Phases.Phase.{At, Closing, Frozen, Passing}
use Rattle.nm_slot.specs.SlotNow.{Left, Own, SlotView, SlotStep}

abbrev pub went_to : Option Left → Option ℕ
went_to None = None
went_to (Some left) = Some left.dest

-- the source of a move that is over remembers where it went to
abbrev pub LeftStands : Phase → (ℕ → Own) → Type 0
LeftStands (At server) own = Unit {0}
LeftStands (Closing source dest number) own = Unit {0}
LeftStands (Frozen source dest number) own = Unit {0}
LeftStands (Passing source dest number) own = went_to (own source).left ≡ Some dest

-- a move that is under way began at its source
abbrev pub BeganThere : Phase → (ℕ → Move) → Type 0
BeganThere (At server) move = Unit {0}
BeganThere (Closing source dest number) move = (move number).source ≡ source
BeganThere (Frozen source dest number) move = (move number).source ≡ source
BeganThere (Passing source dest number) move = Unit {0}

pub record IsSent (sent : Sent) (move : Move) : Type 0 where
  pub offer : move.offer ≡ Some sent.offer
  pub source : move.source ≡ sent.source

-- the server's slot, as it is
abbrev pub slot_by : ℕ → Phase → Seen → (ℕ → Own) → ℕ → SlotView
slot_by fs p t own s = record { fs = fs; stage = column p t s; own = own s }

-- ---- one step

abbrev pub own_next : SlotStep → Phase → ℕ → (ℕ → Own) → ℕ → Own
own_next step p s own r = cond (s == r) (own_after step (dest_from p r) (own r)) (own r)

abbrev pub move_next : SlotStep → ℕ → (ℕ → Move) → ℕ → Move
move_next step s move k = move_after k s step (move k)

abbrev pub next : Phase → ℕ → SlotStep → Phase
next p s step = phase_after p (record { server = s; step = step })

-- What a move has keeps its test, where a step of that move keeps it.
pub by_number : {A : Type 0} (its k : ℕ) (f : Move → A) (a : A) (new old : Move) → f new ≡ a → f old ≡ a → f (of_move k its new old) ≡ a
by_number its k f a new old e o = by_test (its == k)
  where
    by_test : (b : Bool) → f (cond b new old) ≡ a
    by_test true = e
    by_test false = o
