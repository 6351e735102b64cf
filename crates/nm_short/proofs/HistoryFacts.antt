-- More that holds of every history of a file system.
use Rattle.std.proofs.Common.{◌≡◌, ℕ, true, List, [], ◌∷◌, Option, Some, None, refl}
use Rattle.nm_rules.specs.Seen.{Seen}
use Rattle.nm_slot.specs.History.{Home, IsAnswered, IsDelivered, IsHistory, own_now, tables_now, slot_now, passes_now}
use Rattle.nm_slot.specs.Moves.{Move, Sent, move_now, is_handed, sent_by, latest_offer, told_by, latest_handed}
use Rattle.nm_slot.specs.Phases.{Phase, Moment, source_of, phase_now}
use Rattle.nm_slot.specs.SlotNow.{Left, Own, SlotStep}
use Rattle.nm_slot.proofs.Facts.{Facts}
use Rattle.nm_slot.proofs.HistoryFacts.{begins_now, facts_of}
use Rattle.nm_short.proofs.StepWords.{LeftStands, BeganThere, IsSent, slot_by, own_next, move_next, next}
use Rattle.nm_short.proofs.SentStands.{was_sent_next, handed_next, was_told_next}
use Rattle.nm_short.proofs.HolderFree.{free_next}
use Rattle.nm_short.proofs.LeftKept.{left_next}
use Rattle.nm_short.proofs.BeganKept.{there_next}

pub record Also (p : Phase) (own : ℕ → Own) (move : ℕ → Move) (sent : Option Sent) (told : Option ℕ) : Type 0 where
  -- who has the file system, or handed it over last, holds no offer
  pub free : (own (source_of p)).held ≡ None
  pub left : LeftStands p own
  pub there : BeganThere p move
  -- what a server committed was handed over
  pub handed : (s : ℕ) (left : Left) → (own s).left ≡ Some left → is_handed (move left.number).fate ≡ true
  pub was_told : (n : ℕ) → told ≡ Some n → is_handed (move n).fate ≡ true
  pub was_sent : (x : Sent) → sent ≡ Some x → IsSent x (move x.offer.number)

also_next : (fs : ℕ) (p : Phase) (begins : ℕ) (own : ℕ → Own) (move : ℕ → Move) (sent : Option Sent) (told : Option ℕ) (t : Seen) (passes : List ℕ) (s : ℕ) (step : SlotStep)
    → IsAnswered (slot_by fs p t own s) step → IsDelivered move passes s step → Facts p begins move own t → Also p own move sent told
    → Also (next p s step) (own_next step p s own) (move_next step s move) (sent_by s step sent) (told_by step told)
also_next fs p begins own move sent told t passes s step a d facts also = record {
  free = free_next fs p begins move own t passes s step a d facts also.free;
  left = left_next fs p own t s step a also.left;
  there = there_next fs p own move t s step a also.there;
  handed = handed_next fs p begins move own t s step a facts also.handed;
  was_told = was_told_next fs p begins move own t s step told a facts also.handed also.was_told;
  was_sent = was_sent_next fs p begins move own t s step sent a facts also.there also.was_sent;
}

abbrev pub AlsoOf : Home → List Moment → Type 0
AlsoOf home h = Also (phase_now home.first h) (own_now home.first h) (move_now h) (latest_offer h) (latest_handed h)

pub also_of : (home : Home) (h : List Moment) → IsHistory home h → AlsoOf home h
unfolding phase_now own_now move_now latest_offer latest_handed slot_now
also_of home [] it = record {
  free = refl;
  left = tt;
  there = tt;
  handed = λ s left e. cc;
  was_told = λ n e. cc;
  was_sent = λ x e. cc;
}
also_of home (x ∷ earlier) it =
    also_next home.fs (phase_now home.first earlier) (begins_now earlier) (own_now home.first earlier) (move_now earlier)
    (latest_offer earlier) (latest_handed earlier) (tables_now home earlier) (passes_now earlier x.server) x.server x.step
    it.0.answered it.0.delivered (facts_of home earlier it.1) (also_of home earlier it.1)
