-- A move that is under way began at its source.
use Rattle.std.proofs.Common.{◌≡◌, ℕ, Bool, true, false, cond, Some, refl, sym, subst, ap, ◌∙◌, eqb-true, eq-eqb, inl, inr, ◌⊎◌, ⊎_elim}
use Rattle.std.specs.Prelude.{◌==◌, ◌&&◌}
use Rattle.nm_rules.specs.Seen.{Seen}
use Rattle.nm_slot.specs.declared.answers.Abandon.TheVariants as abandon
use Rattle.nm_slot.specs.declared.answers.Accept.TheVariants as accept
use Rattle.nm_slot.specs.declared.answers.Begin.TheVariants as begin
use Rattle.nm_slot.specs.declared.answers.Freeze.TheVariants as freeze
use Rattle.nm_slot.specs.declared.answers.Install.TheVariants as install
use Rattle.nm_slot.specs.Answers.{begin_answer}
use Rattle.nm_slot.specs.History.{IsAnswered}
use Rattle.nm_slot.specs.Moves.{Move, move_after}
use Rattle.nm_slot.specs.Moves.Fate.{GivenUp, Handed, Done}
use Rattle.nm_slot.specs.Phases.{Phase, source_of, after_at_source, after_elsewhere, column}
use Rattle.nm_slot.specs.Phases.Phase.{At, Closing, Frozen, Passing}
use Rattle.nm_slot.specs.SlotNow.{Own, SlotView, SlotStep}
use Rattle.nm_slot.specs.SlotNow.HandedOver.{Committed}
use Rattle.nm_slot.specs.SlotNow.SlotStep.{Beginning, Freezing, Imaging, Committing, Abandoning, Accepting, Installing}
use Rattle.nm_short.proofs.StepWords.{BeganThere, slot_by, move_next, next, by_number}
use Rattle.nm_short.proofs.AnswersSay.{begun_at}

abbrev is_beginning : SlotStep → Bool
is_beginning (Beginning here dest (begin.Begun its)) = true
is_beginning _ = false

-- a move is under way, and its source has the file system
abbrev is_under_way : Phase → Bool
is_under_way (At server) = false
is_under_way (Closing source dest number) = true
is_under_way (Frozen source dest number) = true
is_under_way (Passing source dest number) = false

source_same : (k s : ℕ) (step : SlotStep) (move : Move) → is_beginning step ≡ false → (move_after k s step move).source ≡ move.source
source_same k s (Beginning here dest (begin.Begun its)) move e = cc
source_same k s (Imaging (Some offer)) move e = by_number offer.number k (λ m. m.source) move.source (record move { offer = Some offer }) move refl refl
source_same k s (Accepting offer leases accept.Held) move e = by_number offer.number k (λ m. m.source) move.source (record move { prepared = true }) move refl refl
source_same k s (Committing its (Committed parties)) move e = by_number its k (λ m. m.source) move.source (record move { fate = Handed }) move refl refl
source_same k s (Abandoning ends (abandon.Back its)) move e = by_number its k (λ m. m.source) move.source (record move { fate = GivenUp }) move refl refl
source_same k s (Installing its ends install.Now) move e = by_number its k (λ m. m.source) move.source (record move { fate = Done }) move refl refl
source_same k s _ move e = refl

-- a move that began here began at its source
began_at : (q s : ℕ) (move : ℕ → Move) (step : SlotStep) → s ≡ q → BeganThere (after_at_source (At q) step) (move_next step s move)
began_at q s move (Beginning here to (begin.Begun its)) e = rw (eq-eqb its its refl) e
began_at q s move _ e = tt

there_at_source : (p : Phase) (move move' : ℕ → Move) (step : SlotStep) → is_under_way p ≡ true → ((k : ℕ) → (move' k).source ≡ (move k).source)
    → BeganThere p move → BeganThere (after_at_source p step) move'
there_at_source (At q) move move' step w same there = cc
there_at_source (Closing q dest number) move move' (Freezing (freeze.Frozen its)) w same there = same number ∙ there
there_at_source (Closing q dest number) move move' (Abandoning ends (abandon.Back its)) w same there = tt
there_at_source (Closing q dest number) move move' _ w same there = same number ∙ there
there_at_source (Frozen q dest number) move move' (Committing its (Committed parties)) w same there = tt
there_at_source (Frozen q dest number) move move' (Abandoning ends (abandon.Back its)) w same there = tt
there_at_source (Frozen q dest number) move move' _ w same there = same number ∙ there
there_at_source (Passing q dest number) move move' step w same there = cc

there_elsewhere : (p : Phase) (move move' : ℕ → Move) (s : ℕ) (step : SlotStep) → is_under_way p ≡ true → ((k : ℕ) → (move' k).source ≡ (move k).source)
    → BeganThere p move → BeganThere (after_elsewhere p s step) move'
there_elsewhere (At q) move move' s step w same there = cc
there_elsewhere (Closing q dest number) move move' s step w same there = same number ∙ there
there_elsewhere (Frozen q dest number) move move' s step w same there = same number ∙ there
there_elsewhere (Passing q dest number) move move' s step w same there = cc

beginning_or : (step : SlotStep) → (is_beginning step ≡ false) ⊎ ((here : ℕ) × (dest : ℕ) × (its : ℕ) × (step ≡ Beginning here dest (begin.Begun its)))
beginning_or (Beginning here dest (begin.Begun its)) = inr (here, dest, its, refl)
beginning_or _ = inl refl

begun_answer : (v : SlotView) (step : SlotStep) (here dest its : ℕ) → step ≡ Beginning here dest (begin.Begun its) → IsAnswered v step
    → begin.Begun its ≡ begin_answer v here dest
begun_answer v step here dest its e a = subst (λ x. IsAnswered v x) e a

not_at : (p : Phase) (s : ℕ) → is_under_way p ≡ true → p ≡ At s → ⊥
not_at p s w e = let none : is_under_way (At s) ≡ true = ap is_under_way (sym e) ∙ w in cc

-- no move begins while another is under way
under_way_same : (fs : ℕ) (p : Phase) (own : ℕ → Own) (move : ℕ → Move) (t : Seen) (s : ℕ) (step : SlotStep) → IsAnswered (slot_by fs p t own s) step
    → is_under_way p ≡ true → (k : ℕ) → (move_next step s move k).source ≡ (move k).source
unfolding begin_answer
under_way_same fs p own move t s step a w k = ⊎_elim (λ f. source_same k s step (move k) f)
    (λ g. absurd (not_at p s w (begun_at p t s g.0 g.1 g.2 (own s) (column p t s) refl (begun_answer (slot_by fs p t own s) step g.0 g.1 g.2 g.3 a))))
    (beginning_or step)

there_under_way : (fs : ℕ) (p : Phase) (own : ℕ → Own) (move : ℕ → Move) (t : Seen) (s : ℕ) (step : SlotStep) → IsAnswered (slot_by fs p t own s) step
    → is_under_way p ≡ true → BeganThere p move → BeganThere (next p s step) (move_next step s move)
there_under_way fs p own move t s step a w there = by_test (s == source_of p)
  where
    by_test : (b : Bool) → BeganThere (cond b (after_at_source p step) (after_elsewhere p s step)) (move_next step s move)
    by_test true = there_at_source p move (move_next step s move) step w (under_way_same fs p own move t s step a w) there
    by_test false = there_elsewhere p move (move_next step s move) s step w (under_way_same fs p own move t s step a w) there

there_passing : (q dest number s : ℕ) (move : ℕ → Move) (step : SlotStep) → BeganThere (next (Passing q dest number) s step) move
there_passing q dest number s move (Installing its ends install.Now) = by_test (s == q) (s == dest) (its == number)
  where
    by_test : (b c d : Bool) → BeganThere (cond b (Passing q dest number) (cond (c && d) (At dest) (Passing q dest number))) move
    by_test true c d = tt
    by_test false true true = tt
    by_test false true false = tt
    by_test false false d = tt
there_passing q dest number s move _ = either (s == q)
  where
    either : (b : Bool) → BeganThere (cond b (Passing q dest number) (Passing q dest number)) move
    either true = tt
    either false = tt

pub there_next : (fs : ℕ) (p : Phase) (own : ℕ → Own) (move : ℕ → Move) (t : Seen) (s : ℕ) (step : SlotStep)
    → IsAnswered (slot_by fs p t own s) step → BeganThere p move → BeganThere (next p s step) (move_next step s move)
there_next fs (At q) own move t s step a there = by_test (s == q) refl
  where
    by_test : (b : Bool) → (s == q) ≡ b → BeganThere (cond b (after_at_source (At q) step) (At q)) (move_next step s move)
    by_test true e = began_at q s move step (eqb-true s q e)
    by_test false e = tt
there_next fs (Closing q dest number) own move t s step a there = there_under_way fs (Closing q dest number) own move t s step a refl there
there_next fs (Frozen q dest number) own move t s step a there = there_under_way fs (Frozen q dest number) own move t s step a refl there
there_next fs (Passing q dest number) own move t s step a there = there_passing q dest number s (move_next step s move) step
