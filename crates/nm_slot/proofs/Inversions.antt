-- What a column and an answer say of the phase.
use Rattle.std.proofs.Common.{◌≡◌, ℕ, Bool, true, false, cond, refl, sym, ap, ◌∙◌, eqb-true, eq-eqb}
use Rattle.std.specs.Prelude.{◌==◌}
use Rattle.nm_rules.specs.Seen.{Seen}
use Rattle.nm_slot.specs.declared.answers.Abandon.TheVariants as abandon
use Rattle.nm_slot.specs.declared.answers.Begin.TheVariants as begin
use Rattle.nm_slot.specs.declared.answers.Freeze.TheVariants as freeze
use Rattle.nm_slot.specs.declared.answers.Install.TheVariants as install
use Rattle.nm_slot.specs.Phases.{Phase, source_of, after_at_source, after_elsewhere, phase_after, column}
use Rattle.nm_slot.specs.Phases.Phase.{At, Closing, Frozen, Passing}
use Rattle.nm_slot.specs.SlotNow.{Doing, Stage, SlotStep}
use Rattle.nm_slot.specs.SlotNow.Doing.{Serves, Closes, Froze}
use Rattle.nm_slot.specs.SlotNow.Stage.{Away, Here}
use Rattle.nm_slot.specs.SlotNow.HandedOver.{Committed}
use Rattle.nm_slot.specs.SlotNow.SlotStep.{Beginning, Freezing, Committing, Abandoning, Installing}

-- ---- a column tells the phase

abbrev pub phase_by : ℕ → Doing → Phase
phase_by s Serves = At s
phase_by s (Closes dest number) = Closing s dest number
phase_by s (Froze dest number) = Frozen s dest number

abbrev state_at : Seen → Stage → Seen
state_at t Away = t
state_at t (Here doing state) = state

abbrev doing_at : Stage → Doing
doing_at Away = Serves
doing_at (Here doing state) = doing

-- A server that has the state is the source in the phase, and what it has are the tables.
pub record IsSource (p : Phase) (t : Seen) (s : ℕ) (doing : Doing) (state : Seen) : Type 0 where
  pub phase : p ≡ phase_by s doing
  pub tables : state ≡ t

source_by : (p : Phase) (t : Seen) (s q : ℕ) (its doing : Doing) (state : Seen) → p ≡ phase_by q its → (b : Bool) → (s == q) ≡ b
    → cond b (Here its t) Away ≡ Here doing state → IsSource p t s doing state
source_by p t s q its doing state phase true same e = record {
  phase = phase ∙ ap (λ r. phase_by r its) (sym (eqb-true s q same)) ∙ ap (λ x. phase_by s (doing_at x)) e;
  tables = ap (state_at t) (sym e);
}
source_by p t s q its doing state phase false other e = cc

pub is_source : (p : Phase) (t : Seen) (s : ℕ) (doing : Doing) (state : Seen) → column p t s ≡ Here doing state → IsSource p t s doing state
is_source (At q) t s doing state e = source_by (At q) t s q Serves doing state refl (s == q) refl e
is_source (Closing q dest number) t s doing state e = source_by (Closing q dest number) t s q (Closes dest number) doing state refl (s == q) refl e
is_source (Frozen q dest number) t s doing state e = source_by (Frozen q dest number) t s q (Froze dest number) doing state refl (s == q) refl e
is_source (Passing q dest number) t s doing state e = cc

-- ---- the phase after a step

pub at_source : (p : Phase) (s : ℕ) (step : SlotStep) → s ≡ source_of p
    → phase_after p (record { server = s; step = step }) ≡ after_at_source p step
at_source p s step e = rw (eq-eqb s (source_of p) e) refl

-- the steps that change the phase
abbrev pub changes_phase : SlotStep → Bool
changes_phase (Beginning here dest (begin.Begun number)) = true
changes_phase (Freezing (freeze.Frozen number)) = true
changes_phase (Committing number (Committed parties)) = true
changes_phase (Abandoning ends (abandon.Back number)) = true
changes_phase (Installing number ends install.Now) = true
changes_phase _ = false

same_at_source : (p : Phase) (step : SlotStep) → changes_phase step ≡ false → after_at_source p step ≡ p
same_at_source (At q) (Beginning here dest (begin.Begun number)) e = cc
same_at_source (At q) _ e = refl
same_at_source (Closing q dest number) (Freezing (freeze.Frozen its)) e = cc
same_at_source (Closing q dest number) (Abandoning ends (abandon.Back its)) e = cc
same_at_source (Closing q dest number) _ e = refl
same_at_source (Frozen q dest number) (Committing its (Committed parties)) e = cc
same_at_source (Frozen q dest number) (Abandoning ends (abandon.Back its)) e = cc
same_at_source (Frozen q dest number) _ e = refl
same_at_source (Passing q dest number) step e = refl

same_elsewhere : (p : Phase) (s : ℕ) (step : SlotStep) → changes_phase step ≡ false → after_elsewhere p s step ≡ p
same_elsewhere (Passing q dest number) s (Installing its ends install.Now) e = cc
same_elsewhere (Passing q dest number) s _ e = refl
same_elsewhere (At q) s step e = refl
same_elsewhere (Closing q dest number) s step e = refl
same_elsewhere (Frozen q dest number) s step e = refl

pub same_phase : (p : Phase) (s : ℕ) (step : SlotStep) → changes_phase step ≡ false → phase_after p (record { server = s; step = step }) ≡ p
same_phase p s step e = by_test (s == source_of p)
  where
    by_test : (b : Bool) → cond b (after_at_source p step) (after_elsewhere p s step) ≡ p
    by_test true = same_at_source p step e
    by_test false = same_elsewhere p s step e
