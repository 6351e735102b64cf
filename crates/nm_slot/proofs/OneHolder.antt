-- Slots that follow their own steps are columns of the one phase.
use Rattle.std.proofs.Common.{◌≡◌, ◌↔◌, ℕ, Bool, true, false, cond, List, [], ◌∷◌, refl, sym, subst, ap, ◌∙◌, eqb-true}
use Rattle.std.specs.Prelude.{◌==◌}
use Rattle.std.proofs.lemmas.Bool.{eqb-false}
use Rattle.nm_rules.specs.Seen.{seen}
use Rattle.nm_slot.specs.declared.phase.Phase.TheVariants.{Serving}
use Rattle.nm_slot.specs.Changes.{slot_after}
use Rattle.nm_slot.specs.History.{Home, IsHistory, MayCome, IsAnswered, slot_now, own_now, entries_now}
use Rattle.nm_slot.specs.Phases.{Moment, Phase, phase_now}
use Rattle.nm_slot.specs.Phases.Phase.{At}
use Rattle.nm_slot.specs.Runs.{slot_run, MayRun, IsRun}
use Rattle.nm_slot.specs.SlotNow.{SlotView, phase_of}
use Rattle.nm_slot.proofs.HistoryLaws.{one_serves}
use Rattle.nm_slot.proofs.SlotsFollow.{own_slot, other_slots}

runs_on : (home : Home) (h : List Moment) (x : Moment) → IsHistory home (x ∷ h) → ((s : ℕ) → slot_run home h s ≡ slot_now home h s)
    → (s : ℕ) → slot_run home (x ∷ h) s ≡ slot_now home (x ∷ h) s
unfolding slot_run
runs_on home h x it before s = by_test (x.server == s) refl
  where
    by_test : (b : Bool) → (x.server == s) ≡ b → cond b (slot_after (slot_run home h s) x.step) (slot_run home h s) ≡ slot_now home (x ∷ h) s
    by_test true e =
        ap (λ (v : SlotView). slot_after v x.step) (before s)
        ∙ subst (λ r. slot_after (slot_now home h r) x.step ≡ slot_now home (x ∷ h) r) (eqb-true x.server s e) (own_slot home h x it)
    by_test false e = before s ∙ sym (other_slots home h x it s (λ same. eqb-false x.server s e (sym same)))

-- a history whose slots are columns
record IsColumns (home : Home) (h : List Moment) : Type 0 where
  history : IsHistory home h
  columns : (s : ℕ) → slot_run home h s ≡ slot_now home h s

begins : (home : Home) (s : ℕ) → slot_run home [] s ≡ slot_now home [] s
unfolding slot_run slot_now phase_now own_now entries_now seen
begins home s = refl

comes : (home : Home) (h : List Moment) (x : Moment) → slot_run home h x.server ≡ slot_now home h x.server → MayRun home h x → MayCome home h x
comes home h x e may = record { answered = subst (λ v. IsAnswered v x.step) e may.answered; delivered = may.delivered }

runs : (home : Home) (h : List Moment) (x : Moment) → slot_run home h x.server ≡ slot_now home h x.server → MayCome home h x → MayRun home h x
runs home h x e may = record { answered = subst (λ v. IsAnswered v x.step) (sym e) may.answered; delivered = may.delivered }

of_run : (home : Home) (h : List Moment) → IsRun home h → IsColumns home h
of_run home [] it = record { history = tt; columns = begins home }
of_run home (x ∷ h) it = goes_on (of_run home h it.1)
  where
    goes_on : IsColumns home h → IsColumns home (x ∷ h)
    goes_on before =
        let history : IsHistory home (x ∷ h) = (comes home h x (before.columns x.server) it.0, before.history) in
        record { history = history; columns = runs_on home h x history before.columns }

pub columns : (home : Home) (h : List Moment) → IsRun home h → (s : ℕ) → slot_run home h s ≡ slot_now home h s
columns home h it = (of_run home h it).columns

of_history : (home : Home) (h : List Moment) → IsHistory home h → IsRun home h
of_history home [] it = tt
of_history home (x ∷ h) it = goes_on (of_history home h it.1)
  where
    goes_on : IsRun home h → IsRun home (x ∷ h)
    goes_on before = (runs home h x (columns home h before x.server) it.0, before)

pub same_histories : (home : Home) (h : List Moment) → IsRun home h ↔ IsHistory home h
same_histories home h = ((λ it. (of_run home h it).history), of_history home h)

pub one_at_most : (home : Home) (h : List Moment) → IsRun home h → (s r : ℕ)
    → phase_of (slot_run home h s) ≡ Serving → phase_of (slot_run home h r) ≡ Serving → s ≡ r
one_at_most home h it s r first second =
    same (phase_now home.first h)
    ((one_serves home h s).0 (ap phase_of (sym (columns home h it s)) ∙ first))
    ((one_serves home h r).0 (ap phase_of (sym (columns home h it r)) ∙ second))
  where
    same : (p : Phase) → p ≡ At s → p ≡ At r → s ≡ r
    same p a b = cc
