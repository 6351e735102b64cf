-- What a server remembers of its commits: the source of a move that was handed over knows where it went to.
use Rattle.std.proofs.Common.{◌≡◌, ℕ, Bool, true, false, cond, List, Option, Some, None, refl, sym, subst, ap, ◌∙◌, eqb-true, eq-eqb, inl, inr, ◌⊎◌, ⊎_elim}
use Rattle.std.specs.Prelude.{◌==◌, ◌&&◌}
use Rattle.std.proofs.lemmas.Option.{same_Some}
use Rattle.nm_types.specs.Parties.{Party}
use Rattle.nm_rules.specs.Seen.{Seen}
use Rattle.nm_slot.specs.declared.answers.Abandon.TheVariants as abandon
use Rattle.nm_slot.specs.declared.answers.Accept.TheVariants as accept
use Rattle.nm_slot.specs.declared.answers.Answer.TheVariants as answer
use Rattle.nm_slot.specs.declared.answers.Begin.TheVariants as begin
use Rattle.nm_slot.specs.declared.answers.Enter.TheVariants as enter
use Rattle.nm_slot.specs.declared.answers.Freeze.TheVariants as freeze
use Rattle.nm_slot.specs.declared.answers.Install.TheVariants as install
use Rattle.nm_slot.specs.declared.answers.Swept.TheVariants as sweep
use Rattle.nm_slot.specs.Answers.{is_past, commit_answer, committed_away, is_left_by}
use Rattle.nm_slot.specs.Changes.{own_after, own_accepted, own_installed}
use Rattle.nm_slot.specs.Eras.{marked}
use Rattle.nm_slot.specs.History.{IsAnswered}
use Rattle.nm_slot.specs.Phases.{Phase, source_of, after_at_source, after_elsewhere}
use Rattle.nm_slot.specs.Phases.Phase.{At, Closing, Frozen, Passing}
use Rattle.nm_slot.specs.SlotNow.{Offer, Left, Own, SlotView, SlotStep}
use Rattle.nm_slot.specs.SlotNow.HandedOver.{Committed, Again, Dead}
use Rattle.nm_slot.specs.SlotNow.SlotStep.{Entering, Applying, Sweeping, Beginning, Freezing, Committing, Abandoning, Accepting, Installing, Withdrawing}
use Rattle.nm_short.proofs.StepWords.{went_to, LeftStands, slot_by, own_next, next}

-- ---- what a server remembers of its commits

-- a commit, with whom it was the state of
abbrev is_committed : SlotStep → Bool
is_committed (Committing its (Committed parties)) = true
is_committed _ = false

committed_or : (step : SlotStep) → (is_committed step ≡ false) ⊎ ((its : ℕ) × (parties : List Party) × (step ≡ Committing its (Committed parties)))
committed_or (Committing its (Committed parties)) = inr (its, parties, refl)
committed_or _ = inl refl

left_same : (step : SlotStep) (dest : ℕ) (own : Own) → is_committed step ≡ false → (own_after step dest own).left ≡ own.left
left_same (Committing its (Committed parties)) dest own e = cc
left_same (Accepting offer leases accept.Held) dest own e = held own.held
  where
    held : (its : Option Offer) → (own_accepted offer leases its own).left ≡ own.left
    held None = refl
    held (Some it) = by_test (it.number == offer.number)
      where
        by_test : (b : Bool) → (cond b own (record own { held = Some offer; brought = leases; known = offer.number })).left ≡ own.left
        by_test true = refl
        by_test false = refl
left_same (Installing its ends install.Now) dest own e = held own.held
  where
    held : (it : Option Offer) → (own_installed its ends it own).left ≡ own.left
    held None = refl
    held (Some it) = refl
left_same (Entering (enter.Entered pass)) dest own e = refl
left_same (Applying epoch lease call verdict ends (answer.Done place reply)) dest own e = refl
left_same (Abandoning ends (abandon.Back its)) dest own e = refl
left_same (Sweeping party era ends sweep.Ended) dest own e = refl
left_same (Sweeping party era ends sweep.PutOff) dest own e = refl
left_same (Sweeping party era ends sweep.Last) dest own e = refl
left_same (Sweeping party era ends sweep.Nothing) dest own e = by_test (is_past party era own)
  where
    by_test : (b : Bool) → (cond b own (record own { eras = marked party era own.eras })).left ≡ own.left
    by_test true = refl
    by_test false = refl
left_same (Beginning here to (begin.Begun its)) dest own e = refl
left_same (Withdrawing its true) dest own e = refl
left_same (Withdrawing its false) dest own e = refl
left_same _ dest own e = refl

pub left_there : (step : SlotStep) (dest : ℕ) (own : Own) (left : Left) → (own_after step dest own).left ≡ Some left
    → (own.left ≡ Some left) ⊎ ((parties : List Party) × (step ≡ Committing left.number (Committed parties)))
left_there step dest own left e = ⊎_elim (λ f. inl (sym (left_same step dest own f) ∙ e)) (λ g. inr (now g.0 g.1 g.2)) (committed_or step)
  where
    now : (its : ℕ) (parties : List Party) → step ≡ Committing its (Committed parties) → (all : List Party) × (step ≡ Committing left.number (Committed all))
    now its parties at =
        let same : record { dest = dest; number = its } ≡ left = same_Some (record { dest = dest; number = its }) left (subst (λ x. (own_after x dest own).left ≡ Some left) at e) in
        (parties, at ∙ ap (λ (l : Left). Committing l.number (Committed parties)) same)

-- ---- where the source of a move sent it

not_committed_away : (n : ℕ) (own : Own) (held : Option Offer) (parties : List Party) → Committed parties ≡ committed_away n held own → ⊥
not_committed_away n own (Some offer) parties a = cc
not_committed_away n own None parties a = by_test (is_left_by n own.left) a
  where
    by_test : (b : Bool) → Committed parties ≡ cond b Again (Dead own.known) → ⊥
    by_test true b = cc
    by_test false b = cc

left_of_frozen : (q dest number s : ℕ) (own : ℕ → Own) (step : SlotStep) → s ≡ q
    → LeftStands (after_at_source (Frozen q dest number) step) (own_next step (Frozen q dest number) s own)
left_of_frozen q dest number s own (Committing its (Committed parties)) e =
    rw (eq-eqb s q e, eq-eqb q q refl) refl
left_of_frozen q dest number s own (Abandoning ends (abandon.Back its)) e = tt
left_of_frozen q dest number s own _ e = tt

left_of_passing : (q dest s : ℕ) (own : ℕ → Own) (step : SlotStep) (b : Bool) → (s == q) ≡ b
    → ((its : ℕ) (parties : List Party) → s ≡ q → step ≡ Committing its (Committed parties) → ⊥)
    → went_to (own q).left ≡ Some dest → went_to (cond b (own_after step 0 (own q)) (own q)).left ≡ Some dest
left_of_passing q dest s own step false e never before = before
left_of_passing q dest s own step true e never before = ⊎_elim
    (λ f. ap went_to (left_same step 0 (own q) f) ∙ before)
    (λ g. absurd (never g.0 g.1 (eqb-true s q e) g.2))
    (committed_or step)

committed_answer : (v : SlotView) (step : SlotStep) (its : ℕ) (parties : List Party) → step ≡ Committing its (Committed parties) → IsAnswered v step
    → Committed parties ≡ commit_answer v its
committed_answer v step its parties e a = subst (λ x. IsAnswered v x) e a

passing_stays : (q dest number s : ℕ) (own : ℕ → Own) (step : SlotStep) → went_to (own q).left ≡ Some dest
    → LeftStands (next (Passing q dest number) s step) own
passing_stays q dest number s own (Installing its ends install.Now) before = by_test (s == q) (s == dest) (its == number)
  where
    by_test : (b c d : Bool) → LeftStands (cond b (Passing q dest number) (cond (c && d) (At dest) (Passing q dest number))) own
    by_test true c d = before
    by_test false true true = tt
    by_test false true false = before
    by_test false false d = before
passing_stays q dest number s own _ before = either (s == q)
  where
    either : (b : Bool) → LeftStands (cond b (Passing q dest number) (Passing q dest number)) own
    either true = before
    either false = before

abbrev is_handed_over : Phase → Bool
is_handed_over (At server) = false
is_handed_over (Closing source dest number) = false
is_handed_over (Frozen source dest number) = false
is_handed_over (Passing source dest number) = true

under_way_elsewhere : (p : Phase) (s : ℕ) (own : ℕ → Own) (step : SlotStep) → is_handed_over p ≡ false → LeftStands (after_elsewhere p s step) own
under_way_elsewhere (At q) s own step e = tt
under_way_elsewhere (Closing q dest number) s own step e = tt
under_way_elsewhere (Frozen q dest number) s own step e = tt
under_way_elsewhere (Passing q dest number) s own step e = cc

-- the phase isn't handed over by that step
left_at_source : (p : Phase) (s : ℕ) (own : ℕ → Own) (step : SlotStep) → is_handed_over p ≡ false → s ≡ source_of p
    → LeftStands (after_at_source p step) (own_next step p s own)
left_at_source (At q) s own (Beginning here dest (begin.Begun number)) e at = tt
left_at_source (At q) s own _ e at = tt
left_at_source (Closing q dest number) s own (Freezing (freeze.Frozen its)) e at = tt
left_at_source (Closing q dest number) s own (Abandoning ends (abandon.Back its)) e at = tt
left_at_source (Closing q dest number) s own _ e at = tt
left_at_source (Frozen q dest number) s own step e at = left_of_frozen q dest number s own step at
left_at_source (Passing q dest number) s own step e at = cc

left_before : (p : Phase) (s : ℕ) (own : ℕ → Own) (step : SlotStep) → is_handed_over p ≡ false → LeftStands (next p s step) (own_next step p s own)
left_before p s own step e = by_test (s == source_of p) refl
  where
    by_test : (b : Bool) → (s == source_of p) ≡ b → LeftStands (cond b (after_at_source p step) (after_elsewhere p s step)) (own_next step p s own)
    by_test true f = left_at_source p s own step e (eqb-true s (source_of p) f)
    by_test false f = under_way_elsewhere p s (own_next step p s own) step e

pub left_next : (fs : ℕ) (p : Phase) (own : ℕ → Own) (t : Seen) (s : ℕ) (step : SlotStep)
    → IsAnswered (slot_by fs p t own s) step → LeftStands p own → LeftStands (next p s step) (own_next step p s own)
unfolding commit_answer
left_next fs (At q) own t s step a left = left_before (At q) s own step refl
left_next fs (Closing q dest number) own t s step a left = left_before (Closing q dest number) s own step refl
left_next fs (Frozen q dest number) own t s step a left = left_before (Frozen q dest number) s own step refl
left_next fs (Passing q dest number) own t s step a left =
    passing_stays q dest number s (own_next step (Passing q dest number) s own) step
    (left_of_passing q dest s own step (s == q) refl
    (λ its parties at e. not_committed_away its (own s) (own s).held parties (committed_answer (slot_by fs (Passing q dest number) t own s) step its parties e a)) left)
