-- Who has the file system, or handed it over last, holds no offer.
use Rattle.std.proofs.Common.{◌≡◌, ◌≤◌, ℕ, Bool, true, false, cond, List, Option, Some, None, refl, sym, subst, ap, ◌∙◌, arith, eqb-true, inl, inr, ◌⊎◌, ⊎_elim}
use Rattle.std.specs.Prelude.{◌==◌, ◌&&◌}
use Rattle.std.proofs.lemmas.Bool.{eqb-false}
use Rattle.nm_slot.proofs.SlotsFollow.{same_source as same_source_there}
use Rattle.nm_types.specs.declared.leases.LeasePass.{LeasePass}
use Rattle.nm_types.specs.Parties.{Party}
use Rattle.nm_rules.specs.Seen.{Seen}
use Rattle.nm_slot.specs.declared.answers.Abandon.TheVariants as abandon
use Rattle.nm_slot.specs.declared.answers.Accept.TheVariants as accept
use Rattle.nm_slot.specs.declared.answers.Answer.TheVariants as answer
use Rattle.nm_slot.specs.declared.answers.Begin.TheVariants as begin
use Rattle.nm_slot.specs.declared.answers.Enter.TheVariants as enter
use Rattle.nm_slot.specs.declared.answers.Freeze.TheVariants as freeze
use Rattle.nm_slot.specs.declared.answers.Install.TheVariants as install
use Rattle.nm_slot.specs.declared.answers.Swept.TheVariants as sweep
use Rattle.nm_slot.specs.Answers.{is_past, accept_answer}
use Rattle.nm_slot.specs.Changes.{own_after, own_installed}
use Rattle.nm_slot.specs.Eras.{marked}
use Rattle.nm_slot.specs.History.{IsAnswered, IsDelivered, dest_from}
use Rattle.nm_slot.specs.Moves.{Move}
use Rattle.nm_slot.specs.Phases.{Phase, source_of, after_at_source, after_elsewhere, column}
use Rattle.nm_slot.specs.Phases.Phase.{At, Closing, Frozen, Passing}
use Rattle.nm_slot.specs.SlotNow.{Offer, Own, SlotView, SlotStep}
use Rattle.nm_slot.specs.SlotNow.HandedOver.{Committed}
use Rattle.nm_slot.specs.SlotNow.SlotStep.{Entering, Leaving, Applying, Sweeping, Beginning, Freezing, Imaging, Committing, Abandoning, Accepting, Installing, Withdrawing}
use Rattle.nm_slot.proofs.Facts.{Facts}
use Rattle.nm_slot.proofs.Agreed.{began}
use Rattle.nm_short.proofs.StepWords.{slot_by, own_next, next}
use Rattle.nm_short.proofs.AnswersSay.{never_held}

-- the steps by which another server has it
abbrev pub is_installing : SlotStep → Bool
is_installing (Installing its ends install.Now) = true
is_installing _ = false

same_elsewhere : (p : Phase) (s : ℕ) (step : SlotStep) → is_installing step ≡ false → after_elsewhere p s step ≡ p
same_elsewhere (Passing q dest number) s (Installing its ends install.Now) e = cc
same_elsewhere (Passing q dest number) s _ e = refl
same_elsewhere (At q) s step e = refl
same_elsewhere (Closing q dest number) s step e = refl
same_elsewhere (Frozen q dest number) s step e = refl

-- only an install changes who has it
pub same_source : (p : Phase) (s : ℕ) (step : SlotStep) → is_installing step ≡ false → source_of (next p s step) ≡ source_of p
same_source p s step e = by_test (s == source_of p)
  where
    by_test : (b : Bool) → source_of (cond b (after_at_source p step) (after_elsewhere p s step)) ≡ source_of p
    by_test true = same_source_there p step
    by_test false = ap source_of (same_elsewhere p s step e)

installed_free : (its : ℕ) (ends : List Party) (o : Own) → (own_installed its ends o.held o).held ≡ None
installed_free its ends o = by_held o.held refl
  where
    by_held : (held : Option Offer) → o.held ≡ held → (own_installed its ends held o).held ≡ None
    by_held None e = e
    by_held (Some offer) e = refl

own_free : (step : SlotStep) (dest : ℕ) (o : Own) → ((offer : Offer) (leases : List LeasePass) → step ≡ Accepting offer leases accept.Held → ⊥) → o.held ≡ None
    → (own_after step dest o).held ≡ None
own_free (Entering (enter.Entered pass)) dest o never free = free
own_free (Applying epoch lease call verdict ends (answer.Done place reply)) dest o never free = free
own_free (Beginning here to (begin.Begun its)) dest o never free = free
own_free (Committing its (Committed parties)) dest o never free = free
own_free (Accepting offer leases accept.Held) dest o never free = absurd (never offer leases refl)
own_free (Installing its ends install.Now) dest o never free = installed_free its ends o
own_free (Withdrawing its true) dest o never free = refl
own_free (Withdrawing its false) dest o never free = free
own_free (Entering _) dest o never free = free
own_free (Applying epoch lease call verdict ends _) dest o never free = free
own_free (Beginning here to _) dest o never free = free
own_free (Committing its _) dest o never free = free
own_free (Accepting offer leases _) dest o never free = free
own_free (Installing its ends _) dest o never free = free
own_free (Abandoning ends (abandon.Back its)) dest o never free = free
own_free (Abandoning ends _) dest o never free = free
own_free (Sweeping party era ends sweep.Ended) dest o never free = free
own_free (Sweeping party era ends sweep.PutOff) dest o never free = free
own_free (Sweeping party era ends sweep.Last) dest o never free = free
own_free (Sweeping party era ends sweep.Nothing) dest o never free = by_test (is_past party era o)
  where
    by_test : (b : Bool) → (cond b o (record o { eras = marked party era o.eras })).held ≡ None
    by_test true = free
    by_test false = free
own_free _ dest o never free = free

installed_elsewhere : (p : Phase) (s its : ℕ) (ends : List Party) → (source_of (after_elsewhere p s (Installing its ends install.Now)) ≡ source_of p)
    ⊎ (source_of (after_elsewhere p s (Installing its ends install.Now)) ≡ s)
installed_elsewhere (At q) s its ends = inl refl
installed_elsewhere (Closing q dest number) s its ends = inl refl
installed_elsewhere (Frozen q dest number) s its ends = inl refl
installed_elsewhere (Passing q dest number) s its ends = by_test (s == dest) (its == number) refl
  where
    by_test : (b c : Bool) → (s == dest) ≡ b → (source_of (cond (b && c) (At dest) (Passing q dest number)) ≡ q) ⊎ (source_of (cond (b && c) (At dest) (Passing q dest number)) ≡ s)
    by_test true true e = inr (sym (eqb-true s dest e))
    by_test true false e = inl refl
    by_test false c e = inl refl

after_install : (p : Phase) (s its : ℕ) (ends : List Party) → (source_of (next p s (Installing its ends install.Now)) ≡ source_of p) ⊎ (source_of (next p s (Installing its ends install.Now)) ≡ s)
after_install p s its ends = by_test (s == source_of p)
  where
    by_test : (b : Bool) → (source_of (cond b (after_at_source p (Installing its ends install.Now)) (after_elsewhere p s (Installing its ends install.Now))) ≡ source_of p)
        ⊎ (source_of (cond b (after_at_source p (Installing its ends install.Now)) (after_elsewhere p s (Installing its ends install.Now))) ≡ s)
    by_test true = inl (same_source_there p (Installing its ends install.Now))
    by_test false = installed_elsewhere p s its ends

free_installed : (p : Phase) (own : ℕ → Own) (s its : ℕ) (ends : List Party) (r : ℕ) → (own (source_of p)).held ≡ None → (r ≡ source_of p) ⊎ (r ≡ s)
    → (own_next (Installing its ends install.Now) p s own r).held ≡ None
free_installed p own s its ends r free at = by_test (s == r) refl
  where
    by_test : (b : Bool) → (s == r) ≡ b → (cond b (own_installed its ends (own r).held (own r)) (own r)).held ≡ None
    by_test true e = installed_free its ends (own r)
    by_test false e = ⊎_elim (λ f. ap (λ q. (own q).held) f ∙ free) (λ f. absurd (eqb-false s r e (sym f))) at

free_elsewhere : (p : Phase) (own : ℕ → Own) (s : ℕ) (step : SlotStep) → (own (source_of p)).held ≡ None
    → ((offer : Offer) (leases : List LeasePass) → s ≡ source_of p → step ≡ Accepting offer leases accept.Held → ⊥)
    → (own_next step p s own (source_of p)).held ≡ None
free_elsewhere p own s step free never = by_test (s == source_of p) refl
  where
    by_test : (b : Bool) → (s == source_of p) ≡ b → (cond b (own_after step (dest_from p (source_of p)) (own (source_of p))) (own (source_of p))).held ≡ None
    by_test true e = own_free step (dest_from p (source_of p)) (own (source_of p)) (λ offer leases f. never offer leases (eqb-true s (source_of p) e) f) free
    by_test false e = free

-- what is delivered of an offer was made
offer_made : (move : ℕ → Move) (passes : List ℕ) (s : ℕ) (step : SlotStep) (offer : Offer) (leases : List LeasePass) → step ≡ Accepting offer leases accept.Held
    → IsDelivered move passes s step → (move offer.number).offer ≡ Some offer
offer_made move passes s step offer leases e it = (subst (λ x. IsDelivered move passes s x) e it).0

held_answer : (v : SlotView) (step : SlotStep) (offer : Offer) (leases : List LeasePass) → step ≡ Accepting offer leases accept.Held → IsAnswered v step → accept.Held ≡ accept_answer v offer.number
held_answer v step offer leases e a = subst (λ x. IsAnswered v x) e a

never_accepts : (fs : ℕ) (p : Phase) (begins : ℕ) (move : ℕ → Move) (own : ℕ → Own) (t : Seen) (passes : List ℕ) (s : ℕ) (step : SlotStep)
    → IsAnswered (slot_by fs p t own s) step → IsDelivered move passes s step → Facts p begins move own t → (own (source_of p)).held ≡ None
    → (offer : Offer) (leases : List LeasePass) → s ≡ source_of p → step ≡ Accepting offer leases accept.Held → ⊥
unfolding accept_answer
never_accepts fs p begins move own t passes s step a d facts free offer leases at e =
    let made : offer.number ≤ begins = began facts.agreed.numbers offer.number offer (offer_made move passes s step offer leases e d) in
    let known : (own s).known ≡ begins = ap (λ q. (own q).known) at ∙ facts.agreed.numbers.holder in
    never_held offer.number (own s) (column p t s) (ap (λ q. (own q).held) at ∙ free) (omega arith) (held_answer (slot_by fs p t own s) step offer leases e a)

pub free_next : (fs : ℕ) (p : Phase) (begins : ℕ) (move : ℕ → Move) (own : ℕ → Own) (t : Seen) (passes : List ℕ) (s : ℕ) (step : SlotStep)
    → IsAnswered (slot_by fs p t own s) step → IsDelivered move passes s step → Facts p begins move own t → (own (source_of p)).held ≡ None
    → (own_next step p s own (source_of (next p s step))).held ≡ None
free_next fs p begins move own t passes s step a d facts free = by_kind step refl
  where
    by_other : (x : SlotStep) → step ≡ x → is_installing x ≡ false → (own_next x p s own (source_of (next p s x))).held ≡ None
    by_other x e other = subst (λ r. (own_next x p s own r).held ≡ None) (sym (same_source p s x other))
        (free_elsewhere p own s x free (λ offer leases at f. never_accepts fs p begins move own t passes s step a d facts free offer leases at (e ∙ f)))

    by_kind : (x : SlotStep) → step ≡ x → (own_next x p s own (source_of (next p s x))).held ≡ None
    by_kind (Installing its ends install.Now) e = free_installed p own s its ends (source_of (next p s (Installing its ends install.Now))) free (after_install p s its ends)
    by_kind (Installing its ends install.Already) e = by_other (Installing its ends install.Already) e refl
    by_kind (Installing its ends install.Absent) e = by_other (Installing its ends install.Absent) e refl
    by_kind (Entering b) e = by_other (Entering b) e refl
    by_kind (Leaving b) e = by_other (Leaving b) e refl
    by_kind (Applying b c f g h i) e = by_other (Applying b c f g h i) e refl
    by_kind (Sweeping b c f g) e = by_other (Sweeping b c f g) e refl
    by_kind (Beginning b c f) e = by_other (Beginning b c f) e refl
    by_kind (Freezing b) e = by_other (Freezing b) e refl
    by_kind (Imaging b) e = by_other (Imaging b) e refl
    by_kind (Committing b c) e = by_other (Committing b c) e refl
    by_kind (Abandoning b c) e = by_other (Abandoning b c) e refl
    by_kind (Accepting b c f) e = by_other (Accepting b c f) e refl
    by_kind (Withdrawing b c) e = by_other (Withdrawing b c) e refl
