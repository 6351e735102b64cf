-- What was sent still stands: offers, and words that a move was handed over.
use Rattle.std.proofs.Common.{◌≡◌, ℕ, Bool, true, false, cond, List, Option, Some, None, refl, sym, subst, ap, ◌∙◌, eqb-true, eq-eqb, ⊎_elim}
use Rattle.std.specs.Prelude.{◌==◌}
use Rattle.std.proofs.lemmas.Option.{same_Some}
use Rattle.nm_types.specs.Parties.{Party}
use Rattle.nm_rules.specs.Seen.{Seen}
use Rattle.nm_slot.specs.declared.answers.Abandon.TheVariants as abandon
use Rattle.nm_slot.specs.declared.answers.Accept.TheVariants as accept
use Rattle.nm_slot.specs.declared.answers.Begin.TheVariants as begin
use Rattle.nm_slot.specs.declared.answers.Install.TheVariants as install
use Rattle.nm_slot.specs.Answers.{begin_answer, image_answer, offered, commit_answer}
use Rattle.nm_slot.specs.Changes.{own_after}
use Rattle.nm_slot.specs.History.{IsAnswered, dest_from}
use Rattle.nm_slot.specs.Moves.{Move, Sent, no_move, of_move, move_after, is_handed, sent_by, told_by}
use Rattle.nm_slot.specs.Moves.Fate.{GivenUp, Handed, Done}
use Rattle.nm_slot.specs.Phases.{Phase, column}
use Rattle.nm_slot.specs.SlotNow.{Offer, Left, Own, SlotStep}
use Rattle.nm_slot.specs.SlotNow.HandedOver.{Committed, Again, Dead}
use Rattle.nm_slot.specs.SlotNow.SlotStep.{Entering, Leaving, Applying, Sweeping, Beginning, Freezing, Imaging, Committing, Abandoning, Accepting, Installing, Withdrawing}
use Rattle.nm_slot.proofs.Facts.{Facts, new_move}
use Rattle.nm_short.proofs.StepWords.{BeganThere, IsSent, slot_by, own_next, move_next}
use Rattle.nm_short.proofs.AnswersSay.{begun_new, offered_at, again_at}
use Rattle.nm_short.proofs.LeftKept.{left_there}
use Rattle.nm_short.proofs.MovesKept.{handed_kept}

-- ---- what was sent

still_sent : (x : Sent) (its k : ℕ) (new old : Move) → new.offer ≡ old.offer → new.source ≡ old.source → IsSent x old → IsSent x (of_move k its new old)
still_sent x its k new old offer source it = by_test (its == k)
  where
    by_test : (b : Bool) → IsSent x (cond b new old)
    by_test true = record { offer = offer ∙ it.offer; source = source ∙ it.source }
    by_test false = it

sent_before : (x : Sent) (its k : ℕ) (move : ℕ → Move) (new : Move) → move its ≡ no_move → IsSent x (move k) → IsSent x (of_move k its new (move k))
sent_before x its k move new none it = by_test (its == k) refl
  where
    by_test : (b : Bool) → (its == k) ≡ b → IsSent x (cond b new (move k))
    by_test true e = let made : None ≡ Some x.offer = ap (λ (m : Move). m.offer) (sym none) ∙ ap (λ j. (move j).offer) (eqb-true its k e) ∙ it.offer in cc
    by_test false e = it

sent_kept : (fs : ℕ) (p : Phase) (begins : ℕ) (move : ℕ → Move) (own : ℕ → Own) (t : Seen) (s : ℕ) (step : SlotStep)
    → IsAnswered (slot_by fs p t own s) step → Facts p begins move own t → (x : Sent) → ((offer : Offer) → step ≡ Imaging (Some offer) → ⊥)
    → IsSent x (move x.offer.number) → IsSent x (move_next step s move x.offer.number)
unfolding begin_answer
sent_kept fs p begins move own t s (Beginning here dest (begin.Begun its)) a facts x other it =
    sent_before x its x.offer.number move (new_move s dest) (begun_new p begins move own t s here dest its a facts) it
sent_kept fs p begins move own t s (Imaging (Some offer)) a facts x other it = absurd (other offer refl)
sent_kept fs p begins move own t s (Accepting offer leases accept.Held) a facts x other it =
    still_sent x offer.number x.offer.number (record (move x.offer.number) { prepared = true }) (move x.offer.number) refl refl it
sent_kept fs p begins move own t s (Committing its (Committed parties)) a facts x other it =
    still_sent x its x.offer.number (record (move x.offer.number) { fate = Handed }) (move x.offer.number) refl refl it
sent_kept fs p begins move own t s (Abandoning ends (abandon.Back its)) a facts x other it =
    still_sent x its x.offer.number (record (move x.offer.number) { fate = GivenUp }) (move x.offer.number) refl refl it
sent_kept fs p begins move own t s (Installing its ends install.Now) a facts x other it =
    still_sent x its x.offer.number (record (move x.offer.number) { fate = Done }) (move x.offer.number) refl refl it
sent_kept fs p begins move own t s _ a facts x other it = it

sent_now : (p : Phase) (move : ℕ → Move) (t : Seen) (own : ℕ → Own) (s : ℕ) (offer : Offer) → Some offer ≡ offered (column p t s) (own s) → BeganThere p move
    → IsSent (record { source = s; offer = offer }) (move_next (Imaging (Some offer)) s move offer.number)
sent_now p move t own s offer a there =
    subst (λ b. IsSent (record { source = s; offer = offer }) (cond b (record (move offer.number) { offer = Some offer }) (move offer.number)))
    (sym (eq-eqb offer.number offer.number refl))
    (record { offer = refl; source = offered_at p move t s offer (own s) (column p t s) refl a there })

pub was_sent_next : (fs : ℕ) (p : Phase) (begins : ℕ) (move : ℕ → Move) (own : ℕ → Own) (t : Seen) (s : ℕ) (step : SlotStep) (sent : Option Sent)
    → IsAnswered (slot_by fs p t own s) step → Facts p begins move own t → BeganThere p move
    → ((x : Sent) → sent ≡ Some x → IsSent x (move x.offer.number))
    → (x : Sent) → sent_by s step sent ≡ Some x → IsSent x (move_next step s move x.offer.number)
unfolding image_answer
was_sent_next fs p begins move own t s (Imaging (Some offer)) sent a facts there before x e =
    subst (λ (y : Sent). IsSent y (move_next (Imaging (Some offer)) s move y.offer.number)) (same_Some (record { source = s; offer = offer }) x e)
    (sent_now p move t own s offer a there)
was_sent_next fs p begins move own t s (Imaging None) sent a facts there before x e = before x e
was_sent_next fs p begins move own t s (Entering b) sent a facts there before x e = before x e
was_sent_next fs p begins move own t s (Leaving b) sent a facts there before x e = before x e
was_sent_next fs p begins move own t s (Applying b c d f g h) sent a facts there before x e = before x e
was_sent_next fs p begins move own t s (Beginning b c d) sent a facts there before x e = sent_kept fs p begins move own t s (Beginning b c d) a facts x (λ o i. cc) (before x e)
was_sent_next fs p begins move own t s (Freezing b) sent a facts there before x e = before x e
was_sent_next fs p begins move own t s (Committing b c) sent a facts there before x e = sent_kept fs p begins move own t s (Committing b c) a facts x (λ o i. cc) (before x e)
was_sent_next fs p begins move own t s (Sweeping b c d f) sent a facts there before x e = before x e
was_sent_next fs p begins move own t s (Abandoning b c) sent a facts there before x e = sent_kept fs p begins move own t s (Abandoning b c) a facts x (λ o i. cc) (before x e)
was_sent_next fs p begins move own t s (Accepting b c d) sent a facts there before x e = sent_kept fs p begins move own t s (Accepting b c d) a facts x (λ o i. cc) (before x e)
was_sent_next fs p begins move own t s (Installing b c d) sent a facts there before x e = sent_kept fs p begins move own t s (Installing b c d) a facts x (λ o i. cc) (before x e)
was_sent_next fs p begins move own t s (Withdrawing b c) sent a facts there before x e = before x e

-- ---- what was handed over

pub handed_next : (fs : ℕ) (p : Phase) (begins : ℕ) (move : ℕ → Move) (own : ℕ → Own) (t : Seen) (s : ℕ) (step : SlotStep)
    → IsAnswered (slot_by fs p t own s) step → Facts p begins move own t
    → ((r : ℕ) (left : Left) → (own r).left ≡ Some left → is_handed (move left.number).fate ≡ true)
    → (r : ℕ) (left : Left) → (own_next step p s own r).left ≡ Some left → is_handed (move_next step s move left.number).fate ≡ true
handed_next fs p begins move own t s step a facts before r left e = by_test (s == r) e
  where
    now : (parties : List Party) → step ≡ Committing left.number (Committed parties) → is_handed (move_next step s move left.number).fate ≡ true
    now parties at = subst (λ x. is_handed (move_after left.number s x (move left.number)).fate ≡ true) (sym at)
        (ap (λ b. is_handed (cond b (record (move left.number) { fate = Handed }) (move left.number)).fate) (eq-eqb left.number left.number refl))

    by_test : (b : Bool) → (cond b (own_after step (dest_from p r) (own r)) (own r)).left ≡ Some left → is_handed (move_next step s move left.number).fate ≡ true
    by_test true f = ⊎_elim (λ g. handed_kept fs p begins move own t s step a facts left.number (before r left g)) (λ g. now g.0 g.1)
        (left_there step (dest_from p r) (own r) left f)
    by_test false f = handed_kept fs p begins move own t s step a facts left.number (before r left f)

pub was_told_next : (fs : ℕ) (p : Phase) (begins : ℕ) (move : ℕ → Move) (own : ℕ → Own) (t : Seen) (s : ℕ) (step : SlotStep) (told : Option ℕ)
    → IsAnswered (slot_by fs p t own s) step → Facts p begins move own t
    → ((r : ℕ) (left : Left) → (own r).left ≡ Some left → is_handed (move left.number).fate ≡ true)
    → ((n : ℕ) → told ≡ Some n → is_handed (move n).fate ≡ true)
    → (n : ℕ) → told_by step told ≡ Some n → is_handed (move_next step s move n).fate ≡ true
unfolding commit_answer
was_told_next fs p begins move own t s (Committing its (Committed parties)) told a facts lefts before n e =
    subst (λ j. is_handed (move_next (Committing its (Committed parties)) s move j).fate ≡ true) (same_Some its n e)
    (ap (λ b. is_handed (cond b (record (move its) { fate = Handed }) (move its)).fate) (eq-eqb its its refl))
was_told_next fs p begins move own t s (Committing its Again) told a facts lefts before n e =
    let it = again_at its (own s) (column p t s) a in
    subst (λ j. is_handed (move j).fate ≡ true) (it.2 ∙ same_Some its n e) (lefts s it.0 it.1)
was_told_next fs p begins move own t s (Committing its (Dead known)) told a facts lefts before n e = before n e
was_told_next fs p begins move own t s (Entering b) told a facts lefts before n e = before n e
was_told_next fs p begins move own t s (Leaving b) told a facts lefts before n e = before n e
was_told_next fs p begins move own t s (Applying b c d f g h) told a facts lefts before n e = before n e
was_told_next fs p begins move own t s (Beginning b c d) told a facts lefts before n e = handed_kept fs p begins move own t s (Beginning b c d) a facts n (before n e)
was_told_next fs p begins move own t s (Freezing b) told a facts lefts before n e = before n e
was_told_next fs p begins move own t s (Imaging b) told a facts lefts before n e = handed_kept fs p begins move own t s (Imaging b) a facts n (before n e)
was_told_next fs p begins move own t s (Sweeping b c d f) told a facts lefts before n e = before n e
was_told_next fs p begins move own t s (Abandoning b c) told a facts lefts before n e = handed_kept fs p begins move own t s (Abandoning b c) a facts n (before n e)
was_told_next fs p begins move own t s (Accepting b c d) told a facts lefts before n e = handed_kept fs p begins move own t s (Accepting b c d) a facts n (before n e)
was_told_next fs p begins move own t s (Installing b c d) told a facts lefts before n e = handed_kept fs p begins move own t s (Installing b c d) a facts n (before n e)
was_told_next fs p begins move own t s (Withdrawing b c) told a facts lefts before n e = before n e
