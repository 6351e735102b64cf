-- What a destination is told of a move that is over keeps the facts.
use Rattle.std.proofs.Common.{◌≡◌, ◌≢◌, ◌≤◌, ℕ, Bool, true, false, List, refl, sym, subst, ap, ◌∙◌, Option, Some, arith, eqb-true}
use Rattle.std.specs.Prelude.{max}
use Rattle.nm_types.specs.Parties.{Party}
use Rattle.nm_rules.specs.Seen.{Seen}
use Rattle.nm_slot.specs.Answers.{is_offer_of}
use Rattle.nm_slot.specs.Changes.{own_withdrawn, own_installed}
use Rattle.nm_slot.specs.Moves.{Move}
use Rattle.nm_slot.specs.Moves.Fate.{GivenUp, Done}
use Rattle.nm_slot.specs.Phases.{Phase, source_of}
use Rattle.nm_slot.specs.Phases.Phase.{At, Passing}
use Rattle.nm_slot.specs.SlotNow.{Offer, Own}
use Rattle.nm_slot.proofs.Facts.{NumbersAgree, IsFor, IsRemembered, Agreed, is_going, Facts}
use Rattle.nm_slot.proofs.Agreed.{agreed_later, numbers_further}
use Rattle.nm_slot.proofs.StepsHeld.{offers_kept, kept_by}
use Rattle.nm_slot.proofs.Updates.{put, by_place, put_there, put_elsewhere}

-- ---- it was given up

given_up_began : {source begins : ℕ} {move : ℕ → Move} {own : ℕ → Own} (numbers : NumbersAgree source begins move own) (n : ℕ)
    → (move n).fate ≡ GivenUp → n ≤ begins
given_up_began numbers n over = grind (arith, over, numbers.beyond n, ap (λ (m : Move). m.fate))

-- an offer of the move that is going isn't told to be given up
not_going : (begins n : ℕ) (move : ℕ → Move) (its : Offer) → (move n).fate ≡ GivenUp → its.number ≡ begins
    → is_going (move begins).fate ≡ true → its.number ≢ n
not_going begins n move its over latest going e =
    let stopped : (move begins).fate ≡ GivenUp = ap (λ k. (move k).fate) (sym latest ∙ e) ∙ over in
    let same : is_going (move begins).fate ≡ false = ap is_going stopped in
    cc

is_dropped : (n : ℕ) (held : Option Offer) (its : Offer) → true ≡ is_offer_of n held → held ≡ Some its → its.number ≡ n
is_dropped n held its dropped e = eqb-true its.number n (ap (is_offer_of n) (sym e) ∙ sym dropped)

known_longer : (s known more : ℕ) (offer : Offer) (move : Move) → known ≤ more → IsFor s known offer move → IsFor s more offer move
known_longer s known more offer move le it =
    record { made = it.made; goes_to = it.goes_to; not_done = it.not_done; is_known = omega (arith, it.is_known) }

module _ {p : Phase} {begins : ℕ} {move : ℕ → Move} {own : ℕ → Own} {t : Seen} (facts : Facts p begins move own t) where
  pub withdrawn : (s n : ℕ) (dropped : Bool) → (move n).fate ≡ GivenUp → dropped ≡ is_offer_of n (own s).held
      → Facts p begins move (put s (λ r. own_withdrawn dropped n (own r)) own) t
  withdrawn s n true over is_held = record {
    agreed = agreed_later s (λ r. own_withdrawn true n (own r)) (record {
      grows = omega arith;
      installed = λ k e _. e;
      begun = omega (arith, facts.agreed.numbers.known s, given_up_began facts.agreed.numbers n over);
      held = λ o e. cc;
    }) facts.agreed;
    offers = offers_kept p begins move own (put s (λ r. own_withdrawn true n (own r)) own) t
        (kept_by (source_of p) begins s move own (λ r. own_withdrawn true n (own r)) refl refl
        (λ its e latest going. absurd (not_going begins n move its over latest going (is_dropped n (own s).held its is_held e))))
        facts.offers;
  }
  withdrawn s n false over is_held = record {
    agreed = agreed_later s (λ r. own_withdrawn false n (own r)) (record {
      grows = omega arith;
      installed = λ k e _. e;
      begun = omega (arith, facts.agreed.numbers.known s, given_up_began facts.agreed.numbers n over);
      held = λ o e. known_longer s (own s).known (max (own s).known n) o (move o.number) (omega arith) (facts.agreed.held.held s o e);
    }) facts.agreed;
    offers = offers_kept p begins move own (put s (λ r. own_withdrawn false n (own r)) own) t
        (kept_by (source_of p) begins s move own (λ r. own_withdrawn false n (own r)) refl refl (λ its e latest going. e)) facts.offers;
  }

-- ---- it was handed over

abbrev pub own_serving : ℕ → List Party → Offer → Own → Own
own_serving number ends offer own = own_installed number ends (Some offer) own

abbrev pub done_move : Move → Move
done_move m = record m { fate = Done }

-- another server's offer is of another move
for_another : (s r known number : ℕ) (offer : Offer) (move : ℕ → Move) → s ≢ r → (move number).dest ≡ s → IsFor r known offer (move offer.number)
    → IsFor r known offer (put number (λ k. done_move (move k)) move offer.number)
for_another s r known number offer move ne goes it =
    subst (λ m. IsFor r known offer m) (sym (put_elsewhere number offer.number (λ k. done_move (move k)) move
    (λ e. ne (sym goes ∙ ap (λ k. (move k).dest) e ∙ it.goes_to)))) it

pub installed : {source s number begins : ℕ} {move : ℕ → Move} {own : ℕ → Own} {t : Seen} (facts : Facts (Passing source s number) begins move own t) (after : Seen)
    (ends : List Party) (offer : Offer) → (own s).held ≡ Some offer → offer.number ≡ number
    → Facts (At s) begins (put number (λ k. done_move (move k)) move) (put s (λ r. own_serving number ends offer (own r)) own) after
installed {source = source} {s = s} {number = number} {begins = begins} {move = move} {own = own} facts after ends offer held its = record {
  agreed = record {
    numbers = record { known = further.known; holder = ap (λ (o : Own). o.known) (put_there s serving own) ∙ is_latest; beyond = further.beyond; offered = further.offered };
    held = record {
      held = by_place (λ r o. (x : Offer) → o.held ≡ Some x → IsFor r o.known x (put number done move x.number)) s serving own
          (λ x e. cc) (λ r ne x e. for_another s r (own r).known number x move ne facts.offers.goes_to (facts.agreed.held.held r x e));
    };
    settled = record {
      settled = by_place (λ n m. n ≢ begins → is_going m.fate ≡ false) number done move (λ ne. refl) (λ n ne. later.settled.settled n);
      remembered = by_place (λ n m. m.fate ≡ Done → IsRemembered n (put s serving own m.dest)) number done move
          (λ e. subst (λ d. IsRemembered number (put s serving own d)) (sym facts.offers.goes_to)
          (subst (λ o. IsRemembered number o) (sym (put_there s serving own)) (record { is_installed = omega arith; is_known = omega (arith, is_latest, facts.offers.latest) })))
          (λ n ne. later.settled.remembered n);
    };
  };
  offers = subst (λ n. is_going (put number done move n).fate ≡ false) facts.offers.latest (ap (λ (m : Move). is_going m.fate) (put_there number done move));
}
  where
    serving : ℕ → Own
    serving r = own_serving number ends offer (own r)

    done : ℕ → Move
    done k = done_move (move k)

    is_latest : (own s).known ≡ begins
    is_latest = omega (arith, facts.agreed.numbers.known s, (facts.agreed.held.held s offer held).is_known, its, facts.offers.latest)

    later : Agreed source begins move (put s serving own)
    later = agreed_later s serving (record {
      grows = omega arith;
      installed = λ n e k. omega (arith, k, is_latest, facts.offers.latest);
      begun = facts.agreed.numbers.known s;
      held = λ o e. cc;
    }) facts.agreed

    further : NumbersAgree source begins (put number done move) (put s serving own)
    further = numbers_further number done (omega (arith, facts.offers.latest)) (facts.agreed.numbers.offered number) later.numbers
