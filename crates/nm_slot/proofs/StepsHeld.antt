-- An offer that is held, or comes again, keeps the facts.
use Rattle.std.proofs.Common.{◌≡◌, ◌≢◌, ◌<◌, ◌≤◌, ℕ, true, false, refl, sym, subst, ap, ◌∙◌, List, Some, None, arith}
use Rattle.nm_types.specs.declared.leases.LeasePass.{LeasePass}
use Rattle.nm_rules.specs.Seen.{Seen}
use Rattle.nm_slot.specs.Moves.{Move, Fate}
use Rattle.nm_slot.specs.Moves.Fate.{UnderWay, Handed}
use Rattle.nm_slot.specs.Phases.{Phase, source_of}
use Rattle.nm_slot.specs.Phases.Phase.{At, Closing, Frozen, Passing}
use Rattle.nm_slot.specs.SlotNow.{Offer, Own}
use Rattle.nm_slot.proofs.Facts.{IsFor, IsRemembered, is_going, offer_now, IsClosing, IsFrozen, IsPassing, OffersStand, Facts}
use Rattle.nm_slot.proofs.Agreed.{began, agreed_further, agreed_later}
use Rattle.nm_slot.proofs.Updates.{put, by_place, put_elsewhere}

-- ---- what is on offer stays so while its source and its destination keep it

-- the source serves in the same epoch with as many entries, and an offer of the move that is going stays held
pub record IsKept (source begins : ℕ) (move : ℕ → Move) (own new : ℕ → Own) : Type 0 where
  pub epoch : (new source).epoch ≡ (own source).epoch
  pub count : (new source).count ≡ (own source).count
  pub held : (r : ℕ) (offer : Offer) → (own r).held ≡ Some offer → offer.number ≡ begins → is_going (move begins).fate ≡ true → (new r).held ≡ Some offer

same_offer : (number : ℕ) (t : Seen) (a b : Own) → a.epoch ≡ b.epoch → a.count ≡ b.count → offer_now number t b ≡ offer_now number t a
same_offer number t a b e c = rw (e, c) refl

going_at : (begins number : ℕ) (move : ℕ → Move) (fate : Fate) → number ≡ begins → (move number).fate ≡ fate → is_going fate ≡ true → is_going (move begins).fate ≡ true
going_at begins number move fate e f g = ap (λ n. is_going (move n).fate) (sym e) ∙ ap is_going f ∙ g

pub offers_kept : (p : Phase) (begins : ℕ) (move : ℕ → Move) (own new : ℕ → Own) (t : Seen) → IsKept (source_of p) begins move own new
    → OffersStand p begins move own t → OffersStand p begins move new t
offers_kept (At server) begins move own new t kept offers = offers
offers_kept (Closing source dest number) begins move own new t kept offers = offers
offers_kept (Frozen source dest number) begins move own new t kept offers =
    subst (λ o. IsFrozen begins source dest number (move number) (new dest).held o) (same_offer number t (new source) (own source) kept.epoch kept.count) (record {
      latest = offers.latest;
      apart = offers.apart;
      comes_from = offers.comes_from;
      goes_to = offers.goes_to;
      going = offers.going;
      offered = offers.offered;
      prepared = λ e. kept.held dest (offer_now number t (own source)) (offers.prepared e) offers.latest (going_at begins number move UnderWay offers.latest offers.going refl);
    })
offers_kept (Passing source dest number) begins move own new t kept offers =
    subst (λ o. IsPassing begins source dest number (move number) (new dest).held o) (same_offer number t (new source) (own source) kept.epoch kept.count) (record {
      latest = offers.latest;
      apart = offers.apart;
      goes_to = offers.goes_to;
      going = offers.going;
      ready = kept.held dest (offer_now number t (own source)) offers.ready offers.latest (going_at begins number move Handed offers.latest offers.going refl);
    })

-- a step at one server, whose slot keeps the epoch, the count and what is going
pub kept_by : (source begins s : ℕ) (move : ℕ → Move) (own new : ℕ → Own) → (new s).epoch ≡ (own s).epoch → (new s).count ≡ (own s).count
    → ((offer : Offer) → (own s).held ≡ Some offer → offer.number ≡ begins → is_going (move begins).fate ≡ true → (new s).held ≡ Some offer)
    → IsKept source begins move own (put s new own)
kept_by source begins s move own new epoch count held = record {
  epoch = by_place (λ r o. o.epoch ≡ (own r).epoch) s new own epoch (λ r ne. refl) source;
  count = by_place (λ r o. o.count ≡ (own r).count) s new own count (λ r ne. refl) source;
  held = by_place (λ r o. (offer : Offer) → (own r).held ≡ Some offer → offer.number ≡ begins → is_going (move begins).fate ≡ true → o.held ≡ Some offer)
      s new own held (λ r ne offer e latest going. e);
}

-- ---- an offer is held

-- with the word that it is held
abbrev pub prepared_move : Move → Move
prepared_move m = record m { prepared = true }

closing_elsewhere : (begins source dest number n : ℕ) (move : ℕ → Move) (offer : Offer) → IsClosing begins source dest number (move number)
    → (move n).offer ≡ Some offer → n ≢ number
closing_elsewhere begins source dest number n move offer offers made e =
    let none : (move n).offer ≡ None = ap (λ k. (move k).offer) e ∙ ap (λ (m : Move). m.offer) offers.fresh in
    cc

pub some_same : (a b : Offer) → Some a ≡ Some b → a ≡ b
some_same a b e = cc

offers_prepared : (p : Phase) (begins : ℕ) (move : ℕ → Move) (own : ℕ → Own) (t : Seen) (s n : ℕ) (offer : Offer)
    → (own s).held ≡ Some offer → (move n).offer ≡ Some offer → (move n).dest ≡ s
    → OffersStand p begins move own t → OffersStand p begins (put n (λ k. prepared_move (move k)) move) own t
offers_prepared (At server) begins move own t s n offer held made goes offers =
    by_place (λ k m. is_going (move k).fate ≡ false → is_going m.fate ≡ false) n (λ k. prepared_move (move k)) move (λ e. e) (λ k ne e. e) begins offers
offers_prepared (Closing source dest number) begins move own t s n offer held made goes offers =
    subst (λ m. IsClosing begins source dest number m)
    (sym (put_elsewhere n number (λ k. prepared_move (move k)) move (closing_elsewhere begins source dest number n move offer offers made))) offers
offers_prepared (Frozen source dest number) begins move own t s n offer held made goes offers =
    by_place (λ k m. IsFrozen begins source dest k (move k) (own dest).held (offer_now number t (own source)) → IsFrozen begins source dest k m (own dest).held (offer_now number t (own source)))
    n (λ k. prepared_move (move k)) move
    (λ at. record {
      latest = at.latest;
      apart = at.apart;
      comes_from = at.comes_from;
      goes_to = at.goes_to;
      going = at.going;
      offered = at.offered;
      prepared = λ e. ap (λ r. (own r).held) (sym at.goes_to ∙ goes) ∙ held ∙ ap (λ (o : Offer). Some o) (at.offered offer made);
    })
    (λ k ne at. at) number offers
offers_prepared (Passing source dest number) begins move own t s n offer held made goes offers =
    by_place (λ k m. IsPassing begins source dest k (move k) (own dest).held (offer_now number t (own source)) → IsPassing begins source dest k m (own dest).held (offer_now number t (own source)))
    n (λ k. prepared_move (move k)) move
    (λ at. record { latest = at.latest; apart = at.apart; goes_to = at.goes_to; going = at.going; ready = at.ready })
    (λ k ne at. at) number offers

abbrev pub own_holding : Offer → List LeasePass → Own → Own
own_holding offer leases own = record own { held = Some offer; brought = leases; known = offer.number }

module _ {p : Phase} {begins : ℕ} {move : ℕ → Move} {own : ℕ → Own} {t : Seen} (facts : Facts p begins move own t) where
  -- word that an offer is held
  pub prepared : (s n : ℕ) (offer : Offer) → (own s).held ≡ Some offer → (move n).offer ≡ Some offer → (move n).dest ≡ s
      → Facts p begins (put n (λ k. prepared_move (move k)) move) own t
  prepared s n offer held made goes = record {
    agreed = agreed_further n (λ k. prepared_move (move k)) (record {
      began = began facts.agreed.numbers n offer made;
      same_dest = refl;
      keeps = λ o e. e;
      bears = facts.agreed.numbers.offered n;
      settled = facts.agreed.settled.settled n;
      not_done = λ e. e;
    }) facts.agreed;
    offers = offers_prepared p begins move own t s n offer held made goes facts.offers;
  }

  -- a new offer is held
  pub accepted : (s : ℕ) (offer : Offer) (leases : List LeasePass) → (move offer.number).offer ≡ Some offer → (move offer.number).dest ≡ s → (own s).known < offer.number
      → Facts p begins move (put s (λ r. own_holding offer leases (own r)) own) t
  accepted s offer leases made goes new = record {
    agreed = agreed_later s (λ r. own_holding offer leases (own r)) (record {
      grows = omega (arith, new);
      installed = λ n e k. e;
      begun = is_begun;
      held = λ o e. subst (λ (x : Offer). IsFor s offer.number x (move x.number)) (some_same offer o e) (record {
        made = made;
        goes_to = goes;
        not_done = λ e. let past : IsRemembered offer.number (own s) = subst (λ d. IsRemembered offer.number (own d)) goes (facts.agreed.settled.remembered offer.number e) in
            omega (arith, new, past.is_known);
        is_known = omega arith;
      });
    }) facts.agreed;
    offers = offers_kept p begins move own (put s (λ r. own_holding offer leases (own r)) own) t
        (kept_by (source_of p) begins s move own (λ r. own_holding offer leases (own r)) refl refl
        (λ its e latest going. let before = facts.agreed.held.held s its e in absurd (omega (arith, new, is_begun, before.is_known, latest))))
        facts.offers;
  }
    where
      is_begun : offer.number ≤ begins
      is_begun = began facts.agreed.numbers offer.number offer made
