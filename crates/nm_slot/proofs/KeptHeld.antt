-- Each answered step of a destination keeps the facts.
use Rattle.std.proofs.Common.{◌≡◌, ◌≢◌, ◌<◌, ℕ, Bool, true, false, cond, List, refl, sym, subst, ap, ◌∙◌, Option, Some, None, arith, eqb-true, eq-eqb, ne_eqb}
use Rattle.std.specs.Prelude.{◌==◌, nat_le}
use Rattle.std.proofs.lemmas.Bool.{eqb-false}
use Rattle.std.proofs.lemmas.Bool.Decides.{nat_tests}
use Rattle.nm_types.specs.declared.leases.LeasePass.{LeasePass}
use Rattle.nm_types.specs.Parties.{Party}
use Rattle.nm_rules.specs.Seen.{Seen}
use Rattle.nm_slot.specs.declared.answers.Accept.TheVariants as accept
use Rattle.nm_slot.specs.declared.answers.Install.TheVariants as install
use Rattle.nm_slot.specs.Answers.{accepted as accept_by, accepted_at, installed as install_by, is_offer_of}
use Rattle.nm_slot.specs.Changes.{own_accepted, own_installed}
use Rattle.nm_slot.specs.Moves.{Move, Fate, is_handed}
use Rattle.nm_slot.specs.Moves.Fate.{NotBegun, UnderWay, GivenUp, Handed, Done}
use Rattle.nm_slot.specs.Phases.{Phase}
use Rattle.nm_slot.specs.Phases.Phase.{At, Closing, Frozen, Passing}
use Rattle.nm_slot.specs.SlotNow.{Stage, Offer, Own}
use Rattle.nm_slot.specs.SlotNow.SlotStep.{Installing}
use Rattle.nm_slot.proofs.Facts.{Facts, is_going, offer_now, IsFor, OffersStand, SettledIsCommitted}
use Rattle.nm_slot.proofs.Kept.{next, known_phase}
use Rattle.nm_slot.proofs.StepsHeld.{prepared, prepared_move, accepted, own_holding, some_same}
use Rattle.nm_slot.proofs.StepsSettled.{installed, own_serving, done_move}
use Rattle.nm_slot.proofs.Updates.{put, put_like, put_unchanged, put_there}

-- ---- an offer is held

-- what is held already is the offer that comes again
held_is_made : (move : ℕ → Move) (s known n : ℕ) (its offer : Offer) → IsFor s known its (move its.number) → (its.number == n) ≡ true
    → (move n).offer ≡ Some offer → its ≡ offer
held_is_made move s known n its offer it same made =
    some_same its offer (sym it.made ∙ ap (λ k. (move k).offer) (eqb-true its.number n same) ∙ made)

holds_now : (offer : Offer) (leases : List LeasePass) (own : Own) (held : Option Offer) → own.held ≡ held → is_offer_of offer.number held ≡ false
    → own_accepted offer leases own.held own ≡ own_holding offer leases own
holds_now offer leases own None e is_other = ap (λ h. own_accepted offer leases h own) e
holds_now offer leases own (Some its) e is_other =
    ap (λ h. own_accepted offer leases h own) e ∙ ap (λ b. cond b own (own_holding offer leases own)) is_other

above : (number known : ℕ) → nat_le number known ≡ false → known < number
above number known h = grind (arith, nat_tests)

module _ {p : Phase} {begins : ℕ} {move : ℕ → Move} {own : ℕ → Own} {t : Seen} (facts : Facts p begins move own t) (s : ℕ) (offer : Offer) (leases : List LeasePass)
    (made : (move offer.number).offer ≡ Some offer) (goes : (move offer.number).dest ≡ s) where
  again : (held : Option Offer) → (own s).held ≡ held → is_offer_of offer.number held ≡ true
      → Facts p begins (put offer.number (λ k. prepared_move (move k)) move) (put s (λ r. own_accepted offer leases (own r).held (own r)) own) t
  again None e is_held = cc
  again (Some its) e is_held =
      let it : its ≡ offer = held_is_made move s (own s).known offer.number its offer (facts.agreed.held.held s its e) is_held made in
      let same : own_accepted offer leases (own s).held (own s) ≡ own s =
      ap (λ h. own_accepted offer leases h (own s)) e ∙ ap (λ b. cond b (own s) (own_holding offer leases (own s))) is_held in
      subst (λ o. Facts p begins (put offer.number (λ k. prepared_move (move k)) move) o t) (sym (put_unchanged s (λ r. own_accepted offer leases (own r).held (own r)) own same))
      (prepared facts s offer.number offer (e ∙ ap (λ (o : Offer). Some o) it) made goes)

  for_new : is_offer_of offer.number (own s).held ≡ false → (own s).known < offer.number
      → Facts p begins (put offer.number (λ k. prepared_move (move k)) move) (put s (λ r. own_accepted offer leases (own r).held (own r)) own) t
  for_new is_other new =
      let holding : ℕ → Own = λ r. own_holding offer leases (own r) in
      subst (λ o. Facts p begins (put offer.number (λ k. prepared_move (move k)) move) o t)
      (sym (put_like s (λ r. own_accepted offer leases (own r).held (own r)) holding own (holds_now offer leases (own s) (own s).held refl is_other)))
      (prepared (accepted facts s offer leases made goes new) s offer.number offer (ap (λ (o : Own). o.held) (put_there s holding own)) made goes)

  pub held_kept : (stage : Stage) → accept.Held ≡ accept_by offer.number stage (own s)
      → Facts p begins (put offer.number (λ k. prepared_move (move k)) move) (put s (λ r. own_accepted offer leases (own r).held (own r)) own) t
  held_kept stage a = by_tests (is_offer_of offer.number (own s).held) refl (nat_le offer.number (own s).known) refl a
    where
      by_tests : (same : Bool) → is_offer_of offer.number (own s).held ≡ same → (old : Bool) → nat_le offer.number (own s).known ≡ old
          → accept.Held ≡ cond same accept.Held (cond old (accept.Old (own s).known) (accepted_at stage))
          → Facts p begins (put offer.number (λ k. prepared_move (move k)) move) (put s (λ r. own_accepted offer leases (own r).held (own r)) own) t
      by_tests true e old f a = again (own s).held refl e
      by_tests false e true f a = cc
      by_tests false e false f a = for_new e (above offer.number (own s).known f)

-- ---- what was handed over is installed

-- the file system was handed over to that server by this move
record IsHanded (p : Phase) (s number : ℕ) : Type 0 where
  source : ℕ
  phase : p ≡ Passing source s number

handed_fate : (fate : Fate) → is_handed fate ≡ true → fate ≢ Done → fate ≡ Handed
handed_fate NotBegun e ne = cc
handed_fate UnderWay e ne = cc
handed_fate GivenUp e ne = cc
handed_fate Handed e ne = refl
handed_fate Done e ne = absurd (ne refl)

is_latest : {begins : ℕ} {move : ℕ → Move} {own : ℕ → Own} → SettledIsCommitted begins move own → (n : ℕ) → (move n).fate ≡ Handed → n ≡ begins
is_latest {begins = begins} {move = move} settled n handed = by_test (n == begins) refl
  where
    by_test : (b : Bool) → (n == begins) ≡ b → n ≡ begins
    by_test true e = eqb-true n begins e
    by_test false e = let over : is_going (move n).fate ≡ false = settled.settled n (eqb-false n begins e) in
        let going : is_going (move n).fate ≡ true = ap is_going handed in
        cc

is_passing : (p : Phase) (begins : ℕ) (move : ℕ → Move) (own : ℕ → Own) (t : Seen) (s n : ℕ) → n ≡ begins
    → (move n).fate ≡ Handed → (move n).dest ≡ s → OffersStand p begins move own t → IsHanded p s n
is_passing (At q) begins move own t s n latest handed goes offers =
    let going : is_going (move begins).fate ≡ true = ap (λ k. is_going (move k).fate) (sym latest) ∙ ap is_going handed in
    cc
is_passing (Closing q dest number) begins move own t s n latest handed goes offers =
    let under_way : (move number).fate ≡ UnderWay = ap (λ (m : Move). m.fate) offers.fresh in
    let same : (move number).fate ≡ Handed = ap (λ k. (move k).fate) (offers.latest ∙ sym latest) ∙ handed in
    cc
is_passing (Frozen q dest number) begins move own t s n latest handed goes offers =
    let under_way : (move number).fate ≡ UnderWay = offers.going in
    let same : (move number).fate ≡ Handed = ap (λ k. (move k).fate) (offers.latest ∙ sym latest) ∙ handed in
    cc
is_passing (Passing q dest number) begins move own t s n latest handed goes offers =
    let same : number ≡ n = offers.latest ∙ sym latest in
    let to : dest ≡ s = sym offers.goes_to ∙ ap (λ k. (move k).dest) same ∙ goes in
    record { source = q; phase = ap (λ d. Passing q d number) to ∙ ap (λ k. Passing q s k) same }

-- what is installed is held
record IsInstalled (n : ℕ) (o : Option Offer) : Type 0 where
  offer : Offer
  holds : o ≡ Some offer
  number : offer.number ≡ n

not_now : (b : Bool) → install.Now ≡ cond b install.Already install.Absent → ⊥
not_now true a = cc
not_now false a = cc

now_holds : (n : ℕ) (offer : Offer) (same past : Bool) → (offer.number == n) ≡ same
    → install.Now ≡ cond same install.Now (cond past install.Already install.Absent) → IsInstalled n (Some offer)
now_holds n offer true past e a = record { offer = offer; holds = refl; number = eqb-true offer.number n e }
now_holds n offer false past e a = absurd (not_now past a)

is_installed : (n known : ℕ) (o : Option Offer)
    → install.Now ≡ cond (is_offer_of n o) install.Now (cond (nat_le n known) install.Already install.Absent) → IsInstalled n o
is_installed n known None a = absurd (not_now (nat_le n known) a)
is_installed n known (Some offer) a = now_holds n offer (offer.number == n) (nat_le n known) refl a

not_done_yet : (move : ℕ → Move) (s known n : ℕ) (offer : Offer) → offer.number ≡ n → IsFor s known offer (move offer.number) → (move n).fate ≢ Done
not_done_yet move s known n offer e it = subst (λ k. (move k).fate ≢ Done) e it.not_done

-- What is installed was handed over to that server by this move, and is the state as it is.
pub record IsReady (p : Phase) (t : Seen) (s n : ℕ) (o : Option Offer) : Type 0 where
  pub source : ℕ
  pub offer : Offer
  pub phase : p ≡ Passing source s n
  pub apart : source ≢ s
  pub holds : o ≡ Some offer
  pub number : offer.number ≡ n
  pub state : offer.state ≡ t

pub passes_on : (source s n : ℕ) (ends : List Party) → source ≢ s → next (Passing source s n) s (Installing n ends install.Now) ≡ At s
passes_on source s n ends apart = rw (ne_eqb s source (λ e. apart (sym e)), eq-eqb s s refl, eq-eqb n n refl) refl

pub passed_to : (p : Phase) (t : Seen) (s n : ℕ) (ends : List Party) (o : Option Offer) → IsReady p t s n o → next p s (Installing n ends install.Now) ≡ At s
passed_to p t s n ends o ready = ap (λ q. next q s (Installing n ends install.Now)) ready.phase ∙ passes_on ready.source s n ends ready.apart

module _ {p : Phase} {begins : ℕ} {move : ℕ → Move} {own : ℕ → Own} {t : Seen} (facts : Facts p begins move own t) (s n : ℕ)
    (goes : (move n).dest ≡ s) where
  -- the offer of a move that was handed over is held at its destination
  pub handed_to : (move n).fate ≡ Handed → IsReady p t s n (own s).held
  handed_to fate =
      let passing = is_passing p begins move own t s n (is_latest facts.agreed.settled n fate) fate goes facts.offers in
      let now : Facts (Passing passing.source s n) begins move own t = known_phase passing.phase facts in
      record {
        source = passing.source;
        offer = offer_now n t (own passing.source);
        phase = passing.phase;
        apart = now.offers.apart;
        holds = now.offers.ready;
        number = refl;
        state = refl;
      }

  pub is_ready : is_handed (move n).fate ≡ true → install.Now ≡ install_by n (own s) → IsReady p t s n (own s).held
  is_ready handed a =
      let it = is_installed n (own s).installed (own s).held a in
      let not_done : (move n).fate ≢ Done = not_done_yet move s (own s).known n it.offer it.number (facts.agreed.held.held s it.offer it.holds) in
      handed_to (handed_fate (move n).fate handed not_done)

  pub now_kept : (after : Seen) (ends : List Party) → is_handed (move n).fate ≡ true → install.Now ≡ install_by n (own s)
      → Facts (next p s (Installing n ends install.Now)) begins (put n (λ k. done_move (move k)) move) (put s (λ r. own_installed n ends (own r).held (own r)) own) after
  now_kept after ends handed a =
      let ready = is_ready handed a in
      let now : Facts (Passing ready.source s n) begins move own t = known_phase ready.phase facts in
      known_phase (sym (passed_to p t s n ends (own s).held ready))
      (subst (λ o. Facts (At s) begins (put n (λ k. done_move (move k)) move) o after)
      (sym (put_like s (λ r. own_installed n ends (own r).held (own r)) (λ r. own_serving n ends ready.offer (own r)) own (ap (λ h. own_installed n ends h (own s)) ready.holds)))
      (installed now after ends ready.offer ready.holds ready.number))
