-- A move gets on: from each point where it may go on, its next step may come.
use Rattle.std.proofs.Common.{◌≡◌, ◌≢◌, ◌<◌, ℕ, Bool, true, false, cond, zero, suc, length, List, [], ◌∷◌, ◌++◌, refl, sym, subst, ap, ◌∙◌, Some, arith, append_assoc, eq-eqb, ne_eqb}
use Rattle.std.specs.Prelude.{◌+◌, ◌-◌, ◌||◌, nat_le}
use Rattle.std.proofs.lemmas.Bool.Decides.{nat_tests}
use Rattle.nm_rules.specs.Holders.{holders}
use Rattle.nm_types.specs.Parties.{Party}
use Rattle.nm_rules.specs.Seen.{Seen}
use Rattle.nm_slot.specs.declared.answers.Accept.TheVariants as accept
use Rattle.nm_slot.specs.declared.answers.Begin.TheVariants as begin
use Rattle.nm_slot.specs.declared.answers.Freeze.TheVariants as freeze
use Rattle.nm_slot.specs.declared.answers.Install.TheVariants as install
use Rattle.nm_slot.specs.Answers.{begun as begin_by, is_at_end, frozen as freeze_by, offered, committed as commit_by, accepted as accept_by, installed as install_by, is_offer_of, begin_answer, freeze_answer, image_answer, commit_answer, accept_answer, install_answer, install_ends}
use Rattle.nm_slot.specs.Changes.{own_after}
use Rattle.nm_slot.specs.History.{Home, dest_from, own_now, tables_now, slot_now, passes_now, is_out, IsHistory}
use Rattle.nm_slot.specs.Laws.{MayMoveTo}
use Rattle.nm_slot.specs.Moves.{move_now, is_handed}
use Rattle.nm_slot.specs.Phases.{Phase, Moment, source_of, after_at_source, phase_now, column}
use Rattle.nm_slot.specs.Phases.Phase.{At, Closing, Frozen, Passing}
use Rattle.nm_slot.specs.SlotNow.{Doing, Offer, Own, SlotStep}
use Rattle.nm_slot.specs.SlotNow.Doing.{Serves, Closes, Froze}
use Rattle.nm_slot.specs.SlotNow.Stage.{Here}
use Rattle.nm_slot.specs.SlotNow.HandedOver.{Committed, Dead}
use Rattle.nm_slot.specs.SlotNow.SlotStep.{Leaving, Beginning, Freezing, Imaging, Committing, Accepting, Installing}
use Rattle.nm_slot.proofs.Facts.{Facts, offer_now}
use Rattle.nm_slot.proofs.HistoryFacts.{facts_of, begins_now}
use Rattle.nm_slot.proofs.Inversions.{phase_by, at_source, same_phase}
use Rattle.nm_slot.proofs.Kept.{next}
use Rattle.nm_slot.proofs.KeptHeld.{passes_on}
use Rattle.nm_slot.proofs.PassesOut.{passes_of}
use Rattle.nm_slot.proofs.SlotsFollow.{column_at, away}
use Rattle.nm_slot.proofs.Updates.{put_elsewhere}

-- ---- what is answered in each phase

column_of : (p : Phase) (t : Seen) (s : ℕ) (doing : Doing) → p ≡ phase_by s doing → column p t s ≡ Here doing t
column_of p t s doing e = ap (λ q. column q t s) e ∙ column_at s doing t

begins_here : (p : Phase) (t : Seen) (s dest : ℕ) (own : Own) → p ≡ At s → s ≢ dest → is_at_end own ≡ false
    → begin.Begun (own.known + 1) ≡ begin_by s dest (column p t s) own
begins_here p t s dest own e ne room = sym (ap (λ x. begin_by s dest x own) (column_of p t s Serves e) ∙ by_tests)
  where
    by_tests : begin_by s dest (Here Serves t) own ≡ begin.Begun (own.known + 1)
    by_tests = ap (λ b. cond b begin.Same (cond (is_at_end own) begin.Last (begin.Begun (own.known + 1)))) (ne_eqb s dest ne)
        ∙ ap (λ b. cond b begin.Last (begin.Begun (own.known + 1))) room

freezes_here : (p : Phase) (t : Seen) (s dest number : ℕ) (own : Own) → p ≡ Closing s dest number → own.out ≡ 0
    → freeze.Frozen number ≡ freeze_by (column p t s) own
freezes_here p t s dest number own e none = sym (ap (λ x. freeze_by x own) (column_of p t s (Closes dest number) e)
    ∙ ap (λ b. cond b (freeze.Frozen number) (freeze.Waiting own.out)) (eq-eqb own.out 0 none))

offers_here : (p : Phase) (t : Seen) (s dest number : ℕ) (own : Own) → p ≡ Frozen s dest number → Some (offer_now number t own) ≡ offered (column p t s) own
offers_here p t s dest number own e = sym (ap (λ x. offered x own) (column_of p t s (Froze dest number) e))

commits_here : (p : Phase) (t : Seen) (s dest number : ℕ) (own : Own) → p ≡ Frozen s dest number → Committed (holders t) ≡ commit_by number (column p t s) own
commits_here p t s dest number own e = sym (ap (λ x. commit_by number x own) (column_of p t s (Froze dest number) e)
    ∙ ap (λ b. cond b (Committed (holders t)) (Dead own.known)) (eq-eqb number number refl))

accepts_there : (p : Phase) (t : Seen) (s source dest number : ℕ) (own : Own) → p ≡ Frozen source dest number → s ≢ source → own.known < number
    → accept.Held ≡ accept_by number (column p t s) own
accepts_there p t s source dest number own e ne new = sym (ap (λ x. accept_by number x own) (ap (λ q. column q t s) e ∙ away (Frozen source dest number) t s ne)
    ∙ ap (λ b. cond (is_offer_of number own.held) accept.Held (cond b (accept.Old own.known) accept.Held)) (above number own.known new)
    ∙ either_way (is_offer_of number own.held))
  where
    above : (number known : ℕ) → known < number → nat_le number known ≡ false
    above number known h = grind (arith, nat_tests)

    either_way : (b : Bool) → cond b accept.Held accept.Held ≡ accept.Held
    either_way true = refl
    either_way false = refl

-- ---- the next step may come

next_phase : (home : Home) (h : List Moment) (s : ℕ) (step : SlotStep) (q : Phase) → phase_now home.first h ≡ q → s ≡ source_of q
    → phase_now home.first (record { server = s; step = step } ∷ h) ≡ after_at_source q step
unfolding phase_now
next_phase home h s step q e at = ap (λ p. next p s step) e ∙ at_source q s step at

pub commits : (home : Home) (h : List Moment) (source dest number : ℕ) → IsHistory home h
    → phase_now home.first h ≡ Frozen source dest number → (move_now h number).prepared ≡ true
    → IsHistory home (record { server = source; step = Committing number (Committed (holders (tables_now home h))) } ∷ h)
unfolding commit_answer slot_now
commits home h source dest number it frozen prepared =
    (record { answered = commits_here (phase_now home.first h) (tables_now home h) source dest number (own_now home.first h source) frozen; delivered = (prepared, here.offers.comes_from) }, it)
  where
    here : Facts (Frozen source dest number) (begins_now h) (λ n. move_now h n) (λ s. own_now home.first h s) (tables_now home h)
    here = subst (λ p. Facts p (begins_now h) (λ n. move_now h n) (λ s. own_now home.first h s) (tables_now home h)) frozen (facts_of home h it)

installs_here : (number : ℕ) (offer : Offer) (own : Own) → own.held ≡ Some offer → offer.number ≡ number → install.Now ≡ install_by number own
installs_here number offer own holds its =
    sym (ap (λ b. cond b install.Now (cond (nat_le number own.installed) install.Already install.Absent)) (ap (is_offer_of number) holds ∙ eq-eqb offer.number number its))

pub installs : (home : Home) (h : List Moment) (source dest number : ℕ) → IsHistory home h
    → phase_now home.first h ≡ Passing source dest number
    → IsHistory home (record { server = dest; step = Installing number (install_ends (slot_now home h dest)) install.Now } ∷ h)
unfolding install_answer slot_now
installs home h source dest number it passing = (
  record {
    answered = (installs_here number (offer_now number (tables_now home h) (own_now home.first h source)) (own_now home.first h dest) here.offers.ready refl, refl);
    delivered = (ap is_handed here.offers.going, here.offers.goes_to);
  },
  it,
)
  where
    here : Facts (Passing source dest number) (begins_now h) (λ n. move_now h n) (λ s. own_now home.first h s) (tables_now home h)
    here = subst (λ p. Facts p (begins_now h) (λ n. move_now h n) (λ s. own_now home.first h s) (tables_now home h)) passing (facts_of home h it)

-- ---- from where it is served to any other server

abbrev beginning : ℕ → ℕ → ℕ → Moment
beginning source dest number = record { server = source; step = Beginning source dest (begin.Begun number) }

abbrev freezing : ℕ → ℕ → Moment
freezing source number = record { server = source; step = Freezing (freeze.Frozen number) }

abbrev imaging : ℕ → Offer → Moment
imaging source offer = record { server = source; step = Imaging (Some offer) }

abbrev accepting : ℕ → Offer → Moment
accepting dest offer = record { server = dest; step = Accepting offer [] accept.Held }

begins : (home : Home) (h : List Moment) (source dest : ℕ) → IsHistory home h → phase_now home.first h ≡ At source → source ≢ dest
    → is_at_end (own_now home.first h source) ≡ false
    → IsHistory home (beginning source dest ((own_now home.first h source).known + 1) ∷ h)
unfolding begin_answer slot_now
begins home h source dest it at apart room =
    (record { answered = begins_here (phase_now home.first h) (tables_now home h) source dest (own_now home.first h source) at apart room; delivered = refl }, it)

freezes : (home : Home) (h : List Moment) (source dest number : ℕ) → IsHistory home h → phase_now home.first h ≡ Closing source dest number
    → (own_now home.first h source).out ≡ 0 → IsHistory home (freezing source number ∷ h)
unfolding freeze_answer slot_now
freezes home h source dest number it closing none =
    (record { answered = freezes_here (phase_now home.first h) (tables_now home h) source dest number (own_now home.first h source) closing none; delivered = tt }, it)

-- the offer that is made of a frozen state
abbrev offer_of : Home → List Moment → ℕ → ℕ → Offer
offer_of home h source number = offer_now number (tables_now home h) (own_now home.first h source)

offers : (home : Home) (h : List Moment) (source dest number : ℕ) → IsHistory home h → phase_now home.first h ≡ Frozen source dest number
    → IsHistory home (imaging source (offer_of home h source number) ∷ h)
unfolding image_answer slot_now
offers home h source dest number it frozen =
    (record { answered = offers_here (phase_now home.first h) (tables_now home h) source dest number (own_now home.first h source) frozen; delivered = tt }, it)

accepts : (home : Home) (h : List Moment) (source dest : ℕ) (offer : Offer) → IsHistory home h → phase_now home.first h ≡ Frozen source dest offer.number
    → source ≢ dest → (own_now home.first h dest).known < offer.number → (move_now h offer.number).offer ≡ Some offer → (move_now h offer.number).dest ≡ dest
    → IsHistory home (accepting dest offer ∷ h)
unfolding accept_answer slot_now
accepts home h source dest offer it frozen apart new made goes = (
  record {
    answered = accepts_there (phase_now home.first h) (tables_now home h) dest source dest offer.number (own_now home.first h dest) frozen (λ e. apart (sym e)) new;
    delivered = (made, goes);
  },
  it,
)

-- ---- what the steps leave

own_elsewhere : (home : Home) (x : Moment) (h : List Moment) (s : ℕ) → x.server ≢ s → own_now home.first (x ∷ h) s ≡ own_now home.first h s
unfolding own_now
own_elsewhere home x h s ne = put_elsewhere x.server s (λ r. own_after x.step (dest_from (phase_now home.first h) r) (own_now home.first h r)) (λ r. own_now home.first h r) ne

out_begun : (home : Home) (h : List Moment) (source dest number : ℕ) → (own_now home.first (beginning source dest number ∷ h) source).out ≡ (own_now home.first h source).out
unfolding own_now
out_begun home h source dest number = rw (eq-eqb source source refl) refl

made_by : (h : List Moment) (source : ℕ) (offer : Offer) → (move_now (imaging source offer ∷ h) offer.number).offer ≡ Some offer
unfolding move_now
made_by h source offer = rw (eq-eqb offer.number offer.number refl) refl

prepared_by : (h : List Moment) (dest : ℕ) (offer : Offer) → (move_now (accepting dest offer ∷ h) offer.number).prepared ≡ true
unfolding move_now
prepared_by h dest offer = rw (eq-eqb offer.number offer.number refl) refl

-- ---- the whole move

latest_here : (home : Home) (h : List Moment) (source s : ℕ) → IsHistory home h → phase_now home.first h ≡ At source
    → (own_now home.first h s).known < (own_now home.first h source).known + 1
latest_here home h source s it at =
    omega (arith, facts.agreed.numbers.known s, facts.agreed.numbers.holder)
  where
    facts : Facts (At source) (begins_now h) (λ n. move_now h n) (λ s. own_now home.first h s) (tables_now home h)
    facts = subst (λ p. Facts p (begins_now h) (λ n. move_now h n) (λ s. own_now home.first h s) (tables_now home h)) at (facts_of home h it)

goes_to : (home : Home) (h : List Moment) (source dest number : ℕ) → IsHistory home h → phase_now home.first h ≡ Frozen source dest number
    → (move_now h number).dest ≡ dest
goes_to home h source dest number it frozen = facts.offers.goes_to
  where
    facts : Facts (Frozen source dest number) (begins_now h) (λ n. move_now h n) (λ s. own_now home.first h s) (tables_now home h)
    facts = subst (λ p. Facts p (begins_now h) (λ n. move_now h n) (λ s. own_now home.first h s) (tables_now home h)) frozen (facts_of home h it)

phase_accepted : (home : Home) (h : List Moment) (dest : ℕ) (offer : Offer) → phase_now home.first (accepting dest offer ∷ h) ≡ phase_now home.first h
unfolding phase_now
phase_accepted home h dest offer = same_phase (phase_now home.first h) dest (Accepting offer [] accept.Held) refl

phase_installed : (home : Home) (h : List Moment) (source dest number : ℕ) (ends : List Party) → phase_now home.first h ≡ Passing source dest number → source ≢ dest
    → phase_now home.first (record { server = dest; step = Installing number ends install.Now } ∷ h) ≡ At dest
unfolding phase_now
phase_installed home h source dest number ends passing apart = ap (λ p. next p dest (Installing number ends install.Now)) passing ∙ passes_on source dest number ends apart

-- from a frozen source on
from_frozen : (home : Home) (h : List Moment) (source dest number : ℕ) → IsHistory home h → phase_now home.first h ≡ Frozen source dest number
    → source ≢ dest → (own_now home.first h dest).known < number → MayMoveTo home h dest
from_frozen home h source dest number it frozen apart new = record {
  steps = settling ∷ handing ∷ accepting dest offer ∷ imaging source offer ∷ [];
  may_come = settled;
  served = arrived;
}
  where
    offer : Offer
    offer = offer_of home h source number

    made : IsHistory home (imaging source offer ∷ h)
    made = offers home h source dest number it frozen

    still_frozen : phase_now home.first (imaging source offer ∷ h) ≡ Frozen source dest number
    still_frozen = next_phase home h source (Imaging (Some offer)) (Frozen source dest number) frozen refl

    held : IsHistory home (accepting dest offer ∷ imaging source offer ∷ h)
    held = accepts home (imaging source offer ∷ h) source dest offer made still_frozen apart
        (subst (λ (o : Own). o.known < number) (sym (own_elsewhere home (imaging source offer) h dest apart)) new)
        (made_by h source offer) (goes_to home (imaging source offer ∷ h) source dest number made still_frozen)

    frozen_on : phase_now home.first (accepting dest offer ∷ imaging source offer ∷ h) ≡ Frozen source dest number
    frozen_on = phase_accepted home (imaging source offer ∷ h) dest offer ∙ still_frozen

    handing : Moment
    handing = record { server = source; step = Committing number (Committed (holders (tables_now home (accepting dest offer ∷ imaging source offer ∷ h)))) }

    handed : IsHistory home (handing ∷ accepting dest offer ∷ imaging source offer ∷ h)
    handed = commits home (accepting dest offer ∷ imaging source offer ∷ h) source dest number held frozen_on (prepared_by (imaging source offer ∷ h) dest offer)

    passing : phase_now home.first (handing ∷ accepting dest offer ∷ imaging source offer ∷ h) ≡ Passing source dest number
    passing = next_phase home (accepting dest offer ∷ imaging source offer ∷ h) source handing.step (Frozen source dest number) frozen_on refl

    settling : Moment
    settling = record { server = dest; step = Installing number (install_ends (slot_now home (handing ∷ accepting dest offer ∷ imaging source offer ∷ h) dest)) install.Now }

    arrived : phase_now home.first (settling ∷ handing ∷ accepting dest offer ∷ imaging source offer ∷ h) ≡ At dest
    arrived =
        phase_installed home (handing ∷ accepting dest offer ∷ imaging source offer ∷ h) source dest number
        (install_ends (slot_now home (handing ∷ accepting dest offer ∷ imaging source offer ∷ h) dest)) passing apart

    settled : IsHistory home (settling ∷ handing ∷ accepting dest offer ∷ imaging source offer ∷ h)
    settled = installs home (handing ∷ accepting dest offer ∷ imaging source offer ∷ h) source dest number handed passing

-- one step sooner
sooner : (home : Home) (x : Moment) (h : List Moment) (dest : ℕ) → MayMoveTo home (x ∷ h) dest → MayMoveTo home h dest
sooner home x h dest it = record {
  steps = it.steps ++ (x ∷ []);
  may_come = rw (append_assoc it.steps (x ∷ []) h) it.may_come;
  served = rw (append_assoc it.steps (x ∷ []) h) it.served;
}

-- where no pass is out
from_quiet : (home : Home) (h : List Moment) (source dest : ℕ) → IsHistory home h → phase_now home.first h ≡ At source → source ≢ dest
    → is_at_end (own_now home.first h source) ≡ false → (own_now home.first h source).out ≡ 0 → MayMoveTo home h dest
from_quiet home h source dest it at apart room none =
    sooner home (beginning source dest number) h dest (sooner home (freezing source number) (beginning source dest number ∷ h) dest
    (from_frozen home (freezing source number ∷ beginning source dest number ∷ h) source dest number froze frozen apart new))
  where
    number : ℕ
    number = (own_now home.first h source).known + 1

    begun : IsHistory home (beginning source dest number ∷ h)
    begun = begins home h source dest it at apart room

    closing : phase_now home.first (beginning source dest number ∷ h) ≡ Closing source dest number
    closing = next_phase home h source (Beginning source dest (begin.Begun number)) (At source) at refl

    froze : IsHistory home (freezing source number ∷ beginning source dest number ∷ h)
    froze = freezes home (beginning source dest number ∷ h) source dest number begun closing (out_begun home h source dest number ∙ none)

    frozen : phase_now home.first (freezing source number ∷ beginning source dest number ∷ h) ≡ Frozen source dest number
    frozen = next_phase home (beginning source dest number ∷ h) source (Freezing (freeze.Frozen number)) (Closing source dest number) closing refl

    new : (own_now home.first (freezing source number ∷ beginning source dest number ∷ h) dest).known < number
    new = subst (λ (o : Own). o.known < number)
        (sym (own_elsewhere home (freezing source number) (beginning source dest number ∷ h) dest apart ∙ own_elsewhere home (beginning source dest number) h dest apart))
        (latest_here home h source dest it at)

-- ---- first the passes come back

abbrev leaving : ℕ → ℕ → Moment
leaving source epoch = record { server = source; step = Leaving epoch }

own_left : (home : Home) (h : List Moment) (source epoch : ℕ)
    → own_now home.first (leaving source epoch ∷ h) source ≡ record (own_now home.first h source) { out = (own_now home.first h source).out - 1 }
unfolding own_now
own_left home h source epoch = rw (eq-eqb source source refl) refl

phase_left : (home : Home) (h : List Moment) (source epoch : ℕ) → phase_now home.first (leaving source epoch ∷ h) ≡ phase_now home.first h
unfolding phase_now
phase_left home h source epoch = same_phase (phase_now home.first h) source (Leaving epoch) refl

first_out : (epoch : ℕ) (passes more : List ℕ) → passes ≡ epoch ∷ more → is_out epoch passes ≡ true
first_out epoch passes more e = ap (is_out epoch) e ∙ ap (λ b. b || is_out epoch more) (eq-eqb epoch epoch refl)

-- whatever passes are out
pub gets_there : (n : ℕ) (home : Home) (h : List Moment) (source dest : ℕ) → IsHistory home h → phase_now home.first h ≡ At source → source ≢ dest
    → is_at_end (own_now home.first h source) ≡ false → (own_now home.first h source).out ≡ n → MayMoveTo home h dest
gets_there zero home h source dest it at apart room out = from_quiet home h source dest it at apart room out
gets_there (suc n) home h source dest it at apart room out =
    by_passes (passes_now h source) refl (gets_there n home)
  where
    by_passes : (passes : List ℕ) → passes_now h source ≡ passes
        → ((h : List Moment) (source dest : ℕ) → IsHistory home h → phase_now home.first h ≡ At source → source ≢ dest
        → is_at_end (own_now home.first h source) ≡ false → (own_now home.first h source).out ≡ n → MayMoveTo home h dest)
        → MayMoveTo home h dest
    by_passes [] e later =
        let counted : (own_now home.first h source).out ≡ length (passes_now h source) = ((passes_of home h it).counted source).counted in
        absurd (omega (arith, out, counted, ap (λ (ps : List ℕ). length ps) e))
    by_passes (epoch ∷ more) e later =
        sooner home (leaving source epoch) h dest (later (leaving source epoch ∷ h) source dest
        (record { answered = tt; delivered = first_out epoch (passes_now h source) more e }, it)
        (phase_left home h source epoch ∙ at) apart
        (ap is_at_end (own_left home h source epoch) ∙ room)
        (ap (λ (o : Own). o.out) (own_left home h source epoch) ∙ omega (arith, out)))
