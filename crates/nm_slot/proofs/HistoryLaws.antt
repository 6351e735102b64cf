-- The laws of every history, from the facts.
use Rattle.std.proofs.Common.{◌≡◌, ◌↔◌, ℕ, Bool, true, false, cond, List, [], ◌∷◌, refl, sym, subst, ap, ◌∙◌, Option, Some, None, eq-eqb}
use Rattle.std.specs.Prelude.{◌==◌, ◌^◌, not, nat_le}
use Rattle.nm_rules.specs.Answer.{IsLegal, answer_to}
use Rattle.nm_types.specs.declared.leases.LeasePass.{LeasePass}
use Rattle.nm_types.specs.Parties.{Party}
use Rattle.nm_rules.specs.Past.{Past}
use Rattle.nm_rules.specs.Seen.{Seen, seen}
use Rattle.nm_types.specs.declared.calls.Call.{Call}
use Rattle.nm_types.specs.declared.calls.Event.TheVariants.{Asked}
use Rattle.nm_types.specs.declared.calls.Reply.{Reply}
use Rattle.nm_types.specs.declared.calls.Verdict.{Verdict}
use Rattle.nm_slot.specs.declared.answers.Abandon.TheVariants as abandon
use Rattle.nm_slot.specs.declared.answers.Answer.TheVariants as answer
use Rattle.nm_slot.specs.declared.answers.Swept.TheVariants as sweep
use Rattle.nm_slot.specs.declared.answers.Enter.{Enter}
use Rattle.nm_slot.specs.declared.answers.Enter.TheVariants as enter
use Rattle.nm_slot.specs.declared.answers.Install.TheVariants as install
use Rattle.nm_slot.specs.declared.phase.Phase.TheVariants.{Serving}
use Rattle.nm_slot.specs.Eras.{after_ends, is_late, era_seen}
use Rattle.nm_slot.specs.Answers.{applied, done_after, ends_before, is_full, enter_answer, apply_answer, apply_ends, install_answer, entered, turned_away}
use Rattle.nm_slot.specs.Door.{door_answer}
use Rattle.nm_slot.specs.History.{Home, own_now, tables_now, entries_now, end_of, with_ends, with_entry, frozen_entries, slot_now, IsAnswered, IsHistory}
use Rattle.nm_slot.specs.Laws.{IsWhole}
use Rattle.nm_slot.specs.Phases.{Phase, Moment, phase_now, column}
use Rattle.nm_slot.specs.Phases.Phase.{At, Closing, Frozen, Passing}
use Rattle.nm_slot.specs.SlotNow.{Stage, Offer, Left, Own, SlotStep, phase_of, phase_at, phase_away}
use Rattle.nm_slot.specs.SlotNow.Doing.{Serves, Closes, Froze}
use Rattle.nm_slot.specs.SlotNow.Stage.{Away, Here}
use Rattle.nm_slot.specs.SlotNow.SlotStep.{Applying, Sweeping, Abandoning, Installing}
use Rattle.nm_slot.proofs.Freezes.{FreezeStands, freeze_of}
use Rattle.nm_slot.proofs.HistoryFacts.{facts_of}
use Rattle.nm_slot.proofs.Inversions.{is_source}
use Rattle.nm_slot.proofs.KeptHeld.{IsReady, is_ready}

-- ---- one server serves

is_away : (held : Option Offer) (left : Option Left) (epoch : ℕ) → phase_away held left epoch ≡ Serving → ⊥
is_away None None epoch e = cc
is_away None (Some left) epoch e = cc
is_away (Some offer) left epoch e = cc

serves_by : (p : Phase) (t : Seen) (s : ℕ) (own : Own) (stage : Stage) → column p t s ≡ stage → phase_at stage own ≡ Serving → p ≡ At s
serves_by p t s own Away e serves = absurd (is_away own.held own.left own.epoch serves)
serves_by p t s own (Here Serves state) e serves = (is_source p t s Serves state e).phase
serves_by p t s own (Here (Closes dest number) state) e serves = cc
serves_by p t s own (Here (Froze dest number) state) e serves = cc

serves_at : (p : Phase) (t : Seen) (s : ℕ) (own : Own) → p ≡ At s → phase_at (column p t s) own ≡ Serving
serves_at p t s own e = subst (λ q. phase_at (column q t s) own ≡ Serving) (sym e) (rw (eq-eqb s s refl) refl)

pub one_serves : (home : Home) (h : List Moment) (s : ℕ) → (phase_of (slot_now home h s) ≡ Serving) ↔ (phase_now home.first h ≡ At s)
unfolding phase_of slot_now
one_serves home h s = (
  (λ e. serves_by (phase_now home.first h) (tables_now home h) s (own_now home.first h s) (column (phase_now home.first h) (tables_now home h) s) refl e),
  (λ e. serves_at (phase_now home.first h) (tables_now home h) s (own_now home.first h s) e),
)

-- ---- the door

door_by : (fs : ℕ) (p : Phase) (t : Seen) (s : ℕ) (own : Own) → entered fs (column p t s) own ≡ door_answer fs p s own
unfolding door_answer
door_by fs (At q) t s own = by_test (s == q)
  where
    by_test : (b : Bool) → entered fs (cond b (Here Serves t) Away) own
        ≡ cond b (cond (nat_le (2 ^ 63) own.out) (enter.Full own.out) (enter.Entered (record { fs = fs; epoch = own.epoch }))) (turned_away own.held own.left)
    by_test true = refl
    by_test false = refl
door_by fs (Closing q dest number) t s own = by_test (s == q)
  where
    by_test : (b : Bool) → entered fs (cond b (Here (Closes dest number) t) Away) own ≡ cond b enter.Delay (turned_away own.held own.left)
    by_test true = refl
    by_test false = refl
door_by fs (Frozen q dest number) t s own = by_test (s == q)
  where
    by_test : (b : Bool) → entered fs (cond b (Here (Froze dest number) t) Away) own ≡ cond b enter.Delay (turned_away own.held own.left)
    by_test true = refl
    by_test false = refl
door_by fs (Passing q dest number) t s own = refl

pub door_accounted : (home : Home) (h : List Moment) (s : ℕ) (a : Enter) → a ≡ enter_answer (slot_now home h s)
    → a ≡ door_answer home.fs (phase_now home.first h) s (own_now home.first h s)
unfolding enter_answer slot_now
door_accounted home h s a e = e ∙ door_by home.fs (phase_now home.first h) (tables_now home h) s (own_now home.first h s)

-- ---- the entries

-- the tables that the ends of instances leave
pub seen_ends : (fs : ℕ) (grants : Bool) (parties : List Party) (entries : Past) → seen fs grants (with_ends parties entries) ≡ after_ends parties (seen fs grants entries)
unfolding seen answer_to
seen_ends fs grants [] entries = refl
seen_ends fs grants (party ∷ parties) entries = seen_ends fs grants parties (end_of party ∷ entries)

ends_legal : (fs : ℕ) (grants : Bool) (parties : List Party) (entries : Past) → IsLegal fs grants entries → IsLegal fs grants (with_ends parties entries)
unfolding answer_to
ends_legal fs grants [] entries legal = legal
ends_legal fs grants (party ∷ parties) entries legal = ends_legal fs grants parties (end_of party ∷ entries) (refl, legal)

done_reply : (epoch place era : ℕ) (call : Call) (verdict : Verdict) (reply : Reply) (state : Seen) (ends : List Party) (own : Own) (strayed late last : Bool)
    → answer.Done place reply
    ≡ cond strayed (answer.Strayed epoch own.epoch) (cond late (answer.Ended era) (cond last (answer.Last own.count) (done_after ends call verdict state own)))
    → reply ≡ answer_to (after_ends ends state) (Asked call verdict)
done_reply epoch place era call verdict reply state ends own true late last a = cc
done_reply epoch place era call verdict reply state ends own false true last a = cc
done_reply epoch place era call verdict reply state ends own false false true a = cc
done_reply epoch place era call verdict reply state ends own false false false a = cc

is_answer : (p : Phase) (t : Seen) (s epoch place : ℕ) (lease : Option LeasePass) (call : Call) (verdict : Verdict) (reply : Reply) (own : Own) (stage : Stage)
    → column p t s ≡ stage → answer.Done place reply ≡ applied epoch lease call verdict stage own
    → reply ≡ answer_to (after_ends (ends_before lease stage own.eras) t) (Asked call verdict)
is_answer p t s epoch place lease call verdict reply own Away e a = cc
is_answer p t s epoch place lease call verdict reply own (Here (Froze dest number) state) e a = cc
is_answer p t s epoch place lease call verdict reply own (Here Serves state) e a =
    done_reply epoch place (era_seen lease own.eras) call verdict reply state (ends_before lease (Here Serves state) own.eras) own
    (not (epoch == own.epoch)) (is_late lease own.eras) (is_full own) a
    ∙ ap (λ x. answer_to (after_ends (ends_before lease (Here Serves state) own.eras) x) (Asked call verdict)) (is_source p t s Serves state e).tables
is_answer p t s epoch place lease call verdict reply own (Here (Closes dest number) state) e a =
    done_reply epoch place (era_seen lease own.eras) call verdict reply state (ends_before lease (Here (Closes dest number) state) own.eras) own
    (not (epoch == own.epoch)) (is_late lease own.eras) (is_full own) a
    ∙ ap (λ x. answer_to (after_ends (ends_before lease (Here (Closes dest number) state) own.eras) x) (Asked call verdict)) (is_source p t s (Closes dest number) state e).tables

legal_after : (p : Phase) (fs : ℕ) (grants : Bool) (entries : Past) (s : ℕ) (own : Own) (step : SlotStep)
    → IsAnswered (record { fs = fs; stage = column p (seen fs grants entries) s; own = own }) step → IsLegal fs grants entries → IsLegal fs grants (with_entry step entries)
unfolding apply_answer apply_ends
legal_after p fs grants entries s own (Applying epoch lease call verdict ends (answer.Done place reply)) a legal = (
  is_answer p (seen fs grants entries) s epoch place lease call verdict reply own (column p (seen fs grants entries) s) refl a.0
      ∙ ap (λ x. answer_to x (Asked call verdict)) (ap (λ es. after_ends es (seen fs grants entries)) (sym a.1) ∙ sym (seen_ends fs grants ends entries)),
  ends_legal fs grants ends entries legal,
)
legal_after p fs grants entries s own (Sweeping party era ends sweep.Ended) a legal = ends_legal fs grants ends entries legal
legal_after p fs grants entries s own (Abandoning ends (abandon.Back number)) a legal = ends_legal fs grants ends entries legal
legal_after p fs grants entries s own (Installing number ends install.Now) a legal = ends_legal fs grants ends entries legal
legal_after p fs grants entries s own _ a legal = legal

pub stay_legal : (home : Home) (h : List Moment) → IsHistory home h → IsLegal home.fs home.grants (entries_now h)
unfolding entries_now slot_now
stay_legal home [] it = tt
stay_legal home (x ∷ earlier) it =
    legal_after (phase_now home.first earlier) home.fs home.grants (entries_now earlier) x.server (own_now home.first earlier x.server) x.step it.0.answered
    (stay_legal home earlier it.1)

-- ---- nothing is lost

pub is_whole : (home : Home) (h : List Moment) (dest number : ℕ) (ends : List Party) → IsHistory home (record { server = dest; step = Installing number ends install.Now } ∷ h)
    → IsWhole home h dest number
unfolding install_answer slot_now
is_whole home h dest number ends it = record {
  source = ready.source;
  offer = ready.offer;
  handed = ready.phase;
  held = ready.holds;
  state = ready.state;
  frozen = subst (λ p. FreezeStands p (λ n. frozen_entries h n) (entries_now h)) ready.phase (freeze_of home h it.1);
}
  where
    ready : IsReady (phase_now home.first h) (tables_now home h) dest number (own_now home.first h dest).held
    ready = is_ready (facts_of home h it.1) dest number it.0.delivered.1 it.0.delivered.0 it.0.answered.0
