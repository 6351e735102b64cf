-- The answers that never come.
use Rattle.std.proofs.Common.{◌≡◌, ◌≤◌, ℕ, Bool, true, false, cond, List, [], ◌∷◌, refl, sym, subst, ap, ◌∙◌, Option, Some, arith, eqb-true, eq-eqb}
use Rattle.std.specs.Prelude.{◌==◌, ◌&&◌, ◌||◌, not, nat_le}
use Rattle.std.specs.List.{list_all}
use Rattle.std.proofs.lemmas.Bool.Decides.{nat_tests}
use Rattle.nm_slot.proofs.SlotsFollow.{source_by}
use Rattle.nm_types.specs.declared.leases.LeasePass.{LeasePass}
use Rattle.nm_types.specs.Parties.{Party}
use Rattle.nm_rules.specs.Seen.{Seen}
use Rattle.nm_types.specs.declared.calls.Call.{Call}
use Rattle.nm_types.specs.declared.calls.Verdict.{Verdict}
use Rattle.nm_slot.specs.declared.answers.Accept.TheVariants as accept
use Rattle.nm_slot.specs.declared.answers.Answer.{Answer}
use Rattle.nm_slot.specs.declared.answers.Answer.TheVariants as answer
use Rattle.nm_slot.specs.declared.answers.Install.TheVariants as install
use Rattle.nm_slot.specs.Eras.{is_late, era_seen}
use Rattle.nm_slot.specs.Answers.{applied, called, done_after, is_full, ends_before, accepted as accept_by, accepted_at, installed as install_by, is_offer_of, apply_answer, accept_answer, install_answer}
use Rattle.nm_slot.specs.History.{Home, own_now, tables_now, passes_now, slot_now, is_out, IsAnswered, IsDelivered, IsHistory}
use Rattle.nm_slot.specs.Laws.{NeverComes}
use Rattle.nm_slot.specs.Moves.{Move, Fate, move_now, is_handed}
use Rattle.nm_slot.specs.Moves.Fate.{NotBegun, UnderWay, GivenUp, Handed, Done}
use Rattle.nm_slot.specs.Phases.{Phase, Moment, source_of, phase_now, column}
use Rattle.nm_slot.specs.Phases.Phase.{At, Closing, Frozen, Passing}
use Rattle.nm_slot.specs.SlotNow.{Doing, Stage, Offer, Own, SlotStep}
use Rattle.nm_slot.specs.SlotNow.Doing.{Serves, Closes, Froze}
use Rattle.nm_slot.specs.SlotNow.Stage.{Away, Here}
use Rattle.nm_slot.specs.SlotNow.SlotStep.{Applying, Accepting, Installing}
use Rattle.nm_slot.proofs.Agreed.{began}
use Rattle.nm_slot.proofs.Facts.{Facts, IsRemembered}
use Rattle.nm_slot.proofs.HistoryFacts.{facts_of, begins_now}
use Rattle.nm_slot.proofs.Inversions.{is_source, phase_by}
use Rattle.nm_slot.proofs.KeptHeld.{handed_to}
use Rattle.nm_slot.proofs.PassesOut.{AreOutAt, AreCounted, passes_of}

-- ---- no call strays

not_out : (epoch : ℕ) (passes : List ℕ) → is_out epoch passes ≡ true → passes ≡ [] → ⊥
not_out epoch [] e none = cc
not_out epoch (x ∷ xs) e none = cc

-- a pass that is out is of the epoch of all
of_epoch : (epoch its : ℕ) (passes : List ℕ) → list_all (λ e. e == its) passes ≡ true → is_out epoch passes ≡ true → epoch ≡ its
of_epoch epoch its [] all out = cc
of_epoch epoch its (x ∷ xs) all out = by_tests (x == epoch) (x == its) refl refl all out (of_epoch epoch its xs)
  where
    by_tests : (a b : Bool) → (x == epoch) ≡ a → (x == its) ≡ b → (b && list_all (λ e. e == its) xs) ≡ true → (a || is_out epoch xs) ≡ true
        → (list_all (λ e. e == its) xs ≡ true → is_out epoch xs ≡ true → epoch ≡ its) → epoch ≡ its
    by_tests a false e f all out later = cc
    by_tests true true e f all out later = sym (eqb-true x epoch e) ∙ eqb-true x its f
    by_tests false true e f all out later = later all out

not_strayed : (pass slot epoch : ℕ) (lease : Option LeasePass) (call : Call) (verdict : Verdict) (state : Seen) (ends : List Party) (own : Own) → epoch ≡ own.epoch
    → answer.Strayed pass slot ≡ called epoch lease call verdict state ends own → ⊥
not_strayed pass slot epoch lease call verdict state ends own e a =
    by_tests (is_late lease own.eras) (is_full own) (a ∙ ap (λ b. rest (not b)) (eq-eqb epoch own.epoch e))
  where
    rest : Bool → Answer
    rest strayed = cond strayed (answer.Strayed epoch own.epoch)
        (cond (is_late lease own.eras) (answer.Ended (era_seen lease own.eras)) (cond (is_full own) (answer.Last own.count) (done_after ends call verdict state own)))

    by_tests : (late full : Bool) → answer.Strayed pass slot ≡ cond late (answer.Ended (era_seen lease own.eras)) (cond full (answer.Last own.count) (done_after ends call verdict state own)) → ⊥
    by_tests true full a = cc
    by_tests false true a = cc
    by_tests false false a = cc

away_none : (p : Phase) (t : Seen) (s : ℕ) (passes : List ℕ) → column p t s ≡ Away → AreOutAt p s passes → passes ≡ []
away_none (At q) t s passes e out = out (λ same. elsewhere (s == q) (eq-eqb s q same) e)
  where
    elsewhere : (b : Bool) → b ≡ true → cond b (Here Serves t) Away ≡ Away → ⊥
    elsewhere true _ e = cc
    elsewhere false f e = cc
away_none (Closing q dest number) t s passes e out = out (λ same. elsewhere (s == q) (eq-eqb s q same) e)
  where
    elsewhere : (b : Bool) → b ≡ true → cond b (Here (Closes dest number) t) Away ≡ Away → ⊥
    elsewhere true _ e = cc
    elsewhere false f e = cc
away_none (Frozen q dest number) t s passes e out = out
away_none (Passing q dest number) t s passes e out = out

never_strays : (p : Phase) (t : Seen) (s epoch pass slot : ℕ) (lease : Option LeasePass) (call : Call) (verdict : Verdict) (own : Own) (passes : List ℕ) (stage : Stage) → column p t s ≡ stage
    → answer.Strayed pass slot ≡ applied epoch lease call verdict stage own → is_out epoch passes ≡ true → AreOutAt p s passes → AreCounted own passes → ⊥
never_strays p t s epoch pass slot lease call verdict own passes Away e a d out it = not_out epoch passes d (away_none p t s passes e out)
never_strays p t s epoch pass slot lease call verdict own passes (Here Serves state) e a d out it =
    not_strayed pass slot epoch lease call verdict state (ends_before lease (Here Serves state) own.eras) own (of_epoch epoch own.epoch passes it.epochs d) a
never_strays p t s epoch pass slot lease call verdict own passes (Here (Closes dest number) state) e a d out it =
    not_strayed pass slot epoch lease call verdict state (ends_before lease (Here (Closes dest number) state) own.eras) own (of_epoch epoch own.epoch passes it.epochs d) a
never_strays p t s epoch pass slot lease call verdict own passes (Here (Froze dest number) state) e a d out it =
    not_out epoch passes d (subst (λ q. AreOutAt q s passes) (is_source p t s (Froze dest number) state e).phase out)

-- ---- no offer meets the file system itself

never_live : (p : Phase) (begins : ℕ) (move : ℕ → Move) (own : ℕ → Own) (t : Seen) (s : ℕ) (offer : Offer) (stage : Stage) → column p t s ≡ stage
    → accept.Live ≡ accept_by offer.number stage (own s) → (move offer.number).offer ≡ Some offer → Facts p begins move own t → ⊥
never_live p begins move own t s offer stage e a made facts = by_tests (is_offer_of offer.number (own s).held) (nat_le offer.number (own s).known) refl stage e a
  where
    by_tests : (same old : Bool) → nat_le offer.number (own s).known ≡ old → (stage : Stage) → column p t s ≡ stage
        → accept.Live ≡ cond same accept.Held (cond old (accept.Old (own s).known) (accepted_at stage)) → ⊥
    by_tests true old f stage e a = cc
    by_tests false true f stage e a = cc
    by_tests false false f Away e a = cc
    by_tests false false f (Here doing state) e a =
        let at : source_of p ≡ s = ap source_of (is_source p t s doing state e).phase ∙ source_by s doing in
        let latest : (own s).known ≡ begins = ap (λ r. (own r).known) (sym at) ∙ facts.agreed.numbers.holder in
        let is_begun : offer.number ≤ begins = began facts.agreed.numbers offer.number offer made in
        above offer.number (own s).known f (omega (arith, latest, is_begun))
      where
        above : (n known : ℕ) → nat_le n known ≡ false → n ≤ known → ⊥
        above n known h le = grind (arith, nat_tests)

-- ---- none that was handed over is missing

absent_parts : (n installed : ℕ) (o : Option Offer) (same old : Bool) → is_offer_of n o ≡ same → nat_le n installed ≡ old
    → install.Absent ≡ cond same install.Now (cond old install.Already install.Absent) → (is_offer_of n o ≡ false) × (nat_le n installed ≡ false)
absent_parts n installed o true old e f a = cc
absent_parts n installed o false true e f a = cc
absent_parts n installed o false false e f a = (e, f)

above : (n installed : ℕ) → nat_le n installed ≡ false → n ≤ installed → ⊥
above n installed h le = grind (arith, nat_tests)

never_absent : (p : Phase) (begins : ℕ) (move : ℕ → Move) (own : ℕ → Own) (t : Seen) (s n : ℕ) → install.Absent ≡ install_by n (own s)
    → is_handed (move n).fate ≡ true → (move n).dest ≡ s → Facts p begins move own t → ⊥
never_absent p begins move own t s n a handed goes facts = by_fate (move n).fate refl handed
  where
    parts : (is_offer_of n (own s).held ≡ false) × (nat_le n (own s).installed ≡ false)
    parts = absent_parts n (own s).installed (own s).held (is_offer_of n (own s).held) (nat_le n (own s).installed) refl refl a

    by_fate : (fate : Fate) → (move n).fate ≡ fate → is_handed fate ≡ true → ⊥
    by_fate NotBegun e h = cc
    by_fate UnderWay e h = cc
    by_fate GivenUp e h = cc
    by_fate Handed e h =
        let ready = handed_to facts s n goes e in
        let held : is_offer_of n (own s).held ≡ true = ap (is_offer_of n) ready.holds ∙ eq-eqb ready.offer.number n ready.number in
        let not_held : is_offer_of n (own s).held ≡ false = parts.0 in
        cc
    by_fate Done e h =
        let past : IsRemembered n (own s) = subst (λ d. IsRemembered n (own d)) goes (facts.agreed.settled.remembered n e) in
        above n (own s).installed parts.1 past.is_installed

-- ---- over a history

never_now : (p : Phase) (begins : ℕ) (move : ℕ → Move) (own : ℕ → Own) (t : Seen) (fs s : ℕ) (passes : List ℕ) (step : SlotStep)
    → IsAnswered (record { fs = fs; stage = column p t s; own = own s }) step → IsDelivered move passes s step
    → Facts p begins move own t → AreOutAt p s passes → AreCounted (own s) passes → NeverComes step
unfolding apply_answer accept_answer install_answer
never_now p begins move own t fs s passes (Applying epoch lease call verdict ends (answer.Strayed pass slot)) a d facts out it =
    never_strays p t s epoch pass slot lease call verdict (own s) passes (column p t s) refl a.0 d out it
never_now p begins move own t fs s passes (Accepting offer leases accept.Live) a d facts out it =
    never_live p begins move own t s offer (column p t s) refl a d.0 facts
never_now p begins move own t fs s passes (Installing n ends install.Absent) a d facts out it =
    never_absent p begins move own t s n a.0 d.0 d.1 facts
never_now p begins move own t fs s passes _ a d facts out it = tt

pub never_come : (home : Home) (h : List Moment) (x : Moment) → IsHistory home (x ∷ h) → NeverComes x.step
unfolding slot_now
never_come home h x it =
    never_now (phase_now home.first h) (begins_now h) (λ n. move_now h n) (λ s. own_now home.first h s) (tables_now home h) home.fs x.server (passes_now h x.server) x.step
    it.0.answered it.0.delivered (facts_of home h it.1) ((passes_of home h it.1).out x.server) ((passes_of home h it.1).counted x.server)
