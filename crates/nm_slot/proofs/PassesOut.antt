-- The passes that are out at a server are of its epoch, as many as it counts, and there are none but where the file system
-- is served or closes.
use Rattle.std.proofs.Common.{◌≡◌, ◌≢◌, ℕ, Bool, true, false, cond, List, [], ◌∷◌, length, refl, sym, subst, ap, ◌∙◌, Option, Some, None, arith, eqb-true, eq-eqb}
use Rattle.std.specs.Prelude.{◌-◌, ◌==◌, ◌^◌, ◌&&◌, ◌||◌, nat_le}
use Rattle.std.specs.List.{list_all, list_any}
use Rattle.std.proofs.lemmas.Bool.{and_parts}
use Rattle.std.proofs.lemmas.List.{nil_from_length}
use Rattle.nm_types.specs.declared.leases.LeasePass.{LeasePass}
use Rattle.nm_types.specs.Parties.{Party}
use Rattle.nm_rules.specs.Seen.{Seen}
use Rattle.nm_slot.specs.declared.answers.Abandon.TheVariants as abandon
use Rattle.nm_slot.specs.declared.answers.Accept.TheVariants as accept
use Rattle.nm_slot.specs.declared.answers.Answer.TheVariants as answer
use Rattle.nm_slot.specs.declared.answers.Begin.TheVariants as begin
use Rattle.nm_slot.specs.declared.answers.Enter.TheVariants as enter
use Rattle.nm_slot.specs.declared.answers.Freeze.TheVariants as freeze
use Rattle.nm_slot.specs.declared.answers.Install.TheVariants as install
use Rattle.nm_slot.specs.declared.answers.Swept.TheVariants as sweep
use Rattle.nm_slot.specs.Eras.{marked}
use Rattle.nm_slot.specs.Answers.{is_past, installed as install_by, entered, turned_away, frozen as freeze_by, enter_answer, freeze_answer, install_answer}
use Rattle.nm_slot.specs.Changes.{own_after, own_swept, own_accepted, own_installed}
use Rattle.nm_slot.specs.History.{Home, dest_from, own_now, tables_now, slot_now, passes_now, passes_after, without_one, is_out, IsAnswered, IsDelivered, IsHistory}
use Rattle.nm_slot.specs.Moves.{Move, move_now, is_handed}
use Rattle.nm_slot.specs.Passes.{PassNow}
use Rattle.nm_slot.specs.Phases.{Phase, Moment, source_of, after_at_source, after_elsewhere, phase_now, column}
use Rattle.nm_slot.specs.Phases.Phase.{At, Closing, Frozen, Passing}
use Rattle.nm_slot.specs.SlotNow.{Stage, Offer, Left, Own, SlotStep}
use Rattle.nm_slot.specs.SlotNow.Doing.{Serves, Closes, Froze}
use Rattle.nm_slot.specs.SlotNow.Stage.{Away, Here}
use Rattle.nm_slot.specs.SlotNow.HandedOver.{Committed}
use Rattle.nm_slot.specs.SlotNow.SlotStep.{Entering, Leaving, Applying, Sweeping, Beginning, Freezing, Committing, Abandoning, Accepting, Installing, Withdrawing}
use Rattle.nm_slot.proofs.Facts.{Facts}
use Rattle.nm_slot.proofs.HistoryFacts.{facts_of, begins_now}
use Rattle.nm_slot.proofs.Inversions.{is_source, same_phase}
use Rattle.nm_slot.proofs.Kept.{next}
use Rattle.nm_slot.proofs.KeptHeld.{is_ready}
use Rattle.nm_slot.proofs.Updates.{put, by_place, put_there, put_elsewhere}

-- ---- where passes may be out

-- there are none but at the server that serves or closes
abbrev pub AreOutAt : Phase → ℕ → List ℕ → Type 0
AreOutAt (At q) s passes = s ≢ q → passes ≡ []
AreOutAt (Closing q dest number) s passes = s ≢ q → passes ≡ []
AreOutAt (Frozen q dest number) s passes = passes ≡ []
AreOutAt (Passing q dest number) s passes = passes ≡ []

none_out : (p : Phase) (s : ℕ) (passes : List ℕ) → passes ≡ [] → AreOutAt p s passes
none_out (At q) s passes e = λ ne. e
none_out (Closing q dest number) s passes e = λ ne. e
none_out (Frozen q dest number) s passes e = e
none_out (Passing q dest number) s passes e = e

abbrev is_freezing : SlotStep → Bool
is_freezing (Freezing (freeze.Frozen number)) = true
is_freezing _ = false

out_at_source : (p : Phase) (s : ℕ) (step : SlotStep) (passes : List ℕ) → (is_freezing step ≡ true → passes ≡ []) → AreOutAt p s passes
    → AreOutAt (after_at_source p step) s passes
out_at_source (At q) s (Beginning here dest (begin.Begun number)) passes none out = out
out_at_source (At q) s _ passes none out = out
out_at_source (Closing q dest number) s (Freezing (freeze.Frozen its)) passes none out = none refl
out_at_source (Closing q dest number) s (Abandoning ends (abandon.Back its)) passes none out = out
out_at_source (Closing q dest number) s _ passes none out = out
out_at_source (Frozen q dest number) s step passes none out = none_out (after_at_source (Frozen q dest number) step) s passes out
out_at_source (Passing q dest number) s step passes none out = out

out_elsewhere : (p : Phase) (s r : ℕ) (step : SlotStep) (passes : List ℕ) → AreOutAt p s passes → AreOutAt (after_elsewhere p r step) s passes
out_elsewhere (At q) s r step passes out = out
out_elsewhere (Closing q dest number) s r step passes out = out
out_elsewhere (Frozen q dest number) s r step passes out = out
out_elsewhere (Passing q dest number) s r step passes out = none_out (after_elsewhere (Passing q dest number) r step) s passes out

-- a step at any server
out_next : (p : Phase) (s r : ℕ) (step : SlotStep) (passes : List ℕ) → (r ≡ source_of p → is_freezing step ≡ true → passes ≡ [])
    → AreOutAt p s passes → AreOutAt (next p r step) s passes
out_next p s r step passes none out = by_test (r == source_of p) refl
  where
    by_test : (b : Bool) → (r == source_of p) ≡ b → AreOutAt (cond b (after_at_source p step) (after_elsewhere p r step)) s passes
    by_test true e = out_at_source p s step passes (none (eqb-true r (source_of p) e)) out
    by_test false e = out_elsewhere p s r step passes out

-- at another server than that of the step
out_of_others : (p : Phase) (s r : ℕ) (step : SlotStep) (passes : List ℕ) → s ≢ r → AreOutAt p s passes → AreOutAt (next p r step) s passes
out_of_others p s r step passes ne out = out_next p s r step passes (λ e _. none p e out) out
  where
    none : (p : Phase) → r ≡ source_of p → AreOutAt p s passes → passes ≡ []
    none (At q) e out = out (λ same. ne (same ∙ sym e))
    none (Closing q dest number) e out = out (λ same. ne (same ∙ sym e))
    none (Frozen q dest number) e out = out
    none (Passing q dest number) e out = out

-- ---- how many, and of which epoch

pub record AreCounted (own : Own) (passes : List ℕ) : Type 0 where
  pub counted : own.out ≡ length passes
  pub epochs : list_all (λ e. e == own.epoch) passes ≡ true

-- what is known before the steps that change passes or the epoch
abbrev FitsPasses : SlotStep → Own → List ℕ → Type 0
FitsPasses (Entering (enter.Entered pass)) own passes = pass.epoch ≡ own.epoch
FitsPasses (Leaving epoch) own passes = is_out epoch passes ≡ true
FitsPasses (Installing number ends install.Now) own passes = passes ≡ []
FitsPasses _ own passes = Unit {0}

counted_same : (own new : Own) (passes : List ℕ) → new.out ≡ own.out → new.epoch ≡ own.epoch → AreCounted own passes → AreCounted new passes
counted_same own new passes out epoch it =
    record { counted = out ∙ it.counted; epochs = subst (λ k. list_all (λ e. e == k) passes ≡ true) (sym epoch) it.epochs }

one_fewer : (epoch : ℕ) (passes : List ℕ) → is_out epoch passes ≡ true → length (without_one epoch passes) ≡ length passes - 1
one_fewer epoch [] e = cc
one_fewer epoch (x ∷ xs) e = by_test (x == epoch) e (one_fewer epoch xs)
  where
    by_test : (b : Bool) → (b || list_any (λ k. k == epoch) xs) ≡ true
        → (list_any (λ k. k == epoch) xs ≡ true → length (without_one epoch xs) ≡ length xs - 1)
        → length (cond b xs (x ∷ without_one epoch xs)) ≡ length (x ∷ xs) - 1
    by_test true e later = omega arith
    by_test false e later = longer xs e (later e)
      where
        longer : (xs : List ℕ) → list_any (λ k. k == epoch) xs ≡ true → length (without_one epoch xs) ≡ length xs - 1 → length (x ∷ without_one epoch xs) ≡ length (x ∷ xs) - 1
        longer [] e it = cc
        longer (y ∷ ys) e it = omega (arith, it)

all_but_one : (epoch : ℕ) (p : ℕ → Bool) (passes : List ℕ) → list_all p passes ≡ true → list_all p (without_one epoch passes) ≡ true
all_but_one epoch p [] e = refl
all_but_one epoch p (x ∷ xs) e = by_test (x == epoch) (and_parts (p x) (list_all p xs) e) (all_but_one epoch p xs)
  where
    by_test : (b : Bool) → (p x ≡ true) × (list_all p xs ≡ true) → (list_all p xs ≡ true → list_all p (without_one epoch xs) ≡ true)
        → list_all p (cond b xs (x ∷ without_one epoch xs)) ≡ true
    by_test true both later = both.1
    by_test false both later = rw (both.0, later both.1) refl

accepted_out : (offer : Offer) (leases : List LeasePass) (held : Option Offer) (own : Own)
    → ((own_accepted offer leases held own).out ≡ own.out) × ((own_accepted offer leases held own).epoch ≡ own.epoch)
accepted_out offer leases None own = (refl, refl)
accepted_out offer leases (Some its) own = by_test (its.number == offer.number)
  where
    by_test : (b : Bool) → ((cond b own (record own { held = Some offer; brought = leases; known = offer.number })).out ≡ own.out)
        × ((cond b own (record own { held = Some offer; brought = leases; known = offer.number })).epoch ≡ own.epoch)
    by_test true = (refl, refl)
    by_test false = (refl, refl)

installed_out : (number : ℕ) (ends : List Party) (held : Option Offer) (own : Own) → own.out ≡ 0 → AreCounted (own_installed number ends held own) []
installed_out number ends None own e = record { counted = e; epochs = refl }
installed_out number ends (Some offer) own e = record { counted = e; epochs = refl }

nothing_out : (party : Party) (era : ℕ) (own : Own)
    → ((own_swept sweep.Nothing party era [] own).out ≡ own.out) × ((own_swept sweep.Nothing party era [] own).epoch ≡ own.epoch)
nothing_out party era own = by_test (is_past party era own)
  where
    by_test : (b : Bool) → ((cond b own (record own { eras = marked party era own.eras })).out ≡ own.out)
        × ((cond b own (record own { eras = marked party era own.eras })).epoch ≡ own.epoch)
    by_test true = (refl, refl)
    by_test false = (refl, refl)

counted_after : (step : SlotStep) (dest : ℕ) (own : Own) (passes : List ℕ) → FitsPasses step own passes → AreCounted own passes
    → AreCounted (own_after step dest own) (passes_after step passes)
counted_after (Entering (enter.Entered pass)) dest own passes fits it = record {
  counted = omega (arith, it.counted);
  epochs = rw (eq-eqb pass.epoch own.epoch fits) it.epochs;
}
counted_after (Leaving epoch) dest own passes fits it = record {
  counted = omega (arith, it.counted, one_fewer epoch passes fits);
  epochs = all_but_one epoch (λ e. e == own.epoch) passes it.epochs;
}
counted_after (Applying epoch lease call verdict ends (answer.Done place reply)) dest own passes fits it = record { counted = it.counted; epochs = it.epochs }
counted_after (Sweeping party era ends sweep.Ended) dest own passes fits it = record { counted = it.counted; epochs = it.epochs }
counted_after (Sweeping party era ends sweep.PutOff) dest own passes fits it = record { counted = it.counted; epochs = it.epochs }
counted_after (Sweeping party era ends sweep.Nothing) dest own passes fits it =
    let same = nothing_out party era own in
    counted_same own (own_swept sweep.Nothing party era ends own) passes same.0 same.1 it
counted_after (Abandoning ends (abandon.Back number)) dest own passes fits it = record { counted = it.counted; epochs = it.epochs }
counted_after (Beginning here to (begin.Begun number)) dest own passes fits it = record { counted = it.counted; epochs = it.epochs }
counted_after (Committing number (Committed parties)) dest own passes fits it = record { counted = it.counted; epochs = it.epochs }
counted_after (Accepting offer leases accept.Held) dest own passes fits it =
    let same = accepted_out offer leases own.held own in counted_same own (own_accepted offer leases own.held own) passes same.0 same.1 it
counted_after (Installing number ends install.Now) dest own passes fits it =
    subst (λ es. AreCounted (own_installed number ends own.held own) es) (sym fits) (installed_out number ends own.held own (it.counted ∙ ap (λ (es : List ℕ). length es) fits))
counted_after (Withdrawing number true) dest own passes fits it = record { counted = it.counted; epochs = it.epochs }
counted_after (Withdrawing number false) dest own passes fits it = record { counted = it.counted; epochs = it.epochs }
counted_after _ dest own passes fits it = it

-- ---- each server's passes, over a history

pub record PassesAreOut (p : Phase) (own : ℕ → Own) (passes : ℕ → List ℕ) : Type 0 where
  pub out : (s : ℕ) → AreOutAt p s (passes s)
  pub counted : (s : ℕ) → AreCounted (own s) (passes s)

-- ---- what an answer says of the passes

-- a pass is given where the file system is served, of its epoch
record IsEntered (p : Phase) (s : ℕ) (own : Own) (pass : PassNow) : Type 0 where
  phase : p ≡ At s
  epoch : pass.epoch ≡ own.epoch

pass_epoch : (fs : ℕ) (own : Own) (pass : PassNow) (full : Bool)
    → enter.Entered pass ≡ cond full (enter.Full own.out) (enter.Entered (record { fs = fs; epoch = own.epoch })) → pass.epoch ≡ own.epoch
pass_epoch fs own pass true a = cc
pass_epoch fs own pass false a = let same : pass ≡ record { fs = fs; epoch = own.epoch } = cc in ap (λ (x : PassNow). x.epoch) same

not_turned_away : (held : Option Offer) (left : Option Left) (pass : PassNow) → enter.Entered pass ≡ turned_away held left → ⊥
not_turned_away None None pass a = cc
not_turned_away None (Some left) pass a = cc
not_turned_away (Some offer) left pass a = cc

is_entered : (p : Phase) (t : Seen) (s fs : ℕ) (own : Own) (pass : PassNow) (stage : Stage) → column p t s ≡ stage
    → enter.Entered pass ≡ entered fs stage own → IsEntered p s own pass
is_entered p t s fs own pass Away e a = absurd (not_turned_away own.held own.left pass a)
is_entered p t s fs own pass (Here (Closes dest number) state) e a = cc
is_entered p t s fs own pass (Here (Froze dest number) state) e a = cc
is_entered p t s fs own pass (Here Serves state) e a =
    record { phase = (is_source p t s Serves state e).phase; epoch = pass_epoch fs own pass (nat_le (2 ^ 63) own.out) a }

none_waiting : (n number : ℕ) (own : Own) (passes : List ℕ) (b : Bool) → (own.out == 0) ≡ b → AreCounted own passes
    → freeze.Frozen n ≡ cond b (freeze.Frozen number) (freeze.Waiting own.out) → passes ≡ []
none_waiting n number own passes true e it a = nil_from_length passes (sym it.counted ∙ eqb-true own.out 0 e)
none_waiting n number own passes false e it a = cc

none_frozen : (p : Phase) (t : Seen) (s n : ℕ) (own : Own) (passes : List ℕ) (stage : Stage) → column p t s ≡ stage
    → freeze.Frozen n ≡ freeze_by stage own → AreCounted own passes → AreOutAt p s passes → passes ≡ []
none_frozen p t s n own passes Away e a it out = cc
none_frozen p t s n own passes (Here Serves state) e a it out = cc
none_frozen p t s n own passes (Here (Closes dest number) state) e a it out = none_waiting n number own passes (own.out == 0) refl it a
none_frozen p t s n own passes (Here (Froze dest number) state) e a it out =
    subst (λ q. AreOutAt q s passes) (is_source p t s (Froze dest number) state e).phase out

none_installed : (p : Phase) (begins : ℕ) (move : ℕ → Move) (own : ℕ → Own) (t : Seen) (s n : ℕ) (passes : List ℕ)
    → install.Now ≡ install_by n (own s) → is_handed (move n).fate ≡ true → (move n).dest ≡ s → Facts p begins move own t
    → AreOutAt p s passes → passes ≡ []
none_installed p begins move own t s n passes a handed goes facts out =
    subst (λ q. AreOutAt q s passes) (is_ready facts s n goes handed a).phase out

-- ---- a step

fits : (p : Phase) (begins : ℕ) (move : ℕ → Move) (own : ℕ → Own) (t : Seen) (fs s : ℕ) (passes : List ℕ) (step : SlotStep)
    → IsAnswered (record { fs = fs; stage = column p t s; own = own s }) step → IsDelivered move passes s step
    → Facts p begins move own t → AreOutAt p s passes → FitsPasses step (own s) passes
unfolding enter_answer install_answer
fits p begins move own t fs s passes (Entering (enter.Entered pass)) a d facts out = (is_entered p t s fs (own s) pass (column p t s) refl a).epoch
fits p begins move own t fs s passes (Leaving epoch) a d facts out = d
fits p begins move own t fs s passes (Installing n ends install.Now) a d facts out = none_installed p begins move own t s n passes a.0 d.0 d.1 facts out
fits p begins move own t fs s passes _ a d facts out = tt

freezes : (p : Phase) (t : Seen) (fs s : ℕ) (own : Own) (passes : List ℕ) (step : SlotStep)
    → IsAnswered (record { fs = fs; stage = column p t s; own = own }) step → AreCounted own passes → AreOutAt p s passes
    → is_freezing step ≡ true → passes ≡ []
unfolding freeze_answer
freezes p t fs s own passes (Freezing (freeze.Frozen n)) a it out e = none_frozen p t s n own passes (column p t s) refl a it out
freezes p t fs s own passes _ a it out e = cc

fewer_out : (p : Phase) (s : ℕ) (passes fewer : List ℕ) → (passes ≡ [] → fewer ≡ []) → AreOutAt p s passes → AreOutAt p s fewer
fewer_out (At q) s passes fewer less out = λ ne. less (out ne)
fewer_out (Closing q dest number) s passes fewer less out = λ ne. less (out ne)
fewer_out (Frozen q dest number) s passes fewer less out = less out
fewer_out (Passing q dest number) s passes fewer less out = less out

out_here : (p : Phase) (t : Seen) (fs s : ℕ) (own : Own) (passes : List ℕ) (step : SlotStep)
    → IsAnswered (record { fs = fs; stage = column p t s; own = own }) step → AreOutAt (next p s step) s passes
    → AreOutAt (next p s step) s (passes_after step passes)
unfolding enter_answer
out_here p t fs s own passes (Entering (enter.Entered pass)) a out =
    subst (λ q. AreOutAt q s (pass.epoch ∷ passes))
    (sym (same_phase p s (Entering (enter.Entered pass)) refl ∙ (is_entered p t s fs own pass (column p t s) refl a).phase)) (λ ne. absurd (ne refl))
out_here p t fs s own passes (Leaving epoch) a out =
    fewer_out (next p s (Leaving epoch)) s passes (without_one epoch passes) (λ e. ap (without_one epoch) e) out
out_here p t fs s own passes _ a out = out

passes_kept : (p : Phase) (begins : ℕ) (move : ℕ → Move) (own : ℕ → Own) (t : Seen) (fs s : ℕ) (passes : ℕ → List ℕ) (step : SlotStep)
    → IsAnswered (record { fs = fs; stage = column p t s; own = own s }) step → IsDelivered move (passes s) s step
    → Facts p begins move own t → PassesAreOut p own passes
    → PassesAreOut (next p s step) (put s (λ r. own_after step (dest_from p r) (own r)) own) (put s (λ r. passes_after step (passes r)) passes)
passes_kept p begins move own t fs s passes step a d facts are = record {
  out = by_place (λ r ps. AreOutAt (next p s step) r ps) s left passes
      (out_here p t fs s (own s) (passes s) step a (out_next p s s step (passes s) (λ _ e. freezes p t fs s (own s) (passes s) step a (are.counted s) (are.out s) e) (are.out s)))
      (λ r ne. out_of_others p r s step (passes r) (λ e. ne (sym e)) (are.out r));
  counted = by_place (λ r o. AreCounted o (put s left passes r)) s after own
      (subst (λ ps. AreCounted (after s) ps) (sym (put_there s left passes))
      (counted_after step (dest_from p s) (own s) (passes s) (fits p begins move own t fs s (passes s) step a d facts (are.out s)) (are.counted s)))
      (λ r ne. subst (λ ps. AreCounted (own r) ps) (sym (put_elsewhere s r left passes ne)) (are.counted r));
}
  where
    left : ℕ → List ℕ
    left r = passes_after step (passes r)

    after : ℕ → Own
    after r = own_after step (dest_from p r) (own r)

-- They are so in every history.
pub passes_of : (home : Home) (h : List Moment) → IsHistory home h
    → PassesAreOut (phase_now home.first h) (λ s. own_now home.first h s) (λ s. passes_now h s)
unfolding phase_now own_now passes_now slot_now
passes_of home [] it = record { out = λ s ne. refl; counted = λ s. record { counted = refl; epochs = refl } }
passes_of home (x ∷ earlier) it =
    passes_kept (phase_now home.first earlier) (begins_now earlier) (λ n. move_now earlier n) (λ s. own_now home.first earlier s) (tables_now home earlier) home.fs x.server
    (λ s. passes_now earlier s) x.step it.0.answered it.0.delivered (facts_of home earlier it.1) (passes_of home earlier it.1)
