-- While a move is frozen or passing, the entries are those at its freeze.
use Rattle.std.proofs.Common.{◌≡◌, ℕ, Bool, true, false, cond, List, [], ◌∷◌, refl, sym, subst, ap, ◌∙◌, Option, eq-eqb}
use Rattle.std.specs.Prelude.{◌==◌, ◌&&◌, if◌then◌else◌}
use Rattle.nm_types.specs.declared.leases.LeasePass.{LeasePass}
use Rattle.nm_rules.specs.Holders.{has_row}
use Rattle.nm_types.specs.Parties.{Party}
use Rattle.nm_rules.specs.Past.{Past}
use Rattle.nm_rules.specs.Seen.{Seen}
use Rattle.nm_types.specs.declared.calls.Call.{Call}
use Rattle.nm_types.specs.declared.calls.Reply.{Reply}
use Rattle.nm_types.specs.declared.calls.Verdict.{Verdict}
use Rattle.nm_slot.specs.declared.answers.Abandon.TheVariants as abandon
use Rattle.nm_slot.specs.declared.answers.Answer.TheVariants as answer
use Rattle.nm_slot.specs.declared.answers.Begin.TheVariants as begin
use Rattle.nm_slot.specs.declared.answers.Freeze.TheVariants as freeze
use Rattle.nm_slot.specs.declared.answers.Install.TheVariants as install
use Rattle.nm_slot.specs.declared.answers.Swept.TheVariants as sweep
use Rattle.nm_slot.specs.Answers.{applied, apply_answer, is_past, swept_at, sweep_answer, frozen as freeze_by, freeze_answer, abandoned as abandon_by, abandon_answer, install_answer}
use Rattle.nm_slot.specs.History.{Home, own_now, tables_now, entries_now, with_ends, with_entry, frozen_entries, slot_now, passes_now, IsAnswered, IsDelivered, IsHistory}
use Rattle.nm_slot.specs.Moves.{Move, move_now}
use Rattle.nm_slot.specs.Phases.{Phase, Moment, source_of, after_at_source, after_elsewhere, phase_now, column}
use Rattle.nm_slot.specs.Phases.Phase.{At, Closing, Frozen, Passing}
use Rattle.nm_slot.specs.SlotNow.{Stage, Own, SlotStep}
use Rattle.nm_slot.specs.SlotNow.Doing.{Serves, Closes, Froze}
use Rattle.nm_slot.specs.SlotNow.Stage.{Away, Here}
use Rattle.nm_slot.specs.SlotNow.HandedOver.{Committed}
use Rattle.nm_slot.specs.SlotNow.SlotStep.{Applying, Sweeping, Beginning, Freezing, Committing, Abandoning, Installing}
use Rattle.nm_slot.proofs.Inversions.{is_source, at_source, same_phase}
use Rattle.nm_slot.proofs.Facts.{Facts}
use Rattle.nm_slot.proofs.HistoryFacts.{begins_now, facts_of, is_swept_now}
use Rattle.nm_slot.proofs.Kept.{next, froze_number, not_off, not_ended, not_back}
use Rattle.nm_slot.proofs.KeptHeld.{is_ready, passed_to}

abbrev pub FreezeStands : Phase → (ℕ → Past) → Past → Type 0
FreezeStands (At server) frozen entries = Unit {0}
FreezeStands (Closing source dest number) frozen entries = Unit {0}
FreezeStands (Frozen source dest number) frozen entries = frozen number ≡ entries
FreezeStands (Passing source dest number) frozen entries = frozen number ≡ entries

-- the entries at the freeze of each move, after a step
abbrev frozen_after : SlotStep → Past → ℕ → Past → Past
frozen_after (Freezing (freeze.Frozen its)) entries number before = if its == number then entries else before
frozen_after _ entries number before = before

at_source_stands : (p : Phase) (step : SlotStep) (frozen : ℕ → Past) (entries : Past) → FreezeStands p frozen entries
    → ((its : ℕ) → step ≡ Freezing (freeze.Frozen its) → ⊥) → FreezeStands (after_at_source p step) frozen entries
at_source_stands (At q) (Beginning here dest (begin.Begun number)) frozen entries it other = tt
at_source_stands (At q) _ frozen entries it other = tt
at_source_stands (Closing q dest number) (Freezing (freeze.Frozen its)) frozen entries it other = absurd (other its refl)
at_source_stands (Closing q dest number) (Abandoning ends (abandon.Back its)) frozen entries it other = tt
at_source_stands (Closing q dest number) _ frozen entries it other = tt
at_source_stands (Frozen q dest number) (Committing its (Committed parties)) frozen entries it other = it
at_source_stands (Frozen q dest number) (Abandoning ends (abandon.Back its)) frozen entries it other = tt
at_source_stands (Frozen q dest number) _ frozen entries it other = it
at_source_stands (Passing q dest number) step frozen entries it other = it

elsewhere_stands : (p : Phase) (s : ℕ) (step : SlotStep) (frozen : ℕ → Past) (entries : Past) → FreezeStands p frozen entries
    → FreezeStands (after_elsewhere p s step) frozen entries
elsewhere_stands (At q) s step frozen entries it = tt
elsewhere_stands (Closing q dest number) s step frozen entries it = tt
elsewhere_stands (Frozen q dest number) s step frozen entries it = it
elsewhere_stands (Passing q dest number) s (Installing its ends install.Now) frozen entries it = by_test ((s == dest) && (its == number))
  where
    by_test : (b : Bool) → FreezeStands (cond b (At dest) (Passing q dest number)) frozen entries
    by_test true = tt
    by_test false = it
elsewhere_stands (Passing q dest number) s _ frozen entries it = it

-- a step that doesn't freeze
next_stands : (p : Phase) (s : ℕ) (step : SlotStep) (frozen : ℕ → Past) (entries : Past) → FreezeStands p frozen entries
    → ((its : ℕ) → step ≡ Freezing (freeze.Frozen its) → ⊥) → FreezeStands (next p s step) frozen entries
next_stands p s step frozen entries it other = by_test (s == source_of p)
  where
    by_test : (b : Bool) → FreezeStands (cond b (after_at_source p step) (after_elsewhere p s step)) frozen entries
    by_test true = at_source_stands p step frozen entries it other
    by_test false = elsewhere_stands p s step frozen entries it

froze_stands : (p : Phase) (t : Seen) (s n : ℕ) (own : Own) (frozen : ℕ → Past) (entries : Past) (stage : Stage) → column p t s ≡ stage
    → freeze.Frozen n ≡ freeze_by stage own → FreezeStands (next p s (Freezing (freeze.Frozen n))) (λ k. cond (n == k) entries (frozen k)) entries
froze_stands p t s n own frozen entries Away e a = cc
froze_stands p t s n own frozen entries (Here Serves state) e a = cc
froze_stands p t s n own frozen entries (Here (Closes dest number) state) e a =
    let phase = (is_source p t s (Closes dest number) state e).phase in
    subst (λ q. FreezeStands q (λ k. cond (n == k) entries (frozen k)) entries)
    (sym (ap (λ q. next q s (Freezing (freeze.Frozen n))) phase ∙ at_source (Closing s dest number) s (Freezing (freeze.Frozen n)) refl))
    (rw (eq-eqb n number (froze_number number n own (own.out == 0) a)) refl)
froze_stands p t s n own frozen entries (Here (Froze dest number) state) e a =
    let phase = (is_source p t s (Froze dest number) state e).phase in
    let same : n ≡ number = cc in
    subst (λ q. FreezeStands q (λ k. cond (n == k) entries (frozen k)) entries)
    (sym (ap (λ q. next q s (Freezing (freeze.Frozen n))) phase ∙ at_source (Frozen s dest number) s (Freezing (freeze.Frozen n)) refl))
    (rw (eq-eqb n number same) refl)

-- calls are carried out before a freeze
called_stands : (p : Phase) (t : Seen) (s epoch place : ℕ) (lease : Option LeasePass) (call : Call) (verdict : Verdict) (ends : List Party) (reply : Reply) (own : Own)
    (frozen : ℕ → Past) (entries : Past) (stage : Stage) → column p t s ≡ stage → answer.Done place reply ≡ applied epoch lease call verdict stage own
    → FreezeStands (next p s (Applying epoch lease call verdict ends (answer.Done place reply))) frozen entries
called_stands p t s epoch place lease call verdict ends reply own frozen entries Away e a = cc
called_stands p t s epoch place lease call verdict ends reply own frozen entries (Here (Froze dest number) state) e a = cc
called_stands p t s epoch place lease call verdict ends reply own frozen entries (Here Serves state) e a =
    subst (λ q. FreezeStands q frozen entries)
    (sym (same_phase p s (Applying epoch lease call verdict ends (answer.Done place reply)) refl ∙ (is_source p t s Serves state e).phase)) tt
called_stands p t s epoch place lease call verdict ends reply own frozen entries (Here (Closes dest number) state) e a =
    subst (λ q. FreezeStands q frozen entries)
    (sym (same_phase p s (Applying epoch lease call verdict ends (answer.Done place reply)) refl ∙ (is_source p t s (Closes dest number) state e).phase)) tt

-- and so rows end before one
swept_stands : (p : Phase) (t : Seen) (s : ℕ) (party : Party) (era : ℕ) (ends : List Party) (own : Own) (frozen : ℕ → Past) (entries : Past)
    (stage : Stage) → column p t s ≡ stage → sweep.Ended ≡ swept_at party stage own
    → FreezeStands (next p s (Sweeping party era ends sweep.Ended)) frozen entries
swept_stands p t s party era ends own frozen entries Away e a = absurd (not_ended party own.held a)
swept_stands p t s party era ends own frozen entries (Here (Froze dest number) state) e a = absurd (not_off (has_row party state) a)
swept_stands p t s party era ends own frozen entries (Here Serves state) e a =
    subst (λ q. FreezeStands q frozen entries)
    (sym (same_phase p s (Sweeping party era ends sweep.Ended) refl ∙ (is_source p t s Serves state e).phase)) tt
swept_stands p t s party era ends own frozen entries (Here (Closes dest number) state) e a =
    subst (λ q. FreezeStands q frozen entries)
    (sym (same_phase p s (Sweeping party era ends sweep.Ended) refl ∙ (is_source p t s (Closes dest number) state e).phase)) tt

-- or once the move was given up
back_stands : (p : Phase) (t : Seen) (s n : ℕ) (ends : List Party) (own : Own) (frozen : ℕ → Past) (entries : Past)
    (stage : Stage) → column p t s ≡ stage → abandon.Back n ≡ abandon_by stage own
    → FreezeStands (next p s (Abandoning ends (abandon.Back n))) frozen entries
back_stands p t s n ends own frozen entries Away e a = absurd (not_back n own.held own.left a)
back_stands p t s n ends own frozen entries (Here Serves state) e a = cc
back_stands p t s n ends own frozen entries (Here (Closes dest number) state) e a =
    let phase = (is_source p t s (Closes dest number) state e).phase in
    subst (λ q. FreezeStands q frozen entries)
    (sym (ap (λ q. next q s (Abandoning ends (abandon.Back n))) phase ∙ at_source (Closing s dest number) s (Abandoning ends (abandon.Back n)) refl)) tt
back_stands p t s n ends own frozen entries (Here (Froze dest number) state) e a =
    let phase = (is_source p t s (Froze dest number) state e).phase in
    subst (λ q. FreezeStands q frozen entries)
    (sym (ap (λ q. next q s (Abandoning ends (abandon.Back n))) phase ∙ at_source (Frozen s dest number) s (Abandoning ends (abandon.Back n)) refl)) tt

-- what is installed is served there
abbrev InstallsAt : Phase → ℕ → SlotStep → Type 0
InstallsAt p s (Installing n ends install.Now) = next p s (Installing n ends install.Now) ≡ At s
InstallsAt p s _ = Unit {0}

installs : (p : Phase) (begins : ℕ) (move : ℕ → Move) (own : ℕ → Own) (t : Seen) (fs : ℕ) (passes : List ℕ) (s : ℕ) (step : SlotStep) → Facts p begins move own t
    → IsAnswered (record { fs = fs; stage = column p t s; own = own s }) step → IsDelivered move passes s step → InstallsAt p s step
unfolding install_answer
installs p begins move own t fs passes s (Installing n ends install.Now) facts a d = passed_to p t s n ends (own s).held (is_ready facts s n d.1 d.0 a.0)
installs p begins move own t fs passes s _ facts a d = tt

stands_after : (p : Phase) (fs : ℕ) (t : Seen) (s : ℕ) (own : Own) (frozen : ℕ → Past) (entries : Past) (step : SlotStep)
    → IsAnswered (record { fs = fs; stage = column p t s; own = own }) step → InstallsAt p s step → FreezeStands p frozen entries
    → FreezeStands (next p s step) (λ n. frozen_after step entries n (frozen n)) (with_entry step entries)
unfolding apply_answer sweep_answer freeze_answer abandon_answer
stands_after p fs t s own frozen entries (Applying epoch lease call verdict ends (answer.Done place reply)) a to it =
    called_stands p t s epoch place lease call verdict ends reply own frozen (with_entry (Applying epoch lease call verdict ends (answer.Done place reply)) entries) (column p t s) refl a.0
stands_after p fs t s own frozen entries (Sweeping party era ends sweep.Ended) a to it =
    swept_stands p t s party era ends own frozen (with_ends ends entries) (column p t s) refl (is_swept_now (is_past party era own) party (column p t s) own a.0)
stands_after p fs t s own frozen entries (Abandoning ends (abandon.Back n)) a to it =
    back_stands p t s n ends own frozen (with_ends ends entries) (column p t s) refl a.0
stands_after p fs t s own frozen entries (Installing n ends install.Now) a to it = subst (λ q. FreezeStands q frozen (with_ends ends entries)) (sym to) tt
stands_after p fs t s own frozen entries (Freezing (freeze.Frozen n)) a to it = froze_stands p t s n own frozen entries (column p t s) refl a
stands_after p fs t s own frozen entries step a to it = next_stands p s step frozen entries it (λ its e. cc)

frozen_same : (server number : ℕ) (step : SlotStep) (earlier : List Moment)
    → frozen_after step (entries_now earlier) number (frozen_entries earlier number) ≡ frozen_entries (record { server = server; step = step } ∷ earlier) number
unfolding frozen_entries
frozen_same server number (Freezing (freeze.Frozen its)) earlier = refl
frozen_same server number _ earlier = refl

pub freeze_of : (home : Home) (h : List Moment) → IsHistory home h
    → FreezeStands (phase_now home.first h) (λ n. frozen_entries h n) (entries_now h)
unfolding phase_now entries_now slot_now
freeze_of home [] it = tt
freeze_of home (x ∷ earlier) it =
    subst (λ f. FreezeStands (next (phase_now home.first earlier) x.server x.step) f (with_entry x.step (entries_now earlier)))
    (λ i n. frozen_same x.server n x.step earlier i)
    (stands_after (phase_now home.first earlier) home.fs (tables_now home earlier) x.server (own_now home.first earlier x.server)
    (λ n. frozen_entries earlier n) (entries_now earlier) x.step it.0.answered
    (installs (phase_now home.first earlier) (begins_now earlier) (λ n. move_now earlier n) (λ s. own_now home.first earlier s) (tables_now home earlier) home.fs
    (passes_now earlier x.server) x.server x.step (facts_of home earlier it.1) it.0.answered it.0.delivered)
    (freeze_of home earlier it.1))
