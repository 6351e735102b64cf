-- The facts hold of every history.
use Rattle.std.proofs.Common.{◌≡◌, ℕ, Bool, true, false, cond, List, [], ◌∷◌, refl, sym, subst, Some, arith}
use Rattle.std.specs.Prelude.{◌+◌, ◌-◌}
use Rattle.nm_types.specs.Parties.{Party}
use Rattle.nm_rules.specs.Past.{Past}
use Rattle.nm_rules.specs.Seen.{Seen, seen}
use Rattle.nm_slot.specs.declared.answers.Abandon.TheVariants as abandon
use Rattle.nm_slot.specs.declared.answers.Accept.TheVariants as accept
use Rattle.nm_slot.specs.declared.answers.Answer.TheVariants as answer
use Rattle.nm_slot.specs.declared.answers.Begin.TheVariants as begin
use Rattle.nm_slot.specs.declared.answers.Enter.TheVariants as enter
use Rattle.nm_slot.specs.declared.answers.Freeze.TheVariants as freeze
use Rattle.nm_slot.specs.declared.answers.Install.TheVariants as install
use Rattle.nm_slot.specs.declared.answers.Swept.TheVariants as sweep
use Rattle.nm_slot.specs.Answers.{is_past, swept_at, swept_by, apply_answer, sweep_answer, begin_answer, freeze_answer, image_answer, commit_answer, abandon_answer, accept_answer, install_answer, withdraw_answer}
use Rattle.nm_slot.specs.Changes.{own_after, own_swept}
use Rattle.nm_slot.specs.Eras.{noted_lease, marked}
use Rattle.nm_slot.specs.History.{Home, dest_from, own_now, tables_now, entries_now, with_ends, with_entry, slot_now, passes_now, IsAnswered, IsDelivered, IsHistory}
use Rattle.nm_slot.specs.Moves.{Move, no_move, move_after, move_now}
use Rattle.nm_slot.specs.Phases.{Phase, Moment, phase_now, column}
use Rattle.nm_slot.specs.Phases.Phase.{At}
use Rattle.nm_slot.specs.SlotNow.{Stage, Own, SlotStep, nothing_yet}
use Rattle.nm_slot.specs.SlotNow.HandedOver.{Committed}
use Rattle.nm_slot.specs.SlotNow.SlotStep.{Entering, Leaving, Applying, Sweeping, Beginning, Freezing, Imaging, Committing, Abandoning, Accepting, Installing, Withdrawing}
use Rattle.nm_slot.proofs.Facts.{Facts}
use Rattle.nm_slot.proofs.Inversions.{same_phase, changes_phase}
use Rattle.nm_slot.proofs.Kept.{next, known_phase, begun_kept, frozen_kept, imaged_kept, committed_kept, back_kept, called_kept, swept_kept}
use Rattle.nm_slot.proofs.KeptHeld.{held_kept, now_kept}
use Rattle.nm_slot.proofs.StepsSettled.{withdrawn}
use Rattle.nm_slot.proofs.StepsSource.{IsSame, quiet}
use Rattle.nm_slot.proofs.Updates.{put, put_same}

-- how many moves began
abbrev pub begins_after : ℕ → SlotStep → ℕ
begins_after begins (Beginning here dest (begin.Begun number)) = begins + 1
begins_after begins _ = begins

pub begins_now : List Moment → ℕ
begins_now [] = 0
begins_now (x ∷ earlier) = begins_after (begins_now earlier) x.step

pub starts : (first : ℕ) (t : Seen) → Facts (At first) 0 (λ n. no_move) (λ s. nothing_yet) t
starts first t = record {
  agreed = record {
    numbers = record { known = λ s. omega arith; holder = refl; beyond = λ n past. refl; offered = λ n offer e. cc };
    held = record { held = λ s offer e. cc };
    settled = record { settled = λ n ne. refl; remembered = λ n e. cc };
  };
  offers = refl;
}

-- a step that doesn't change the phase
in_phase : {p : Phase} {begins : ℕ} {move : ℕ → Move} {own : ℕ → Own} {t : Seen} (facts : Facts p begins move own t) (s : ℕ) (step : SlotStep) → changes_phase step ≡ false
    → Facts (next p s step) begins move own t
in_phase {p = p} facts s step e = known_phase (sym (same_phase p s step e)) facts

-- a step that leaves its server's slot as it was
slot_same : {p : Phase} {begins : ℕ} {move : ℕ → Move} {own : ℕ → Own} {t : Seen} (facts : Facts p begins move own t) (s : ℕ) → Facts p begins move (put s own own) t
slot_same {p = p} {begins = begins} {move = move} {own = own} {t = t} facts s = subst (λ o. Facts p begins move o t) (sym (put_same s own)) facts

-- an era has ended where it isn't past
pub is_swept_now : (past : Bool) (party : Party) (stage : Stage) (own : Own) → sweep.Ended ≡ swept_by past party stage own → sweep.Ended ≡ swept_at party stage own
is_swept_now true party stage own a = cc
is_swept_now false party stage own a = a

-- the end of an era changes nothing of a move
module _ (party : Party) (era : ℕ) (own : Own) where
  nothing_same : IsSame own (own_swept sweep.Nothing party era [] own)
  nothing_same = by_test (is_past party era own)
    where
      by_test : (b : Bool) → IsSame own (cond b own (record own { eras = marked party era own.eras }))
      by_test true = record { held = refl; known = refl; installed = refl }
      by_test false = record { held = refl; known = refl; installed = refl }

  nothing_epoch : (own_swept sweep.Nothing party era [] own).epoch ≡ own.epoch
  nothing_epoch = by_test (is_past party era own)
    where
      by_test : (b : Bool) → (cond b own (record own { eras = marked party era own.eras })).epoch ≡ own.epoch
      by_test true = refl
      by_test false = refl

  nothing_count : (own_swept sweep.Nothing party era [] own).count ≡ own.count
  nothing_count = by_test (is_past party era own)
    where
      by_test : (b : Bool) → (cond b own (record own { eras = marked party era own.eras })).count ≡ own.count
      by_test true = refl
      by_test false = refl

module _ {p : Phase} {begins : ℕ} {move : ℕ → Move} {own : ℕ → Own} (fs : ℕ) (grants : Bool) (entries : Past)
    (facts : Facts p begins move own (seen fs grants entries)) (passes : List ℕ) (s : ℕ) where
  kept : (step : SlotStep) → IsAnswered (record { fs = fs; stage = column p (seen fs grants entries) s; own = own s }) step → IsDelivered move passes s step
      → Facts (next p s step) (begins_after begins step) (λ n. move_after n s step (move n))
      (put s (λ r. own_after step (dest_from p r) (own r)) own) (seen fs grants (with_entry step entries))
  unfolding apply_answer sweep_answer begin_answer freeze_answer image_answer commit_answer abandon_answer accept_answer install_answer withdraw_answer
  kept (Entering (enter.Entered pass)) a d =
      in_phase (quiet facts s (λ r. record (own r) { out = (own r).out + 1 }) (record { held = refl; known = refl; installed = refl }) refl refl)
      s (Entering (enter.Entered pass)) refl
  kept (Leaving epoch) a d =
      in_phase (quiet facts s (λ r. record (own r) { out = (own r).out - 1 }) (record { held = refl; known = refl; installed = refl }) refl refl) s (Leaving epoch) refl
  kept (Applying epoch lease call verdict ends (answer.Done place reply)) a d =
      in_phase (called_kept facts s (seen fs grants (with_entry (Applying epoch lease call verdict ends (answer.Done place reply)) entries))
      (λ r. record (own r) { count = place; eras = noted_lease lease (own r).eras }) (record { held = refl; known = refl; installed = refl })
      epoch lease call verdict place reply (column p (seen fs grants entries) s) refl a.0)
      s (Applying epoch lease call verdict ends (answer.Done place reply)) refl
  kept (Sweeping party era ends sweep.Ended) a d =
      in_phase (swept_kept facts s (seen fs grants (with_ends ends entries))
      (λ r. own_swept sweep.Ended party era ends (own r)) (record { held = refl; known = refl; installed = refl })
      party (column p (seen fs grants entries) s) refl (is_swept_now (is_past party era (own s)) party (column p (seen fs grants entries) s) (own s) a.0))
      s (Sweeping party era ends sweep.Ended) refl
  kept (Sweeping party era ends sweep.PutOff) a d =
      in_phase (quiet facts s (λ r. own_swept sweep.PutOff party era ends (own r)) (record { held = refl; known = refl; installed = refl }) refl refl)
      s (Sweeping party era ends sweep.PutOff) refl
  kept (Sweeping party era ends sweep.Nothing) a d =
      in_phase (quiet facts s (λ r. own_swept sweep.Nothing party era ends (own r)) (nothing_same party era (own s)) (nothing_epoch party era (own s)) (nothing_count party era (own s)))
      s (Sweeping party era ends sweep.Nothing) refl
  kept (Beginning here dest (begin.Begun n)) a d = begun_kept facts s here dest n (column p (seen fs grants entries) s) d refl a
  kept (Freezing (freeze.Frozen n)) a d = slot_same (frozen_kept facts s n (column p (seen fs grants entries) s) refl a) s
  kept (Imaging (Some offer)) a d = slot_same (imaged_kept facts s offer (column p (seen fs grants entries) s) refl a) s
  kept (Committing n (Committed parties)) a d =
      committed_kept facts s n parties (λ r. Some (record { dest = dest_from p r; number = n })) (column p (seen fs grants entries) s) refl a d.0
  kept (Abandoning ends (abandon.Back n)) a d =
      back_kept facts s (seen fs grants (with_ends ends entries)) ends n (column p (seen fs grants entries) s) refl a.0
  kept (Accepting offer leases accept.Held) a d =
      in_phase (held_kept facts s offer leases d.0 d.1 (column p (seen fs grants entries) s) a) s (Accepting offer leases accept.Held) refl
  kept (Installing n ends install.Now) a d = now_kept facts s n d.1 (seen fs grants (with_ends ends entries)) ends d.0 a.0
  kept (Withdrawing n dropped) a d = in_phase (withdrawn facts s n dropped d.0 a) s (Withdrawing n dropped) refl
  kept step a d = slot_same (in_phase facts s step refl) s

-- They hold after any steps that came as they may.
pub facts_of : (home : Home) (h : List Moment) → IsHistory home h
    → Facts (phase_now home.first h) (begins_now h) (λ n. move_now h n) (λ s. own_now home.first h s) (tables_now home h)
unfolding phase_now begins_now move_now own_now entries_now slot_now
facts_of home [] it = starts home.first (tables_now home [])
facts_of home (x ∷ earlier) it =
    kept home.fs home.grants (entries_now earlier) (facts_of home earlier it.1) (passes_now earlier x.server) x.server x.step it.0.answered it.0.delivered
