-- Each answered step keeps the facts.
use Rattle.std.proofs.Common.{◌≡◌, ◌≢◌, ℕ, Bool, true, false, cond, List, refl, sym, subst, ap, ◌∙◌, Option, Some, None, eqb-true}
use Rattle.std.specs.Prelude.{◌+◌, ◌==◌, length}
use Rattle.std.proofs.lemmas.Bool.{eqb-false}
use Rattle.nm_rules.specs.Seen.{Seen}
use Rattle.nm_types.specs.declared.leases.LeasePass.{LeasePass}
use Rattle.nm_rules.specs.Holders.{holders, has_row}
use Rattle.nm_types.specs.Parties.{Party}
use Rattle.nm_types.specs.declared.calls.Call.{Call}
use Rattle.nm_types.specs.declared.calls.Reply.{Reply}
use Rattle.nm_types.specs.declared.calls.Verdict.{Verdict}
use Rattle.nm_slot.specs.declared.answers.Abandon.TheVariants as abandon
use Rattle.nm_slot.specs.declared.answers.Answer.TheVariants as answer
use Rattle.nm_slot.specs.declared.answers.Begin.TheVariants as begin
use Rattle.nm_slot.specs.declared.answers.Freeze.TheVariants as freeze
use Rattle.nm_slot.specs.declared.answers.Swept.TheVariants as sweep
use Rattle.nm_slot.specs.Answers.{applied, begun as begin_by, is_at_end, frozen as freeze_by, offered, committed as commit_by, committed_away, is_left_by, abandoned as abandon_by, abandoned_away, put_off_if, swept_held, swept_at}
use Rattle.nm_slot.specs.Moves.{Move}
use Rattle.nm_slot.specs.Phases.{Phase, source_of, phase_after, after_at_source, column}
use Rattle.nm_slot.specs.Phases.Phase.{At, Closing, Frozen, Passing}
use Rattle.nm_slot.specs.SlotNow.{Stage, Offer, Left, Own, SlotStep}
use Rattle.nm_slot.specs.SlotNow.Doing.{Serves, Closes, Froze}
use Rattle.nm_slot.specs.SlotNow.Stage.{Away, Here}
use Rattle.nm_slot.specs.SlotNow.HandedOver.{Committed, Again, Dead}
use Rattle.nm_slot.specs.SlotNow.SlotStep.{Beginning, Freezing, Imaging, Committing, Abandoning}
use Rattle.nm_slot.proofs.Facts.{Facts, new_move, offer_now}
use Rattle.nm_slot.proofs.Inversions.{is_source, at_source}
use Rattle.nm_slot.proofs.StepsHeld.{prepared, some_same}
use Rattle.nm_slot.proofs.StepsSource.{IsSame, quiet, called_at, called_closing, begun, own_begun, frozen, imaged, offering, committed, handed_move, given_up, given_up_move}
use Rattle.nm_slot.proofs.Updates.{put}

-- the phase after a step at a server
abbrev pub next : Phase → ℕ → SlotStep → Phase
next p s step = phase_after p (record { server = s; step = step })

-- the facts where the phase is known
pub known_phase : {p q : Phase} {begins : ℕ} {move : ℕ → Move} {own : ℕ → Own} {t : Seen} → p ≡ q → Facts p begins move own t → Facts q begins move own t
known_phase {begins = begins} {move = move} {own = own} {t = t} e facts = subst (λ r. Facts r begins move own t) e facts

-- what a source makes of the phase
from_source : {p q : Phase} {begins : ℕ} {move : ℕ → Move} {own : ℕ → Own} {t : Seen} (s : ℕ) (step : SlotStep) → p ≡ q → s ≡ source_of q
    → Facts (after_at_source q step) begins move own t → Facts (next p s step) begins move own t
from_source {q = q} s step e at facts = known_phase (sym (ap (λ r. next r s step) e ∙ at_source q s step at)) facts

-- ---- what the answers say

is_begun : (s dest n begins : ℕ) (own : Own) → own.known ≡ begins → (same past : Bool) → (s == dest) ≡ same
    → begin.Begun n ≡ cond same begin.Same (cond past begin.Last (begin.Begun (own.known + 1))) → (s ≢ dest) × (n ≡ begins + 1)
is_begun s dest n begins own latest true past e a = cc
is_begun s dest n begins own latest false true e a = cc
is_begun s dest n begins own latest false false e a = (eqb-false s dest e, cc)

pub froze_number : (number n : ℕ) (own : Own) (b : Bool) → freeze.Frozen n ≡ cond b (freeze.Frozen number) (freeze.Waiting own.out) → n ≡ number
froze_number number n own true a = cc
froze_number number n own false a = cc

committed_number : (its n : ℕ) (parties all : List Party) (known : ℕ) (b : Bool) → (its == n) ≡ b → Committed parties ≡ cond b (Committed all) (Dead known) → its ≡ n
committed_number its n parties all known true e a = eqb-true its n e
committed_number its n parties all known false e a = cc

not_again : (b : Bool) (parties : List Party) (known : ℕ) → Committed parties ≡ cond b Again (Dead known) → ⊥
not_again true parties known a = cc
not_again false parties known a = cc

pub not_away : (n : ℕ) (parties : List Party) (own : Own) (held : Option Offer) → Committed parties ≡ committed_away n held own → ⊥
not_away n parties own None a = not_again (is_left_by n own.left) parties own.known a
not_away n parties own (Some offer) a = cc

pub not_back : (n : ℕ) (held : Option Offer) (left : Option Left) → abandon.Back n ≡ abandoned_away held left → ⊥
not_back n None None a = cc
not_back n None (Some left) a = cc
not_back n (Some offer) left a = cc

pub not_off : (has : Bool) → sweep.Ended ≡ put_off_if has → ⊥
not_off true a = cc
not_off false a = cc

pub not_ended : (party : Party) (held : Option Offer) → sweep.Ended ≡ swept_held party held → ⊥
not_ended party None a = cc
not_ended party (Some offer) a = not_off (has_row party offer.state) a

-- ---- each step that a source answers

module _ {p : Phase} {begins : ℕ} {move : ℕ → Move} {own : ℕ → Own} {t : Seen} (facts : Facts p begins move own t) (s : ℕ) where
  pub begun_kept : (here dest n : ℕ) (stage : Stage) → here ≡ s → column p t s ≡ stage → begin.Begun n ≡ begin_by here dest stage (own s)
      → Facts (next p s (Beginning here dest (begin.Begun n))) (begins + 1) (put n (λ _. new_move s dest) move) (put s (λ r. own_begun n (own r)) own) t
  begun_kept here dest n Away at e a = cc
  begun_kept here dest n (Here (Closes to its) state) at e a = cc
  begun_kept here dest n (Here (Froze to its) state) at e a = cc
  begun_kept here dest n (Here Serves state) at e a =
      let it = is_source p t s Serves state e in
      let now : Facts (At s) begins move own t = known_phase it.phase facts in
      let new = is_begun here dest n begins (own s) now.agreed.numbers.holder (here == dest) (is_at_end (own s)) refl a in
      from_source s (Beginning here dest (begin.Begun n)) it.phase refl
      (subst (λ k. Facts (Closing s dest k) (begins + 1) (put k (λ _. new_move s dest) move) (put s (λ r. own_begun k (own r)) own) t) (sym new.1)
      (begun now dest (subst (λ r. r ≢ dest) at new.0)))

  pub frozen_kept : (n : ℕ) (stage : Stage) → column p t s ≡ stage → freeze.Frozen n ≡ freeze_by stage (own s)
      → Facts (next p s (Freezing (freeze.Frozen n))) begins move own t
  frozen_kept n Away e a = cc
  frozen_kept n (Here Serves state) e a = cc
  frozen_kept n (Here (Closes dest number) state) e a =
      let it = is_source p t s (Closes dest number) state e in
      let now : Facts (Closing s dest number) begins move own t = known_phase it.phase facts in
      from_source s (Freezing (freeze.Frozen n)) it.phase refl (frozen now)
  frozen_kept n (Here (Froze dest number) state) e a =
      let it = is_source p t s (Froze dest number) state e in
      let now : Facts (Frozen s dest number) begins move own t = known_phase it.phase facts in
      from_source s (Freezing (freeze.Frozen n)) it.phase refl now

  pub imaged_kept : (offer : Offer) (stage : Stage) → column p t s ≡ stage → Some offer ≡ offered stage (own s)
      → Facts (next p s (Imaging (Some offer))) begins (put offer.number (λ k. offering offer (move k)) move) own t
  imaged_kept offer Away e a = cc
  imaged_kept offer (Here Serves state) e a = cc
  imaged_kept offer (Here (Closes dest number) state) e a = cc
  imaged_kept offer (Here (Froze dest number) state) e a =
      let it = is_source p t s (Froze dest number) state e in
      let now : Facts (Frozen s dest number) begins move own t = known_phase it.phase facts in
      let so : offer ≡ offer_now number t (own s) = some_same offer (offer_now number state (own s)) a ∙ ap (λ x. offer_now number x (own s)) it.tables in
      from_source s (Imaging (Some offer)) it.phase refl
      (subst (λ (x : Offer). Facts (Frozen s dest number) begins (put x.number (λ k. offering x (move k)) move) own t) (sym so) (imaged now))

  pub committed_kept : (n : ℕ) (parties : List Party) (gone : ℕ → Option Left) (stage : Stage) → column p t s ≡ stage
      → Committed parties ≡ commit_by n stage (own s) → (move n).prepared ≡ true
      → Facts (next p s (Committing n (Committed parties))) begins (put n (λ k. handed_move (move k)) move) (put s (λ r. record (own r) { left = gone r }) own) t
  committed_kept n parties gone Away e a prepared = absurd (not_away n parties (own s) (own s).held a)
  committed_kept n parties gone (Here Serves state) e a prepared = cc
  committed_kept n parties gone (Here (Closes dest number) state) e a prepared = cc
  committed_kept n parties gone (Here (Froze dest number) state) e a prepared =
      let it = is_source p t s (Froze dest number) state e in
      let now : Facts (Frozen s dest number) begins move own t = known_phase it.phase facts in
      let same : number ≡ n = committed_number number n parties (holders state) (own s).known (number == n) refl a in
      let left : ℕ → Own = λ r. record (own r) { left = gone r } in
      from_source s (Committing n (Committed parties)) it.phase refl
      (subst (λ j. Facts (Passing s dest number) begins (put j (λ k. handed_move (move k)) move) (put s left own) t) same
      (committed (quiet now s left (record { held = refl; known = refl; installed = refl }) refl refl) (ap (λ k. (move k).prepared) same ∙ prepared)))

  pub back_kept : (after : Seen) (ends : List Party) (n : ℕ) (stage : Stage) → column p t s ≡ stage → abandon.Back n ≡ abandon_by stage (own s)
      → Facts (next p s (Abandoning ends (abandon.Back n))) begins (put n (λ k. given_up_move (move k)) move)
      (put s (λ r. record (own r) { count = (own r).count + length ends }) own) after
  back_kept after ends n Away e a = absurd (not_back n (own s).held (own s).left a)
  back_kept after ends n (Here Serves state) e a = cc
  back_kept after ends n (Here (Closes dest number) state) e a =
      let it = is_source p t s (Closes dest number) state e in
      let now : Facts (Closing s dest number) begins move own t = known_phase it.phase facts in
      let same : n ≡ number = cc in
      from_source s (Abandoning ends (abandon.Back n)) it.phase refl
      (called_at (given_up t n (same ∙ now.offers.latest) now.agreed) after s (λ r. record (own r) { count = (own r).count + length ends })
      (record { held = refl; known = refl; installed = refl }))
  back_kept after ends n (Here (Froze dest number) state) e a =
      let it = is_source p t s (Froze dest number) state e in
      let now : Facts (Frozen s dest number) begins move own t = known_phase it.phase facts in
      let same : n ≡ number = cc in
      from_source s (Abandoning ends (abandon.Back n)) it.phase refl
      (called_at (given_up t n (same ∙ now.offers.latest) now.agreed) after s (λ r. record (own r) { count = (own r).count + length ends })
      (record { held = refl; known = refl; installed = refl }))

  pub called_kept : (after : Seen) (new : ℕ → Own) → IsSame (own s) (new s) → (epoch : ℕ) (lease : Option LeasePass) (call : Call) (verdict : Verdict) (place : ℕ) (reply : Reply)
      (stage : Stage) → column p t s ≡ stage → answer.Done place reply ≡ applied epoch lease call verdict stage (own s)
      → Facts p begins move (put s new own) after
  called_kept after new same epoch lease call verdict place reply Away e a = cc
  called_kept after new same epoch lease call verdict place reply (Here (Froze dest number) state) e a = cc
  called_kept after new same epoch lease call verdict place reply (Here Serves state) e a =
      let it = is_source p t s Serves state e in
      let now : Facts (At s) begins move own t = known_phase it.phase facts in
      known_phase (sym it.phase) (called_at now after s new same)
  called_kept after new same epoch lease call verdict place reply (Here (Closes dest number) state) e a =
      let it = is_source p t s (Closes dest number) state e in
      let now : Facts (Closing s dest number) begins move own t = known_phase it.phase facts in
      known_phase (sym it.phase) (called_closing now after s new same)

  pub swept_kept : (after : Seen) (new : ℕ → Own) → IsSame (own s) (new s) → (party : Party) (stage : Stage) → column p t s ≡ stage
      → sweep.Ended ≡ swept_at party stage (own s) → Facts p begins move (put s new own) after
  swept_kept after new same party Away e a = absurd (not_ended party (own s).held a)
  swept_kept after new same party (Here (Froze dest number) state) e a = absurd (not_off (has_row party state) a)
  swept_kept after new same party (Here Serves state) e a =
      let it = is_source p t s Serves state e in
      let now : Facts (At s) begins move own t = known_phase it.phase facts in
      known_phase (sym it.phase) (called_at now after s new same)
  swept_kept after new same party (Here (Closes dest number) state) e a =
      let it = is_source p t s (Closes dest number) state e in
      let now : Facts (Closing s dest number) begins move own t = known_phase it.phase facts in
      known_phase (sym it.phase) (called_closing now after s new same)
