-- What a step leaves of a move.
use Rattle.std.proofs.Common.{◌≡◌, ◌≢◌, ◌<◌, ℕ, Bool, true, false, cond, Some, refl, sym, ap, ◌∙◌, eqb-true}
use Rattle.std.specs.Prelude.{◌==◌}
use Rattle.nm_rules.specs.Seen.{Seen}
use Rattle.nm_slot.specs.declared.answers.Abandon.TheVariants as abandon
use Rattle.nm_slot.specs.declared.answers.Accept.TheVariants as accept
use Rattle.nm_slot.specs.declared.answers.Begin.TheVariants as begin
use Rattle.nm_slot.specs.declared.answers.Install.TheVariants as install
use Rattle.nm_slot.specs.Answers.{begin_answer, abandon_answer}
use Rattle.nm_slot.specs.History.{IsAnswered}
use Rattle.nm_slot.specs.Moves.{Move, no_move, of_move, move_after, is_handed}
use Rattle.nm_slot.specs.Moves.Fate.{NotBegun, UnderWay, GivenUp, Handed, Done}
use Rattle.nm_slot.specs.Phases.{Phase, column}
use Rattle.nm_slot.specs.SlotNow.{Own, SlotStep}
use Rattle.nm_slot.specs.SlotNow.HandedOver.{Committed}
use Rattle.nm_slot.specs.SlotNow.SlotStep.{Beginning, Imaging, Committing, Abandoning, Accepting, Installing}
use Rattle.nm_slot.proofs.Facts.{Facts, new_move}
use Rattle.nm_slot.proofs.Agreed.{began}
use Rattle.nm_short.proofs.StepWords.{slot_by, move_next, by_number}
use Rattle.nm_short.proofs.AnswersSay.{begun_new, given_up_at}

no_move_there : (its k : ℕ) (move : ℕ → Move) (new : Move) → move its ≡ no_move → is_handed (move k).fate ≡ true
    → is_handed (of_move k its new (move k)).fate ≡ true
no_move_there its k move new none before = by_test (its == k) refl
  where
    by_test : (b : Bool) → (its == k) ≡ b → is_handed (cond b new (move k)).fate ≡ true
    by_test true e = let handed : is_handed NotBegun ≡ true = ap (λ (m : Move). is_handed m.fate) (sym none) ∙ ap (λ j. is_handed (move j).fate) (eqb-true its k e) ∙ before in cc
    by_test false e = before

not_given_up : (its k : ℕ) (move : ℕ → Move) (new : Move) → (move its).fate ≡ UnderWay → is_handed (move k).fate ≡ true
    → is_handed (of_move k its new (move k)).fate ≡ true
not_given_up its k move new going before = by_test (its == k) refl
  where
    by_test : (b : Bool) → (its == k) ≡ b → is_handed (cond b new (move k)).fate ≡ true
    by_test true e = let handed : is_handed UnderWay ≡ true = ap is_handed (sym going) ∙ ap (λ j. is_handed (move j).fate) (eqb-true its k e) ∙ before in cc
    by_test false e = before

-- what was handed over stays so
pub handed_kept : (fs : ℕ) (p : Phase) (begins : ℕ) (move : ℕ → Move) (own : ℕ → Own) (t : Seen) (s : ℕ) (step : SlotStep)
    → IsAnswered (slot_by fs p t own s) step → Facts p begins move own t → (k : ℕ) → is_handed (move k).fate ≡ true
    → is_handed (move_next step s move k).fate ≡ true
unfolding begin_answer abandon_answer
handed_kept fs p begins move own t s (Beginning here dest (begin.Begun its)) a facts k before =
    no_move_there its k move (new_move s dest) (begun_new p begins move own t s here dest its a facts) before
handed_kept fs p begins move own t s (Imaging (Some offer)) a facts k before =
    by_number offer.number k (λ m. is_handed m.fate) true (record (move k) { offer = Some offer }) (move k) before before
handed_kept fs p begins move own t s (Accepting offer leases accept.Held) a facts k before =
    by_number offer.number k (λ m. is_handed m.fate) true (record (move k) { prepared = true }) (move k) before before
handed_kept fs p begins move own t s (Committing its (Committed parties)) a facts k before =
    by_number its k (λ m. is_handed m.fate) true (record (move k) { fate = Handed }) (move k) refl before
handed_kept fs p begins move own t s (Abandoning ends (abandon.Back its)) a facts k before =
    not_given_up its k move (record (move k) { fate = GivenUp }) (given_up_at p begins move own t s its (column p t s) refl a.0 facts) before
handed_kept fs p begins move own t s (Installing its ends install.Now) a facts k before =
    by_number its k (λ m. is_handed m.fate) true (record (move k) { fate = Done }) (move k) refl before
handed_kept fs p begins move own t s _ a facts k before = before

-- where a move goes stays so, once it began
dest_there : (its k : ℕ) (move : ℕ → Move) (new : Move) → move its ≡ no_move → move k ≢ no_move
    → (of_move k its new (move k)).dest ≡ (move k).dest
dest_there its k move new none began = by_test (its == k) refl
  where
    by_test : (b : Bool) → (its == k) ≡ b → (cond b new (move k)).dest ≡ (move k).dest
    by_test true e = absurd (began (ap move (sym (eqb-true its k e)) ∙ none))
    by_test false e = refl

pub dest_kept : (fs : ℕ) (p : Phase) (begins : ℕ) (move : ℕ → Move) (own : ℕ → Own) (t : Seen) (s : ℕ) (step : SlotStep)
    → IsAnswered (slot_by fs p t own s) step → Facts p begins move own t → (k : ℕ) → move k ≢ no_move
    → (move_next step s move k).dest ≡ (move k).dest
unfolding begin_answer
dest_kept fs p begins move own t s (Beginning here dest (begin.Begun its)) a facts k began =
    dest_there its k move (new_move s dest) (begun_new p begins move own t s here dest its a facts) began
dest_kept fs p begins move own t s (Imaging (Some offer)) a facts k began =
    by_number offer.number k (λ m. m.dest) (move k).dest (record (move k) { offer = Some offer }) (move k) refl refl
dest_kept fs p begins move own t s (Accepting offer leases accept.Held) a facts k began =
    by_number offer.number k (λ m. m.dest) (move k).dest (record (move k) { prepared = true }) (move k) refl refl
dest_kept fs p begins move own t s (Committing its (Committed parties)) a facts k began =
    by_number its k (λ m. m.dest) (move k).dest (record (move k) { fate = Handed }) (move k) refl refl
dest_kept fs p begins move own t s (Abandoning ends (abandon.Back its)) a facts k began =
    by_number its k (λ m. m.dest) (move k).dest (record (move k) { fate = GivenUp }) (move k) refl refl
dest_kept fs p begins move own t s (Installing its ends install.Now) a facts k began =
    by_number its k (λ m. m.dest) (move k).dest (record (move k) { fate = Done }) (move k) refl refl
dest_kept fs p begins move own t s _ a facts k began = refl

-- where a move goes is within bounds, where each that begins is
abbrev pub GoesBelow : ℕ → SlotStep → Type 0
GoesBelow n (Beginning here dest (begin.Begun its)) = dest < n
GoesBelow n _ = Unit {0}

within : (n its k : ℕ) (new old : Move) → new.dest < n → old.dest < n → (of_move k its new old).dest < n
within n its k new old e o = by_test (its == k)
  where
    by_test : (b : Bool) → (cond b new old).dest < n
    by_test true = e
    by_test false = o

pub dest_within : (n s k : ℕ) (step : SlotStep) (move : Move) → GoesBelow n step → move.dest < n → (move_after k s step move).dest < n
dest_within n s k (Beginning here dest (begin.Begun its)) move new old = within n its k (new_move s dest) move new old
dest_within n s k (Imaging (Some offer)) move new old = within n offer.number k (record move { offer = Some offer }) move old old
dest_within n s k (Accepting offer leases accept.Held) move new old = within n offer.number k (record move { prepared = true }) move old old
dest_within n s k (Committing its (Committed parties)) move new old = within n its k (record move { fate = Handed }) move old old
dest_within n s k (Abandoning ends (abandon.Back its)) move new old = within n its k (record move { fate = GivenUp }) move old old
dest_within n s k (Installing its ends install.Now) move new old = within n its k (record move { fate = Done }) move old old
dest_within n s k _ move new old = old
