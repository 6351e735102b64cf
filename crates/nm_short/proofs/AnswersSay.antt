-- What an answer says of the phase and of moves.
use Rattle.std.proofs.Common.{◌≡◌, ◌≤◌, ℕ, Bool, true, false, cond, Option, Some, None, refl, sym, subst, ap, ◌∙◌, arith, eqb-true}
use Rattle.std.specs.Prelude.{◌+◌, ◌==◌, nat_le}
use Rattle.std.proofs.lemmas.Bool.{le-leb}
use Rattle.nm_rules.specs.Holders.{holders}
use Rattle.nm_rules.specs.Seen.{Seen}
use Rattle.nm_slot.specs.declared.answers.Abandon.TheVariants as abandon
use Rattle.nm_slot.specs.declared.answers.Accept.TheVariants as accept
use Rattle.nm_slot.specs.declared.answers.Begin.TheVariants as begin
use Rattle.nm_slot.specs.Answers.{begun, offered, committed, committed_away, is_left_by, abandoned, abandoned_away, accepted, is_offer_of, is_at_end}
use Rattle.nm_slot.specs.Moves.{Move, no_move}
use Rattle.nm_slot.specs.Moves.Fate.{UnderWay}
use Rattle.nm_slot.specs.Phases.{Phase, source_of, column}
use Rattle.nm_slot.specs.Phases.Phase.{At, Closing, Frozen}
use Rattle.nm_slot.specs.SlotNow.{Stage, Offer, Left, Own}
use Rattle.nm_slot.specs.SlotNow.Doing.{Serves, Closes, Froze}
use Rattle.nm_slot.specs.SlotNow.Stage.{Away, Here}
use Rattle.nm_slot.specs.SlotNow.HandedOver.{Committed, Again, Dead}
use Rattle.nm_slot.proofs.Facts.{Facts}
use Rattle.nm_slot.proofs.Inversions.{is_source}
use Rattle.nm_short.proofs.StepWords.{BeganThere}

pub begun_at : (p : Phase) (t : Seen) (s here dest n : ℕ) (own : Own) (stage : Stage) → column p t s ≡ stage
    → begin.Begun n ≡ begun here dest stage own → p ≡ At s
begun_at p t s here dest n own Away e a = cc
begun_at p t s here dest n own (Here (Closes to its) state) e a = cc
begun_at p t s here dest n own (Here (Froze to its) state) e a = cc
begun_at p t s here dest n own (Here Serves state) e a = (is_source p t s Serves state e).phase

begun_by_test : (n known : ℕ) (same past : Bool) → begin.Begun n ≡ cond same begin.Same (cond past begin.Last (begin.Begun (known + 1))) → n ≡ known + 1
begun_by_test n known true past a = cc
begun_by_test n known false true a = cc
begun_by_test n known false false a = cc

begun_number : (here dest n : ℕ) (own : Own) (stage : Stage) → begin.Begun n ≡ begun here dest stage own → n ≡ own.known + 1
begun_number here dest n own Away a = cc
begun_number here dest n own (Here (Closes to its) state) a = cc
begun_number here dest n own (Here (Froze to its) state) a = cc
begun_number here dest n own (Here Serves state) a = begun_by_test n own.known (here == dest) (is_at_end own) a

-- a move that begins wasn't there before
pub begun_new : (p : Phase) (begins : ℕ) (move : ℕ → Move) (own : ℕ → Own) (t : Seen) (s here dest n : ℕ)
    → begin.Begun n ≡ begun here dest (column p t s) (own s) → Facts p begins move own t → move n ≡ no_move
begun_new p begins move own t s here dest n a facts =
    let at : p ≡ At s = begun_at p t s here dest n (own s) (column p t s) refl a in
    let known : (own s).known ≡ begins = ap (λ q. (own (source_of q)).known) (sym at) ∙ facts.agreed.numbers.holder in
    let next : n ≡ (own s).known + 1 = begun_number here dest n (own s) (column p t s) a in
    facts.agreed.numbers.beyond n (omega arith)

-- the move that is given up was under way
pub given_up_at : (p : Phase) (begins : ℕ) (move : ℕ → Move) (own : ℕ → Own) (t : Seen) (s n : ℕ) (stage : Stage) → column p t s ≡ stage
    → abandon.Back n ≡ abandoned stage (own s) → Facts p begins move own t → (move n).fate ≡ UnderWay
given_up_at p begins move own t s n Away e a facts = away (own s).held (own s).left a
  where
    away : (held : Option Offer) (left : Option Left) → abandon.Back n ≡ abandoned_away held left → (move n).fate ≡ UnderWay
    away (Some offer) left b = cc
    away None (Some left) b = cc
    away None None b = cc
given_up_at p begins move own t s n (Here Serves state) e a facts = cc
given_up_at p begins move own t s n (Here (Closes dest number) state) e a facts =
    let it = is_source p t s (Closes dest number) state e in
    let here : Facts (Closing s dest number) begins move own t = subst (λ q. Facts q begins move own t) it.phase facts in
    let same : n ≡ number = cc in
    ap (λ k. (move k).fate) same ∙ ap (λ (m : Move). m.fate) here.offers.fresh
given_up_at p begins move own t s n (Here (Froze dest number) state) e a facts =
    let it = is_source p t s (Froze dest number) state e in
    let here : Facts (Frozen s dest number) begins move own t = subst (λ q. Facts q begins move own t) it.phase facts in
    let same : n ≡ number = cc in
    ap (λ k. (move k).fate) same ∙ here.offers.going

-- an offer is made where a move is frozen
pub offered_at : (p : Phase) (move : ℕ → Move) (t : Seen) (s : ℕ) (offer : Offer) (own : Own) (stage : Stage) → column p t s ≡ stage
    → Some offer ≡ offered stage own → BeganThere p move → (move offer.number).source ≡ s
offered_at p move t s offer own Away e a there = cc
offered_at p move t s offer own (Here Serves state) e a there = cc
offered_at p move t s offer own (Here (Closes dest number) state) e a there = cc
offered_at p move t s offer own (Here (Froze dest number) state) e a there =
    let it = is_source p t s (Froze dest number) state e in
    let its : offer.number ≡ number = cc in
    ap (λ k. (move k).source) its ∙ subst (λ q. BeganThere q move) it.phase there

-- an answer again is of a commit that was
again_left : (n : ℕ) (own : Own) (left : Option Left) (b : Bool) → is_left_by n left ≡ b → Again ≡ cond b Again (Dead own.known)
    → (its : Left) × (left ≡ Some its) × (its.number ≡ n)
again_left n own None true e a = cc
again_left n own (Some its) true e a = (its, refl, eqb-true its.number n e)
again_left n own left false e a = cc

pub again_at : (n : ℕ) (own : Own) (stage : Stage) → Again ≡ committed n stage own → (its : Left) × (own.left ≡ Some its) × (its.number ≡ n)
again_at n own (Here Serves state) a = cc
again_at n own (Here (Closes dest number) state) a = cc
again_at n own (Here (Froze dest number) state) a = by_test (number == n) a
  where
    by_test : (b : Bool) → Again ≡ cond b (Committed (holders state)) (Dead own.known) → (its : Left) × (own.left ≡ Some its) × (its.number ≡ n)
    by_test true b = cc
    by_test false b = cc
again_at n own Away a = away own.held a
  where
    away : (held : Option Offer) → Again ≡ committed_away n held own → (its : Left) × (own.left ≡ Some its) × (its.number ≡ n)
    away (Some offer) b = cc
    away None b = again_left n own own.left (is_left_by n own.left) refl b

-- no offer is held by who knows its number and holds none
pub never_held : (n : ℕ) (own : Own) (stage : Stage) → own.held ≡ None → n ≤ own.known → accept.Held ≡ accepted n stage own → ⊥
never_held n own stage free known a =
    let none : is_offer_of n own.held ≡ false = ap (is_offer_of n) free in
    let old : nat_le n own.known ≡ true = le-leb n own.known known in
    let b : accept.Held ≡ accept.Old own.known = rw (none, old) at a in
    cc
