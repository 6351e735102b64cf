-- What was fed since a mark is taken back.
use Rattle.std.proofs.Common.{◌≡◌, ℕ, ◌+◌, ◌-◌, ◌*◌, ◌≤◌, ◌==◌, nat_lt, Bool, true, false, List, [], ◌∷◌, length, take, cond, refl, ap, ◌∙◌, arith}
use Rattle.std.proofs.lemmas.Grind.{common_steps}
use Rattle.std.proofs.Math.Seq.{take-length as take-all}
use Rattle.std.proofs.lemmas.Bool.Decides.{nat_tests}
use Rattle.nm_rpc.specs.declared.phase.Phase.{Phase}
use Rattle.nm_rpc.specs.declared.phase.Phase.TheVariants.{Header, Body, TooLong}
use Rattle.nm_rpc.specs.Stream.{announced, is_last}
use Rattle.nm_rpc.specs.Feeding.{RecordsNow, ended, settled, opened, grown, taken_in, taken, fed}
use Rattle.nm_rpc.specs.Kept.{open_at, back_to}

-- The mark lies in what is held, and what is taken back to it is `before`.
record Covers (count bytes : ℕ) (before now : RecordsNow) : Type 0 where
  limit : now.limit ≡ before.limit
  few : count ≤ length now.waiting
  open_has : count ≡ length now.waiting → bytes ≤ length now.partial
  waiting : take count now.waiting ≡ before.waiting
  partial : take bytes (open_at now count) ≡ before.partial

covers_phase : (count bytes : ℕ) (before now : RecordsNow) (p : Phase) → Covers count bytes before now → Covers count bytes before (record now { phase = p })
covers_phase count bytes before now p h = record { limit = h.limit; few = h.few; open_has = h.open_has; waiting = h.waiting; partial = h.partial }

open_grown : (now : RecordsNow) (count bytes : ℕ) (xs : List ℕ) → (count ≡ length now.waiting → bytes ≤ length now.partial) → count ≤ length now.waiting
    → take bytes (open_at (grown now xs) count) ≡ take bytes (open_at now count)
open_grown now count bytes xs has few = grind (arith, common_steps, nat_tests)

open_ended : (now : RecordsNow) (count : ℕ) → count ≤ length now.waiting → open_at (ended now true) count ≡ open_at now count
open_ended now count few = grind (arith, common_steps, nat_tests)

covers_grown : (count bytes : ℕ) (before now : RecordsNow) (xs : List ℕ) → Covers count bytes before now → Covers count bytes before (grown now xs)
covers_grown count bytes before now xs h = record {
  limit = h.limit;
  few = h.few;
  open_has = λ e. let old : bytes ≤ length now.partial = h.open_has e in grind (arith, common_steps);
  waiting = h.waiting;
  partial = open_grown now count bytes xs h.open_has h.few ∙ h.partial;
}

covers_ended : (count bytes : ℕ) (before now : RecordsNow) (last : Bool) → Covers count bytes before now → Covers count bytes before (ended now last)
covers_ended count bytes before now false h = covers_phase count bytes before now (Header 0 0) h
covers_ended count bytes before now true h = record {
  limit = h.limit;
  few = let few : count ≤ length now.waiting = h.few in grind (arith, common_steps);
  open_has = λ e. let few : count ≤ length now.waiting = h.few in grind (arith, common_steps);
  waiting = let few : count ≤ length now.waiting = h.few in let same : take count now.waiting ≡ before.waiting = h.waiting in grind (arith, common_steps);
  partial = ap (λ (p : List ℕ). take bytes p) (open_ended now count h.few) ∙ h.partial;
}

covers_if : (b : Bool) (count bytes : ℕ) (before x y : RecordsNow) → Covers count bytes before x → Covers count bytes before y → Covers count bytes before (cond b x y)
covers_if true count bytes before x y at_x at_y = at_x
covers_if false count bytes before x y at_x at_y = at_y

covers_settled : (count bytes : ℕ) (before now : RecordsNow) (left : ℕ) (last : Bool) → Covers count bytes before now → Covers count bytes before (settled now left last)
unfolding settled
covers_settled count bytes before now left last h =
    covers_if (left == 0) count bytes before (ended now last) (record now { phase = Body left last }) (covers_ended count bytes before now last h) (covers_phase count bytes before now (Body left last) h)

covers_opened : (count bytes : ℕ) (before now : RecordsNow) (number : ℕ) → Covers count bytes before now → Covers count bytes before (opened now number)
unfolding opened
covers_opened count bytes before now number h =
    covers_if (nat_lt now.limit (length now.partial + announced number)) count bytes before (record now { phase = TooLong (length now.partial + announced number) }) (settled now (announced number) (is_last number))
    (covers_phase count bytes before now (TooLong (length now.partial + announced number)) h)
    (covers_settled count bytes before now (announced number) (is_last number) h)

covers_taken_in : (count bytes : ℕ) (before now : RecordsNow) (b : ℕ) (p : Phase) → Covers count bytes before now → Covers count bytes before (taken_in now b p)
covers_taken_in count bytes before now b (Header number seen) h =
    covers_if (seen == 3) count bytes before (opened now (256 * number + b)) (record now { phase = Header (256 * number + b) (seen + 1) })
    (covers_opened count bytes before now (256 * number + b) h)
    (covers_phase count bytes before now (Header (256 * number + b) (seen + 1)) h)
covers_taken_in count bytes before now b (Body left last) h =
    covers_settled count bytes before (grown now (b ∷ [])) (left - 1) last (covers_grown count bytes before now (b ∷ []) h)
covers_taken_in count bytes before now b (TooLong got) h = h

covers_fed : (count bytes : ℕ) (before now : RecordsNow) (xs : List ℕ) → Covers count bytes before now → Covers count bytes before (fed now xs)
unfolding fed taken
covers_fed count bytes before now [] h = h
covers_fed count bytes before now (b ∷ xs) h = covers_fed count bytes before (taken now b) xs (covers_taken_in count bytes before now b now.phase h)

open_end : (now : RecordsNow) → open_at now (length now.waiting) ≡ now.partial
open_end now = grind (arith, nat_tests)

covers_itself : (now : RecordsNow) → Covers (length now.waiting) (length now.partial) now now
covers_itself now = record {
  limit = refl;
  few = omega arith;
  open_has = λ _. omega arith;
  waiting = take-all now.waiting;
  partial = ap (λ (p : List ℕ). take (length now.partial) p) (open_end now) ∙ take-all now.partial;
}

-- Whatever was fed, what is taken back to where it began is what was held then.
pub back_fed : (now : RecordsNow) (count bytes : ℕ) (xs : List ℕ) → count ≡ length now.waiting → bytes ≡ length now.partial → back_to count bytes now.phase (fed now xs) ≡ now
back_fed now count bytes xs count_is bytes_is =
    let h : Covers (length now.waiting) (length now.partial) now (fed now xs) = covers_fed (length now.waiting) (length now.partial) now now xs (covers_itself now) in
    rw (count_is, bytes_is) (rw (h.limit, h.waiting, h.partial) refl)

-- Nothing that is fed changes the limit.
pub limit_fed : (now : RecordsNow) (xs : List ℕ) → (fed now xs).limit ≡ now.limit
limit_fed now xs = (covers_fed (length now.waiting) (length now.partial) now now xs (covers_itself now)).limit
