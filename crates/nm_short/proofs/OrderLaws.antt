-- What an operator has done with a file system is the same over its tables as over its steps.
use Rattle.std.proofs.Common.{◌≡◌, ◌<◌, ℕ, [], ◌∷◌, refl, sym, subst, ap, ◌∙◌, arith, List}
use Rattle.nm_script.specs.declared.report.MoveTold.{MoveTold}
use Rattle.nm_script.specs.declared.script.Head.{Head}
use Rattle.nm_slot.specs.declared.answers.Abandon.{Abandon}
use Rattle.nm_slot.specs.declared.answers.Begin.{Begin}
use Rattle.nm_slot.specs.declared.answers.Begin.TheVariants as begin
use Rattle.nm_types.specs.Parties.{Party}
use Rattle.nm_slot.specs.Answers.{begin_answer, abandon_answer, abandon_ends}
use Rattle.nm_slot.specs.SlotNow.{SlotStep}
use Rattle.nm_slot.specs.SlotNow.SlotStep.{Beginning, Abandoning}
use Rattle.nm_short.specs.ShortRun.{FileNow, Went, at_server, did, source, phase_row, move_row, goes_well, ends_with, after_begin, begins, abandon_told, abandons}
use Rattle.nm_short.specs.Tables.{FileTables, WentTo, phase_in, slot_in, stepped, goes_well_to, ends_in, begin_to, begins_to, abandons_to}
use Rattle.nm_short.proofs.MovesKept.{GoesBelow}
use Rattle.nm_short.proofs.PhaseLaws.{phase_same}
use Rattle.nm_short.proofs.Standing.{Stands, IsKeptOutside, plain_stands}

-- the same is printed, what is left stands for the steps, and both came to what they were for or neither
pub record IsWent (n : ℕ) (went : Went) (to : WentTo) : Type 0 where
  pub rows : to.rows ≡ went.rows
  pub file : Stands n went.file to.file
  pub well : to.well ≡ went.well

pub well_same : (n : ℕ) (head : Head) (f : FileNow) (t : FileTables) → Stands n f t → IsWent n (goes_well head f) (goes_well_to head t)
well_same n head f t stands = record {
  rows = ap (λ fs. phase_row head fs (phase_in t) ∷ []) stands.fs ∙ ap (λ p. phase_row head f.home.fs p ∷ []) (phase_same n f t stands);
  file = stands;
  well = refl;
}

pub ends_same : (n : ℕ) (head : Head) (f : FileNow) (t : FileTables) (what : MoveTold) → Stands n f t → IsWent n (ends_with head f what) (ends_in head t what)
ends_same n head f t what stands = record {
  rows = ap (λ fs. move_row head fs what ∷ []) stands.fs;
  file = stands;
  well = refl;
}

-- the servers of the script have their slots
pub kept_inside : (n : ℕ) (f : FileNow) (t : FileTables) (s : ℕ) (step : SlotStep) → Stands n f t → s < n → IsKeptOutside t s step
kept_inside n f t s step stands below past = absurd (omega (arith, stands.count, below, past))

pub source_within : (n : ℕ) (f : FileNow) (t : FileTables) → Stands n f t → source f < n
source_within n f t stands = omega (arith, stands.at, stands.within)

-- ---- move

begin_same : (n : ℕ) (head : Head) (a : Begin) (f : FileNow) (t : FileTables) → Stands n f t → IsWent n (after_begin head f a) (begin_to head t a)
unfolding after_begin begin_to
begin_same n head (begin.Begun number) f t stands = well_same n head f t stands
begin_same n head begin.NotServed f t stands = ends_same n head f t _ stands
begin_same n head (begin.Busy number) f t stands = ends_same n head f t _ stands
begin_same n head begin.Same f t stands = ends_same n head f t _ stands
begin_same n head begin.Last f t stands = ends_same n head f t _ stands

goes_below : (n s dest : ℕ) (a : Begin) → dest < n → GoesBelow n (Beginning s dest a)
goes_below n s dest (begin.Begun number) below = below
goes_below n s dest _ below = tt

pub begins_same : (n : ℕ) (head : Head) (f : FileNow) (t : FileTables) (dest : ℕ) → dest < n → Stands n f t → IsWent n (begins head f dest) (begins_to head t dest)
unfolding begins begins_to
begins_same n head f t dest below stands =
    let s : ℕ = source f in
    let a : Begin = begin_answer (at_server f s) s dest in
    subst (λ x. IsWent n (begins head f dest) (begin_to head (stepped t x (Beginning x dest (begin_answer (slot_in t x) x dest))) (begin_answer (slot_in t x) x dest))) (sym stands.at)
    (subst (λ v. IsWent n (begins head f dest) (begin_to head (stepped t s (Beginning s dest (begin_answer v s dest))) (begin_answer v s dest))) (sym (stands.slots s))
    (begin_same n head a (did f s (Beginning s dest a)) (stepped t s (Beginning s dest a))
    (plain_stands n f t s (Beginning s dest a) stands (record { answered = refl; delivered = refl })
    (kept_inside n f t s (Beginning s dest a) stands (source_within n f t stands)) (goes_below n s dest a below) refl)))

-- ---- abandon

pub abandons_same : (n : ℕ) (head : Head) (f : FileNow) (t : FileTables) → Stands n f t → IsWent n (abandons head f) (abandons_to head t)
unfolding abandons abandons_to
abandons_same n head f t stands =
    let s : ℕ = source f in
    let a : Abandon = abandon_answer (at_server f s) in
    let ends : List Party = abandon_ends (at_server f s) in
    subst (λ x. IsWent n (abandons head f) (ends_in head (stepped t x (Abandoning (abandon_ends (slot_in t x)) (abandon_answer (slot_in t x)))) (abandon_told head x (abandon_answer (slot_in t x))))) (sym stands.at)
    (subst (λ v. IsWent n (abandons head f) (ends_in head (stepped t s (Abandoning (abandon_ends v) (abandon_answer v))) (abandon_told head s (abandon_answer v)))) (sym (stands.slots s))
    (ends_same n head (did f s (Abandoning ends a)) (stepped t s (Abandoning ends a)) (abandon_told head s a)
    (plain_stands n f t s (Abandoning ends a) stands (record { answered = (refl, refl); delivered = tt })
    (kept_inside n f t s (Abandoning ends a) stands (source_within n f t stands)) tt refl)))
