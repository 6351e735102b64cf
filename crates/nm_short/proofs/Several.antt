-- Several file systems: each stands for each, by its place.
use Rattle.std.proofs.Common.{◌≡◌, ℕ, zero, suc, List, [], ◌∷◌, Option, Some, None, refl}
use Rattle.std.specs.Prelude.{slice_get, slice_set}
use Rattle.std.specs.List.{AllZip}
use Rattle.nm_short.specs.ShortRun.{FileNow}
use Rattle.nm_short.specs.Tables.{FileTables}
use Rattle.nm_short.proofs.Standing.{Stands}

-- each stands for each, in order
abbrev pub AllStand : ℕ → List FileNow → List FileTables → Type 0
AllStand n fs ts = AllZip (Stands n) fs ts

abbrev pub BothStand : ℕ → Option FileNow → Option FileTables → Type 0
BothStand n None None = Unit {0}
BothStand n None (Some t) = ⊥
BothStand n (Some f) None = ⊥
BothStand n (Some f) (Some t) = Stands n f t

pub stands_at : (n i : ℕ) (fs : List FileNow) (ts : List FileTables) → AllStand n fs ts → BothStand n (slice_get fs i) (slice_get ts i)
stands_at n i [] [] all = tt
stands_at n i [] (t ∷ ts) all = absurd all
stands_at n i (f ∷ fs) [] all = absurd all
stands_at n zero (f ∷ fs) (t ∷ ts) all = all.0
stands_at n (suc i) (f ∷ fs) (t ∷ ts) all = stands_at n i fs ts all.1

pub stands_set : (n i : ℕ) (fs : List FileNow) (ts : List FileTables) (f : FileNow) (t : FileTables) → AllStand n fs ts → Stands n f t
    → AllStand n (slice_set fs i f) (slice_set ts i t)
stands_set n i [] [] f t all stands = tt
stands_set n i [] (u ∷ ts) f t all stands = absurd all
stands_set n i (g ∷ fs) [] f t all stands = absurd all
stands_set n zero (g ∷ fs) (u ∷ ts) f t all stands = (stands, all.1)
stands_set n (suc i) (g ∷ fs) (u ∷ ts) f t all stands = (all.0, stands_set n i fs ts f t all.1 stands)

-- what is put in the place of one is there
pub get_set : {A : Type 0} (xs : List A) (i : ℕ) (x y : A) → slice_get xs i ≡ Some x → slice_get (slice_set xs i y) i ≡ Some y
get_set [] i x y at = cc
get_set (z ∷ zs) zero x y at = refl
get_set (z ∷ zs) (suc i) x y at = get_set zs i x y at
