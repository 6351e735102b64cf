-- Places. Reading tells a fault by how many bytes are left from there to the end of the input, and a cursor tells it by its place: how many bytes come before it.
use Rattle.std.specs.Prelude.{◌≡◌, ◌≢◌, ℕ, ◌+◌, ◌-◌, ◌<◌, ◌≤◌, List, [], ◌++◌, length, take, drop, Result, Ok, Err}
use Rattle.nm_xdr.specs.declared.fault.XdrFault.{XdrFault}
use Rattle.nm_xdr.specs.declared.fault.XdrFault.TheVariants as told
use Rattle.nm_xdr.specs.Fields.{short, padding, bool, too_long, enum, Fault, Reading, IsBytes}

-- Where a cursor stands: how many bytes of the input are before it, and the bytes from there on.
pub record Spot : Type 0 where
  pub place : ℕ
  pub rest : List ℕ

-- How many bytes the whole input has.
abbrev pub end_of : Spot → ℕ
end_of spot = spot.place + length spot.rest

-- The same input, n bytes on.
abbrev pub after : Spot → ℕ → Spot
after spot n = record { place = spot.place + n; rest = drop n spot.rest }

-- A fault that is told by its place, of an input of so many bytes, as reading tells it.
abbrev pub fault_of : ℕ → XdrFault → Fault
fault_of total (told.Short at) = record { flaw = short; left = total - at }
fault_of total (told.Padding at) = record { flaw = padding; left = total - at }
fault_of total (told.Bool at got) = record { flaw = bool got; left = total - at }
fault_of total (told.TooLong at got max) = record { flaw = too_long got max; left = total - at }
fault_of total (told.Enum at got) = record { flaw = enum got; left = total - at }

-- The place that a fault tells.
abbrev pub place_of : XdrFault → ℕ
place_of (told.Short at) = at
place_of (told.Padding at) = at
place_of (told.Bool at got) = at
place_of (told.TooLong at got max) = at
place_of (told.Enum at got) = at

-- Reading an input of so many bytes gave this fault, at a place within it.
abbrev pub Tells : {X : Type 0} → ℕ → XdrFault → Result (X × List ℕ) Fault → Type 0
Tells total e given = (given ≡ Err (fault_of total e)) × (place_of e ≤ total)

-- A call that reads from one spot gives what reading gives of the bytes there: the value, with the cursor left after its bytes, or the first fault.
-- `view` is what a clause sees of the call's value.
abbrev pub Gives : {X Y : Type 0} → (X → Y) → Reading Y → Spot → Result X XdrFault → Spot → Type 0
Gives view read from (Ok x) to = (read from.rest ≡ Ok (view x, to.rest)) × (end_of to ≡ end_of from)
Gives view read from (Err e) to = Tells (end_of from) e (read from.rest)

-- What such a call did: it went past exactly the spelling of the value that it answers, or it answers a fault, and the bytes begin with no spelling.
abbrev pub WentPast : {X : Type 0} → (X → List ℕ) → (X → Type 0) → Spot → Result X XdrFault → Spot → Type 0
WentPast spell Fits from (Ok x) to = Fits x × (from.rest ≡ spell x ++ to.rest) × (to.place ≡ from.place + length (spell x))
WentPast {X} spell Fits from (Err e) to = (x : X) (rest : List ℕ) → Fits x → from.rest ≢ spell x ++ rest

-- Every call that gives what this reading gives does that.
abbrev pub IsExact : {X : Type 0} → Reading X → (X → List ℕ) → (X → Type 0) → Type 0
IsExact {X} read spell Fits = (from to : Spot) (result : Result X XdrFault) → IsBytes from.rest → Gives (λ x. x) read from result to
    → WentPast spell Fits from result to

-- A call that wants nothing to be left answers so, or the fault at the first byte that is, with the number of such bytes.
abbrev pub Ends : Spot → Result Unit XdrFault → Type 0
Ends at (Ok _) = at.rest ≡ []
Ends at (Err e) = (0 < length at.rest) × (fault_of (end_of at) e ≡ record { flaw = too_long (length at.rest) 0; left = length at.rest }) × (place_of e ≤ end_of at)

-- What a put of several items leaves: these bytes behind what was put before. After want of memory that still stands in front.
abbrev pub Puts : {E : Type 0} → List ℕ → List ℕ → Result Unit E → List ℕ → Type 0
Puts old bytes (Ok _) new = new ≡ old ++ bytes
Puts old bytes (Err _) new = take (length old) new ≡ old
