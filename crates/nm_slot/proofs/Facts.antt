-- What holds of every history of a file system: over its one phase, how many moves began, what became of each, what each
-- server remembers, and the tables.
use Rattle.std.specs.Prelude.{◌≡◌, ◌≢◌, ◌<◌, ◌≤◌, ◌+◌, ℕ, Bool, true, false, Option, Some, None}
use Rattle.nm_rules.specs.Seen.{Seen}
use Rattle.nm_slot.specs.Moves.{Move, Fate, no_move}
use Rattle.nm_slot.specs.Moves.Fate.{NotBegun, UnderWay, GivenUp, Handed, Done}
use Rattle.nm_slot.specs.Phases.{Phase, source_of}
use Rattle.nm_slot.specs.Phases.Phase.{At, Closing, Frozen, Passing}
use Rattle.nm_slot.specs.SlotNow.{Offer, Own}

-- The server that has the file system, or handed it over last, knows the latest move, and none knows of one that didn't
-- begin. An offer bears the number of its move.
pub record NumbersAgree (source begins : ℕ) (move : ℕ → Move) (own : ℕ → Own) : Type 0 where
  pub known : (s : ℕ) → (own s).known ≤ begins
  pub holder : (own source).known ≡ begins
  pub beyond : (n : ℕ) → begins < n → move n ≡ no_move
  pub offered : (n : ℕ) (offer : Offer) → (move n).offer ≡ Some offer → offer.number ≡ n

-- the offer was made to that server, which knows of it and didn't install it
pub record IsFor (s known : ℕ) (offer : Offer) (move : Move) : Type 0 where
  pub made : move.offer ≡ Some offer
  pub goes_to : move.dest ≡ s
  pub not_done : move.fate ≢ Done
  pub is_known : offer.number ≤ known

-- What a server holds was offered to it.
pub record PreparedIsHeld (move : ℕ → Move) (own : ℕ → Own) : Type 0 where
  pub held : (s : ℕ) (offer : Offer) → (own s).held ≡ Some offer → IsFor s (own s).known offer (move offer.number)

-- it isn't settled yet whether the source or the destination has the file system by this move
abbrev pub is_going : Fate → Bool
is_going NotBegun = false
is_going UnderWay = true
is_going GivenUp = false
is_going Handed = true
is_going Done = false

-- the destination remembers that it installed it
pub record IsRemembered (number : ℕ) (own : Own) : Type 0 where
  pub is_installed : number ≤ own.installed
  pub is_known : number ≤ own.known

-- Each move but the latest is settled, and the destination remembers each that it installed.
pub record SettledIsCommitted (begins : ℕ) (move : ℕ → Move) (own : ℕ → Own) : Type 0 where
  pub settled : (n : ℕ) → n ≢ begins → is_going (move n).fate ≡ false
  pub remembered : (n : ℕ) → (move n).fate ≡ Done → IsRemembered n (own (move n).dest)

-- what holds in each phase alike
pub record Agreed (source begins : ℕ) (move : ℕ → Move) (own : ℕ → Own) : Type 0 where
  pub numbers : NumbersAgree source begins move own
  pub held : PreparedIsHeld move own
  pub settled : SettledIsCommitted begins move own

-- what a source offers of its tables
abbrev pub offer_now : ℕ → Seen → Own → Offer
offer_now number t own = record { number = number; epoch = own.epoch + 1; count = own.count; state = t }

abbrev pub new_move : ℕ → ℕ → Move
new_move source dest = record { source = source; dest = dest; offer = None; prepared = false; fate = UnderWay }

-- the move that is under way is the latest, and goes to another server
pub record IsClosing (begins source dest number : ℕ) (move : Move) : Type 0 where
  pub latest : number ≡ begins
  pub apart : source ≢ dest
  pub fresh : move ≡ new_move source dest

-- what is on offer is the state as it is, and once an offer was prepared it is held
pub record IsFrozen (begins source dest number : ℕ) (move : Move) (held : Option Offer) (offer : Offer) : Type 0 where
  pub latest : number ≡ begins
  pub apart : source ≢ dest
  pub comes_from : move.source ≡ source
  pub goes_to : move.dest ≡ dest
  pub going : move.fate ≡ UnderWay
  pub offered : (its : Offer) → move.offer ≡ Some its → its ≡ offer
  pub prepared : move.prepared ≡ true → held ≡ Some offer

-- what was handed over is held
pub record IsPassing (begins source dest number : ℕ) (move : Move) (held : Option Offer) (offer : Offer) : Type 0 where
  pub latest : number ≡ begins
  pub apart : source ≢ dest
  pub goes_to : move.dest ≡ dest
  pub going : move.fate ≡ Handed
  pub ready : held ≡ Some offer

-- The latest move is as the phase says.
abbrev pub OffersStand : Phase → ℕ → (ℕ → Move) → (ℕ → Own) → Seen → Type 0
OffersStand (At server) begins move own t = is_going (move begins).fate ≡ false
OffersStand (Closing source dest number) begins move own t = IsClosing begins source dest number (move number)
OffersStand (Frozen source dest number) begins move own t =
    IsFrozen begins source dest number (move number) (own dest).held (offer_now number t (own source))
OffersStand (Passing source dest number) begins move own t =
    IsPassing begins source dest number (move number) (own dest).held (offer_now number t (own source))

pub record Facts (p : Phase) (begins : ℕ) (move : ℕ → Move) (own : ℕ → Own) (t : Seen) : Type 0 where
  pub agreed : Agreed (source_of p) begins move own
  pub offers : OffersStand p begins move own t
