-- A file system, as the code keeps it.
use Rattle.std.specs.Prelude.{ℕ, List, [], ◌∷◌, Option, Some, None, IfSome}
use Rattle.nm_types.specs.declared.cause.Cause.TheVariants as cause
use Rattle.nm_script.specs.declared.report.MoveTold.TheVariants as move_told
use Rattle.nm_script.specs.declared.script.Head.{Head}
use Rattle.nm_slot.specs.declared.answers.Accept.{Accept}
use Rattle.nm_slot.specs.declared.answers.Accept.TheVariants as accept
use Rattle.nm_slot.specs.declared.answers.Enter.{Enter}
use Rattle.nm_slot.specs.declared.answers.Enter.TheVariants as enter
use Rattle.nm_slot.specs.Answers.{accept_answer, install_answer, install_ends}
use Rattle.nm_slot.specs.Images.{offer_of, MayBeOffered}
use Rattle.nm_slot.specs.SlotNow.SlotStep.{Accepting, Installing}
use Rattle.nm_short.specs.declared.asks.Asked.{Asked as CodeAsked}
use Rattle.nm_short.specs.declared.asks.Knocked.{Knocked as CodeKnocked}
use Rattle.nm_short.specs.declared.files.SentImage.{SentImage}
use Rattle.nm_short.specs.declared.files.Handed.{Handed}
use Rattle.nm_short.specs.declared.locking.Freed.{Freed}
use Rattle.nm_short.specs.declared.orders.Came.{Came}
use Rattle.nm_short.specs.declared.orders.Order.{Order as CodeOrder}
use Rattle.nm_short.specs.declared.orders.Order.TheVariants as code
use Rattle.nm_short.specs.declared.orders.Ordered.{Ordered as CodeOrdered}
use Rattle.nm_short.specs.Known.{Known}
use Rattle.nm_short.specs.ShortRun.{Order}
use Rattle.nm_short.specs.ShortRun.Order.{ToMove, ToFreeze, ToAbandon, ToCommit, ToSettle, ToShift, ToShow}
use Rattle.nm_short.specs.Tables.{FileTables, SentTo, HandedTo, WentTo, AskedTo, KnockedTo, FreedTo, FreedAllTo, slot_in, stepped, commits_in, had_by, goes_well_to, ends_in, nothing_sent}

abbrev pub sent_of : SentImage → SentTo
sent_of sent = record { source = sent.source; dest = sent.dest; offer = offer_of sent.image }

abbrev pub handed_of : Handed → HandedTo
handed_of handed = record { dest = handed.dest; number = handed.number }

-- what was sent may be offered in this file system
abbrev pub IsOffered : ℕ → Option SentImage → Type 0
IsOffered fs offer = IfSome offer (λ sent. MayBeOffered fs sent.image)

-- what came of an order, with what it left
abbrev pub came_to : Came → FileTables → WentTo
came_to came f = record { rows = came.row ∷ []; file = f; well = came.well }

abbrev pub went_to : CodeOrdered → FileTables → WentTo
went_to ordered f = record { rows = ordered.rows; file = f; well = ordered.well }

abbrev pub order_of : CodeOrder → Order
order_of (code.Move dest) = ToMove dest
order_of code.Freeze = ToFreeze
order_of code.Abandon = ToAbandon
order_of code.Commit = ToCommit
order_of code.Settle = ToSettle
order_of (code.Shift dest) = ToShift dest
order_of code.Show = ToShow

-- what an offer that reached its destination leaves
abbrev pub accepted_in : FileTables → SentTo → Accept → FileTables
accepted_in f sent accept.Held = commits_in f sent
accepted_in f sent (accept.Old known) = f
accepted_in f sent accept.Live = f

-- the answer to what was sent, and what its delivery leaves
unfoldable pub sent_answer : FileTables → Option SentTo → Option Accept
sent_answer f None = None
sent_answer f (Some sent) = Some (accept_answer (slot_in f sent.dest) sent.offer.number)

unfoldable pub delivered : FileTables → Option SentTo → FileTables
delivered f None = f
delivered f (Some sent) =
    accepted_in (stepped f sent.dest (Accepting sent.offer [] (accept_answer (slot_in f sent.dest) sent.offer.number))) sent
    (accept_answer (slot_in f sent.dest) sent.offer.number)

-- what is printed of it
unfoldable pub accept_told : Head → FileTables → Option Accept → WentTo
accept_told head f None = nothing_sent f
accept_told head f (Some accept.Held) = goes_well_to head f
accept_told head f (Some (accept.Old known)) = ends_in head f (move_told.Refused (cause.Old known))
accept_told head f (Some accept.Live) = ends_in head f (move_told.Refused cause.Live)

-- what the word that a move was handed over leaves
unfoldable pub installed_in : FileTables → HandedTo → FileTables
installed_in f handed =
    record (stepped f handed.dest (Installing handed.number (install_ends (slot_in f handed.dest)) (install_answer (slot_in f handed.dest) handed.number))) {
      at = had_by (install_answer (slot_in f handed.dest) handed.number) handed.dest f.at;
    }

-- where a door sends on
abbrev pub sent_on : Enter → Option ℕ
sent_on (enter.Moved dest) = Some dest
sent_on (enter.Entered pass) = None
sent_on (enter.Full passes) = None
sent_on enter.Delay = None
sent_on enter.Unknown = None

abbrev pub knocked_to : CodeKnocked → FileTables → KnockedTo
knocked_to knocked f = record { file = f; server = knocked.server; door = knocked.door }

-- what came of a release, with what it left
abbrev pub freed_in : Freed → FileTables → FreedTo
freed_in its f = record { file = f; freed = its }

abbrev pub all_freed_in : Freed → List FileTables → FreedAllTo
all_freed_in its fs = record { files = fs; freed = its }

-- what came of a request, with what it left
abbrev pub asked_in : CodeAsked → FileTables → Known → AskedTo
asked_in asked f known = record { file = f; known = known; reply = asked.reply; names = asked.names }
