-- Leases (RFC 7530, 9.5 and 9.6): how operations renew them, when they lapse, and what tells a client that a file system
-- has moved away.
use Rattle.std.specs.Prelude.{ℕ, ◌+◌, ◌-◌, ◌*◌, ◌^◌, Bool, true, false, not, ◌==◌, ◌&&◌, nat_lt, min, List, Option, Some, None, find, option_map, option_and_then, is_some, if◌then◌else◌}
use Rattle.std.specs.List.{list_any}
use Rattle.nm_types.specs.Parties.{Party, same_party}
use Rattle.nm_roll.specs.Records.{RollNow, string_at, has_string, change_first, party_of, era_of, pass_of, unless_lapsed}
use Rattle.nm_roll.specs.Clients.{same_start, has_clientid, confirmed_in}
use Rattle.nm_roll.specs.declared.answers.CallbackPath.{CallbackPath}
use Rattle.nm_types.specs.declared.leases.EndCause.TheVariants.{Lapse}
use Rattle.nm_types.specs.declared.leases.Ended.{Ended}
use Rattle.nm_types.specs.declared.leases.LeasePass.{LeasePass}
use Rattle.nm_roll.specs.declared.answers.Touch.{Touch}
use Rattle.nm_roll.specs.declared.answers.Touch.TheVariants.{Pass, Moved, Stale, Expired}
use Rattle.nm_roll.specs.declared.records.Confirmed.{Confirmed}
use Rattle.nm_roll.specs.declared.records.Reservation.{Reservation}
use Rattle.nm_roll.specs.declared.records.StringRow.{StringRow}
use Rattle.nm_roll.specs.declared.records.Unconfirmed.{Unconfirmed}

-- the row whose confirmed record, lapsed or not, has that clientid
abbrev pub is_client : ℕ → StringRow → Bool
is_client clientid row = has_clientid clientid row.confirmed

unfoldable pub is_start : Party → Option Confirmed → Bool
is_start party None = false
is_start party (Some c) = same_start party.verifier party.principal c.verifier c.principal

-- the row whose confirmed record, lapsed or not, is of that instance
abbrev pub is_instance : Party → StringRow → Bool
is_instance party row = has_string party.id row && is_start party row.confirmed

-- ---- renewal

-- The moved set empties once more than two lease times have passed since a file system was last added.
unfoldable pub is_over : ℕ → ℕ → Confirmed → Bool
is_over lease clock c = nat_lt (c.moved_at + 2 * lease) clock

unfoldable pub has_moved : ℕ → ℕ → Confirmed → Bool
has_moved lease clock c = not (is_over lease clock c) && list_any (λ b. b) c.moved

-- what a client is told that comes with an operation
unfoldable pub touch_of : ℕ → ℕ → List ℕ → Option Confirmed → Touch
touch_of lease clock id None = Stale
touch_of lease clock id (Some c) =
    if c.lapsed then Expired else (if has_moved lease clock c then Moved (pass_of id c) else Pass (pass_of id c))

unfoldable pub touch_found : ℕ → ℕ → Option StringRow → Touch
touch_found lease clock None = Stale
touch_found lease clock (Some row) = touch_of lease clock row.id row.confirmed

-- its lease is renewed, unless it has lapsed
unfoldable pub touched_record : ℕ → Confirmed → Confirmed
touched_record clock c = if c.lapsed then c else record c { renewed = clock }

abbrev pub touched : ℕ → StringRow → StringRow
touched clock row = record row { confirmed = option_map (touched_record clock) row.confirmed }

unfoldable pub touch_answer : RollNow → (StringRow → Bool) → Touch
touch_answer r test = touch_found r.lease r.clock (find test r.table)

unfoldable pub touch_after : RollNow → (StringRow → Bool) → RollNow
touch_after r test = record r { table = change_first test (touched r.clock) r.table }

-- ---- lapse

-- the last moment at which a lease stands: clocks end there too
abbrev pub deadline : ℕ → ℕ → ℕ
deadline lease renewed = min (renewed + lease) (2 ^ 64 - 1)

abbrev pub is_named : Party → List LeasePass → Bool
is_named party passes = list_any (λ p. same_party party p.instance) passes

-- a file system on its way to this server has state of the instance
unfoldable pub is_reserved : Party → List Reservation → Bool
is_reserved party list = list_any (λ x. is_named party x.passes) list

unfoldable pub is_due : RollNow → List ℕ → Confirmed → Bool
is_due r id c =
    not c.lapsed && not (is_reserved (party_of id c) r.reservations) && nat_lt (deadline r.lease c.renewed) r.clock

abbrev pub lapse_of : RollNow → List ℕ → Confirmed → Ended
lapse_of r id c = record {
  instance = party_of id c;
  era = era_of c.clientid;
  why = Lapse (deadline r.lease c.renewed) r.clock;
}

unfoldable pub lapse_found : RollNow → List ℕ → Option Confirmed → Option Ended
lapse_found r id None = None
lapse_found r id (Some c) = if is_due r id c then Some (lapse_of r id c) else None

unfoldable pub lapse_in : RollNow → Option StringRow → Option Ended
lapse_in r None = None
lapse_in r (Some row) = lapse_found r row.id row.confirmed

unfoldable pub expire_answer : RollNow → List ℕ → Option Ended
expire_answer r id = lapse_in r (string_at id r.table)

-- the record that waits has the clientid of the confirmed one
unfoldable pub waits_alike : Option Confirmed → Option Unconfirmed → Bool
waits_alike (Some c) (Some u) = u.clientid == c.clientid
waits_alike (Some c) None = false
waits_alike None u = false

abbrev pub lapsed_record : Confirmed → Confirmed
lapsed_record c = record c { lapsed = true }

-- a record that waits with the same clientid goes
unfoldable pub lapsed_row : StringRow → StringRow
lapsed_row row = record row {
  confirmed = option_map lapsed_record row.confirmed;
  unconfirmed = if waits_alike row.confirmed row.unconfirmed then None else row.unconfirmed;
}

unfoldable pub expire_after : RollNow → List ℕ → RollNow
expire_after r id = if is_some (expire_answer r id) then record r { table = change_first (has_string id) lapsed_row r.table } else r

-- ---- what is told of an instance

abbrev pub confirmed_as : Party → List StringRow → Option Confirmed
confirmed_as party rows = confirmed_in (find (is_instance party) rows)

-- the clientid of its confirmed record, lapsed or not
unfoldable pub number_answer : RollNow → Party → Option ℕ
number_answer r party = option_map (λ c. c.clientid) (confirmed_as party r.table)

-- where it is called back, if its lease stands and that is known
unfoldable pub path_answer : RollNow → Party → Option CallbackPath
path_answer r party = option_and_then (λ c. c.path) (unless_lapsed (confirmed_as party r.table))
