-- File systems that come from other servers and go to others, as far as they concern a server's clients (RFC 7931): records
-- are reserved before a file system comes, and a client whose state has gone with one is told so.
use Rattle.std.specs.Prelude.{ℕ, ◌+◌, Bool, true, false, not, ◌==◌, ◌&&◌, ◌||◌, nat_lt, nat_le, List, [], ◌∷◌, ◌++◌, length, map, filter, find, Option, Some, None, option_map, is_none, if◌then◌else◌, set}
use Rattle.std.specs.Option.{option_or}
use Rattle.nm_types.specs.Parties.{Party}
use Rattle.nm_types.specs.declared.instance.Principal.{Principal}
use Rattle.nm_roll.specs.Records.{RollNow, string_at, change_string, change_first, party_of, era_of, unless_lapsed}
use Rattle.nm_roll.specs.Clients.{last_counter, most_strings, next_clientid, confirmed_in, unconfirmed_in, same_start, unconfirmed_start, waits_for_other, none_moved}
use Rattle.nm_roll.specs.Leases.{is_client, is_instance, is_over}
use Rattle.nm_types.specs.declared.leases.LeasePass.{LeasePass}
use Rattle.nm_roll.specs.declared.answers.Reserve.{Reserve}
use Rattle.nm_roll.specs.declared.answers.Reserve.TheVariants as told
use Rattle.nm_roll.specs.declared.cases.RecordCase.{RecordCase}
use Rattle.nm_roll.specs.declared.cases.RecordCase.TheVariants.{Stands, Differs, Crowded, Waits, Made}
use Rattle.nm_roll.specs.declared.cases.ReserveCase.{ReserveCase}
use Rattle.nm_roll.specs.declared.cases.ReserveCase.TheVariants.{Outdated, Again, Begun}
use Rattle.nm_roll.specs.declared.records.Confirmed.{Confirmed}
use Rattle.nm_roll.specs.declared.records.Reservation.{Reservation}
use Rattle.nm_roll.specs.declared.records.StringRow.{StringRow}
use Rattle.nm_roll.specs.declared.records.Unconfirmed.{Unconfirmed}

-- ---- reserving

-- what `reserve` answers
pub data Reserved : Type 0 where
  -- each instance has its record, in the order in which they came
  Held : List LeasePass → Reserved
  -- a reservation of the file system has this greater number
  Late : ℕ → Reserved
  -- another start of the client is here than there
  Differing : Party → Party → Reserved
  NoRoom : Reserved

abbrev pub reserved_as : Reserve → Reserved
reserved_as (told.Passes passes) = Held passes.items
reserved_as (told.Old known) = Late known
reserved_as (told.Differs here there) = Differing here there
reserved_as told.Full = NoRoom

-- the clientid of a record of this instance that waits
unfoldable pub waiting_clientid : Party → Option StringRow → Option ℕ
waiting_clientid party row = unconfirmed_start party.verifier party.principal (unconfirmed_in row)

-- a new record finds no room: for its string, or for its clientid
unfoldable pub lacks_room : RollNow → Option StringRow → Bool
lacks_room r row = (is_none row && nat_le most_strings (length r.table)) || nat_le last_counter r.clientids

unfoldable pub made_case : RollNow → Option StringRow → Option ℕ → RecordCase
made_case r row (Some clientid) = Waits clientid
made_case r row None = if lacks_room r row then Crowded else Made

-- by the record of its string whose lease stands, and by the one that waits
unfoldable pub case_of : RollNow → Party → Option StringRow → Option Confirmed → RecordCase
case_of r party row (Some c) =
    if same_start party.verifier party.principal c.verifier c.principal then Stands else Differs (party_of party.id c)
case_of r party row None = made_case r row (waiting_clientid party row)

unfoldable pub record_case : RollNow → Party → Option StringRow → RecordCase
record_case r party row = case_of r party row (unless_lapsed (confirmed_in row))

-- why the instance can't be reserved
unfoldable pub refusal_by : Party → RecordCase → Option Reserved
refusal_by party Stands = None
refusal_by party (Differs here) = Some (Differing here party)
refusal_by party Crowded = Some NoRoom
refusal_by party (Waits clientid) = None
refusal_by party Made = None

unfoldable pub refusal_at : RollNow → Party → Option Reserved
refusal_at r party = refusal_by party (record_case r party (string_at party.id r.table))

-- a record that waits for another principal goes
abbrev pub only_of : Principal → Option Unconfirmed → Option Unconfirmed
only_of principal u = if waits_for_other principal u then None else u

-- a record that comes with a file system: renewed now, with no path
abbrev pub brought : ℕ → ℕ → Party → Confirmed
brought clock clientid party = record {
  verifier = party.verifier;
  principal = party.principal;
  clientid = clientid;
  confirm = None;
  path = None;
  lapsed = false;
  renewed = clock;
  moved = none_moved;
  moved_at = 0;
}

abbrev pub brought_row : ℕ → ℕ → Party → StringRow → StringRow
brought_row clock clientid party row = record row {
  confirmed = Some (brought clock clientid party);
  unconfirmed = only_of party.principal row.unconfirmed;
}

-- its record is made, where it has none
unfoldable pub with_case : RollNow → Party → RecordCase → RollNow
with_case r party Stands = r
with_case r party (Differs here) = r
with_case r party Crowded = r
with_case r party (Waits clientid) = record r { table = change_string party.id (brought_row r.clock clientid party) r.table }
with_case r party Made = record r {
  clientids = r.clientids + 1;
  table = change_string party.id (brought_row r.clock (next_clientid r) party) r.table;
}

unfoldable pub with_record : RollNow → Party → RollNow
with_record r party = with_case r party (record_case r party (string_at party.id r.table))

unfoldable pub with_records : RollNow → List Party → RollNow
with_records r [] = r
with_records r (party ∷ parties) = with_records (with_record r party) parties

-- the first instance that is refused decides, where those before it have their records
unfoldable pub refusal_among : RollNow → List Party → Option Reserved
refusal_among r [] = None
refusal_among r (party ∷ parties) = option_or (refusal_at r party) (refusal_among (with_record r party) parties)

unfoldable pub era_in : Option Confirmed → ℕ
era_in None = 0
era_in (Some c) = era_of c.clientid

abbrev pub pass_in : List StringRow → Party → LeasePass
pass_in rows party = record { instance = party; era = era_in (confirmed_in (string_at party.id rows)) }

abbrev pub passes_in : List StringRow → List Party → List LeasePass
passes_in rows parties = map (pass_in rows) parties

abbrev pub is_for : ℕ → Reservation → Bool
is_for fs x = x.fs == fs

unfoldable pub reservation_of : ℕ → List Reservation → Option Reservation
reservation_of fs list = find (is_for fs) list

abbrev pub new_reservation : ℕ → ℕ → List LeasePass → Reservation
new_reservation fs number passes = record { fs = fs; number = number; passes = passes }

abbrev pub without_of : ℕ → List Reservation → List Reservation
without_of fs list = filter (λ x. not (is_for fs x)) list

abbrev pub held_passes : Option Reservation → List LeasePass
held_passes None = []
held_passes (Some x) = x.passes

-- By the reservation of that file system, of which there is at most one: a greater number is told, an equal one gets its
-- passes again, and a lower one is replaced.
unfoldable pub reserve_case : ℕ → Option Reservation → ReserveCase
reserve_case number None = Begun
reserve_case number (Some x) = if nat_lt number x.number then Outdated x.number else (if number == x.number then Again else Begun)

-- All instances are reserved, or none.
unfoldable pub answer_of_new : RollNow → List Party → Option Reserved → Reserved
answer_of_new r parties (Some refusal) = refusal
answer_of_new r parties None = Held (passes_in (with_records r parties).table parties)

unfoldable pub answer_of_reserve : RollNow → ℕ → List Party → ReserveCase → Reserved
answer_of_reserve r fs parties (Outdated known) = Late known
answer_of_reserve r fs parties Again = Held (held_passes (reservation_of fs r.reservations))
answer_of_reserve r fs parties Begun = answer_of_new r parties (refusal_among r parties)

unfoldable pub reserve_answer : RollNow → ℕ → ℕ → List Party → Reserved
reserve_answer r fs number parties = answer_of_reserve r fs parties (reserve_case number (reservation_of fs r.reservations))

unfoldable pub holding : RollNow → ℕ → ℕ → List Party → RollNow
holding r fs number parties = record r {
  reservations = without_of fs r.reservations ++ new_reservation fs number (passes_in r.table parties) ∷ [];
}

unfoldable pub after_new : RollNow → ℕ → ℕ → List Party → Option Reserved → RollNow
after_new r fs number parties (Some refusal) = r
after_new r fs number parties None = holding (with_records r parties) fs number parties

unfoldable pub after_reserve : RollNow → ℕ → ℕ → List Party → ReserveCase → RollNow
after_reserve r fs number parties (Outdated known) = r
after_reserve r fs number parties Again = r
after_reserve r fs number parties Begun = after_new r fs number parties (refusal_among r parties)

unfoldable pub reserve_after : RollNow → ℕ → ℕ → List Party → RollNow
reserve_after r fs number parties = after_reserve r fs number parties (reserve_case number (reservation_of fs r.reservations))

-- ---- the end of a reservation

abbrev pub is_numbered : ℕ → ℕ → Reservation → Bool
is_numbered fs number x = (x.fs == fs) && (x.number == number)

abbrev pub without : ℕ → ℕ → List Reservation → List Reservation
without fs number list = filter (λ x. not (is_numbered fs number x)) list

unfoldable pub release_after : RollNow → ℕ → ℕ → RollNow
release_after r fs number = record r { reservations = without fs number r.reservations }

-- the file system isn't in the moved set
abbrev pub came : ℕ → Confirmed → Confirmed
came fs c = record c { moved = set c.moved fs false }

-- the file system came: unless it has lapsed, the lease is renewed
unfoldable pub settled_record : ℕ → ℕ → Confirmed → Confirmed
settled_record clock fs c = if c.lapsed then c else record c { renewed = clock; moved = set c.moved fs false }

abbrev pub settled_row : ℕ → ℕ → StringRow → StringRow
settled_row clock fs row = record row { confirmed = option_map (settled_record clock fs) row.confirmed }

unfoldable pub all_settled : ℕ → ℕ → List LeasePass → List StringRow → List StringRow
all_settled clock fs [] rows = rows
all_settled clock fs (pass ∷ passes) rows = all_settled clock fs passes (change_first (is_instance pass.instance) (settled_row clock fs) rows)

unfoldable pub settle_by : RollNow → ℕ → ℕ → Option Reservation → RollNow
settle_by r fs number None = r
settle_by r fs number (Some x) = record r {
  table = all_settled r.clock fs x.passes r.table;
  reservations = without fs number r.reservations;
}

unfoldable pub settle_after : RollNow → ℕ → ℕ → RollNow
settle_after r fs number = settle_by r fs number (find (is_numbered fs number) r.reservations)

-- ---- the moved set

-- the file system joins the set, of a record that hasn't lapsed
unfoldable pub gone_record : ℕ → ℕ → ℕ → Confirmed → Confirmed
gone_record lease clock fs c =
    if c.lapsed then c
    else record c { moved = set (if is_over lease clock c then none_moved else c.moved) fs true; moved_at = clock }

abbrev pub gone_row : ℕ → ℕ → ℕ → StringRow → StringRow
gone_row lease clock fs row = record row { confirmed = option_map (gone_record lease clock fs) row.confirmed }

unfoldable pub all_gone : ℕ → ℕ → ℕ → List Party → List StringRow → List StringRow
all_gone lease clock fs [] rows = rows
all_gone lease clock fs (party ∷ parties) rows = all_gone lease clock fs parties (change_first (is_instance party) (gone_row lease clock fs) rows)

unfoldable pub moved_after : RollNow → ℕ → List Party → RollNow
moved_after r fs parties = record r { table = all_gone r.lease r.clock fs parties r.table }

-- the client has asked where the file system is
abbrev pub probed_row : ℕ → StringRow → StringRow
probed_row fs row = record row { confirmed = option_map (came fs) row.confirmed }

unfoldable pub probed_after : RollNow → ℕ → ℕ → RollNow
probed_after r clientid fs = record r { table = change_first (is_client clientid) (probed_row fs) r.table }
