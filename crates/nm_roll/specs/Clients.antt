-- How a client makes itself known: SETCLIENTID and SETCLIENTID_CONFIRM (RFC 7530, 16.33 and 16.34).
use Rattle.std.specs.Prelude.{ℕ, ◌+◌, ◌*◌, Bool, false, not, ◌==◌, ◌&&◌, ◌||◌, nat_le, List, [], Option, Some, None, find, is_none, option_and_then, option_map, if◌then◌else◌, length, replicate}
use Rattle.std.specs.Option.{option_or}
use Rattle.nm_types.specs.declared.instance.Principal.{Principal}
use Rattle.nm_roll.specs.Records.{RollNow, string_at, change_string, change_first, same_principal, party_of, era_of, unless_lapsed, renewed_record}
use Rattle.nm_roll.specs.declared.answers.CallbackPath.{CallbackPath}
use Rattle.nm_roll.specs.declared.answers.ConfirmAnswer.{ConfirmAnswer}
use Rattle.nm_roll.specs.declared.answers.ConfirmAnswer.TheVariants.{Done, Stale, InUse}
use Rattle.nm_types.specs.declared.leases.EndCause.TheVariants.{Restart}
use Rattle.nm_types.specs.declared.leases.Ended.{Ended}
use Rattle.nm_roll.specs.declared.answers.SetAnswer.{SetAnswer}
use Rattle.nm_roll.specs.declared.answers.SetAnswer.TheVariants.{Given, Full, InUse as InUseAt}
use Rattle.nm_roll.specs.declared.records.Confirmed.{Confirmed}
use Rattle.nm_roll.specs.declared.records.Unconfirmed.{Unconfirmed}
use Rattle.nm_roll.specs.declared.records.StringRow.{StringRow}
use Rattle.nm_roll.specs.declared.cases.SetCase.{SetCase}
use Rattle.nm_roll.specs.declared.cases.SetCase.TheVariants.{OfOther, Known, NoRoom, New}
use Rattle.nm_roll.specs.declared.cases.ConfirmCase.{ConfirmCase}
use Rattle.nm_roll.specs.declared.cases.ConfirmCase.TheVariants.{Refused, Renews, Begins, Repeats, NoPair}

-- ---- SETCLIENTID

abbrev pub last_counter : ℕ
last_counter = 281474976710655

abbrev pub most_strings : ℕ
most_strings = 4096

-- the tag, or the server's number, above the counter
abbrev pub numbered : ℕ → ℕ → ℕ
numbered upper counter = upper * 281474976710656 + counter

abbrev pub next_clientid : RollNow → ℕ
next_clientid r = numbered r.tag (r.clientids + 1)

abbrev pub next_confirm : RollNow → ℕ
next_confirm r = numbered r.server (r.confirms + 1)

abbrev pub confirmed_in : Option StringRow → Option Confirmed
confirmed_in None = None
confirmed_in (Some row) = row.confirmed

abbrev pub unconfirmed_in : Option StringRow → Option Unconfirmed
unconfirmed_in None = None
unconfirmed_in (Some row) = row.unconfirmed

-- a confirmed record, lapsed or not, has another principal
unfoldable pub is_of_other : Principal → Option Confirmed → Bool
is_of_other principal None = false
is_of_other principal (Some c) = not (same_principal principal c.principal)

abbrev pub same_start : ℕ → Principal → ℕ → Principal → Bool
same_start verifier principal v p = (v == verifier) && same_principal principal p

-- the clientid of a record of that verifier and principal
unfoldable pub confirmed_start : ℕ → Principal → Option Confirmed → Option ℕ
confirmed_start verifier principal None = None
confirmed_start verifier principal (Some c) = if same_start verifier principal c.verifier c.principal then Some c.clientid else None

unfoldable pub unconfirmed_start : ℕ → Principal → Option Unconfirmed → Option ℕ
unconfirmed_start verifier principal None = None
unconfirmed_start verifier principal (Some u) = if same_start verifier principal u.verifier u.principal then Some u.clientid else None

unfoldable pub known_clientid : ℕ → Principal → Option StringRow → Option ℕ
known_clientid verifier principal row =
    option_or (confirmed_start verifier principal (unless_lapsed (confirmed_in row))) (unconfirmed_start verifier principal (unconfirmed_in row))

-- a string that isn't known finds no room, or a counter is at its end
unfoldable pub has_no_room : RollNow → Option StringRow → Bool
has_no_room r row =
    (is_none row && nat_le most_strings (length r.table)) || nat_le last_counter r.clientids || nat_le last_counter r.confirms

unfoldable pub given_case : RollNow → Option StringRow → Option ℕ → SetCase
given_case r row (Some clientid) = if nat_le last_counter r.confirms then NoRoom else Known clientid
given_case r row None = if has_no_room r row then NoRoom else New

-- The table of SETCLIENTID: the string is another principal's; this start of the client is known; there is no room; or the
-- start is new.
unfoldable pub set_case : RollNow → Option StringRow → ℕ → Principal → SetCase
set_case r row verifier principal =
    if is_of_other principal (confirmed_in row) then OfOther else given_case r row (known_clientid verifier principal row)

unfoldable pub in_use : Option CallbackPath → SetAnswer
in_use None = InUseAt [] []
in_use (Some path) = InUseAt path.netid path.addr

-- where the client of a record that hasn't lapsed is called back
abbrev pub path_in : Option StringRow → Option CallbackPath
path_in row = option_and_then (λ c. c.path) (unless_lapsed (confirmed_in row))

unfoldable pub answer_of_set : RollNow → Option StringRow → SetCase → SetAnswer
answer_of_set r row OfOther = in_use (path_in row)
answer_of_set r row (Known clientid) = Given clientid (next_confirm r)
answer_of_set r row NoRoom = Full
answer_of_set r row New = Given (next_clientid r) (next_confirm r)

unfoldable pub set_answer : RollNow → List ℕ → ℕ → Principal → SetAnswer
set_answer r id verifier principal = answer_of_set r (string_at id r.table) (set_case r (string_at id r.table) verifier principal)

-- the record that is given waits to be confirmed, in place of an earlier one
abbrev pub waits : Unconfirmed → StringRow → StringRow
waits u row = record row { unconfirmed = Some u }

abbrev pub given_record : RollNow → ℕ → Principal → CallbackPath → ℕ → Unconfirmed
given_record r verifier principal path clientid = record {
  verifier = verifier;
  principal = principal;
  clientid = clientid;
  confirm = next_confirm r;
  path = path;
}

unfoldable pub after_set : RollNow → List ℕ → ℕ → Principal → CallbackPath → SetCase → RollNow
after_set r id verifier principal path OfOther = r
after_set r id verifier principal path (Known clientid) = record r {
  confirms = r.confirms + 1;
  table = change_string id (waits (given_record r verifier principal path clientid)) r.table;
}
after_set r id verifier principal path NoRoom = r
after_set r id verifier principal path New = record r {
  clientids = r.clientids + 1;
  confirms = r.confirms + 1;
  table = change_string id (waits (given_record r verifier principal path (next_clientid r))) r.table;
}

unfoldable pub set_after : RollNow → List ℕ → ℕ → Principal → CallbackPath → RollNow
set_after r id verifier principal path = after_set r id verifier principal path (set_case r (string_at id r.table) verifier principal)

-- ---- SETCLIENTID_CONFIRM

abbrev pub is_number : ℕ → Option ℕ → Bool
is_number n None = false
is_number n (Some m) = m == n

-- the pair is that of the record that waits
unfoldable pub is_waiting_pair : ℕ → ℕ → Option Unconfirmed → Bool
is_waiting_pair clientid confirm None = false
is_waiting_pair clientid confirm (Some u) = (u.clientid == clientid) && (u.confirm == confirm)

-- the pair is the last one of a confirmed record
unfoldable pub is_last_pair : ℕ → ℕ → Option Confirmed → Bool
is_last_pair clientid confirm None = false
is_last_pair clientid confirm (Some c) = (c.clientid == clientid) && is_number confirm c.confirm

abbrev pub has_pair : ℕ → ℕ → StringRow → Bool
has_pair clientid confirm row = is_waiting_pair clientid confirm row.unconfirmed || is_last_pair clientid confirm row.confirmed

unfoldable pub waits_for_other : Principal → Option Unconfirmed → Bool
waits_for_other principal None = false
waits_for_other principal (Some u) = not (same_principal principal u.principal)

unfoldable pub is_pair_of_other : ℕ → ℕ → Principal → StringRow → Bool
is_pair_of_other clientid confirm principal row =
    (is_waiting_pair clientid confirm row.unconfirmed && waits_for_other principal row.unconfirmed)
    || (is_last_pair clientid confirm row.confirmed && is_of_other principal row.confirmed)

unfoldable pub has_clientid : ℕ → Option Confirmed → Bool
has_clientid clientid None = false
has_clientid clientid (Some c) = c.clientid == clientid

-- The table of SETCLIENTID_CONFIRM: the pair was given to another principal; it is that of the record that waits, with the
-- clientid of the confirmed one or with another; it is the last one of the confirmed record; or neither.
unfoldable pub confirm_case : ℕ → ℕ → Principal → StringRow → ConfirmCase
confirm_case clientid confirm principal row =
    if is_pair_of_other clientid confirm principal row then Refused
    else (if is_waiting_pair clientid confirm row.unconfirmed && has_clientid clientid (unless_lapsed row.confirmed) then Renews
    else (if is_waiting_pair clientid confirm row.unconfirmed then Begins
    else (if is_last_pair clientid confirm (unless_lapsed row.confirmed) then Repeats else NoPair)))

-- the start that ends when the record that waits is confirmed: one of another verifier whose lease hasn't lapsed
unfoldable pub ended_by : List ℕ → Option Confirmed → Option Unconfirmed → Option Ended
ended_by id (Some c) (Some u) =
    if c.verifier == u.verifier then None
    else Some (record { instance = party_of id c; era = era_of c.clientid; why = Restart c.verifier u.verifier })
ended_by id None _ = None
ended_by id (Some c) None = None

unfoldable pub answer_of_confirm : StringRow → ConfirmCase → ConfirmAnswer
answer_of_confirm row Refused = InUse
answer_of_confirm row Renews = Done None
answer_of_confirm row Begins = Done (ended_by row.id (unless_lapsed row.confirmed) row.unconfirmed)
answer_of_confirm row Repeats = Done None
answer_of_confirm row NoPair = Stale

unfoldable pub confirm_found : ℕ → ℕ → Principal → Option StringRow → ConfirmAnswer
confirm_found clientid confirm principal None = Stale
confirm_found clientid confirm principal (Some row) = answer_of_confirm row (confirm_case clientid confirm principal row)

unfoldable pub confirm_answer : RollNow → ℕ → ℕ → Principal → ConfirmAnswer
confirm_answer r clientid confirm principal = confirm_found clientid confirm principal (find (has_pair clientid confirm) r.table)

-- the moved set of a new record
abbrev pub none_moved : List Bool
none_moved = replicate 64 false

-- the record that waited, confirmed at this moment
abbrev pub begun : ℕ → Unconfirmed → Confirmed
begun clock u = record {
  verifier = u.verifier;
  principal = u.principal;
  clientid = u.clientid;
  confirm = Some u.confirm;
  path = Some u.path;
  lapsed = false;
  renewed = clock;
  moved = none_moved;
  moved_at = 0;
}

-- the confirmed record takes what waited: its pair and its path
unfoldable pub taken_over : ℕ → Option Unconfirmed → Option Confirmed → Option Confirmed
taken_over clock (Some u) (Some c) = Some (record c { confirm = Some u.confirm; path = Some u.path; renewed = clock })
taken_over clock None c = c
taken_over clock (Some u) None = None

unfoldable pub row_of_confirm : ℕ → StringRow → ConfirmCase → StringRow
row_of_confirm clock row Refused = row
row_of_confirm clock row Renews = record row { confirmed = taken_over clock row.unconfirmed row.confirmed; unconfirmed = None }
row_of_confirm clock row Begins = record row { confirmed = option_map (begun clock) row.unconfirmed; unconfirmed = None }
row_of_confirm clock row Repeats = record row { confirmed = option_map (renewed_record clock) row.confirmed }
row_of_confirm clock row NoPair = row

unfoldable pub confirmed_row : ℕ → ℕ → ℕ → Principal → StringRow → StringRow
confirmed_row clock clientid confirm principal row = row_of_confirm clock row (confirm_case clientid confirm principal row)

unfoldable pub confirm_after : RollNow → ℕ → ℕ → Principal → RollNow
confirm_after r clientid confirm principal =
    record r { table = change_first (has_pair clientid confirm) (confirmed_row r.clock clientid confirm principal) r.table }
