-- What a roll knows: a list of client strings, each with its records (RFC 7530, 9.1.1).
use Rattle.std.specs.Prelude.{ℕ, ◌%◌, Bool, ◌==◌, ◌&&◌, List, [], ◌∷◌, Option, Some, None, find, if◌then◌else◌}
use Rattle.std.specs.Str.{bytes_eq}
use Rattle.nm_types.specs.Parties.{Party}
use Rattle.nm_types.specs.declared.instance.Principal.{Principal}
use Rattle.nm_types.specs.declared.leases.LeasePass.{LeasePass}
use Rattle.nm_roll.specs.declared.records.Confirmed.{Confirmed}
use Rattle.nm_roll.specs.declared.records.Reservation.{Reservation}
use Rattle.nm_roll.specs.declared.records.StringRow.{StringRow}

-- The server's number, its tag and lease time; its clock; the last counter of a clientid and of a confirm verifier; what is
-- known of each client string; and the reservations for file systems that are on their way here.
pub record RollNow : Type 0 where
  pub server : ℕ
  pub tag : ℕ
  pub lease : ℕ
  pub clock : ℕ
  pub clientids : ℕ
  pub confirms : ℕ
  pub table : List StringRow
  pub reservations : List Reservation

abbrev pub new_roll : ℕ → ℕ → ℕ → RollNow
new_roll server tag lease = record {
  server = server;
  tag = tag;
  lease = lease;
  clock = 0;
  clientids = 0;
  confirms = 0;
  table = [];
  reservations = [];
}

-- ---- strings

abbrev pub has_string : List ℕ → StringRow → Bool
has_string id row = bytes_eq id row.id

-- what is known of a string
unfoldable pub string_at : List ℕ → List StringRow → Option StringRow
string_at id rows = find (has_string id) rows

abbrev pub new_string : List ℕ → StringRow
new_string id = record { id = id; confirmed = None; unconfirmed = None }

-- The row of a string is changed. A string that wasn't known gets one.
unfoldable pub change_string : List ℕ → (StringRow → StringRow) → List StringRow → List StringRow
change_string id change [] = change (new_string id) ∷ []
change_string id change (row ∷ rows) = if has_string id row then change row ∷ rows else row ∷ change_string id change rows

-- the first row that meets a test is changed
unfoldable pub change_first : (StringRow → Bool) → (StringRow → StringRow) → List StringRow → List StringRow
change_first test change [] = []
change_first test change (row ∷ rows) = if test row then change row ∷ rows else row ∷ change_first test change rows

-- ---- records

abbrev pub same_principal : Principal → Principal → Bool
same_principal a b = (a.flavor == b.flavor) && (a.uid == b.uid)

abbrev pub party_of : List ℕ → Confirmed → Party
party_of id c = record { id = id; verifier = c.verifier; principal = c.principal }

-- A clientid is the server's tag above a counter of 48 bits, which is the era of its record.
abbrev pub era_of : ℕ → ℕ
era_of clientid = clientid % 281474976710656

abbrev pub pass_of : List ℕ → Confirmed → LeasePass
pass_of id c = record { instance = party_of id c; era = era_of c.clientid }

-- A record that has lapsed counts as none, except that its string, its principal and its clientid stay known.
unfoldable pub unless_lapsed : Option Confirmed → Option Confirmed
unless_lapsed None = None
unless_lapsed (Some c) = if c.lapsed then None else Some c

-- the lease is renewed
abbrev pub renewed_record : ℕ → Confirmed → Confirmed
renewed_record clock c = record c { renewed = clock }
