-- A record is given, or made, only where a counter has a further number.
use Rattle.std.proofs.Common.{◌≡◌, ◌<◌, ℕ, Bool, true, false, cond, Option, Some, None, refl, arith}
use Rattle.std.specs.Prelude.{◌||◌, ◌&&◌, nat_le, is_none, length}
use Rattle.std.proofs.lemmas.Bool.Decides.{nat_tests}
use Rattle.nm_types.specs.Parties.{Party}
use Rattle.nm_types.specs.declared.instance.Principal.{Principal}
use Rattle.nm_roll.specs.Records.{RollNow, unless_lapsed}
use Rattle.nm_roll.specs.Clients.{set_case, given_case, has_no_room, is_of_other, known_clientid, confirmed_in, same_start}
use Rattle.nm_roll.specs.Moves.{record_case, case_of, made_case, lacks_room, waiting_clientid}
use Rattle.nm_roll.specs.declared.cases.SetCase.TheVariants.{OfOther, Known, NoRoom, New}
use Rattle.nm_roll.specs.declared.cases.RecordCase.TheVariants.{Stands, Differs, Crowded, Made}
use Rattle.nm_roll.specs.declared.records.Confirmed.{Confirmed}
use Rattle.nm_roll.specs.declared.records.StringRow.{StringRow}

below_last : (n : ℕ) → nat_le 281474976710655 n ≡ false → n < 281474976710655
below_last n is = grind (arith, nat_tests)

second_of : (a b c : Bool) → (a || b || c) ≡ false → b ≡ false
second_of true b c is = cc
second_of false true c is = cc
second_of false false c is = refl

third_of : (a b c : Bool) → (a || b || c) ≡ false → c ≡ false
third_of true b c is = cc
third_of false true c is = cc
third_of false false true is = cc
third_of false false false is = refl

given_known : (r : RollNow) (row : Option StringRow) (told : Option ℕ) (clientid : ℕ)
    → given_case r row told ≡ Known clientid → r.confirms < 281474976710655
unfolding given_case
given_known r row (Some k) clientid is = by_last (nat_le 281474976710655 r.confirms) refl is
  where
    by_last : (b : Bool) → nat_le 281474976710655 r.confirms ≡ b → cond b NoRoom (Known k) ≡ Known clientid → r.confirms < 281474976710655
    by_last true eq is = cc
    by_last false eq is = below_last r.confirms eq
given_known r row None clientid is = by_room (has_no_room r row) is
  where
    by_room : (b : Bool) → cond b NoRoom New ≡ Known clientid → r.confirms < 281474976710655
    by_room true is = cc
    by_room false is = cc

no_room_confirms : (r : RollNow) (row : Option StringRow) → has_no_room r row ≡ false → r.confirms < 281474976710655
unfolding has_no_room
no_room_confirms r row is =
    below_last r.confirms (third_of (is_none row && nat_le 4096 (length r.table)) (nat_le 281474976710655 r.clientids) (nat_le 281474976710655 r.confirms) is)

no_room_clientids : (r : RollNow) (row : Option StringRow) → has_no_room r row ≡ false → r.clientids < 281474976710655
unfolding has_no_room
no_room_clientids r row is =
    below_last r.clientids (second_of (is_none row && nat_le 4096 (length r.table)) (nat_le 281474976710655 r.clientids) (nat_le 281474976710655 r.confirms) is)

given_new : (r : RollNow) (row : Option StringRow) (told : Option ℕ) → given_case r row told ≡ New → has_no_room r row ≡ false
unfolding given_case
given_new r row (Some k) is = by_last (nat_le 281474976710655 r.confirms) is
  where
    by_last : (b : Bool) → cond b NoRoom (Known k) ≡ New → has_no_room r row ≡ false
    by_last true is = cc
    by_last false is = cc
given_new r row None is = by_room (has_no_room r row) refl is
  where
    by_room : (b : Bool) → has_no_room r row ≡ b → cond b NoRoom New ≡ New → has_no_room r row ≡ false
    by_room true eq is = cc
    by_room false eq is = eq

pub known_confirms : (r : RollNow) (row : Option StringRow) (verifier : ℕ) (principal : Principal) (clientid : ℕ)
    → set_case r row verifier principal ≡ Known clientid → r.confirms < 281474976710655
unfolding set_case
known_confirms r row verifier principal clientid is = by_other (is_of_other principal (confirmed_in row)) is
  where
    by_other : (b : Bool) → cond b OfOther (given_case r row (known_clientid verifier principal row)) ≡ Known clientid → r.confirms < 281474976710655
    by_other true is = cc
    by_other false is = given_known r row (known_clientid verifier principal row) clientid is

new_room : (r : RollNow) (row : Option StringRow) (verifier : ℕ) (principal : Principal)
    → set_case r row verifier principal ≡ New → has_no_room r row ≡ false
unfolding set_case
new_room r row verifier principal is = by_other (is_of_other principal (confirmed_in row)) is
  where
    by_other : (b : Bool) → cond b OfOther (given_case r row (known_clientid verifier principal row)) ≡ New → has_no_room r row ≡ false
    by_other true is = cc
    by_other false is = given_new r row (known_clientid verifier principal row) is

pub new_confirms : (r : RollNow) (row : Option StringRow) (verifier : ℕ) (principal : Principal)
    → set_case r row verifier principal ≡ New → r.confirms < 281474976710655
new_confirms r row verifier principal is = no_room_confirms r row (new_room r row verifier principal is)

pub new_clientids : (r : RollNow) (row : Option StringRow) (verifier : ℕ) (principal : Principal)
    → set_case r row verifier principal ≡ New → r.clientids < 281474976710655
new_clientids r row verifier principal is = no_room_clientids r row (new_room r row verifier principal is)

-- ---- reserving

lacks_none : (r : RollNow) (row : Option StringRow) → lacks_room r row ≡ false → r.clientids < 281474976710655
unfolding lacks_room
lacks_none r row is =
    below_last r.clientids (last_of (is_none row && nat_le 4096 (length r.table)) (nat_le 281474976710655 r.clientids) is)
  where
    last_of : (a b : Bool) → (a || b) ≡ false → b ≡ false
    last_of true b is = cc
    last_of false b is = is

made_made : (r : RollNow) (row : Option StringRow) (waiting : Option ℕ) → made_case r row waiting ≡ Made → lacks_room r row ≡ false
unfolding made_case
made_made r row (Some clientid) is = cc
made_made r row None is = by_room (lacks_room r row) refl is
  where
    by_room : (b : Bool) → lacks_room r row ≡ b → cond b Crowded Made ≡ Made → lacks_room r row ≡ false
    by_room true eq is = cc
    by_room false eq is = eq

case_made : (r : RollNow) (party : Party) (row : Option StringRow) (c : Option Confirmed) → case_of r party row c ≡ Made → lacks_room r row ≡ false
unfolding case_of
case_made r party row (Some c) is = by_start (same_start party.verifier party.principal c.verifier c.principal) is
  where
    by_start : (b : Bool) → cond b Stands (Differs (record { id = party.id; verifier = c.verifier; principal = c.principal })) ≡ Made → lacks_room r row ≡ false
    by_start true is = cc
    by_start false is = cc
case_made r party row None is = made_made r row (waiting_clientid party row) is

pub made_clientids : (r : RollNow) (party : Party) (row : Option StringRow) → record_case r party row ≡ Made → r.clientids < 281474976710655
unfolding record_case
made_clientids r party row is = lacks_none r row (case_made r party row (unless_lapsed (confirmed_in row)) is)
