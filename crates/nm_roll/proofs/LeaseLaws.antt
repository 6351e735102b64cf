-- A reserved lease doesn't lapse.
use Rattle.std.proofs.Common.{◌≡◌, ℕ, Bool, true, false, cond, List, Some, None, refl, ap, ◌∙◌}
use Rattle.std.specs.Prelude.{not, ◌&&◌, nat_lt}
use Rattle.nm_roll.specs.Records.{RollNow, party_of, string_at}
use Rattle.nm_roll.specs.Leases.{expire_answer, lapse_in, lapse_found, lapse_of, is_due, is_reserved, deadline}
use Rattle.nm_types.specs.declared.leases.Ended.{Ended}
use Rattle.nm_roll.specs.declared.records.Confirmed.{Confirmed}
use Rattle.nm_roll.specs.declared.records.StringRow.{StringRow}

by_tests : (a b c : Bool) (end : Ended) → b ≡ true → cond (not a && not b && c) (Some end) None ≡ None
by_tests true true c end is = refl
by_tests false true c end is = refl
by_tests a false c end is = cc

pub reserved_stands : (r : RollNow) (id : List ℕ) (row : StringRow) (c : Confirmed) → string_at id r.table ≡ Some row → row.confirmed ≡ Some c
    → is_reserved (party_of row.id c) r.reservations ≡ true → expire_answer r id ≡ None
unfolding expire_answer lapse_in lapse_found is_due
reserved_stands r id row c found confirmed reserved =
    ap (lapse_in r) found
    ∙ (ap (lapse_found r row.id) confirmed
    ∙ by_tests c.lapsed (is_reserved (party_of row.id c) r.reservations) (nat_lt (deadline r.lease c.renewed) r.clock) (lapse_of r row.id c) reserved)
