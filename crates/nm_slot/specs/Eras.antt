-- In which eras a server has seen the instances that have something in a file system. The server's roll gives each record of a
-- client an era, a later record a greater one. What an instance has here is of one era: a call of an earlier one, or of one that
-- has ended, comes too late, and the first call of a later one begins anew.
use Rattle.std.specs.Prelude.{ℕ, Bool, true, false, ◌==◌, ◌&&◌, ◌||◌, nat_lt, nat_le, not, max, List, [], ◌∷◌, ◌++◌, Option, Some, None, find, filter, if◌then◌else◌}
use Rattle.nm_types.specs.declared.leases.LeasePass.{LeasePass}
use Rattle.nm_rules.specs.Answer.{answer_to}
use Rattle.nm_rules.specs.Holders.{holders}
use Rattle.nm_types.specs.Parties.{Party, same_party}
use Rattle.nm_rules.specs.Seen.{Seen, after}
use Rattle.nm_types.specs.declared.calls.Event.TheVariants.{Ended}
use Rattle.nm_slot.specs.declared.eras.EraRow.{EraRow}

-- ---- what is known of an instance

abbrev pub is_of : Party → EraRow → Bool
is_of party row = same_party party row.instance

abbrev pub unseen : Party → EraRow
unseen party = record { instance = party; era = 0; swept = None }

abbrev pub row_found : Party → Option EraRow → EraRow
row_found party None = unseen party
row_found party (Some row) = row

unfoldable pub row_of : Party → List EraRow → EraRow
row_of party rows = row_found party (find (is_of party) rows)

-- a row comes last, in the place of that of its instance
abbrev pub put_row : EraRow → List EraRow → List EraRow
put_row row rows = filter (λ x. not (is_of row.instance x)) rows ++ row ∷ []

-- that era was swept, and so ended
abbrev pub is_swept_at : ℕ → Option ℕ → Bool
is_swept_at era None = false
is_swept_at era (Some swept) = swept == era

-- an era not below that one was swept
abbrev pub is_swept_from : ℕ → Option ℕ → Bool
is_swept_from era None = false
is_swept_from era (Some swept) = nat_le era swept

-- the era in which it was seen last has ended
unfoldable pub has_ended : EraRow → Bool
has_ended row = is_swept_at row.era row.swept

-- what is of that era comes too late: a later one was seen, or that one has ended
unfoldable pub comes_late : ℕ → EraRow → Bool
comes_late era row = nat_lt era row.era || ((era == row.era) && has_ended row)

-- it is seen in that era, unless it was seen in a later one
unfoldable pub noted : Party → ℕ → List EraRow → List EraRow
noted party era rows =
    let row = row_of party rows in
    if nat_lt row.era era then put_row (record row { era = era }) rows else rows

-- that era of it has ended
unfoldable pub marked : Party → ℕ → List EraRow → List EraRow
marked party era rows = put_row (record { instance = party; era = era; swept = Some era }) rows

-- ---- leases

-- a call comes too late by its lease
abbrev pub is_late : Option LeasePass → List EraRow → Bool
is_late None rows = false
is_late (Some lease) rows = comes_late lease.era (row_of lease.instance rows)

abbrev pub era_seen : Option LeasePass → List EraRow → ℕ
era_seen None rows = 0
era_seen (Some lease) rows = (row_of lease.instance rows).era

abbrev pub noted_lease : Option LeasePass → List EraRow → List EraRow
noted_lease None rows = rows
noted_lease (Some lease) rows = noted lease.instance lease.era rows

abbrev pub noted_all : List LeasePass → List EraRow → List EraRow
noted_all [] rows = rows
noted_all (pass ∷ passes) rows = noted_all passes (noted pass.instance pass.era rows)

abbrev pub later_era : Party → LeasePass → ℕ → ℕ
later_era party pass era = if same_party party pass.instance then max era pass.era else era

abbrev pub greatest_era : Party → ℕ → List LeasePass → ℕ
greatest_era party era [] = era
greatest_era party era (pass ∷ passes) = greatest_era party (later_era party pass era) passes

-- the greatest era of an instance among leases, 0 where it has none
unfoldable pub era_in : Party → List LeasePass → ℕ
era_in party passes = greatest_era party 0 passes

-- ---- whose rows end

abbrev pub one_if : Bool → Party → List Party
one_if true party = party ∷ []
one_if false party = []

-- holders whose era has ended while the file system was frozen
unfoldable pub ends_late : List EraRow → Seen → List Party
ends_late rows state = filter (λ party. has_ended (row_of party rows)) (holders state)

-- holders that came with an offer, and of whom no earlier an era was swept here than that of their lease
unfoldable pub ends_brought : List LeasePass → List EraRow → Seen → List Party
ends_brought passes rows state = filter (λ party. is_swept_from (era_in party passes) (row_of party rows).swept) (holders state)

-- what their ends leave, one after the other
abbrev pub after_ends : List Party → Seen → Seen
after_ends [] state = state
after_ends (party ∷ parties) state = after_ends parties (after state (Ended party) (answer_to state (Ended party)))
