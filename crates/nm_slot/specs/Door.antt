-- What the door of a file system answers at a server, by the one phase.
use Rattle.std.specs.Prelude.{◌==◌, nat_le, ℕ, ◌^◌, if◌then◌else◌}
use Rattle.nm_slot.specs.declared.answers.Enter.{Enter}
use Rattle.nm_slot.specs.declared.answers.Enter.TheVariants as enter
use Rattle.nm_slot.specs.Answers.{turned_away}
use Rattle.nm_slot.specs.Phases.{Phase}
use Rattle.nm_slot.specs.Phases.Phase.{At, Closing, Frozen, Passing}
use Rattle.nm_slot.specs.SlotNow.{Own}

-- One may enter where the file system is served, up to 2^63 at a time. Where it closes or is frozen one is told to come
-- again, and so where an offer is held. Elsewhere one is told where it went, and where it never was that it isn't known.
unfoldable pub door_answer : ℕ → Phase → ℕ → Own → Enter
door_answer fs (At server) s own =
    if s == server
    then (if nat_le (2 ^ 63) own.out then enter.Full own.out else enter.Entered (record { fs = fs; epoch = own.epoch }))
    else turned_away own.held own.left
door_answer fs (Closing source dest number) s own = if s == source then enter.Delay else turned_away own.held own.left
door_answer fs (Frozen source dest number) s own = if s == source then enter.Delay else turned_away own.held own.left
door_answer fs (Passing source dest number) s own = turned_away own.held own.left
