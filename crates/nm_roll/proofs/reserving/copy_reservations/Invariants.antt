use Rattle.std.proofs.Common.{◌≡◌, take}
use Rattle.nm_roll.proofs.reserving.copy_reservations.Given as goal

-- the copies so far are the reservations so far
abbrev pub invariant-loop-reservation : goal.invariant-loop-reservation
invariant-loop-reservation l = l.copies.items ≡ take l.reservation-index l.reservations
