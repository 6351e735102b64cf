use Rattle.std.proofs.Common.{◌<◌, subst, sym}
use Rattle.nm_rules.specs.Seen.{Seen}
use Rattle.nm_state.specs.Locking.{after_locks}
use Rattle.nm_state.proofs.tables.Tables.give_new.Goals as goal

pub draw-requires : goal.draw-requires
unfolding after_locks
draw-requires c = subst (λ (x : Seen). x.last < 9223372036854775808) (sym c.in_ok-claim.ensures) c.requires.room
