use Rattle.std.proofs.Common.{sym}
use Rattle.nm_roll.proofs.CaseLemmas.{known_confirms, new_confirms, new_clientids}
use Rattle.nm_roll.proofs.roll.Roll.set.Goals as goal

pub give-requires-clause-room : goal.give-requires-clause-room
give-requires-clause-room c = known_confirms c.args.self.now _ _ _ _ (sym c.in-Known.ensures)

pub give_new-requires-clause-room : goal.give_new-requires-clause-room
give_new-requires-clause-room c = new_confirms c.args.self.now _ _ _ (sym c.in-New.ensures)

pub give_new-requires-clause-number : goal.give_new-requires-clause-number
give_new-requires-clause-number c = new_clientids c.args.self.now _ _ _ (sym c.in-New.ensures)
