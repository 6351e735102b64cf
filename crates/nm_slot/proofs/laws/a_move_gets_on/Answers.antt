use Rattle.std.proofs.Common.{refl}
use Rattle.nm_slot.specs.History.{own_now}
use Rattle.nm_slot.proofs.MoveGetsOn.{commits, installs, gets_there}
use Rattle.nm_slot.proofs.laws.a_move_gets_on.Goals as goal

pub returns-clause-hands_over : goal.returns-clause-hands_over
returns-clause-hands_over c home h source dest number it frozen prepared = commits home h source dest number it frozen prepared

pub returns-clause-installs : goal.returns-clause-installs
returns-clause-installs c home h source dest number it passing = installs home h source dest number it passing

pub returns-clause-gets_there : goal.returns-clause-gets_there
returns-clause-gets_there c home h source dest it at apart room =
    gets_there (own_now home.first h source).out home h source dest it at apart room refl
