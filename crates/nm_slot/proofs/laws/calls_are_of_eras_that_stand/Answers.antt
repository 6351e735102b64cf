use Rattle.nm_slot.proofs.EraLaws.{eras_are_read, ends_are_read, call_is_timely}
use Rattle.nm_slot.proofs.laws.calls_are_of_eras_that_stand.Goals as goal

pub returns-clause-seen : goal.returns-clause-seen
returns-clause-seen c home h it s party = eras_are_read home h it s party

pub returns-clause-ended : goal.returns-clause-ended
returns-clause-ended c home h it s party = ends_are_read home h it s party

pub returns-clause-timely : goal.returns-clause-timely
returns-clause-timely c home h s epoch place lease call verdict ends reply it = call_is_timely home h s epoch place lease call verdict ends reply it
