use Rattle.nm_roll.proofs.LeaseLaws.{reserved_stands}
use Rattle.nm_roll.proofs.laws.reserved_leases_stand.Goals as goal

pub returns : goal.returns
returns c = reserved_stands
