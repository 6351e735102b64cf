use Rattle.nm_slot.proofs.OneHolder.{one_at_most, columns, same_histories}
use Rattle.nm_slot.proofs.laws.one_holder.Goals as goal

pub returns-clause-at_most_one : goal.returns-clause-at_most_one
returns-clause-at_most_one c home h it s r first second = one_at_most home h it s r first second

pub returns-clause-columns : goal.returns-clause-columns
returns-clause-columns c home h it s = columns home h it s

pub returns-clause-histories : goal.returns-clause-histories
returns-clause-histories c home h = same_histories home h
