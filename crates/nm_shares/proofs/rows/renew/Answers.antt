use Rattle.nm_shares.proofs.RowLemmas.{changed_to}
use Rattle.nm_shares.proofs.rows.renew.Goals as goal

pub returns : goal.returns
returns c = λ last rising. rw c.change_each.ensures (changed_to c.args.counter c.args.change last c.args.rows.now.items rising)
