use Rattle.nm_tree.proofs.TreeLemmas.{made}
use Rattle.nm_tree.proofs.tree.Tree.add.Goals as goal

pub invariant_of-self-2 : goal.invariant_of-self-2
invariant_of-self-2 c =
    made (record { table = c.self.inside.rows.items; last_file = c.self.inside.last_file; change = c.self.inside.change }) c.args.self.now c.args.row c.add_row.new.rows.items
    c.self.invariant c.self.view_is c.requires.number c.requires.file c.requires.change c.requires.room c.in_ok-add_row.ensures.ok
