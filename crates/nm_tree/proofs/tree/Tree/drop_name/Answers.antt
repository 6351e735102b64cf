use Rattle.nm_tree.proofs.TreeLemmas.{removed}
use Rattle.nm_tree.proofs.tree.Tree.drop_name.Goals as goal

pub invariant_of-self : goal.invariant_of-self
invariant_of-self c =
    removed (record { table = c.self.inside.rows.items; last_file = c.self.inside.last_file; change = c.self.inside.change }) c.args.self.now c.args.dir c.args.name.now c.drop_rows.new.rows.items
    c.self.invariant c.self.view_is c.requires.change c.drop_rows.ensures
