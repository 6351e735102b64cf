use Rattle.nm_tree.proofs.TreeLemmas.{was_set}
use Rattle.nm_tree.proofs.tree.Tree.set.Goals as goal

pub invariant_of-self-2 : goal.invariant_of-self-2
invariant_of-self-2 c =
    (was_set (record { table = c.self.inside.rows.items; last_file = c.self.inside.last_file; change = c.self.inside.change }) c.args.self.now c.args.dir c.args.number c.args.size c.args.mode
    c.set_rows.new.rows.items c.self.invariant c.self.view_is c.requires.change c.requires.room c.in_ok-set_rows.ensures.ok).is

pub returns-clause-ok : goal.returns-clause-ok
returns-clause-ok c =
    (was_set (record { table = c.self.inside.rows.items; last_file = c.self.inside.last_file; change = c.self.inside.change }) c.args.self.now c.args.dir c.args.number c.args.size c.args.mode
    c.set_rows.new.rows.items c.self.invariant c.self.view_is c.requires.change c.requires.room c.in_ok-set_rows.ensures.ok).new
