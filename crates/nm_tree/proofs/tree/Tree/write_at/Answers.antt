use Rattle.nm_tree.proofs.TreeLemmas.{wrote}
use Rattle.nm_tree.proofs.tree.Tree.write_at.Goals as goal

pub invariant_of-self-2 : goal.invariant_of-self-2
invariant_of-self-2 c =
    (wrote (record { table = c.self.inside.rows.items; last_file = c.self.inside.last_file; change = c.self.inside.change }) c.args.self.now c.args.dir c.args.number c.args.offset c.args.bytes.now
    c.write_rows.new.rows.items c.self.invariant c.self.view_is c.requires.change c.requires.room c.in_ok-write_rows.ensures.ok).is

pub returns-clause-ok : goal.returns-clause-ok
returns-clause-ok c =
    (wrote (record { table = c.self.inside.rows.items; last_file = c.self.inside.last_file; change = c.self.inside.change }) c.args.self.now c.args.dir c.args.number c.args.offset c.args.bytes.now
    c.write_rows.new.rows.items c.self.invariant c.self.view_is c.requires.change c.requires.room c.in_ok-write_rows.ensures.ok).new
