use Rattle.std.proofs.Common.{rules, sym, ap, ◌∙◌}
use Rattle.nm_rules.specs.Contents.{file_at}
use Rattle.nm_rules.specs.Contents.FileEdit.{Wrote}
use Rattle.nm_tree.proofs.TreeLemmas.{edit_missing, write_put}
use Rattle.nm_tree.proofs.rows.write_row.Goals as goal

pub returns-in-None-clause-ok : goal.returns-in-None-clause-ok
returns-in-None-clause-ok c =
    edit_missing c.args.number (Wrote c.args.offset c.args.bytes.now) c.args.rows.now.items (ap (file_at c.args.number) (sym c.deref.ensures.value) ∙ sym c.in-None.ensures)

pub returns-clause-ok : goal.returns-clause-ok
returns-clause-ok c =
    c.put_bytes.ensures
    ∙ write_put c.args.number c.args.offset c.args.bytes.now c.in_ok-bytes-in-Some.bytes c.args.rows.now.items c.in-Some.row.now
    (ap (file_at c.args.number) (sym c.deref.ensures.value) ∙ sym c.in-Some.ensures) (search rules)
