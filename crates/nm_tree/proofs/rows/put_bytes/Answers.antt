use Rattle.std.proofs.Common.{sym, ap, ◌∙◌}
use Rattle.std.specs.List.{position}
use Rattle.nm_tree.specs.Rows.{has_number}
use Rattle.nm_tree.proofs.TreeLemmas.{put_found, put_missing}
use Rattle.nm_tree.proofs.rows.put_bytes.Goals as goal

pub returns-in-Some : goal.returns-in-Some
returns-in-Some c =
    put_found c.args.number c.args.bytes c.args.rows.now.items c.in-Some.at c.index_mut.result.now
    (ap (position (has_number c.args.number)) (sym c.deref.ensures.value) ∙ sym c.in-Some.ensures) c.index_mut.ensures.value

pub returns-in_default : goal.returns-in_default
returns-in_default c =
    sym (put_missing c.args.number c.args.bytes c.args.rows.now.items (ap (position (has_number c.args.number)) (sym c.deref.ensures.value) ∙ sym c.in_default.ensures))
