use Rattle.std.proofs.Common.{◌∙◌}
use Rattle.nm_rpc.proofs.RunLaws.{one_splitting}
use Rattle.nm_rpc.proofs.WholeLaws.{whole_splits, whole_fits}
use Rattle.nm_rpc.proofs.pieces.split_records.Goals as goal

pub returns-clause-split : goal.returns-clause-split
returns-clause-split c =
    let held = c.in_ok-records.ensures.held in
    rw c.in_ok-take_all.ensures (whole_splits c.args.limit _ c.in_ok-records.records held.0 held.1)

pub returns-clause-only : goal.returns-clause-only
returns-clause-only c = λ others rest splits.
    let held = c.in_ok-records.ensures.held in
    let found = whole_splits c.args.limit _ c.in_ok-records.records held.0 held.1 in
    c.in_ok-take_all.ensures ∙ (one_splitting _ _ _ _ _ found.1 splits).0

pub returns-clause-fits : goal.returns-clause-fits
returns-clause-fits c =
    let held = c.in_ok-records.ensures.held in
    whole_fits c.args.limit _ c.in_ok-records.records held.0 held.1
