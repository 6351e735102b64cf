use Rattle.std.proofs.Common.{sym, ap, ◌∙◌, true, false}
use Rattle.nm_ranges.specs.Rows.{RangesNow}
use Rattle.nm_state.proofs.RangeLemmas.{drop_one}
use Rattle.nm_state.proofs.file_ranges.drop_if.Goals as goal

pub returns-then-is_same : goal.returns-then-is_same
returns-then-is_same c =
    ap (λ (r : RangesNow). r.table) c.drop_owner.ensures
    ∙ drop_one c.args.instance.now c.args.row.now c.args.ranges.now.table true (sym c.is_same.ensures.value ∙ c.if-is_same.true)

pub returns-else-is_same : goal.returns-else-is_same
returns-else-is_same c = drop_one c.args.instance.now c.args.row.now c.args.ranges.now.table false (sym c.is_same.ensures.value ∙ c.if-is_same.false)
