use Rattle.nm_results.proofs.LengthLaws.{row_measured, row_unmeasured, rows_past, rows_measured}
use Rattle.std.proofs.Common.{◌++◌, true}
use Rattle.nm_xdr.specs.Items.{flag}
use Rattle.nm_results.specs.Directories.{entry, IsEntry}
use Rattle.nm_results.proofs.lengths.entries_length.Goals as goal

pub returns-in_err-entry_length : goal.returns-in_err-entry_length
returns-in_err-entry_length c =
    rw c.from_residual.ensures (row_unmeasured IsEntry (λ e. flag true ++ entry e) c.loop-entry.entry-index c.args.entries.now c.entry-item.result c.loop-entry-test.true c.entry-item.is c.in_err-entry_length.ensures)

pub returns-in_err-sum : goal.returns-in_err-sum
returns-in_err-sum c =
    rw c.from_residual-in_err-sum.ensures (
    rows_past IsEntry (λ e. flag true ++ entry e) c.loop-entry.sum c.in_ok-entry_length.field-0 c.loop-entry.entry-index c.args.entries.now c.entry-item.result
    c.loop-entry-test.true c.entry-item.is c.in_err-sum.ensures c.in_ok-entry_length.ensures c.loop-entry.invariant)

pub loop-entry-preserved : goal.loop-entry-preserved
loop-entry-preserved c =
    row_measured IsEntry (λ e. flag true ++ entry e) c.loop-entry.sum c.in_ok-entry_length.field-0 c.in_ok-sum.sum c.loop-entry.entry-index c.args.entries.now c.entry-item.result
    c.loop-entry-test.true c.entry-item.is c.in_ok-sum.ensures c.in_ok-entry_length.ensures c.loop-entry.invariant

pub returns : goal.returns
returns c = rows_measured IsEntry (λ e. flag true ++ entry e) c.loop-entry.sum c.loop-entry.entry-index c.args.entries.now c.loop-entry-test.false c.loop-entry.invariant
