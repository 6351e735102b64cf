use Rattle.std.proofs.Common.{◌++◌, true}
use Rattle.nm_xdr.specs.Items.{flag}
use Rattle.nm_results.specs.Directories.{entry, IsEntry}
use Rattle.nm_results.proofs.LengthLaws.{RowsLong}
use Rattle.nm_results.proofs.lengths.entries_length.Given as goal

-- those so far are measured
abbrev pub invariant-loop-entry : goal.invariant-loop-entry
invariant-loop-entry l = RowsLong IsEntry (λ e. flag true ++ entry e) l.sum l.entry-index l.entries
