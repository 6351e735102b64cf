use Rattle.std.proofs.Common.{◌≡◌, ◌++◌, take, true}
use Rattle.std.specs.List.{flat_map}
use Rattle.nm_xdr.specs.Items.{flag}
use Rattle.nm_results.specs.Directories.{entry}
use Rattle.nm_results.proofs.directories.put_entries.Given as goal

-- those so far are put
abbrev pub invariant-loop-entry : goal.invariant-loop-entry
invariant-loop-entry l = l.writer ≡ l.initial.writer ++ flat_map (λ e. flag true ++ entry e) (take l.entry-index l.entries)
