use Rattle.std.proofs.Common.{◌≡◌, ◌++◌, take}
use Rattle.std.specs.List.{flat_map}
use Rattle.nm_results.specs.Results.{result_bytes}
use Rattle.nm_results.proofs.writing.put_each.Given as goal

-- those so far are put
abbrev pub invariant-loop-item : goal.invariant-loop-item
invariant-loop-item l = l.writer ≡ l.initial.writer ++ flat_map result_bytes (take l.item-index l.results)
