use Rattle.std.proofs.Common.{◌≡◌, ◌++◌, take}
use Rattle.std.specs.List.{flat_map}
use Rattle.nm_args.specs.Operations.{operation}
use Rattle.nm_args.proofs.writing.put_operations.Given as goal

-- those so far are put
abbrev pub invariant-loop-op : goal.invariant-loop-op
invariant-loop-op l = l.writer ≡ l.initial.writer ++ flat_map operation (take l.op-index l.ops)
