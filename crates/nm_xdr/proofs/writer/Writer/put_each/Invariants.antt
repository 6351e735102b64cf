use Rattle.std.proofs.Common.{◌≡◌, ◌++◌, take}
use Rattle.std.specs.List.{flat_map}
use Rattle.nm_xdr.specs.Items.{word}
use Rattle.nm_xdr.proofs.writer.Writer.put_each.Given as goal

-- the numbers so far are put
abbrev pub invariant-loop-n : goal.invariant-loop-n
invariant-loop-n l = l.self ≡ l.initial.self ++ flat_map word (take l.n-index l.numbers)
