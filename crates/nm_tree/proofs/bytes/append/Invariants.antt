use Rattle.std.proofs.Common.{◌≡◌, ◌++◌, take}
use Rattle.nm_tree.proofs.bytes.append.Given as goal

-- what stood there, and the bytes so far
abbrev pub invariant-loop-byte : goal.invariant-loop-byte
invariant-loop-byte l = l.out ≡ l.initial.out ++ take l.byte-index l.bytes
