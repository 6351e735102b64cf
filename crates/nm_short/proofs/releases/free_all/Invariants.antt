use Rattle.std.proofs.Common.{◌≡◌, take, drop, length}
use Rattle.nm_short.specs.Tables.{frees_all_to}
use Rattle.nm_short.proofs.ReleaseLemmas.{behind}
use Rattle.nm_short.proofs.releases.free_all.Given as goal

-- what came of the file systems so far, and what comes of those that are left, is what comes of all
abbrev pub invariant-loop-at : goal.invariant-loop-at
invariant-loop-at l = record {
  count : length l.files.items ≡ length l.fn.files.items;
  freed : behind (take l.at l.files.items) (frees_all_to (drop l.at l.files.items) l.server l.call) ≡ frees_all_to l.fn.files.items l.fn.server l.fn.call;
}
