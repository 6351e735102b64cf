use Rattle.std.proofs.Common.{◌≡◌, ◌++◌, drop, length}
use Rattle.nm_short.specs.Tables.{tables_at_first}
use Rattle.nm_short.proofs.run.first_files.Given as goal

-- the file systems so far and those that are left are all
abbrev pub invariant-loop-row : goal.invariant-loop-row
invariant-loop-row l = record {
  number : l.number ≡ l.row-index;
  files : l.files.items ++ tables_at_first (length l.head.servers) l.number (drop l.row-index l.head.file_systems) ≡ tables_at_first (length l.head.servers) 0 l.head.file_systems;
}
