-- The printed text of byte-range locks.
use Rattle.std.specs.Prelude.{◌==◌, ℕ, ◌+◌, ◌-◌, List, ◌++◌, codes, decimal, if◌then◌else◌}
use Rattle.nm_types.specs.Calls.{greatest}
use Rattle.nm_types.specs.declared.results.Denied.{Denied}
use Rattle.nm_types.specs.declared.results.LockRange.{LockRange}
use Rattle.nm_script.specs.Grammar.{kind_word}

-- how many bytes a range has: one that has the last byte of all reaches to the end of every file, and has the greatest length
unfoldable pub length_of : LockRange → ℕ
length_of range = if range.last == greatest then greatest else range.last - range.first + 1

-- `KIND OFFSET LENGTH`
unfoldable pub range_text : LockRange → List ℕ
range_text range = kind_word range.kind ++ codes " " ++ decimal range.first ++ codes " " ++ decimal (length_of range)

-- what is in the way of a lock: `DENIED OWNER KIND OFFSET LENGTH`
unfoldable pub denied_text : Denied → List ℕ
denied_text denied = codes "DENIED " ++ denied.owner ++ codes " " ++ range_text denied.range
