-- The ranges of files as they are found and counted.
use Rattle.std.specs.Prelude.{◌==◌, ◌&&◌, ℕ, ◌+◌, Bool, List, [], ◌∷◌, length, min, Option, Some, None, if◌then◌else◌}
use Rattle.nm_types.specs.declared.rows.FileLocks.{FileLocks}
use Rattle.nm_types.specs.declared.rows.Held.{Held}
use Rattle.nm_ranges.specs.Rows.{RangesNow}

-- the ranges are of that file
abbrev pub has_file : ℕ → FileLocks → Bool
has_file file x = x.file == file

-- none, where the file has no row
abbrev pub table_of : Option RangesNow → List Held
table_of None = []
table_of (Some ranges) = ranges.table

abbrev pub ranges_in : Option FileLocks → List Held
ranges_in None = []
ranges_in (Some x) = x.ranges

-- How many ranges there are with so many of a file in place of its own, while these are still to come.
unfoldable pub taken_with : ℕ → ℕ → Bool → List FileLocks → ℕ
taken_with file n waits [] = if waits then n else 0
taken_with file n waits (x ∷ xs) =
    if waits && (x.file == file) then n + taken_with file n (n == 0) xs else length x.ranges + taken_with file n waits xs

-- what a row adds, and whether those of the file are still to come behind it
abbrev pub adds : ℕ → ℕ → Bool → FileLocks → ℕ
adds file n waits x = if waits && (x.file == file) then n else length x.ranges

abbrev pub waits_after : ℕ → ℕ → Bool → FileLocks → Bool
waits_after file n waits x = if waits && (x.file == file) then n == 0 else waits

-- as 64 bits count it
abbrev pub counted : ℕ → ℕ
counted n = min n 18446744073709551615
