-- A reply of READDIR as it is made: entry by entry, while there is room.
use Rattle.std.specs.Prelude.{◌≡◌, ◌==◌, ◌+◌, ◌++◌, ℕ, Bool, false, not, nat_le, List, Option, Some, None, find, length, map}
use Rattle.nm_rules.specs.Files.{entry_of, entry_size, fitting, is_listed, listed}
use Rattle.nm_types.specs.declared.results.DirEntry.{DirEntry}
use Rattle.nm_types.specs.declared.rows.FileRow.{FileRow}

-- The entries are those that there is room for, and whether they are all is told.
pub record IsPage (dir cookie : ℕ) (asks : Bool) (room : ℕ) (rows : List FileRow) (entries : List DirEntry) (eof : Bool) : Type 0 where
  pub told : entries ≡ map (entry_of asks) (fitting asks room (listed dir cookie rows))
  pub whole : eof ≡ (length (fitting asks room (listed dir cookie rows)) == length (listed dir cookie rows))

-- The entries so far, with those of the rest that there is room for, are those that there is room for.
pub record IsFront (dir cookie : ℕ) (asks : Bool) (room : ℕ) (rows : List FileRow) (entries : List DirEntry) (left : ℕ) (rest : List FileRow) : Type 0 where
  pub told : map (entry_of asks) (fitting asks room (listed dir cookie rows)) ≡ entries ++ map (entry_of asks) (fitting asks left (listed dir cookie rest))
  pub count : length (listed dir cookie rows) ≡ length entries + length (listed dir cookie rest)

-- the first entry behind a cookie
unfoldable pub first_listed : ℕ → ℕ → List FileRow → Option FileRow
first_listed dir cookie rows = find (is_listed dir cookie) rows

-- there is one, and no room for it
unfoldable pub has_no_room : Bool → ℕ → Option FileRow → Bool
has_no_room asks room None = false
has_no_room asks room (Some row) = not (nat_le (entry_size asks row) room)
