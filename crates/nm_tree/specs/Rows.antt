-- What `Tree` keeps, and what its passes over the rows make of them.
use Rattle.std.specs.Prelude.{◌≡◌, ◌≤◌, ◌==◌, ◌^◌, true, ℕ, ◌+◌, ◌-◌, Bool, List, [], ◌∷◌, Option, Some, None, if◌then◌else◌}
use Rattle.nm_rules.specs.Contents.{TreeNow, FileEdit, edited, total_limit, total_size, file_at}
use Rattle.nm_rules.specs.Contents.FileEdit.{Set}
use Rattle.nm_rules.specs.Files.{size_of}
use Rattle.nm_rules.specs.Sound.{files_rise}
use Rattle.nm_types.specs.declared.rows.FileRow.{FileRow}

-- What always holds of the tree: numbers rise, no counter is past the last value 2^63, and the bytes of all files are
-- within their limit.
pub record IsTree (tree : TreeNow) : Type 0 where
  pub numbers : files_rise 0 tree.last_file tree.table ≡ true
  pub files : tree.last_file ≤ 2 ^ 63
  pub changes : tree.change ≤ 2 ^ 63
  pub sizes : total_size tree.table ≤ total_limit

abbrev pub has_number : ℕ → FileRow → Bool
has_number number row = row.number == number

-- the first row of that number has those bytes
unfoldable pub put_first : ℕ → List ℕ → List FileRow → List FileRow
put_first number bytes [] = []
put_first number bytes (row ∷ rows) =
    if row.number == number then record row { bytes = bytes } ∷ rows else row ∷ put_first number bytes rows

-- the first row of that number is edited
unfoldable pub edit_first : ℕ → FileEdit → List FileRow → List FileRow
edit_first number edit [] = []
edit_first number edit (row ∷ rows) =
    if row.number == number then edited edit row ∷ rows else row ∷ edit_first number edit rows

-- the first row of that number has that size, where one is given
unfoldable pub resized : ℕ → Option ℕ → List FileRow → List FileRow
resized number None rows = rows
resized number (Some size) rows = edit_first number (Set (Some size) None) rows

-- the bytes of all files, where one gets as long as that
abbrev pub total_with : ℕ → ℕ → List FileRow → ℕ
total_with number size rows = total_size rows + (size - size_of (file_at number rows))
