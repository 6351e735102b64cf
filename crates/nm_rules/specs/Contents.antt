-- The files and directories of a file system, their names and their bytes.
use Rattle.std.specs.Prelude.{◌==◌, ◌&&◌, not, ℕ, ◌+◌, ◌-◌, Bool, true, false, List, [], ◌∷◌, ◌++◌, length, take, drop, replicate, map, filter, find, Option, Some, None, option_map, unwrap_or, if◌then◌else◌}
use Rattle.std.specs.Str.{bytes_eq}
use Rattle.nm_types.specs.declared.rows.FileKind.{FileKind}
use Rattle.nm_types.specs.declared.rows.FileKind.TheVariants.{File, Directory}
use Rattle.nm_types.specs.declared.rows.FileRow.{FileRow}

-- Files and directories by rising number, the greatest number that one was given, and the number of the latest change.
-- The root is file 1, and the first one that is made has number 16.
pub record TreeNow : Type 0 where
  pub table : List FileRow
  pub last_file : ℕ
  pub change : ℕ

-- ---- limits

-- the files of a file system, directories and the root among them
abbrev pub files_limit : ℕ
files_limit = 4096

-- the bytes of a file
abbrev pub size_limit : ℕ
size_limit = 1048576

-- the bytes of all files of a file system
abbrev pub total_limit : ℕ
total_limit = 67108864

-- the bytes of one READ or WRITE
abbrev pub transfer_limit : ℕ
transfer_limit = 65536

-- ---- rows

-- file 1, which has no name, with mode 0755
abbrev pub root_row : FileRow
root_row = record { number = 1; parent = 1; name = []; kind = Directory; mode = 493; change = 0; verifier = None; bytes = [] }

abbrev pub empty_tree : TreeNow
empty_tree = record { table = root_row ∷ []; last_file = 15; change = 0 }

unfoldable pub is_directory : FileKind → Bool
is_directory File = false
is_directory Directory = true

-- the file or directory with that number
unfoldable pub file_at : ℕ → List FileRow → Option FileRow
file_at number rows = find (λ row. row.number == number) rows

-- The row is an entry of the directory. The root is none of its own.
abbrev pub is_entry_of : ℕ → FileRow → Bool
is_entry_of dir row = (row.parent == dir) && not (row.number == 1)

abbrev pub is_named : ℕ → List ℕ → FileRow → Bool
is_named dir name row = is_entry_of dir row && bytes_eq row.name name

-- the number of the file of that name in a directory
unfoldable pub child_at : ℕ → List ℕ → List FileRow → Option ℕ
child_at dir name rows = option_map (λ row. row.number) (find (is_named dir name) rows)

-- the name of the file with that number, and no bytes where there is none
unfoldable pub name_at : ℕ → List FileRow → List ℕ
name_at number rows = unwrap_or (option_map (λ row. row.name) (file_at number rows)) []

-- the bytes of all files
unfoldable pub total_size : List FileRow → ℕ
total_size [] = 0
total_size (row ∷ rows) = length row.bytes + total_size rows

-- ---- bytes

-- so many bytes from an offset, or as many as there are
unfoldable pub part : ℕ → ℕ → List ℕ → List ℕ
part offset count bytes = take count (drop offset bytes)

-- as long as that: cut, or filled up with 0
unfoldable pub sized : ℕ → List ℕ → List ℕ
sized size bytes = take size bytes ++ replicate (size - length bytes) 0

-- With other bytes from an offset on. Bytes that were never written are 0.
unfoldable pub written : ℕ → List ℕ → List ℕ → List ℕ
written offset new bytes = sized offset bytes ++ (new ++ drop (offset + length new) bytes)

-- what is written of the bytes that a WRITE brings
unfoldable pub taken : List ℕ → List ℕ
taken bytes = take transfer_limit bytes

-- ---- changes

-- what a call does to a file
pub data FileEdit : Type 0 where
  -- bytes from an offset on
  Wrote : ℕ → List ℕ → FileEdit
  -- its size and its mode, those that are set
  Set : Option ℕ → Option ℕ → FileEdit

unfoldable pub edited : FileEdit → FileRow → FileRow
edited (Wrote offset new) row = record row { bytes = written offset new row.bytes }
edited (Set None None) row = row
edited (Set None (Some mode)) row = record row { mode = mode }
edited (Set (Some size) None) row = record row { bytes = sized size row.bytes }
edited (Set (Some size) (Some mode)) row = record row { mode = mode; bytes = sized size row.bytes }

-- how the tree changes
pub data TreeWord : Type 0 where
  Untouched : TreeWord
  -- a file or directory is made
  Made : FileRow → TreeWord
  -- in that directory the file with that number is edited
  Edited : ℕ → ℕ → FileEdit → TreeWord
  -- from that directory that name goes
  Removed : ℕ → List ℕ → TreeWord

-- the row with that number takes the number of a change
abbrev pub stamped : ℕ → ℕ → FileRow → FileRow
stamped change number row = if row.number == number then record row { change = change } else row

-- the file is edited and takes the number of the change, and so does its directory
abbrev pub edited_at : ℕ → ℕ → ℕ → FileEdit → FileRow → FileRow
edited_at change dir number edit row =
    if row.number == number then record (edited edit row) { change = change } else stamped change dir row

-- Each change has the next number. The file and its directory take it.
unfoldable pub tree_after : TreeWord → TreeNow → TreeNow
tree_after Untouched tree = tree
tree_after (Made row) tree = record {
  table = map (stamped (tree.change + 1) row.parent) tree.table ++ record row { change = tree.change + 1 } ∷ [];
  last_file = tree.last_file + 1;
  change = tree.change + 1;
}
tree_after (Edited dir number edit) tree = record tree {
  table = map (edited_at (tree.change + 1) dir number edit) tree.table;
  change = tree.change + 1;
}
tree_after (Removed dir name) tree = record tree {
  table = map (stamped (tree.change + 1) dir) (filter (λ row. not (is_named dir name row)) tree.table);
  change = tree.change + 1;
}

-- ---- what a word leaves under each key; the change has that number

-- of the file with a number
unfoldable pub file_left : TreeWord → ℕ → ℕ → Option FileRow → Option FileRow
file_left Untouched change k before = before
file_left (Made row) change k None = if row.number == k then Some (record row { change = change }) else None
file_left (Made row) change k (Some old) = Some (stamped change row.parent old)
file_left (Edited dir number edit) change k before = option_map (edited_at change dir number edit) before
file_left (Removed dir name) change k None = None
file_left (Removed dir name) change k (Some row) = if is_named dir name row then None else Some (stamped change dir row)

-- of the file of a name in a directory
unfoldable pub child_left : TreeWord → ℕ → List ℕ → Option ℕ → Option ℕ
child_left Untouched dir name before = before
child_left (Made row) dir name None = if is_named dir name row then Some row.number else None
child_left (Made row) dir name (Some number) = Some number
child_left (Edited _ _ _) dir name before = before
child_left (Removed its_dir gone) dir name before = if (its_dir == dir) && bytes_eq gone name then None else before

abbrev pub last_file_left : TreeWord → ℕ → ℕ
last_file_left Untouched last = last
last_file_left (Made row) last = last + 1
last_file_left (Edited _ _ _) last = last
last_file_left (Removed _ _) last = last

abbrev pub change_left : TreeWord → ℕ → ℕ
change_left Untouched change = change
change_left (Made row) change = change + 1
change_left (Edited _ _ _) change = change + 1
change_left (Removed _ _) change = change + 1
