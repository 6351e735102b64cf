-- What each call of the tree answers, and what it leaves. The first refusal that applies is the answer: the file or
-- directory isn't there, is of the other kind, the name can't be one, is there or isn't, a directory has entries, a limit
-- is reached.
use Rattle.std.specs.Prelude.{◌≡◌, ◌&&◌, ◌||◌, ◌^◌, not, nat_le, nat_lt, ℕ, ◌+◌, max, min, Bool, List, [], length, map, Option, Some, None, is_none, unwrap_or, option_map, Result, Ok, Err, if◌then◌else◌}
use Rattle.std.specs.Option.{option_or}
use Rattle.nm_rules.specs.Lists.{is_empty}
use Rattle.nm_rules.specs.Checks.{refuse_if, missing_stop, is_dir, is_no_dir, name_stop}
use Rattle.nm_rules.specs.Contents.{TreeNow, files_limit, size_limit, total_limit, transfer_limit, file_at, child_at, part, tree_after}
use Rattle.nm_rules.specs.Contents.FileEdit.{Wrote, Set}
use Rattle.nm_rules.specs.Contents.TreeWord.{Made, Edited}
use Rattle.nm_rules.specs.Files.{size_of, has_entries, listed, attributes_of}
use Rattle.nm_rules.specs.Past.{parent_of}
use Rattle.nm_types.specs.declared.refusal.Refusal.{Refusal}
use Rattle.nm_types.specs.declared.refusal.Refusal.TheVariants.{Status, Memory}
use Rattle.nm_types.specs.declared.results.FileAttrs.{FileAttrs}
use Rattle.nm_types.specs.declared.rows.FileKind.{FileKind}
use Rattle.nm_types.specs.declared.rows.FileRow.{FileRow}
use Rattle.nm_types.specs.declared.status.OpStatus.{OpStatus}
use Rattle.nm_types.specs.declared.status.OpStatus.TheVariants.{Stale, NotDir, IsDir, NoEnt, Exist, NotEmpty, FBig, NoSpc, Resource}
use Rattle.nm_tree.specs.Rows.{total_with}
use Rattle.nm_tree.specs.declared.listing.Listed.{Listed}

-- A call tells what its definition answers. Want of memory is free.
abbrev pub Tells : {A : Type 0} → Result A Refusal → Result A OpStatus → Type 0
Tells (Ok x) answer = answer ≡ Ok x
Tells (Err (Status status)) answer = answer ≡ Err status
Tells (Err Memory) answer = Unit {0}

-- where nothing refuses the call, it answers that
abbrev pub told : {A : Type 0} → Option OpStatus → A → Result A OpStatus
told None x = Ok x
told (Some status) x = Err status

-- ---- what they share

-- the directory has to be there, and to be one
unfoldable pub dir_stop : ℕ → List FileRow → Option OpStatus
dir_stop dir rows = option_or (missing_stop (file_at dir rows)) (refuse_if (is_no_dir (file_at dir rows)) NotDir)

-- the file has to be there, and to be none
unfoldable pub file_stop : ℕ → List FileRow → Option OpStatus
file_stop file rows = option_or (missing_stop (file_at file rows)) (refuse_if (is_dir (file_at file rows)) IsDir)

-- a name in a directory
unfoldable pub named_stop : ℕ → List ℕ → List FileRow → Option OpStatus
named_stop dir name rows = option_or (dir_stop dir rows) (name_stop name)

-- No change is counted past the last number.
abbrev pub changes_end : TreeNow → Bool
changes_end t = nat_le (2 ^ 63) t.change

-- nor a file made, nor more than there may be
abbrev pub makes_end : TreeNow → Bool
makes_end t = changes_end t || nat_le (2 ^ 63) t.last_file || nat_le files_limit (length t.table)

-- ---- names

unfoldable pub find_stop : ℕ → List ℕ → List FileRow → Option OpStatus
find_stop dir name rows = option_or (named_stop dir name rows) (refuse_if (is_none (child_at dir name rows)) NoEnt)

-- the number of the file of that name
unfoldable pub find_answer : ℕ → List ℕ → List FileRow → Result ℕ OpStatus
find_answer dir name rows = told (find_stop dir name rows) (unwrap_or (child_at dir name rows) 0)

unfoldable pub make_stop : TreeNow → ℕ → List ℕ → Option OpStatus
make_stop t dir name = option_or (named_stop dir name t.table)
    (option_or (refuse_if (not (is_none (child_at dir name t.table))) Exist) (refuse_if (makes_end t) Resource))

-- the number of the file or directory that is made
unfoldable pub make_answer : TreeNow → ℕ → List ℕ → Result ℕ OpStatus
make_answer t dir name = told (make_stop t dir name) (t.last_file + 1)

-- which has no bytes
unfoldable pub after_make : TreeNow → ℕ → List ℕ → FileKind → ℕ → Option ℕ → TreeNow
after_make t dir name kind mode verifier = tree_after (Made (record {
  number = t.last_file + 1;
  parent = dir;
  name = name;
  kind = kind;
  mode = mode;
  change = 0;
  verifier = verifier;
  bytes = [];
})) t

unfoldable pub remove_stop : TreeNow → ℕ → List ℕ → Option OpStatus
remove_stop t dir name = option_or (find_stop dir name t.table)
    (option_or (refuse_if (has_entries (unwrap_or (child_at dir name t.table) 0) t.table) NotEmpty) (refuse_if (changes_end t) Resource))

-- the number of the file that goes
unfoldable pub remove_answer : TreeNow → ℕ → List ℕ → Result ℕ OpStatus
remove_answer t dir name = told (remove_stop t dir name) (unwrap_or (child_at dir name t.table) 0)

-- ---- bytes

-- the bytes of that file, and none where it isn't there
unfoldable pub bytes_at : ℕ → List FileRow → List ℕ
bytes_at file rows = unwrap_or (option_map (λ row. row.bytes) (file_at file rows)) []

-- at most 64 KiB, and whether the file ends with them
unfoldable pub read_part : ℕ → ℕ → List ℕ → List ℕ × Bool
read_part offset count bytes =
    (part offset (min count transfer_limit) bytes, nat_le (length bytes) (offset + length (part offset (min count transfer_limit) bytes)))

unfoldable pub read_answer : ℕ → ℕ → ℕ → List FileRow → Result (List ℕ × Bool) OpStatus
read_answer file offset count rows = told (file_stop file rows) (read_part offset count (bytes_at file rows))

-- the size of a file that gets these bytes: none leave it as it is
abbrev pub size_with : ℕ → List ℕ → ℕ → ℕ
size_with offset bytes before = if is_empty bytes then before else max before (offset + length bytes)

unfoldable pub write_stop : TreeNow → ℕ → ℕ → List ℕ → Option OpStatus
write_stop t file offset bytes = option_or (file_stop file t.table)
    (option_or (refuse_if (nat_lt size_limit (offset + length bytes)) FBig)
    (option_or (refuse_if (nat_lt total_limit (total_with file (size_with offset bytes (size_of (file_at file t.table))) t.table)) NoSpc)
    (refuse_if (not (is_empty bytes) && changes_end t) Resource)))

unfoldable pub write_answer : TreeNow → ℕ → ℕ → List ℕ → Result (Unit {0}) OpStatus
write_answer t file offset bytes = told (write_stop t file offset bytes) tt

-- A write of no bytes changes nothing.
unfoldable pub after_write : TreeNow → ℕ → ℕ → List ℕ → TreeNow
after_write t file offset bytes =
    if is_empty bytes then t else tree_after (Edited (parent_of (file_at file t.table)) file (Wrote offset bytes)) t

unfoldable pub size_stop : TreeNow → ℕ → ℕ → Option OpStatus
size_stop t file size = option_or (file_stop file t.table)
    (option_or (refuse_if (nat_lt size_limit size) FBig)
    (option_or (refuse_if (nat_lt total_limit (total_with file size t.table)) NoSpc)
    (refuse_if (changes_end t) Resource)))

unfoldable pub size_answer : TreeNow → ℕ → ℕ → Result (Unit {0}) OpStatus
size_answer t file size = told (size_stop t file size) tt

unfoldable pub after_size : TreeNow → ℕ → ℕ → TreeNow
after_size t file size = tree_after (Edited (parent_of (file_at file t.table)) file (Set (Some size) None)) t

-- ---- listings

abbrev pub listed_as : FileRow → Listed
listed_as row = record { name = row.name; file = row.number }

-- the entries of a directory past a number, by rising number
unfoldable pub list_answer : ℕ → ℕ → List FileRow → Result (List Listed) OpStatus
list_answer dir after rows = told (dir_stop dir rows) (map listed_as (listed dir after rows))

abbrev pub attrs_of : Option FileRow → Result FileAttrs OpStatus
attrs_of None = Err Stale
attrs_of (Some row) = Ok (attributes_of row)

unfoldable pub attrs_answer : ℕ → List FileRow → Result FileAttrs OpStatus
attrs_answer file rows = attrs_of (file_at file rows)
