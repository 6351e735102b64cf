-- Operations on names and on attributes that are asked (RFC 7530, 16.1, 16.4, 16.7, 16.13, 16.14, 16.24 and 16.26): when
-- each is refused, and what its OK tells.
use Rattle.std.specs.Prelude.{◌==◌, ◌&&◌, ◌||◌, ◌^◌, not, nat_le, nat_lt, ℕ, ◌+◌, ◌-◌, ◌%◌, Bool, true, false, List, [], ◌∷◌, length, filter, map, Option, Some, None, is_none, bit_and, if◌then◌else◌}
use Rattle.std.specs.List.{list_any}
use Rattle.std.specs.Option.{option_or}
use Rattle.nm_rules.specs.Lists.{is_empty}
use Rattle.nm_rules.specs.Attributes.{Asks, asks_of, asked_size, asked_mode, set_words}
use Rattle.nm_rules.specs.Checks.{Checks, nothing_stops, refuse_if, lease_stop, missing_stop, is_no_dir, arguments_fault, name_stop}
use Rattle.nm_rules.specs.Contents.{files_limit, size_limit, total_limit, file_at, child_at, is_directory, is_entry_of, total_size}
use Rattle.nm_rules.specs.Seen.{Seen}
use Rattle.nm_types.specs.declared.args.AccessArgs.{AccessArgs}
use Rattle.nm_types.specs.declared.args.CreateArgs.{CreateArgs}
use Rattle.nm_types.specs.declared.args.CreateType.{CreateType}
use Rattle.nm_types.specs.declared.args.CreateType.TheVariants as create_type
use Rattle.nm_types.specs.declared.args.GetAttrArgs.{GetAttrArgs}
use Rattle.nm_types.specs.declared.args.LookupArgs.{LookupArgs}
use Rattle.nm_types.specs.declared.args.ReadDirArgs.{ReadDirArgs}
use Rattle.nm_types.specs.declared.args.RemoveArgs.{RemoveArgs}
use Rattle.nm_types.specs.declared.calls.Verdict.{Verdict}
use Rattle.nm_types.specs.declared.results.AccessOk.{AccessOk}
use Rattle.nm_types.specs.declared.results.ChangeInfo.{ChangeInfo}
use Rattle.nm_types.specs.declared.results.Created.{Created}
use Rattle.nm_types.specs.declared.results.DirEntry.{DirEntry}
use Rattle.nm_types.specs.declared.results.FileAttrs.{FileAttrs}
use Rattle.nm_types.specs.declared.results.GetAttrOk.{GetAttrOk}
use Rattle.nm_types.specs.declared.results.ReadDirOk.{ReadDirOk}
use Rattle.nm_types.specs.declared.rows.FileRow.{FileRow}
use Rattle.nm_types.specs.declared.rows.OpenRow.{OpenRow}
use Rattle.nm_types.specs.declared.status.OpStatus.{OpStatus}
use Rattle.nm_types.specs.declared.status.OpStatus.TheVariants.{NotDir, NoEnt, Exist, NotSupp, BadType, NotSame, NotEmpty, FileOpen, FBig, NoSpc, Resource, TooSmall}

-- ---- what they share

-- the current file, where it is there
abbrev pub current : Seen → ℕ → Option FileRow
current s file = file_at file s.tree.table

-- the file of that name in the current directory
abbrev pub child : Seen → ℕ → List ℕ → Option ℕ
child s dir name = child_at dir name s.tree.table

-- operations on a file that is there, whatever it is
unfoldable pub file_checks : Seen → ℕ → Verdict → Checks
file_checks s file verdict = record nothing_stops {
  lease = lease_stop verdict;
  missing = missing_stop (current s file);
}

-- operations on a directory
unfoldable pub dir_checks : Seen → ℕ → Verdict → Checks
dir_checks s dir verdict = record (file_checks s dir verdict) { kind = refuse_if (is_no_dir (current s dir)) NotDir }

-- No change is counted past the last number, 2^63.
abbrev pub changes_past_end : Seen → Bool
changes_past_end s = nat_le (2 ^ 63) s.tree.change

-- nor a file made, nor more than there may be
abbrev pub makes_past_end : Seen → Bool
makes_past_end s = changes_past_end s || nat_le (2 ^ 63) s.tree.last_file || nat_le files_limit (length s.tree.table)

abbrev pub size_of : Option FileRow → ℕ
size_of None = 0
size_of (Some row) = length row.bytes

-- With that size of a file the bytes of all files are too many.
abbrev pub fills_up : Seen → ℕ → ℕ → Bool
fills_up s before size = nat_lt total_limit (total_size s.tree.table + (size - before))

-- the size that a file is to have
unfoldable pub sized_limit : Seen → Option FileRow → Option ℕ → Option OpStatus
sized_limit s row None = None
sized_limit s row (Some size) =
    option_or (refuse_if (nat_lt size_limit size) FBig) (refuse_if (fills_up s (size_of row) size) NoSpc)

abbrev pub change_of : Option FileRow → ℕ
change_of None = 0
change_of (Some row) = row.change

-- a directory's numbers around the change of it that comes next
abbrev pub changed_dir : Seen → ℕ → ChangeInfo
changed_dir s dir = record { before = change_of (current s dir); after = s.tree.change + 1 }

-- ---- ACCESS

-- Read, lookup, modify, extend, delete and execute can be told, and everyone has them.
abbrev pub told_rights : ℕ
told_rights = 63

unfoldable pub access_value : AccessArgs → Option AccessOk
access_value args = Some (record { supported = bit_and args.access told_rights; access = bit_and args.access told_rights })

-- ---- GETATTR

abbrev pub kind_number : Bool → ℕ
kind_number true = 2
kind_number false = 1

unfoldable pub attributes_of : FileRow → FileAttrs
attributes_of row = record {
  kind = kind_number (is_directory row.kind);
  mode = row.mode;
  size = length row.bytes;
  change = row.change;
  file = row.number;
}

abbrev pub getattr_value : Option FileRow → GetAttrArgs → Option GetAttrOk
getattr_value None args = None
getattr_value (Some row) args = Some (record { attributes = attributes_of row; words = args.words })

-- ---- LOOKUP and LOOKUPP

unfoldable pub lookup_checks : Seen → ℕ → LookupArgs → Verdict → Checks
lookup_checks s dir args verdict = record (dir_checks s dir verdict) {
  arguments = name_stop args.name;
  name = refuse_if (is_none (child s dir args.name)) NoEnt;
}

-- ---- CREATE

-- what CREATE doesn't make
unfoldable pub type_fault : CreateType → Option OpStatus
type_fault create_type.Directory = None
type_fault (create_type.Link _) = Some NotSupp
type_fault _ = Some BadType

abbrev pub is_some_size : Option ℕ → Bool
is_some_size None = false
is_some_size (Some _) = true

-- a directory has no size to set
unfoldable pub sizes_directory : CreateType → Asks → Bool
sizes_directory create_type.Directory asks = is_some_size (asked_size asks)
sizes_directory _ asks = false

unfoldable pub create_fault : CreateArgs → Option OpStatus
create_fault args = option_or
    (arguments_fault (sizes_directory args.kind (asks_of args.attributes)) args.name (asks_of args.attributes))
    (type_fault args.kind)

unfoldable pub create_checks : Seen → ℕ → CreateArgs → Verdict → Checks
create_checks s dir args verdict = record (dir_checks s dir verdict) {
  arguments = create_fault args;
  name = refuse_if (not (is_none (child s dir args.name))) Exist;
  limit = refuse_if (makes_past_end s) Resource;
}

unfoldable pub create_value : Seen → ℕ → CreateArgs → Option Created
create_value s dir args = Some (record {
  ok = record { cinfo = changed_dir s dir; attrset = set_words None (asked_mode (asks_of args.attributes)) };
  file = s.tree.last_file + 1;
})

-- ---- REMOVE

-- some open of the file stands
unfoldable pub is_open : ℕ → List OpenRow → Bool
is_open file rows = list_any (λ row. row.file == file) rows

-- some file is in the directory
unfoldable pub has_entries : ℕ → List FileRow → Bool
has_entries dir rows = list_any (is_entry_of dir) rows

abbrev pub remove_conflict : Seen → Option ℕ → Option OpStatus
remove_conflict s None = None
remove_conflict s (Some file) = option_or (refuse_if (is_open file s.opens) FileOpen) (refuse_if (has_entries file s.tree.table) NotEmpty)

unfoldable pub remove_checks : Seen → ℕ → RemoveArgs → Verdict → Checks
remove_checks s dir args verdict = record (dir_checks s dir verdict) {
  arguments = name_stop args.name;
  name = refuse_if (is_none (child s dir args.name)) NoEnt;
  conflict = remove_conflict s (child s dir args.name);
  limit = refuse_if (changes_past_end s) Resource;
}

-- ---- READDIR

-- An entry's cookie is its number. The entries behind a cookie come by rising number.
abbrev pub is_listed : ℕ → ℕ → FileRow → Bool
is_listed dir cookie row = is_entry_of dir row && nat_lt cookie row.number

unfoldable pub listed : ℕ → ℕ → List FileRow → List FileRow
listed dir cookie rows = filter (is_listed dir cookie) rows

-- an attribute is asked
unfoldable pub asks_any : List ℕ → Bool
asks_any words = list_any (λ word. not (word == 0)) words

-- A reply counts 16 bytes, and each entry 24, its name up to a multiple of 4, and 256 more where an attribute is asked.
abbrev pub reply_size : ℕ
reply_size = 16

unfoldable pub entry_size : Bool → FileRow → ℕ
entry_size asks row = 24 + (length row.name + (4 - length row.name % 4) % 4) + (if asks then 256 else 0)

-- as many of the entries as there is room for
unfoldable pub fitting : Bool → ℕ → List FileRow → List FileRow
fitting asks room [] = []
fitting asks room (row ∷ rows) =
    if nat_le (entry_size asks row) room then row ∷ fitting asks (room - entry_size asks row) rows else []

-- there are entries, and not even the first has room
abbrev pub is_too_small : List FileRow → List FileRow → Bool
is_too_small rows fit = not (is_empty rows) && is_empty fit

unfoldable pub readdir_rows : Seen → ℕ → ReadDirArgs → List FileRow
readdir_rows s dir args =
    fitting (asks_any args.words) (args.maxcount - reply_size) (listed dir args.cookie s.tree.table)

unfoldable pub readdir_checks : Seen → ℕ → ReadDirArgs → Verdict → Checks
readdir_checks s dir args verdict = record (dir_checks s dir verdict) {
  arguments = refuse_if (not (args.verifier == 0)) NotSame;
  limit = refuse_if (is_too_small (listed dir args.cookie s.tree.table) (readdir_rows s dir args)) TooSmall;
}

abbrev pub entry_of : Bool → FileRow → DirEntry
entry_of asks row = record { cookie = row.number; name = row.name; attributes = if asks then Some (attributes_of row) else None }

unfoldable pub readdir_value : Seen → ℕ → ReadDirArgs → Option ReadDirOk
readdir_value s dir args = Some (record {
  words = args.words;
  entries = map (entry_of (asks_any args.words)) (readdir_rows s dir args);
  eof = length (readdir_rows s dir args) == length (listed dir args.cookie s.tree.table);
})
