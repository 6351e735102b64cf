-- Names of files (RFC 7530, 12): 1 to 255 bytes, and no byte that would part a path.
use Rattle.std.specs.Prelude.{◌==◌, ◌||◌, ℕ, Bool, List, [], ◌∷◌, Option, Some, None, nat_lt, length, if◌then◌else◌}
use Rattle.std.specs.List.{list_any}
use Rattle.std.specs.Str.{bytes_eq}
use Rattle.nm_types.specs.declared.status.OpStatus.{OpStatus}
use Rattle.nm_types.specs.declared.status.OpStatus.TheVariants.{NameTooLong, BadName}

-- a slash or a zero byte
abbrev pub parts_paths : ℕ → Bool
parts_paths byte = (byte == 47) || (byte == 0)

-- `.`, `..`, or a name with such a byte
unfoldable pub is_bad_name : List ℕ → Bool
is_bad_name name = bytes_eq name (46 ∷ []) || bytes_eq name (46 ∷ 46 ∷ []) || list_any parts_paths name

-- What is wrong with a name that isn't empty.
unfoldable pub name_fault : List ℕ → Option OpStatus
name_fault name = if nat_lt 255 (length name) then Some NameTooLong else (if is_bad_name name then Some BadName else None)
