-- What a file is and has, in the standard's words, read off the entries alone (RFC 7530, 16.4, 16.16, 16.32 and 16.36).
use Rattle.std.specs.Prelude.{◌≡◌, ◌==◌, ◌&&◌, not, nat_le, nat_lt, ℕ, ◌+◌, ◌-◌, max, List, [], ◌∷◌, length, get_or, Option, Some, None, unwrap_or, if◌then◌else◌}
use Rattle.nm_rules.specs.Lists.{is_empty}
use Rattle.nm_rules.specs.Attributes.{asks_of, asked_size, asked_mode}
use Rattle.nm_rules.specs.Contents.{taken}
use Rattle.nm_rules.specs.Past.{Past, Now, now, acts, claimed_in, claimed_name, opentype_asks, cuts}
use Rattle.nm_types.specs.declared.args.OpenArgs.{OpenArgs}
use Rattle.nm_types.specs.declared.calls.Deed.{Deed}
use Rattle.nm_types.specs.declared.calls.Deed.TheVariants as deed
use Rattle.nm_types.specs.declared.calls.Event.{Event}
use Rattle.nm_types.specs.declared.calls.Event.TheVariants.{Asked, Ended}
use Rattle.nm_types.specs.declared.calls.Reply.{Reply}
use Rattle.nm_types.specs.declared.calls.ReplyValue.{ReplyValue}
use Rattle.nm_types.specs.declared.calls.ReplyValue.TheVariants as told
use Rattle.nm_types.specs.declared.rows.FileRow.{FileRow}

-- what an entry does to a file
pub data FileChange : Type 0 where
  Leaves : FileChange
  -- it is made, in that directory, with that name, of that size and mode
  Makes : ℕ → List ℕ → ℕ → ℕ → FileChange
  -- these bytes are written from an offset on
  Writes : ℕ → List ℕ → FileChange
  -- its size and its mode, those that are set
  Sets : Option ℕ → Option ℕ → FileChange

-- An OPEN that acted makes the file that its name missed, and an UNCHECKED one with size 0 cuts one that is there.
abbrev pub open_change : ℕ → OpenArgs → Option ℕ → FileChange
open_change dir args None = Makes dir (unwrap_or (claimed_name args.claim) [])
    (unwrap_or (asked_size (opentype_asks args.opentype)) 0) (unwrap_or (asked_mode (opentype_asks args.opentype)) 420)
open_change dir args (Some _) = if cuts args.opentype then Sets (Some 0) None else Leaves

-- what an operation that acted does to the file
abbrev pub deed_change : Now → ℕ → ℕ → Deed → ReplyValue → FileChange
deed_change n file its (deed.Create args) (told.Create (Some created)) =
    if created.file == file then Makes its args.name 0 (unwrap_or (asked_mode (asks_of args.attributes)) 493) else Leaves
deed_change n file its (deed.Open args) (told.Open (Some opened)) =
    if opened.file == file then open_change its args (claimed_in n.child_by its (claimed_name args.claim)) else Leaves
deed_change n file its (deed.SetAttr args) (told.SetAttr words) =
    if (its == file) && not (is_empty words)
    then Sets (asked_size (asks_of args.attributes)) (asked_mode (asks_of args.attributes)) else Leaves
deed_change n file its (deed.Write args) (told.Write (Some _)) =
    if (its == file) && not (is_empty (taken args.«data»)) then Writes args.offset (taken args.«data») else Leaves
deed_change n file its _ _ = Leaves

abbrev pub change_of : Now → ℕ → Event → Reply → FileChange
change_of n file (Asked call verdict) r = if acts n call r then deed_change n file call.file call.deed r.value else Leaves
change_of n file (Ended party) r = Leaves

-- ---- the byte at a place: that of the latest acting WRITE that covers it, since the file was made and since the latest
-- acting size change that cut it, else 0

abbrev pub byte_after : FileChange → ℕ → ℕ → ℕ
byte_after Leaves p before = before
byte_after (Makes _ _ _ _) p before = 0
byte_after (Writes offset new) p before = if nat_le offset p && nat_lt p (offset + length new) then get_or new (p - offset) 0 else before
byte_after (Sets None mode) p before = before
byte_after (Sets (Some size) mode) p before = if nat_le size p then 0 else before

unfoldable pub byte_of : Past → ℕ → ℕ → ℕ
byte_of [] file p = 0
byte_of (x ∷ earlier) file p = byte_after (change_of (now earlier) file x.event x.reply) p (byte_of earlier file p)

-- ---- the size: that of the latest acting size change, or of the making, and as much more as later WRITEs reach

abbrev pub size_after : FileChange → ℕ → ℕ
size_after Leaves before = before
size_after (Makes _ _ size _) before = size
size_after (Writes offset new) before = max before (offset + length new)
size_after (Sets None mode) before = before
size_after (Sets (Some size) mode) before = size

unfoldable pub size_of : Past → ℕ → ℕ
size_of [] file = 0
size_of (x ∷ earlier) file = size_after (change_of (now earlier) file x.event x.reply) (size_of earlier file)

-- ---- the mode: that of the latest acting SETATTR of one, or of the making

abbrev pub mode_after : FileChange → ℕ → ℕ
mode_after Leaves before = before
mode_after (Makes _ _ _ mode) before = mode
mode_after (Writes _ _) before = before
mode_after (Sets size None) before = before
mode_after (Sets size (Some mode)) before = mode

-- the root's mode is 0755
unfoldable pub mode_of : Past → ℕ → ℕ
mode_of [] file = 493
mode_of (x ∷ earlier) file = mode_after (change_of (now earlier) file x.event x.reply) (mode_of earlier file)

-- ---- the name and the directory: those of the making

abbrev pub name_after : FileChange → List ℕ → List ℕ
name_after (Makes dir name size mode) before = name
name_after _ before = before

unfoldable pub name_of : Past → ℕ → List ℕ
name_of [] file = []
name_of (x ∷ earlier) file = name_after (change_of (now earlier) file x.event x.reply) (name_of earlier file)

abbrev pub dir_after : FileChange → ℕ → ℕ
dir_after (Makes dir name size mode) before = dir
dir_after _ before = before

-- the root is in itself
unfoldable pub dir_of : Past → ℕ → ℕ
dir_of [] file = 1
dir_of (x ∷ earlier) file = dir_after (change_of (now earlier) file x.event x.reply) (dir_of earlier file)

-- A row of the tree says what the entries say.
pub record IsRead (es : Past) (row : FileRow) : Type 0 where
  pub bytes : (p : ℕ) → get_or row.bytes p 0 ≡ byte_of es row.number p
  pub size : length row.bytes ≡ size_of es row.number
  pub mode : row.mode ≡ mode_of es row.number
  pub name : row.name ≡ name_of es row.number
  pub dir : row.parent ≡ dir_of es row.number
