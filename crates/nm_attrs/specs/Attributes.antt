-- Attributes of files (RFC 7530, 5.6 to 5.8; RFC 7531, fattr4): which there are, and the layout of their values.
use Rattle.std.specs.Prelude.{◌≡◌, ℕ, ◌*◌, ◌-◌, ◌^◌, ◌<◌, ◌≤◌, Bool, true, false, ◌==◌, ◌&&◌, not, List, [], ◌∷◌, ◌++◌, length, find, All, map, Option, Some, None, Result, Ok, Err}
use Rattle.std.specs.List.{filter, flat_map, list_any, range_with_len, fold}
use Rattle.std.specs.Int.RustNames.{bit_or}
use Rattle.nm_xdr.specs.Fields.{Fault, Reading, field, made, all_of}
use Rattle.nm_xdr.specs.Items.{word, hyper, flag, opaque, counted, structure, word_at, hyper_at, flag_at, opaque_at, counted_at}
use Rattle.nm_xdr.specs.Places.{fault_of, place_of}
use Rattle.nm_types.specs.declared.args.Fattr.{Fattr}
use Rattle.nm_attrs.specs.declared.values.Location.{Location}
use Rattle.nm_attrs.specs.declared.values.FsLocations.{FsLocations}
use Rattle.nm_attrs.specs.declared.values.AttrValue.{AttrValue}
use Rattle.nm_attrs.specs.declared.values.AttrValue.TheVariants as value
use Rattle.nm_attrs.specs.declared.values.AttrKind.{AttrKind}
use Rattle.nm_attrs.specs.declared.values.AttrKind.TheVariants as kind
use Rattle.nm_attrs.specs.declared.values.Attr.{Attr}
use Rattle.nm_attrs.specs.declared.values.AttrLayout.{AttrLayout}
use Rattle.nm_attrs.specs.declared.fault.AttrFault.{AttrFault}
use Rattle.nm_attrs.specs.declared.fault.AttrFault.TheVariants as fault
use Rattle.nm_items.specs.Parts.{bitmap, bitmap_at, IsBitmap}
use Rattle.nm_attrs.specs.Bitmaps.{has, words_of_mask}

-- ---- Paths and locations (RFC 7531, pathname4 and fs_locations4)

-- a count and the names, each of at most 1,048,576 bytes
abbrev pub path : List (List ℕ) → List ℕ
path names = counted opaque names

unfoldable pub path_at : Reading (List (List ℕ))
path_at = counted_at (2 ^ 32 - 1) (λ _. opaque_at 1048576)

unfoldable pub location : Location → List ℕ
location l = structure (path l.servers ∷ path l.root ∷ [])

unfoldable pub location_at : Reading Location
location_at = field path_at (λ servers. field path_at (λ root. made (record { servers = servers; root = root })))

unfoldable pub fs_locations : FsLocations → List ℕ
fs_locations l = structure (path l.root ∷ counted location l.locations ∷ [])

unfoldable pub locations_at : Reading (List Location)
locations_at = counted_at (2 ^ 32 - 1) (λ _. location_at)

unfoldable pub fs_locations_at : Reading FsLocations
fs_locations_at = field path_at (λ root. field locations_at (λ locations. made (record { root = root; locations = locations })))

-- ---- The attributes that are supported

abbrev pub of_kind : AttrKind → ℕ → AttrLayout
of_kind kind bit = record { bit = bit; kind = kind }

-- supported_attrs, type, fh_expire_type, change, size, link_support, symlink_support, named_attr, fsid, unique_handles, lease_time,
-- rdattr_error, filehandle, fileid, fs_locations and mode, by their numbers
unfoldable pub table : List AttrLayout
table =
    of_kind kind.Words 0 ∷ of_kind kind.U32 1 ∷ of_kind kind.U32 2 ∷ of_kind kind.U64 3 ∷ of_kind kind.U64 4
    ∷ of_kind kind.Bool 5 ∷ of_kind kind.Bool 6 ∷ of_kind kind.Bool 7 ∷ of_kind kind.Fsid 8 ∷ of_kind kind.Bool 9
    ∷ of_kind kind.U32 10 ∷ of_kind kind.U32 11 ∷ of_kind kind.FileHandle 19 ∷ of_kind kind.U64 20
    ∷ of_kind kind.Locations 24 ∷ of_kind kind.U32 33 ∷ []

unfoldable pub is_supported : ℕ → Bool
is_supported bit = list_any (λ l. l.bit == bit) table

-- the words of the bitmap of these numbers
abbrev pub supported_words : List ℕ
supported_words = 18354175 ∷ 2 ∷ []

-- ---- Values

-- the bytes of a value
unfoldable pub value_bytes : AttrValue → List ℕ
value_bytes (value.Words words) = bitmap words
value_bytes (value.U32 n) = word n
value_bytes (value.U64 n) = hyper n
value_bytes (value.Bool b) = flag b
value_bytes (value.Fsid major minor) = hyper major ++ hyper minor
value_bytes (value.FileHandle handle) = opaque handle
value_bytes (value.Locations locations) = fs_locations locations

-- two numbers
unfoldable pub two_at : Reading (ℕ × ℕ)
two_at = field hyper_at (λ a. field hyper_at (λ b. made (a, b)))

unfoldable pub value_at : AttrKind → Reading AttrValue
value_at kind.Words = field bitmap_at (λ words. made (value.Words words))
value_at kind.U32 = field word_at (λ n. made (value.U32 n))
value_at kind.U64 = field hyper_at (λ n. made (value.U64 n))
value_at kind.Bool = field flag_at (λ b. made (value.Bool b))
value_at kind.Fsid = field two_at (λ p. made (value.Fsid p.0 p.1))
value_at kind.FileHandle = field (opaque_at 128) (λ handle. made (value.FileHandle handle))
value_at kind.Locations = field fs_locations_at (λ locations. made (value.Locations locations))

-- an attribute with its value
abbrev pub attr_at : AttrLayout → Reading Attr
attr_at l = field (value_at l.kind) (λ v. made (record { bit = l.bit; value = v }))

-- The values of attributes, one after the other, behind those that were read.
unfoldable pub attrs_at : List AttrLayout → List Attr → Reading (List Attr)
attrs_at [] earlier = made earlier
attrs_at (l ∷ more) earlier = field (attr_at l) (λ a. attrs_at more (earlier ++ a ∷ []))

-- ---- Attributes of a bitmap

-- those of these that a bitmap has
abbrev pub in_bitmap : List ℕ → List AttrLayout → List AttrLayout
in_bitmap words layouts = filter (λ l. has words l.bit) layouts

-- the supported ones that a bitmap has
abbrev pub asked : List ℕ → List AttrLayout
asked words = in_bitmap words table

-- the least number that a bitmap has and that isn't supported
unfoldable pub unsupported : List ℕ → Option ℕ
unsupported words = find (λ bit. has words bit && not (is_supported bit)) (range_with_len 0 (32 * length words))

-- What is wrong with attributes.
pub data Flawed : Type 0 where
  -- this is the least number that isn't supported
  number : ℕ → Flawed
  -- a value can't be read, or bytes are left over
  bytes : Fault → Flawed

-- what was read of the values
abbrev pub of_values : Result (List Attr) Fault → Result (List Attr) Flawed
of_values (Ok attrs) = Ok attrs
of_values (Err f) = Err (bytes f)

-- by the least number that isn't supported, where there is one
abbrev pub of_supported : Option ℕ → Result (List Attr) Fault → Result (List Attr) Flawed
of_supported (Some bit) attrs = Err (number bit)
of_supported None attrs = of_values attrs

-- The attributes of a bitmap whose values are these bytes, all of them, or what is wrong first.
unfoldable pub fattr_at : List ℕ → List ℕ → Result (List Attr) Flawed
fattr_at words values = of_supported (unsupported words) (all_of (attrs_at (asked words) []) values)

-- A call that reads attributes of so many bytes answers these, or what is wrong first. For want of memory it may answer nothing.
abbrev pub IsTold : ℕ → AttrFault → Result (List Attr) Flawed → Type 0
IsTold total (fault.Unsupported bit) given = given ≡ Err (number bit)
IsTold total (fault.Xdr e) given = (given ≡ Err (bytes (fault_of total e))) × (place_of e ≤ total)
IsTold total fault.Memory given = Unit {0}

abbrev pub AnswersAttrs : Result (List Attr) AttrFault → List ℕ → List ℕ → Type 0
AnswersAttrs (Ok attrs) words values = fattr_at words values ≡ Ok attrs
AnswersAttrs (Err e) words values = IsTold (length values) e (fattr_at words values)

-- ---- Spelling

-- the bit of each attribute's number
unfoldable pub mask_of : List Attr → ℕ
mask_of attrs = fold (λ mask a. bit_or mask (2 ^ a.bit)) 0 attrs

-- their bitmap, without a last word that is 0
abbrev pub words_of : List Attr → List ℕ
words_of attrs = words_of_mask (mask_of attrs)

-- their values, one after the other
abbrev pub values_of : List Attr → List ℕ
values_of attrs = flat_map (λ a. value_bytes a.value) attrs

-- as they stand in a message
abbrev pub as_fattr : List Attr → Fattr
as_fattr attrs = record { words = words_of attrs; values = values_of attrs }

-- a bitmap, and the values as one item
unfoldable pub fattr_bytes : List Attr → List ℕ
fattr_bytes attrs = bitmap (words_of attrs) ++ opaque (values_of attrs)

-- ---- What can be spelled

-- what a value is
abbrev pub kind_of : AttrValue → AttrKind
kind_of (value.Words words) = kind.Words
kind_of (value.U32 n) = kind.U32
kind_of (value.U64 n) = kind.U64
kind_of (value.Bool b) = kind.Bool
kind_of (value.Fsid major minor) = kind.Fsid
kind_of (value.FileHandle handle) = kind.FileHandle
kind_of (value.Locations locations) = kind.Locations

-- fewer than 2^32 names, each of at most 1,048,576 bytes
abbrev pub IsPath : List (List ℕ) → Type 0
IsPath names = (length names < 2 ^ 32) × All (λ name. length name ≤ 1048576) names

pub record IsLocation (l : Location) : Type 0 where
  pub servers : IsPath l.servers
  pub root : IsPath l.root

pub record AreLocations (l : FsLocations) : Type 0 where
  pub root : IsPath l.root
  pub count : length l.locations < 2 ^ 32
  pub each : All IsLocation l.locations

-- numbers are within their size, and lengths within their limits
abbrev pub IsValue : AttrValue → Type 0
IsValue (value.Words words) = IsBitmap words
IsValue (value.U32 n) = n < 2 ^ 32
IsValue (value.U64 n) = n < 2 ^ 64
IsValue (value.Bool b) = Unit {0}
IsValue (value.Fsid major minor) = (major < 2 ^ 64) × (minor < 2 ^ 64)
IsValue (value.FileHandle handle) = length handle ≤ 128
IsValue (value.Locations locations) = AreLocations locations

-- each attribute's number, and what its value is
abbrev pub layouts_of : List Attr → List AttrLayout
layouts_of attrs = map (λ a. record { bit = a.bit; kind = kind_of a.value }) attrs

-- These are attributes of the table, each at most once and by rising number, with values of their kinds that have 65,536 bytes at most.
pub record AreAttrs (attrs : List Attr) : Type 0 where
  pub known : layouts_of attrs ≡ filter (λ l. list_any (λ a. a.bit == l.bit) attrs) table
  pub each : All (λ a. IsValue a.value) attrs
  pub short : length (values_of attrs) ≤ 65536

-- These are the attributes that a bitmap has, all of them supported, and the bytes are their values.
pub record IsFattr (words : List ℕ) (attrs : List Attr) (values : List ℕ) : Type 0 where
  pub supported : (n : ℕ) → has words n ≡ true → is_supported n ≡ true
  pub layouts : layouts_of attrs ≡ asked words
  pub each : All (λ a. IsValue a.value) attrs
  pub spelled : values ≡ values_of attrs

-- The least number that a bitmap has and that isn't supported.
pub record IsLeastUnsupported (words : List ℕ) (bit : ℕ) : Type 0 where
  pub among : has words bit ≡ true
  pub unknown : is_supported bit ≡ false
  pub least : (n : ℕ) → n < bit → has words n ≡ true → is_supported n ≡ true
