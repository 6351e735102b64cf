-- The arguments of operations on names in directories (RFC 7531).
use Rattle.std.specs.Prelude.{ℕ, ◌==◌, List, [], ◌∷◌, find, Option}
use Rattle.nm_xdr.specs.Fields.{Reading, field, made}
use Rattle.nm_xdr.specs.Items.{word, hyper, opaque, structure, union, word_at, hyper_at, enum_at}
use Rattle.nm_types.specs.declared.args.Device.{Device}
use Rattle.nm_types.specs.declared.args.CreateType.{CreateType}
use Rattle.nm_types.specs.declared.args.CreateType.TheVariants.{File, Directory, Block, Character, Link, Socket, Fifo, AttributeDirectory, NamedAttribute}
use Rattle.nm_types.specs.declared.args.CreateArgs.{CreateArgs}
use Rattle.nm_types.specs.declared.args.LookupArgs.{LookupArgs}
use Rattle.nm_types.specs.declared.args.ReadDirArgs.{ReadDirArgs}
use Rattle.nm_types.specs.declared.args.RemoveArgs.{RemoveArgs}
use Rattle.nm_items.specs.Parts.{bitmap, bitmap_at, IsBitmap, fattr, fattr_at, AreAttributes}
use Rattle.nm_args.specs.declared.op.RenameArgs.{RenameArgs}
use Rattle.nm_args.specs.Parts.{IsWord, IsHyper, name_at, IsName}

-- ---- CREATE (CREATE4args)

-- nfs_ftype4
pub data Kind : Type 0 where
  file : Kind
  directory : Kind
  block : Kind
  character : Kind
  link : Kind
  socket : Kind
  fifo : Kind
  attribute_directory : Kind
  named_attribute : Kind

unfoldable pub kind_number : Kind → ℕ
kind_number file = 1
kind_number directory = 2
kind_number block = 3
kind_number character = 4
kind_number link = 5
kind_number socket = 6
kind_number fifo = 7
kind_number attribute_directory = 8
kind_number named_attribute = 9

unfoldable pub kind_of : ℕ → Option Kind
kind_of n =
    find (λ k. kind_number k == n) (file ∷ directory ∷ block ∷ character ∷ link ∷ socket ∷ fifo ∷ attribute_directory ∷ named_attribute ∷ [])

abbrev pub kind : CreateType → Kind
kind File = file
kind Directory = directory
kind (Block d) = block
kind (Character d) = character
kind (Link text) = link
kind Socket = socket
kind Fifo = fifo
kind AttributeDirectory = attribute_directory
kind NamedAttribute = named_attribute

-- specdata4
unfoldable pub device : Device → List ℕ
device d = structure (word d.major ∷ word d.minor ∷ [])

unfoldable pub device_at : Reading Device
device_at = field word_at (λ major. field word_at (λ minor. made (record { major = major; minor = minor })))

abbrev pub IsDevice : Device → Type 0
IsDevice d = IsWord d.major × IsWord d.minor

-- createtype4: what follows the type
abbrev pub kind_arm : CreateType → List ℕ
kind_arm File = []
kind_arm Directory = []
kind_arm (Block d) = device d
kind_arm (Character d) = device d
kind_arm (Link text) = opaque text
kind_arm Socket = []
kind_arm Fifo = []
kind_arm AttributeDirectory = []
kind_arm NamedAttribute = []

unfoldable pub create_type : CreateType → List ℕ
create_type t = union (word (kind_number (kind t))) (kind_arm t)

unfoldable pub kind_arm_at : Kind → Reading CreateType
kind_arm_at file = made File
kind_arm_at directory = made Directory
kind_arm_at block = field device_at (λ d. made (Block d))
kind_arm_at character = field device_at (λ d. made (Character d))
kind_arm_at link = field name_at (λ text. made (Link text))
kind_arm_at socket = made Socket
kind_arm_at fifo = made Fifo
kind_arm_at attribute_directory = made AttributeDirectory
kind_arm_at named_attribute = made NamedAttribute

unfoldable pub create_type_at : Reading CreateType
create_type_at = field (enum_at kind_of) kind_arm_at

abbrev pub IsCreateType : CreateType → Type 0
IsCreateType File = Unit {0}
IsCreateType Directory = Unit {0}
IsCreateType (Block d) = IsDevice d
IsCreateType (Character d) = IsDevice d
IsCreateType (Link text) = IsName text
IsCreateType Socket = Unit {0}
IsCreateType Fifo = Unit {0}
IsCreateType AttributeDirectory = Unit {0}
IsCreateType NamedAttribute = Unit {0}

unfoldable pub create : CreateArgs → List ℕ
create a = structure (create_type a.kind ∷ opaque a.name ∷ fattr a.attributes ∷ [])

unfoldable pub create_at : Reading CreateArgs
create_at =
    field create_type_at (λ kind. field name_at (λ name. field fattr_at (λ attributes. made (record { kind = kind; name = name; attributes = attributes }))))

abbrev pub IsCreate : CreateArgs → Type 0
IsCreate a = IsCreateType a.kind × IsName a.name × AreAttributes a.attributes

-- ---- LOOKUP and REMOVE (LOOKUP4args, REMOVE4args)

unfoldable pub lookup : LookupArgs → List ℕ
lookup a = opaque a.name

unfoldable pub lookup_at : Reading LookupArgs
lookup_at = field name_at (λ name. made (record { name = name }))

unfoldable pub remove : RemoveArgs → List ℕ
remove a = opaque a.name

unfoldable pub remove_at : Reading RemoveArgs
remove_at = field name_at (λ name. made (record { name = name }))

-- ---- READDIR (READDIR4args)

unfoldable pub read_dir : ReadDirArgs → List ℕ
read_dir a = structure (hyper a.cookie ∷ hyper a.verifier ∷ word a.dircount ∷ word a.maxcount ∷ bitmap a.words ∷ [])

unfoldable pub read_dir_at : Reading ReadDirArgs
read_dir_at =
    field hyper_at (λ cookie. field hyper_at (λ verifier. field word_at (λ dircount. field word_at (λ maxcount. field bitmap_at (λ words.
    made (record { cookie = cookie; verifier = verifier; dircount = dircount; maxcount = maxcount; words = words }))))))

pub record IsReadDir (a : ReadDirArgs) : Type 0 where
  pub cookie : IsHyper a.cookie
  pub verifier : IsHyper a.verifier
  pub dircount : IsWord a.dircount
  pub maxcount : IsWord a.maxcount
  pub words : IsBitmap a.words

-- ---- RENAME (RENAME4args)

unfoldable pub rename : RenameArgs → List ℕ
rename a = structure (opaque a.from ∷ opaque a.to ∷ [])

unfoldable pub rename_at : Reading RenameArgs
rename_at = field name_at (λ from. field name_at (λ to. made (record { from = from; to = to })))

abbrev pub IsRename : RenameArgs → Type 0
IsRename a = IsName a.from × IsName a.to
