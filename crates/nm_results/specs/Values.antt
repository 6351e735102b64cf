-- The values of results: reading, the spelling that is written, and what bytes are a value.
use Rattle.std.specs.Prelude.{◌≡◌, ℕ, ◌^◌, ◌<◌, ◌≤◌, List, [], length}
use Rattle.nm_xdr.specs.Fields.{Reading, field, made}
use Rattle.nm_xdr.specs.Items.{hyper, opaque, hyper_at, bytes_at}
use Rattle.nm_items.specs.Parts.{stateid, stateid_at, IsStateId, bitmap, bitmap_at, IsBitmap, fattr, fattr_at, AreAttributes}
use Rattle.nm_results.specs.declared.arms.Arm.{Arm}
use Rattle.nm_results.specs.declared.arms.Arm.TheVariants as arm
use Rattle.nm_results.specs.declared.values.ResultValue.{ResultValue}
use Rattle.nm_results.specs.declared.values.ResultValue.TheVariants as value
use Rattle.nm_results.specs.Parts.{change, change_at, IsChange, written_change}
use Rattle.nm_results.specs.Opens.{open_bytes, open_at, open_of, written_open, IsAnyOpen, IsOpen}
use Rattle.nm_results.specs.Locks.{denied, denied_at, denied_of, written_denied, IsAnyDenied, IsDenied}
use Rattle.nm_results.specs.Contents.{access, access_at, IsAccess, read_bytes, read_at, IsRead, write_bytes, write_at, IsWrite}
use Rattle.nm_results.specs.Directories.{create, create_at, create_of, written_create, IsAnyCreate, IsCreate, dir_bytes, dir_at, IsDir}
use Rattle.nm_results.specs.Clients.{client, client_at, IsClient, address, address_at, IsAddress}

-- which value this is
abbrev pub arm_with : ResultValue → Arm
arm_with value.Nothing = arm.Nothing
arm_with (value.Access a) = arm.Access
arm_with (value.Close s) = arm.Close
arm_with (value.Commit v) = arm.Commit
arm_with (value.Create c) = arm.Create
arm_with (value.GetAttr a) = arm.GetAttr
arm_with (value.GetFh h) = arm.GetFh
arm_with (value.Lock s) = arm.Lock
arm_with (value.Denied d) = arm.Denied
arm_with (value.LockU s) = arm.LockU
arm_with (value.Open o) = arm.Open
arm_with (value.OpenConfirm s) = arm.OpenConfirm
arm_with (value.OpenDowngrade s) = arm.OpenDowngrade
arm_with (value.Read r) = arm.Read
arm_with (value.ReadDir d) = arm.ReadDir
arm_with (value.Remove c) = arm.Remove
arm_with (value.SetAttr a) = arm.SetAttr
arm_with (value.SetClientId c) = arm.SetClientId
arm_with (value.ClientInUse a) = arm.ClientInUse
arm_with (value.Write w) = arm.Write

-- ---- Reading

unfoldable pub value_at : Arm → Reading ResultValue
value_at arm.Nothing = made value.Nothing
value_at arm.Access = field access_at (λ a. made (value.Access a))
value_at arm.Close = field stateid_at (λ s. made (value.Close s))
value_at arm.Commit = field hyper_at (λ v. made (value.Commit v))
value_at arm.Create = field create_at (λ c. made (value.Create c))
value_at arm.GetAttr = field fattr_at (λ a. made (value.GetAttr a))
value_at arm.GetFh = field (bytes_at 128) (λ h. made (value.GetFh h))
value_at arm.Lock = field stateid_at (λ s. made (value.Lock s))
value_at arm.Denied = field denied_at (λ d. made (value.Denied d))
value_at arm.LockU = field stateid_at (λ s. made (value.LockU s))
value_at arm.Open = field open_at (λ o. made (value.Open o))
value_at arm.OpenConfirm = field stateid_at (λ s. made (value.OpenConfirm s))
value_at arm.OpenDowngrade = field stateid_at (λ s. made (value.OpenDowngrade s))
value_at arm.Read = field read_at (λ r. made (value.Read r))
value_at arm.ReadDir = field dir_at (λ d. made (value.ReadDir d))
value_at arm.Remove = field change_at (λ c. made (value.Remove c))
value_at arm.SetAttr = field bitmap_at (λ a. made (value.SetAttr a))
value_at arm.SetClientId = field client_at (λ c. made (value.SetClientId c))
value_at arm.ClientInUse = field address_at (λ a. made (value.ClientInUse a))
value_at arm.Write = field write_at (λ w. made (value.Write w))

-- ---- Spelling

-- The bytes that are written for a value.
unfoldable pub value_bytes : ResultValue → List ℕ
value_bytes value.Nothing = []
value_bytes (value.Access a) = access a
value_bytes (value.Close s) = stateid s
value_bytes (value.Commit v) = hyper v
value_bytes (value.Create c) = create (written_create c)
value_bytes (value.GetAttr a) = fattr a
value_bytes (value.GetFh h) = opaque h
value_bytes (value.Lock s) = stateid s
value_bytes (value.Denied d) = denied (written_denied d)
value_bytes (value.LockU s) = stateid s
value_bytes (value.Open o) = open_bytes (written_open o)
value_bytes (value.OpenConfirm s) = stateid s
value_bytes (value.OpenDowngrade s) = stateid s
value_bytes (value.Read r) = read_bytes r
value_bytes (value.ReadDir d) = dir_bytes d
value_bytes (value.Remove c) = change (written_change c)
value_bytes (value.SetAttr a) = bitmap a
value_bytes (value.SetClientId c) = client c
value_bytes (value.ClientInUse a) = address a
value_bytes (value.Write w) = write_bytes w

-- What can be spelled: numbers are within their size, and lengths within their limits.
abbrev pub IsValue : ResultValue → Type 0
IsValue value.Nothing = Unit {0}
IsValue (value.Access a) = IsAccess a
IsValue (value.Close s) = IsStateId s
IsValue (value.Commit v) = v < 2 ^ 64
IsValue (value.Create c) = IsCreate c
IsValue (value.GetAttr a) = AreAttributes a
IsValue (value.GetFh h) = length h ≤ 128
IsValue (value.Lock s) = IsStateId s
IsValue (value.Denied d) = IsDenied d
IsValue (value.LockU s) = IsStateId s
IsValue (value.Open o) = IsOpen o
IsValue (value.OpenConfirm s) = IsStateId s
IsValue (value.OpenDowngrade s) = IsStateId s
IsValue (value.Read r) = IsRead r
IsValue (value.ReadDir d) = IsDir d
IsValue (value.Remove c) = IsChange c
IsValue (value.SetAttr a) = IsBitmap a
IsValue (value.SetClientId c) = IsClient c
IsValue (value.ClientInUse a) = IsAddress a
IsValue (value.Write w) = IsWrite w

-- ---- What bytes are a value, apart from how they are read

-- There is one of these with the bytes, and this is what is kept of it.
pub record Keeps {W V : Type 0} (keep : W → V) (spell : W → List ℕ) (Fits : W → Type 0) (v : V) (bytes : List ℕ) : Type 0 where
  pub all : W
  pub fits : Fits all
  pub kept : keep all ≡ v
  pub spelled : bytes ≡ spell all

-- These are the bytes of this value, of which there is one spelling.
abbrev pub Spells : {V : Type 0} → (V → List ℕ) → (V → Type 0) → V → List ℕ → Type 0
Spells spell Fits v bytes = Fits v × (bytes ≡ spell v)

-- The bytes are those of a value: where something is passed over, with anything in its place.
abbrev pub IsSpelling : ResultValue → List ℕ → Type 0
IsSpelling value.Nothing bytes = bytes ≡ []
IsSpelling (value.Access a) bytes = Spells access IsAccess a bytes
IsSpelling (value.Close s) bytes = Spells stateid IsStateId s bytes
IsSpelling (value.Commit v) bytes = Spells hyper (λ n. n < 2 ^ 64) v bytes
IsSpelling (value.Create c) bytes = Keeps create_of create IsAnyCreate c bytes
IsSpelling (value.GetAttr a) bytes = Spells fattr AreAttributes a bytes
IsSpelling (value.GetFh h) bytes = Spells opaque (λ b. length b ≤ 128) h bytes
IsSpelling (value.Lock s) bytes = Spells stateid IsStateId s bytes
IsSpelling (value.Denied d) bytes = Keeps denied_of denied IsAnyDenied d bytes
IsSpelling (value.LockU s) bytes = Spells stateid IsStateId s bytes
IsSpelling (value.Open o) bytes = Keeps open_of open_bytes IsAnyOpen o bytes
IsSpelling (value.OpenConfirm s) bytes = Spells stateid IsStateId s bytes
IsSpelling (value.OpenDowngrade s) bytes = Spells stateid IsStateId s bytes
IsSpelling (value.Read r) bytes = Spells read_bytes IsRead r bytes
IsSpelling (value.ReadDir d) bytes = Spells dir_bytes IsDir d bytes
IsSpelling (value.Remove c) bytes = Keeps (λ a. a.info) change (λ a. IsChange a.info) c bytes
IsSpelling (value.SetAttr a) bytes = Spells bitmap IsBitmap a bytes
IsSpelling (value.SetClientId c) bytes = Spells client IsClient c bytes
IsSpelling (value.ClientInUse a) bytes = Spells address IsAddress a bytes
IsSpelling (value.Write w) bytes = Spells write_bytes IsWrite w bytes
