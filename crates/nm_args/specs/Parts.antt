-- Items that several operations have (RFC 7531).
use Rattle.std.specs.Prelude.{◌≡◌, ℕ, ◌^◌, ◌<◌, ◌≤◌, ◌==◌, List, [], ◌∷◌, length, find, Option}
use Rattle.nm_xdr.specs.Fields.{short, Reading, field, made, tested}
use Rattle.nm_xdr.specs.Items.{hyper, opaque, structure, hyper_at, bytes_at, enum_at}
use Rattle.nm_types.specs.declared.args.LockType.{LockType}
use Rattle.nm_types.specs.declared.args.LockType.TheVariants as lock
use Rattle.nm_types.specs.declared.args.Stable.{Stable}
use Rattle.nm_types.specs.declared.args.Stable.TheVariants as stable
use Rattle.nm_args.specs.declared.parts.Clientids.{Clientids}
use Rattle.nm_args.specs.declared.parts.Clientids.TheVariants.{Any, Zero}

-- ---- Numbers and texts

abbrev pub IsWord : ℕ → Type 0
IsWord n = n < 2 ^ 32

abbrev pub IsHyper : ℕ → Type 0
IsHyper n = n < 2 ^ 64

-- a name (component4)
unfoldable pub name_at : Reading (List ℕ)
name_at = bytes_at 1048576

abbrev pub IsName : List ℕ → Type 0
IsName name = length name ≤ 1048576

-- the text of an owner, a client's string, a tag or an address (NFS4_OPAQUE_LIMIT)
unfoldable pub text_at : Reading (List ℕ)
text_at = bytes_at 1024

abbrev pub IsText : List ℕ → Type 0
IsText text = length text ≤ 1024

-- ---- Clientids, and owners of opens and locks

-- Any clientid, as in a request; or 0 alone, which stands in a kept call for that of its caller.
abbrev pub clientid_at : Clientids → Reading ℕ
clientid_at Any = hyper_at
clientid_at Zero = tested (λ n. n == 0) (λ _. short) hyper_at

abbrev pub IsClientid : Clientids → ℕ → Type 0
IsClientid Any n = IsHyper n
IsClientid Zero n = n ≡ 0

-- an owner: a clientid and a text (open_owner4, lock_owner4)
unfoldable pub owner_bytes : ℕ × List ℕ → List ℕ
owner_bytes o = structure (hyper o.0 ∷ opaque o.1 ∷ [])

unfoldable pub owner_at : Clientids → Reading (ℕ × List ℕ)
owner_at which = field (clientid_at which) (λ clientid. field text_at (λ text. made (clientid, text)))

abbrev pub IsOwner : Clientids → ℕ × List ℕ → Type 0
IsOwner which o = IsClientid which o.0 × IsText o.1

-- ---- Enumerations

-- nfs_lock_type4
unfoldable pub lock_number : LockType → ℕ
lock_number lock.Read = 1
lock_number lock.Write = 2
lock_number lock.ReadWait = 3
lock_number lock.WriteWait = 4

unfoldable pub lock_of : ℕ → Option LockType
lock_of n = find (λ t. lock_number t == n) (lock.Read ∷ lock.Write ∷ lock.ReadWait ∷ lock.WriteWait ∷ [])

unfoldable pub lock_type_at : Reading LockType
lock_type_at = enum_at lock_of

-- stable_how4
unfoldable pub stable_number : Stable → ℕ
stable_number stable.Unstable = 0
stable_number stable.DataSync = 1
stable_number stable.FileSync = 2

unfoldable pub stable_of : ℕ → Option Stable
stable_of n = find (λ s. stable_number s == n) (stable.Unstable ∷ stable.DataSync ∷ stable.FileSync ∷ [])

unfoldable pub stable_at : Reading Stable
stable_at = enum_at stable_of
