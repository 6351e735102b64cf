-- The value of LOCK and LOCKT with DENIED (RFC 7531, LOCK4denied).
use Rattle.std.specs.Prelude.{ℕ, ◌^◌, ◌<◌, ◌≤◌, ◌==◌, ◌||◌, List, [], ◌∷◌, length, Option, Some, None, if◌then◌else◌}
use Rattle.nm_xdr.specs.Fields.{Reading, field, made}
use Rattle.nm_xdr.specs.Items.{word, hyper, opaque, structure, hyper_at, enum_at, bytes_at}
use Rattle.nm_types.specs.declared.results.LockKind.{LockKind}
use Rattle.nm_types.specs.declared.results.LockKind.TheVariants as kind
use Rattle.nm_results.specs.declared.values.LockDenied.{LockDenied}

-- the numbers of kinds (nfs_lock_type4): 1 and 3 read, 2 and 4 write, and 3 and 4 tell that the asker waits
unfoldable pub kind_numbered : ℕ → Option LockKind
kind_numbered n =
    if (n == 1) || (n == 3) then Some kind.Read
    else if (n == 2) || (n == 4) then Some kind.Write
    else None

unfoldable pub lock_kind_at : Reading LockKind
lock_kind_at = enum_at kind_numbered

-- the number that is written for a kind
abbrev pub number_of_kind : LockKind → ℕ
number_of_kind kind.Read = 1
number_of_kind kind.Write = 2

-- whether a number is that of a kind that reads
abbrev pub kind_of_number : ℕ → LockKind
kind_of_number n = if (n == 1) || (n == 3) then kind.Read else kind.Write

-- All that stands there.
pub record AnyDenied : Type 0 where
  pub offset : ℕ
  pub length : ℕ
  pub locktype : ℕ
  pub clientid : ℕ
  pub owner : List ℕ

unfoldable pub denied : AnyDenied → List ℕ
denied d = structure (hyper d.offset ∷ hyper d.length ∷ word d.locktype ∷ hyper d.clientid ∷ opaque d.owner ∷ [])

unfoldable pub denied_at : Reading LockDenied
denied_at =
    field hyper_at (λ o. field hyper_at (λ l. field lock_kind_at (λ k. field hyper_at (λ c. field (bytes_at 1024) (λ w.
    made (record { offset = o; length = l; kind = k; clientid = c; owner = w }))))))

pub record IsAnyDenied (d : AnyDenied) : Type 0 where
  pub offset : d.offset < 2 ^ 64
  pub extent : d.length < 2 ^ 64
  pub from_one : 1 ≤ d.locktype
  pub to_four : d.locktype ≤ 4
  pub clientid : d.clientid < 2 ^ 64
  pub owner : length d.owner ≤ 1024

abbrev pub denied_of : AnyDenied → LockDenied
denied_of d = record { offset = d.offset; length = d.length; kind = kind_of_number d.locktype; clientid = d.clientid; owner = d.owner }

abbrev pub written_denied : LockDenied → AnyDenied
written_denied d = record { offset = d.offset; length = d.length; locktype = number_of_kind d.kind; clientid = d.clientid; owner = d.owner }

-- Numbers are within their size, and the text has at most 1,024 bytes.
pub record IsDenied (d : LockDenied) : Type 0 where
  pub offset : d.offset < 2 ^ 64
  pub extent : d.length < 2 ^ 64
  pub clientid : d.clientid < 2 ^ 64
  pub owner : length d.owner ≤ 1024
