-- The values of SETCLIENTID (RFC 7531, SETCLIENTID4resok and clientaddr4).
use Rattle.std.specs.Prelude.{ℕ, ◌^◌, ◌<◌, ◌≤◌, List, [], ◌∷◌, length}
use Rattle.nm_xdr.specs.Fields.{Reading, field, made}
use Rattle.nm_xdr.specs.Items.{hyper, opaque, structure, hyper_at, bytes_at}
use Rattle.nm_results.specs.declared.values.SetClientIdOk.{SetClientIdOk}
use Rattle.nm_results.specs.declared.values.ClientAddress.{ClientAddress}

unfoldable pub client : SetClientIdOk → List ℕ
client c = structure (hyper c.clientid ∷ hyper c.confirm ∷ [])

unfoldable pub client_at : Reading SetClientIdOk
client_at = field hyper_at (λ i. field hyper_at (λ v. made (record { clientid = i; confirm = v })))

pub record IsClient (c : SetClientIdOk) : Type 0 where
  pub clientid : c.clientid < 2 ^ 64
  pub confirm : c.confirm < 2 ^ 64

-- the address of the client that uses the name
unfoldable pub address : ClientAddress → List ℕ
address a = structure (opaque a.netid ∷ opaque a.addr ∷ [])

unfoldable pub address_at : Reading ClientAddress
address_at = field (bytes_at 1024) (λ n. field (bytes_at 1024) (λ a. made (record { netid = n; addr = a })))

pub record IsAddress (a : ClientAddress) : Type 0 where
  pub netid : length a.netid ≤ 1024
  pub addr : length a.addr ≤ 1024
