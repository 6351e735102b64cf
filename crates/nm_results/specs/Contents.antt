-- The values of ACCESS, READ and WRITE (RFC 7531, ACCESS4resok, READ4resok, WRITE4resok).
use Rattle.std.specs.Prelude.{ℕ, ◌^◌, ◌<◌, ◌≤◌, List, [], ◌∷◌, length}
use Rattle.nm_xdr.specs.Fields.{Reading, field, made}
use Rattle.nm_xdr.specs.Items.{word, hyper, flag, opaque, structure, word_at, hyper_at, flag_at, bytes_at}
use Rattle.nm_types.specs.declared.results.AccessOk.{AccessOk}
use Rattle.nm_types.specs.declared.results.ReadOk.{ReadOk}
use Rattle.nm_types.specs.declared.results.WriteOk.{WriteOk}

unfoldable pub access : AccessOk → List ℕ
access a = structure (word a.supported ∷ word a.access ∷ [])

unfoldable pub access_at : Reading AccessOk
access_at = field word_at (λ s. field word_at (λ a. made (record { supported = s; access = a })))

pub record IsAccess (a : AccessOk) : Type 0 where
  pub supported : a.supported < 2 ^ 32
  pub access : a.access < 2 ^ 32

unfoldable pub read_bytes : ReadOk → List ℕ
read_bytes r = structure (flag r.eof ∷ opaque r.«data» ∷ [])

unfoldable pub read_at : Reading ReadOk
read_at = field flag_at (λ e. field (bytes_at 65536) (λ d. made (record { eof = e; «data» = d })))

-- at most 65,536 bytes
abbrev pub IsRead : ReadOk → Type 0
IsRead r = length r.«data» ≤ 65536

unfoldable pub write_bytes : WriteOk → List ℕ
write_bytes w = structure (word w.count ∷ word w.committed ∷ hyper w.writeverf ∷ [])

unfoldable pub write_at : Reading WriteOk
write_at = field word_at (λ n. field word_at (λ c. field hyper_at (λ v. made (record { count = n; committed = c; writeverf = v }))))

pub record IsWrite (w : WriteOk) : Type 0 where
  pub count : w.count < 2 ^ 32
  pub committed : w.committed < 2 ^ 32
  pub writeverf : w.writeverf < 2 ^ 64
