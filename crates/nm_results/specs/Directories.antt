-- The values of CREATE and READDIR (RFC 7531, CREATE4resok, READDIR4resok).
use Rattle.std.specs.Prelude.{ℕ, zero, suc, ◌^◌, ◌<◌, ◌≤◌, true, false, List, [], ◌∷◌, ◌++◌, length, All, Option, Some, None, Result, Ok}
use Rattle.std.specs.List.{flat_map}
use Rattle.nm_xdr.specs.Fields.{short, Fault, Reading, ◌>>=◌, fault_at, field, made}
use Rattle.nm_xdr.specs.Items.{hyper, flag, opaque, structure, hyper_at, flag_at, bytes_at, optional_at}
use Rattle.nm_items.specs.Parts.{bitmap, bitmap_at, IsBitmap, fattr, fattr_at, AreAttributes}
use Rattle.nm_types.specs.declared.results.CreateOk.{CreateOk}
use Rattle.nm_results.specs.declared.values.DirEntry.{DirEntry}
use Rattle.nm_results.specs.declared.values.ReadDirOk.{ReadDirOk}
use Rattle.nm_results.specs.Parts.{AnyChange, change, change_at, IsChange, written_change}

-- ---- CREATE

-- All that stands there.
pub record AnyCreate : Type 0 where
  pub cinfo : AnyChange
  pub attrset : List ℕ

unfoldable pub create : AnyCreate → List ℕ
create c = structure (change c.cinfo ∷ bitmap c.attrset ∷ [])

unfoldable pub create_at : Reading CreateOk
create_at = field change_at (λ c. field bitmap_at (λ a. made (record { cinfo = c; attrset = a })))

pub record IsAnyCreate (c : AnyCreate) : Type 0 where
  pub cinfo : IsChange c.cinfo.info
  pub attrset : IsBitmap c.attrset

abbrev pub create_of : AnyCreate → CreateOk
create_of c = record { cinfo = c.cinfo.info; attrset = c.attrset }

abbrev pub written_create : CreateOk → AnyCreate
written_create c = record { cinfo = written_change c.cinfo; attrset = c.attrset }

pub record IsCreate (c : CreateOk) : Type 0 where
  pub cinfo : IsChange c.cinfo
  pub attrset : IsBitmap c.attrset

-- ---- READDIR

-- an entry (entry4)
unfoldable pub entry : DirEntry → List ℕ
entry e = structure (hyper e.cookie ∷ opaque e.name ∷ fattr e.attrs ∷ [])

unfoldable pub entry_at : Reading DirEntry
entry_at = field hyper_at (λ c. field (bytes_at 1048576) (λ n. field fattr_at (λ a. made (record { cookie = c; name = n; attrs = a }))))

pub record IsEntry (e : DirEntry) : Type 0 where
  pub cookie : e.cookie < 2 ^ 64
  pub name : length e.name ≤ 1048576
  pub attrs : AreAttributes e.attrs

-- a flag before each entry that is true, and behind the last one that is false
unfoldable pub entries : List DirEntry → List ℕ
entries es = flat_map (λ e. flag true ++ entry e) es ++ flag false

-- What comes behind a mark: the end, or a further entry and what follows it.
abbrev pub behind_mark : (DirEntry → Result (List DirEntry × List ℕ) Fault) → List DirEntry → Option DirEntry → List ℕ → Result (List DirEntry × List ℕ) Fault
behind_mark further earlier None rest = Ok (earlier, rest)
behind_mark further earlier (Some e) rest = further e

-- The entries behind those that were read, of which there are fewer than the given number: a list of optional entries, of which the
-- first that isn't there is the end.
unfoldable pub entries_at : ℕ → List DirEntry → Reading (List DirEntry)
entries_at zero earlier bytes = fault_at short bytes
entries_at (suc more) earlier bytes =
    optional_at entry_at bytes >>= λ o. behind_mark (λ e. entries_at more (earlier ++ e ∷ []) o.1) earlier o.0 o.1

-- Each entry takes more than one byte, so there are fewer of them than bytes.
unfoldable pub all_entries_at : Reading (List DirEntry)
all_entries_at bytes = entries_at (length bytes) [] bytes

unfoldable pub dir_bytes : ReadDirOk → List ℕ
dir_bytes d = structure (hyper d.cookieverf ∷ entries d.entries ∷ flag d.eof ∷ [])

unfoldable pub dir_at : Reading ReadDirOk
dir_at = field hyper_at (λ v. field all_entries_at (λ es. field flag_at (λ e. made (record { cookieverf = v; entries = es; eof = e }))))

pub record IsDir (d : ReadDirOk) : Type 0 where
  pub cookieverf : d.cookieverf < 2 ^ 64
  pub entries : All IsEntry d.entries
