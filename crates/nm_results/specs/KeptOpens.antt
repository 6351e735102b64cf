-- The value of OPEN as it stands in a kept reply: what a reader of messages passes over has one value here (RFC 7531, OPEN4resok).
use Rattle.std.specs.Prelude.{◌≡◌, ℕ, ◌+◌, ◌-◌, ◌^◌, ◌<◌, Bool, false, ◌==◌, List, [], ◌∷◌, length, Option, Some, None, Result, Ok, Err, if◌then◌else◌}
use Rattle.std.specs.List.{slice_get}
use Rattle.nm_xdr.specs.Fields.{short, Fault, Reading, ◌>>=◌, field, made, tested}
use Rattle.nm_xdr.specs.Items.{hyper, structure, word_at, hyper_at, only_at}
use Rattle.nm_items.specs.Parts.{stateid_at, bitmap_at}
use Rattle.nm_types.specs.declared.calls.StateId.{StateId}
use Rattle.nm_types.specs.declared.results.ChangeInfo.{ChangeInfo}
use Rattle.nm_types.specs.declared.results.OpenOk.{OpenOk}
use Rattle.nm_types.specs.declared.results.Opened.{Opened}
use Rattle.nm_types.specs.declared.results.OpenDelegation.{OpenDelegation}
use Rattle.nm_types.specs.declared.results.OpenDelegation.TheVariants as delegation
use Rattle.nm_results.specs.Opens.{kind_at, open_bytes, written_open, IsOpen}

-- the change of a directory, which is atomic
unfoldable pub atomic_at : Reading ChangeInfo
atomic_at =
    field (only_at 1) (λ atomic. field hyper_at (λ before. field hyper_at (λ after. made (record { before = before; after = after }))))

-- the last of these words is 0
abbrev pub is_zero : Option ℕ → Bool
is_zero None = false
is_zero (Some w) = w == 0

abbrev pub ends_in_zero : List ℕ → Bool
ends_in_zero words = is_zero (slice_get words (length words - 1))

-- a last word of 0 is told where it stands
abbrev pub trimmed_as : List ℕ → List ℕ → Result (List ℕ × List ℕ) Fault
trimmed_as words rest = if ends_in_zero words then Err (record { flaw = short; left = length rest + 4 }) else Ok (words, rest)

-- a bitmap without a last word of 0
unfoldable pub trimmed_at : Reading (List ℕ)
trimmed_at bytes = bitmap_at bytes >>= λ w. trimmed_as w.0 w.1

-- an ace that names nobody: three words of 0, and no bytes
unfoldable pub no_ace_at : Reading (Unit {0})
no_ace_at = field (only_at 0) (λ kind. field (only_at 0) (λ flags. field (only_at 0) (λ mask. field (only_at 0) (λ who. made tt))))

-- a delegation that isn't recalled, and whose ace names nobody
unfoldable pub kept_reads_at : Reading StateId
kept_reads_at = field stateid_at (λ s. field (only_at 0) (λ recall. field no_ace_at (λ ace. made s)))

-- 1 MiB, to which a file that may be written may grow
unfoldable pub limit_at : Reading ℕ
limit_at = tested (λ n. n == 1048576) (λ _. short) hyper_at

unfoldable pub kept_writes_at : Reading StateId
kept_writes_at = field stateid_at (λ s. field (only_at 0) (λ recall. field (only_at 1) (λ limit. field limit_at (λ size. field no_ace_at (λ ace. made s)))))

unfoldable pub kept_delegation_as : ℕ → Reading OpenDelegation
kept_delegation_as n =
    if n == 0 then made delegation.None
    else if n == 1 then field kept_reads_at (λ s. made (delegation.Read s))
    else field kept_writes_at (λ s. made (delegation.Write s))

unfoldable pub kept_delegation_at : Reading OpenDelegation
kept_delegation_at = field kind_at kept_delegation_as

unfoldable pub kept_open_at : Reading OpenOk
kept_open_at =
    field stateid_at (λ s. field atomic_at (λ c. field word_at (λ f. field trimmed_at (λ a. field kept_delegation_at (λ d.
    made (record { stateid = s; cinfo = c; rflags = f; attrset = a; delegation = d }))))))

-- The bytes that are written for it are those of a message.
pub record IsKeptOpen (o : OpenOk) : Type 0 where
  pub value : IsOpen o
  pub trimmed : ends_in_zero o.attrset ≡ false

-- behind it the file that became the current one
unfoldable pub opened : Opened → List ℕ
opened o = structure (open_bytes (written_open o.ok) ∷ hyper o.file ∷ [])

unfoldable pub opened_at : Reading Opened
opened_at = field kept_open_at (λ ok. field hyper_at (λ file. made (record { ok = ok; file = file })))

pub record IsOpened (o : Opened) : Type 0 where
  pub ok : IsKeptOpen o.ok
  pub file : o.file < 2 ^ 64
