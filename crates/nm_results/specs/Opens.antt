-- The value of OPEN (RFC 7531, OPEN4resok).
use Rattle.std.specs.Prelude.{ℕ, ◌^◌, ◌<◌, ◌≤◌, Bool, false, ◌==◌, nat_le, List, [], ◌∷◌, length, if◌then◌else◌}
use Rattle.nm_xdr.specs.Fields.{enum, Reading, field, made, tested}
use Rattle.nm_xdr.specs.Items.{word, hyper, flag, opaque, structure, union, word_at, hyper_at, flag_at, bytes_at, only_at}
use Rattle.nm_items.specs.Parts.{stateid, stateid_at, IsStateId, bitmap, bitmap_at, IsBitmap}
use Rattle.nm_types.specs.declared.calls.StateId.{StateId}
use Rattle.nm_types.specs.declared.results.OpenOk.{OpenOk}
use Rattle.nm_types.specs.declared.results.OpenDelegation.{OpenDelegation}
use Rattle.nm_types.specs.declared.results.OpenDelegation.TheVariants as delegation
use Rattle.nm_results.specs.Parts.{AnyChange, change, change_at, IsChange, written_change}

-- ---- Delegations (open_delegation4)

-- who may do what (nfsace4)
pub record Ace : Type 0 where
  pub kind : ℕ
  pub flags : ℕ
  pub mask : ℕ
  pub who : List ℕ

unfoldable pub ace : Ace → List ℕ
ace a = structure (word a.kind ∷ word a.flags ∷ word a.mask ∷ opaque a.who ∷ [])

pub record IsAce (a : Ace) : Type 0 where
  pub kind : a.kind < 2 ^ 32
  pub flags : a.flags < 2 ^ 32
  pub mask : a.mask < 2 ^ 32
  pub who : length a.who ≤ 1024

-- An ace is passed over, and this is the value.
unfoldable pub ace_behind : OpenDelegation → Reading OpenDelegation
ace_behind d = field word_at (λ kind. field word_at (λ flags. field word_at (λ mask. field (bytes_at 1024) (λ who. made d))))

-- All that stands there of a delegation.
pub data AnyDelegation : Type 0 where
  none : AnyDelegation
  -- its stateid, whether it is recalled at once, and an ace
  reads : StateId → Bool → Ace → AnyDelegation
  -- and the size that the file may grow to
  writes : StateId → Bool → ℕ → Ace → AnyDelegation

-- its number, and what the number chooses; the limit of a file that may be written is one of its size, whose number is 1
unfoldable pub delegation_bytes : AnyDelegation → List ℕ
delegation_bytes none = union (word 0) []
delegation_bytes (reads s recall a) = union (word 1) (structure (stateid s ∷ flag recall ∷ ace a ∷ []))
delegation_bytes (writes s recall size a) = union (word 2) (structure (stateid s ∷ flag recall ∷ word 1 ∷ hyper size ∷ ace a ∷ []))

abbrev pub IsAnyDelegation : AnyDelegation → Type 0
IsAnyDelegation none = Unit {0}
IsAnyDelegation (reads s recall a) = IsStateId s × IsAce a
IsAnyDelegation (writes s recall size a) = IsStateId s × (size < 2 ^ 64) × IsAce a

-- what is kept of it
abbrev pub delegation_of : AnyDelegation → OpenDelegation
delegation_of none = delegation.None
delegation_of (reads s recall a) = delegation.Read s
delegation_of (writes s recall size a) = delegation.Write s

unfoldable pub reads_at : Reading OpenDelegation
reads_at = field stateid_at (λ s. field flag_at (λ recall. ace_behind (delegation.Read s)))

unfoldable pub writes_at : Reading OpenDelegation
writes_at = field stateid_at (λ s. field flag_at (λ recall. field (only_at 1) (λ limit. field hyper_at (λ size. ace_behind (delegation.Write s)))))

-- the number of a kind of delegation
unfoldable pub kind_at : Reading ℕ
kind_at = tested (λ n. nat_le n 2) enum word_at

unfoldable pub delegation_as : ℕ → Reading OpenDelegation
delegation_as n = if n == 0 then made delegation.None else if n == 1 then reads_at else writes_at

unfoldable pub delegation_at : Reading OpenDelegation
delegation_at = field kind_at delegation_as

-- What can be told of a delegation.
abbrev pub IsDelegation : OpenDelegation → Type 0
IsDelegation delegation.None = Unit {0}
IsDelegation (delegation.Read s) = IsStateId s
IsDelegation (delegation.Write s) = IsStateId s

-- nobody
abbrev pub no_ace : Ace
no_ace = record { kind = 0; flags = 0; mask = 0; who = [] }

-- What is written isn't recalled, names nobody, and lets the file grow to 1 MiB.
abbrev pub written_delegation : OpenDelegation → AnyDelegation
written_delegation delegation.None = none
written_delegation (delegation.Read s) = reads s false no_ace
written_delegation (delegation.Write s) = writes s false 1048576 no_ace

-- ---- OPEN

-- All that stands there.
pub record AnyOpen : Type 0 where
  pub stateid : StateId
  pub cinfo : AnyChange
  pub rflags : ℕ
  pub attrset : List ℕ
  pub delegation : AnyDelegation

unfoldable pub open_bytes : AnyOpen → List ℕ
open_bytes o = structure (stateid o.stateid ∷ change o.cinfo ∷ word o.rflags ∷ bitmap o.attrset ∷ delegation_bytes o.delegation ∷ [])

unfoldable pub open_at : Reading OpenOk
open_at =
    field stateid_at (λ s. field change_at (λ c. field word_at (λ f. field bitmap_at (λ a. field delegation_at (λ d.
    made (record { stateid = s; cinfo = c; rflags = f; attrset = a; delegation = d }))))))

pub record IsAnyOpen (o : AnyOpen) : Type 0 where
  pub stateid : IsStateId o.stateid
  pub cinfo : IsChange o.cinfo.info
  pub rflags : o.rflags < 2 ^ 32
  pub attrset : IsBitmap o.attrset
  pub delegation : IsAnyDelegation o.delegation

abbrev pub open_of : AnyOpen → OpenOk
open_of o = record { stateid = o.stateid; cinfo = o.cinfo.info; rflags = o.rflags; attrset = o.attrset; delegation = delegation_of o.delegation }

abbrev pub written_open : OpenOk → AnyOpen
written_open o =
    record { stateid = o.stateid; cinfo = written_change o.cinfo; rflags = o.rflags; attrset = o.attrset; delegation = written_delegation o.delegation }

-- Numbers are within their size, and the bitmap has at most 8 words.
pub record IsOpen (o : OpenOk) : Type 0 where
  pub stateid : IsStateId o.stateid
  pub cinfo : IsChange o.cinfo
  pub rflags : o.rflags < 2 ^ 32
  pub attrset : IsBitmap o.attrset
  pub delegation : IsDelegation o.delegation
