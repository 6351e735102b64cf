-- The forms that names have on the wire: the numbers in them are big-endian.
use Rattle.std.specs.Prelude.{◌≡◌, ℕ, ◌-◌, ◌^◌, ◌<◌, ◌≤◌, Bool, true, ◌==◌, ◌&&◌, ◌||◌, nat_lt, List, ◌++◌, length, drop, replicate, Option, Some, None, if◌then◌else◌, slice_index}
use Rattle.std.specs.Int.{w32, w64, to_be_bytes, from_be_bytes}
use Rattle.nm_types.specs.declared.calls.StateId.{StateId}
use Rattle.nm_types.specs.declared.calls.StateRef.{StateRef}
use Rattle.nm_types.specs.declared.calls.StateRef.TheVariants.{Zeros, Ones, Named}
use Rattle.nm_types.specs.declared.wire.Handle.{Handle}

-- four bytes, the highest first
unfoldable pub word : ℕ → List ℕ
word n = to_be_bytes w32 n

-- eight bytes, the highest first
unfoldable pub hyper : ℕ → List ℕ
hyper n = to_be_bytes w64 n

-- the number in the first four bytes
unfoldable pub word_in : List ℕ → ℕ
word_in bytes = from_be_bytes w32 bytes

-- the number in the first eight bytes
unfoldable pub hyper_in : List ℕ → ℕ
hyper_in bytes = from_be_bytes w64 bytes

-- bytes are numbers below 256
abbrev pub AreBytes : List ℕ → Type 0
AreBytes bytes = (i : ℕ) → slice_index bytes i < 256

-- ---- Stateids (RFC 7530, 9.1.4)

-- `other` of a stateid that a server made: its file system and its counter
abbrev pub other_bytes : StateId → List ℕ
other_bytes s = word s.fs ++ hyper s.counter

-- The 16 bytes of a stateid: its seqid, and `other`. The special ones are all zeros and all ones (9.1.4.3).
unfoldable pub stateid_bytes : StateRef → List ℕ
stateid_bytes Zeros = replicate 16 0
stateid_bytes Ones = replicate 16 255
stateid_bytes (Named s) = word s.seqid ++ other_bytes s

-- all 16 bytes are 0
unfoldable pub is_zeros : StateId → Bool
is_zeros s = (s.seqid == 0) && (s.fs == 0) && (s.counter == 0)

-- all 16 bytes are 255
unfoldable pub is_ones : StateId → Bool
is_ones s = (s.seqid == 2 ^ 32 - 1) && (s.fs == 2 ^ 32 - 1) && (s.counter == 2 ^ 64 - 1)

-- the stateid of these three numbers
abbrev pub stateid_from : StateId → StateRef
stateid_from s = if is_zeros s then Zeros else if is_ones s then Ones else Named s

-- the stateid of a seqid and the 12 bytes of `other`
unfoldable pub stateid_of : ℕ → List ℕ → StateRef
stateid_of seqid other = stateid_from (record { seqid = seqid; fs = word_in other; counter = hyper_in (drop 4 other) })

-- the stateid that has these 16 bytes
abbrev pub stateid_in : List ℕ → StateRef
stateid_in bytes = stateid_of (word_in bytes) (drop 4 bytes)

-- a stateid that a server makes: its file system is one of 0 to 63, and its counter is from 1
pub record IsMade (s : StateId) : Type 0 where
  pub seqid : s.seqid < 2 ^ 32
  pub fs : s.fs < 64
  pub from_one : 1 ≤ s.counter
  pub counter : s.counter < 2 ^ 64

-- ---- Filehandles (RFC 7530, 4)

-- The 16 bytes of a filehandle: the file system, the file, and a word that is 0.
unfoldable pub handle_bytes : Handle → List ℕ
handle_bytes h = word h.fs ++ (hyper h.file ++ word 0)

-- a file of one of the file systems 0 to 63, or the pseudo root
abbrev pub is_handle : Handle → Bool
is_handle h = nat_lt h.fs 64 || ((h.fs == 2 ^ 32 - 1) && (h.file == 0))

abbrev pub handle_from : Handle → Bool → Option Handle
handle_from h kept = if kept && is_handle h then Some h else None

-- the filehandle that has these bytes, where there is one
unfoldable pub handle_of : List ℕ → Option Handle
handle_of bytes =
    handle_from (record { fs = word_in bytes; file = hyper_in (drop 4 bytes) }) ((length bytes == 16) && (word_in (drop 12 bytes) == 0))

-- a filehandle that is read
pub record IsHandle (h : Handle) : Type 0 where
  pub fs : h.fs < 2 ^ 32
  pub file : h.file < 2 ^ 64
  pub kept : is_handle h ≡ true
