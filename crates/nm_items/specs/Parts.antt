-- Items of messages of NFSv4 that several messages share (RFC 7531).
use Rattle.std.specs.Prelude.{◌≡◌, ℕ, ◌-◌, ◌^◌, ◌<◌, ◌≤◌, false, List, [], ◌∷◌, length, All, Option, Some, None, Result, Ok}
use Rattle.nm_xdr.specs.Fields.{short, Fault, Reading, fault_at, ◌>>=◌, field, made, item}
use Rattle.nm_xdr.specs.Items.{word, opaque, counted, structure, word_at, hyper_at, bytes_at, words_at}
use Rattle.nm_types.specs.declared.args.Fattr.{Fattr}
use Rattle.nm_types.specs.declared.calls.StateId.{StateId}
use Rattle.nm_types.specs.declared.calls.StateRef.{StateRef}
use Rattle.nm_types.specs.declared.calls.StateRef.TheVariants.{Zeros, Ones, Named}
use Rattle.nm_types.specs.declared.wire.Handle.{Handle}
use Rattle.nm_types.specs.Wire.{is_zeros, is_ones, stateid_bytes, stateid_from, handle_of}

-- ---- Stateids (stateid4)

-- the 16 bytes of these three numbers, also where they are those of a special stateid
abbrev pub stateid : StateId → List ℕ
stateid s = stateid_bytes (Named s)

-- the 12 bytes behind the seqid, which are one item: a file system and a counter
unfoldable pub other_at : Reading (ℕ × ℕ)
other_at = item (field word_at (λ fs. field hyper_at (λ counter. made (fs, counter))))

unfoldable pub stateid_at : Reading StateId
stateid_at = field word_at (λ seqid. field other_at (λ other. made (record { seqid = seqid; fs = other.0; counter = other.1 })))

-- any 16 bytes are a stateid
pub record IsStateId (s : StateId) : Type 0 where
  pub seqid : s.seqid < 2 ^ 32
  pub fs : s.fs < 2 ^ 32
  pub counter : s.counter < 2 ^ 64

-- the same, told apart from the special ones
unfoldable pub ref_at : Reading StateRef
ref_at = field stateid_at (λ s. made (stateid_from s))

-- a stateid that isn't one of the special ones
pub record IsNamed (s : StateId) : Type 0 where
  pub seqid : s.seqid < 2 ^ 32
  pub fs : s.fs < 2 ^ 32
  pub counter : s.counter < 2 ^ 64
  pub not_zeros : is_zeros s ≡ false
  pub not_ones : is_ones s ≡ false

abbrev pub IsStateRef : StateRef → Type 0
IsStateRef Zeros = Unit {0}
IsStateRef Ones = Unit {0}
IsStateRef (Named s) = IsNamed s

-- the three numbers of a stateid, also of a special one
unfoldable pub numbers_of : StateRef → StateId
numbers_of Zeros = record { seqid = 0; fs = 0; counter = 0 }
numbers_of Ones = record { seqid = 2 ^ 32 - 1; fs = 2 ^ 32 - 1; counter = 2 ^ 64 - 1 }
numbers_of (Named s) = s

-- ---- Filehandles (nfs_fh4)

-- the file that is named by these bytes, which begin at those
abbrev pub named_by : Option Handle → List ℕ → List ℕ → Result (Handle × List ℕ) Fault
named_by None bytes rest = fault_at short bytes
named_by (Some handle) bytes rest = Ok (handle, rest)

-- a filehandle that this profile makes
unfoldable pub handle_at : Reading Handle
handle_at bytes = bytes_at 128 bytes >>= λ b. named_by (handle_of b.0) bytes b.1

-- ---- Bitmaps (bitmap4), and attributes as they stand in a message (fattr4)

-- a count and the words
abbrev pub bitmap : List ℕ → List ℕ
bitmap words = counted word words

-- at most 8 words
abbrev pub bitmap_at : Reading (List ℕ)
bitmap_at = words_at 8

-- at most 8 numbers of 4 bytes
abbrev pub IsBitmap : List ℕ → Type 0
IsBitmap words = (length words ≤ 8) × All (λ w. w < 2 ^ 32) words

-- the bitmap of their numbers, and their values as one item
unfoldable pub fattr : Fattr → List ℕ
fattr f = structure (bitmap f.words ∷ opaque f.values ∷ [])

unfoldable pub fattr_at : Reading Fattr
fattr_at = field bitmap_at (λ words. field (bytes_at 65536) (λ values. made (record { words = words; values = values })))

pub record AreAttributes (f : Fattr) : Type 0 where
  pub words : IsBitmap f.words
  pub values : length f.values ≤ 65536
