-- Reading of bytes: the words that every layout is put together from, and what it means that a reading and a spelling belong together.
use Rattle.std.specs.Prelude.{◌≡◌, ◌≢◌, ℕ, zero, suc, ◌<◌, Bool, List, [], ◌∷◌, ◌++◌, length, slice_index, Result, Ok, Err, if◌then◌else◌}

-- What is wrong at an item.
pub data Flaw : Type 0 where
  -- the bytes end before the item does
  short : Flaw
  -- a byte of padding isn't 0
  padding : Flaw
  -- the word of a flag is neither 0 nor 1
  bool : ℕ → Flaw
  -- a length or a count, above the most that it may be
  too_long : ℕ → ℕ → Flaw
  -- a word that isn't among the numbers of its enumeration
  enum : ℕ → Flaw

-- What is wrong, and how many bytes are left from where it is to the end of the input.
pub record Fault : Type 0 where
  pub flaw : Flaw
  pub left : ℕ

-- Reading takes bytes, and gives a value with the bytes after it, or the first fault.
abbrev pub Reading : Type 0 → Type 0
Reading X = List ℕ → Result (X × List ℕ) Fault

-- A fault at the first of these bytes.
abbrev pub fault_at : {X : Type 0} → Flaw → List ℕ → Result X Fault
fault_at flaw bytes = Err (record { flaw = flaw; left = length bytes })

-- What was read goes on to what is read after it; a fault stays.
infixl 10 ◌>>=◌
abbrev pub ◌>>=◌ : {X Y : Type 0} → Result X Fault → (X → Result Y Fault) → Result Y Fault
(Ok x) >>= more = more x
(Err f) >>= more = Err f

-- ---- The words of a layout

-- A field: its value is read, and what comes after it is read knowing that value.
abbrev pub field : {X Y : Type 0} → Reading X → (X → Reading Y) → Reading Y
field read more bytes = read bytes >>= λ x. more x.0 x.1

-- The end of a structure: nothing more is read, and this is the value.
abbrev pub made : {X : Type 0} → X → Reading X
made x bytes = Ok (x, bytes)

-- A rule at an item: a value that doesn't pass the test is a fault at the item's first byte.
abbrev pub tested : {X : Type 0} → (X → Bool) → (X → Flaw) → Reading X → Reading X
tested test flaw read bytes = read bytes >>= λ x. if test x.0 then Ok x else fault_at (flaw x.0) bytes

-- Rows, each read knowing the rows before it.
unfoldable pub rows_at : {X : Type 0} → (List X → Reading X) → ℕ → List X → Reading (List X)
rows_at row zero earlier bytes = Ok (earlier, bytes)
rows_at row (suc count) earlier bytes = row earlier bytes >>= λ x. rows_at row count (earlier ++ x.0 ∷ []) x.1

-- A value with nothing left over.
abbrev pub ended : {X : Type 0} → X → List ℕ → Result X Fault
ended x [] = Ok x
ended x (b ∷ rest) = fault_at (too_long (length (b ∷ rest)) 0) (b ∷ rest)

-- All of the bytes: any that are left over are a fault at the first of them, with their number, of which there may be none.
abbrev pub all_of : {X : Type 0} → Reading X → List ℕ → Result X Fault
all_of read bytes = read bytes >>= λ x. ended x.0 x.1

-- Where the fault of a part lies in an item at whose first byte `start` bytes are left: what ends too soon is missing from there.
abbrev pub left_of : Flaw → ℕ → ℕ → ℕ
left_of short start left = start
left_of padding start left = left
left_of (bool got) start left = left
left_of (too_long got max) start left = left
left_of (enum got) start left = left

-- A fault in a part of an item, as a fault of the whole item.
abbrev pub of_whole : ℕ → Fault → Fault
of_whole start f = record { flaw = f.flaw; left = left_of f.flaw start f.left }

-- What was read of an item, with its fault as one of the whole item.
abbrev pub whole_from : {X : Type 0} → ℕ → Result X Fault → Result X Fault
whole_from start (Ok x) = Ok x
whole_from start (Err f) = Err (of_whole start f)

-- An item of several parts that ends too soon is missing as a whole; any other fault is where it is.
abbrev pub whole : {X : Type 0} → Reading X → Reading X
whole read bytes = whole_from (length bytes) (read bytes)

-- What was read of an item. Whatever is wrong with it, it is missing from its first byte on.
abbrev pub or_missing : {X : Type 0} → List ℕ → Result (X × List ℕ) Fault → Result (X × List ℕ) Fault
or_missing bytes (Ok x) = Ok x
or_missing bytes (Err f) = fault_at short bytes

-- An item that is told at its first byte, whatever is wrong with it.
abbrev pub item : {X : Type 0} → Reading X → Reading X
item read bytes = or_missing bytes (read bytes)

-- What was read, without its value.
abbrev pub passed : {X : Type 0} → Result (X × List ℕ) Fault → Result (Unit {0} × List ℕ) Fault
passed (Ok x) = Ok (tt, x.1)
passed (Err f) = Err f

-- An item that is read and not kept.
abbrev pub pass : {X : Type 0} → Reading X → Reading (Unit {0})
pass read bytes = passed (read bytes)

-- ---- A reading and a spelling that belong together

-- Bytes are numbers below 256.
abbrev pub IsBytes : List ℕ → Type 0
IsBytes bytes = (i : ℕ) → slice_index bytes i < 256

-- What is read is spelled so, and fits. What fits is read where it is spelled, whatever follows.
pub record IsItem {X : Type 0} (read : Reading X) (spell : X → List ℕ) (Fits : X → Type 0) : Type 0 where
  pub found : (bytes : List ℕ) (x : X) (rest : List ℕ) → IsBytes bytes → read bytes ≡ Ok (x, rest) → (bytes ≡ spell x ++ rest) × Fits x
  pub again : (x : X) (rest : List ℕ) → Fits x → read (spell x ++ rest) ≡ Ok (x, rest)

-- The same of what comes after some fields of a structure: `seen` has their values, and reading knows them.
pub record IsPart {S X : Type 0} (seen : X → S) (read : S → Reading X) (spell : X → List ℕ) (Fits : X → Type 0) : Type 0 where
  pub found : (s : S) (bytes : List ℕ) (x : X) (rest : List ℕ) → IsBytes bytes → read s bytes ≡ Ok (x, rest)
      → (bytes ≡ spell x ++ rest) × Fits x × (seen x ≡ s)
  pub again : (x : X) (rest : List ℕ) → Fits x → read (seen x) (spell x ++ rest) ≡ Ok (x, rest)

-- A fact about each row, knowing the rows before it.
abbrev pub EachAfter : {X : Type 0} → (List X → X → Type 0) → List X → List X → Type 0
EachAfter Fits earlier [] = Unit {0}
EachAfter Fits earlier (x ∷ xs) = Fits earlier x × EachAfter Fits (earlier ++ x ∷ []) xs

-- Where bytes begin with the spellings of two values, the values are one: no spelling is the beginning of another.
abbrev pub OneSpelling : {X : Type 0} → (X → List ℕ) → (X → Type 0) → Type 0
OneSpelling {X} spell Fits = (x y : X) (a b : List ℕ) → Fits x → Fits y → spell x ++ a ≡ spell y ++ b → (x ≡ y) × (a ≡ b)

-- A spelling that is cut short is too short an item, from its first byte.
abbrev pub IsShortWhereCut : {X : Type 0} → Reading X → (X → List ℕ) → (X → Type 0) → Type 0
IsShortWhereCut {X} read spell Fits = (x : X) (front more : List ℕ) → Fits x → more ≢ [] → spell x ≡ front ++ more → read front ≡ fault_at short front
