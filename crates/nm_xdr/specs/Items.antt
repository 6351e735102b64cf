-- The items of XDR (RFC 4506): the one spelling of each value, and the reading of each item.
use Rattle.std.specs.Prelude.{ℕ, ◌+◌, ◌-◌, ◌%◌, Bool, true, false, not, ◌==◌, nat_lt, nat_le, List, [], ◌++◌, length, take, drop, replicate, position, Option, Some, None, Result, Ok, Err, if◌then◌else◌}
use Rattle.std.specs.List.{concat, flat_map}
use Rattle.byteorder.specs.Endian.{big_bytes, big_number}
use Rattle.nm_xdr.specs.Fields.{short, padding, bool, too_long, enum, Fault, Reading, ◌>>=◌, fault_at, field, made, tested, whole, rows_at, all_of, item}

-- ---- Spelling

-- Four bytes, the highest first (sections 4.1 and 4.2; an enumeration's number too, section 4.3).
unfoldable pub word : ℕ → List ℕ
word n = big_bytes 4 n

-- Eight bytes, the highest first (section 4.5).
unfoldable pub hyper : ℕ → List ℕ
hyper n = big_bytes 8 n

-- The word 1 for true, and 0 for false (section 4.4).
unfoldable pub flag : Bool → List ℕ
flag b = word (if b then 1 else 0)

-- How many zero bytes follow n bytes, up to a multiple of four (section 3).
unfoldable pub padding_of : ℕ → ℕ
padding_of n = (4 - n % 4) % 4

-- Bytes whose number the layout fixes, and their padding (section 4.9).
unfoldable pub fixed : List ℕ → List ℕ
fixed bytes = bytes ++ replicate (padding_of (length bytes)) 0

-- A length, the bytes and their padding (section 4.10).
unfoldable pub opaque : List ℕ → List ℕ
opaque bytes = word (length bytes) ++ fixed bytes

-- A count and that many rows (section 4.13).
abbrev pub counted : {X : Type 0} → (X → List ℕ) → List X → List ℕ
counted row xs = word (length xs) ++ flat_map row xs

-- The parts of a structure, in the order of their declaration (section 4.14).
abbrev pub structure : List (List ℕ) → List ℕ
structure parts = concat parts

-- A discriminant, and the arm that it chooses (section 4.15).
abbrev pub union : List ℕ → List ℕ → List ℕ
union discriminant arm = discriminant ++ arm

-- A flag that says whether there is a value, and the value (section 4.19).
abbrev pub optional : {X : Type 0} → (X → List ℕ) → Option X → List ℕ
optional value None = flag false
optional value (Some x) = flag true ++ value x

-- ---- Reading

-- The number in the next four bytes.
unfoldable pub word_at : Reading ℕ
word_at bytes = if nat_lt (length bytes) 4 then fault_at short bytes else Ok (big_number 4 bytes, drop 4 bytes)

-- The number in the next eight bytes.
unfoldable pub hyper_at : Reading ℕ
hyper_at bytes = if nat_lt (length bytes) 8 then fault_at short bytes else Ok (big_number 8 bytes, drop 8 bytes)

-- Whether the next word is 1, where it is 0 or 1.
unfoldable pub flag_at : Reading Bool
flag_at bytes = field (tested (λ n. nat_le n 1) bool word_at) (λ n. made (n == 1)) bytes

-- n bytes, by where in their padding the first byte stands that isn't 0.
abbrev pub padded_at : ℕ → List ℕ → Option ℕ → Result (List ℕ × List ℕ) Fault
padded_at n bytes None = Ok (take n bytes, drop (n + padding_of n) bytes)
padded_at n bytes (Some i) = fault_at padding (drop (n + i) bytes)

-- n bytes whose padding is all 0. Where they or their padding end too soon, all of the item is missing.
unfoldable pub fixed_at : ℕ → Reading (List ℕ)
fixed_at n bytes =
    if nat_lt (length bytes) (n + padding_of n) then fault_at short bytes
    else padded_at n bytes (position (λ b. not (b == 0)) (take (padding_of n) (drop n bytes)))

-- A word that is at most max: a length or a count.
unfoldable pub length_at : ℕ → Reading ℕ
length_at max = tested (λ n. nat_le n max) (λ n. too_long n max) word_at

-- A length of at most max, and that many bytes with their padding.
-- Where these end too soon, all of the item is missing: the fault is at its length.
unfoldable pub opaque_at : ℕ → Reading (List ℕ)
opaque_at max = whole (field (length_at max) fixed_at)

-- A count of at most max, and that many rows, each read knowing those before it.
unfoldable pub counted_at : {X : Type 0} → ℕ → (List X → Reading X) → Reading (List X)
counted_at max row = field (length_at max) (λ n. rows_at row n [])

-- A length of at most max, and that many bytes with their padding: missing as a whole, whatever is wrong with them.
unfoldable pub bytes_at : ℕ → Reading (List ℕ)
bytes_at max = item (opaque_at max)

-- A word that is this number.
unfoldable pub only_at : ℕ → Reading ℕ
only_at number = tested (λ n. n == number) enum word_at

-- A word that is 0 or 1, and says which of two arms follows.
unfoldable pub choice_at : Reading ℕ
choice_at = tested (λ n. nat_le n 1) enum word_at

-- A count of at most max, and so many words.
unfoldable pub words_at : ℕ → Reading (List ℕ)
words_at max = counted_at max (λ _. word_at)

-- ---- A byte string whose inside is read, to its end

-- A fault of the inside, as one of the bytes around it, of which so many follow the inside.
abbrev pub moved : ℕ → Fault → Fault
moved behind f = record { flaw = f.flaw; left = f.left + behind }

-- What all of the inside is, with the bytes behind the byte string.
abbrev pub inside_as : {X : Type 0} → ℕ → List ℕ → Result X Fault → Result (X × List ℕ) Fault
inside_as behind rest (Ok x) = Ok (x, rest)
inside_as behind rest (Err f) = Err (moved behind f)

-- These bytes are the inside, all of them, and behind them and their padding comes the rest.
abbrev pub inside : {X : Type 0} → Reading X → List ℕ → Reading X
inside read bytes rest = inside_as (padding_of (length bytes) + length rest) rest (all_of read bytes)

-- A byte string of at most max bytes, all of which are read as this. A fault of the inside is told where it stands.
unfoldable pub inside_at : {X : Type 0} → ℕ → Reading X → Reading X
inside_at max read = field (bytes_at max) (inside read)

-- ---- Values that may be absent, and enumerations

-- The value that such a flag speaks of.
abbrev pub present : {X : Type 0} → Reading X → Bool → Reading (Option X)
present value false = made None
present value true = field value (λ x. made (Some x))

-- A flag, and where it is true a value.
unfoldable pub optional_at : {X : Type 0} → Reading X → Reading (Option X)
optional_at value = field flag_at (present value)

-- The value that was found for the word n, which stands at these bytes.
abbrev pub named : {X : Type 0} → Option X → ℕ → List ℕ → List ℕ → Result (X × List ℕ) Fault
named None n bytes rest = fault_at (enum n) bytes
named (Some x) n bytes rest = Ok (x, rest)

-- A word that is the number of one of the values of an enumeration, as `of` finds it (section 4.3).
unfoldable pub enum_at : {X : Type 0} → (ℕ → Option X) → Reading X
enum_at of bytes = word_at bytes >>= λ n. named (of n.0) n.0 bytes n.1
