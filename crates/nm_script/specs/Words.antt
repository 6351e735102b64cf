-- The words of a line: where they stand, and the forms of names and numbers.
use Rattle.std.specs.Prelude.{ℕ, ◌+◌, ◌-◌, ◌*◌, ◌^◌, Bool, false, not, ◌&&◌, ◌||◌, ◌==◌, nat_lt, nat_le, List, [], ◌∷◌, length, Option, Some, None, Result, Ok, Err, if◌then◌else◌, codes}
use Rattle.std.specs.Char.{is_ascii_alphanumeric, is_ascii_digit}
use Rattle.std.specs.List.{list_all, list_any, slice_split}
use Rattle.std.specs.Option.{option_and_then}
use Rattle.std.specs.Str.{bytes_eq}
use Rattle.hex.specs.Hex.{decode_of}
use Rattle.hex.specs.declared.error.FromHexError.{FromHexError}
use Rattle.nm_types.specs.declared.results.LockKind.{LockKind}
use Rattle.nm_types.specs.declared.results.LockKind.TheVariants.{Read, Write}
use Rattle.nm_script.specs.declared.script.Why.{Why}
use Rattle.nm_script.specs.declared.script.Why.TheVariants.{Word, Number}

-- the words of a line stand apart by one space
unfoldable pub words_of : List ℕ → List (List ℕ)
words_of line = slice_split (λ b. b == 32) line

abbrev pub has_empty_word : List (List ℕ) → Bool
has_empty_word words = list_any (λ word. length word == 0) words

-- each byte is one from 0x20 to 0x7e
abbrev pub is_printable : List ℕ → Bool
is_printable line = list_all (λ b. nat_le 32 b && nat_le b 126) line

-- an empty line and one that begins with # say nothing
abbrev pub says_something : List ℕ → Bool
says_something [] = false
says_something (first ∷ _) = not (first == 35)

-- a letter, a digit, - or _
unfoldable pub is_name_byte : ℕ → Bool
is_name_byte b = is_ascii_alphanumeric b || b == 45 || b == 95

abbrev pub are_name_bytes : List ℕ → Bool
are_name_bytes word = list_all is_name_byte word

-- these and .
abbrev pub are_file_bytes : List ℕ → Bool
are_file_bytes word = list_all (λ b. is_name_byte b || b == 46) word

-- 1 to 16 letters, digits, - or _
unfoldable pub is_name : List ℕ → Bool
is_name word = nat_le 1 (length word) && nat_le (length word) 16 && are_name_bytes word

-- 1 to 64 letters, digits, -, _ or ., but not . or ..
unfoldable pub is_file_name : List ℕ → Bool
is_file_name word =
    nat_le 1 (length word) && nat_le (length word) 64
    && not (bytes_eq word (codes ".")) && not (bytes_eq word (codes "..")) && are_file_bytes word

-- one more digit behind a number that stays below 2^64
unfoldable pub with_digit : ℕ → ℕ → Option ℕ
with_digit number digit =
    if is_ascii_digit digit && nat_lt (10 * number + (digit - 48)) (2 ^ 64)
    then Some (10 * number + (digit - 48)) else None

-- the number that the digits give behind a number
abbrev pub digits_at : ℕ → List ℕ → Option ℕ
digits_at number [] = Some number
digits_at number (digit ∷ digits) = option_and_then (λ more. digits_at more digits) (with_digit number digit)

abbrev pub number_or_fault : Option ℕ → Result ℕ Why
number_or_fault (Some number) = Ok number
number_or_fault None = Err Number

-- a number in decimal, below 2^64, with no sign and no leading zero
unfoldable pub number_at : List ℕ → Result ℕ Why
number_at [] = Err Number
number_at (first ∷ digits) =
    if first == 48 && nat_lt 0 (length digits) then Err Number else number_or_fault (digits_at 0 (first ∷ digits))

-- r reads, w writes, rw does both
unfoldable pub access_at : List ℕ → Result ℕ Why
access_at word =
    if bytes_eq word (codes "r") then Ok 1 else
    if bytes_eq word (codes "w") then Ok 2 else
    if bytes_eq word (codes "rw") then Ok 3 else Err Word

-- the same of others, or none of it
unfoldable pub deny_at : List ℕ → Result ℕ Why
deny_at word = if bytes_eq word (codes "none") then Ok 0 else access_at word

-- the kind of a lock: r reads, w writes
unfoldable pub lock_kind_at : List ℕ → Result LockKind Why
lock_kind_at word =
    if bytes_eq word (codes "r") then Ok Read else
    if bytes_eq word (codes "w") then Ok Write else Err Word

-- a hexadecimal digit, 0 to 9 or a to f
unfoldable pub is_small_digit : ℕ → Bool
is_small_digit b = is_ascii_digit b || (nat_le 97 b && nat_le b 102)

abbrev pub are_small_digits : List ℕ → Bool
are_small_digits word = list_all is_small_digit word

-- 2 to 2,048 of them
unfoldable pub is_hex : List ℕ → Bool
is_hex word = nat_le 2 (length word) && nat_le (length word) 2048 && are_small_digits word

abbrev pub bytes_or_fault : Result (List ℕ) FromHexError → Result (List ℕ) Why
bytes_or_fault (Ok bytes) = Ok bytes
bytes_or_fault (Err _) = Err Number

-- the bytes that so many digits spell, two of them a byte
unfoldable pub bytes_at : List ℕ → Result (List ℕ) Why
bytes_at word = if is_hex word then bytes_or_fault (decode_of word) else Err Number
