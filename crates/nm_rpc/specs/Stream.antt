-- A stream of records (RFC 5531, section 11): its fragments, the spellings of a record, and how a stream splits.
use Rattle.std.specs.Prelude.{◌≡◌, ◌≢◌, ℕ, ◌+◌, ◌*◌, ◌%◌, ◌<◌, ◌≤◌, Bool, true, false, nat_le, List, [], ◌∷◌, ◌++◌, length, fold}
use Rattle.std.specs.List.{flat_map, AllByRecursion}

-- A fragment: its header of four bytes, and the bytes that it adds to its record.
pub record Fragment : Type 0 where
  pub header : List ℕ
  pub body : List ℕ

-- The number that a header's bytes are, the highest first.
abbrev pub number_of : List ℕ → ℕ
number_of header = fold (λ n b. 256 * n + b) 0 header

-- The low 31 bits of a header's number: how many bytes the fragment has.
abbrev pub announced : ℕ → ℕ
announced number = number % 2147483648

-- Its top bit: whether the fragment is the last of its record.
abbrev pub is_last : ℕ → Bool
is_last number = nat_le 2147483648 number

-- The header is four bytes, the highest first. It says how many bytes the fragment has, and whether it is the last of its record.
pub record IsFragment (last : Bool) (f : Fragment) : Type 0 where
  pub four : length f.header ≡ 4
  pub whole : announced (number_of f.header) ≡ length f.body
  pub flagged : is_last (number_of f.header) ≡ last

-- The bytes of fragments on the stream.
abbrev pub spelled : List Fragment → List ℕ
spelled fragments = flat_map (λ f. f.header ++ f.body) fragments

-- What fragments add to their record.
abbrev pub joined : List Fragment → List ℕ
joined fragments = flat_map (λ f. f.body) fragments

-- Bytes spell a record: they are fragments of which the last alone is flagged, and joined these are the record.
pub record IsSpellingOf (record_bytes bytes : List ℕ) : Type 0 where
  pub earlier : List Fragment
  pub end : Fragment
  pub not_last : AllByRecursion (IsFragment false) earlier
  pub last : IsFragment true end
  pub whole : bytes ≡ spelled (earlier ++ end ∷ [])
  pub parts : record_bytes ≡ joined (earlier ++ end ∷ [])

-- Bytes are spellings of these records, one after the other.
abbrev pub AreSpellingsOf : List (List ℕ) → List ℕ → Type 0
AreSpellingsOf [] bytes = bytes ≡ []
AreSpellingsOf (r ∷ records) bytes = (front more : List ℕ) × IsSpellingOf r front × AreSpellingsOf records more × (bytes ≡ front ++ more)

-- Less than a record: no front of these bytes spells one.
abbrev pub BeginsNoRecord : List ℕ → Type 0
BeginsNoRecord rest = (record_bytes front more : List ℕ) → IsSpellingOf record_bytes front → rest ≢ front ++ more

-- The stream is these records, and then less than a record.
pub record Splits (stream : List ℕ) (records : List (List ℕ)) (rest : List ℕ) : Type 0 where
  pub front : List ℕ
  pub spellings : AreSpellingsOf records front
  pub whole : stream ≡ front ++ rest
  pub less : BeginsNoRecord rest

-- ---- A limit on records

-- The stream goes through spellings of these records, and through fragments of the next that aren't its last and add `before` to it. Then comes the tail. Nothing up to there is longer than the limit.
pub record Reaches (limit : ℕ) (stream : List ℕ) (records : List (List ℕ)) (before tail : List ℕ) : Type 0 where
  pub front : List ℕ
  pub earlier : List Fragment
  pub spellings : AreSpellingsOf records front
  pub within : AllByRecursion (λ r. length r ≤ limit) records
  pub not_last : AllByRecursion (IsFragment false) earlier
  pub parts : before ≡ joined earlier
  pub room : length before ≤ limit
  pub whole : stream ≡ front ++ (spelled earlier ++ tail)

-- The stream is too long: behind these records, and fragments of the next, comes a header that announces a fragment with which that record would have `got` bytes, more than the limit. This is the first such header.
pub record IsTooLong (limit : ℕ) (stream : List ℕ) (records : List (List ℕ)) (got : ℕ) : Type 0 where
  pub before : List ℕ
  pub header : List ℕ
  pub more : List ℕ
  pub reaches : Reaches limit stream records before (header ++ more)
  pub four : length header ≡ 4
  pub sum : got ≡ length before + announced (number_of header)
  pub past : limit < got
