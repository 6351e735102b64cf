-- Where a result stands among the bytes of results.
use Rattle.std.specs.Prelude.{◌≡◌, ℕ, ◌-◌, ◌^◌, ◌<◌, ◌≤◌, Bool, true, false, nat_lt, List, [], ◌++◌, length, take, drop, Option, Some, None, Result, Ok, Err, if◌then◌else◌}
use Rattle.nm_xdr.specs.Fields.{Fault, Reading, field, made, rows_at}
use Rattle.nm_xdr.specs.Items.{word, opaque, length_at, bytes_at}
use Rattle.nm_types.specs.Statuses.{number_of}
use Rattle.nm_results.specs.declared.values.Results.{Results}
use Rattle.nm_results.specs.Results.{status_at, result_at, AreRows}

-- the results before the one of this index, of so many that are announced: whether it is one of them, or the end of them
unfoldable pub earlier_at : ℕ → ℕ → Reading Bool
earlier_at index count = if nat_lt count index then made false else field (rows_at (λ _. result_at) index []) (λ _. made true)

-- what stands before it: the status of the whole, the tag, the count of results, and those results
unfoldable pub before_at : ℕ → Reading Bool
before_at index = field status_at (λ status. field (bytes_at 1024) (λ tag. field (length_at (2 ^ 32 - 1)) (earlier_at index)))

-- how many bytes of so many that was
abbrev pub gone : ℕ → Result (Bool × List ℕ) Fault → Option ℕ
gone total (Ok x) = if x.0 then Some (total - length x.1) else None
gone total (Err f) = None

-- The place of the result of this index, the first of which has index 0. The place behind the last one, where there are as many.
unfoldable pub place_of_result : ℕ → List ℕ → Option ℕ
place_of_result index bytes = gone (length bytes) (before_at index bytes)

-- ---- The same, apart from how it is read

-- what stands in front of so many results, the bytes of which are given
abbrev pub front_of : Results → List ℕ → List ℕ
front_of v earlier = word (number_of v.status) ++ (opaque v.tag ++ (word (length v.items) ++ earlier))

-- In these bytes of results the one of this index begins at this place: the results before it stand in front of it, and from there on stand
-- it and those behind it.
pub record BeginsAt (v : Results) (index place : ℕ) (bytes : List ℕ) : Type 0 where
  pub tag : length v.tag ≤ 1024
  pub count : length v.items < 2 ^ 32
  pub within : index ≤ length v.items
  pub earlier : List ℕ
  pub further : List ℕ
  pub before : AreRows (take index v.items) earlier
  pub behind : AreRows (drop index v.items) further
  pub spelled : bytes ≡ front_of v earlier ++ further
  pub long : place ≡ length (front_of v earlier)
