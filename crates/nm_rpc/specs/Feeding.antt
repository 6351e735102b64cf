-- Where a stream stands after some of its bytes, one byte after the other.
use Rattle.std.specs.Prelude.{◌≡◌, ℕ, ◌+◌, ◌-◌, ◌*◌, ◌<◌, ◌≤◌, ◌==◌, Bool, true, false, nat_lt, List, [], ◌∷◌, ◌++◌, length, Option, Some, None, Result, Ok, Err, if◌then◌else◌}
use Rattle.nm_rpc.specs.declared.fault.RecordFault.{RecordFault}
use Rattle.nm_rpc.specs.declared.fault.RecordFault.TheVariants as told
use Rattle.nm_rpc.specs.declared.phase.Phase.{Phase}
use Rattle.nm_rpc.specs.declared.phase.Phase.TheVariants.{Header, Body, TooLong}
use Rattle.nm_rpc.specs.Stream.{number_of, announced, is_last, Reaches, IsTooLong}

-- Records over a stream: the most bytes that a record may have, the records that wait to be given, what has come of the next record, and what the next byte belongs to.
pub record RecordsNow : Type 0 where
  pub limit : ℕ
  pub waiting : List (List ℕ)
  pub partial : List ℕ
  pub phase : Phase

-- Before the first byte.
abbrev pub fresh : ℕ → RecordsNow
fresh limit = record { limit = limit; waiting = []; partial = []; phase = Header 0 0 }

-- A fragment has come: where it is the last, its record is whole.
abbrev pub ended : RecordsNow → Bool → RecordsNow
ended now true = record now { waiting = now.waiting ++ now.partial ∷ []; partial = []; phase = Header 0 0 }
ended now false = record now { phase = Header 0 0 }

-- So many bytes of a fragment are still to come.
unfoldable pub settled : RecordsNow → ℕ → Bool → RecordsNow
settled now left last = if left == 0 then ended now last else record now { phase = Body left last }

-- A header has come: its fragment is taken where the record has room for it.
unfoldable pub opened : RecordsNow → ℕ → RecordsNow
opened now number =
    if nat_lt now.limit (length now.partial + announced number) then record now { phase = TooLong (length now.partial + announced number) }
    else settled now (announced number) (is_last number)

-- These bytes of a fragment have come.
abbrev pub grown : RecordsNow → List ℕ → RecordsNow
grown now bytes = record now { partial = now.partial ++ bytes }

-- One more byte, by what it belongs to.
abbrev pub taken_in : RecordsNow → ℕ → Phase → RecordsNow
taken_in now b (Header number seen) =
    if seen == 3 then opened now (256 * number + b) else record now { phase = Header (256 * number + b) (seen + 1) }
taken_in now b (Body left last) = settled (grown now (b ∷ [])) (left - 1) last
taken_in now b (TooLong got) = now

-- One more byte.
unfoldable pub taken : RecordsNow → ℕ → RecordsNow
taken now b = taken_in now b now.phase

-- Some more bytes.
unfoldable pub fed : RecordsNow → List ℕ → RecordsNow
fed now [] = now
fed now (b ∷ bytes) = fed (taken now b) bytes

-- ---- Where this is in the stream

-- A record's whole fragments so far have added `before` to it, and this tail has come behind them: less than a header; or a header whose fragment fits, and less than that fragment's bytes; or a header that announces more than fits, and whatever follows. `partial` is what has come of the record.
abbrev pub Stands : ℕ → List ℕ → List ℕ → List ℕ → Phase → Type 0
Stands limit before tail partial (Header number seen) = (length tail ≡ seen) × (number_of tail ≡ number) × (seen < 4) × (partial ≡ before)
Stands limit before tail partial (Body left last) =
    (header body : List ℕ) × (tail ≡ header ++ body) × (length header ≡ 4) × (length body + left ≡ announced (number_of header)) × (0 < left)
    × (is_last (number_of header) ≡ last) × (partial ≡ before ++ body) × (length before + announced (number_of header) ≤ limit)
Stands limit before tail partial (TooLong got) =
    (header more : List ℕ) × (tail ≡ header ++ more) × (length header ≡ 4) × (got ≡ length before + announced (number_of header)) × (limit < got) × (partial ≡ before)

-- This is held after the stream so far, of which these records were given: they and those that wait are its records, and the rest is what has come of the next.
pub record IsAfter (stream : List ℕ) (given : List (List ℕ)) (now : RecordsNow) : Type 0 where
  pub before : List ℕ
  pub tail : List ℕ
  pub reaches : Reaches now.limit stream (given ++ now.waiting) before tail
  pub stands : Stands now.limit before tail now.partial now.phase

-- ---- Calls

-- How many bytes the record would have for which the stream was given up.
abbrev pub refusal_of : Phase → Option ℕ
refusal_of (Header number seen) = None
refusal_of (Body left last) = None
refusal_of (TooLong got) = Some got

-- What feeding a piece answers and leaves: the answer is TooLong where the stream is given up by then. Want of memory leaves everything as it was.
abbrev pub Feeds : RecordsNow → List ℕ → Result Unit RecordFault → RecordsNow → Type 0
Feeds old piece (Ok _) new = (new ≡ fed old piece) × (refusal_of new.phase ≡ None)
Feeds old piece (Err (told.TooLong got)) new = (new ≡ fed old piece) × (refusal_of new.phase ≡ Some got)
Feeds old piece (Err told.Memory) new = new ≡ old

-- The bytes of a piece that count: all, or none where there was no memory for it.
abbrev pub counted : List ℕ → Result Unit RecordFault → List ℕ
counted piece (Ok _) = piece
counted piece (Err (told.TooLong got)) = piece
counted piece (Err told.Memory) = []

-- What is given when the next record is asked for: the first that waits.
abbrev pub Gives : RecordsNow → Option (List ℕ) → RecordsNow → Type 0
Gives old None new = (new ≡ old) × (old.waiting ≡ [])
Gives old (Some r) new = (new ≡ record old { waiting = new.waiting }) × (old.waiting ≡ r ∷ new.waiting)

-- What is answered of a whole stream that isn't taken: TooLong where it is too long.
abbrev pub IsRefusal : ℕ → List ℕ → RecordFault → Type 0
IsRefusal limit stream (told.TooLong got) = (records : List (List ℕ)) × IsTooLong limit stream records got
IsRefusal limit stream told.Memory = Unit {0}
