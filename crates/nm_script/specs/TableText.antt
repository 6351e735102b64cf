-- The printed text of what is held in a file system.
use Rattle.std.specs.Prelude.{ℕ, Bool, ◌==◌, ◌&&◌, ◌||◌, nat_lt, List, [], ◌∷◌, ◌++◌, codes, decimal, flat_map, map, if◌then◌else◌}
use Rattle.nm_types.specs.declared.results.LockRange.{LockRange}
use Rattle.nm_types.specs.declared.table.HeldKind.{HeldKind}
use Rattle.nm_types.specs.declared.table.HeldKind.TheVariants.{Open, Lock}
use Rattle.nm_types.specs.declared.table.HeldRow.{HeldRow}
use Rattle.nm_script.specs.declared.report.PhaseNow.{PhaseNow}
use Rattle.nm_script.specs.LockText.{range_text}
use Rattle.nm_script.specs.MoveText.{phase_text}
use Rattle.nm_script.specs.Writing.{line_feed}

-- ---- opens

-- what an opener will do; another number, which no open has, is printed as it is
unfoldable pub access_text : ℕ → List ℕ
access_text access =
    if access == 1 then codes "r" else
    (if access == 2 then codes "w" else
    (if access == 3 then codes "rw" else decimal access))

-- what others may not do meanwhile
unfoldable pub deny_text : ℕ → List ℕ
deny_text deny = if deny == 0 then codes "none" else access_text deny

-- what an open shares: its access and its deny
unfoldable pub shares_text : ℕ → ℕ → List ℕ
shares_text access deny = access_text access ++ codes " " ++ deny_text deny

-- `open FILE OWNER ACC DENY`
unfoldable pub open_words : List ℕ → List ℕ → ℕ → ℕ → List ℕ
open_words file owner access deny =
    codes "open " ++ file ++ codes " " ++ owner ++ codes " " ++ shares_text access deny

-- the line of an open, behind two spaces; locks have lines of their own
unfoldable pub open_line : List ℕ → List ℕ → HeldKind → List ℕ
open_line file owner (Open access deny) = codes "  " ++ open_words file owner access deny ++ line_feed
open_line file owner (Lock _) = []

unfoldable pub open_row_text : HeldRow → List ℕ
open_row_text row = open_line row.name row.owner row.row

-- ---- byte-range locks

unfoldable pub ranges_in : HeldKind → List LockRange
ranges_in (Open _ _) = []
ranges_in (Lock ranges) = ranges

-- each range of a stateid, with the stateid
abbrev pub with_row : HeldRow → List LockRange → List (HeldRow × LockRange)
with_row row ranges = map (λ range. (row, range)) ranges

-- those of all stateids
unfoldable pub ranges_held : List HeldRow → List (HeldRow × LockRange)
ranges_held table = flat_map (λ row. with_row row (ranges_in row.row)) table

-- A range is shown before another one: on a file of a lower number, on one file from a lower first byte on, and there of a stateid with a
-- lower counter.
unfoldable pub comes_before : HeldRow × LockRange → HeldRow × LockRange → Bool
comes_before a b =
    nat_lt a.0.file b.0.file || ((a.0.file == b.0.file)
    && (nat_lt a.1.first b.1.first || ((a.1.first == b.1.first) && nat_lt a.0.counter b.0.counter)))

-- an item in its place: behind those that come before it
abbrev pub put_in_order : {X : Type 0} → (X → X → Bool) → X → List X → List X
put_in_order before x [] = x ∷ []
put_in_order before x (y ∷ ys) = if before y x then y ∷ put_in_order before x ys else x ∷ y ∷ ys

abbrev pub in_order : {X : Type 0} → (X → X → Bool) → List X → List X
in_order before [] = []
in_order before (x ∷ xs) = put_in_order before x (in_order before xs)

-- all ranges, as they are shown
abbrev pub ranges_shown : List HeldRow → List (HeldRow × LockRange)
ranges_shown table = in_order comes_before (ranges_held table)

-- `lock FILE OWNER KIND OFFSET LENGTH`
unfoldable pub lock_words : HeldRow → LockRange → List ℕ
lock_words row range = codes "lock " ++ row.name ++ codes " " ++ row.owner ++ codes " " ++ range_text range

-- the line of a range, behind two spaces
unfoldable pub lock_row_text : HeldRow × LockRange → List ℕ
lock_row_text held = codes "  " ++ lock_words held.0 held.1 ++ line_feed

-- ---- all that is held

-- the phase line of a file system, a line for each open, and one for each range of a lock
unfoldable pub held_text_of : List ℕ → PhaseNow → List HeldRow → List ℕ
held_text_of file_system phase table =
    phase_text file_system phase ++ line_feed ++ flat_map open_row_text table ++ flat_map lock_row_text (ranges_shown table)
