-- The printed text of who has a file system, and of what came of its moves.
use Rattle.std.specs.Prelude.{ℕ, List, ◌++◌, codes, decimal}
use Rattle.nm_types.specs.declared.cause.Cause.{Cause}
use Rattle.nm_types.specs.declared.cause.Cause.TheVariants.{BadImage, Old, Live, Differs, Full, Absent}
use Rattle.nm_script.specs.declared.report.MoveNames.{MoveNames}
use Rattle.nm_script.specs.declared.report.PhaseNow.{PhaseNow}
use Rattle.nm_script.specs.declared.report.PhaseNow.TheVariants.{At, Closing, Frozen, Passing}
use Rattle.nm_script.specs.declared.report.PhaseReport.{PhaseReport}
use Rattle.nm_script.specs.declared.report.MoveTold.{MoveTold}
use Rattle.nm_script.specs.declared.report.MoveTold.TheVariants.{NotServed, Busy, Same, Last, Waiting, Idle, Back, Late, Refused}
use Rattle.nm_script.specs.declared.report.MoveRow.{MoveRow}
use Rattle.nm_script.specs.Writing.{line_feed}

-- a move from its source to its destination: `S D move N`
unfoldable pub names_text : MoveNames → List ℕ
names_text names = names.source ++ codes " " ++ names.dest ++ codes " move " ++ decimal names.number

-- `F at S`, `F closing S D move N`, `F frozen S D move N` or `F passing S D move N`
unfoldable pub phase_text : List ℕ → PhaseNow → List ℕ
phase_text file_system (At server) = file_system ++ codes " at " ++ server
phase_text file_system (Closing names) = file_system ++ codes " closing " ++ names_text names
phase_text file_system (Frozen names) = file_system ++ codes " frozen " ++ names_text names
phase_text file_system (Passing names) = file_system ++ codes " passing " ++ names_text names

-- a phase line alone
unfoldable pub phase_line_text : PhaseReport → List ℕ
phase_line_text row = phase_text row.file_system row.phase ++ line_feed

-- why an offer is refused, with its numbers
unfoldable pub cause_text : Cause → List ℕ
cause_text (BadImage place) = codes "BADIMAGE " ++ decimal place
cause_text (Old known) = codes "OLD " ++ decimal known
cause_text Live = codes "LIVE"
cause_text (Differs here there) = codes "DIFFERS " ++ decimal here ++ codes " " ++ decimal there
cause_text Full = codes "FULL"
cause_text Absent = codes "ABSENT"

-- what came of a line that moves a file system
unfoldable pub move_told_text : MoveTold → List ℕ
move_told_text NotServed = codes "notserved"
move_told_text (Busy number) = codes "busy " ++ decimal number
move_told_text Same = codes "same"
move_told_text Last = codes "last"
move_told_text (Waiting requests) = codes "waiting " ++ decimal requests
move_told_text Idle = codes "idle"
move_told_text (Back server) = codes "back " ++ server
move_told_text (Late server) = codes "late " ++ server
move_told_text (Refused cause) = codes "refused " ++ cause_text cause

-- `F TOLD`
unfoldable pub move_row_text : MoveRow → List ℕ
move_row_text row = row.file_system ++ codes " " ++ move_told_text row.told ++ line_feed
