-- The run, as the code keeps it.
use Rattle.std.specs.Prelude.{ℕ, List, Option, Some, None}
use Rattle.nm_script.specs.declared.report.ReportRow.{ReportRow}
use Rattle.nm_script.specs.declared.report.Told.{Told}
use Rattle.nm_slot.specs.declared.phase.Phase.{Phase as SlotPhase}
use Rattle.nm_slot.specs.SlotNow.{phase_of}
use Rattle.nm_short.specs.Known.{Known}
use Rattle.nm_short.specs.Tables.{FileTables, TriedTo, Step, TablesNow, slot_in}

-- what came of an action, with what it left
abbrev pub tried_to : Told → FileTables → Known → TriedTo
tried_to its_told f known = record { file = f; known = known; told = its_told }

-- what a line printed, with what it left
abbrev pub step_to : List ReportRow → TablesNow → Step
step_to rows t = record { rows = rows; next = t }

-- what a server does with a file system; none where there is no file system of that number
abbrev pub phase_shown_at : Option FileTables → ℕ → Option SlotPhase
phase_shown_at None server = None
phase_shown_at (Some f) server = Some (phase_of (slot_in f server))
