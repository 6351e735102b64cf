-- What holds of the run of every script, after any number of its lines.
use Rattle.std.specs.Prelude.{◌≡◌, ℕ, false, List, [], ◌∷◌, Some, length, take, slice_get}
use Rattle.nm_rules.specs.Answer.{IsLegal}
use Rattle.nm_script.specs.declared.script.FsRow.{FsRow}
use Rattle.nm_script.specs.declared.script.Head.{Head}
use Rattle.nm_script.specs.declared.script.Line.{Line}
use Rattle.nm_script.specs.declared.script.Script.{Script}
use Rattle.nm_slot.specs.declared.phase.Phase.TheVariants.{Serving}
use Rattle.nm_slot.specs.History.{Home, IsHistory, slot_now, entries_now}
use Rattle.nm_slot.specs.SlotNow.{SlotView, phase_of}
use Rattle.nm_short.specs.Known.{knows_nothing}
use Rattle.nm_short.specs.ShortRun.{FileNow, RunNow, run_line, files_from}
use Rattle.nm_short.specs.Tables.{FileTables, TablesNow, told_line, tables_of_head}

-- before the first line
abbrev pub run_of_head : Head → RunNow
run_of_head head = record { files = files_from 0 head.file_systems; known = knows_nothing }

-- the run after these lines, over the steps and over what the servers have
unfoldable pub run_after : Head → RunNow → List Line → RunNow
run_after head r [] = r
run_after head r (line ∷ lines) = run_after head (run_line head r line).run lines

unfoldable pub tables_after : Head → TablesNow → List Line → TablesNow
tables_after head t [] = t
tables_after head t (line ∷ lines) = tables_after head (told_line head t line).next lines

-- after so many lines of a script
abbrev pub run_at : Script → ℕ → RunNow
run_at s lines = run_after s.head (run_of_head s.head) (take lines s.lines)

abbrev pub tables_at : Script → ℕ → TablesNow
tables_at s lines = tables_after s.head (tables_of_head s.head) (take lines s.lines)

-- the file system of a row of the head
abbrev pub home_of : ℕ → FsRow → Home
home_of fs row = record { fs = fs; grants = false; first = row.at }

-- one server at most serves it
abbrev pub IsServedOnce : FileTables → Type 0
IsServedOnce t = (a b : ℕ) (x y : SlotView) → slice_get t.slots a ≡ Some x → slice_get t.slots b ≡ Some y
    → phase_of x ≡ Serving → phase_of y ≡ Serving → a ≡ b

-- A file system after so many lines: what its servers did came as it may, what each server has of it is its column, and
-- each call that was carried out was answered as after those before it.
pub record IsAccounted (s : Script) (lines fs : ℕ) (row : FsRow) : Type 0 where
  pub file : FileNow
  pub tables : FileTables
  pub of_run : slice_get (run_at s lines).files fs ≡ Some file
  pub of_tables : slice_get (tables_at s lines).files fs ≡ Some tables
  pub home : file.home ≡ home_of fs row
  pub steps : IsHistory file.home file.moments
  -- each server of the script has its slot
  pub servers : length tables.slots ≡ length s.head.servers
  pub columns : (server : ℕ) (slot : SlotView) → slice_get tables.slots server ≡ Some slot → slot ≡ slot_now file.home file.moments server
  pub once : IsServedOnce tables
  pub legal : IsLegal file.home.fs file.home.grants (entries_now file.moments)
