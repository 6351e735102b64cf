-- The printed text, and why a script is refused.
use Rattle.std.specs.Prelude.{ℕ, List, ◌++◌, codes, decimal, flat_map}
use Rattle.nm_script.specs.declared.report.ReportRow.{ReportRow}
use Rattle.nm_script.specs.declared.report.ReportRow.TheVariants.{Outcome, Idle, Held, Phase, Move, NoPacket}
use Rattle.nm_script.specs.declared.script.Why.{Why}
use Rattle.nm_script.specs.declared.script.Why.TheVariants.{Limit, Bytes, Head, Word, Name, Number}
use Rattle.nm_script.specs.OutcomeText.{outcome_text, idle_text}
use Rattle.nm_script.specs.MoveText.{phase_line_text, move_row_text}
use Rattle.nm_script.specs.TableText.{held_text_of}
use Rattle.nm_script.specs.Writing.{line_feed}

unfoldable pub row_text : ReportRow → List ℕ
row_text (Outcome row) = outcome_text row
row_text (Idle row) = idle_text row
row_text (Held row) = held_text_of row.file_system row.phase row.table
row_text (Phase row) = phase_line_text row
row_text (Move row) = move_row_text row
row_text NoPacket = codes "no packet" ++ line_feed

-- what a line of a script prints: its rows, one after the other
abbrev pub report_text : List ReportRow → List ℕ
report_text report = flat_map row_text report

-- what a run prints: the reports of its lines, one after the other
abbrev pub text_of : List (List ReportRow) → List ℕ
text_of reports = flat_map report_text reports

unfoldable pub why_text : Why → List ℕ
why_text Limit = codes "limit"
why_text Bytes = codes "bytes"
why_text Head = codes "head"
why_text Word = codes "word"
why_text Name = codes "name"
why_text Number = codes "number"

-- `line N: WHY`
unfoldable pub fault_text_of : ℕ → Why → List ℕ
fault_text_of line why = codes "line " ++ decimal line ++ codes ": " ++ why_text why ++ line_feed

-- how the program is called
unfoldable pub usage_text_of : List ℕ
usage_text_of = codes "usage: nfsmove replay | nfsmove live" ++ line_feed
