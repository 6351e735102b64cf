-- The run over what servers have is the run over their steps.
use Rattle.std.proofs.Common.{◌≡◌, ◌<◌, ◌≤◌, ◌+◌, ℕ, List, [], ◌∷◌, ◌++◌, drop, take, length, get_or, append_assoc, add-one, Option, Some, None, refl, ap, sym, ◌∙◌, arith}
use Rattle.std.proofs.lemmas.List.{append-nil, drop_all}
use Rattle.std.proofs.lemmas.List.Elements.{All-head, All-tail, All-take}
use Rattle.std.proofs.lemmas.Option.{same_Some, slice_get-map}
use Rattle.std.proofs.Math.Seq.{drop-cons}
use Rattle.std.specs.Prelude.{slice_get, unwrap_or, option_map}
use Rattle.std.specs.List.{All}
use Rattle.nm_script.specs.Grammar.{IsRun, IsWellFormed}
use Rattle.nm_script.specs.Text.{report_text, text_of}
use Rattle.nm_script.specs.declared.report.ReportRow.{ReportRow}
use Rattle.nm_script.specs.declared.script.FsRow.{FsRow}
use Rattle.nm_script.specs.declared.script.Head.{Head}
use Rattle.nm_script.specs.declared.script.Line.{Line}
use Rattle.nm_script.specs.declared.script.Script.{Script}
use Rattle.nm_slot.specs.declared.phase.Phase.TheVariants.{Serving}
use Rattle.nm_slot.specs.Phases.Phase.{At}
use Rattle.nm_slot.specs.SlotNow.{SlotView, phase_of}
use Rattle.nm_slot.proofs.HistoryLaws.{one_serves, stay_legal}
use Rattle.nm_short.specs.RunFacts.{run_after, tables_after, run_at, tables_at, run_of_head, home_of, IsServedOnce, IsAccounted}
use Rattle.nm_short.specs.ShortRun.{FileNow, RunNow, at_server, phase_of_file, run_line, reports, short_run}
use Rattle.nm_short.specs.Tables.{FileTables, TablesNow, Step, slot_in, no_part, told_line, text_from, tables_of_head}
use Rattle.nm_short.proofs.FirstLaws.{run_at_first}
use Rattle.nm_short.proofs.HomeLaws.{homes_after, home_at}
use Rattle.nm_short.proofs.LineLaws.{RunStands, IsRan, line_same}
use Rattle.nm_short.proofs.Several.{BothStand, stands_at}
use Rattle.nm_short.proofs.Standing.{Stands}

-- ---- the text

text_same : (head : Head) (r : RunNow) (t : TablesNow) (lines : List Line) → All (IsRun head) lines → RunStands (length head.servers) r t
    → text_from head t lines ≡ text_of (reports head r lines)
unfolding text_from reports
text_same head r t [] fits run = refl
text_same head r t (line ∷ lines) fits run =
    let same : IsRan (length head.servers) (run_line head r line) (told_line head t line) = line_same head r t line (All-head (IsRun head) line lines fits) run in
    ap (λ rows. report_text rows ++ text_from head (told_line head t line).next lines) same.rows
    ∙ ap (λ rest. report_text (run_line head r line).rows ++ rest)
    (text_same head (run_line head r line).run (told_line head t line).next lines (All-tail (IsRun head) line lines fits) same.next)

-- the text of the run over what servers have is that of the short run
pub text_of_script : (s : Script) → IsWellFormed s → text_from s.head (tables_of_head s.head) s.lines ≡ text_of (short_run s)
unfolding short_run
text_of_script s fits = text_same s.head (run_of_head s.head) (tables_of_head s.head) s.lines fits.lines (run_at_first s.head fits.head)

-- One more line: its text comes behind that of the lines before it.
pub text_next : (head : Head) (t : TablesNow) (lines : List Line) (i : ℕ) (line : Line) (rows : List ReportRow) (next : TablesNow) (text whole : List ℕ)
    → i < length lines → line ≡ get_or lines i line → told_line head t line ≡ record { rows = rows; next = next }
    → text ++ text_from head t (drop i lines) ≡ whole
    → (text ++ report_text rows) ++ text_from head next (drop (i + 1) lines) ≡ whole
unfolding text_from
text_next head t lines i line rows next text whole below it step told =
    let rest : List Line = drop (i + 1) lines in
    let split : drop i lines ≡ line ∷ rest = drop-cons lines i line below ∙ rw (← it, add-one) refl in
    append_assoc text (report_text rows) (text_from head next rest)
    ∙ ap (λ (s : Step). text ++ (report_text s.rows ++ text_from head s.next rest)) (sym step)
    ∙ ap (λ ls. text ++ text_from head t ls) (sym split)
    ∙ told

-- after the last line the text is whole
pub text_done : (head : Head) (t : TablesNow) (lines : List Line) (i : ℕ) (text whole : List ℕ) → length lines ≤ i
    → text ++ text_from head t (drop i lines) ≡ whole → text ≡ whole
unfolding text_from
text_done head t lines i text whole past told =
    sym (append-nil text) ∙ ap (λ ls. text ++ text_from head t ls) (sym (drop_all i lines past)) ∙ told

-- ---- each file system

stands_after : (head : Head) (r : RunNow) (t : TablesNow) (lines : List Line) → All (IsRun head) lines → RunStands (length head.servers) r t
    → RunStands (length head.servers) (run_after head r lines) (tables_after head t lines)
unfolding run_after tables_after
stands_after head r t [] fits run = run
stands_after head r t (line ∷ lines) fits run =
    stands_after head (run_line head r line).run (told_line head t line).next lines (All-tail (IsRun head) line lines fits)
    (line_same head r t line (All-head (IsRun head) line lines fits) run).next

stands_at_line : (s : Script) (lines : ℕ) → IsWellFormed s → RunStands (length s.head.servers) (run_at s lines) (tables_at s lines)
stands_at_line s lines fits =
    stands_after s.head (run_of_head s.head) (tables_of_head s.head) (take lines s.lines) (All-take (IsRun s.head) lines s.lines fits.lines) (run_at_first s.head fits.head)

column_at : (n : ℕ) (f : FileNow) (t : FileTables) → Stands n f t → (server : ℕ) (slot : SlotView) → slice_get t.slots server ≡ Some slot → slot ≡ at_server f server
unfolding slot_in
column_at n f t stands server slot at = sym (ap (λ o. unwrap_or o (no_part t.fs)) at) ∙ stands.slots server

serves_at : (n : ℕ) (f : FileNow) (t : FileTables) → Stands n f t → (server : ℕ) (slot : SlotView) → slice_get t.slots server ≡ Some slot
    → phase_of slot ≡ Serving → phase_of_file f ≡ At server
serves_at n f t stands server slot at serves =
    (one_serves f.home f.moments server).0 (ap phase_of (sym (column_at n f t stands server slot at)) ∙ serves)

served_once : (n : ℕ) (f : FileNow) (t : FileTables) → Stands n f t → IsServedOnce t
served_once n f t stands a b x y at_a at_b serves_a serves_b =
    let both : At a ≡ At b = sym (serves_at n f t stands a x at_a serves_a) ∙ serves_at n f t stands b y at_b serves_b in
    cc

account_of : (s : Script) (lines fs : ℕ) (row : FsRow) (f : Option FileNow) (t : Option FileTables)
    → slice_get (run_at s lines).files fs ≡ f → slice_get (tables_at s lines).files fs ≡ t → BothStand (length s.head.servers) f t
    → option_map (λ (x : FileNow). x.home) f ≡ Some (home_of fs row) → IsAccounted s lines fs row
account_of s lines fs row None t of_run of_tables both home = cc
account_of s lines fs row (Some f) None of_run of_tables both home = absurd both
account_of s lines fs row (Some f) (Some t) of_run of_tables both home = record {
  file = f;
  tables = t;
  of_run = of_run;
  of_tables = of_tables;
  home = same_Some f.home (home_of fs row) home;
  steps = both.history;
  servers = both.count;
  columns = column_at (length s.head.servers) f t both;
  once = served_once (length s.head.servers) f t both;
  legal = stay_legal f.home f.moments both.history;
}

home_after : (s : Script) (lines fs : ℕ) (row : FsRow) → slice_get s.head.file_systems fs ≡ Some row
    → option_map (λ (x : FileNow). x.home) (slice_get (run_at s lines).files fs) ≡ Some (home_of fs row)
home_after s lines fs row at =
    let sum : 0 + fs ≡ fs = omega arith in
    sym (slice_get-map (λ (x : FileNow). x.home) (run_at s lines).files fs)
    ∙ ap (λ hs. slice_get hs fs) (homes_after s.head (run_of_head s.head) (take lines s.lines))
    ∙ home_at 0 fs s.head.file_systems row at
    ∙ ap (λ j. Some (home_of j row)) sum

-- After so many lines of a script each of its file systems is accounted for.
pub accounted : (s : Script) → IsWellFormed s → (lines fs : ℕ) (row : FsRow) → slice_get s.head.file_systems fs ≡ Some row → IsAccounted s lines fs row
accounted s fits lines fs row at =
    account_of s lines fs row (slice_get (run_at s lines).files fs) (slice_get (tables_at s lines).files fs) refl refl
    (stands_at (length s.head.servers) fs (run_at s lines).files (tables_at s lines).files (stands_at_line s lines fits).files)
    (home_after s lines fs row at)
