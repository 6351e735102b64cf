use Rattle.std.proofs.Common.{◌≡◌, ◌++◌, flat_map, take}
use Rattle.nm_script.specs.TableText.{open_row_text}
use Rattle.nm_script.proofs.table_text.append_open_rows.Given as goal

-- the rows so far are written
abbrev pub invariant-loop-row : goal.invariant-loop-row
invariant-loop-row l = l.out.items ≡ l.initial.out.items ++ flat_map open_row_text (take l.row-index l.rows)
