use Rattle.std.proofs.Common.{◌≡◌, ◌++◌, flat_map, map, take}
use Rattle.nm_script.specs.TableText.{lock_row_text}
use Rattle.nm_script.proofs.table_text.append_lock_rows.Given as goal

-- the ranges so far are written
abbrev pub invariant-loop-row : goal.invariant-loop-row
invariant-loop-row l = l.out.items ≡ l.initial.out.items ++ flat_map lock_row_text (map (λ h. (h.0.now, h.1)) (take l.row-index l.held))
