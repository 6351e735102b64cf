use Rattle.std.proofs.Common.{◌≡◌, flat_map, map, take}
use Rattle.nm_script.specs.TableText.{ranges_in, with_row}
use Rattle.nm_script.proofs.table_text.ranges_held.Given as goal

-- the ranges of the stateids so far are taken
abbrev pub invariant-loop-row : goal.invariant-loop-row
invariant-loop-row l = map (λ h. (h.0.now, h.1)) l.held.items ≡ flat_map (λ row. with_row row (ranges_in row.row)) (take l.row-index l.rows)
