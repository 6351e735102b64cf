use Rattle.std.proofs.Common.{◌≡◌, map, take}
use Rattle.nm_rules.specs.Held.{held_row}
use Rattle.nm_state.proofs.shown.show_opens.Given as goal

-- the rows so far are shown
abbrev pub invariant-loop-row : goal.invariant-loop-row
invariant-loop-row l = l.held.items ≡ map (held_row l.files) (take l.row-index l.rows)
