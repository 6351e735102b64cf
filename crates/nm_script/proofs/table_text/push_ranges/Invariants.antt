use Rattle.std.proofs.Common.{◌≡◌, ◌++◌, map, take}
use Rattle.nm_script.specs.TableText.{with_row}
use Rattle.nm_script.proofs.table_text.push_ranges.Given as goal

-- the ranges so far are added
abbrev pub invariant-loop-range : goal.invariant-loop-range
invariant-loop-range l = map (λ h. (h.0.now, h.1)) l.held.items ≡ map (λ h. (h.0.now, h.1)) l.initial.held.items ++ with_row l.row (take l.range-index l.ranges)
