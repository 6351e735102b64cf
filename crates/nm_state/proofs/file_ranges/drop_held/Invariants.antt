use Rattle.std.proofs.Common.{◌≡◌, drop}
use Rattle.std.specs.Prelude.{filter, not}
use Rattle.nm_rules.specs.LockRows.{is_held_by}
use Rattle.nm_state.proofs.file_ranges.drop_held.Given as goal

-- without what the stateids from here on hold, what is left is what is to be
abbrev pub invariant-loop-row : goal.invariant-loop-row
invariant-loop-row l =
    filter (λ h. not (is_held_by l.instance (drop l.row-index l.locks) h.owner)) l.ranges.table
    ≡ filter (λ h. not (is_held_by l.instance l.locks h.owner)) l.initial.ranges.table
