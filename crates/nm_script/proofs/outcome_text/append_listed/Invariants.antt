use Rattle.std.proofs.Common.{◌≡◌, ◌++◌, flat_map, take}
use Rattle.nm_script.specs.OutcomeText.{name_text}
use Rattle.nm_script.proofs.outcome_text.append_listed.Given as goal

-- the names so far are written
abbrev pub invariant-loop-name : goal.invariant-loop-name
invariant-loop-name l = l.out.items ≡ l.initial.out.items ++ flat_map name_text (take l.name-index l.names)
