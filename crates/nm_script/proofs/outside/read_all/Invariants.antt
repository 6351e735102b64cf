use Rattle.std.proofs.Common.{◌≡◌, ◌+◌, ◌-◌, ◌<◌, ◌≤◌, length}
use Rattle.nm_script.specs.Outside.{behind}
use Rattle.nm_script.proofs.outside.read_all.Given as goal

-- what is read so far stood in front of what is left
abbrev pub invariant-loop-text : goal.invariant-loop-text
invariant-loop-text g l = record {
  room : 0 < length l.buffer.items;
  within : length l.text.items ≤ l.most + 1;
  gives : g.S.Source.left l.initial.source ≡ behind l.text.items (g.S.Source.left l.source);
  count : g.S.Source.faults l.initial.source ≤ g.S.Source.faults l.source;
}

abbrev pub decreases-loop-text : goal.decreases-loop-text
decreases-loop-text g l = l.most + 1 - length l.text.items
