use Rattle.std.proofs.Common.{◌≡◌, ◌-◌, ◌≤◌, length, take}
use Rattle.nm_script.specs.Outside.{with_more}
use Rattle.nm_script.proofs.outside.write_all.Given as goal

-- the bytes up to `done` are written
abbrev pub invariant-loop-done : goal.invariant-loop-done
invariant-loop-done g l = record {
  within : l.done ≤ length l.bytes;
  wrote : g.K.Sink.held l.sink ≡ with_more (g.K.Sink.held l.initial.sink) (take l.done l.bytes);
  count : g.K.Sink.faults l.initial.sink ≤ g.K.Sink.faults l.sink;
}

abbrev pub decreases-loop-done : goal.decreases-loop-done
decreases-loop-done g l = length l.bytes - l.done
