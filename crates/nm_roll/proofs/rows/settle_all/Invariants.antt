use Rattle.std.proofs.Common.{◌≡◌, drop}
use Rattle.nm_roll.specs.Moves.{all_settled}
use Rattle.nm_roll.proofs.rows.settle_all.Given as goal

-- those that are left settle the rows as all of them do
abbrev pub invariant-loop-pass : goal.invariant-loop-pass
invariant-loop-pass l = all_settled l.clock l.fs (drop l.pass-index l.passes) l.rows.items ≡ all_settled l.clock l.fs l.passes l.initial.rows.items
