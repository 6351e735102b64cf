use Rattle.std.proofs.Common.{◌≡◌, ◌-◌, [], length}
use Rattle.nm_xdr.specs.Fields.{rows_at}
use Rattle.nm_xdr.specs.Items.{word_at}
use Rattle.nm_xdr.specs.Places.{end_of}
use Rattle.nm_items.proofs.kept.take_each.Given as goal

-- what is left to read, behind what was read, is what is read of all
abbrev pub invariant-loop : goal.invariant-loop
invariant-loop l = record {
  left : (rows_at (λ _. word_at) (l.count - l.counter) l.words l.cursor.rest ≡ rows_at (λ _. word_at) l.count [] l.initial.cursor.rest)
      × (end_of l.cursor ≡ end_of l.initial.cursor);
  few : length l.words ≡ l.counter;
}
