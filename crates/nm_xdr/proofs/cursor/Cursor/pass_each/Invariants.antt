use Rattle.std.proofs.Common.{◌≡◌, ◌-◌, []}
use Rattle.nm_xdr.specs.Fields.{rows_at, pass}
use Rattle.nm_xdr.specs.Items.{word_at}
use Rattle.nm_xdr.specs.Places.{end_of}
use Rattle.nm_xdr.proofs.cursor.Cursor.pass_each.Given as goal

-- what is left to pass is what is left of all
abbrev pub invariant-loop : goal.invariant-loop
invariant-loop l =
    (pass (rows_at (λ _. word_at) (l.count - l.counter) []) l.self.rest ≡ pass (rows_at (λ _. word_at) l.count []) l.initial.self.rest)
    × (end_of l.self ≡ end_of l.initial.self)
