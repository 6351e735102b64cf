use Rattle.std.proofs.Common.{drop}
use Rattle.nm_state.specs.Pages.{IsFront}
use Rattle.nm_state.proofs.listing.page.Given as goal

-- the entries so far are the front of those that there is room for
abbrev pub invariant-loop-row : goal.invariant-loop-row
invariant-loop-row l = IsFront l.dir l.cookie l.asks l.room l.rows l.entries l.left (drop l.row-index l.rows)
