use Rattle.std.proofs.Common.{◌≡◌, drop}
use Rattle.nm_short.specs.Requests.{last_cookie}
use Rattle.nm_short.proofs.asks.last_cookie.Given as goal

-- the entries that are left tell the last cookie of all
abbrev pub invariant-loop-entry : goal.invariant-loop-entry
invariant-loop-entry l = last_cookie l.last (drop l.entry-index l.entries) ≡ last_cookie l.fn.cookie l.entries
