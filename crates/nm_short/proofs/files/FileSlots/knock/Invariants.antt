use Rattle.std.proofs.Common.{◌≡◌, ◌-◌}
use Rattle.nm_short.specs.Requests.{requests_limit}
use Rattle.nm_short.specs.Tables.{knocks_to}
use Rattle.nm_short.proofs.files.FileSlots.knock.Given as goal

-- the knocks that are left come to what all come to
abbrev pub invariant-loop-count : goal.invariant-loop-count
invariant-loop-count l = knocks_to (requests_limit - l._count) l.self l.server ≡ knocks_to requests_limit l.fn.self l.fn.from
