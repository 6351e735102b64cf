use Rattle.std.proofs.Common.{◌≡◌, ◌-◌, []}
use Rattle.nm_short.specs.Requests.{requests_limit}
use Rattle.nm_short.specs.Tables.{asks_to}
use Rattle.nm_short.proofs.files.FileSlots.ask.Given as goal

-- the requests that are left come to what all come to
abbrev pub invariant-loop-count : goal.invariant-loop-count
invariant-loop-count l =
    asks_to (requests_limit - l._count) l.self l.fn.server l.fn.pass.epoch l.client l.row l.action l.call l.clients l.names
    ≡ asks_to requests_limit l.fn.self l.fn.server l.fn.pass.epoch l.fn.client l.fn.row l.fn.action l.fn.first l.fn.clients []
