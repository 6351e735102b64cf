use Rattle.std.proofs.Common.{◌≡◌, true, subst, sym}
use Rattle.std.specs.Prelude.{IsSome}
use Rattle.nm_rules.specs.Opens.{is_narrower}
use Rattle.nm_rules.specs.Seen.{Seen}
use Rattle.nm_rules.specs.Shares.{open_at}
use Rattle.nm_state.proofs.WentLemmas.{none_narrower}
use Rattle.nm_state.proofs.tables.Tables.narrow_open.Goals as goal

pub unreachable-requires : goal.unreachable-requires
unreachable-requires c =
    none_narrower _ c.args.access c.args.deny _ _
    (subst (λ (s : Seen). IsSome (open_at c.args.counter s.opens)) (sym c.self.view_is) c.requires.live)
    (subst (λ (s : Seen). is_narrower c.args.access c.args.deny (open_at c.args.counter s.opens) ≡ true) (sym c.self.view_is) c.requires.narrower)
    c.downgrade.ensures.answer c.in-Err.is
