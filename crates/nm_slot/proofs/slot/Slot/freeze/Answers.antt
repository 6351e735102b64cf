use Rattle.std.proofs.Common.{refl, arith}
use Rattle.nm_slot.proofs.StateLemmas.{kept_with}
use Rattle.nm_slot.proofs.slot.Slot.freeze.Goals as goal

pub invariant_of-self : goal.invariant_of-self
invariant_of-self c = (
  kept_with _ _ _ _ _ _ _ _ _ _ _ c.self.invariant.0 (c.freeze.ensures.kept _ _ _ c.self.invariant.0.stage) refl
      (omega (arith, c.self.invariant.0.count, c.freeze.ensures.count c.self.inside.count)),
  c.self.invariant.1,
)
