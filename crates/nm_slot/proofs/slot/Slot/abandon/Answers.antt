use Rattle.std.proofs.Common.{refl, arith}
use Rattle.nm_slot.proofs.StateLemmas.{kept_with}
use Rattle.nm_slot.proofs.slot.Slot.abandon.Goals as goal

pub invariant_of-self : goal.invariant_of-self
invariant_of-self c = (
  kept_with _ _ _ _ _ _ _ _ _ _ _ c.self.invariant.0 (c.abandon-answer.ensures.kept _ _ _ c.self.invariant.0.stage) refl
      (omega (arith, c.self.invariant.0.count, c.abandon-answer.ensures.count c.self.inside.count)),
  c.self.invariant.1,
)

pub invariant_of-self-in-Late : goal.invariant_of-self-in-Late
invariant_of-self-in-Late c = (
  kept_with _ _ _ _ _ _ _ _ _ _ _ c.self.invariant.0 (c.abandon-answer.ensures.kept _ _ _ c.self.invariant.0.stage) refl
      (omega (arith, c.self.invariant.0.count, c.abandon-answer.ensures.count c.self.inside.count)),
  c.self.invariant.1,
)
