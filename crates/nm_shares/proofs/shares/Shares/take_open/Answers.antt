use Rattle.nm_shares.proofs.shares.Shares.take_open.Goals as goal

pub invariant_of-self-2 : goal.invariant_of-self-2
invariant_of-self-2 c = (c.in_ok-state.ensures.ok.rising, c.in_ok-state.ensures.bound c.self.invariant.1)
