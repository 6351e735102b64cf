use Rattle.nm_rules.proofs.RangeApart.{barrier_none, barrier_some, free_range}
use Rattle.nm_rules.proofs.RangeRows.{rise_of}
use Rattle.nm_rules.proofs.lock_laws.barriers_are_least.Goals as goal

pub returns : goal.returns
returns c = record {
  none = λ rows owner kind first last kept order.
      (λ none. free_range owner kind first last rows none, λ free. barrier_none owner kind first last rows (rise_of rows kept.rising) order free);
  some = λ rows owner kind first last h kept order found. barrier_some owner kind first last rows h (rise_of rows kept.rising) order found;
}
