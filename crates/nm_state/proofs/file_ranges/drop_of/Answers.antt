use Rattle.std.proofs.Common.{rules, ap, ◌∙◌}
use Rattle.std.specs.Prelude.{filter}
use Rattle.std.proofs.lemmas.Fn.{filter_same}
use Rattle.nm_rules.specs.LockRows.{has_ranges}
use Rattle.nm_state.proofs.file_ranges.drop_of.Goals as goal

pub returns : goal.returns
returns c = filter_same _ _ _ (λ row b f' h. search rules) _ _ c.retain.ensures.filtered ∙ ap (filter has_ranges) c.drop_each.ensures
