use Rattle.std.proofs.Common.{rules}
use Rattle.std.proofs.lemmas.List.Sorted.{answers_always}
use Rattle.nm_script.proofs.ShownLaws.{key, sorted_are_shown}
use Rattle.nm_script.proofs.table_text.ranges_shown.Goals as goal

pub returns : goal.returns
returns c =
    let of = key (λ h. h.0.now) (λ h. h.1) in
    let each = answers_always _ _ _ (λ f a r g h. search rules) in
    sorted_are_shown (λ h. h.0.now) (λ h. h.1) _ _ _ c.in_ok-held.ensures
    (c.in_ok-sort_by_key.ensures.sorted of each) (c.sort_by_key.ensures.stable of each)
