-- What is sorted by file, by first byte and by counter stands as it is shown.
use Rattle.std.proofs.Common.{◌≡◌, ℕ, Bool, eqb, ltb, List, map, Ordering, nat_cmp, is_lt, ap, ◌∙◌, arith}
use Rattle.std.specs.Prelude.{◌&&◌, ◌||◌}
use Rattle.std.specs.Cmp.{IsTotalOrder, then_total, on_total}
use Rattle.std.specs.List.Sorted.{IsSortedByKey, IsStableByKey}
use Rattle.std.specs.Ordering.{ordering_then}
use Rattle.std.proofs.lemmas.Bool.Decides.{nat_tests}
use Rattle.std.proofs.lemmas.Cmp.{nat_cmp_total}
use Rattle.std.proofs.lemmas.List.Sorted.{ranks_by}
use Rattle.nm_types.specs.declared.results.LockRange.{LockRange}
use Rattle.nm_types.specs.declared.table.HeldRow.{HeldRow}
use Rattle.nm_script.specs.TableText.{comes_before, in_order, ranges_held, ranges_shown}
use Rattle.nm_script.proofs.InOrder.{sorted_is_in_order, in_order_seen}

-- the order of three numbers
abbrev pub by_three : ℕ × ℕ × ℕ → ℕ × ℕ × ℕ → Ordering
by_three x y = ordering_then (ordering_then (nat_cmp x.0 y.0) (nat_cmp x.1 y.1)) (nat_cmp x.2 y.2)

three_total : IsTotalOrder by_three
three_total = then_total (then_total (on_total (λ t. t.0) nat_cmp_total) (on_total (λ t. t.1) nat_cmp_total)) (on_total (λ t. t.2) nat_cmp_total)

three_tests : (f g i j c d : ℕ) → is_lt (ordering_then (ordering_then (nat_cmp f g) (nat_cmp i j)) (nat_cmp c d)) ≡ (ltb f g || (eqb f g && (ltb i j || (eqb i j && ltb c d))))
three_tests f g i j c d = grind (arith, nat_tests)

module _ {X : Type 0} (row : X → HeldRow) (range : X → LockRange) where
  abbrev seen : X → HeldRow × LockRange
  seen x = (row x, range x)

  abbrev pub key : X → ℕ × ℕ × ℕ
  key x = ((row x).file, (range x).first, (row x).counter)

  by_key : (x y : X) → is_lt (by_three (key x) (key y)) ≡ comes_before (seen x) (seen y)
  unfolding comes_before
  by_key x y = three_tests (row x).file (row y).file (range x).first (range y).first (row x).counter (row y).counter

  pub sorted_are_shown : (held sorted : List X) (table : List HeldRow) → map seen held ≡ ranges_held table → IsSortedByKey key by_three sorted → IsStableByKey key by_three held sorted → map seen sorted ≡ ranges_shown table
  sorted_are_shown held sorted table all up stable =
      let by : X → X → Bool = λ x y. is_lt (by_three (key x) (key y)) in
      ap (map seen) (sorted_is_in_order by (ranks_by three_total key) held sorted up stable)
      ∙ in_order_seen by comes_before seen by_key held
      ∙ ap (in_order comes_before) all
