-- Ranges as a refusal tells them have one spelling.
use Rattle.std.proofs.Common.{◌≡◌, ◌≢◌, ◌≤◌, ◌<◌, ℕ, ◌+◌, ◌-◌, Bool, true, false, cond, refl, ap, sym, ◌∙◌, arith, eqb-true}
use Rattle.std.specs.Prelude.{◌==◌, ◌&&◌}
use Rattle.std.proofs.lemmas.Bool.{and_parts, eqb-false}
use Rattle.std.proofs.lemmas.Bool.Decides.{nat_tests}
use Rattle.nm_rules.specs.LockAsks.{last_told}
use Rattle.nm_rules.specs.LockOps.{denied_by}
use Rattle.nm_laws.specs.ToldRanges.{IsWithin, told_length}
use Rattle.nm_types.specs.Calls.{greatest}
use Rattle.nm_types.specs.declared.results.LockRange.{LockRange}
use Rattle.nm_types.specs.declared.rows.Held.{Held}
use Rattle.nm_types.specs.declared.rows.LockRow.{LockRow}

-- what is told of a range, over plain numbers
record IsToldAs (first last told : ℕ) : Type 0 where
  order : first ≤ told
  end : told ≤ greatest
  apart : first ≡ 0 → told + 1 ≢ greatest
  held : (first ≡ 0 → last + 1 ≢ greatest) → told ≡ last

last_is_told : (first last : ℕ) → first ≤ last → last ≤ greatest → IsToldAs first last (last_told first last)
unfolding last_told
last_is_told first last order end = by_test ((first == 0) && (last + 1 == greatest)) refl
  where
    by_test : (b : Bool) → ((first == 0) && (last + 1 == greatest)) ≡ b → IsToldAs first last (cond b greatest last)
    by_test true it =
        let parts = and_parts (first == 0) (last + 1 == greatest) it in
        record {
          order = omega (arith, order, end);
          end = omega arith;
          apart = λ zero same. absurd (omega (arith, same));
          held = λ other. absurd (other (eqb-true first 0 parts.0) (eqb-true (last + 1) greatest parts.1));
        }
    by_test false it = record {
      order = order;
      end = end;
      apart = λ zero same. absurd (both first last zero same it);
      held = λ other. refl;
    }
      where
        both : (m n : ℕ) → m ≡ 0 → n + 1 ≡ greatest → ((m == 0) && (n + 1 == greatest)) ≡ false → ⊥
        both m n zero same it = grind (arith, nat_tests)

-- of a length and a first byte there is one last byte
one_length : (first a b : ℕ) → first ≤ a → first ≤ b → a ≤ greatest → b ≤ greatest → (first ≡ 0 → a + 1 ≢ greatest) → (first ≡ 0 → b + 1 ≢ greatest)
    → told_length first a ≡ told_length first b → a ≡ b
one_length first a b low_a low_b end_a end_b apart_a apart_b same = by_ends (a == greatest) (b == greatest) refl refl same
  where
    whole : (n : ℕ) → first ≤ n → n ≤ greatest → (first ≡ 0 → n + 1 ≢ greatest) → n ≢ greatest → greatest ≡ n + 1 - first → ⊥
    whole n low end apart other it =
        let below : n < greatest = less n greatest end other in
        apart (omega (arith, it, low, below)) (omega (arith, it, low, below))
      where
        less : (m k : ℕ) → m ≤ k → m ≢ k → m < k
        less m k le differ = grind (arith, nat_tests)

    by_ends : (x y : Bool) → (a == greatest) ≡ x → (b == greatest) ≡ y → cond x greatest (a + 1 - first) ≡ cond y greatest (b + 1 - first) → a ≡ b
    by_ends true true at_a at_b it = eqb-true a greatest at_a ∙ sym (eqb-true b greatest at_b)
    by_ends true false at_a at_b it = absurd (whole b low_b end_b apart_b (eqb-false b greatest at_b) it)
    by_ends false true at_a at_b it = absurd (whole a low_a end_a apart_a (eqb-false a greatest at_a) (sym it))
    by_ends false false at_a at_b it = omega (arith, it, low_a, low_b)

pub one_spelling : (h other : Held) (row its : LockRow) → IsWithin h → IsWithin other → (denied_by h row).range.first ≡ (denied_by other its).range.first
    → told_length (denied_by h row).range.first (denied_by h row).range.last ≡ told_length (denied_by other its).range.first (denied_by other its).range.last
    → (denied_by h row).range.last ≡ (denied_by other its).range.last
one_spelling h other row its within too first length =
    let told : IsToldAs h.first h.last (last_told h.first h.last) = last_is_told h.first h.last within.order within.end in
    let other_told : IsToldAs h.first other.last (last_told h.first other.last) = last_is_told h.first other.last (omega (arith, first, too.order)) too.end in
    let same : last_told h.first other.last ≡ last_told other.first other.last = ap (λ n. last_told n other.last) first in
    one_length h.first (last_told h.first h.last) (last_told h.first other.last) told.order other_told.order told.end other_told.end told.apart other_told.apart
    (length ∙ sym (ap (λ n. told_length n (last_told n other.last)) first))
    ∙ same

pub never_told : (h : Held) (row : LockRow) → IsWithin h → (denied_by h row).range.first ≡ 0 → (denied_by h row).range.last + 1 ≢ greatest
never_told h row within zero = (last_is_told h.first h.last within.order within.end).apart zero

pub told_as_held : (h : Held) (row : LockRow) → IsWithin h → (h.first ≡ 0 → h.last + 1 ≢ greatest)
    → (denied_by h row).range ≡ record { kind = h.kind; first = h.first; last = h.last }
told_as_held h row within other = ap range_to ((last_is_told h.first h.last within.order within.end).held other)
  where
    range_to : ℕ → LockRange
    range_to last = record { kind = h.kind; first = h.first; last = last }
