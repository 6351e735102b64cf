-- What was put before still stands in front, whatever comes of a put behind it.
use Rattle.std.proofs.Common.{◌≡◌, ℕ, ◌+◌, List, ◌++◌, length, take, drop, refl, sym, ap, ◌∙◌, append_assoc, arith}
use Rattle.std.proofs.Math.Seq.{take-append_seam}
use Rattle.std.proofs.lemmas.List.{take-append-le, take-append-drop, drop_at, length-append}
use Rattle.nm_xdr.specs.Items.{word, opaque}

four : (n : ℕ) → length (word n) ≡ 4
unfolding word
four n = refl

-- What stands behind it doesn't matter.
pub front_there : (old more : List ℕ) → take (length old) (old ++ more) ≡ old
front_there old more = take-append_seam old more

-- One put more: what stood in front of both stands in front.
pub front_stands : (old more new : List ℕ) → take (length (old ++ more)) new ≡ old ++ more → take (length old) new ≡ old
front_stands old more new e = sym (ap (take (length old)) parts) ∙ short ∙ ap (take (length old)) e ∙ take-append_seam old more
  where
    parts : take (length (old ++ more)) new ++ drop (length (old ++ more)) new ≡ new
    parts = take-append-drop (length (old ++ more)) new

    short : take (length old) (take (length (old ++ more)) new ++ drop (length (old ++ more)) new) ≡ take (length old) (take (length (old ++ more)) new)
    short = take-append-le (length old) _ _ (omega (arith, ap length e, length-append old more))

-- How much stands then behind a place that was kept free.
pub closed_room : (old kept new inside : List ℕ) (n start : ℕ) → start ≡ length old → kept ≡ old ++ word n → new ≡ kept ++ inside → length new ≡ start + 4 + length inside
closed_room old kept new inside n start from free put =
    omega (arith, from, ap length free, ap length put, length-append old (word n), length-append kept inside, four n)

-- What was put behind a place that was kept free, as a byte string.
pub closed_opaque : (old inside : List ℕ) (n : ℕ)
    → take (length old) ((old ++ word n) ++ inside) ++ opaque (drop (length old + 4) ((old ++ word n) ++ inside)) ≡ old ++ opaque inside
closed_opaque old inside n = ap (λ (b : List ℕ). b ++ opaque (drop (length old + 4) ((old ++ word n) ++ inside))) front ∙ ap (λ (b : List ℕ). old ++ opaque b) behind
  where
    front : take (length old) ((old ++ word n) ++ inside) ≡ old
    front = ap (take (length old)) (append_assoc old (word n) inside) ∙ take-append_seam old (word n ++ inside)

    behind : drop (length old + 4) ((old ++ word n) ++ inside) ≡ inside
    behind = drop_at (old ++ word n) inside (length old + 4) (omega (arith, length-append old (word n), four n))
