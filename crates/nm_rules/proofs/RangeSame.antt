-- Two lists of rows that hold the same at each byte are the same.
use Rattle.std.proofs.Common.{◌≡◌, ◌≤◌, ◌<◌, ℕ, ◌+◌, Bool, true, false, cond, List, [], ◌∷◌, Option, Some, None, refl, ap, sym, subst, ◌∙◌, inl, inr, arith, eqb-true}
use Rattle.std.proofs.lemmas.Bool.{and_parts, leb-true, cases_lt}
use Rattle.std.specs.Prelude.{◌==◌, ◌&&◌, ◌⊎◌}
use Rattle.nm_rules.specs.Locks.{IsRow, is_before, kind_at}
use Rattle.nm_types.specs.declared.results.LockKind.{LockKind}
use Rattle.nm_types.specs.declared.rows.Held.{Held}
use Rattle.nm_rules.proofs.RangeRows.{all_in, before_tells, follows, follows_before, ranges_rise, rise_parts}
use Rattle.nm_rules.proofs.RangeBytes.{covers, held_kind, kind_is}
use Rattle.nm_rules.proofs.RangeApart.{IsAt, apart_bytes, cover_from, cover_parts, kind_of_row, not_behind_row, row_at}

abbrev Alike : List Held → List Held → Type 0
Alike xs ys = (o p : ℕ) → kind_at o p xs ≡ kind_at o p ys

up : (x : Held) (xs : List Held) → ranges_rise (x ∷ xs) ≡ true → x.first ≤ x.last
up x xs rising = leb-true x.first x.last (rise_parts x xs rising).0

-- the first row holds its first byte
first_held : (x : Held) (xs : List Held) → ranges_rise (x ∷ xs) ≡ true → kind_at x.owner x.first (x ∷ xs) ≡ Some x.kind
first_held x xs rising = kind_of_row (x ∷ xs) x x.first rising (inl refl) (cover_from x.first x (omega arith) (up x xs rising))

-- the first row stands before each other one
leads : (x : Held) (xs : List Held) (r : Held) → ranges_rise (x ∷ xs) ≡ true → IsRow r (x ∷ xs) → (r ≡ x) ⊎ (is_before x r ≡ true)
leads x xs r rising (inl here) = inl here
leads x xs r rising (inr there) = inr (follows_before x r (all_in (follows x) xs r (rise_parts x xs rising).1 there))

-- the first row of the second list is no later than that of the first
no_later : (x y : Held) (xs ys : List Held) → ranges_rise (x ∷ xs) ≡ true → ranges_rise (y ∷ ys) ≡ true → Alike (x ∷ xs) (y ∷ ys)
    → (y.owner < x.owner) ⊎ ((y.owner ≡ x.owner) × (y.first ≤ x.first))
no_later x y xs ys front back same = by_row (row_at x.owner x.first x.kind (y ∷ ys) (sym (same x.owner x.first) ∙ first_held x xs front))
  where
    by_step : (r : Held) → r.owner ≡ x.owner → (r.first ≤ x.first) × (x.first ≤ r.last) → (y.owner < r.owner) ⊎ ((y.owner ≡ r.owner) × (y.last < r.first))
        → (y.owner < x.owner) ⊎ ((y.owner ≡ x.owner) × (y.first ≤ x.first))
    by_step r owns has (inl low) = inl (omega (arith, low, owns))
    by_step r owns has (inr low) = inr (low.0 ∙ owns, omega (arith, low.1, has.0, up y ys back))

    by_lead : (r : Held) → r.owner ≡ x.owner → (r.first ≤ x.first) × (x.first ≤ r.last) → (r ≡ y) ⊎ (is_before y r ≡ true)
        → (y.owner < x.owner) ⊎ ((y.owner ≡ x.owner) × (y.first ≤ x.first))
    by_lead r owns has (inl e) =
        let begins : r.first ≡ y.first = ap (λ (h : Held). h.first) e in
        inr (sym (ap (λ (h : Held). h.owner) e) ∙ owns, omega (arith, begins, has.0))
    by_lead r owns has (inr it) = by_step r owns has (before_tells y r it)

    by_row : ((r : Held) × IsAt x.owner x.first x.kind (y ∷ ys) r) → (y.owner < x.owner) ⊎ ((y.owner ≡ x.owner) × (y.first ≤ x.first))
    by_row at = by_lead at.0 at.1.owns (cover_parts x.first at.0 at.1.has) (leads y ys at.0 back at.1.listed)

both_first : (x y : Held) → (y.owner < x.owner) ⊎ ((y.owner ≡ x.owner) × (y.first ≤ x.first)) → (x.owner < y.owner) ⊎ ((x.owner ≡ y.owner) × (x.first ≤ y.first))
    → (x.owner ≡ y.owner) × (x.first ≡ y.first)
both_first x y (inl a) (inl b) = absurd (omega (arith, a, b))
both_first x y (inl a) (inr b) = absurd (omega (arith, a, b.0))
both_first x y (inr a) (inl b) = absurd (omega (arith, a.0, b))
both_first x y (inr a) (inr b) = (b.0, omega (arith, a.1, b.1))

-- the first row of the second list reaches no further than that of the first, where they begin at one byte
no_longer : (x y : Held) (xs ys : List Held) → ranges_rise (x ∷ xs) ≡ true → ranges_rise (y ∷ ys) ≡ true → Alike (x ∷ xs) (y ∷ ys)
    → x.owner ≡ y.owner → x.first ≡ y.first → x.kind ≡ y.kind → y.last ≤ x.last
no_longer x y xs ys front back same owns begins likes = by_order (cases_lt x.last y.last)
  where
    never : x.last < y.last → ⊥
    never low =
        let at_y : kind_at y.owner (x.last + 1) (y ∷ ys) ≡ Some y.kind =
        kind_of_row (y ∷ ys) y (x.last + 1) back (inl refl) (cover_from (x.last + 1) y (omega (arith, begins, up x xs front)) (omega (arith, low))) in
        not_behind_row (x ∷ xs) x front (inl refl)
        (same x.owner (x.last + 1) ∙ ap (λ o. kind_at o (x.last + 1) (y ∷ ys)) owns ∙ at_y ∙ ap (λ (k : LockKind). Some k) (sym likes))

    by_order : (x.last < y.last) ⊎ (y.last ≤ x.last) → y.last ≤ x.last
    by_order (inl low) = absurd (never low)
    by_order (inr le) = le

same_kind : (a b : LockKind) → Some a ≡ Some b → a ≡ b
same_kind a b e = cc

heads : (x y : Held) (xs ys : List Held) → ranges_rise (x ∷ xs) ≡ true → ranges_rise (y ∷ ys) ≡ true → Alike (x ∷ xs) (y ∷ ys) → x ≡ y
heads x y xs ys front back same = λ i. record { owner = start.0 i; kind = likes i; first = start.1 i; last = ends i }
  where
    turned : Alike (y ∷ ys) (x ∷ xs)
    turned o p = sym (same o p)

    start : (x.owner ≡ y.owner) × (x.first ≡ y.first)
    start = both_first x y (no_later x y xs ys front back same) (no_later y x ys xs back front turned)

    likes : x.kind ≡ y.kind
    likes =
        same_kind x.kind y.kind
        (sym (first_held x xs front) ∙ same x.owner x.first ∙ ap (λ o. kind_at o x.first (y ∷ ys)) start.0 ∙ ap (λ p. kind_at y.owner p (y ∷ ys)) start.1 ∙ first_held y ys back)

    ends : x.last ≡ y.last
    ends =
        let le : y.last ≤ x.last = no_longer x y xs ys front back same start.0 start.1 likes in
        let ge : x.last ≤ y.last = no_longer y x ys xs back front turned (sym start.0) (sym start.1) (sym likes) in
        omega arith

-- what the first row holds no later one holds
none_behind : (x : Held) (xs : List Held) (o p : ℕ) → ranges_rise (x ∷ xs) ≡ true → ((x.owner == o) && covers p x) ≡ true → kind_at o p xs ≡ None
none_behind x xs o p rising on = by_kind (kind_at o p xs) refl
  where
    never : (k : LockKind) → ((r : Held) × IsAt o p k xs r) → ⊥
    never k at =
        let parts = and_parts (x.owner == o) (covers p x) on in
        apart_bytes x at.0 p (follows_before x at.0 (all_in (follows x) xs at.0 (rise_parts x xs rising).1 at.1.listed)) (eqb-true x.owner o parts.0 ∙ sym at.1.owns) parts.1 at.1.has

    by_kind : (k : Option LockKind) → kind_at o p xs ≡ k → kind_at o p xs ≡ None
    by_kind None is = is
    by_kind (Some k) is = absurd (never k (row_at o p k xs is))

tails : (x : Held) (xs ys : List Held) → ranges_rise (x ∷ xs) ≡ true → ranges_rise (x ∷ ys) ≡ true → Alike (x ∷ xs) (x ∷ ys) → Alike xs ys
unfolding held_kind
tails x xs ys front back same o p = by_test ((x.owner == o) && covers p x) refl (sym (kind_is o p (x ∷ xs)) ∙ same o p ∙ kind_is o p (x ∷ ys))
  where
    by_test : (b : Bool) → ((x.owner == o) && covers p x) ≡ b → cond b (Some x.kind) (held_kind o p xs) ≡ cond b (Some x.kind) (held_kind o p ys) → kind_at o p xs ≡ kind_at o p ys
    by_test true on e = none_behind x xs o p front on ∙ sym (none_behind x ys o p back on)
    by_test false off e = kind_is o p xs ∙ e ∙ sym (kind_is o p ys)

pub joined_same : (xs ys : List Held) → ranges_rise xs ≡ true → ranges_rise ys ≡ true → ((o p : ℕ) → kind_at o p xs ≡ kind_at o p ys) → xs ≡ ys
unfolding kind_at
joined_same [] [] front back same = refl
joined_same [] (y ∷ ys) front back same =
    let e : kind_at y.owner y.first [] ≡ Some y.kind = same y.owner y.first ∙ first_held y ys back in
    cc
joined_same (x ∷ xs) [] front back same =
    let e : kind_at x.owner x.first [] ≡ Some x.kind = sym (same x.owner x.first) ∙ first_held x xs front in
    cc
joined_same (x ∷ xs) (y ∷ ys) front back same =
    ap (λ z. z ∷ xs) e
    ∙ ap (λ rest. y ∷ rest)
    (joined_same xs ys (rise_parts x xs front).2 (rise_parts y ys back).2
    (tails x xs ys front (subst (λ z. ranges_rise (z ∷ ys) ≡ true) (sym e) back) (λ o p. same o p ∙ ap (λ z. kind_at o p (z ∷ ys)) (sym e))))
  where
    e : x ≡ y
    e = heads x y xs ys front back same
