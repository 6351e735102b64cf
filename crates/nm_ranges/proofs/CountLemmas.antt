-- The rows that are counted as they come are as many as the list has.
use Rattle.std.proofs.Common.{◌≡◌, ◌≤◌, ℕ, ◌+◌, suc, Bool, true, false, cond, List, [], ◌∷◌, ◌++◌, Option, Some, None, length, refl, ap, sym, ◌∙◌, arith}
use Rattle.std.proofs.Common.{◌<◌, take, get_or}
use Rattle.std.proofs.lemmas.List.{take_all}
use Rattle.std.specs.Prelude.{◌==◌, ◌&&◌, ◌||◌}
use Rattle.nm_rules.specs.Locks.{cleared, cut, is_before, joined, joined_after, put_range, same_lock, set_to, touches}
use Rattle.nm_types.specs.declared.results.LockKind.{LockKind}
use Rattle.nm_types.specs.declared.rows.Held.{Held}
use Rattle.nm_rules.proofs.RangeRows.{touches_parts}
use Rattle.nm_ranges.specs.Counts.{came, goes_on, none_yet, one_more, took, took_all, took_with, total, total_with}
use Rattle.nm_ranges.proofs.RowLemmas.{cleared_more}
use Rattle.nm_ranges.specs.declared.counts.Counting.{Counting}

-- how many rows there are behind one, where neighbours that touch are one
joined_count : Option Held → List Held → ℕ
joined_count latest [] = 0
joined_count latest (x ∷ rows) = one_more latest x + joined_count (Some x) rows

-- what comes behind a row sees its owner, kind and last byte alone
count_same : (a b : Held) (rows : List Held) → a.owner ≡ b.owner → a.last ≡ b.last → a.kind ≡ b.kind → joined_count (Some a) rows ≡ joined_count (Some b) rows
unfolding joined_count
count_same a b [] owns ends likes = refl
count_same a b (y ∷ ys) owns ends likes =
    ap (λ (o : ℕ). cond ((o == y.owner) && (a.last + 1 == y.first) && same_lock a.kind y.kind) 0 1 + joined_count (Some y) ys) owns
    ∙ ap (λ (l : ℕ). cond ((b.owner == y.owner) && (l + 1 == y.first) && same_lock a.kind y.kind) 0 1 + joined_count (Some y) ys) ends
    ∙ ap (λ (k : LockKind). cond ((b.owner == y.owner) && (b.last + 1 == y.first) && same_lock k y.kind) 0 1 + joined_count (Some y) ys) likes

length-joined_after : (h : Held) (rows : List Held) → length (joined_after h rows) ≡ 1 + joined_count (Some h) rows
unfolding joined_count joined_after
length-joined_after h [] = refl
length-joined_after h (x ∷ rows) = by_touch (touches h x) refl (length-joined_after (record h { last = x.last }) rows) (length-joined_after x rows)
  where
    by_touch : (b : Bool) → touches h x ≡ b
        → length (joined_after (record h { last = x.last }) rows) ≡ 1 + joined_count (Some (record h { last = x.last })) rows
        → length (joined_after x rows) ≡ 1 + joined_count (Some x) rows
        → length (cond b (joined_after (record h { last = x.last }) rows) (h ∷ joined_after x rows)) ≡ 1 + (cond b 0 1 + joined_count (Some x) rows)
    by_touch true touch meld later =
        let same : joined_count (Some (record h { last = x.last })) rows ≡ joined_count (Some x) rows =
        count_same (record h { last = x.last }) x rows (touches_parts h x touch).0 refl (touches_parts h x touch).2 in
        omega (arith, meld, same)
    by_touch false touch meld later = omega (arith, later)

length-joined : (rows : List Held) → length (joined rows) ≡ joined_count None rows
unfolding joined_count joined
length-joined [] = refl
length-joined (h ∷ rows) = length-joined_after h rows

abbrev with_waiting : Option Held → List Held → List Held
with_waiting None rows = rows
with_waiting (Some new) rows = put_range new rows

total_is : (rows : List Held) (c : Counting) → total (took_all c rows) ≡ c.count + joined_count c.latest (with_waiting c.waiting rows)
unfolding joined_count took_all put_range
total_is [] c = by_waiting c.waiting
  where
    by_waiting : (w : Option Held) → total_with w c ≡ c.count + joined_count c.latest (with_waiting w [])
    by_waiting None = omega arith
    by_waiting (Some new) = omega arith
total_is (x ∷ rows) c = total_is rows (took c x) ∙ by_waiting c.waiting
  where
    by_place : (new : Held) (b : Bool)
        → (cond b (came c (Some new) x) (came (came c None new) None x)).count
        + joined_count (cond b (came c (Some new) x) (came (came c None new) None x)).latest (with_waiting (cond b (came c (Some new) x) (came (came c None new) None x)).waiting rows)
        ≡ c.count + joined_count c.latest (cond b (x ∷ put_range new rows) (new ∷ x ∷ rows))
    by_place new true = omega arith
    by_place new false = omega arith

    by_waiting : (w : Option Held) → (took_with w c x).count + joined_count (took_with w c x).latest (with_waiting (took_with w c x).waiting rows)
        ≡ c.count + joined_count c.latest (with_waiting w (x ∷ rows))
    by_waiting None = omega arith
    by_waiting (Some new) = by_place new (is_before x new)

pub took_append : (xs ys : List Held) (c : Counting) → took_all c (xs ++ ys) ≡ took_all (took_all c xs) ys
unfolding took_all
took_append [] ys c = refl
took_append (x ∷ xs) ys c = took_append xs ys (took c x)

pub took_more : (xs ys : List Held) (c d e : Counting) → d ≡ took_all c xs → e ≡ took_all d ys → e ≡ took_all c (xs ++ ys)
took_more xs ys c d e first then_more = then_more ∙ ap (λ s. took_all s ys) first ∙ sym (took_append xs ys c)

from_none : (n : ℕ) → 0 + n ≡ n
from_none n = omega arith

pub counted_set : (new : Held) (rows : List Held) → total (took_all (none_yet new) (cleared new.owner new.first new.last rows)) ≡ length (set_to new.owner new.kind new.first new.last rows)
unfolding set_to
counted_set new rows =
    total_is (cleared new.owner new.first new.last rows) (none_yet new)
    ∙ from_none (joined_count None (put_range new (cleared new.owner new.first new.last rows)))
    ∙ sym (length-joined (put_range new (cleared new.owner new.first new.last rows)))

-- what is left of one row more has come
pub came_more : (new : Held) (rows : List Held) (i : ℕ) (d : Held) (c next : Counting) → i < length rows
    → c ≡ took_all (none_yet new) (cleared new.owner new.first new.last (take i rows))
    → next ≡ took_all c (cut new.owner new.first new.last (get_or rows i d))
    → next ≡ took_all (none_yet new) (cleared new.owner new.first new.last (take (i + 1) rows))
came_more new rows i d c next within before step =
    took_more (cleared new.owner new.first new.last (take i rows)) (cut new.owner new.first new.last (get_or rows i d)) (none_yet new) c next before step
    ∙ ap (λ r. took_all (none_yet new) r) (sym (cleared_more new.owner new.first new.last rows i d within))

-- all have come
pub came_all : (new : Held) (rows : List Held) (i : ℕ) (c : Counting) → length rows ≤ i
    → c ≡ took_all (none_yet new) (cleared new.owner new.first new.last (take i rows))
    → total c ≡ length (set_to new.owner new.kind new.first new.last rows)
came_all new rows i c past before =
    ap total (before ∙ ap (λ r. took_all (none_yet new) (cleared new.owner new.first new.last r)) (take_all i rows past))
    ∙ counted_set new rows
