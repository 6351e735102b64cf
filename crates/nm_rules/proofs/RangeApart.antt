-- No two owners hold conflicting locks at a byte, and what a lock meets first.
use Rattle.std.proofs.Common.{◌≡◌, ◌≢◌, ◌≤◌, ◌<◌, ℕ, ◌+◌, Bool, true, false, cond, List, [], ◌∷◌, Option, Some, None, refl, ap, sym, subst, ◌∙◌, inl, inr, arith, eqb-true}
use Rattle.std.proofs.lemmas.Bool.{false≢true, and_parts, and_from, leb-true, leb-false, ltb-true, ltb-false, le-leb, eq-eqb, ne_eqb, false_from_ne_true, both_ways, not-true}
use Rattle.std.specs.Prelude.{◌==◌, ◌&&◌, ◌⊎◌, not, nat_lt, nat_le}
use Rattle.std.specs.List.{list_any}
use Rattle.nm_rules.specs.Locks.{IsBarrier, IsFree, IsJoined, IsRow, barrier, cleared, conflicts, conflicts_with, dropped, is_before, is_in_way, is_inside, is_range, kind_at, kinds_conflict, met, nearest, none_conflict, overlaps, same_lock, set_to, touches}
use Rattle.nm_types.specs.declared.results.LockKind.{LockKind}
use Rattle.nm_types.specs.declared.results.LockKind.TheVariants.{Read, Write}
use Rattle.nm_types.specs.declared.rows.Held.{Held}
use Rattle.nm_rules.proofs.RangeRows.{all_in, any_from, before_tells, cleared_rises, dropped_rises, follows, follows_before, in_order, joined_of, none_in, ranges_in, ranges_rise, rise_of, rise_parts, same_lock-self}
use Rattle.nm_rules.proofs.RangeBytes.{covers, held_kind, kind_at-cleared, kind_at-dropped, kind_at-set, kind_is, set_rises}

-- ---- Bytes and rows

pub cover_parts : (p : ℕ) (h : Held) → covers p h ≡ true → (h.first ≤ p) × (p ≤ h.last)
cover_parts p h it =
    let parts = and_parts (nat_le h.first p) (nat_le p h.last) it in
    (leb-true h.first p parts.0, leb-true p h.last parts.1)

pub cover_from : (p : ℕ) (h : Held) → h.first ≤ p → p ≤ h.last → covers p h ≡ true
cover_from p h low high = and_from (nat_le h.first p) (nat_le p h.last) (le-leb h.first p low) (le-leb p h.last high)

-- A row of that owner and kind has the byte.
pub record IsAt (owner p : ℕ) (k : LockKind) (rows : List Held) (r : Held) : Type 0 where
  pub listed : IsRow r rows
  pub owns : r.owner ≡ owner
  pub has : covers p r ≡ true
  pub likes : r.kind ≡ k

held_row : (owner p : ℕ) (k : LockKind) (rows : List Held) → held_kind owner p rows ≡ Some k → (r : Held) × IsAt owner p k rows r
unfolding held_kind
held_row owner p k [] found = cc
held_row owner p k (x ∷ rows) found = at_head ((x.owner == owner) && covers p x) refl found (held_row owner p k rows)
  where
    further : ((r : Held) × IsAt owner p k rows r) → (r : Held) × IsAt owner p k (x ∷ rows) r
    further it = (it.0, record { listed = inr it.1.listed; owns = it.1.owns; has = it.1.has; likes = it.1.likes })

    at_head : (b : Bool) → ((x.owner == owner) && covers p x) ≡ b → cond b (Some x.kind) (held_kind owner p rows) ≡ Some k
        → (held_kind owner p rows ≡ Some k → (r : Held) × IsAt owner p k rows r) → (r : Held) × IsAt owner p k (x ∷ rows) r
    at_head true is this later =
        let parts = and_parts (x.owner == owner) (covers p x) is in
        (x, record { listed = inl refl; owns = eqb-true x.owner owner parts.0; has = parts.1; likes = cc })
    at_head false is rest later = further (later rest)

-- what an owner holds at a byte is a row's
pub row_at : (owner p : ℕ) (k : LockKind) (rows : List Held) → kind_at owner p rows ≡ Some k → (r : Held) × IsAt owner p k rows r
row_at owner p k rows found = held_row owner p k rows (sym (kind_is owner p rows) ∙ found)

-- two rows of one owner share no byte
pub apart_bytes : (a b : Held) (p : ℕ) → is_before a b ≡ true → a.owner ≡ b.owner → covers p a ≡ true → covers p b ≡ true → ⊥
apart_bytes a b p it same at_a at_b = by_side (before_tells a b it) (cover_parts p a at_a) (cover_parts p b at_b)
  where
    by_side : (a.owner < b.owner) ⊎ ((a.owner ≡ b.owner) × (a.last < b.first)) → (a.first ≤ p) × (p ≤ a.last) → (b.first ≤ p) × (p ≤ b.last) → ⊥
    by_side (inl low) in_a in_b = absurd (omega (arith, low, same))
    by_side (inr step) in_a in_b = absurd (omega (arith, step.1, in_a.1, in_b.0))

held_of_row : (rows : List Held) (r : Held) (p : ℕ) → ranges_rise rows ≡ true → IsRow r rows → covers p r ≡ true → held_kind r.owner p rows ≡ Some r.kind
unfolding held_kind
held_of_row [] r p rising none has = absurd none
held_of_row (x ∷ rows) r p rising (inl here) has =
    let on : ((x.owner == r.owner) && covers p x) ≡ true =
    and_from (x.owner == r.owner) (covers p x) (eq-eqb x.owner r.owner (sym (ap (λ (h : Held). h.owner) here))) (sym (ap (λ h. covers p h) here) ∙ has) in
    rw on (ap (λ (h : Held). Some h.kind) (sym here))
held_of_row (x ∷ rows) r p rising (inr there) has =
    at_head ((x.owner == r.owner) && covers p x) refl (held_of_row rows r p (rise_parts x rows rising).2 there has)
  where
    behind : is_before x r ≡ true
    behind = follows_before x r (all_in (follows x) rows r (rise_parts x rows rising).1 there)

    at_head : (b : Bool) → ((x.owner == r.owner) && covers p x) ≡ b → held_kind r.owner p rows ≡ Some r.kind → cond b (Some x.kind) (held_kind r.owner p rows) ≡ Some r.kind
    at_head true is later =
        let parts = and_parts (x.owner == r.owner) (covers p x) is in
        absurd (apart_bytes x r p behind (eqb-true x.owner r.owner parts.0) parts.1 has)
    at_head false is later = later

-- a row's owner holds its bytes with its kind
pub kind_of_row : (rows : List Held) (r : Held) (p : ℕ) → ranges_rise rows ≡ true → IsRow r rows → covers p r ≡ true → kind_at r.owner p rows ≡ Some r.kind
kind_of_row rows r p rising within has = kind_is r.owner p rows ∙ held_of_row rows r p rising within has

-- ---- Conflicts

pub kinds_conflict-sym : (a b : LockKind) → kinds_conflict a b ≡ kinds_conflict b a
kinds_conflict-sym Read Read = refl
kinds_conflict-sym Read Write = refl
kinds_conflict-sym Write Read = refl
kinds_conflict-sym Write Write = refl

-- no two owners hold conflicting locks at a byte
abbrev pub NoneMeet : List Held → Type 0
NoneMeet rows = (o q p : ℕ) (k j : LockKind) → o ≢ q → kind_at o p rows ≡ Some k → kind_at q p rows ≡ Some j → kinds_conflict k j ≡ false

pair_apart : (rows : List Held) (a b : Held) → none_conflict rows ≡ true → IsRow a rows → IsRow b rows → a.owner ≢ b.owner → (conflicts a b ≡ false) ⊎ (conflicts b a ≡ false)
pair_apart [] a b all none at ne = absurd none
pair_apart (x ∷ rows) a b all (inl here) (inl there) ne = absurd (ne (ap (λ (h : Held). h.owner) (here ∙ sym there)))
pair_apart (x ∷ rows) a b all (inl here) (inr there) ne =
    inl (ap (λ h. conflicts h b) here ∙ none_in (conflicts x) rows b (not_true (list_any (conflicts x) rows) (and_parts (not (list_any (conflicts x) rows)) (none_conflict rows) all).0) there)
  where
    not_true : (t : Bool) → not t ≡ true → t ≡ false
    not_true true it = sym it
    not_true false it = refl
pair_apart (x ∷ rows) a b all (inr here) (inl there) ne =
    inr (ap (λ h. conflicts h a) there ∙ none_in (conflicts x) rows a (not_true (list_any (conflicts x) rows) (and_parts (not (list_any (conflicts x) rows)) (none_conflict rows) all).0) here)
  where
    not_true : (t : Bool) → not t ≡ true → t ≡ false
    not_true true it = sym it
    not_true false it = refl
pair_apart (x ∷ rows) a b all (inr here) (inr there) ne = pair_apart rows a b (and_parts (not (list_any (conflicts x) rows)) (none_conflict rows) all).1 here there ne

last_test : (n v w : Bool) → n ≡ true → v ≡ true → (n && v && w) ≡ false → w ≡ false
last_test n v w first_true second_true none = rw (first_true, second_true) at none

-- rows of two owners that share a byte and don't conflict
meets_nothing : (a b : Held) (p : ℕ) → a.owner ≢ b.owner → covers p a ≡ true → covers p b ≡ true → conflicts a b ≡ false → kinds_conflict a.kind b.kind ≡ false
meets_nothing a b p ne at_a at_b none =
    let in_a = cover_parts p a at_a in
    let in_b = cover_parts p b at_b in
    let other : not (b.owner == a.owner) ≡ true = rw (ne_eqb b.owner a.owner (λ e. ne (sym e))) refl in
    let shared : overlaps a.first a.last b ≡ true =
    and_from (nat_le b.first a.last) (nat_le a.first b.last) (le-leb b.first a.last (omega (arith, in_a.1, in_b.0))) (le-leb a.first b.last (omega (arith, in_a.0, in_b.1))) in
    last_test (not (b.owner == a.owner)) (overlaps a.first a.last b) (kinds_conflict a.kind b.kind) other shared none

pub none_meet : (rows : List Held) → none_conflict rows ≡ true → NoneMeet rows
none_meet rows apart o q p k j ne at_o at_q = by_rows (row_at o p k rows at_o) (row_at q p j rows at_q)
  where
    by_rows : ((r : Held) × IsAt o p k rows r) → ((r : Held) × IsAt q p j rows r) → kinds_conflict k j ≡ false
    by_rows a b = rw (← a.1.likes, ← b.1.likes) (by_order (pair_apart rows a.0 b.0 apart a.1.listed b.1.listed different))
      where
        different : a.0.owner ≢ b.0.owner
        different e = ne (sym a.1.owns ∙ e ∙ b.1.owns)

        by_order : (conflicts a.0 b.0 ≡ false) ⊎ (conflicts b.0 a.0 ≡ false) → kinds_conflict a.0.kind b.0.kind ≡ false
        by_order (inl none) = meets_nothing a.0 b.0 p different a.1.has b.1.has none
        by_order (inr none) = kinds_conflict-sym a.0.kind b.0.kind ∙ meets_nothing b.0 a.0 p (λ e. different (sym e)) b.1.has a.1.has none

-- the tests of two rows that conflict
pub conflict_parts : (n v w : Bool) → (n && v && w) ≡ true → (n ≡ true) × (v ≡ true) × (w ≡ true)
conflict_parts n v w all =
    let outer = and_parts (n && v) w all in
    let inner = and_parts n v outer.0 in
    (inner.0, inner.1, outer.1)

-- where a row and a range share a byte, the least such byte is in both
pub met_in : (first last : ℕ) (h : Held) → first ≤ last → is_range h ≡ true → overlaps first last h ≡ true
    → (first ≤ met first h) × (met first h ≤ last) × (h.first ≤ met first h) × (met first h ≤ h.last)
met_in first last h order range shared =
    by_test (nat_lt first h.first) refl (leb-true h.first h.last range) (leb-true h.first last sides.0) (leb-true first h.last sides.1)
  where
    sides : (nat_le h.first last ≡ true) × (nat_le first h.last ≡ true)
    sides = and_parts (nat_le h.first last) (nat_le first h.last) shared

    by_test : (b : Bool) → nat_lt first h.first ≡ b → h.first ≤ h.last → h.first ≤ last → first ≤ h.last
        → (first ≤ cond b h.first first) × (cond b h.first first ≤ last) × (h.first ≤ cond b h.first first) × (cond b h.first first ≤ h.last)
    by_test true low up to from = let it : first < h.first = ltb-true first h.first low in (omega arith, omega arith, omega arith, omega arith)
    by_test false high up to from = let it : h.first ≤ first = ltb-false first h.first high in (omega arith, omega arith, omega arith, omega arith)

-- a byte of the range that the row has is no lower
pub met_least : (first p : ℕ) (h : Held) → first ≤ p → h.first ≤ p → met first h ≤ p
met_least first p h from has = by_test (nat_lt first h.first)
  where
    by_test : (b : Bool) → cond b h.first first ≤ p
    by_test true = has
    by_test false = from

-- rows that stand apart at every byte have no conflict
none_from : (rows : List Held) → ((a b : Held) → IsRow a rows → IsRow b rows → conflicts a b ≡ false) → none_conflict rows ≡ true
none_from [] each = refl
none_from (x ∷ rows) each =
    and_from (not (list_any (conflicts x) rows)) (none_conflict rows) (ap not (any_from (conflicts x) rows (λ b within. each x b (inl refl) (inr within))))
    (none_from rows (λ a b at_a at_b. each a b (inr at_a) (inr at_b)))

pub apart_of : (rows : List Held) → ranges_rise rows ≡ true → NoneMeet rows → none_conflict rows ≡ true
apart_of rows rising meet = none_from rows (λ a b at_a at_b. false_from_ne_true (conflicts a b) (never a b at_a at_b))
  where
    never : (a b : Held) → IsRow a rows → IsRow b rows → conflicts a b ≡ true → ⊥
    never a b at_a at_b all =
        let parts = conflict_parts (not (b.owner == a.owner)) (overlaps a.first a.last b) (kinds_conflict a.kind b.kind) all in
        let spot = met_in a.first a.last b (leb-true a.first a.last (ranges_in rows a rising at_a)) (ranges_in rows b rising at_b) parts.1 in
        both_ways (kinds_conflict a.kind b.kind)
        (meet a.owner b.owner (met a.first b) a.kind b.kind (λ e. both_ways (b.owner == a.owner) (not-true (b.owner == a.owner) parts.0) (eq-eqb b.owner a.owner (sym e)))
        (kind_of_row rows a (met a.first b) rising at_a (cover_from (met a.first b) a spot.0 spot.1))
        (kind_of_row rows b (met a.first b) rising at_b (cover_from (met a.first b) b spot.2 spot.3)))
        parts.2

-- ---- What a lock meets

pub free_at : (owner p : ℕ) (kind : LockKind) (rows : List Held) → NoneMeet rows → kind_at owner p rows ≡ Some kind → IsFree owner kind p rows
free_at owner p kind rows meet at other ne = by_kind (kind_at other p rows) refl
  where
    by_kind : (o : Option LockKind) → kind_at other p rows ≡ o → conflicts_with kind o ≡ false
    by_kind None is = refl
    by_kind (Some its) is = meet owner other p kind its (λ e. ne (sym e)) at is

-- What is met first: a row in the way, and no other one in the way is met lower, or at that byte by a lower owner.
pub record IsFound (owner : ℕ) (kind : LockKind) (first last : ℕ) (rows : List Held) (h : Held) : Type 0 where
  pub listed : IsRow h rows
  pub in_way : is_in_way owner kind first last h ≡ true
  pub least : (x : Held) → IsRow x rows → is_in_way owner kind first last x ≡ true → met first h ≤ met first x
  pub lowest : (x : Held) → IsRow x rows → is_in_way owner kind first last x ≡ true → met first x ≤ met first h → h.owner ≤ x.owner

pub none_in_way : (owner : ℕ) (kind : LockKind) (first last : ℕ) (rows : List Held) → barrier owner kind first last rows ≡ None
    → (x : Held) → IsRow x rows → is_in_way owner kind first last x ≡ false
unfolding barrier
none_in_way owner kind first last [] none x within = absurd within
none_in_way owner kind first last (y ∷ rows) none x within =
    at_head (is_in_way owner kind first last y) refl none within (none_in_way owner kind first last rows)
  where
    at_head : (b : Bool) → is_in_way owner kind first last y ≡ b
        → cond b (Some (nearest first y (barrier owner kind first last rows))) (barrier owner kind first last rows) ≡ None → IsRow x (y ∷ rows)
        → (barrier owner kind first last rows ≡ None → (z : Held) → IsRow z rows → is_in_way owner kind first last z ≡ false) → is_in_way owner kind first last x ≡ false
    at_head true is never at later = cc
    at_head false is rest (inl here) later = ap (λ h. is_in_way owner kind first last h) here ∙ is
    at_head false is rest (inr there) later = later rest x there

owners_rise : (y x : Held) → is_before y x ≡ true → y.owner ≤ x.owner
owners_rise y x it = by_side (before_tells y x it)
  where
    by_side : (y.owner < x.owner) ⊎ ((y.owner ≡ x.owner) × (y.last < x.first)) → y.owner ≤ x.owner
    by_side (inl low) = omega (arith, low)
    by_side (inr same) = omega (arith, same.0)

pub found_at : (owner : ℕ) (kind : LockKind) (first last : ℕ) (rows : List Held) (h : Held) → ranges_rise rows ≡ true → barrier owner kind first last rows ≡ Some h
    → IsFound owner kind first last rows h
unfolding barrier
found_at owner kind first last [] h rising found = cc
found_at owner kind first last (y ∷ rows) h rising found =
    at_head (is_in_way owner kind first last y) (barrier owner kind first last rows) refl refl found
    (found_at owner kind first last rows h (rise_parts y rows rising).2) (λ z. found_at owner kind first last rows z (rise_parts y rows rising).2)
  where
    behind : (x : Held) → IsRow x rows → y.owner ≤ x.owner
    behind x within = owners_rise y x (follows_before y x (all_in (follows y) rows x (rise_parts y rows rising).1 within))

    in_way_of : (x : Held) → x ≡ y → is_in_way owner kind first last x ≡ true → is_in_way owner kind first last y ≡ true
    in_way_of x e it = sym (ap (λ r. is_in_way owner kind first last r) e) ∙ it

    -- the first row is met first
    this : is_in_way owner kind first last y ≡ true → ((x : Held) → IsRow x rows → is_in_way owner kind first last x ≡ true → met first y ≤ met first x)
        → IsFound owner kind first last (y ∷ rows) y
    this is low = record {
      listed = inl refl;
      in_way = is;
      least = λ x within it. least_here x within it;
      lowest = λ x within it near. lowest_here x within;
    }
      where
        least_here : (x : Held) → IsRow x (y ∷ rows) → is_in_way owner kind first last x ≡ true → met first y ≤ met first x
        least_here x (inl here) it = subst (λ r. met first y ≤ met first r) (sym here) (omega arith)
        least_here x (inr there) it = low x there it

        lowest_here : (x : Held) → IsRow x (y ∷ rows) → y.owner ≤ x.owner
        lowest_here x (inl here) = subst (λ (r : Held). y.owner ≤ r.owner) (sym here) (omega arith)
        lowest_here x (inr there) = behind x there

    -- one behind it is
    further : (z : Held) → IsFound owner kind first last rows z → (is_in_way owner kind first last y ≡ true → met first z < met first y) → IsFound owner kind first last (y ∷ rows) z
    further z it high = record {
      listed = inr it.listed;
      in_way = it.in_way;
      least = λ x within way. least_there x within way;
      lowest = λ x within way near. lowest_there x within way near;
    }
      where
        least_there : (x : Held) → IsRow x (y ∷ rows) → is_in_way owner kind first last x ≡ true → met first z ≤ met first x
        least_there x (inl here) way =
            subst (λ r. met first z ≤ met first r) (sym here) (let low : met first z < met first y = high (in_way_of x here way) in omega (arith, low))
        least_there x (inr there) way = it.least x there way

        lowest_there : (x : Held) → IsRow x (y ∷ rows) → is_in_way owner kind first last x ≡ true → met first x ≤ met first z → z.owner ≤ x.owner
        lowest_there x (inl here) way near =
            let low : met first z < met first y = high (in_way_of x here way) in
            let same : met first y ≤ met first z = subst (λ r. met first r ≤ met first z) here near in
            absurd (omega (arith, low, same))
        lowest_there x (inr there) way near = it.lowest x there way near

    by_nearer : (z : Held) (b : Bool) → nat_le (met first y) (met first z) ≡ b → is_in_way owner kind first last y ≡ true → IsFound owner kind first last rows z → Some (cond b y z) ≡ Some h
        → IsFound owner kind first last (y ∷ rows) h
    by_nearer z true near is it same =
        let low : met first y ≤ met first z = leb-true (met first y) (met first z) near in
        let e : y ≡ h = cc in
        subst (λ r. IsFound owner kind first last (y ∷ rows) r) e (this is (λ x within way. more x (it.least x within way) low))
      where
        more : (x : Held) → met first z ≤ met first x → met first y ≤ met first z → met first y ≤ met first x
        more x a b = omega (arith, a, b)
    by_nearer z false near is it same =
        let e : z ≡ h = cc in
        subst (λ r. IsFound owner kind first last (y ∷ rows) r) e (further z it (λ way. leb-false (met first y) (met first z) near))

    at_head : (b : Bool) (found : Option Held) → is_in_way owner kind first last y ≡ b → barrier owner kind first last rows ≡ found
        → cond b (Some (nearest first y found)) found ≡ Some h
        → (barrier owner kind first last rows ≡ Some h → IsFound owner kind first last rows h)
        → ((z : Held) → barrier owner kind first last rows ≡ Some z → IsFound owner kind first last rows z)
        → IsFound owner kind first last (y ∷ rows) h
    at_head false found is rest same later at = further h (later (rest ∙ same)) (λ way. absurd (both_ways (is_in_way owner kind first last y) is way))
    at_head true None is rest same later at =
        let e : y ≡ h = cc in
        subst (λ r. IsFound owner kind first last (y ∷ rows) r) e
        (this is (λ x within way. absurd (both_ways (is_in_way owner kind first last x) (none_in_way owner kind first last rows rest x within) way)))
    at_head true (Some z) is rest same later at = by_nearer z (nat_le (met first y) (met first z)) refl is (at z rest) same

-- a row of another owner that has a byte of the range and conflicts is in the way
in_way_at : (owner : ℕ) (kind : LockKind) (first last p : ℕ) (r : Held) → r.owner ≢ owner → first ≤ p → p ≤ last → covers p r ≡ true → kinds_conflict kind r.kind ≡ true
    → is_in_way owner kind first last r ≡ true
in_way_at owner kind first last p r ne from to has writes =
    let parts = cover_parts p r has in
    let other : not (r.owner == owner) ≡ true = rw (ne_eqb r.owner owner ne) refl in
    let shared : overlaps first last r ≡ true =
    and_from (nat_le r.first last) (nat_le first r.last) (le-leb r.first last (omega (arith, parts.0, to))) (le-leb first r.last (omega (arith, parts.1, from))) in
    and_from (not (r.owner == owner) && overlaps first last r) (kinds_conflict kind r.kind) (and_from (not (r.owner == owner)) (overlaps first last r) other shared) writes

-- what is held in conflict at a byte is a row in the way
way_at : (owner : ℕ) (kind : LockKind) (first last p other : ℕ) (rows : List Held) → other ≢ owner → first ≤ p → p ≤ last → conflicts_with kind (kind_at other p rows) ≡ true
    → (r : Held) × IsRow r rows × (r.owner ≡ other) × (covers p r ≡ true) × (is_in_way owner kind first last r ≡ true)
way_at owner kind first last p other rows ne from to it = by_kind (kind_at other p rows) refl it
  where
    by_row : (its : LockKind) → kinds_conflict kind its ≡ true → ((r : Held) × IsAt other p its rows r)
        → (r : Held) × IsRow r rows × (r.owner ≡ other) × (covers p r ≡ true) × (is_in_way owner kind first last r ≡ true)
    by_row its writes at = (
      at.0,
      at.1.listed,
      at.1.owns,
      at.1.has,
      in_way_at owner kind first last p at.0 (λ e. ne (sym at.1.owns ∙ e)) from to at.1.has (ap (λ k. kinds_conflict kind k) at.1.likes ∙ writes),
    )

    by_kind : (o : Option LockKind) → kind_at other p rows ≡ o → conflicts_with kind o ≡ true
        → (r : Held) × IsRow r rows × (r.owner ≡ other) × (covers p r ≡ true) × (is_in_way owner kind first last r ≡ true)
    by_kind None is conflict = absurd (false≢true conflict)
    by_kind (Some its) is conflict = by_row its conflict (row_at other p its rows is)

-- where nothing is in the way, each byte of the range is free
pub free_range : (owner : ℕ) (kind : LockKind) (first last : ℕ) (rows : List Held) → barrier owner kind first last rows ≡ None
    → (p : ℕ) → first ≤ p → p ≤ last → IsFree owner kind p rows
free_range owner kind first last rows none p from to other ne = false_from_ne_true (conflicts_with kind (kind_at other p rows)) (λ it. never (way_at owner kind first last p other rows ne from to it))
  where
    never : ((r : Held) × IsRow r rows × (r.owner ≡ other) × (covers p r ≡ true) × (is_in_way owner kind first last r ≡ true)) → ⊥
    never found = both_ways (is_in_way owner kind first last found.0) (none_in_way owner kind first last rows none found.0 found.1) found.4

-- the longest run: no row of the same owner and kind begins behind it or ends before it
no_neighbour : (rows : List Held) (a b : Held) → ranges_rise rows ≡ true → IsRow a rows → IsRow b rows → a.owner ≡ b.owner → a.kind ≡ b.kind → a.last + 1 ≡ b.first → ⊥
no_neighbour rows a b rising at_a at_b same likes step = by_order (in_order rows a b rising at_a at_b)
  where
    up : (a.first ≤ a.last) × (b.first ≤ b.last)
    up = (leb-true a.first a.last (ranges_in rows a rising at_a), leb-true b.first b.last (ranges_in rows b rising at_b))

    touching : touches a b ≡ true
    touching =
        and_from ((a.owner == b.owner) && (a.last + 1 == b.first)) (same_lock a.kind b.kind)
        (and_from (a.owner == b.owner) (a.last + 1 == b.first) (eq-eqb a.owner b.owner same) (eq-eqb (a.last + 1) b.first step))
        (ap (λ k. same_lock a.kind k) (sym likes) ∙ same_lock-self a.kind)

    backwards : (b.owner < a.owner) ⊎ ((b.owner ≡ a.owner) × (b.last < a.first)) → ⊥
    backwards (inl low) = absurd (omega (arith, low, same))
    backwards (inr low) = absurd (omega (arith, low.1, step, up.0, up.1))

    by_order : (a ≡ b) ⊎ ((follows a b ≡ true) ⊎ (follows b a ≡ true)) → ⊥
    by_order (inl e) =
        let ends : a.last ≡ b.last = ap (λ (h : Held). h.last) e in
        absurd (omega (arith, ends, step, up.1))
    by_order (inr (inl it)) = both_ways (touches a b) (not-true (touches a b) (and_parts (is_before a b) (not (touches a b)) it).1) touching
    by_order (inr (inr it)) = backwards (before_tells b a (follows_before b a it))

-- the row that has the byte behind another one of its owner begins there
begins_there : (rows : List Held) (a b : Held) → ranges_rise rows ≡ true → IsRow a rows → IsRow b rows → a.owner ≡ b.owner → covers (a.last + 1) b ≡ true → a.last + 1 ≡ b.first
begins_there rows a b rising at_a at_b same has = by_order (in_order rows a b rising at_a at_b) (cover_parts (a.last + 1) b has)
  where
    up : a.first ≤ a.last
    up = leb-true a.first a.last (ranges_in rows a rising at_a)

    after_it : (a.owner < b.owner) ⊎ ((a.owner ≡ b.owner) × (a.last < b.first)) → (b.first ≤ a.last + 1) × (a.last + 1 ≤ b.last) → a.last + 1 ≡ b.first
    after_it (inl low) at = absurd (omega (arith, low, same))
    after_it (inr low) at = omega (arith, low.1, at.0)

    before_it : (b.owner < a.owner) ⊎ ((b.owner ≡ a.owner) × (b.last < a.first)) → (b.first ≤ a.last + 1) × (a.last + 1 ≤ b.last) → a.last + 1 ≡ b.first
    before_it (inl low) at = absurd (omega (arith, low, same))
    before_it (inr low) at = absurd (omega (arith, low.1, at.1, up))

    by_order : (a ≡ b) ⊎ ((follows a b ≡ true) ⊎ (follows b a ≡ true)) → (b.first ≤ a.last + 1) × (a.last + 1 ≤ b.last) → a.last + 1 ≡ b.first
    by_order (inl e) at =
        let ends : a.last ≡ b.last = ap (λ (h : Held). h.last) e in
        absurd (omega (arith, ends, at.1))
    by_order (inr (inl it)) at = after_it (before_tells a b (follows_before a b it)) at
    by_order (inr (inr it)) at = before_it (before_tells b a (follows_before b a it)) at

-- the row that has the byte before another one of its owner ends there
ends_there : (rows : List Held) (a b : Held) (p : ℕ) → ranges_rise rows ≡ true → IsRow a rows → IsRow b rows → a.owner ≡ b.owner → p + 1 ≡ b.first → covers p a ≡ true → a.last + 1 ≡ b.first
ends_there rows a b p rising at_a at_b same step has = by_order (in_order rows a b rising at_a at_b) (cover_parts p a has)
  where
    up : b.first ≤ b.last
    up = leb-true b.first b.last (ranges_in rows b rising at_b)

    after_it : (a.owner < b.owner) ⊎ ((a.owner ≡ b.owner) × (a.last < b.first)) → (a.first ≤ p) × (p ≤ a.last) → a.last + 1 ≡ b.first
    after_it (inl low) at = absurd (omega (arith, low, same))
    after_it (inr low) at = omega (arith, low.1, at.1, step)

    before_it : (b.owner < a.owner) ⊎ ((b.owner ≡ a.owner) × (b.last < a.first)) → (a.first ≤ p) × (p ≤ a.last) → a.last + 1 ≡ b.first
    before_it (inl low) at = absurd (omega (arith, low, same))
    before_it (inr low) at = absurd (omega (arith, low.1, at.0, step, up))

    by_order : (a ≡ b) ⊎ ((follows a b ≡ true) ⊎ (follows b a ≡ true)) → (a.first ≤ p) × (p ≤ a.last) → a.last + 1 ≡ b.first
    by_order (inl e) at =
        let begins : a.first ≡ b.first = ap (λ (h : Held). h.first) e in
        absurd (omega (arith, begins, at.0, step))
    by_order (inr (inl it)) at = after_it (before_tells a b (follows_before a b it)) at
    by_order (inr (inr it)) at = before_it (before_tells b a (follows_before b a it)) at

pub not_behind_row : (rows : List Held) (h : Held) → ranges_rise rows ≡ true → IsRow h rows → kind_at h.owner (h.last + 1) rows ≢ Some h.kind
not_behind_row rows h rising at_h it = by_row (row_at h.owner (h.last + 1) h.kind rows it)
  where
    by_row : ((r : Held) × IsAt h.owner (h.last + 1) h.kind rows r) → ⊥
    by_row at =
        no_neighbour rows h at.0 rising at_h at.1.listed (sym at.1.owns) (sym at.1.likes)
        (begins_there rows h at.0 rising at_h at.1.listed (sym at.1.owns) at.1.has)

pub not_before_row : (rows : List Held) (h : Held) (p : ℕ) → ranges_rise rows ≡ true → IsRow h rows → p + 1 ≡ h.first → kind_at h.owner p rows ≢ Some h.kind
not_before_row rows h p rising at_h step it = by_row (row_at h.owner p h.kind rows it)
  where
    by_row : ((r : Held) × IsAt h.owner p h.kind rows r) → ⊥
    by_row at =
        no_neighbour rows at.0 h rising at.1.listed at_h at.1.owns at.1.likes
        (ends_there rows at.0 h p rising at.1.listed at_h at.1.owns step at.1.has)

pub is_barrier : (owner : ℕ) (kind : LockKind) (first last : ℕ) (rows : List Held) (h : Held) → ranges_rise rows ≡ true → first ≤ last → IsFound owner kind first last rows h
    → IsBarrier owner kind first last rows h
is_barrier owner kind first last rows h rising order it =
    record {
      listed = it.listed;
      others = λ e. both_ways (h.owner == owner) (not-true (h.owner == owner) parts.0) (eq-eqb h.owner owner e);
      in_conflict = parts.2;
      met_within = (spot.0, spot.1);
      met_held = (spot.2, spot.3);
      least_byte = λ p from low other ne. lower p other from low ne;
      least_owner = λ other low ne. beneath other low ne;
      held = λ p from to. kind_of_row rows h p rising it.listed (cover_from p h from to);
      not_before = λ p step. not_before_row rows h p rising it.listed step;
      not_behind = not_behind_row rows h rising it.listed;
    }
  where
    parts : (not (h.owner == owner) ≡ true) × (overlaps first last h ≡ true) × (kinds_conflict kind h.kind ≡ true)
    parts = conflict_parts (not (h.owner == owner)) (overlaps first last h) (kinds_conflict kind h.kind) it.in_way

    spot : (first ≤ met first h) × (met first h ≤ last) × (h.first ≤ met first h) × (met first h ≤ h.last)
    spot = met_in first last h order (ranges_in rows h rising it.listed) parts.1

    lower : (p other : ℕ) → first ≤ p → p < met first h → other ≢ owner → conflicts_with kind (kind_at other p rows) ≡ false
    lower p other from low ne = false_from_ne_true (conflicts_with kind (kind_at other p rows)) (λ conflict. never (way_at owner kind first last p other rows ne from (omega (arith, low, spot.1)) conflict))
      where
        never : ((r : Held) × IsRow r rows × (r.owner ≡ other) × (covers p r ≡ true) × (is_in_way owner kind first last r ≡ true)) → ⊥
        never found = absurd (omega (arith, low, it.least found.0 found.1 found.4, met_least first p found.0 from (cover_parts p found.0 found.3).0))

    beneath : (other : ℕ) → other < h.owner → other ≢ owner → conflicts_with kind (kind_at other (met first h) rows) ≡ false
    beneath other low ne = false_from_ne_true (conflicts_with kind (kind_at other (met first h) rows)) (λ conflict. never (way_at owner kind first last (met first h) other rows ne spot.0 spot.1 conflict))
      where
        never : ((r : Held) × IsRow r rows × (r.owner ≡ other) × (covers (met first h) r ≡ true) × (is_in_way owner kind first last r ≡ true)) → ⊥
        never found =
            let near : met first found.0 ≤ met first h = met_least first (met first h) found.0 spot.0 (cover_parts (met first h) found.0 found.3).0 in
            absurd (omega (arith, low, found.2, it.lowest found.0 found.1 found.4 near))

pub barrier_some : (owner : ℕ) (kind : LockKind) (first last : ℕ) (rows : List Held) (h : Held) → ranges_rise rows ≡ true → first ≤ last → barrier owner kind first last rows ≡ Some h
    → IsBarrier owner kind first last rows h
barrier_some owner kind first last rows h rising order found = is_barrier owner kind first last rows h rising order (found_at owner kind first last rows h rising found)

pub barrier_none : (owner : ℕ) (kind : LockKind) (first last : ℕ) (rows : List Held) → ranges_rise rows ≡ true → first ≤ last
    → ((p : ℕ) → first ≤ p → p ≤ last → IsFree owner kind p rows) → barrier owner kind first last rows ≡ None
barrier_none owner kind first last rows rising order free = by_found (barrier owner kind first last rows) refl
  where
    never : (h : Held) → IsBarrier owner kind first last rows h → ⊥
    never h it =
        let none : conflicts_with kind (kind_at h.owner (met first h) rows) ≡ false = free (met first h) it.met_within.0 it.met_within.1 h.owner it.others in
        let some : conflicts_with kind (kind_at h.owner (met first h) rows) ≡ true =
        ap (λ k. conflicts_with kind k) (it.held (met first h) it.met_held.0 it.met_held.1) ∙ it.in_conflict in
        both_ways (conflicts_with kind (kind_at h.owner (met first h) rows)) none some

    by_found : (o : Option Held) → barrier owner kind first last rows ≡ o → o ≡ None
    by_found None is = refl
    by_found (Some h) is = absurd (never h (barrier_some owner kind first last rows h rising order is))

-- ---- After a change

set_kinds : (b c : Bool) (k j kind : LockKind) (x y : Option LockKind) → cond b (Some kind) x ≡ Some k → cond c (Some kind) y ≡ Some j
    → (b ≡ true → c ≡ true → ⊥) → (b ≡ true → conflicts_with kind y ≡ false) → (c ≡ true → conflicts_with kind x ≡ false)
    → (x ≡ Some k → y ≡ Some j → kinds_conflict k j ≡ false) → kinds_conflict k j ≡ false
set_kinds true true k j kind x y at_k at_j two his hers old = absurd (two refl refl)
set_kinds true false k j kind x y at_k at_j two his hers old =
    let same : kind ≡ k = cc in
    ap (λ a. kinds_conflict a j) (sym same) ∙ sym (ap (λ o. conflicts_with kind o) at_j) ∙ his refl
set_kinds false true k j kind x y at_k at_j two his hers old =
    let same : kind ≡ j = cc in
    kinds_conflict-sym k j ∙ ap (λ a. kinds_conflict a k) (sym same) ∙ sym (ap (λ o. conflicts_with kind o) at_k) ∙ hers refl
set_kinds false false k j kind x y at_k at_j two his hers old = old at_k at_j

within_parts : (other owner first last p : ℕ) → ((other == owner) && is_inside first last p) ≡ true → (other ≡ owner) × (first ≤ p) × (p ≤ last)
within_parts other owner first last p it =
    let outer = and_parts (other == owner) (is_inside first last p) it in
    let inner = and_parts (nat_le first p) (nat_le p last) outer.1 in
    (eqb-true other owner outer.0, leb-true first p inner.0, leb-true p last inner.1)

pub set_joined : (owner : ℕ) (kind : LockKind) (first last : ℕ) (rows : List Held) → IsJoined rows → first ≤ last → barrier owner kind first last rows ≡ None
    → IsJoined (set_to owner kind first last rows)
set_joined owner kind first last rows kept order none =
    record { rising = joined_of (set_to owner kind first last rows) rises; apart = apart_of (set_to owner kind first last rows) rises meet }
  where
    rises : ranges_rise (set_to owner kind first last rows) ≡ true
    rises = set_rises owner kind first last rows order (rise_of rows kept.rising)

    free : (other q p : ℕ) → other ≢ q → ((other == owner) && is_inside first last p) ≡ true → conflicts_with kind (kind_at q p rows) ≡ false
    free other q p ne on =
        let parts = within_parts other owner first last p on in
        free_range owner kind first last rows none p parts.1 parts.2 q (λ e. ne (parts.0 ∙ sym e))

    meet : NoneMeet (set_to owner kind first last rows)
    meet o q p k j ne at_o at_q =
        set_kinds ((o == owner) && is_inside first last p) ((q == owner) && is_inside first last p) k j kind (kind_at o p rows) (kind_at q p rows)
        (sym (kind_at-set owner kind first last rows o p order (rise_of rows kept.rising)) ∙ at_o)
        (sym (kind_at-set owner kind first last rows q p order (rise_of rows kept.rising)) ∙ at_q)
        (λ a b. ne ((within_parts o owner first last p a).0 ∙ sym (within_parts q owner first last p b).0))
        (λ a. free o q p ne a)
        (λ b. free q o p (λ e. ne (sym e)) b)
        (λ a b. none_meet rows kept.apart o q p k j ne a b)

gone_or_kept : (b : Bool) (k : LockKind) (x : Option LockKind) → cond b None x ≡ Some k → x ≡ Some k
gone_or_kept true k x at = cc
gone_or_kept false k x at = at

pub cleared_joined : (owner first last : ℕ) (rows : List Held) → IsJoined rows → first ≤ last → IsJoined (cleared owner first last rows)
cleared_joined owner first last rows kept order =
    record { rising = joined_of (cleared owner first last rows) rises; apart = apart_of (cleared owner first last rows) rises meet }
  where
    rises : ranges_rise (cleared owner first last rows) ≡ true
    rises = cleared_rises owner first last rows order (rise_of rows kept.rising)

    meet : NoneMeet (cleared owner first last rows)
    meet o q p k j ne at_o at_q =
        none_meet rows kept.apart o q p k j ne
        (gone_or_kept ((o == owner) && is_inside first last p) k (kind_at o p rows) (sym (kind_at-cleared owner first last rows o p) ∙ at_o))
        (gone_or_kept ((q == owner) && is_inside first last p) j (kind_at q p rows) (sym (kind_at-cleared owner first last rows q p) ∙ at_q))

pub dropped_joined : (owner : ℕ) (rows : List Held) → IsJoined rows → IsJoined (dropped owner rows)
dropped_joined owner rows kept = record { rising = joined_of (dropped owner rows) rises; apart = apart_of (dropped owner rows) rises meet }
  where
    rises : ranges_rise (dropped owner rows) ≡ true
    rises = dropped_rises owner rows (rise_of rows kept.rising)

    meet : NoneMeet (dropped owner rows)
    meet o q p k j ne at_o at_q =
        none_meet rows kept.apart o q p k j ne
        (gone_or_kept (o == owner) k (kind_at o p rows) (sym (kind_at-dropped owner rows o p) ∙ at_o))
        (gone_or_kept (q == owner) j (kind_at q p rows) (sym (kind_at-dropped owner rows q p) ∙ at_q))
