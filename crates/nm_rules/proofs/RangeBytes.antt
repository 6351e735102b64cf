-- What each owner holds at each byte, before and after a change.
use Rattle.std.proofs.Common.{◌≡◌, ◌≢◌, ◌≤◌, ◌<◌, ℕ, ◌+◌, ◌-◌, Bool, true, false, cond, List, [], ◌∷◌, ◌++◌, Option, Some, None, refl, ap, sym, ◌∙◌, inl, inr, arith, eqb-true}
use Rattle.std.proofs.lemmas.Bool.{and_parts, leb-true, le-leb}
use Rattle.std.proofs.lemmas.Bool.Decides.{nat_tests}
use Rattle.std.specs.Prelude.{◌==◌, ◌&&◌, ◌⊎◌, not, nat_lt, nat_le, filter, find, option_map}
use Rattle.nm_rules.proofs.Apart.{same_test}
use Rattle.nm_rules.specs.Locks.{IsRow, cleared, cut, dropped, holds_byte, is_before, is_inside, is_range, joined, joined_after, kind_at, overlaps, put_range, set_to, touches}
use Rattle.nm_types.specs.declared.results.LockKind.{LockKind}
use Rattle.nm_types.specs.declared.rows.Held.{Held}
use Rattle.nm_rules.proofs.RangeRows.{IsPiece, apart_parts, before_from, cleared_rises, joined_rises, meld_apart, put_apart, ranges_apart, ranges_rise, rise_apart, row_cleared, touches_parts}

-- the range has the byte
abbrev pub covers : ℕ → Held → Bool
covers p h = is_inside h.first h.last p

-- The kind at a byte, row by row.
unfoldable pub held_kind : ℕ → ℕ → List Held → Option LockKind
held_kind owner p [] = None
held_kind owner p (h ∷ rows) = cond ((h.owner == owner) && covers p h) (Some h.kind) (held_kind owner p rows)

pub kind_is : (owner p : ℕ) (rows : List Held) → kind_at owner p rows ≡ held_kind owner p rows
unfolding kind_at held_kind
kind_is owner p [] = refl
kind_is owner p (h ∷ rows) = by_test ((h.owner == owner) && is_inside h.first h.last p) (kind_is owner p rows)
  where
    by_test : (b : Bool) → option_map (λ (x : Held). x.kind) (find (holds_byte owner p) rows) ≡ held_kind owner p rows
        → option_map (λ (x : Held). x.kind) (cond b (Some h) (find (holds_byte owner p) rows)) ≡ cond b (Some h.kind) (held_kind owner p rows)
    by_test true later = refl
    by_test false later = later

-- ---- A cut

two_left : {A : Type 0} (e : Bool) (hf hl first last p : ℕ) (s k : A) → nat_le hf last ≡ true → nat_le first hl ≡ true → nat_lt hf first ≡ true → nat_lt last hl ≡ true
    → cond (e && (nat_le hf p && nat_le p (first - 1))) s (cond (e && (nat_le (last + 1) p && nat_le p hl)) s k)
    ≡ cond ((e && (nat_le hf p && nat_le p hl)) && not (nat_le first p && nat_le p last)) s k
two_left false hf hl first last p s k from to low high = refl
two_left true hf hl first last p s k from to low high = grind (arith, nat_tests)

front_left : {A : Type 0} (e : Bool) (hf hl first last p : ℕ) (s k : A) → nat_le hf last ≡ true → nat_le first hl ≡ true → nat_lt hf first ≡ true → nat_lt last hl ≡ false
    → cond (e && (nat_le hf p && nat_le p (first - 1))) s k ≡ cond ((e && (nat_le hf p && nat_le p hl)) && not (nat_le first p && nat_le p last)) s k
front_left false hf hl first last p s k from to low high = refl
front_left true hf hl first last p s k from to low high = grind (arith, nat_tests)

back_left : {A : Type 0} (e : Bool) (hf hl first last p : ℕ) (s k : A) → nat_le hf last ≡ true → nat_le first hl ≡ true → nat_lt hf first ≡ false → nat_lt last hl ≡ true
    → cond (e && (nat_le (last + 1) p && nat_le p hl)) s k ≡ cond ((e && (nat_le hf p && nat_le p hl)) && not (nat_le first p && nat_le p last)) s k
back_left false hf hl first last p s k from to low high = refl
back_left true hf hl first last p s k from to low high = grind (arith, nat_tests)

none_left : {A : Type 0} (e : Bool) (hf hl first last p : ℕ) (s k : A) → nat_lt hf first ≡ false → nat_lt last hl ≡ false
    → k ≡ cond ((e && (nat_le hf p && nat_le p hl)) && not (nat_le first p && nat_le p last)) s k
none_left false hf hl first last p s k low high = refl
none_left true hf hl first last p s k low high = grind (arith, nat_tests)

all_left : {A : Type 0} (w e : Bool) (hf hl first last p : ℕ) (s k : A) → (w && (nat_le hf last && nat_le first hl)) ≡ false
    → cond (e && (nat_le hf p && nat_le p hl)) s k ≡ cond ((e && (nat_le hf p && nat_le p hl)) && not (w && (nat_le first p && nat_le p last))) s k
all_left w false hf hl first last p s k out = refl
all_left false true hf hl first last p s k out = grind (arith, nat_tests)
all_left true true hf hl first last p s k out = grind (arith, nat_tests)

held-cut : (owner first last : ℕ) (h : Held) (rest : List Held) (other p : ℕ)
    → held_kind other p (cut owner first last h ++ rest)
    ≡ cond (((h.owner == other) && covers p h) && not ((h.owner == owner) && is_inside first last p)) (Some h.kind) (held_kind other p rest)
unfolding held_kind
held-cut owner first last h rest other p =
    by_cases ((h.owner == owner) && overlaps first last h) (nat_lt h.first first) (nat_lt last h.last) refl refl refl
  where
    by_cases : (t b c : Bool) → ((h.owner == owner) && overlaps first last h) ≡ t → nat_lt h.first first ≡ b → nat_lt last h.last ≡ c
        → held_kind other p (cond t (cond b (record h { last = first - 1 } ∷ []) [] ++ cond c (record h { first = last + 1 } ∷ []) []) (h ∷ []) ++ rest)
        ≡ cond (((h.owner == other) && covers p h) && not ((h.owner == owner) && is_inside first last p)) (Some h.kind) (held_kind other p rest)
    by_cases false b c out low high = all_left (h.owner == owner) (h.owner == other) h.first h.last first last p (Some h.kind) (held_kind other p rest) out
    by_cases true b c shared low high =
        let parts = and_parts (h.owner == owner) (overlaps first last h) shared in
        let sides = and_parts (nat_le h.first last) (nat_le first h.last) parts.1 in
        rw parts.0 (by_sides b c sides.0 sides.1 low high)
      where
        by_sides : (b c : Bool) → nat_le h.first last ≡ true → nat_le first h.last ≡ true → nat_lt h.first first ≡ b → nat_lt last h.last ≡ c
            → held_kind other p ((cond b (record h { last = first - 1 } ∷ []) [] ++ cond c (record h { first = last + 1 } ∷ []) []) ++ rest)
            ≡ cond (((h.owner == other) && covers p h) && not (is_inside first last p)) (Some h.kind) (held_kind other p rest)
        by_sides true true from to low high = two_left (h.owner == other) h.first h.last first last p (Some h.kind) (held_kind other p rest) from to low high
        by_sides true false from to low high = front_left (h.owner == other) h.first h.last first last p (Some h.kind) (held_kind other p rest) from to low high
        by_sides false true from to low high = back_left (h.owner == other) h.first h.last first last p (Some h.kind) (held_kind other p rest) from to low high
        by_sides false false from to low high = none_left (h.owner == other) h.first h.last first last p (Some h.kind) (held_kind other p rest) low high

-- the first row, then the others
cleared_step : (e w o c i : Bool) (s k : Option LockKind) → (e ≡ true → w ≡ o)
    → cond ((e && c) && not (w && i)) s (cond (o && i) None k) ≡ cond (o && i) None (cond (e && c) s k)
cleared_step false w o c i s k same = refl
cleared_step true w o c i s k same = rw (same refl) (by_three o i c)
  where
    by_three : (o i c : Bool) → cond (c && not (o && i)) s (cond (o && i) None k) ≡ cond (o && i) None (cond c s k)
    by_three true true true = refl
    by_three true true false = refl
    by_three true false true = refl
    by_three true false false = refl
    by_three false i true = refl
    by_three false i false = refl

none_twice : (b : Bool) (none : Option LockKind) → none ≡ cond b none none
none_twice true none = refl
none_twice false none = refl

held-cleared : (owner first last : ℕ) (rows : List Held) (other p : ℕ)
    → held_kind other p (cleared owner first last rows) ≡ cond ((other == owner) && is_inside first last p) None (held_kind other p rows)
unfolding held_kind cleared
held-cleared owner first last [] other p = none_twice ((other == owner) && is_inside first last p) None
held-cleared owner first last (h ∷ rows) other p =
    held-cut owner first last h (cleared owner first last rows) other p
    ∙ ap (λ k. cond (((h.owner == other) && covers p h) && not ((h.owner == owner) && is_inside first last p)) (Some h.kind) k) (held-cleared owner first last rows other p)
    ∙ cleared_step (h.owner == other) (h.owner == owner) (other == owner) (covers p h) (is_inside first last p) (Some h.kind) (held_kind other p rows)
    (λ same. ap (λ o. o == owner) (eqb-true h.owner other same))

dropped_step : (w e o c : Bool) (s k : Option LockKind) → (e ≡ true → w ≡ o) → cond (not w) (cond (e && c) s (cond o None k)) (cond o None k) ≡ cond o None (cond (e && c) s k)
dropped_step true false o c s k same = refl
dropped_step false false o c s k same = refl
dropped_step w true o c s k same = rw (same refl) (by_two o c)
  where
    by_two : (o c : Bool) → cond (not o) (cond c s (cond o None k)) (cond o None k) ≡ cond o None (cond c s k)
    by_two true c = refl
    by_two false c = refl

held-dropped : (owner : ℕ) (rows : List Held) (other p : ℕ) → held_kind other p (dropped owner rows) ≡ cond (other == owner) None (held_kind other p rows)
unfolding held_kind dropped
held-dropped owner [] other p = none_twice (other == owner) None
held-dropped owner (h ∷ rows) other p =
    at_head (h.owner == owner)
    ∙ ap (λ k. cond (not (h.owner == owner)) (cond ((h.owner == other) && covers p h) (Some h.kind) k) k) (held-dropped owner rows other p)
    ∙ dropped_step (h.owner == owner) (h.owner == other) (other == owner) (covers p h) (Some h.kind) (held_kind other p rows)
    (λ same. ap (λ o. o == owner) (eqb-true h.owner other same))
  where
    at_head : (w : Bool) → held_kind other p (cond (not w) (h ∷ filter (λ x. not (x.owner == owner)) rows) (filter (λ x. not (x.owner == owner)) rows))
        ≡ cond (not w) (cond ((h.owner == other) && covers p h) (Some h.kind) (held_kind other p (filter (λ x. not (x.owner == owner)) rows))) (held_kind other p (filter (λ x. not (x.owner == owner)) rows))
    at_head true = refl
    at_head false = refl

-- ---- A put

held-put_off : (h : Held) (rows : List Held) (other p : ℕ) → ((h.owner == other) && covers p h) ≡ false → held_kind other p (put_range h rows) ≡ held_kind other p rows
unfolding held_kind put_range
held-put_off h [] other p off = rw off refl
held-put_off h (x ∷ rows) other p off = by_place (is_before x h) (held-put_off h rows other p off)
  where
    by_place : (b : Bool) → held_kind other p (put_range h rows) ≡ held_kind other p rows
        → held_kind other p (cond b (x ∷ put_range h rows) (h ∷ x ∷ rows)) ≡ cond ((x.owner == other) && covers p x) (Some x.kind) (held_kind other p rows)
    by_place true later = ap (λ k. cond ((x.owner == other) && covers p x) (Some x.kind) k) later
    by_place false later = rw off refl

held-put_on : (h : Held) (rows : List Held) (other p : ℕ) → ((h.owner == other) && covers p h) ≡ true → held_kind other p rows ≡ None → held_kind other p (put_range h rows) ≡ Some h.kind
unfolding held_kind put_range
held-put_on h [] other p on none = rw on refl
held-put_on h (x ∷ rows) other p on none =
    by_place (is_before x h) ((x.owner == other) && covers p x) refl none (held-put_on h rows other p on)
  where
    by_place : (b c : Bool) → ((x.owner == other) && covers p x) ≡ c → cond c (Some x.kind) (held_kind other p rows) ≡ None
        → (held_kind other p rows ≡ None → held_kind other p (put_range h rows) ≡ Some h.kind)
        → held_kind other p (cond b (x ∷ put_range h rows) (h ∷ x ∷ rows)) ≡ Some h.kind
    by_place false c is nothing later = rw on refl
    by_place true true is nothing later = cc
    by_place true false is nothing later = rw is (later nothing)

-- ---- What touches

meld_numbers : {A : Type 0} (e : Bool) (hf hl xl p : ℕ) (s k : A) → hf ≤ hl → hl + 1 ≤ xl
    → cond (e && (nat_le hf p && nat_le p xl)) s k ≡ cond (e && (nat_le hf p && nat_le p hl)) s (cond (e && (nat_le (hl + 1) p && nat_le p xl)) s k)
meld_numbers false hf hl xl p s k up on = refl
meld_numbers true hf hl xl p s k up on = grind (arith, nat_tests)

held-meld : (h x : Held) (rows : List Held) (other p : ℕ) → is_range h ≡ true → is_range x ≡ true → touches h x ≡ true
    → held_kind other p (record h { last = x.last } ∷ rows) ≡ held_kind other p (h ∷ x ∷ rows)
unfolding held_kind
held-meld h x rows other p range on touch =
    let same = touches_parts h x touch in
    let step : h.last + 1 ≡ x.first = same.1 in
    let up : h.first ≤ h.last = leb-true h.first h.last range in
    let rest : x.first ≤ x.last = leb-true x.first x.last on in
    meld_numbers (h.owner == other) h.first h.last x.last p (Some h.kind) (held_kind other p rows) up (omega arith)
    ∙ ap (λ (o : ℕ). cond ((h.owner == other) && covers p h) (Some h.kind) (cond ((o == other) && (nat_le (h.last + 1) p && nat_le p x.last)) (Some h.kind) (held_kind other p rows))) same.0
    ∙ ap (λ (f : ℕ). cond ((h.owner == other) && covers p h) (Some h.kind) (cond ((x.owner == other) && (nat_le f p && nat_le p x.last)) (Some h.kind) (held_kind other p rows))) same.1
    ∙ ap (λ (k : LockKind). cond ((h.owner == other) && covers p h) (Some h.kind) (cond ((x.owner == other) && (nat_le x.first p && nat_le p x.last)) (Some k) (held_kind other p rows))) same.2

held-joined_after : (h : Held) (rows : List Held) (other p : ℕ) → ranges_apart (h ∷ rows) ≡ true → held_kind other p (joined_after h rows) ≡ held_kind other p (h ∷ rows)
unfolding held_kind joined_after
held-joined_after h [] other p all = refl
held-joined_after h (x ∷ rows) other p all =
    by_touch (touches h x) refl (held-joined_after (record h { last = x.last }) rows other p) (held-joined_after x rows other p (apart_parts h (x ∷ rows) all).2)
  where
    by_touch : (b : Bool) → touches h x ≡ b
        → (ranges_apart (record h { last = x.last } ∷ rows) ≡ true → held_kind other p (joined_after (record h { last = x.last }) rows) ≡ held_kind other p (record h { last = x.last } ∷ rows))
        → held_kind other p (joined_after x rows) ≡ held_kind other p (x ∷ rows)
        → held_kind other p (cond b (joined_after (record h { last = x.last }) rows) (h ∷ joined_after x rows)) ≡ held_kind other p (h ∷ x ∷ rows)
    by_touch true touch meld later = meld (meld_apart h x rows all touch) ∙ held-meld h x rows other p (apart_parts h (x ∷ rows) all).0 (apart_parts x rows (apart_parts h (x ∷ rows) all).2).0 touch
    by_touch false touch meld later = ap (λ k. cond ((h.owner == other) && covers p h) (Some h.kind) k) later

held-joined : (rows : List Held) (other p : ℕ) → ranges_apart rows ≡ true → held_kind other p (joined rows) ≡ held_kind other p rows
unfolding joined
held-joined [] other p all = refl
held-joined (h ∷ rows) other p all = held-joined_after h rows other p all

-- ---- A lock

-- Beside the range that an owner was cleared of, each row stands on one side.
beside : (h x : Held) → (x.owner ≢ h.owner) ⊎ ((x.last < h.first) ⊎ (h.last < x.first)) → (is_before x h ≡ true) ⊎ (is_before h x ≡ true)
beside h x side = by_owner (nat_lt x.owner h.owner) (nat_lt h.owner x.owner) refl refl
  where
    by_side : x.owner ≡ h.owner → (x.owner ≢ h.owner) ⊎ ((x.last < h.first) ⊎ (h.last < x.first)) → (is_before x h ≡ true) ⊎ (is_before h x ≡ true)
    by_side same (inl other) = absurd (other same)
    by_side same (inr (inl low)) = inl (before_from x h same low)
    by_side same (inr (inr high)) = inr (before_from h x (sym same) high)

    by_owner : (b c : Bool) → nat_lt x.owner h.owner ≡ b → nat_lt h.owner x.owner ≡ c → (is_before x h ≡ true) ⊎ (is_before h x ≡ true)
    by_owner true c low high = inl (rw low refl)
    by_owner false true low high = inr (rw high refl)
    by_owner false false low high = by_side (grind (arith, nat_tests)) side

-- the row of a lock
abbrev asked : ℕ → LockKind → ℕ → ℕ → Held
asked owner kind first last = record { owner = owner; kind = kind; first = first; last = last }

put_cleared : (owner : ℕ) (kind : LockKind) (first last : ℕ) (rows : List Held) → first ≤ last → ranges_rise rows ≡ true
    → ranges_apart (put_range (asked owner kind first last) (cleared owner first last rows)) ≡ true
put_cleared owner kind first last rows order rising =
    put_apart (asked owner kind first last) (cleared owner first last rows) (le-leb first last order)
    (rise_apart (cleared owner first last rows) (cleared_rises owner first last rows order rising))
    (λ x within. sides x (row_cleared owner first last rows x rising within))
  where
    sides : (x : Held) → ((y : Held) × IsRow y rows × IsPiece owner first last y x) → (is_before x (asked owner kind first last) ≡ true) ⊎ (is_before (asked owner kind first last) x ≡ true)
    sides x found = beside (asked owner kind first last) x found.2.outside

pub set_rises : (owner : ℕ) (kind : LockKind) (first last : ℕ) (rows : List Held) → first ≤ last → ranges_rise rows ≡ true → ranges_rise (set_to owner kind first last rows) ≡ true
unfolding set_to
set_rises owner kind first last rows order rising =
    joined_rises (put_range (asked owner kind first last) (cleared owner first last rows)) (put_cleared owner kind first last rows order rising)

held-set : (owner : ℕ) (kind : LockKind) (first last : ℕ) (rows : List Held) (other p : ℕ) → first ≤ last → ranges_rise rows ≡ true
    → held_kind other p (set_to owner kind first last rows) ≡ cond ((other == owner) && is_inside first last p) (Some kind) (held_kind other p rows)
unfolding set_to
held-set owner kind first last rows other p order rising =
    held-joined (put_range (asked owner kind first last) (cleared owner first last rows)) other p (put_cleared owner kind first last rows order rising)
    ∙ by_test ((other == owner) && is_inside first last p) refl
  where
    turned : (b : Bool) → ((other == owner) && is_inside first last p) ≡ b → ((owner == other) && is_inside first last p) ≡ b
    turned b is = ap (λ t. t && is_inside first last p) (same_test owner other) ∙ is

    by_test : (b : Bool) → ((other == owner) && is_inside first last p) ≡ b
        → held_kind other p (put_range (asked owner kind first last) (cleared owner first last rows)) ≡ cond b (Some kind) (held_kind other p rows)
    by_test true on =
        held-put_on (asked owner kind first last) (cleared owner first last rows) other p (turned true on)
        (held-cleared owner first last rows other p ∙ ap (λ b. cond b None (held_kind other p rows)) on)
    by_test false off =
        held-put_off (asked owner kind first last) (cleared owner first last rows) other p (turned false off)
        ∙ held-cleared owner first last rows other p
        ∙ ap (λ b. cond b None (held_kind other p rows)) off

-- ---- The same of the kind at a byte

pub kind_at-cleared : (owner first last : ℕ) (rows : List Held) (other p : ℕ)
    → kind_at other p (cleared owner first last rows) ≡ cond ((other == owner) && is_inside first last p) None (kind_at other p rows)
kind_at-cleared owner first last rows other p =
    kind_is other p (cleared owner first last rows)
    ∙ held-cleared owner first last rows other p
    ∙ ap (λ k. cond ((other == owner) && is_inside first last p) None k) (sym (kind_is other p rows))

pub kind_at-dropped : (owner : ℕ) (rows : List Held) (other p : ℕ) → kind_at other p (dropped owner rows) ≡ cond (other == owner) None (kind_at other p rows)
kind_at-dropped owner rows other p =
    kind_is other p (dropped owner rows) ∙ held-dropped owner rows other p ∙ ap (λ k. cond (other == owner) None k) (sym (kind_is other p rows))

pub kind_at-set : (owner : ℕ) (kind : LockKind) (first last : ℕ) (rows : List Held) (other p : ℕ) → first ≤ last → ranges_rise rows ≡ true
    → kind_at other p (set_to owner kind first last rows) ≡ cond ((other == owner) && is_inside first last p) (Some kind) (kind_at other p rows)
kind_at-set owner kind first last rows other p order rising =
    kind_is other p (set_to owner kind first last rows)
    ∙ held-set owner kind first last rows other p order rising
    ∙ ap (λ k. cond ((other == owner) && is_inside first last p) (Some kind) k) (sym (kind_is other p rows))
