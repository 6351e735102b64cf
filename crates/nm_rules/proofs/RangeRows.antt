-- Rows of byte-range locks: which rows there are, and that they stay in order.
use Rattle.std.proofs.Common.{◌≡◌, ◌≢◌, ◌≤◌, ◌<◌, ℕ, ◌+◌, ◌-◌, Bool, true, false, cond, List, [], ◌∷◌, ◌++◌, refl, ap, sym, subst, ◌∙◌, inl, inr, arith, eqb-true}
use Rattle.std.proofs.lemmas.Bool.{false≢true, and_parts, and_from, leb-true, ltb-true, eqb-false}
use Rattle.std.proofs.lemmas.Bool.Decides.{nat_tests}
use Rattle.std.specs.Prelude.{◌==◌, ◌&&◌, ◌||◌, ◌⊎◌, not, nat_lt, nat_le, filter, flat_map}
use Rattle.std.specs.List.{list_any, list_all}
use Rattle.nm_rules.specs.Locks.{IsRow, are_joined, cleared, cut, dropped, is_before, is_range, joined, joined_after, overlaps, put_range, same_lock, stand_behind, stands_behind, touches}
use Rattle.nm_types.specs.declared.results.LockKind.{LockKind}
use Rattle.nm_types.specs.declared.results.LockKind.TheVariants.{Read, Write}
use Rattle.nm_types.specs.declared.rows.Held.{Held}

-- ---- Tests of all rows

pub all_in : (p : Held → Bool) (rows : List Held) (h : Held) → list_all p rows ≡ true → IsRow h rows → p h ≡ true
all_in p [] h all none = absurd none
all_in p (x ∷ xs) h all (inl here) = ap p here ∙ (and_parts (p x) (list_all p xs) all).0
all_in p (x ∷ xs) h all (inr there) = all_in p xs h (and_parts (p x) (list_all p xs) all).1 there

pub all_from : (p : Held → Bool) (rows : List Held) → ((h : Held) → IsRow h rows → p h ≡ true) → list_all p rows ≡ true
all_from p [] each = refl
all_from p (x ∷ xs) each = and_from (p x) (list_all p xs) (each x (inl refl)) (all_from p xs (λ h within. each h (inr within)))

pub any_from : (p : Held → Bool) (rows : List Held) → ((h : Held) → IsRow h rows → p h ≡ false) → list_any p rows ≡ false
any_from p [] each = refl
any_from p (x ∷ xs) each = rw (each x (inl refl)) (any_from p xs (λ h within. each h (inr within)))

pub none_in : (p : Held → Bool) (rows : List Held) (h : Held) → list_any p rows ≡ false → IsRow h rows → p h ≡ false
none_in p [] h none absent = absurd absent
none_in p (x ∷ xs) h none within = by_head (p x) refl none within (none_in p xs h)
  where
    by_head : (b : Bool) → p x ≡ b → (b || list_any p xs) ≡ false → IsRow h (x ∷ xs) → (list_any p xs ≡ false → IsRow h xs → p h ≡ false) → p h ≡ false
    by_head true holds never at later = absurd (false≢true (sym never))
    by_head false fails rest (inl here) later = ap p here ∙ fails
    by_head false fails rest (inr there) later = later rest there

pub row_append : (h : Held) (xs ys : List Held) → IsRow h (xs ++ ys) → IsRow h xs ⊎ IsRow h ys
row_append h [] ys within = inr within
row_append h (x ∷ xs) ys (inl here) = inl (inl here)
row_append h (x ∷ xs) ys (inr there) = further (row_append h xs ys there)
  where
    further : IsRow h xs ⊎ IsRow h ys → IsRow h (x ∷ xs) ⊎ IsRow h ys
    further (inl it) = inl (inr it)
    further (inr it) = inr it

-- ---- Two rows

pub same_lock-is : (a b : LockKind) → same_lock a b ≡ true → a ≡ b
same_lock-is Read Read e = refl
same_lock-is Read Write e = absurd (false≢true e)
same_lock-is Write Read e = absurd (false≢true e)
same_lock-is Write Write e = refl

pub same_lock-self : (a : LockKind) → same_lock a a ≡ true
same_lock-self Read = refl
same_lock-self Write = refl

pub touches_parts : (a b : Held) → touches a b ≡ true → (a.owner ≡ b.owner) × (a.last + 1 ≡ b.first) × (a.kind ≡ b.kind)
touches_parts a b it =
    let outer = and_parts ((a.owner == b.owner) && (a.last + 1 == b.first)) (same_lock a.kind b.kind) it in
    let inner = and_parts (a.owner == b.owner) (a.last + 1 == b.first) outer.0 in
    (eqb-true a.owner b.owner inner.0, eqb-true (a.last + 1) b.first inner.1, same_lock-is a.kind b.kind outer.1)

pub before_tells : (a b : Held) → is_before a b ≡ true → (a.owner < b.owner) ⊎ ((a.owner ≡ b.owner) × (a.last < b.first))
before_tells a b it = by_owner (nat_lt a.owner b.owner) refl it
  where
    by_owner : (c : Bool) → nat_lt a.owner b.owner ≡ c → (c || ((a.owner == b.owner) && nat_lt a.last b.first)) ≡ true
        → (a.owner < b.owner) ⊎ ((a.owner ≡ b.owner) × (a.last < b.first))
    by_owner true low both = inl (ltb-true a.owner b.owner low)
    by_owner false low both =
        let parts = and_parts (a.owner == b.owner) (nat_lt a.last b.first) both in
        inr (eqb-true a.owner b.owner parts.0, ltb-true a.last b.first parts.1)

pub before_from : (a b : Held) → a.owner ≡ b.owner → a.last < b.first → is_before a b ≡ true
before_from a b same low = grind (arith, nat_tests)

-- the row ends before another one, and isn't to be joined with it
abbrev pub follows : Held → Held → Bool
follows a b = is_before a b && not (touches a b)

before_numbers : (ao bo co al bf bl cf : ℕ) → (nat_lt ao bo || ((ao == bo) && nat_lt al bf)) ≡ true → bf ≤ bl → (nat_lt bo co || ((bo == co) && nat_lt bl cf)) ≡ true
    → (nat_lt ao co || ((ao == co) && nat_lt al cf)) ≡ true
before_numbers ao bo co al bf bl cf ab range bc = grind (arith, nat_tests)

pub before_later : (a b c : Held) → is_before a b ≡ true → is_range b ≡ true → is_before b c ≡ true → is_before a c ≡ true
before_later a b c ab range bc = before_numbers a.owner b.owner c.owner a.last b.first b.last c.first ab (leb-true b.first b.last range) bc

untouched_numbers : (ao bo co al bf bl cf : ℕ) (s : Bool) → (nat_lt ao bo || ((ao == bo) && nat_lt al bf)) ≡ true → bf ≤ bl → (nat_lt bo co || ((bo == co) && nat_lt bl cf)) ≡ true
    → not ((ao == co) && (al + 1 == cf) && s) ≡ true
untouched_numbers ao bo co al bf bl cf true ab range bc = grind (arith, nat_tests)
untouched_numbers ao bo co al bf bl cf false ab range bc = grind (arith, nat_tests)

-- what comes behind a row that is behind follows
pub follows_later : (a b c : Held) → is_before a b ≡ true → is_range b ≡ true → is_before b c ≡ true → follows a c ≡ true
follows_later a b c ab range bc =
    and_from (is_before a c) (not (touches a c)) (before_later a b c ab range bc)
    (untouched_numbers a.owner b.owner c.owner a.last b.first b.last c.first (same_lock a.kind c.kind) ab (leb-true b.first b.last range) bc)

pub follows_before : (a b : Held) → follows a b ≡ true → is_before a b ≡ true
follows_before a b it = (and_parts (is_before a b) (not (touches a b)) it).0

pub all_later : (a b : Held) (rows : List Held) → is_before a b ≡ true → is_range b ≡ true → list_all (is_before b) rows ≡ true → list_all (is_before a) rows ≡ true
all_later a b rows ab range all = all_from (is_before a) rows (λ c within. before_later a b c ab range (all_in (is_before b) rows c all within))

-- ---- Rows in order

-- each row is a range, and each later one follows it
abbrev pub ranges_rise : List Held → Bool
ranges_rise [] = true
ranges_rise (h ∷ rows) = is_range h && list_all (follows h) rows && ranges_rise rows

pub rise_parts : (h : Held) (rows : List Held) → ranges_rise (h ∷ rows) ≡ true → (is_range h ≡ true) × (list_all (follows h) rows ≡ true) × (ranges_rise rows ≡ true)
rise_parts h rows all =
    let outer = and_parts (is_range h && list_all (follows h) rows) (ranges_rise rows) all in
    let inner = and_parts (is_range h) (list_all (follows h) rows) outer.0 in
    (inner.0, inner.1, outer.1)

pub rise_from : (h : Held) (rows : List Held) → is_range h ≡ true → list_all (follows h) rows ≡ true → ranges_rise rows ≡ true → ranges_rise (h ∷ rows) ≡ true
rise_from h rows range all rest =
    and_from (is_range h && list_all (follows h) rows) (ranges_rise rows) (and_from (is_range h) (list_all (follows h) rows) range all) rest

pub ranges_in : (rows : List Held) (h : Held) → ranges_rise rows ≡ true → IsRow h rows → is_range h ≡ true
ranges_in [] h rising none = absurd none
ranges_in (x ∷ xs) h rising (inl here) = ap is_range here ∙ (rise_parts x xs rising).0
ranges_in (x ∷ xs) h rising (inr there) = ranges_in xs h (rise_parts x xs rising).2 there

-- of two rows one is the other, or follows it
pub in_order : (rows : List Held) (a b : Held) → ranges_rise rows ≡ true → IsRow a rows → IsRow b rows → (a ≡ b) ⊎ ((follows a b ≡ true) ⊎ (follows b a ≡ true))
in_order [] a b rising none at = absurd none
in_order (x ∷ xs) a b rising (inl here) (inl there) = inl (here ∙ sym there)
in_order (x ∷ xs) a b rising (inl here) (inr there) = inr (inl (ap (λ r. follows r b) here ∙ all_in (follows x) xs b (rise_parts x xs rising).1 there))
in_order (x ∷ xs) a b rising (inr here) (inl there) = inr (inr (ap (λ r. follows r a) there ∙ all_in (follows x) xs a (rise_parts x xs rising).1 here))
in_order (x ∷ xs) a b rising (inr here) (inr there) = in_order xs a b (rise_parts x xs rising).2 here there

-- two lists of rows in order, where each row of the second follows each of the first, are one
pub rise_append : (xs ys : List Held) → ranges_rise xs ≡ true → ranges_rise ys ≡ true → ((a b : Held) → IsRow a xs → IsRow b ys → follows a b ≡ true) → ranges_rise (xs ++ ys) ≡ true
rise_append [] ys front back between = back
rise_append (x ∷ xs) ys front back between =
    let parts = rise_parts x xs front in
    rise_from x (xs ++ ys) parts.0
    (all_from (follows x) (xs ++ ys) (λ h within. by_side h (row_append h xs ys within)))
    (rise_append xs ys parts.2 back (λ a b in_front in_back. between a b (inr in_front) in_back))
  where
    by_side : (h : Held) → IsRow h xs ⊎ IsRow h ys → follows x h ≡ true
    by_side h (inl it) = all_in (follows x) xs h (rise_parts x xs front).1 it
    by_side h (inr it) = between x h (inl refl) it

-- what stands behind a row follows it
stands_follows : (a b : Held) → stands_behind a b ≡ follows a b
stands_follows a b = by_owner (nat_lt a.owner b.owner) refl
  where
    by_owner : (c : Bool) → nat_lt a.owner b.owner ≡ c
        → (c || ((a.owner == b.owner) && nat_lt a.last b.first && not (touches a b))) ≡ ((c || ((a.owner == b.owner) && nat_lt a.last b.first)) && not (touches a b))
    by_owner true low =
        let other : (a.owner == b.owner) ≡ false = grind (arith, nat_tests) in
        rw other refl
    by_owner false high = refl

rise_behind : (h : Held) (rows : List Held) → stand_behind h rows ≡ true → ranges_rise (h ∷ rows) ≡ true
rise_behind h [] behind = rise_from h [] behind refl refl
rise_behind h (x ∷ rows) behind =
    let outer = and_parts (is_range h && stands_behind h x) (stand_behind x rows) behind in
    let inner = and_parts (is_range h) (stands_behind h x) outer.0 in
    let rest = rise_behind x rows outer.1 in
    let parts = rise_parts x rows rest in
    let next : follows h x ≡ true = sym (stands_follows h x) ∙ inner.1 in
    rise_from h (x ∷ rows) inner.0
    (and_from (follows h x) (list_all (follows h) rows) next
    (all_from (follows h) rows (λ c within. follows_later h x c (follows_before h x next) parts.0 (follows_before x c (all_in (follows x) rows c parts.1 within))))) rest

-- rows of which each stands behind the one before it are in order
pub rise_of : (rows : List Held) → are_joined rows ≡ true → ranges_rise rows ≡ true
rise_of [] joined = refl
rise_of (h ∷ rows) joined = rise_behind h rows joined

behind_rise : (h : Held) (rows : List Held) → ranges_rise (h ∷ rows) ≡ true → stand_behind h rows ≡ true
behind_rise h [] rising = (rise_parts h [] rising).0
behind_rise h (x ∷ rows) rising =
    let parts = rise_parts h (x ∷ rows) rising in
    and_from (is_range h && stands_behind h x) (stand_behind x rows)
    (and_from (is_range h) (stands_behind h x) parts.0 (stands_follows h x ∙ (and_parts (follows h x) (list_all (follows h) rows) parts.1).0))
    (behind_rise x rows parts.2)

-- and the other way round
pub joined_of : (rows : List Held) → ranges_rise rows ≡ true → are_joined rows ≡ true
joined_of [] rising = refl
joined_of (h ∷ rows) rising = behind_rise h rows rising

-- the rows that a test leaves are still in order
pub row_filter : (p : Held → Bool) (rows : List Held) (h : Held) → IsRow h (filter p rows) → IsRow h rows
row_filter p [] h none = absurd none
row_filter p (x ∷ xs) h within = at_head (p x) within (row_filter p xs h)
  where
    at_head : (b : Bool) → IsRow h (cond b (x ∷ filter p xs) (filter p xs)) → (IsRow h (filter p xs) → IsRow h xs) → IsRow h (x ∷ xs)
    at_head true (inl here) later = inl here
    at_head true (inr there) later = inr (later there)
    at_head false there later = inr (later there)

pub rise_filter : (p : Held → Bool) (rows : List Held) → ranges_rise rows ≡ true → ranges_rise (filter p rows) ≡ true
rise_filter p [] rising = rising
rise_filter p (x ∷ xs) rising = at_head (p x) (rise_parts x xs rising) (rise_filter p xs (rise_parts x xs rising).2)
  where
    at_head : (b : Bool) → (is_range x ≡ true) × (list_all (follows x) xs ≡ true) × (ranges_rise xs ≡ true) → ranges_rise (filter p xs) ≡ true
        → ranges_rise (cond b (x ∷ filter p xs) (filter p xs)) ≡ true
    at_head true parts later = rise_from x (filter p xs) parts.0 (all_from (follows x) (filter p xs) (λ h within. all_in (follows x) xs h parts.1 (row_filter p xs h within))) later
    at_head false parts later = later

pub dropped_rises : (owner : ℕ) (rows : List Held) → ranges_rise rows ≡ true → ranges_rise (dropped owner rows) ≡ true
unfolding dropped
dropped_rises owner rows rising = rise_filter (λ h. not (h.owner == owner)) rows rising

-- ---- What a cut leaves

-- A piece of a row: within it, of its owner and kind, and outside of the range that this owner was cleared of.
pub record IsPiece (owner first last : ℕ) (x y : Held) : Type 0 where
  pub owns : y.owner ≡ x.owner
  pub likes : y.kind ≡ x.kind
  pub from : x.first ≤ y.first
  pub to : y.last ≤ x.last
  pub range : y.first ≤ y.last
  pub outside : (y.owner ≢ owner) ⊎ ((y.last < first) ⊎ (last < y.first))

outside_row : (owner first last : ℕ) (h : Held) → ((h.owner == owner) && overlaps first last h) ≡ false → (h.owner ≢ owner) ⊎ ((h.last < first) ⊎ (last < h.first))
outside_row owner first last h out = by_owner (h.owner == owner) refl (nat_le h.first last) refl out
  where
    by_owner : (b : Bool) → (h.owner == owner) ≡ b → (c : Bool) → nat_le h.first last ≡ c → (b && (c && nat_le first h.last)) ≡ false
        → (h.owner ≢ owner) ⊎ ((h.last < first) ⊎ (last < h.first))
    by_owner false other c low none = inl (eqb-false h.owner owner other)
    by_owner true same true low none = inr (inl (grind (arith, nat_tests)))
    by_owner true same false low none = inr (inr (grind (arith, nat_tests)))

pub cut_pieces : (owner first last : ℕ) (h y : Held) → is_range h ≡ true → IsRow y (cut owner first last h) → IsPiece owner first last h y
cut_pieces owner first last h y range within =
    by_cases ((h.owner == owner) && overlaps first last h) (nat_lt h.first first) (nat_lt last h.last) refl refl refl within
  where
    whole : ((h.owner == owner) && overlaps first last h) ≡ false → IsPiece owner first last h h
    whole out = record { owns = refl; likes = refl; from = omega arith; to = omega arith; range = leb-true h.first h.last range; outside = outside_row owner first last h out }

    front : ((h.owner == owner) && overlaps first last h) ≡ true → nat_lt h.first first ≡ true → IsPiece owner first last h (record h { last = first - 1 })
    front shared low =
        let parts = and_parts (h.owner == owner) (overlaps first last h) shared in
        let sides = and_parts (nat_le h.first last) (nat_le first h.last) parts.1 in
        let first_in : first ≤ h.last = leb-true first h.last sides.1 in
        let below : h.first < first = ltb-true h.first first low in
        record { owns = refl; likes = refl; from = omega arith; to = omega arith; range = omega arith; outside = inr (inl (omega arith)) }

    back : ((h.owner == owner) && overlaps first last h) ≡ true → nat_lt last h.last ≡ true → IsPiece owner first last h (record h { first = last + 1 })
    back shared high =
        let parts = and_parts (h.owner == owner) (overlaps first last h) shared in
        let sides = and_parts (nat_le h.first last) (nat_le first h.last) parts.1 in
        let last_in : h.first ≤ last = leb-true h.first last sides.0 in
        let above : last < h.last = ltb-true last h.last high in
        record { owns = refl; likes = refl; from = omega arith; to = omega arith; range = omega arith; outside = inr (inr (omega arith)) }

    by_cases : (t b c : Bool) → ((h.owner == owner) && overlaps first last h) ≡ t → nat_lt h.first first ≡ b → nat_lt last h.last ≡ c
        → IsRow y (cond t (cond b (record h { last = first - 1 } ∷ []) [] ++ cond c (record h { first = last + 1 } ∷ []) []) (h ∷ []))
        → IsPiece owner first last h y
    by_cases false b c out low high (inl here) = subst (λ z. IsPiece owner first last h z) (sym here) (whole out)
    by_cases false b c out low high (inr there) = absurd there
    by_cases true true c shared low high (inl here) = subst (λ z. IsPiece owner first last h z) (sym here) (front shared low)
    by_cases true true true shared low high (inr (inl here)) = subst (λ z. IsPiece owner first last h z) (sym here) (back shared high)
    by_cases true true true shared low high (inr (inr there)) = absurd there
    by_cases true true false shared low high (inr there) = absurd there
    by_cases true false true shared low high (inl here) = subst (λ z. IsPiece owner first last h z) (sym here) (back shared high)
    by_cases true false true shared low high (inr there) = absurd there
    by_cases true false false shared low high there = absurd there

-- each row that is left is a piece of one that was there
pub row_cleared : (owner first last : ℕ) (rows : List Held) (y : Held) → ranges_rise rows ≡ true → IsRow y (cleared owner first last rows)
    → (x : Held) × IsRow x rows × IsPiece owner first last x y
unfolding cleared
row_cleared owner first last [] y rising none = absurd none
row_cleared owner first last (h ∷ rows) y rising within =
    by_side (row_append y (cut owner first last h) (flat_map (cut owner first last) rows) within) (row_cleared owner first last rows y (rise_parts h rows rising).2)
  where
    further : ((x : Held) × IsRow x rows × IsPiece owner first last x y) → (x : Held) × IsRow x (h ∷ rows) × IsPiece owner first last x y
    further found = (found.0, inr found.1, found.2)

    by_side : IsRow y (cut owner first last h) ⊎ IsRow y (flat_map (cut owner first last) rows)
        → (IsRow y (flat_map (cut owner first last) rows) → (x : Held) × IsRow x rows × IsPiece owner first last x y) → (x : Held) × IsRow x (h ∷ rows) × IsPiece owner first last x y
    by_side (inl it) later = (h, inl refl, cut_pieces owner first last h y (rise_parts h rows rising).0 it)
    by_side (inr it) later = further (later it)

pieces_numbers : (o q hl xf yl zf : ℕ) (s : Bool) → yl ≤ hl → xf ≤ zf → ((nat_lt o q || ((o == q) && nat_lt hl xf)) && not ((o == q) && (hl + 1 == xf) && s)) ≡ true
    → ((nat_lt o q || ((o == q) && nat_lt yl zf)) && not ((o == q) && (yl + 1 == zf) && s)) ≡ true
pieces_numbers o q hl xf yl zf true low high all = grind (arith, nat_tests)
pieces_numbers o q hl xf yl zf false low high all = grind (arith, nat_tests)

-- pieces of rows that follow one another do so
pub pieces_follow : (owner first last : ℕ) (h x y z : Held) → IsPiece owner first last h y → IsPiece owner first last x z → follows h x ≡ true → follows y z ≡ true
pieces_follow owner first last h x y z py pz it =
    rw (py.owns, py.likes, pz.owns, pz.likes) (pieces_numbers h.owner x.owner h.last x.first y.last z.first (same_lock h.kind x.kind) py.to pz.from it)

-- the pieces of one row are in order
cut_rises : (owner first last : ℕ) (h : Held) → first ≤ last → is_range h ≡ true → ranges_rise (cut owner first last h) ≡ true
cut_rises owner first last h order range =
    by_cases ((h.owner == owner) && overlaps first last h) (nat_lt h.first first) (nat_lt last h.last) refl refl refl
  where
    by_cases : (t b c : Bool) → ((h.owner == owner) && overlaps first last h) ≡ t → nat_lt h.first first ≡ b → nat_lt last h.last ≡ c
        → ranges_rise (cond t (cond b (record h { last = first - 1 } ∷ []) [] ++ cond c (record h { first = last + 1 } ∷ []) []) (h ∷ [])) ≡ true
    by_cases false b c out low high = rise_from h [] range refl refl
    by_cases true true true shared low high =
        rise_from (record h { last = first - 1 }) (record h { first = last + 1 } ∷ []) (grind (arith, nat_tests))
        (and_from (follows (record h { last = first - 1 }) (record h { first = last + 1 })) true (grind (arith, nat_tests)) refl)
        (rise_from (record h { first = last + 1 }) [] (grind (arith, nat_tests)) refl refl)
    by_cases true true false shared low high = rise_from (record h { last = first - 1 }) [] (grind (arith, nat_tests)) refl refl
    by_cases true false true shared low high = rise_from (record h { first = last + 1 }) [] (grind (arith, nat_tests)) refl refl
    by_cases true false false shared low high = refl

pub cleared_rises : (owner first last : ℕ) (rows : List Held) → first ≤ last → ranges_rise rows ≡ true → ranges_rise (cleared owner first last rows) ≡ true
unfolding cleared
cleared_rises owner first last [] order rising = refl
cleared_rises owner first last (h ∷ rows) order rising =
    rise_append (cut owner first last h) (cleared owner first last rows)
    (cut_rises owner first last h order (rise_parts h rows rising).0)
    (cleared_rises owner first last rows order (rise_parts h rows rising).2)
    (λ a b in_front in_back. between a b in_front (row_cleared owner first last rows b (rise_parts h rows rising).2 in_back))
  where
    between : (a b : Held) → IsRow a (cut owner first last h) → ((x : Held) × IsRow x rows × IsPiece owner first last x b) → follows a b ≡ true
    between a b in_front found =
        pieces_follow owner first last h found.0 a b (cut_pieces owner first last h a (rise_parts h rows rising).0 in_front) found.2
        (all_in (follows h) rows found.0 (rise_parts h rows rising).1 found.1)

-- ---- A row in its place

-- each row is a range, and each later one is behind it
abbrev pub ranges_apart : List Held → Bool
ranges_apart [] = true
ranges_apart (h ∷ rows) = is_range h && list_all (is_before h) rows && ranges_apart rows

pub apart_parts : (h : Held) (rows : List Held) → ranges_apart (h ∷ rows) ≡ true → (is_range h ≡ true) × (list_all (is_before h) rows ≡ true) × (ranges_apart rows ≡ true)
apart_parts h rows all =
    let outer = and_parts (is_range h && list_all (is_before h) rows) (ranges_apart rows) all in
    let inner = and_parts (is_range h) (list_all (is_before h) rows) outer.0 in
    (inner.0, inner.1, outer.1)

pub apart_from : (h : Held) (rows : List Held) → is_range h ≡ true → list_all (is_before h) rows ≡ true → ranges_apart rows ≡ true → ranges_apart (h ∷ rows) ≡ true
apart_from h rows range all rest =
    and_from (is_range h && list_all (is_before h) rows) (ranges_apart rows) (and_from (is_range h) (list_all (is_before h) rows) range all) rest

pub rise_apart : (rows : List Held) → ranges_rise rows ≡ true → ranges_apart rows ≡ true
rise_apart [] rising = refl
rise_apart (h ∷ rows) rising =
    let parts = rise_parts h rows rising in
    apart_from h rows parts.0 (all_from (is_before h) rows (λ x within. follows_before h x (all_in (follows h) rows x parts.1 within))) (rise_apart rows parts.2)

all_put : (p : Held → Bool) (h : Held) (rows : List Held) → p h ≡ true → list_all p rows ≡ true → list_all p (put_range h rows) ≡ true
unfolding put_range
all_put p h [] here all = and_from (p h) true here refl
all_put p h (x ∷ rows) here all = by_place (is_before x h) (and_parts (p x) (list_all p rows) all) (all_put p h rows here (and_parts (p x) (list_all p rows) all).1)
  where
    by_place : (b : Bool) → (p x ≡ true) × (list_all p rows ≡ true) → list_all p (put_range h rows) ≡ true → list_all p (cond b (x ∷ put_range h rows) (h ∷ x ∷ rows)) ≡ true
    by_place true parts later = and_from (p x) (list_all p (put_range h rows)) parts.0 later
    by_place false parts later = and_from (p h) (list_all p (x ∷ rows)) here all

-- a range beside which each row stands on one side
pub put_apart : (h : Held) (rows : List Held) → is_range h ≡ true → ranges_apart rows ≡ true → ((x : Held) → IsRow x rows → (is_before x h ≡ true) ⊎ (is_before h x ≡ true))
    → ranges_apart (put_range h rows) ≡ true
unfolding put_range
put_apart h [] range apart sides = apart_from h [] range refl refl
put_apart h (x ∷ rows) range apart sides =
    by_place (is_before x h) refl (sides x (inl refl)) (apart_parts x rows apart) (put_apart h rows range (apart_parts x rows apart).2 (λ y within. sides y (inr within)))
  where
    by_place : (b : Bool) → is_before x h ≡ b → (is_before x h ≡ true) ⊎ (is_before h x ≡ true) → (is_range x ≡ true) × (list_all (is_before x) rows ≡ true) × (ranges_apart rows ≡ true)
        → ranges_apart (put_range h rows) ≡ true → ranges_apart (cond b (x ∷ put_range h rows) (h ∷ x ∷ rows)) ≡ true
    by_place true place side parts later = apart_from x (put_range h rows) parts.0 (all_put (is_before x) h rows place parts.1) later
    by_place false place (inl side) parts later = absurd (false≢true (sym place ∙ side))
    by_place false place (inr side) parts later =
        apart_from h (x ∷ rows) range (and_from (is_before h x) (list_all (is_before h) rows) side (all_later h x rows side parts.0 parts.1)) apart

-- ---- Neighbours that touch

pub meld_apart : (h x : Held) (rows : List Held) → ranges_apart (h ∷ x ∷ rows) ≡ true → touches h x ≡ true → ranges_apart (record h { last = x.last } ∷ rows) ≡ true
meld_apart h x rows all touch =
    let parts = apart_parts h (x ∷ rows) all in
    let rest = apart_parts x rows parts.2 in
    let same = touches_parts h x touch in
    let up : h.first ≤ h.last = leb-true h.first h.last parts.0 in
    let on : x.first ≤ x.last = leb-true x.first x.last rest.0 in
    let step : h.last + 1 ≡ x.first = same.1 in
    apart_from (record h { last = x.last }) rows (grind (arith, nat_tests))
    (ap (λ (o : ℕ). list_all (λ (b : Held). nat_lt o b.owner || ((o == b.owner) && nat_lt x.last b.first)) rows) same.0 ∙ rest.1) rest.2

-- what follows the first row follows, whatever is joined to it
joined_follow : (a x : Held) (rows : List Held) → follows a x ≡ true → ranges_apart (x ∷ rows) ≡ true → list_all (follows a) (joined_after x rows) ≡ true
unfolding joined_after
joined_follow a x [] it all = and_from (follows a x) true it refl
joined_follow a x (y ∷ rows) it all =
    by_touch (touches x y) refl (joined_follow a (record x { last = y.last }) rows it)
    (joined_follow a y rows (follows_later a x y (follows_before a x it) (apart_parts x (y ∷ rows) all).0 (and_parts (is_before x y) (list_all (is_before x) rows) (apart_parts x (y ∷ rows) all).1).0)
    (apart_parts x (y ∷ rows) all).2)
  where
    by_touch : (b : Bool) → touches x y ≡ b → (ranges_apart (record x { last = y.last } ∷ rows) ≡ true → list_all (follows a) (joined_after (record x { last = y.last }) rows) ≡ true)
        → list_all (follows a) (joined_after y rows) ≡ true
        → list_all (follows a) (cond b (joined_after (record x { last = y.last }) rows) (x ∷ joined_after y rows)) ≡ true
    by_touch true touch meld later = meld (meld_apart x y rows all touch)
    by_touch false touch meld later = and_from (follows a x) (list_all (follows a) (joined_after y rows)) it later

joined_after_rises : (h : Held) (rows : List Held) → ranges_apart (h ∷ rows) ≡ true → ranges_rise (joined_after h rows) ≡ true
unfolding joined_after
joined_after_rises h [] all = rise_from h [] (apart_parts h [] all).0 refl refl
joined_after_rises h (x ∷ rows) all =
    by_touch (touches h x) refl (joined_after_rises (record h { last = x.last }) rows) (joined_after_rises x rows (apart_parts h (x ∷ rows) all).2)
  where
    by_touch : (b : Bool) → touches h x ≡ b → (ranges_apart (record h { last = x.last } ∷ rows) ≡ true → ranges_rise (joined_after (record h { last = x.last }) rows) ≡ true)
        → ranges_rise (joined_after x rows) ≡ true
        → ranges_rise (cond b (joined_after (record h { last = x.last }) rows) (h ∷ joined_after x rows)) ≡ true
    by_touch true touch meld later = meld (meld_apart h x rows all touch)
    by_touch false touch meld later =
        let parts = apart_parts h (x ∷ rows) all in
        let behind : is_before h x ≡ true = (and_parts (is_before h x) (list_all (is_before h) rows) parts.1).0 in
        let apart : not (touches h x) ≡ true = rw touch refl in
        rise_from h (joined_after x rows) parts.0 (joined_follow h x rows (and_from (is_before h x) (not (touches h x)) behind apart) parts.2) later

pub joined_rises : (rows : List Held) → ranges_apart rows ≡ true → ranges_rise (joined rows) ≡ true
unfolding joined
joined_rises [] all = refl
joined_rises (h ∷ rows) all = joined_after_rises h rows all
