-- A stable sort leaves the one list in order.
use Rattle.std.proofs.Common.{◌≡◌, ℕ, zero, suc, ◌<◌, ◌≤◌, Bool, true, false, cond, not, List, [], ◌∷◌, length, get_or, map, filter, refl, sym, ap, ◌∙◌, arith, inl, inr}
use Rattle.std.specs.Cmp.{IsStrictWeakOrder}
use Rattle.std.specs.List.Sorted.{ties, IsSortedBy, IsStableBy}
use Rattle.std.proofs.lemmas.Bool.{cases_Bool, not-true, and_parts}
use Rattle.std.proofs.lemmas.List.Sorted.{sorted_far}
use Rattle.nm_script.specs.TableText.{put_in_order, in_order}

module _ {X : Type 0} (p : X → Bool) (x : X) (xs : List X) where
  kept : p x ≡ true → filter p (x ∷ xs) ≡ x ∷ filter p xs
  kept h = rw h refl

  left_out : p x ≡ false → filter p (x ∷ xs) ≡ filter p xs
  left_out h = rw h refl

module _ {X : Type 0} (before : X → X → Bool) (x : X) (y : X) (ys : List X) where
  put_behind : before y x ≡ true → put_in_order before x (y ∷ ys) ≡ y ∷ put_in_order before x ys
  put_behind h = rw h refl

  put_here : before y x ≡ false → put_in_order before x (y ∷ ys) ≡ x ∷ y ∷ ys
  put_here h = rw h refl

-- ---- items that tie

tie : {X : Type 0} (before : X → X → Bool) (x y : X) → before x y ≡ false → before y x ≡ false → ties before x y ≡ true
tie before x y p q = rw (p, q) refl

tied : {X : Type 0} (before : X → X → Bool) (x y : X) → ties before x y ≡ true → (before x y ≡ false) × (before y x ≡ false)
tied before x y h =
    let p = and_parts (not (before x y)) (not (before y x)) h in
    (not-true (before x y) p.0, not-true (before y x) p.1)

module _ {X : Type 0} (before : X → X → Bool) (o : IsStrictWeakOrder before) where
  not_itself : (x : X) → before x x ≡ false
  not_itself x = elim (cases_Bool (before x x)) [
    | inl h ↦ o.one_way x x h
    | inr h ↦ h
  ]

  -- two that tie with a third one
  tie_too : (v x y : X) → ties before v x ≡ true → ties before v y ≡ true → before x y ≡ false
  tie_too v x y a b = o.chain x v y (tied before v x a).1 (tied before v y b).0

  -- those that tie with one are left in their order
  put_keeps_ties : (v x : X) (ys : List X) → filter (ties before v) (put_in_order before x ys) ≡ filter (ties before v) (x ∷ ys)
  put_keeps_ties v x [] = refl
  put_keeps_ties v x (y ∷ ys) =
      let p = ties before v in
      elim (cases_Bool (before y x)) [
        | inr here ↦ ap (filter p) (put_here before x y ys here)
        | inl behind ↦
            ap (filter p) (put_behind before x y ys behind)
            ∙ elim (cases_Bool (p y)) [
              | inr without ↦
                  left_out p y (put_in_order before x ys) without ∙ put_keeps_ties v x ys
                  ∙ ap (λ l. cond (p x) (x ∷ l) l) (sym (left_out p y ys without))
              | inl with ↦
                  elim (cases_Bool (p x)) [
                    | inl both ↦ absurd (let clash : true ≡ false = sym behind ∙ tie_too v y x with both in cc)
                    | inr only ↦
                        kept p y (put_in_order before x ys) with ∙ ap (λ l. y ∷ l) (put_keeps_ties v x ys ∙ left_out p x ys only)
                        ∙ sym (left_out p x (y ∷ ys) only ∙ kept p y ys with)
                  ]
            ]
      ]

  in_order_keeps_ties : (v : X) (xs : List X) → filter (ties before v) (in_order before xs) ≡ filter (ties before v) xs
  in_order_keeps_ties v [] = refl
  in_order_keeps_ties v (x ∷ xs) =
      put_keeps_ties v x (in_order before xs) ∙ ap (λ l. cond (ties before v x) (x ∷ l) l) (in_order_keeps_ties v xs)

-- ---- lists in order

-- none comes before the item
abbrev NoneBefore : {X : Type 0} → (X → X → Bool) → X → List X → Type 0
NoneBefore before x [] = Unit {0}
NoneBefore before x (y ∷ ys) = (before y x ≡ false) × NoneBefore before x ys

-- none comes before one that it stands behind
abbrev Rises : {X : Type 0} → (X → X → Bool) → List X → Type 0
Rises before [] = Unit {0}
Rises before (x ∷ xs) = NoneBefore before x xs × Rises before xs

module _ {X : Type 0} (before : X → X → Bool) (o : IsStrictWeakOrder before) where
  none_before_lower : (x y : X) (ys : List X) → before y x ≡ false → NoneBefore before y ys → NoneBefore before x ys
  none_before_lower x y [] low none = tt
  none_before_lower x y (z ∷ zs) low none = (o.chain z y x none.0 low, none_before_lower x y zs low none.1)

  none_before_put : (x y : X) (ys : List X) → before y x ≡ false → NoneBefore before x ys → NoneBefore before x (put_in_order before y ys)
  none_before_put x y [] one none = (one, tt)
  none_before_put x y (z ∷ zs) one none =
      elim (cases_Bool (before z y)) [
        | inl behind ↦ rw behind (none.0, none_before_put x y zs one none.1)
        | inr here ↦ rw here (one, none)
      ]

  put_rises : (x : X) (ys : List X) → Rises before ys → Rises before (put_in_order before x ys)
  put_rises x [] up = (tt, tt)
  put_rises x (y ∷ ys) up =
      elim (cases_Bool (before y x)) [
        | inl behind ↦ rw behind (none_before_put y x ys (o.one_way y x behind) up.0, put_rises x ys up.1)
        | inr here ↦ rw here ((here, none_before_lower x y ys here up.0), up)
      ]

  in_order_rises : (xs : List X) → Rises before (in_order before xs)
  in_order_rises [] = tt
  in_order_rises (x ∷ xs) = put_rises x (in_order before xs) (in_order_rises xs)

  none_before_at : (x : X) (ys : List X) → ((j : ℕ) (d : X) → j < length ys → before (get_or ys j d) x ≡ false) → NoneBefore before x ys
  none_before_at x [] h = tt
  none_before_at x (y ∷ ys) h = (h zero y (omega arith), none_before_at x ys (λ j d lt. h (suc j) d (omega arith)))

  far_rises : (ys : List X) → ((i j : ℕ) (d : X) → i ≤ j → j < length ys → before (get_or ys j d) (get_or ys i d) ≡ false) → Rises before ys
  far_rises [] h = tt
  far_rises (y ∷ ys) h = (
    none_before_at y ys (λ j d lt. h zero (suc j) d (omega arith) (omega arith)),
    far_rises ys (λ i j d le lt. h (suc i) (suc j) d (omega arith) (omega arith)),
  )

  sorted_rises : (ys : List X) → IsSortedBy before ys → Rises before ys
  sorted_rises ys sorted = far_rises ys (λ i j d le lt. sorted_far before o ys sorted i j d le lt)

  -- one that ties with an item stands among them
  tied_among : (n v : X) (ys : List X) (w : X) (ws : List X) → NoneBefore before n ys → filter (ties before v) ys ≡ w ∷ ws → before v n ≡ false
  tied_among n v [] w ws none e = absurd cc
  tied_among n v (y ∷ ys) w ws none e =
      elim (cases_Bool (ties before v y)) [
        | inl with ↦ o.chain v y n (tied before v y with).0 none.0
        | inr without ↦ tied_among n v ys w ws none.1 (sym (left_out (ties before v) y ys without) ∙ e)
      ]

  -- two lists in order are equal where those that tie with one are the same ones
  one_order : (ys zs : List X) → Rises before ys → Rises before zs → ((v : X) → filter (ties before v) ys ≡ filter (ties before v) zs) → ys ≡ zs
  one_order [] [] left right same = refl
  one_order [] (z ∷ zs) left right same =
      let own = tie before z z (not_itself before o z) (not_itself before o z) in
      absurd (let clash = same z ∙ kept (ties before z) z zs own in cc)
  one_order (y ∷ ys) [] left right same =
      let own = tie before y y (not_itself before o y) (not_itself before o y) in
      absurd (let clash = sym (same y) ∙ kept (ties before y) y ys own in cc)
  one_order (y ∷ ys) (z ∷ zs) left right same =
      let own_y = not_itself before o y in
      let own_z = not_itself before o z in
      let at_y = kept (ties before y) y ys (tie before y y own_y own_y) in
      let at_z = kept (ties before z) z zs (tie before z z own_z own_z) in
      let up = tied_among z y (z ∷ zs) y (filter (ties before y) ys) (own_z, right.0) (sym (same y) ∙ at_y) in
      let down = tied_among y z (y ∷ ys) z (filter (ties before z) zs) (own_y, left.0) (same z ∙ at_z) in
      let heads : y ∷ filter (ties before y) ys ≡ z ∷ filter (ties before y) zs = sym at_y ∙ same y ∙ kept (ties before y) z zs (tie before y z up down) in
      let head : y ≡ z = cc in
      let tails : (v : X) → filter (ties before v) ys ≡ filter (ties before v) zs =
      λ v. elim (cases_Bool (ties before v y)) [
        | inl with ↦
            let both : y ∷ filter (ties before v) ys ≡ z ∷ filter (ties before v) zs =
            sym (kept (ties before v) y ys with) ∙ same v ∙ kept (ties before v) z zs (ap (ties before v) (sym head) ∙ with) in cc
        | inr without ↦
            sym (left_out (ties before v) y ys without) ∙ same v ∙ left_out (ties before v) z zs (ap (ties before v) (sym head) ∙ without)
      ] in
      ap (λ w. w ∷ ys) head ∙ ap (λ l. z ∷ l) (one_order ys zs left.1 right.1 tails)

  pub sorted_is_in_order : (xs ys : List X) → IsSortedBy before ys → IsStableBy before xs ys → ys ≡ in_order before xs
  sorted_is_in_order xs ys sorted stable =
      one_order ys (in_order before xs) (sorted_rises ys sorted) (in_order_rises xs) (λ v. stable v ∙ sym (in_order_keeps_ties before o v xs))

-- ---- items that stand for others

module _ {X V : Type 0} (by : X → X → Bool) (before : V → V → Bool) (seen : X → V) (same : (x y : X) → by x y ≡ before (seen x) (seen y)) where
  put_seen : (x : X) (ys : List X) → map seen (put_in_order by x ys) ≡ put_in_order before (seen x) (map seen ys)
  put_seen x [] = refl
  put_seen x (y ∷ ys) =
      elim (cases_Bool (by y x)) [
        | inl behind ↦ rw (behind, sym (same y x) ∙ behind) (ap (λ l. seen y ∷ l) (put_seen x ys))
        | inr here ↦ rw (here, sym (same y x) ∙ here) refl
      ]

  pub in_order_seen : (xs : List X) → map seen (in_order by xs) ≡ in_order before (map seen xs)
  in_order_seen [] = refl
  in_order_seen (x ∷ xs) = put_seen x (in_order by xs) ∙ ap (put_in_order before (seen x)) (in_order_seen xs)
