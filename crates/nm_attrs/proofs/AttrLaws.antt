-- A loop over the attributes that may be read: each step leaves fewer of them.
use Rattle.std.proofs.Common.{◌≡◌, ℕ, ◌+◌, ◌≤◌, ◌<◌, Bool, true, false, cond, List, [], ◌∷◌, ◌++◌, length, get_or, drop, Result, Ok, Err, refl, sym, ap, subst, ◌∙◌, add-one, drop-cons}
use Rattle.std.proofs.lemmas.List.{drop_all}
use Rattle.nm_xdr.specs.Fields.{Fault, ◌>>=◌}
use Rattle.nm_xdr.specs.Places.{Spot, end_of, fault_of, place_of}
use Rattle.nm_items.specs.declared.fault.ReadFault.{ReadFault}
use Rattle.nm_items.specs.declared.fault.ReadFault.TheVariants.{Xdr, Memory}
use Rattle.nm_attrs.specs.declared.values.Attr.{Attr}
use Rattle.nm_attrs.specs.declared.values.AttrLayout.{AttrLayout}
use Rattle.nm_attrs.specs.Bitmaps.{has}
use Rattle.nm_attrs.specs.Attributes.{attr_at, attrs_at, in_bitmap}
use Rattle.nm_items.specs.Takes.{Fails}

-- what comes after a list of attributes
then_read : (first others : List AttrLayout) (r : Result (Attr × List ℕ) Fault) (earlier : List Attr)
    → ((a : Attr) (bytes : List ℕ) → attrs_at (first ++ others) (earlier ++ a ∷ []) bytes ≡ (attrs_at first (earlier ++ a ∷ []) bytes >>= λ x. attrs_at others x.0 x.1))
    → (r >>= λ a. attrs_at (first ++ others) (earlier ++ a.0 ∷ []) a.1)
    ≡ ((r >>= λ a. attrs_at first (earlier ++ a.0 ∷ []) a.1) >>= λ x. attrs_at others x.0 x.1)
then_read first others (Ok a) earlier same = same a.0 a.1
then_read first others (Err f) earlier same = refl

-- Reading the attributes of two lists is reading those of the one and then those of the other.
pub two_lists : (first others : List AttrLayout) (earlier : List Attr) (bytes : List ℕ)
    → attrs_at (first ++ others) earlier bytes ≡ (attrs_at first earlier bytes >>= λ a. attrs_at others a.0 a.1)
unfolding attrs_at
two_lists [] others earlier bytes = refl
two_lists (l ∷ first) others earlier bytes = then_read first others (attr_at l bytes) earlier (λ a rest. two_lists first others (earlier ++ a ∷ []) rest)

one_more : (words : List ℕ) (l : AttrLayout) (others : List AttrLayout) → in_bitmap words (l ∷ others) ≡ in_bitmap words (l ∷ []) ++ in_bitmap words others
one_more words l others = by_test (has words l.bit)
  where
    by_test : (b : Bool) → cond b (l ∷ in_bitmap words others) (in_bitmap words others) ≡ cond b (l ∷ []) [] ++ in_bitmap words others
    by_test true = refl
    by_test false = refl

-- What is left to read behind what was read is what is read of all.
abbrev pub AttrsLeft : List ℕ → List AttrLayout → ℕ → List Attr → Spot → Spot → Type 0
AttrsLeft words layouts i earlier here from =
    (attrs_at (in_bitmap words (drop i layouts)) earlier here.rest ≡ attrs_at (in_bitmap words layouts) [] from.rest) × (end_of here ≡ end_of from)

-- what is left goes by the next attribute
next_of : (words : List ℕ) (layouts : List AttrLayout) (i : ℕ) (d : AttrLayout) (earlier : List Attr) (bytes : List ℕ) → i < length layouts
    → attrs_at (in_bitmap words (drop i layouts)) earlier bytes
    ≡ (attrs_at (in_bitmap words (get_or layouts i d ∷ [])) earlier bytes >>= λ a. attrs_at (in_bitmap words (drop (i + 1) layouts)) a.0 a.1)
next_of words layouts i d earlier bytes lt =
    let cut : drop i layouts ≡ get_or layouts i d ∷ drop (i + 1) layouts = rw add-one (drop-cons layouts i d lt) in
    ap (λ (ls : List AttrLayout). attrs_at (in_bitmap words ls) earlier bytes) cut
    ∙ ap (λ (ls : List AttrLayout). attrs_at ls earlier bytes) (one_more words (get_or layouts i d) (drop (i + 1) layouts))
    ∙ two_lists (in_bitmap words (get_or layouts i d ∷ [])) (in_bitmap words (drop (i + 1) layouts)) earlier bytes

-- One more was read, or passed over.
pub attr_taken : (words : List ℕ) (layouts : List AttrLayout) (i : ℕ) (d : AttrLayout) (before after : List Attr) (here to from : Spot) → i < length layouts
    → (attrs_at (in_bitmap words (get_or layouts i d ∷ [])) before here.rest ≡ Ok (after, to.rest)) × (end_of to ≡ end_of here)
    → AttrsLeft words layouts i before here from → AttrsLeft words layouts (i + 1) after to from
attr_taken words layouts i d before after here to from lt read left = (
  sym (ap (λ (r : Result (List Attr × List ℕ) Fault). r >>= λ a. attrs_at (in_bitmap words (drop (i + 1) layouts)) a.0 a.1) read.0)
      ∙ sym (next_of words layouts i d before here.rest lt) ∙ left.0,
  read.1 ∙ left.1,
)

-- All were read.
pub attrs_taken : (words : List ℕ) (layouts : List AttrLayout) (i : ℕ) (earlier : List Attr) (here from : Spot) → length layouts ≤ i
    → AttrsLeft words layouts i earlier here from → (attrs_at (in_bitmap words layouts) [] from.rest ≡ Ok (earlier, here.rest)) × (end_of here ≡ end_of from)
unfolding attrs_at
attrs_taken words layouts i earlier here from le left =
    (sym left.0 ∙ ap (λ (ls : List AttrLayout). attrs_at (in_bitmap words ls) earlier here.rest) (drop_all i layouts le), left.1)

-- One isn't read: it is the fault of all.
pub attr_missing : (words : List ℕ) (layouts : List AttrLayout) (i : ℕ) (d : AttrLayout) (earlier : List Attr) (here from : Spot) (e : ReadFault) → i < length layouts
    → Fails (end_of here) e (attrs_at (in_bitmap words (get_or layouts i d ∷ [])) earlier here.rest) → AttrsLeft words layouts i earlier here from
    → Fails (end_of from) e (attrs_at (in_bitmap words layouts) [] from.rest)
attr_missing words layouts i d earlier here from (Xdr e) lt tells left =
    let same : attrs_at (in_bitmap words layouts) [] from.rest ≡ Err (fault_of (end_of here) e) =
    sym left.0 ∙ next_of words layouts i d earlier here.rest lt
    ∙ ap (λ (r : Result (List Attr × List ℕ) Fault). r >>= λ a. attrs_at (in_bitmap words (drop (i + 1) layouts)) a.0 a.1) tells.0 in
    (same ∙ ap (λ (n : ℕ). Err (fault_of n e)) left.1, subst (λ (n : ℕ). place_of e ≤ n) left.1 tells.1)
attr_missing words layouts i d earlier here from Memory lt tells left = tt
