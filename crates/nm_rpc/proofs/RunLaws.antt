-- Runs of fragments: where two begin alike, they are alike.
use Rattle.std.proofs.Common.{◌≡◌, ℕ, Bool, true, false, List, [], ◌∷◌, ◌++◌, length, take, drop, refl, sym, ap, ◌∙◌, append_assoc}
use Rattle.std.specs.List.{AllByRecursion}
use Rattle.std.proofs.Math.Seq.{take-append_seam, drop-append_seam}
use Rattle.nm_rpc.specs.Stream.{Fragment, IsFragment, number_of, announced, is_last, spelled, joined, IsSpellingOf, AreSpellingsOf, BeginsNoRecord, Splits}

-- Lists that begin with as many items, and are one list.
pub same_front : {A : Type 0} (a b x y : List A) → length a ≡ length b → a ++ x ≡ b ++ y → (a ≡ b) × (x ≡ y)
same_front a b x y len e =
    let fronts : a ≡ b = sym (take-append_seam a x) ∙ ap (take (length a)) e ∙ ap (λ (n : ℕ). take n (b ++ y)) len ∙ take-append_seam b y in
    let rests : x ≡ y = sym (drop-append_seam a x) ∙ ap (drop (length a)) e ∙ ap (λ (n : ℕ). drop n (b ++ y)) len ∙ drop-append_seam b y in
    (fronts, rests)

-- Two fragments at the front of one stream are one.
pub same_fragment : (f g : Fragment) (last other : Bool) (x y : List ℕ) → IsFragment last f → IsFragment other g
    → (f.header ++ f.body) ++ x ≡ (g.header ++ g.body) ++ y → (f.header ≡ g.header) × (f.body ≡ g.body) × (x ≡ y)
same_fragment f g last other x y is_f is_g e =
    let behind : f.header ++ (f.body ++ x) ≡ g.header ++ (g.body ++ y) = sym (append_assoc f.header f.body x) ∙ e ∙ append_assoc g.header g.body y in
    let headers = same_front f.header g.header (f.body ++ x) (g.body ++ y) (is_f.four ∙ sym is_g.four) behind in
    let lengths : length f.body ≡ length g.body = sym is_f.whole ∙ ap (λ (h : List ℕ). announced (number_of h)) headers.0 ∙ is_g.whole in
    let bodies = same_front f.body g.body x y lengths headers.1 in
    (headers.0, bodies.0, bodies.1)

-- A fragment is the last of its record, or isn't.
pub one_flag : (f g : Fragment) → IsFragment false f → IsFragment true g → f.header ≡ g.header → ⊥
one_flag f g is_f is_g e =
    let flags : is_last (number_of f.header) ≡ is_last (number_of g.header) = ap (λ (h : List ℕ). is_last (number_of h)) e in
    let both : false ≡ true = sym is_f.flagged ∙ flags ∙ is_g.flagged in
    cc

-- The bytes of a fragment, and of those after it.
pub first_of : (f : Fragment) (fs : List Fragment) (x : List ℕ) → spelled (f ∷ fs) ++ x ≡ (f.header ++ f.body) ++ (spelled fs ++ x)
first_of f fs x = append_assoc (f.header ++ f.body) (spelled fs) x

-- Less than a fragment.
pub record IsLess (tail : List ℕ) : Type 0 where
  pub none : (header body more : List ℕ) → length header ≡ 4 → announced (number_of header) ≡ length body → tail ≡ header ++ (body ++ more) → ⊥

-- No fragment begins there.
pub no_fragment : (tail : List ℕ) (f : Fragment) (last : Bool) (x : List ℕ) → IsLess tail → IsFragment last f → tail ≡ (f.header ++ f.body) ++ x → ⊥
no_fragment tail f last x less is_f e = less.none f.header f.body x is_f.four is_f.whole (e ∙ append_assoc f.header f.body x)

-- Fragments that aren't the last, and less than a fragment, are less than a record.
no_record : (e1 : List Fragment) (tail : List ℕ) (e2 : List Fragment) (end : Fragment) (more : List ℕ) → AllByRecursion (IsFragment false) e1 → IsLess tail
    → AllByRecursion (IsFragment false) e2 → IsFragment true end → spelled e1 ++ tail ≡ spelled (e2 ++ end ∷ []) ++ more → ⊥
no_record [] tail [] end more all_1 less all_2 is_end e = no_fragment tail end true ([] ++ more) less is_end (e ∙ first_of end [] more)
no_record [] tail (f ∷ fs) end more all_1 less all_2 is_end e = no_fragment tail f false (spelled (fs ++ end ∷ []) ++ more) less all_2.0 (e ∙ first_of f (fs ++ end ∷ []) more)
no_record (g ∷ gs) tail [] end more all_1 less all_2 is_end e =
    let same = same_fragment g end false true (spelled gs ++ tail) ([] ++ more) all_1.0 is_end (sym (first_of g gs tail) ∙ e ∙ first_of end [] more) in
    one_flag g end all_1.0 is_end same.0
no_record (g ∷ gs) tail (f ∷ fs) end more all_1 less all_2 is_end e =
    let same = same_fragment g f false false (spelled gs ++ tail) (spelled (fs ++ end ∷ []) ++ more) all_1.0 all_2.0 (sym (first_of g gs tail) ∙ e ∙ first_of f (fs ++ end ∷ []) more) in
    no_record gs tail fs end more all_1.1 less all_2.1 is_end same.2

pub begins_none : (earlier : List Fragment) (tail : List ℕ) → AllByRecursion (IsFragment false) earlier → IsLess tail → BeginsNoRecord (spelled earlier ++ tail)
begins_none earlier tail all less r front more spelling e =
    no_record earlier tail spelling.earlier spelling.end more all less spelling.not_last spelling.last
    (e ∙ ap (λ (f : List ℕ). f ++ more) spelling.whole)

-- Two records at the front of one stream are one.
same_run : (e1 : List Fragment) (end1 : Fragment) (x : List ℕ) (e2 : List Fragment) (end2 : Fragment) (y : List ℕ) → AllByRecursion (IsFragment false) e1 → IsFragment true end1
    → AllByRecursion (IsFragment false) e2 → IsFragment true end2 → spelled (e1 ++ end1 ∷ []) ++ x ≡ spelled (e2 ++ end2 ∷ []) ++ y
    → (joined (e1 ++ end1 ∷ []) ≡ joined (e2 ++ end2 ∷ [])) × (x ≡ y)
same_run [] end1 x [] end2 y all_1 is_1 all_2 is_2 e =
    let same = same_fragment end1 end2 true true ([] ++ x) ([] ++ y) is_1 is_2 (sym (first_of end1 [] x) ∙ e ∙ first_of end2 [] y) in
    (ap (λ (b : List ℕ). b ++ []) same.1, same.2)
same_run [] end1 x (f ∷ fs) end2 y all_1 is_1 all_2 is_2 e =
    let same = same_fragment end1 f true false ([] ++ x) (spelled (fs ++ end2 ∷ []) ++ y) is_1 all_2.0 (sym (first_of end1 [] x) ∙ e ∙ first_of f (fs ++ end2 ∷ []) y) in
    absurd (one_flag f end1 all_2.0 is_1 (sym same.0))
same_run (g ∷ gs) end1 x [] end2 y all_1 is_1 all_2 is_2 e =
    let same = same_fragment g end2 false true (spelled (gs ++ end1 ∷ []) ++ x) ([] ++ y) all_1.0 is_2 (sym (first_of g (gs ++ end1 ∷ []) x) ∙ e ∙ first_of end2 [] y) in
    absurd (one_flag g end2 all_1.0 is_2 same.0)
same_run (g ∷ gs) end1 x (f ∷ fs) end2 y all_1 is_1 all_2 is_2 e =
    let same = same_fragment g f false false (spelled (gs ++ end1 ∷ []) ++ x) (spelled (fs ++ end2 ∷ []) ++ y) all_1.0 all_2.0 (sym (first_of g (gs ++ end1 ∷ []) x) ∙ e ∙ first_of f (fs ++ end2 ∷ []) y) in
    let rest = same_run gs end1 x fs end2 y all_1.1 is_1 all_2.1 is_2 same.2 in
    (ap (λ (b : List ℕ). b ++ joined (gs ++ end1 ∷ [])) same.1 ∙ ap (λ (b : List ℕ). f.body ++ b) rest.0, rest.1)

pub same_spelling : (r s a b x y : List ℕ) → IsSpellingOf r a → IsSpellingOf s b → a ++ x ≡ b ++ y → (r ≡ s) × (x ≡ y)
same_spelling r s a b x y is_a is_b e =
    let bytes : spelled (is_a.earlier ++ is_a.end ∷ []) ++ x ≡ spelled (is_b.earlier ++ is_b.end ∷ []) ++ y =
    ap (λ (f : List ℕ). f ++ x) (sym is_a.whole) ∙ e ∙ ap (λ (f : List ℕ). f ++ y) is_b.whole in
    let same = same_run is_a.earlier is_a.end x is_b.earlier is_b.end y is_a.not_last is_a.last is_b.not_last is_b.last bytes in
    (is_a.parts ∙ same.0 ∙ sym is_b.parts, same.1)

-- A stream splits in one way.
same_records : (rs ss : List (List ℕ)) (a b x y : List ℕ) → AreSpellingsOf rs a → AreSpellingsOf ss b → BeginsNoRecord x → BeginsNoRecord y → a ++ x ≡ b ++ y
    → (rs ≡ ss) × (x ≡ y)
same_records [] [] a b x y is_a is_b less_x less_y e = (refl, ap (λ (f : List ℕ). f ++ x) (sym is_a) ∙ e ∙ ap (λ (f : List ℕ). f ++ y) is_b)
same_records [] (s ∷ ss) a b x y is_a is_b less_x less_y e =
    absurd (less_x s is_b.0 (is_b.1 ++ y) is_b.2 (ap (λ (f : List ℕ). f ++ x) (sym is_a) ∙ e ∙ ap (λ (f : List ℕ). f ++ y) is_b.4 ∙ append_assoc is_b.0 is_b.1 y))
same_records (r ∷ rs) [] a b x y is_a is_b less_x less_y e =
    absurd (less_y r is_a.0 (is_a.1 ++ x) is_a.2 (ap (λ (f : List ℕ). f ++ y) (sym is_b) ∙ sym e ∙ ap (λ (f : List ℕ). f ++ x) is_a.4 ∙ append_assoc is_a.0 is_a.1 x))
same_records (r ∷ rs) (s ∷ ss) a b x y is_a is_b less_x less_y e =
    let bytes : is_a.0 ++ (is_a.1 ++ x) ≡ is_b.0 ++ (is_b.1 ++ y) =
    sym (append_assoc is_a.0 is_a.1 x) ∙ ap (λ (f : List ℕ). f ++ x) (sym is_a.4) ∙ e ∙ ap (λ (f : List ℕ). f ++ y) is_b.4 ∙ append_assoc is_b.0 is_b.1 y in
    let first = same_spelling r s is_a.0 is_b.0 (is_a.1 ++ x) (is_b.1 ++ y) is_a.2 is_b.2 bytes in
    let others = same_records rs ss is_a.1 is_b.1 x y is_a.3 is_b.3 less_x less_y first.1 in
    (ap (λ (z : List ℕ). z ∷ rs) first.0 ∙ ap (λ (zs : List (List ℕ)). s ∷ zs) others.0, others.1)

pub one_splitting : (stream : List ℕ) (rs ss : List (List ℕ)) (x y : List ℕ) → Splits stream rs x → Splits stream ss y → (rs ≡ ss) × (x ≡ y)
one_splitting stream rs ss x y a b = same_records rs ss a.front b.front x y a.spellings b.spellings a.less b.less (sym a.whole ∙ b.whole)
