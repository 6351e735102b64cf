-- A stream that isn't given up splits and isn't too long, and one that is too long is so at one place.
use Rattle.std.proofs.Common.{◌≡◌, ℕ, ◌+◌, ◌<◌, ◌≤◌, true, false, List, [], ◌∷◌, ◌++◌, length, Some, None, refl, sym, ap, ◌∙◌, subst, arith, append_assoc}
use Rattle.std.specs.List.{AllByRecursion}
use Rattle.std.proofs.lemmas.List.{length-append}
use Rattle.nm_rpc.specs.declared.phase.Phase.{Phase}
use Rattle.nm_rpc.specs.declared.phase.Phase.TheVariants.{Header, Body, TooLong}
use Rattle.nm_rpc.specs.Stream.{Fragment, IsFragment, number_of, announced, spelled, joined, IsSpellingOf, AreSpellingsOf, Splits, Reaches, IsTooLong}
use Rattle.nm_rpc.specs.Feeding.{RecordsNow, Stands, IsAfter, refusal_of}
use Rattle.nm_rpc.proofs.RunLaws.{same_front, same_fragment, IsLess, no_fragment, first_of, one_flag, begins_none, same_spelling}

-- ---- Not given up

-- The tail that is held is less than a fragment, and a header at its front announces what fits.
pub record IsOpen (limit : ℕ) (before tail : List ℕ) : Type 0 where
  pub less : IsLess tail
  pub fits : (header more : List ℕ) → length header ≡ 4 → tail ≡ header ++ more → length before + announced (number_of header) ≤ limit

open_tail : (limit : ℕ) (before tail partial : List ℕ) (phase : Phase) → Stands limit before tail partial phase → refusal_of phase ≡ None → IsOpen limit before tail
open_tail limit before tail partial (Header number seen) s is = record {
  less = record { none = λ header body more four whole e. omega (arith, four, ap length e, length-append header (body ++ more), s.0, s.2) };
  fits = λ header more four e. absurd (omega (arith, four, ap length e, length-append header more, s.0, s.2));
}
open_tail limit before tail partial (Body left last) s is = record {
  less = record {
    none = λ header body more four whole e.
        let same = same_front s.0 header s.1 (body ++ more) (s.3 ∙ sym four) (sym s.2 ∙ e) in
        let count : announced (number_of s.0) ≡ length body = ap (λ (h : List ℕ). announced (number_of h)) same.0 ∙ whole in
        omega (arith, count, ap length same.1, length-append body more, s.4, s.5);
  };
  fits = λ header more four e.
      let same = same_front s.0 header s.1 more (s.3 ∙ sym four) (sym s.2 ∙ e) in
      let count : announced (number_of s.0) ≡ announced (number_of header) = ap (λ (h : List ℕ). announced (number_of h)) same.0 in
      omega (arith, count, s.8);
}
open_tail limit before tail partial (TooLong got) s is = absurd cc

-- The stream so far is these records, and less than another.
pub after_splits : (stream : List ℕ) (given : List (List ℕ)) (now : RecordsNow) → IsAfter stream given now → refusal_of now.phase ≡ None
    → (rest : List ℕ) × Splits stream (given ++ now.waiting) rest
after_splits stream given now h is =
    let r = h.reaches in
    let open_at = open_tail now.limit h.before h.tail now.partial now.phase h.stands is in
    (spelled r.earlier ++ h.tail, record { front = r.front; spellings = r.spellings; whole = r.whole; less = begins_none r.earlier h.tail r.not_last open_at.less })

-- ---- Given up

stands_refused : (limit : ℕ) (stream : List ℕ) (records : List (List ℕ)) (before tail partial : List ℕ) (phase : Phase) (got : ℕ) → Reaches limit stream records before tail
    → Stands limit before tail partial phase → refusal_of phase ≡ Some got → IsTooLong limit stream records got
stands_refused limit stream records before tail partial (Header number seen) got r s is = absurd cc
stands_refused limit stream records before tail partial (Body left last) got r s is = absurd cc
stands_refused limit stream records before tail partial (TooLong sum) got r s is =
    let same : sum ≡ got = cc in
    record {
      before = before;
      header = s.0;
      more = s.1;
      reaches = subst (λ (t : List ℕ). Reaches limit stream records before t) s.2 r;
      four = s.3;
      sum = sym same ∙ s.4;
      past = subst (λ (n : ℕ). limit < n) same s.5;
    }

pub after_refused : (stream : List ℕ) (given : List (List ℕ)) (now : RecordsNow) (got : ℕ) → IsAfter stream given now → refusal_of now.phase ≡ Some got
    → IsTooLong now.limit stream (given ++ now.waiting) got
after_refused stream given now got h is = stands_refused now.limit stream (given ++ now.waiting) h.before h.tail now.partial now.phase got h.reaches h.stands is

-- ---- A stream that isn't given up isn't too long

-- A header within a record announces no more than the record has.
within_record : (e1 : List Fragment) (end : Fragment) (x : List ℕ) (e2 : List Fragment) (header more : List ℕ) → AllByRecursion (IsFragment false) e1 → IsFragment true end
    → AllByRecursion (IsFragment false) e2 → length header ≡ 4 → spelled (e1 ++ end ∷ []) ++ x ≡ spelled e2 ++ (header ++ more)
    → length (joined e2) + announced (number_of header) ≤ length (joined (e1 ++ end ∷ []))
within_record [] end x [] header more all_1 is_end all_2 four e =
    let same = same_front end.header header (end.body ++ ([] ++ x)) more (is_end.four ∙ sym four) (sym (append_assoc end.header end.body ([] ++ x)) ∙ sym (first_of end [] x) ∙ e) in
    let count : announced (number_of header) ≡ length end.body = sym (ap (λ (h : List ℕ). announced (number_of h)) same.0) ∙ is_end.whole in
    omega (arith, count, length-append end.body ([]))
within_record [] end x (f ∷ fs) header more all_1 is_end all_2 four e =
    let same = same_fragment end f true false ([] ++ x) (spelled fs ++ (header ++ more)) is_end all_2.0 (sym (first_of end [] x) ∙ e ∙ first_of f fs (header ++ more)) in
    absurd (one_flag f end all_2.0 is_end (sym same.0))
within_record (g ∷ gs) end x [] header more all_1 is_end all_2 four e =
    let rest : List ℕ = spelled (gs ++ end ∷ []) ++ x in
    let same = same_front g.header header (g.body ++ rest) more (all_1.0.four ∙ sym four) (sym (append_assoc g.header g.body rest) ∙ sym (first_of g (gs ++ end ∷ []) x) ∙ e) in
    let count : announced (number_of header) ≡ length g.body = sym (ap (λ (h : List ℕ). announced (number_of h)) same.0) ∙ all_1.0.whole in
    omega (arith, count, length-append g.body (joined (gs ++ end ∷ [])))
within_record (g ∷ gs) end x (f ∷ fs) header more all_1 is_end all_2 four e =
    let same = same_fragment g f false false (spelled (gs ++ end ∷ []) ++ x) (spelled fs ++ (header ++ more)) all_1.0 all_2.0
    (sym (first_of g (gs ++ end ∷ []) x) ∙ e ∙ first_of f fs (header ++ more)) in
    let rest = within_record gs end x fs header more all_1.1 is_end all_2.1 four same.2 in
    omega (arith, rest, ap length same.1, length-append g.body (joined (gs ++ end ∷ [])), length-append f.body (joined fs))

-- A header behind whole fragments, or within them, announces what fits.
within_open : (limit n : ℕ) (e1 : List Fragment) (tail : List ℕ) (e2 : List Fragment) (header more : List ℕ) → AllByRecursion (IsFragment false) e1 → AllByRecursion (IsFragment false) e2
    → IsLess tail → ((h m : List ℕ) → length h ≡ 4 → tail ≡ h ++ m → n + length (joined e1) + announced (number_of h) ≤ limit) → n + length (joined e1) ≤ limit
    → length header ≡ 4 → spelled e1 ++ tail ≡ spelled e2 ++ (header ++ more) → n + length (joined e2) + announced (number_of header) ≤ limit
within_open limit n [] tail [] header more all_1 all_2 less fits room four e = fits header more four e
within_open limit n [] tail (f ∷ fs) header more all_1 all_2 less fits room four e =
    absurd (no_fragment tail f false (spelled fs ++ (header ++ more)) less all_2.0 (e ∙ first_of f fs (header ++ more)))
within_open limit n (g ∷ gs) tail [] header more all_1 all_2 less fits room four e =
    let rest : List ℕ = spelled gs ++ tail in
    let same = same_front g.header header (g.body ++ rest) more (all_1.0.four ∙ sym four) (sym (append_assoc g.header g.body rest) ∙ sym (first_of g gs tail) ∙ e) in
    let count : announced (number_of header) ≡ length g.body = sym (ap (λ (h : List ℕ). announced (number_of h)) same.0) ∙ all_1.0.whole in
    omega (arith, count, room, length-append g.body (joined gs))
within_open limit n (g ∷ gs) tail (f ∷ fs) header more all_1 all_2 less fits room four e =
    let same = same_fragment g f false false (spelled gs ++ tail) (spelled fs ++ (header ++ more)) all_1.0 all_2.0
    (sym (first_of g gs tail) ∙ e ∙ first_of f fs (header ++ more)) in
    let sum : length (joined (g ∷ gs)) ≡ length g.body + length (joined gs) = length-append g.body (joined gs) in
    let rest = within_open limit (n + length g.body) gs tail fs header more all_1.1 all_2.1 less
    (λ h m at_four at. omega (arith, fits h m at_four at, sum)) (omega (arith, room, sum)) four same.2 in
    omega (arith, rest, ap length same.1, length-append f.body (joined fs))

-- Where a header announces too much, a stream isn't held open.
pub not_open : (limit : ℕ) (rs ss : List (List ℕ)) (a b : List ℕ) (e1 e2 : List Fragment) (tail header more : List ℕ) → AreSpellingsOf rs a → AreSpellingsOf ss b
    → AllByRecursion (λ r. length r ≤ limit) rs → AllByRecursion (IsFragment false) e1 → AllByRecursion (IsFragment false) e2
    → length (joined e1) ≤ limit → IsOpen limit (joined e1) tail → length header ≡ 4 → a ++ (spelled e1 ++ tail) ≡ b ++ (spelled e2 ++ (header ++ more))
    → length (joined e2) + announced (number_of header) ≤ limit
not_open limit [] [] a b e1 e2 tail header more is_a is_b short all_1 all_2 room at four e =
    let bytes : spelled e1 ++ tail ≡ spelled e2 ++ (header ++ more) = ap (λ (f : List ℕ). f ++ (spelled e1 ++ tail)) (sym is_a) ∙ e ∙ ap (λ (f : List ℕ). f ++ (spelled e2 ++ (header ++ more))) is_b in
    let bound = within_open limit 0 e1 tail e2 header more all_1 all_2 at.less (λ h m at_four begins. omega (arith, at.fits h m at_four begins)) (omega arith) four bytes in
    omega (arith, bound)
not_open limit [] (s ∷ ss) a b e1 e2 tail header more is_a is_b short all_1 all_2 room at four e =
    let y : List ℕ = spelled e2 ++ (header ++ more) in
    absurd (begins_none e1 tail all_1 at.less s is_b.0 (is_b.1 ++ y) is_b.2
    (ap (λ (f : List ℕ). f ++ (spelled e1 ++ tail)) (sym is_a) ∙ e ∙ ap (λ (f : List ℕ). f ++ y) is_b.4 ∙ append_assoc is_b.0 is_b.1 y))
not_open limit (r ∷ rs) [] a b e1 e2 tail header more is_a is_b short all_1 all_2 room at four e =
    let x : List ℕ = spelled e1 ++ tail in
    let spelling = is_a.2 in
    let bytes : spelled (spelling.earlier ++ spelling.end ∷ []) ++ (is_a.1 ++ x) ≡ spelled e2 ++ (header ++ more) =
    ap (λ (f : List ℕ). f ++ (is_a.1 ++ x)) (sym spelling.whole) ∙ sym (append_assoc is_a.0 is_a.1 x) ∙ ap (λ (f : List ℕ). f ++ x) (sym is_a.4) ∙ e
    ∙ ap (λ (f : List ℕ). f ++ (spelled e2 ++ (header ++ more))) is_b in
    let bound = within_record spelling.earlier spelling.end (is_a.1 ++ x) e2 header more spelling.not_last spelling.last all_2 four bytes in
    omega (arith, bound, ap length spelling.parts, short.0)
not_open limit (r ∷ rs) (s ∷ ss) a b e1 e2 tail header more is_a is_b short all_1 all_2 room at four e =
    let x : List ℕ = spelled e1 ++ tail in
    let y : List ℕ = spelled e2 ++ (header ++ more) in
    let bytes : is_a.0 ++ (is_a.1 ++ x) ≡ is_b.0 ++ (is_b.1 ++ y) =
    sym (append_assoc is_a.0 is_a.1 x) ∙ ap (λ (f : List ℕ). f ++ x) (sym is_a.4) ∙ e ∙ ap (λ (f : List ℕ). f ++ y) is_b.4 ∙ append_assoc is_b.0 is_b.1 y in
    let first = same_spelling r s is_a.0 is_b.0 (is_a.1 ++ x) (is_b.1 ++ y) is_a.2 is_b.2 bytes in
    not_open limit rs ss is_a.1 is_b.1 e1 e2 tail header more is_a.3 is_b.3 short.1 all_1 all_2 room at four first.1

pub after_fits : (stream : List ℕ) (given : List (List ℕ)) (now : RecordsNow) (records : List (List ℕ)) (got : ℕ) → IsAfter stream given now → refusal_of now.phase ≡ None
    → IsTooLong now.limit stream records got → ⊥
after_fits stream given now records got h is long =
    let r = h.reaches in
    let l = long.reaches in
    let at = open_tail now.limit h.before h.tail now.partial now.phase h.stands is in
    let open_here : IsOpen now.limit (joined r.earlier) h.tail = subst (λ (b : List ℕ). IsOpen now.limit b h.tail) r.parts at in
    let bound = not_open now.limit (given ++ now.waiting) records r.front l.front r.earlier l.earlier h.tail long.header long.more r.spellings l.spellings r.within r.not_last l.not_last
    (omega (arith, r.room, ap length r.parts)) open_here long.four (sym r.whole ∙ l.whole) in
    omega (arith, bound, long.sum, long.past, ap length l.parts)

-- ---- One place

-- The first header that announces too much behind some bytes is one.
same_header : (limit n : ℕ) (e1 e2 : List Fragment) (h1 m1 h2 m2 : List ℕ) → AllByRecursion (IsFragment false) e1 → AllByRecursion (IsFragment false) e2
    → length h1 ≡ 4 → length h2 ≡ 4 → n + length (joined e1) ≤ limit → n + length (joined e2) ≤ limit
    → limit < n + length (joined e1) + announced (number_of h1) → limit < n + length (joined e2) + announced (number_of h2)
    → spelled e1 ++ (h1 ++ m1) ≡ spelled e2 ++ (h2 ++ m2)
    → n + length (joined e1) + announced (number_of h1) ≡ n + length (joined e2) + announced (number_of h2)
same_header limit n [] [] h1 m1 h2 m2 all_1 all_2 four_1 four_2 room_1 room_2 past_1 past_2 e =
    let same = same_front h1 h2 m1 m2 (four_1 ∙ sym four_2) e in
    ap (λ (h : List ℕ). n + 0 + announced (number_of h)) same.0
same_header limit n [] (f ∷ fs) h1 m1 h2 m2 all_1 all_2 four_1 four_2 room_1 room_2 past_1 past_2 e =
    let rest : List ℕ = spelled fs ++ (h2 ++ m2) in
    let same = same_front h1 f.header m1 (f.body ++ rest) (four_1 ∙ sym all_2.0.four) (e ∙ first_of f fs (h2 ++ m2) ∙ append_assoc f.header f.body rest) in
    let count : announced (number_of h1) ≡ length f.body = ap (λ (h : List ℕ). announced (number_of h)) same.0 ∙ all_2.0.whole in
    absurd (omega (arith, count, past_1, room_2, length-append f.body (joined fs)))
same_header limit n (g ∷ gs) [] h1 m1 h2 m2 all_1 all_2 four_1 four_2 room_1 room_2 past_1 past_2 e =
    let rest : List ℕ = spelled gs ++ (h1 ++ m1) in
    let same = same_front h2 g.header m2 (g.body ++ rest) (four_2 ∙ sym all_1.0.four) (sym e ∙ first_of g gs (h1 ++ m1) ∙ append_assoc g.header g.body rest) in
    let count : announced (number_of h2) ≡ length g.body = ap (λ (h : List ℕ). announced (number_of h)) same.0 ∙ all_1.0.whole in
    absurd (omega (arith, count, past_2, room_1, length-append g.body (joined gs)))
same_header limit n (g ∷ gs) (f ∷ fs) h1 m1 h2 m2 all_1 all_2 four_1 four_2 room_1 room_2 past_1 past_2 e =
    let same = same_fragment g f false false (spelled gs ++ (h1 ++ m1)) (spelled fs ++ (h2 ++ m2)) all_1.0 all_2.0
    (sym (first_of g gs (h1 ++ m1)) ∙ e ∙ first_of f fs (h2 ++ m2)) in
    let sum_1 : length (joined (g ∷ gs)) ≡ length g.body + length (joined gs) = length-append g.body (joined gs) in
    let sum_2 : length (joined (f ∷ fs)) ≡ length g.body + length (joined fs) = length-append f.body (joined fs) ∙ ap (λ (b : List ℕ). length b + length (joined fs)) (sym same.1) in
    let rest = same_header limit (n + length g.body) gs fs h1 m1 h2 m2 all_1.1 all_2.1 four_1 four_2
    (omega (arith, room_1, sum_1)) (omega (arith, room_2, sum_2)) (omega (arith, past_1, sum_1)) (omega (arith, past_2, sum_2)) same.2 in
    omega (arith, rest, sum_1, sum_2)

-- A whole record that fits isn't where a header announces too much.
not_record : (limit : ℕ) (r front x : List ℕ) (earlier : List Fragment) (header more : List ℕ) → IsSpellingOf r front → length r ≤ limit → AllByRecursion (IsFragment false) earlier
    → length header ≡ 4 → limit < length (joined earlier) + announced (number_of header) → front ++ x ≡ spelled earlier ++ (header ++ more) → ⊥
not_record limit r front x earlier header more spelling short all four past e =
    let bound = within_record spelling.earlier spelling.end x earlier header more spelling.not_last spelling.last all four (ap (λ (f : List ℕ). f ++ x) (sym spelling.whole) ∙ e) in
    omega (arith, bound, ap length spelling.parts, short, past)

same_refusal : (limit : ℕ) (rs ss : List (List ℕ)) (a b : List ℕ) (e1 e2 : List Fragment) (h1 m1 h2 m2 : List ℕ) → AreSpellingsOf rs a → AreSpellingsOf ss b
    → AllByRecursion (λ r. length r ≤ limit) rs → AllByRecursion (λ r. length r ≤ limit) ss
    → AllByRecursion (IsFragment false) e1 → AllByRecursion (IsFragment false) e2 → length h1 ≡ 4 → length h2 ≡ 4 → length (joined e1) ≤ limit → length (joined e2) ≤ limit
    → limit < length (joined e1) + announced (number_of h1) → limit < length (joined e2) + announced (number_of h2)
    → a ++ (spelled e1 ++ (h1 ++ m1)) ≡ b ++ (spelled e2 ++ (h2 ++ m2))
    → (rs ≡ ss) × (length (joined e1) + announced (number_of h1) ≡ length (joined e2) + announced (number_of h2))
same_refusal limit [] [] a b e1 e2 h1 m1 h2 m2 is_a is_b short_1 short_2 all_1 all_2 four_1 four_2 room_1 room_2 past_1 past_2 e =
    let bytes : spelled e1 ++ (h1 ++ m1) ≡ spelled e2 ++ (h2 ++ m2) =
    ap (λ (f : List ℕ). f ++ (spelled e1 ++ (h1 ++ m1))) (sym is_a) ∙ e ∙ ap (λ (f : List ℕ). f ++ (spelled e2 ++ (h2 ++ m2))) is_b in
    let sums = same_header limit 0 e1 e2 h1 m1 h2 m2 all_1 all_2 four_1 four_2 (omega arith) (omega arith) (omega arith) (omega arith) bytes in
    (refl, omega (arith, sums))
same_refusal limit [] (s ∷ ss) a b e1 e2 h1 m1 h2 m2 is_a is_b short_1 short_2 all_1 all_2 four_1 four_2 room_1 room_2 past_1 past_2 e =
    let y : List ℕ = spelled e2 ++ (h2 ++ m2) in
    absurd (not_record limit s is_b.0 (is_b.1 ++ y) e1 h1 m1 is_b.2 short_2.0 all_1 four_1 past_1
    (sym (append_assoc is_b.0 is_b.1 y) ∙ ap (λ (f : List ℕ). f ++ y) (sym is_b.4) ∙ sym e ∙ ap (λ (f : List ℕ). f ++ (spelled e1 ++ (h1 ++ m1))) is_a))
same_refusal limit (r ∷ rs) [] a b e1 e2 h1 m1 h2 m2 is_a is_b short_1 short_2 all_1 all_2 four_1 four_2 room_1 room_2 past_1 past_2 e =
    let x : List ℕ = spelled e1 ++ (h1 ++ m1) in
    absurd (not_record limit r is_a.0 (is_a.1 ++ x) e2 h2 m2 is_a.2 short_1.0 all_2 four_2 past_2
    (sym (append_assoc is_a.0 is_a.1 x) ∙ ap (λ (f : List ℕ). f ++ x) (sym is_a.4) ∙ e ∙ ap (λ (f : List ℕ). f ++ (spelled e2 ++ (h2 ++ m2))) is_b))
same_refusal limit (r ∷ rs) (s ∷ ss) a b e1 e2 h1 m1 h2 m2 is_a is_b short_1 short_2 all_1 all_2 four_1 four_2 room_1 room_2 past_1 past_2 e =
    let x : List ℕ = spelled e1 ++ (h1 ++ m1) in
    let y : List ℕ = spelled e2 ++ (h2 ++ m2) in
    let bytes : is_a.0 ++ (is_a.1 ++ x) ≡ is_b.0 ++ (is_b.1 ++ y) =
    sym (append_assoc is_a.0 is_a.1 x) ∙ ap (λ (f : List ℕ). f ++ x) (sym is_a.4) ∙ e ∙ ap (λ (f : List ℕ). f ++ y) is_b.4 ∙ append_assoc is_b.0 is_b.1 y in
    let first = same_spelling r s is_a.0 is_b.0 (is_a.1 ++ x) (is_b.1 ++ y) is_a.2 is_b.2 bytes in
    let others = same_refusal limit rs ss is_a.1 is_b.1 e1 e2 h1 m1 h2 m2 is_a.3 is_b.3 short_1.1 short_2.1 all_1 all_2 four_1 four_2 room_1 room_2 past_1 past_2 first.1 in
    (ap (λ (z : List ℕ). z ∷ rs) first.0 ∙ ap (λ (zs : List (List ℕ)). s ∷ zs) others.0, others.1)

pub one_refusal : (limit : ℕ) (stream : List ℕ) (rs ss : List (List ℕ)) (m n : ℕ) → IsTooLong limit stream rs m → IsTooLong limit stream ss n → (rs ≡ ss) × (m ≡ n)
one_refusal limit stream rs ss m n a b =
    let r = a.reaches in
    let s = b.reaches in
    let before_1 = ap length r.parts in
    let before_2 = ap length s.parts in
    let same = same_refusal limit rs ss r.front s.front r.earlier s.earlier a.header a.more b.header b.more r.spellings s.spellings r.within s.within r.not_last s.not_last a.four b.four
    (omega (arith, r.room, before_1)) (omega (arith, s.room, before_2)) (omega (arith, a.past, a.sum, before_1)) (omega (arith, b.past, b.sum, before_2)) (sym r.whole ∙ s.whole) in
    (same.0, omega (arith, same.1, a.sum, b.sum, before_1, before_2))
