-- Records that are spelled one after the other are given again.
use Rattle.std.proofs.Common.{◌≡◌, ℕ, ◌≤◌, List, [], ◌++◌, length, Option, Some, None, refl, sym, ap, ◌∙◌, arith}
use Rattle.std.specs.List.{AllByRecursion}
use Rattle.std.proofs.lemmas.List.{append-nil, length-append}
use Rattle.nm_rpc.specs.Stream.{AreSpellingsOf, Splits, IsTooLong}
use Rattle.nm_rpc.specs.Feeding.{RecordsNow, fresh, fed, refusal_of}
use Rattle.nm_rpc.proofs.RunLaws.{IsLess, begins_none, one_splitting}
use Rattle.nm_rpc.proofs.LimitLaws.{IsOpen, not_open}
use Rattle.nm_rpc.proofs.WholeLaws.{whole_splits, whole_refused}

-- Where nothing comes, no fragment begins.
nothing_less : IsLess []
nothing_less = record { none = λ header body more four whole e. omega (arith, four, ap length e, length-append header (body ++ more)) }

-- Records that all fit aren't too long.
records_fit : (limit : ℕ) (bytes : List ℕ) (records others : List (List ℕ)) (got : ℕ) → AreSpellingsOf records bytes → AllByRecursion (λ r. length r ≤ limit) records
    → IsTooLong limit bytes others got → ⊥
records_fit limit bytes records others got spellings short long =
    let l = long.reaches in
    let nothing : IsOpen limit [] [] = record { less = nothing_less; fits = λ header more four e. absurd (omega (arith, four, ap length e, length-append header more)) } in
    let bound = not_open limit records others bytes l.front [] l.earlier [] long.header long.more spellings l.spellings short tt l.not_last (omega arith) nothing long.four
    (append-nil bytes ∙ l.whole) in
    omega (arith, bound, long.sum, long.past, ap length l.parts)

given_again : (limit : ℕ) (bytes : List ℕ) (records : List (List ℕ)) (now : RecordsNow) (o : Option ℕ) → now ≡ fed (fresh limit) bytes → refusal_of now.phase ≡ o
    → AreSpellingsOf records bytes → AllByRecursion (λ r. length r ≤ limit) records → (now.waiting ≡ records) × (refusal_of now.phase ≡ None)
given_again limit bytes records now None e is spellings short =
    let found = whole_splits limit bytes now e is in
    let split : Splits bytes records [] = record { front = bytes; spellings = spellings; whole = sym (append-nil bytes); less = begins_none [] [] tt nothing_less } in
    ((one_splitting bytes now.waiting records found.0 [] found.1 split).0, is)
given_again limit bytes records now (Some got) e is spellings short =
    let long = whole_refused limit bytes now got e is in
    absurd (records_fit limit bytes records long.0 got spellings short long.1)

pub written_again : (limit : ℕ) (records : List (List ℕ)) (bytes : List ℕ) → AreSpellingsOf records bytes → AllByRecursion (λ r. length r ≤ limit) records
    → ((fed (fresh limit) bytes).waiting ≡ records) × (refusal_of (fed (fresh limit) bytes).phase ≡ None)
written_again limit records bytes spellings short = given_again limit bytes records (fed (fresh limit) bytes) (refusal_of (fed (fresh limit) bytes).phase) refl refl spellings short
