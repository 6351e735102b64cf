-- The place of a result, and where its bytes stand, belong together.
use Rattle.std.proofs.Common.{◌≡◌, ℕ, zero, suc, ◌+◌, ◌-◌, ◌^◌, ◌≤◌, ◌<◌, Bool, true, false, ltb, List, [], ◌∷◌, ◌++◌, length, take, drop, Some, None, Result, Ok, refl, sym, ap, ◌∙◌, append_assoc, arith}
use Rattle.std.proofs.lemmas.Bool.{ltb-true, ltb-false}
use Rattle.std.proofs.lemmas.List.{length-append, length-take-le}
use Rattle.nm_xdr.specs.Fields.{Fault, ◌>>=◌, made, rows_at}
use Rattle.nm_xdr.specs.Items.{word, opaque}
use Rattle.nm_xdr.proofs.ByteLaws.{bytes_item}
use Rattle.nm_xdr.proofs.ItemLaws.{length_item}
use Rattle.nm_types.specs.Statuses.{number_of}
use Rattle.nm_results.specs.declared.values.OpResult.{OpResult}
use Rattle.nm_results.specs.declared.values.Results.{Results}
use Rattle.nm_results.specs.Results.{result_at, AreRows, IsResults}
use Rattle.nm_results.specs.ResultPlaces.{earlier_at, before_at, gone, place_of_result, front_of, BeginsAt}
use Rattle.nm_results.proofs.StatusLaws.{status_item}
use Rattle.nm_results.proofs.ResultLaws.{given, each_again, apart}

-- Of an input of so many bytes the last ones are left.
pub told : (total place : ℕ) (rest : List ℕ) → place + length rest ≡ total → Some (total - length rest) ≡ Some place
told total place rest e = ap (λ (n : ℕ). Some n) (omega (arith, e))

-- The bytes of rows, apart at one of them.
abbrev Apart : ℕ → List OpResult → List ℕ → Type 0
Apart i rs bytes = (front : List ℕ) × (back : List ℕ) × AreRows (take i rs) front × AreRows (drop i rs) back × (bytes ≡ front ++ back)

rows_apart : (i : ℕ) (rs : List OpResult) (bytes : List ℕ) → AreRows rs bytes → Apart i rs bytes
rows_apart zero rs bytes are = ([], bytes, refl, are, refl)
rows_apart (suc i) [] bytes are = ([], bytes, refl, are, refl)
rows_apart (suc i) (r ∷ rs) bytes are =
    let p = rows_apart i rs are.1 are.3 in
    (are.0 ++ p.0, p.1, (are.0, p.0, are.2, p.2, refl), p.3, are.4 ∙ ap (λ (b : List ℕ). are.0 ++ b) p.4 ∙ sym (append_assoc are.0 p.0 p.1))

pub begins : (v : Results) (bytes : List ℕ) (index : ℕ) → IsResults v bytes → index ≤ length v.items → (place : ℕ) × BeginsAt v index place bytes
begins v bytes index is le =
    let p = rows_apart index v.items is.rows is.each in (
      length (front_of v p.0),
      record {
        tag = is.tag;
        count = is.count;
        within = le;
        earlier = p.0;
        further = p.1;
        before = p.2;
        behind = p.3;
        spelled =
            is.spelled ∙ ap (λ (b : List ℕ). word (number_of v.status) ++ (opaque v.tag ++ (word (length v.items) ++ b))) p.4
            ∙ sym (apart (word (number_of v.status)) (opaque v.tag) (word (length v.items)) p.0 p.1);
        long = refl;
      },
    )

-- What is read of the front, up to the rows.
head_read : (v : Results) (index : ℕ) (rows : List ℕ) → length v.tag ≤ 1024 → length v.items < 2 ^ 32
    → before_at index (word (number_of v.status) ++ (opaque v.tag ++ (word (length v.items) ++ rows))) ≡ earlier_at index (length v.items) rows
unfolding before_at
head_read v index rows tag count =
    let b : List ℕ = opaque v.tag in
    let c : List ℕ = word (length v.items) in
    given status_item _ v.status (b ++ (c ++ rows)) tt
    ∙ given (bytes_item 1024 (omega arith)) _ v.tag (c ++ rows) tag
    ∙ given (length_item (2 ^ 32 - 1) (omega arith)) (earlier_at index) (length v.items) rows (omega (arith, count))

-- the rows in front, by whether they are announced
earlier_read : (t : Bool) (index count : ℕ) (front rest : List ℕ) (rs : List OpResult) → ltb count index ≡ t → index ≤ count → length rs ≡ index → AreRows rs front
    → earlier_at index count (front ++ rest) ≡ Ok (true, rest)
unfolding earlier_at
earlier_read true index count front rest rs e le long are = absurd (omega (arith, ltb-true count index e, le))
earlier_read false index count front rest rs e le long are =
    let rows_read : rows_at (λ _. result_at) index [] (front ++ rest) ≡ Ok (rs, rest) =
    ap (λ (n : ℕ). rows_at (λ _. result_at) n [] (front ++ rest)) (sym long) ∙ each_again rs [] front rest are in
    rw e (ap (λ (r : Result (List OpResult × List ℕ) Fault). r >>= λ x. made true x.1) rows_read)

none_read : (t : Bool) (index count : ℕ) (bytes : List ℕ) → ltb count index ≡ t → count < index → earlier_at index count bytes ≡ Ok (false, bytes)
unfolding earlier_at
none_read true index count bytes e lt = rw e refl
none_read false index count bytes e lt = absurd (omega (arith, ltb-false count index e, lt))

pub place_found : (v : Results) (bytes : List ℕ) (index place : ℕ) → BeginsAt v index place bytes → place_of_result index bytes ≡ Some place
unfolding place_of_result
place_found v bytes index place at =
    let a : List ℕ = word (number_of v.status) in
    let b : List ℕ = opaque v.tag in
    let c : List ℕ = word (length v.items) in
    let many : length (take index v.items) ≡ index = length-take-le index v.items at.within in
    let read : before_at index bytes ≡ Ok (true, at.further) =
    ap (before_at index) (at.spelled ∙ apart a b c at.earlier at.further) ∙ head_read v index (at.earlier ++ at.further) at.tag at.count
    ∙ earlier_read (ltb (length v.items) index) index (length v.items) at.earlier at.further (take index v.items) refl at.within many at.before in
    ap (gone (length bytes)) read
    ∙ told (length bytes) place at.further (omega (arith, at.long, ap length at.spelled, length-append (front_of v at.earlier) at.further))

pub none_found : (v : Results) (bytes : List ℕ) (index : ℕ) → IsResults v bytes → length v.items < index → place_of_result index bytes ≡ None
unfolding place_of_result
none_found v bytes index is lt =
    let read : before_at index bytes ≡ Ok (false, is.rows) =
    ap (before_at index) is.spelled ∙ head_read v index is.rows is.tag is.count
    ∙ none_read (ltb (length v.items) index) index (length v.items) is.rows refl lt in
    ap (gone (length bytes)) read
