-- The reading of results, and the bytes that are results, belong together.
use Rattle.std.proofs.Common.{◌≡◌, ℕ, zero, suc, ◌-◌, ◌*◌, ◌^◌, ◌≤◌, ◌<◌, true, List, [], ◌∷◌, ◌++◌, length, Option, Some, None, Result, Ok, refl, sym, ap, subst, ◌∙◌, append_assoc, arith}
use Rattle.std.proofs.lemmas.Bool.Decides.{nat_tests}
use Rattle.std.proofs.lemmas.List.{append-nil, length-append}
use Rattle.nm_xdr.specs.Fields.{enum, Fault, Reading, ◌>>=◌, field, made, rows_at, ended, all_of, IsBytes, IsItem}
use Rattle.nm_xdr.specs.Items.{word, opaque, counted_at}
use Rattle.nm_xdr.proofs.FieldLaws.{IsBytes-behind, bind_ok, same_value, tested_item}
use Rattle.nm_xdr.proofs.ByteLaws.{bytes_item}
use Rattle.nm_xdr.proofs.ItemLaws.{word_item, length_item}
use Rattle.nm_types.specs.declared.status.OpStatus.{OpStatus}
use Rattle.nm_types.specs.Statuses.{number_of}
use Rattle.nm_results.specs.declared.arms.Arm.{Arm}
use Rattle.nm_results.specs.declared.values.ResultValue.{ResultValue}
use Rattle.nm_results.specs.declared.values.OpResult.{OpResult}
use Rattle.nm_results.specs.declared.values.Results.{Results}
use Rattle.nm_results.specs.Arms.{is_op, arm_of}
use Rattle.nm_results.specs.Values.{arm_with, value_at}
use Rattle.nm_results.specs.Results.{op_at, status_at, judged, arm_at, result_at, items_at, results_at, results_of, IsResult, AreRows, IsResults}
use Rattle.nm_results.proofs.PartLaws.{word_length}
use Rattle.nm_results.proofs.StatusLaws.{status_item}
use Rattle.nm_results.proofs.ValueLaws.{value_found, value_again}

-- ---- A field that was read

-- its value, what is left, and what came of that
record Taken {A Y : Type 0} (spell : A → List ℕ) (Fits : A → Type 0) (more : A → Reading Y) (bytes : List ℕ) (y : Y) (rest : List ℕ) : Type 0 where
  value : A
  after : List ℕ
  fits : Fits value
  spelled : bytes ≡ spell value ++ after
  are_bytes : IsBytes after
  went : more value after ≡ Ok (y, rest)

taken : {A Y : Type 0} {read : Reading A} {spell : A → List ℕ} {Fits : A → Type 0} → IsItem read spell Fits
    → (more : A → Reading Y) (bytes : List ℕ) (y : Y) (rest : List ℕ) → IsBytes bytes → field read more bytes ≡ Ok (y, rest) → Taken spell Fits more bytes y rest
taken {A} {Y} {read} {spell} {Fits} item more bytes y rest fits e =
    let b = bind_ok (read bytes) (λ (x : A × List ℕ). more x.0 x.1) (y, rest) e in
    let p = item.found bytes b.0.0 b.0.1 fits b.1 in
    record {
      value = b.0.0;
      after = b.0.1;
      fits = p.1;
      spelled = p.0;
      are_bytes = IsBytes-behind (spell b.0.0) b.0.1 (subst IsBytes p.0 fits);
      went = b.2;
    }

-- A field that is spelled is read, and what comes after it.
pub given : {A Y : Type 0} {read : Reading A} {spell : A → List ℕ} {Fits : A → Type 0} → IsItem read spell Fits
    → (more : A → Reading Y) (x : A) (rest : List ℕ) → Fits x → field read more (spell x ++ rest) ≡ more x rest
given {A} {Y} {read} {spell} {Fits} item more x rest fits = ap (λ (r : Result (A × List ℕ) Fault). r >>= λ a. more a.0 a.1) (item.again x rest fits)

-- ---- One result

op_item : IsItem op_at word (λ n. (n < 2 ^ 32) × (is_op n ≡ true))
unfolding op_at
op_item = tested_item is_op enum word_item

judged_found : (o : Option Arm) (s : OpStatus) (bytes after : List ℕ) (p : OpStatus × Arm) (rest : List ℕ) → judged o s bytes after ≡ Ok (p, rest)
    → (o ≡ Some p.1) × (s ≡ p.0) × (after ≡ rest)
judged_found None s bytes after p rest e = absurd cc
judged_found (Some a) s bytes after p rest e =
    let same = same_value (s, a) p after rest e in
    (ap (λ (q : OpStatus × Arm). Some q.1) same.0, ap (λ (q : OpStatus × Arm). q.0) same.0, same.1)

arm_item : (op : ℕ) → IsItem (arm_at op) (λ p. word (number_of p.0)) (λ p. arm_of op p.0 ≡ Some p.1)
unfolding arm_at
arm_item op = record {
  found = λ bytes p rest fits e.
      let b = bind_ok (status_at bytes) (λ (s : OpStatus × List ℕ). judged (arm_of op s.0) s.0 bytes s.1) (p, rest) e in
      let first = status_item.found bytes b.0.0 b.0.1 fits b.1 in
      let q = judged_found (arm_of op b.0.0) b.0.0 bytes b.0.1 p rest b.2 in
      (first.0 ∙ ap (λ (s : OpStatus). word (number_of s) ++ b.0.1) q.1 ∙ ap (λ (r : List ℕ). word (number_of p.0) ++ r) q.2, ap (arm_of op) (sym q.1) ∙ q.0);
  again = λ p rest fits. rw (status_item.again p.0 rest tt, fits) refl;
}

-- what was read of one result
abbrev Found : List ℕ → OpResult → List ℕ → Type 0
Found bytes r rest = (front : List ℕ) × (bytes ≡ front ++ rest) × IsResult r front

together : (a b c rest : List ℕ) → a ++ (b ++ (c ++ rest)) ≡ (a ++ (b ++ c)) ++ rest
together a b c rest = ap (λ (r : List ℕ). a ++ r) (sym (append_assoc b c rest)) ∙ sym (append_assoc a (b ++ c) rest)

result_found : (bytes : List ℕ) (r : OpResult) (rest : List ℕ) → IsBytes bytes → result_at bytes ≡ Ok (r, rest) → Found bytes r rest
unfolding result_at
result_found bytes r rest fits e =
    let o = taken op_item _ bytes r rest fits e in
    let s = taken (arm_item o.value) _ o.after r rest o.are_bytes o.went in
    let b = bind_ok (value_at s.value.1 s.after) (λ (x : ResultValue × List ℕ). made (record { op = o.value; status = s.value.0; value = x.0 }) x.1) (r, rest) s.went in
    let v = value_found s.value.1 s.after b.0.0 b.0.1 s.are_bytes b.1 in
    let same = same_value (record { op = o.value; status = s.value.0; value = b.0.0 }) r b.0.1 rest b.2 in
    let front : List ℕ = word o.value ++ (word (number_of s.value.0) ++ v.0) in
    let is : IsResult (record { op = o.value; status = s.value.0; value = b.0.0 }) front =
    record { op = o.fits.1; arm = s.fits ∙ ap (λ (a : Arm). Some a) (sym v.3); body = v.0; value = v.2; spelled = refl } in
    let whole_is : bytes ≡ front ++ rest =
    o.spelled ∙ ap (λ (b : List ℕ). word o.value ++ b) (s.spelled ∙ ap (λ (b : List ℕ). word (number_of s.value.0) ++ b) (v.1 ∙ ap (λ (b : List ℕ). v.0 ++ b) same.1))
    ∙ together (word o.value) (word (number_of s.value.0)) v.0 rest in
    (front, whole_is, subst (λ (x : OpResult). IsResult x front) same.0 is)

-- an operation's number is a word
op_small : (n : ℕ) → is_op n ≡ true → n < 2 ^ 32
unfolding is_op
op_small n e = grind (arith, nat_tests)

result_again : (r : OpResult) (front rest : List ℕ) → IsResult r front → result_at (front ++ rest) ≡ Ok (r, rest)
unfolding result_at
result_again r front rest is =
    let a : List ℕ = word r.op in
    let b : List ℕ = word (number_of r.status) in
    let whole_is : front ++ rest ≡ a ++ (b ++ (is.body ++ rest)) = ap (λ (f : List ℕ). f ++ rest) is.spelled ∙ sym (together a b is.body rest) in
    ap (λ (z : List ℕ). result_at z) whole_is
    ∙ given op_item _ r.op (b ++ (is.body ++ rest)) (op_small r.op is.op, is.op)
    ∙ given (arm_item r.op) _ (r.status, arm_with r.value) (is.body ++ rest) is.arm
    ∙ ap (λ (x : Result (ResultValue × List ℕ) Fault). x >>= λ v. made (record { op = r.op; status = r.status; value = v.0 }) v.1) (value_again r.value is.body rest is.value)

-- ---- Rows

abbrev FoundRows : ℕ → List OpResult → List ℕ → List OpResult → List ℕ → Type 0
FoundRows count earlier bytes rs rest =
    (more : List OpResult) × (rows : List ℕ) × (rs ≡ earlier ++ more) × (length more ≡ count) × (bytes ≡ rows ++ rest) × AreRows more rows

each_found : (count : ℕ) (earlier : List OpResult) (bytes : List ℕ) (rs : List OpResult) (rest : List ℕ) → IsBytes bytes
    → rows_at (λ _. result_at) count earlier bytes ≡ Ok (rs, rest) → FoundRows count earlier bytes rs rest
unfolding rows_at
each_found zero earlier bytes rs rest fits e =
    let same = same_value earlier rs bytes rest e in
    ([], [], sym same.0 ∙ sym (append-nil earlier), refl, same.1, refl)
each_found (suc count) earlier bytes rs rest fits e =
    let b = bind_ok (result_at bytes) (λ (x : OpResult × List ℕ). rows_at (λ _. result_at) count (earlier ++ x.0 ∷ []) x.1) (rs, rest) e in
    let first = result_found bytes b.0.0 b.0.1 fits b.1 in
    let behind : IsBytes b.0.1 = IsBytes-behind first.0 b.0.1 (subst IsBytes first.1 fits) in
    let others = each_found count (earlier ++ b.0.0 ∷ []) b.0.1 rs rest behind b.2 in (
      b.0.0 ∷ others.0,
      first.0 ++ others.1,
      others.2 ∙ append_assoc earlier (b.0.0 ∷ []) others.0,
      ap suc others.3,
      first.1 ∙ ap (λ (r : List ℕ). first.0 ++ r) others.4 ∙ sym (append_assoc first.0 others.1 rest),
      (first.0, others.1, first.2, others.5, refl),
    )

pub each_again : (more earlier : List OpResult) (rows rest : List ℕ) → AreRows more rows
    → rows_at (λ _. result_at) (length more) earlier (rows ++ rest) ≡ Ok (earlier ++ more, rest)
unfolding rows_at
each_again [] earlier rows rest are =
    ap (λ (b : List ℕ). made earlier (b ++ rest)) are ∙ ap (λ (rs : List OpResult). Ok (rs, rest)) (sym (append-nil earlier))
each_again (r ∷ more) earlier rows rest are =
    let whole_is : rows ++ rest ≡ are.0 ++ (are.1 ++ rest) = ap (λ (b : List ℕ). b ++ rest) are.4 ∙ append_assoc are.0 are.1 rest in
    let first : result_at (rows ++ rest) ≡ Ok (r, are.1 ++ rest) = ap result_at whole_is ∙ result_again r are.0 (are.1 ++ rest) are.2 in
    ap (λ (x : Result (OpResult × List ℕ) Fault). x >>= λ v. rows_at (λ _. result_at) (length more) (earlier ++ v.0 ∷ []) v.1) first
    ∙ each_again more (earlier ++ r ∷ []) are.1 rest are.3
    ∙ ap (λ (rs : List OpResult). Ok (rs, rest)) (append_assoc earlier (r ∷ []) more)

-- ---- All of it

pub apart : (a b c d rest : List ℕ) → (a ++ (b ++ (c ++ d))) ++ rest ≡ a ++ (b ++ (c ++ (d ++ rest)))
apart a b c d rest =
    append_assoc a (b ++ (c ++ d)) rest ∙ ap (λ (r : List ℕ). a ++ r) (append_assoc b (c ++ d) rest ∙ ap (λ (r : List ℕ). b ++ r) (append_assoc c d rest))

whole_found : (bytes : List ℕ) (v : Results) (rest : List ℕ) → IsBytes bytes → results_at bytes ≡ Ok (v, rest)
    → (front : List ℕ) × (bytes ≡ front ++ rest) × IsResults v front
unfolding results_at items_at counted_at
whole_found bytes v rest fits e =
    let s = taken status_item _ bytes v rest fits e in
    let t = taken (bytes_item 1024 (omega arith)) _ s.after v rest s.are_bytes s.went in
    let i = bind_ok (items_at t.after) (λ (x : List OpResult × List ℕ). made (record { status = s.value; tag = t.value; items = x.0 }) x.1) (v, rest) t.went in
    let n = taken (length_item (2 ^ 32 - 1) (omega arith)) _ t.after i.0.0 i.0.1 t.are_bytes i.1 in
    let p = each_found n.value [] n.after i.0.0 i.0.1 n.are_bytes n.went in
    let same = same_value (record { status = s.value; tag = t.value; items = i.0.0 }) v i.0.1 rest i.2 in
    let many : length i.0.0 ≡ n.value = ap length p.2 ∙ p.3 in
    let front : List ℕ = word (number_of s.value) ++ (opaque t.value ++ (word (length i.0.0) ++ p.1)) in
    let is : IsResults (record { status = s.value; tag = t.value; items = i.0.0 }) front =
    record { tag = t.fits; count = omega (arith, many, n.fits); rows = p.1; each = subst (λ (rs : List OpResult). AreRows rs p.1) (sym p.2) p.5; spelled = refl } in
    let counted_is : t.after ≡ word (length i.0.0) ++ (p.1 ++ rest) =
    n.spelled ∙ ap (λ (k : ℕ). word k ++ n.after) (sym many) ∙ ap (λ (b : List ℕ). word (length i.0.0) ++ b) (p.4 ∙ ap (λ (b : List ℕ). p.1 ++ b) same.1) in
    let whole_is : bytes ≡ front ++ rest =
    s.spelled ∙ ap (λ (b : List ℕ). word (number_of s.value) ++ b) (t.spelled ∙ ap (λ (b : List ℕ). opaque t.value ++ b) counted_is)
    ∙ sym (apart (word (number_of s.value)) (opaque t.value) (word (length i.0.0)) p.1 rest) in
    (front, whole_is, subst (λ (x : Results). IsResults x front) same.0 is)

whole_again : (v : Results) (front rest : List ℕ) → IsResults v front → results_at (front ++ rest) ≡ Ok (v, rest)
unfolding results_at items_at counted_at
whole_again v front rest is =
    let a : List ℕ = word (number_of v.status) in
    let b : List ℕ = opaque v.tag in
    let c : List ℕ = word (length v.items) in
    ap (λ (f : List ℕ). results_at (f ++ rest)) is.spelled ∙ ap results_at (apart a b c is.rows rest)
    ∙ given status_item _ v.status (b ++ (c ++ (is.rows ++ rest))) tt
    ∙ given (bytes_item 1024 (omega arith)) _ v.tag (c ++ (is.rows ++ rest)) is.tag
    ∙ ap (λ (x : Result (List OpResult × List ℕ) Fault). x >>= λ i. made (record { status = v.status; tag = v.tag; items = i.0 }) i.1)
    (given (length_item (2 ^ 32 - 1) (omega arith)) (λ (n : ℕ). rows_at (λ _. result_at) n []) (length v.items) (is.rows ++ rest) (omega (arith, is.count)) ∙ each_again v.items [] is.rows rest is.each)

-- Where nothing was left over, nothing was.
nothing_left : {X : Type 0} (x y : X) (rest : List ℕ) → ended x rest ≡ Ok y → (x ≡ y) × (rest ≡ [])
nothing_left x y [] e = (cc, refl)
nothing_left x y (b ∷ rest) e = absurd cc

-- What is read of bytes is what they are.
pub results_found : (v : Results) (bytes : List ℕ) → IsBytes bytes → results_of bytes ≡ Ok v → IsResults v bytes
unfolding results_of
results_found v bytes fits e =
    let b = bind_ok (results_at bytes) (λ (x : Results × List ℕ). ended x.0 x.1) v e in
    let p = whole_found bytes b.0.0 b.0.1 fits b.1 in
    let q = nothing_left b.0.0 v b.0.1 b.2 in
    let all_is : bytes ≡ p.0 = p.1 ∙ ap (λ (r : List ℕ). p.0 ++ r) q.1 ∙ append-nil p.0 in
    subst (λ (x : Results). IsResults x bytes) q.0 (subst (IsResults b.0.0) (sym all_is) p.2)

-- Bytes that are results are read as these.
pub results_again : (v : Results) (bytes : List ℕ) → IsResults v bytes → results_of bytes ≡ Ok v
unfolding results_of
results_again v bytes is =
    ap (λ (b : List ℕ). all_of results_at b) (sym (append-nil bytes))
    ∙ ap (λ (r : Result (Results × List ℕ) Fault). r >>= λ x. ended x.0 x.1) (whole_again v bytes [] is)

-- ---- How many results there are

result_long : (r : OpResult) (bytes : List ℕ) → IsResult r bytes → 8 ≤ length bytes
result_long r bytes is =
    omega (arith, ap length is.spelled, length-append (word r.op) (word (number_of r.status) ++ is.body), length-append (word (number_of r.status)) is.body, word_length r.op, word_length (number_of r.status))

rows_long : (rs : List OpResult) (bytes : List ℕ) → AreRows rs bytes → 8 * length rs ≤ length bytes
rows_long [] bytes are = omega arith
rows_long (r ∷ rs) bytes are = omega (arith, ap length are.4, length-append are.0 are.1, result_long r are.0 are.2, rows_long rs are.1 are.3)

-- Of each result that is read there are eight bytes.
pub results_few : (bytes : List ℕ) (v : Results) → IsBytes bytes → results_of bytes ≡ Ok v → 8 * length v.items ≤ length bytes
results_few bytes v fits e =
    let is = results_found v bytes fits e in
    omega (arith, ap length is.spelled, length-append (word (number_of v.status)) (opaque v.tag ++ (word (length v.items) ++ is.rows)), length-append (opaque v.tag) (word (length v.items) ++ is.rows), length-append (word (length v.items)) is.rows, rows_long v.items is.rows is.each)
