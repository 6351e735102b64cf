-- The whole of a compound: its tag, its minor version, its count, and what they are judged by.
use Rattle.std.proofs.Common.{◌≡◌, ◌≢◌, ℕ, ◌*◌, ◌^◌, ◌≤◌, ◌<◌, Bool, true, false, not, cond, eqb, ltb, List, [], ◌∷◌, ◌++◌, length, Result, Ok, Err, refl, sym, ap, subst, ◌∙◌, append_assoc, arith}
use Rattle.std.specs.List.{flat_map, AllByRecursion}
use Rattle.std.proofs.lemmas.Bool.{eqb-true, eqb-false, ne_eqb, ltb-true, ltb-false, lt-ltb, le-ltb}
use Rattle.std.proofs.lemmas.List.{length-append}
use Rattle.std.proofs.lemmas.List.Elements.{All-from_recursion, recursion_from_All}
use Rattle.nm_xdr.specs.Fields.{Fault, ◌>>=◌, IsBytes}
use Rattle.nm_xdr.specs.Items.{word, opaque, word_at}
use Rattle.nm_xdr.proofs.FieldLaws.{bind_ok, IsBytes-behind}
use Rattle.nm_xdr.proofs.ItemLaws.{word_item}
use Rattle.nm_args.specs.declared.op.Op.{Op}
use Rattle.nm_args.specs.declared.compound.Compound.{Compound}
use Rattle.nm_args.specs.declared.compound.CompoundEnd.{CompoundEnd}
use Rattle.nm_args.specs.declared.compound.CompoundEnd.TheVariants.{Clean, Minor, TooMany, BadXdr, Illegal}
use Rattle.nm_args.specs.Parts.{text_at}
use Rattle.nm_args.specs.Operations.{number_of, code_of, args, IsOp, operation}
use Rattle.nm_args.specs.Compounds.{compound, CanBeWritten, ops_at, with_ops, judged, compound_of, IsBehind, EndsAfter, HasEnd, IsCompound}
use Rattle.nm_args.proofs.PartItems.{text_item}
use Rattle.nm_args.proofs.CompoundLaws.{AreOps, ops_found, ops_again}

-- ---- What is judged

-- a compound with these operations
with_ops_found : (tag : List ℕ) (minor : ℕ) (r : Result (List Op × CompoundEnd) Fault) (c : Compound) → with_ops tag minor r ≡ Ok c
    → (tag ≡ c.tag) × (minor ≡ c.minor) × (r ≡ Ok (c.ops, c.end))
with_ops_found tag minor (Ok x) c e =
    let same : record { tag = tag; minor = minor; ops = x.0; end = x.1 } ≡ c = cc in
    (ap (λ (d : Compound). d.tag) same, ap (λ (d : Compound). d.minor) same, ap (λ (d : Compound). Ok (d.ops, d.end)) same)
with_ops_found tag minor (Err f) c e = absurd cc

-- The ops and the end of a compound that was read of so many operations.
after_of : (c : Compound) (count : ℕ) (bytes : List ℕ) → c.minor ≡ 0 → count ≤ 64 → AreOps count [] bytes c.ops c.end → EndsAfter c count bytes
after_of c count bytes zero_minor few a = record {
  minor = zero_minor;
  few = few;
  behind = a.behind;
  spelled = a.spelled ∙ ap (λ (ops : List Op). flat_map operation ops ++ a.behind) (sym a.same);
  fits = All-from_recursion IsOp c.ops (subst (AllByRecursion IsOp) (sym a.same) a.fits);
  ends = subst (λ (ops : List Op). IsBehind c.end count (length ops) a.behind) (sym a.same) a.ends;
}

-- a compound that isn't refused by its minor version or its count ends in one of three ways
by_end : (end : CompoundEnd) (c : Compound) (count : ℕ) (bytes : List ℕ) (read : ℕ) (behind : List ℕ) → IsBehind end count read behind → EndsAfter c count bytes
    → HasEnd end c count bytes
by_end Clean c count bytes read behind h a = a
by_end Minor c count bytes read behind h a = absurd h
by_end (TooMany n) c count bytes read behind h a = absurd h
by_end (BadXdr n) c count bytes read behind h a = a
by_end (Illegal n) c count bytes read behind h a = a

judged_found : (tag : List ℕ) (minor count : ℕ) (bytes : List ℕ) (c : Compound) → IsBytes bytes → judged tag minor count bytes ≡ Ok c
    → (tag ≡ c.tag) × (minor ≡ c.minor) × HasEnd c.end c count bytes
judged_found tag minor count bytes c fits e = by_tests (eqb minor 0) (ltb 64 count) refl refl e
  where
    by_tests : (z many : Bool) → eqb minor 0 ≡ z → ltb 64 count ≡ many
        → cond (not z) (with_ops tag minor (Ok ([], Minor))) (cond many (with_ops tag minor (Ok ([], TooMany count))) (with_ops tag minor (ops_at count [] bytes))) ≡ Ok c
        → (tag ≡ c.tag) × (minor ≡ c.minor) × HasEnd c.end c count bytes
    by_tests false many z m h =
        let p = with_ops_found tag minor (Ok ([], Minor)) c h in
        let both : ([], Minor) ≡ (c.ops, c.end) = cc in
        let ops_none : [] ≡ c.ops = ap (λ (x : List Op × CompoundEnd). x.0) both in
        let end_is : Minor ≡ c.end = ap (λ (x : List Op × CompoundEnd). x.1) both in
        let other : c.minor ≢ 0 = λ same. absurd (eqb-false minor 0 z (p.1 ∙ same)) in
        (p.0, p.1, subst (λ (x : CompoundEnd). HasEnd x c count bytes) end_is (other, sym ops_none))
    by_tests true true z m h =
        let p = with_ops_found tag minor (Ok ([], TooMany count)) c h in
        let both : ([], TooMany count) ≡ (c.ops, c.end) = cc in
        let ops_none : [] ≡ c.ops = ap (λ (x : List Op × CompoundEnd). x.0) both in
        let end_is : TooMany count ≡ c.end = ap (λ (x : List Op × CompoundEnd). x.1) both in
        (p.0, p.1, subst (λ (x : CompoundEnd). HasEnd x c count bytes) end_is (sym p.1 ∙ eqb-true minor 0 z, ltb-true 64 count m, refl, sym ops_none))
    by_tests true false z m h =
        let p = with_ops_found tag minor (ops_at count [] bytes) c h in
        let a = ops_found count [] bytes c.ops c.end fits p.2 in
        let after = after_of c count bytes (sym p.1 ∙ eqb-true minor 0 z) (ltb-false 64 count m) a in
        (p.0, p.1, by_end c.end c count bytes (length a.more) a.behind a.ends after)

-- ---- The whole

pub compound_found : (bytes : List ℕ) (c : Compound) → IsBytes bytes → compound_of bytes ≡ Ok c → IsCompound c bytes
unfolding compound_of
compound_found bytes c fits e =
    let t = bind_ok (text_at bytes) (λ (tag : List ℕ × List ℕ). word_at tag.1 >>= λ minor. word_at minor.1 >>= λ count. judged tag.0 minor.0 count.0 count.1) c e in
    let tag = text_item.found bytes t.0.0 t.0.1 fits t.1 in
    let fits_1 : IsBytes t.0.1 = IsBytes-behind (opaque t.0.0) t.0.1 (subst IsBytes tag.0 fits) in
    let m = bind_ok (word_at t.0.1) (λ (minor : ℕ × List ℕ). word_at minor.1 >>= λ count. judged t.0.0 minor.0 count.0 count.1) c t.2 in
    let minor = word_item.found t.0.1 m.0.0 m.0.1 fits_1 m.1 in
    let fits_2 : IsBytes m.0.1 = IsBytes-behind (word m.0.0) m.0.1 (subst IsBytes minor.0 fits_1) in
    let n = bind_ok (word_at m.0.1) (λ (count : ℕ × List ℕ). judged t.0.0 m.0.0 count.0 count.1) c m.2 in
    let count = word_item.found m.0.1 n.0.0 n.0.1 fits_2 n.1 in
    let fits_3 : IsBytes n.0.1 = IsBytes-behind (word n.0.0) n.0.1 (subst IsBytes count.0 fits_2) in
    let j = judged_found t.0.0 m.0.0 n.0.0 n.0.1 c fits_3 n.2 in
    let spelt : bytes ≡ opaque t.0.0 ++ (word m.0.0 ++ (word n.0.0 ++ n.0.1)) =
    tag.0 ∙ ap (λ (b : List ℕ). opaque t.0.0 ++ b) (minor.0 ∙ ap (λ (b : List ℕ). word m.0.0 ++ b) count.0) in
    record {
      count = n.0.0;
      behind = n.0.1;
      tag = subst (λ (x : List ℕ). length x ≤ 1024) j.0 tag.1;
      minor = subst (λ (x : ℕ). x < 2 ^ 32) j.1 minor.1;
      counts = count.1;
      spelled = spelt ∙ ap (λ (x : List ℕ). opaque x ++ (word m.0.0 ++ (word n.0.0 ++ n.0.1))) j.0 ∙ ap (λ (x : ℕ). opaque c.tag ++ (word x ++ (word n.0.0 ++ n.0.1))) j.1;
      ends = j.2;
    }

after_again : (c : Compound) (count : ℕ) (bytes : List ℕ) → IsBytes bytes → EndsAfter c count bytes → ops_at count [] bytes ≡ Ok (c.ops, c.end)
after_again c count bytes fits a =
    let behind : IsBytes a.behind = IsBytes-behind (flat_map operation c.ops) a.behind (subst IsBytes a.spelled fits) in
    ap (ops_at count []) a.spelled ∙ ops_again c.ops count [] a.behind c.end (recursion_from_All IsOp c.ops a.fits) behind a.ends

judged_after : (c : Compound) (count : ℕ) (bytes : List ℕ) → IsBytes bytes → EndsAfter c count bytes → judged c.tag c.minor count bytes ≡ Ok c
judged_after c count bytes fits a =
    let z : eqb c.minor 0 ≡ true = rw a.minor refl in
    let m : ltb 64 count ≡ false = le-ltb 64 count a.few in
    rw (z, m, after_again c count bytes fits a) refl

by_kind : (end : CompoundEnd) (c : Compound) (count : ℕ) (bytes : List ℕ) → c.end ≡ end → IsBytes bytes → HasEnd end c count bytes → judged c.tag c.minor count bytes ≡ Ok c
by_kind Clean c count bytes is fits h = judged_after c count bytes fits h
by_kind (BadXdr n) c count bytes is fits h = judged_after c count bytes fits h
by_kind (Illegal n) c count bytes is fits h = judged_after c count bytes fits h
by_kind Minor c count bytes is fits h =
    let z : eqb c.minor 0 ≡ false = ne_eqb c.minor 0 h.0 in
    let whole : record { tag = c.tag; minor = c.minor; ops = []; end = Minor } ≡ c =
    ap (λ (x : List Op × CompoundEnd). record { tag = c.tag; minor = c.minor; ops = x.0; end = x.1 })
    (ap (λ (ops : List Op). (ops, Minor)) (sym h.1) ∙ ap (λ (x : CompoundEnd). (c.ops, x)) (sym is)) in
    rw z (ap (λ (x : Compound). Ok x) whole)
by_kind (TooMany n) c count bytes is fits h =
    let z : eqb c.minor 0 ≡ true = rw h.0 refl in
    let m : ltb 64 count ≡ true = lt-ltb 64 count h.1 in
    let whole : record { tag = c.tag; minor = c.minor; ops = []; end = TooMany count } ≡ c =
    ap (λ (x : List Op × CompoundEnd). record { tag = c.tag; minor = c.minor; ops = x.0; end = x.1 })
    (ap (λ (ops : List Op). (ops, TooMany count)) (sym h.3) ∙ ap (λ (k : ℕ). (c.ops, TooMany k)) (sym h.2) ∙ ap (λ (x : CompoundEnd). (c.ops, x)) (sym is)) in
    rw (z, m) (ap (λ (x : Compound). Ok x) whole)

pub compound_again : (bytes : List ℕ) (c : Compound) → IsBytes bytes → IsCompound c bytes → compound_of bytes ≡ Ok c
unfolding compound_of
compound_again bytes c fits i =
    let fits_0 : IsBytes (opaque c.tag ++ (word c.minor ++ (word i.count ++ i.behind))) = subst IsBytes i.spelled fits in
    let fits_1 : IsBytes (word c.minor ++ (word i.count ++ i.behind)) = IsBytes-behind (opaque c.tag) (word c.minor ++ (word i.count ++ i.behind)) fits_0 in
    let fits_2 : IsBytes (word i.count ++ i.behind) = IsBytes-behind (word c.minor) (word i.count ++ i.behind) fits_1 in
    let fits_3 : IsBytes i.behind = IsBytes-behind (word i.count) i.behind fits_2 in
    ap compound_of i.spelled
    ∙ ap (λ (r : Result (List ℕ × List ℕ) Fault). r >>= λ tag. word_at tag.1 >>= λ minor. word_at minor.1 >>= λ count. judged tag.0 minor.0 count.0 count.1)
    (text_item.again c.tag (word c.minor ++ (word i.count ++ i.behind)) i.tag)
    ∙ ap (λ (r : Result (ℕ × List ℕ) Fault). r >>= λ minor. word_at minor.1 >>= λ count. judged c.tag minor.0 count.0 count.1)
    (word_item.again c.minor (word i.count ++ i.behind) i.minor)
    ∙ ap (λ (r : Result (ℕ × List ℕ) Fault). r >>= λ count. judged c.tag c.minor count.0 count.1) (word_item.again i.count i.behind i.counts)
    ∙ by_kind c.end c i.count i.behind refl fits_3 i.ends

-- ---- How much is kept

four : (n : ℕ) → length (word n) ≡ 4
unfolding word
four n = refl

-- an operation has its number
ops_long : (ops : List Op) → 4 * length ops ≤ length (flat_map operation ops)
unfolding operation
ops_long [] = omega arith
ops_long (o ∷ ops) =
    omega (arith, ops_long ops, length-append (operation o) (flat_map operation ops), length-append (word (number_of (code_of o))) (args o), four (number_of (code_of o)))

few_in : (end : CompoundEnd) (c : Compound) (count : ℕ) (behind : List ℕ) → HasEnd end c count behind → 4 * length c.ops ≤ length behind
few_in Clean c count behind h = omega (arith, ap length h.spelled, length-append (flat_map operation c.ops) h.behind, ops_long c.ops)
few_in (BadXdr n) c count behind h = omega (arith, ap length h.spelled, length-append (flat_map operation c.ops) h.behind, ops_long c.ops)
few_in (Illegal n) c count behind h = omega (arith, ap length h.spelled, length-append (flat_map operation c.ops) h.behind, ops_long c.ops)
few_in Minor c count behind h = omega (arith, ap length h.1)
few_in (TooMany n) c count behind h = omega (arith, ap length h.3)

-- Each operation that is kept has at least four bytes behind the tag, the minor version and the count.
pub compound_few : (bytes : List ℕ) (c : Compound) → IsBytes bytes → compound_of bytes ≡ Ok c → 4 * length c.ops ≤ length bytes
compound_few bytes c fits e =
    let i = compound_found bytes c fits e in
    omega (
      arith,
      ap length i.spelled,
      few_in c.end c i.count i.behind i.ends,
      length-append (opaque c.tag) (word c.minor ++ (word i.count ++ i.behind)),
      length-append (word c.minor) (word i.count ++ i.behind),
      length-append (word i.count) i.behind,
    )

-- ---- What is written

pub compound_written : (c : Compound) → CanBeWritten c → compound_of (compound c) ≡ Ok c
unfolding compound_of compound
compound_written c w =
    let small : length c.ops < 2 ^ 32 = omega (arith, w.few) in
    let minor_small : c.minor < 2 ^ 32 = omega (arith, w.minor) in
    let ops : List ℕ = flat_map operation c.ops in
    let read : ops_at (length c.ops) [] (ops ++ []) ≡ Ok (c.ops, Clean) =
    ops_again c.ops (length c.ops) [] [] Clean (recursion_from_All IsOp c.ops w.ops) (λ i. omega arith) (refl, refl) in
    let z : eqb c.minor 0 ≡ true = rw w.minor refl in
    let m : ltb 64 (length c.ops) ≡ false = le-ltb 64 (length c.ops) w.few in
    let end_is : record { tag = c.tag; minor = c.minor; ops = c.ops; end = Clean } ≡ c =
    ap (λ (x : CompoundEnd). record { tag = c.tag; minor = c.minor; ops = c.ops; end = x }) (sym w.clean) in
    let judged_so : judged c.tag c.minor (length c.ops) (ops ++ []) ≡ Ok c = rw (z, m, read) (ap (λ (x : Compound). Ok x) end_is) in
    let spelt : opaque c.tag ++ (word c.minor ++ ((word (length c.ops) ++ ops) ++ [])) ≡ opaque c.tag ++ (word c.minor ++ (word (length c.ops) ++ (ops ++ []))) =
    ap (λ (b : List ℕ). opaque c.tag ++ (word c.minor ++ b)) (append_assoc (word (length c.ops)) ops []) in
    ap compound_of spelt
    ∙ ap (λ (r : Result (List ℕ × List ℕ) Fault). r >>= λ tag. word_at tag.1 >>= λ minor. word_at minor.1 >>= λ count. judged tag.0 minor.0 count.0 count.1)
    (text_item.again c.tag (word c.minor ++ (word (length c.ops) ++ (ops ++ []))) w.tag)
    ∙ ap (λ (r : Result (ℕ × List ℕ) Fault). r >>= λ minor. word_at minor.1 >>= λ count. judged c.tag minor.0 count.0 count.1)
    (word_item.again c.minor (word (length c.ops) ++ (ops ++ [])) minor_small)
    ∙ ap (λ (r : Result (ℕ × List ℕ) Fault). r >>= λ count. judged c.tag c.minor count.0 count.1) (word_item.again (length c.ops) (ops ++ []) small)
    ∙ judged_so

-- What was read to a clean end can be written.
clean_writes : (c : Compound) (bytes : List ℕ) (end : CompoundEnd) → c.end ≡ end → end ≡ Clean → IsCompound c bytes → (count : ℕ) (behind : List ℕ) → HasEnd end c count behind → CanBeWritten c
clean_writes c bytes Clean is e i count behind h =
    let all : IsBehind Clean count (length c.ops) h.behind = subst (λ (x : CompoundEnd). IsBehind x count (length c.ops) h.behind) is h.ends in
    record { clean = is; minor = h.minor; few = omega (arith, all.0, h.few); tag = i.tag; ops = h.fits }
clean_writes c bytes Minor is e i count behind h = absurd cc
clean_writes c bytes (TooMany n) is e i count behind h = absurd cc
clean_writes c bytes (BadXdr n) is e i count behind h = absurd cc
clean_writes c bytes (Illegal n) is e i count behind h = absurd cc

pub compound_clean : (bytes : List ℕ) (c : Compound) → IsBytes bytes → compound_of bytes ≡ Ok c → c.end ≡ Clean → CanBeWritten c
compound_clean bytes c fits e clean =
    let i = compound_found bytes c fits e in
    clean_writes c bytes c.end refl clean i i.count i.behind i.ends
