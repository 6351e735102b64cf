-- A compound is read exactly where its arguments are spelled.
use Rattle.std.proofs.Common.{◌≡◌, ℕ, zero, suc, ◌^◌, ◌<◌, List, [], ◌∷◌, ◌++◌, length, Option, Some, None, Result, Ok, Err, refl, sym, ap, subst, ◌∙◌, append_assoc, arith}
use Rattle.std.specs.List.{flat_map, AllByRecursion}
use Rattle.std.proofs.lemmas.List.{append-nil}
use Rattle.nm_xdr.specs.Fields.{Fault, ended, IsBytes}
use Rattle.nm_xdr.specs.Items.{word, word_at}
use Rattle.nm_xdr.proofs.FieldLaws.{IsBytes-behind}
use Rattle.nm_xdr.proofs.ItemLaws.{word_item}
use Rattle.nm_args.specs.declared.op.Op.{Op}
use Rattle.nm_args.specs.declared.op.OpCode.{OpCode}
use Rattle.nm_args.specs.declared.compound.CompoundEnd.{CompoundEnd}
use Rattle.nm_args.specs.declared.compound.CompoundEnd.TheVariants.{Clean, Minor, TooMany, BadXdr, Illegal}
use Rattle.nm_args.specs.declared.parts.Clientids.TheVariants.{Any}
use Rattle.nm_args.specs.Parts.{IsWord}
use Rattle.nm_args.specs.Operations.{number_of, code_of_number, code_of, args_at, args, IsOp, operation}
use Rattle.nm_args.specs.Compounds.{Next, one, none_as, missing, with_args, with_code, with_number, next_at, then_by, ops_at, NoArgs, IsBehind}
use Rattle.nm_args.proofs.OpItems.{number_small, code_back, code_found, args_found, args_again}

-- ---- The next operation

-- One that was read is spelled there.
record IsOne (bytes : List ℕ) (o : Op) (rest : List ℕ) : Type 0 where
  spelled : bytes ≡ operation o ++ rest
  fits : IsOp o

with_args_one : (n : ℕ) (r : Result (Op × List ℕ) Fault) (o : Op) (rest : List ℕ) → with_args n r ≡ one o rest → r ≡ Ok (o, rest)
with_args_one n (Ok x) o rest e =
    let a : x.0 ≡ o = cc in
    let b : x.1 ≡ rest = cc in
    rw (sym a, sym b) refl
with_args_one n (Err f) o rest e = absurd cc

with_code_one : (n : ℕ) (k : Option OpCode) (bytes : List ℕ) (o : Op) (rest : List ℕ) → code_of_number n ≡ k → IsBytes bytes → with_code n k bytes ≡ one o rest
    → word n ++ bytes ≡ operation o ++ rest × IsOp o
unfolding operation
with_code_one n None bytes o rest is fits e = absurd cc
with_code_one n (Some code) bytes o rest is fits e =
    let p = args_found Any code bytes o rest fits (with_args_one n (args_at code bytes) o rest e) in
    let number : number_of (code_of o) ≡ n = ap number_of p.1.1 ∙ code_found n code is in
    (ap (λ (m : ℕ). word m ++ bytes) (sym number) ∙ ap (λ (b : List ℕ). word (number_of (code_of o)) ++ b) p.0 ∙ sym (append_assoc (word (number_of (code_of o))) (args o) rest), p.1.0)

by_word : (bytes : List ℕ) (r : Result (ℕ × List ℕ) Fault) (o : Op) (rest : List ℕ) → IsBytes bytes → word_at bytes ≡ r → with_number r ≡ one o rest → IsOne bytes o rest
by_word bytes (Ok n) o rest fits is e =
    let p = word_item.found bytes n.0 n.1 fits is in
    let behind : IsBytes n.1 = IsBytes-behind (word n.0) n.1 (subst IsBytes p.0 fits) in
    let q = with_code_one n.0 (code_of_number n.0) n.1 o rest refl behind e in
    record { spelled = p.0 ∙ q.0; fits = q.1 }
by_word bytes (Err f) o rest fits is e = absurd cc

next_one : (bytes : List ℕ) (o : Op) (rest : List ℕ) → IsBytes bytes → next_at bytes ≡ one o rest → IsOne bytes o rest
unfolding next_at
next_one bytes o rest fits e = by_word bytes (word_at bytes) o rest fits refl e

-- Where there is none, the operations that were read end so.
no_args : (n : ℕ) (r : Result (Op × List ℕ) Fault) (end : CompoundEnd) → with_args n r ≡ none_as end → (end ≡ BadXdr n) × ((f : Fault) × (r ≡ Err f))
no_args n (Ok x) end e = absurd cc
no_args n (Err f) end e = (cc, (f, refl))

unread_args : (code : OpCode) (bytes : List ℕ) (f : Fault) → args_at code bytes ≡ Err f → NoArgs code bytes
unread_args code bytes f e o rest is fits spelt =
    let read : args_at code bytes ≡ Ok (o, rest) =
    subst (λ (k : OpCode). args_at k bytes ≡ Ok (o, rest)) is (ap (args_at (code_of o)) spelt ∙ args_again Any o rest fits) in
    cc

with_code_none : (n : ℕ) (k : Option OpCode) (bytes : List ℕ) (end : CompoundEnd) (count : ℕ) → IsWord n → code_of_number n ≡ k → with_code n k bytes ≡ none_as end
    → IsBehind end (suc count) 0 (word n ++ bytes)
with_code_none n None bytes end count small is e =
    let same : end ≡ Illegal n = cc in
    subst (λ (x : CompoundEnd). IsBehind x (suc count) 0 (word n ++ bytes)) (sym same) (omega arith, small, is, (bytes, refl))
with_code_none n (Some code) bytes end count small is e =
    let p = no_args n (args_at code bytes) end e in
    subst (λ (x : CompoundEnd). IsBehind x (suc count) 0 (word n ++ bytes)) (sym p.0)
    (omega arith, (code, bytes, is, refl, unread_args code bytes p.1.0 p.1.1))

none_by_word : (bytes : List ℕ) (r : Result (ℕ × List ℕ) Fault) (end : CompoundEnd) (count : ℕ) → IsBytes bytes → word_at bytes ≡ r → with_number r ≡ none_as end
    → IsBehind end (suc count) 0 bytes
none_by_word bytes (Ok n) end count fits is e =
    let p = word_item.found bytes n.0 n.1 fits is in
    subst (IsBehind end (suc count) 0) (sym p.0) (with_code_none n.0 (code_of_number n.0) n.1 end count p.1 refl e)
none_by_word bytes (Err f) end count fits is e = absurd cc

next_none : (bytes : List ℕ) (end : CompoundEnd) (count : ℕ) → IsBytes bytes → next_at bytes ≡ none_as end → IsBehind end (suc count) 0 bytes
unfolding next_at
next_none bytes end count fits e = none_by_word bytes (word_at bytes) end count fits refl e

-- An operation that is spelled is the next one.
next_again : (o : Op) (rest : List ℕ) → IsOp o → next_at (operation o ++ rest) ≡ one o rest
unfolding next_at operation
next_again o rest f =
    ap with_number (ap word_at (append_assoc (word (number_of (code_of o))) (args o) rest) ∙ word_item.again (number_of (code_of o)) (args o ++ rest) (number_small (code_of o)))
    ∙ ap (λ (k : Option OpCode). with_code (number_of (code_of o)) k (args o ++ rest)) (code_back (code_of o))
    ∙ ap (with_args (number_of (code_of o))) (args_again Any o rest f)

next_unknown : (n : ℕ) (behind : List ℕ) → IsWord n → code_of_number n ≡ None → next_at (word n ++ behind) ≡ none_as (Illegal n)
unfolding next_at
next_unknown n behind small none =
    ap with_number (word_item.again n behind small) ∙ ap (λ (k : Option OpCode). with_code n k behind) none

next_unreadable : (n : ℕ) (code : OpCode) (behind : List ℕ) → code_of_number n ≡ Some code → IsBytes behind → NoArgs code behind
    → next_at (word n ++ behind) ≡ none_as (BadXdr n)
unfolding next_at
next_unreadable n code behind is fits unfit =
    let small : IsWord n = subst (λ (m : ℕ). m < 2 ^ 32) (code_found n code is) (number_small code) in
    ap with_number (word_item.again n behind small) ∙ ap (λ (k : Option OpCode). with_code n k behind) is ∙ by_args (args_at code behind) refl
  where
    by_args : (r : Result (Op × List ℕ) Fault) → args_at code behind ≡ r → with_args n r ≡ none_as (BadXdr n)
    by_args (Ok x) e =
        let p = args_found Any code behind x.0 x.1 fits e in
        absurd (unfit x.0 x.1 p.1.1 p.1.0 p.0)
    by_args (Err f) e = refl

-- ---- Operations and how they end

-- What was read of so many operations.
pub record AreOps (count : ℕ) (earlier : List Op) (bytes : List ℕ) (ops : List Op) (end : CompoundEnd) : Type 0 where
  pub more : List Op
  pub behind : List ℕ
  pub same : ops ≡ earlier ++ more
  pub spelled : bytes ≡ flat_map operation more ++ behind
  pub fits : AllByRecursion IsOp more
  pub ends : IsBehind end count (length more) behind

clean_found : (earlier : List Op) (bytes : List ℕ) (ops : List Op) (end : CompoundEnd) → ended {X = List Op × CompoundEnd} (earlier, Clean) bytes ≡ Ok (ops, end)
    → AreOps 0 earlier bytes ops end
clean_found earlier [] ops end e =
    let both : (earlier, Clean) ≡ (ops, end) = cc in
    let same : earlier ≡ ops = ap (λ (p : List Op × CompoundEnd). p.0) both in
    let is : Clean ≡ end = ap (λ (p : List Op × CompoundEnd). p.1) both in
    record {
      more = [];
      behind = [];
      same = sym same ∙ sym (append-nil earlier);
      spelled = refl;
      fits = tt;
      ends = subst (λ (x : CompoundEnd). IsBehind x 0 0 []) is (refl, refl);
    }
clean_found earlier (b ∷ bytes) ops end e = absurd cc

-- one more in front
one_more : (end : CompoundEnd) (count n : ℕ) (behind : List ℕ) → IsBehind end count n behind → IsBehind end (suc count) (suc n) behind
one_more Clean count n behind h = (ap suc h.0, h.1)
one_more Minor count n behind h = h
one_more (TooMany m) count n behind h = h
one_more (BadXdr m) count n behind h = (omega (arith, h.0), h.1)
one_more (Illegal m) count n behind h = (omega (arith, h.0), h.1, h.2, h.3)

one_less : (end : CompoundEnd) (count n : ℕ) (behind : List ℕ) → IsBehind end (suc count) (suc n) behind → IsBehind end count n behind
one_less Clean count n behind h = (omega (arith, h.0), h.1)
one_less Minor count n behind h = h
one_less (TooMany m) count n behind h = h
one_less (BadXdr m) count n behind h = (omega (arith, h.0), h.1)
one_less (Illegal m) count n behind h = (omega (arith, h.0), h.1, h.2, h.3)

none_left : (end : CompoundEnd) (n : ℕ) (behind : List ℕ) → IsBehind end 0 (suc n) behind → ⊥
none_left Clean n behind h = omega (arith, h.0)
none_left Minor n behind h = h
none_left (TooMany m) n behind h = h
none_left (BadXdr m) n behind h = omega (arith, h.0)
none_left (Illegal m) n behind h = omega (arith, h.0)

by_next : (count : ℕ) (earlier : List Op) (bytes : List ℕ) (ops : List Op) (end : CompoundEnd) (n : Next) → IsBytes bytes → next_at bytes ≡ n
    → then_by (λ o rest. ops_at count (earlier ++ o ∷ []) rest) earlier n ≡ Ok (ops, end)
    → ((o : Op) (rest : List ℕ) → IsBytes rest → ops_at count (earlier ++ o ∷ []) rest ≡ Ok (ops, end) → AreOps count (earlier ++ o ∷ []) rest ops end)
    → AreOps (suc count) earlier bytes ops end
by_next count earlier bytes ops end (one o rest) fits is e again =
    let first = next_one bytes o rest fits is in
    let behind : IsBytes rest = IsBytes-behind (operation o) rest (subst IsBytes first.spelled fits) in
    let others = again o rest behind e in
    record {
      more = o ∷ others.more;
      behind = others.behind;
      same = others.same ∙ append_assoc earlier (o ∷ []) others.more;
      spelled = first.spelled ∙ ap (λ (b : List ℕ). operation o ++ b) others.spelled ∙ sym (append_assoc (operation o) (flat_map operation others.more) others.behind);
      fits = (first.fits, others.fits);
      ends = one_more end count (length others.more) others.behind others.ends;
    }
by_next count earlier bytes ops end (none_as x) fits is e again =
    let both : (earlier, x) ≡ (ops, end) = cc in
    let same : earlier ≡ ops = ap (λ (p : List Op × CompoundEnd). p.0) both in
    let ends : x ≡ end = ap (λ (p : List Op × CompoundEnd). p.1) both in
    record {
      more = [];
      behind = bytes;
      same = sym same ∙ sym (append-nil earlier);
      spelled = refl;
      fits = tt;
      ends = subst (λ (y : CompoundEnd). IsBehind y (suc count) 0 bytes) ends (next_none bytes x count fits is);
    }
by_next count earlier bytes ops end (missing f) fits is e again = absurd cc

pub ops_found : (count : ℕ) (earlier : List Op) (bytes : List ℕ) (ops : List Op) (end : CompoundEnd) → IsBytes bytes → ops_at count earlier bytes ≡ Ok (ops, end)
    → AreOps count earlier bytes ops end
unfolding ops_at
ops_found zero earlier bytes ops end fits e = clean_found earlier bytes ops end e
ops_found (suc count) earlier bytes ops end fits e =
    by_next count earlier bytes ops end (next_at bytes) fits refl e (λ o rest f g. ops_found count (earlier ++ o ∷ []) rest ops end f g)

-- the end of operations that were read
end_again : (end : CompoundEnd) (count : ℕ) (earlier : List Op) (bytes : List ℕ) → IsBytes bytes → IsBehind end count 0 bytes → ops_at count earlier bytes ≡ Ok (earlier, end)
unfolding ops_at
end_again Clean zero earlier bytes fits h = rw h.1 refl
end_again Clean (suc count) earlier bytes fits h = absurd (omega (arith, h.0))
end_again Minor count earlier bytes fits h = absurd h
end_again (TooMany n) count earlier bytes fits h = absurd h
end_again (BadXdr n) zero earlier bytes fits h = absurd (omega (arith, h.0))
end_again (BadXdr n) (suc count) earlier bytes fits h =
    let behind : IsBytes h.1.1 = IsBytes-behind (word n) h.1.1 (subst IsBytes h.1.3 fits) in
    ap (then_by (λ o rest. ops_at count (earlier ++ o ∷ []) rest) earlier) (ap next_at h.1.3 ∙ next_unreadable n h.1.0 h.1.1 h.1.2 behind h.1.4)
end_again (Illegal n) zero earlier bytes fits h = absurd (omega (arith, h.0))
end_again (Illegal n) (suc count) earlier bytes fits h =
    ap (then_by (λ o rest. ops_at count (earlier ++ o ∷ []) rest) earlier) (ap next_at h.3.1 ∙ next_unknown n h.3.0 h.1 h.2)

pub ops_again : (more : List Op) (count : ℕ) (earlier : List Op) (behind : List ℕ) (end : CompoundEnd) → AllByRecursion IsOp more → IsBytes behind
    → IsBehind end count (length more) behind → ops_at count earlier (flat_map operation more ++ behind) ≡ Ok (earlier ++ more, end)
unfolding ops_at
ops_again [] count earlier behind end fits are h =
    end_again end count earlier behind are h ∙ ap (λ (ops : List Op). Ok (ops, end)) (sym (append-nil earlier))
ops_again (o ∷ more) zero earlier behind end fits are h = absurd (none_left end (length more) behind h)
ops_again (o ∷ more) (suc count) earlier behind end fits are h =
    let first : next_at ((operation o ++ flat_map operation more) ++ behind) ≡ one o (flat_map operation more ++ behind) =
    ap next_at (append_assoc (operation o) (flat_map operation more) behind) ∙ next_again o (flat_map operation more ++ behind) fits.0 in
    ap (then_by (λ x rest. ops_at count (earlier ++ x ∷ []) rest) earlier) first
    ∙ ops_again more count (earlier ++ o ∷ []) behind end fits.1 are (one_less end count (length more) behind h)
    ∙ ap (λ (ops : List Op). Ok (ops, end)) (append_assoc earlier (o ∷ []) more)
