-- The reading and the spelling of an OPEN's value in a kept reply belong together.
use Rattle.std.proofs.Common.{◌≡◌, ℕ, zero, suc, ◌+◌, ◌≤◌, Bool, true, false, cond, eqb, leb, ltb, List, [], ◌∷◌, ◌++◌, length, drop, Result, Ok, Err, refl, sym, ap, subst, ◌∙◌, append_assoc, arith}
use Rattle.std.proofs.lemmas.Bool.{eqb-true, eq-eqb, ltb-false}
use Rattle.std.proofs.lemmas.List.{length-drop}
use Rattle.nm_xdr.specs.Fields.{short, too_long, Fault, Reading, ◌>>=◌, fault_at, field, made, rows_at, IsBytes, IsItem, IsPart}
use Rattle.nm_xdr.specs.Items.{word, hyper, flag, fixed, opaque, padding_of, word_at, length_at, counted_at, words_at, only_at}
use Rattle.nm_xdr.proofs.ByteLaws.{only_item}
use Rattle.nm_xdr.proofs.FieldLaws.{IsBytes-behind, bind_ok, guard_ok, same_value, field_part, made_part, made_item, union_item, record_item, tested_item, spelled_as, fits_as}
use Rattle.nm_xdr.proofs.ItemLaws.{word_item, hyper_item}
use Rattle.nm_items.specs.Parts.{stateid, IsStateId, bitmap, bitmap_at, IsBitmap}
use Rattle.nm_items.proofs.PartItems.{stateid_item, bitmap_item}
use Rattle.nm_types.specs.declared.calls.StateId.{StateId}
use Rattle.nm_types.specs.declared.results.ChangeInfo.{ChangeInfo}
use Rattle.nm_types.specs.declared.results.OpenOk.{OpenOk}
use Rattle.nm_types.specs.declared.results.Opened.{Opened}
use Rattle.nm_types.specs.declared.results.OpenDelegation.{OpenDelegation}
use Rattle.nm_types.specs.declared.results.OpenDelegation.TheVariants as delegation
use Rattle.nm_results.specs.Parts.{change, IsChange, written_change}
use Rattle.nm_results.specs.Opens.{ace, no_ace, delegation_bytes, written_delegation, IsDelegation, open_bytes, written_open}
use Rattle.nm_results.specs.KeptOpens.{atomic_at, ends_in_zero, trimmed_as, trimmed_at, no_ace_at, kept_reads_at, limit_at, kept_writes_at, kept_delegation_as, kept_delegation_at, kept_open_at, IsKeptOpen, opened, opened_at, IsOpened}
use Rattle.nm_results.proofs.OpenLaws.{kind_item}

-- ---- How many bytes a bitmap takes

word_by : (bytes rest : List ℕ) (m n : ℕ) (b : Bool) → ltb (length bytes) 4 ≡ b → cond b (fault_at {X = ℕ × List ℕ} short bytes) (Ok (m, drop 4 bytes)) ≡ Ok (n, rest)
    → 4 + length rest ≤ length bytes
word_by bytes rest m n true less e = absurd cc
word_by bytes rest m n false less e =
    let same = same_value m n (drop 4 bytes) rest e in
    omega (arith, ltb-false (length bytes) 4 less, ap length same.1, length-drop 4 bytes)

-- A word that is read takes four bytes.
word_gone : (bytes rest : List ℕ) (n : ℕ) → word_at bytes ≡ Ok (n, rest) → 4 + length rest ≤ length bytes
unfolding word_at
word_gone bytes rest n e = word_by bytes rest _ n (ltb (length bytes) 4) refl e

-- Words that are read take none back.
rows_gone : (count : ℕ) (earlier bytes ws rest : List ℕ) → rows_at (λ _. word_at) count earlier bytes ≡ Ok (ws, rest) → length rest ≤ length bytes
unfolding rows_at
rows_gone zero earlier bytes ws rest e = omega (arith, ap length (same_value earlier ws bytes rest e).1)
rows_gone (suc count) earlier bytes ws rest e =
    let b = bind_ok (word_at bytes) (λ (x : ℕ × List ℕ). rows_at (λ _. word_at) count (earlier ++ x.0 ∷ []) x.1) (ws, rest) e in
    omega (arith, word_gone bytes b.0.1 b.0.0 b.1, rows_gone count (earlier ++ b.0.0 ∷ []) b.0.1 ws rest b.2)

-- A bitmap takes the four bytes of its count, at least.
pub words_gone : (bytes ws rest : List ℕ) → bitmap_at bytes ≡ Ok (ws, rest) → 4 + length rest ≤ length bytes
unfolding words_at counted_at length_at
words_gone bytes ws rest e =
    let b = bind_ok (length_at 8 bytes) (λ (x : ℕ × List ℕ). rows_at (λ _. word_at) x.0 [] x.1) (ws, rest) e in
    let c = bind_ok (word_at bytes) (λ (v : ℕ × List ℕ). cond (leb v.0 8) (Ok v) (Err (record { flaw = too_long v.0 8; left = length bytes }))) b.0 b.1 in
    let g = guard_ok (leb c.0.0 8) (record { flaw = too_long c.0.0 8; left = length bytes }) c.0 b.0 c.2 in
    omega (arith, word_gone bytes c.0.1 c.0.0 c.1, rows_gone b.0.0 [] b.0.1 ws rest b.2, ap (λ (v : ℕ × List ℕ). length v.1) g.1)

-- ---- A field of which there is one value

-- It isn't kept, and what comes after it is read.
fixed_part : {S A X : Type 0} {seen : X → S} (c : A) (more : S → Reading X) {read : Reading A} {spell : A → List ℕ} {spell_more : X → List ℕ} {Fits_more : X → Type 0}
    → IsItem read spell (λ a. a ≡ c) → IsPart seen more spell_more Fits_more
    → IsPart seen (λ s. field read (λ _. more s)) (λ x. spell c ++ spell_more x) Fits_more
fixed_part {S} {A} {X} {seen} c more {read} {spell} {spell_more} {Fits_more} item part = record {
  found = λ s bytes x rest fits e.
      let b = bind_ok (read bytes) (λ (a : A × List ℕ). more s a.1) (x, rest) e in
      let first = item.found bytes b.0.0 b.0.1 fits b.1 in
      let behind : IsBytes b.0.1 = IsBytes-behind (spell b.0.0) b.0.1 (subst IsBytes first.0 fits) in
      let others = part.found s b.0.1 x rest behind b.2 in
      let whole_is : bytes ≡ (spell c ++ spell_more x) ++ rest =
      first.0 ∙ ap (λ (a : A). spell a ++ b.0.1) first.1 ∙ ap (λ (r : List ℕ). spell c ++ r) others.0 ∙ sym (append_assoc (spell c) (spell_more x) rest) in
      (whole_is, others.1, others.2);
  again = λ x rest fits.
      let whole_is : read ((spell c ++ spell_more x) ++ rest) ≡ Ok (c, spell_more x ++ rest) =
      ap read (append_assoc (spell c) (spell_more x) rest) ∙ item.again c (spell_more x ++ rest) refl in
      ap (λ (r : Result (A × List ℕ) Fault). r >>= λ a. more (seen x) a.1) whole_is ∙ part.again x rest fits;
}

zero_item : IsItem (only_at 0) word (λ n. n ≡ 0)
zero_item = only_item 0 (omega arith)

-- ---- The change of a directory, and a bitmap

atomic_item : IsItem atomic_at (λ c. change (written_change c)) IsChange
unfolding atomic_at change flag
atomic_item =
    fits_as IsChange (λ c f. (f.before, (f.after, tt))) (λ c f. record { before = f.0; after = f.1.0 }) (
    record_item (
    fixed_part 1 _ (only_item 1 (omega arith)) (
    field_part (λ (c : ChangeInfo). c.before) _ (λ _. hyper_item) (
    field_part (λ (c : ChangeInfo). c.after) _ (λ _. hyper_item) (
    made_part _ (λ _. refl) (λ _. refl))))))

trimmed_found : (words after ws rest : List ℕ) (b : Bool) → ends_in_zero words ≡ b
    → cond {A = Result (List ℕ × List ℕ) Fault} b (Err (record { flaw = short; left = length after + 4 })) (Ok (words, after)) ≡ Ok (ws, rest) → (b ≡ false) × ((words ≡ ws) × (after ≡ rest))
trimmed_found words after ws rest true is e = absurd cc
trimmed_found words after ws rest false is e = (refl, same_value words ws after rest e)

trimmed_item : IsItem trimmed_at bitmap (λ ws. IsBitmap ws × (ends_in_zero ws ≡ false))
unfolding trimmed_at
trimmed_item = record {
  found = λ bytes ws rest fits e.
      let b = bind_ok (bitmap_at bytes) (λ (w : List ℕ × List ℕ). trimmed_as w.0 w.1) (ws, rest) e in
      let first = bitmap_item.found bytes b.0.0 b.0.1 fits b.1 in
      let t = trimmed_found b.0.0 b.0.1 ws rest (ends_in_zero b.0.0) refl b.2 in (
        first.0 ∙ ap (λ (w : List ℕ). bitmap w ++ b.0.1) t.1.0 ∙ ap (λ (r : List ℕ). bitmap ws ++ r) t.1.1,
        subst (λ (w : List ℕ). IsBitmap w × (ends_in_zero w ≡ false)) t.1.0 (first.1, t.0),
      );
  again = λ ws rest fits. rw (bitmap_item.again ws rest fits.0, fits.1) refl;
}

-- ---- Delegations

-- four words of 0
no_ace_spelled : ace no_ace ≡ word 0 ++ (word 0 ++ (word 0 ++ (word 0 ++ [])))
unfolding ace word opaque fixed padding_of
no_ace_spelled = refl

no_ace_item : IsItem no_ace_at (λ _. ace no_ace) (λ u. u ≡ tt)
unfolding no_ace_at
no_ace_item =
    fits_as (λ u. u ≡ tt) (λ u f. tt) (λ u f. refl) (
    spelled_as (λ _. ace no_ace) (λ _ _. no_ace_spelled) (
    record_item (
    fixed_part 0 _ zero_item (
    fixed_part 0 _ zero_item (
    fixed_part 0 _ zero_item (
    fixed_part 0 _ zero_item (
    made_part (λ _. tt) (λ _. refl) (λ _. refl))))))))

limit_item : IsItem limit_at hyper (λ n. n ≡ 1048576)
unfolding limit_at
limit_item =
    fits_as (λ n. n ≡ 1048576) (λ n e. (omega (arith, e), eq-eqb n 1048576 e)) (λ n f. eqb-true n 1048576 f.1)
    (tested_item (λ n. eqb n 1048576) (λ _. short) hyper_item)

abbrev reads_bytes : StateId → List ℕ
reads_bytes s = stateid s ++ (word 0 ++ (ace no_ace ++ []))

kept_reads_item : IsItem kept_reads_at reads_bytes IsStateId
unfolding kept_reads_at
kept_reads_item =
    fits_as IsStateId (λ s f. (f, tt)) (λ s f. f.0) (
    record_item (
    field_part (λ (s : StateId). s) _ (λ _. stateid_item) (
    fixed_part 0 _ zero_item (
    fixed_part tt _ no_ace_item (
    made_part _ (λ _. refl) (λ _. refl))))))

abbrev writes_bytes : StateId → List ℕ
writes_bytes s = stateid s ++ (word 0 ++ (word 1 ++ (hyper 1048576 ++ (ace no_ace ++ []))))

kept_writes_item : IsItem kept_writes_at writes_bytes IsStateId
unfolding kept_writes_at
kept_writes_item =
    fits_as IsStateId (λ s f. (f, tt)) (λ s f. f.0) (
    record_item (
    field_part (λ (s : StateId). s) _ (λ _. stateid_item) (
    fixed_part 0 _ zero_item (
    fixed_part 1 _ (only_item 1 (omega arith)) (
    fixed_part 1048576 _ limit_item (
    fixed_part tt _ no_ace_item (
    made_part _ (λ _. refl) (λ _. refl))))))))

-- which delegation this is, and what stands behind its number
abbrev number_of : OpenDelegation → ℕ
number_of delegation.None = 0
number_of (delegation.Read s) = 1
number_of (delegation.Write s) = 2

abbrev behind_number : OpenDelegation → List ℕ
behind_number delegation.None = []
behind_number (delegation.Read s) = reads_bytes s
behind_number (delegation.Write s) = writes_bytes s

few_kinds : (d : OpenDelegation) → number_of d ≤ 2
few_kinds delegation.None = omega arith
few_kinds (delegation.Read s) = omega arith
few_kinds (delegation.Write s) = omega arith

delegation_spelled : (d : OpenDelegation) → delegation_bytes (written_delegation d) ≡ word (number_of d) ++ behind_number d
unfolding delegation_bytes flag
delegation_spelled delegation.None = refl
delegation_spelled (delegation.Read s) = refl
delegation_spelled (delegation.Write s) = refl

-- A delegation of this number.
abbrev OfNumber : ℕ → OpenDelegation → Type 0
OfNumber n d = IsDelegation d × (number_of d ≡ n)

none_from : (d : OpenDelegation) → OfNumber 0 d → delegation.None ≡ d
none_from delegation.None f = refl
none_from (delegation.Read s) f = absurd cc
none_from (delegation.Write s) f = absurd cc

none_item : IsItem (made delegation.None) behind_number (OfNumber 0)
none_item = record {
  found = λ bytes d rest fits e.
      let same = same_value delegation.None d bytes rest e in
      subst (λ (x : OpenDelegation). (bytes ≡ behind_number x ++ rest) × OfNumber 0 x) same.0 (same.1, (tt, refl));
  again = λ d rest fits. let is = none_from d fits in subst (λ (x : OpenDelegation). made delegation.None (behind_number x ++ rest) ≡ Ok (x, rest)) is refl;
}

read_from : (d : OpenDelegation) → OfNumber 1 d → (s : StateId) × IsStateId s × (delegation.Read s ≡ d)
read_from delegation.None f = absurd cc
read_from (delegation.Read s) f = (s, f.0, refl)
read_from (delegation.Write s) f = absurd cc

write_from : (d : OpenDelegation) → OfNumber 2 d → (s : StateId) × IsStateId s × (delegation.Write s ≡ d)
write_from delegation.None f = absurd cc
write_from (delegation.Read s) f = absurd cc
write_from (delegation.Write s) f = (s, f.0, refl)

-- what a number chooses
chosen_item : (n : ℕ) → n ≤ 2 → IsItem (kept_delegation_as n) behind_number (OfNumber n)
unfolding kept_delegation_as
chosen_item zero le = none_item
chosen_item (suc zero) le = made_item (λ s. delegation.Read s) behind_number (OfNumber 1) (λ s f. ((f, refl), refl)) read_from kept_reads_item
chosen_item (suc (suc zero)) le = made_item (λ s. delegation.Write s) behind_number (OfNumber 2) (λ s f. ((f, refl), refl)) write_from kept_writes_item
chosen_item (suc (suc (suc n))) le = absurd (omega (arith, le))

kept_delegation_item : IsItem kept_delegation_at (λ d. delegation_bytes (written_delegation d)) IsDelegation
unfolding kept_delegation_at
kept_delegation_item =
    spelled_as (λ d. delegation_bytes (written_delegation d)) (λ d _. delegation_spelled d) (
    union_item number_of IsDelegation (λ d _. few_kinds d) kind_item chosen_item)

-- ---- The whole

kept_open_item : IsItem kept_open_at (λ o. open_bytes (written_open o)) IsKeptOpen
unfolding kept_open_at open_bytes
kept_open_item =
    fits_as IsKeptOpen (λ o f. (f.value.stateid, (f.value.cinfo, (f.value.rflags, ((f.value.attrset, f.trimmed), (f.value.delegation, tt))))))
    (λ o f. record {
      value = record { stateid = f.0; cinfo = f.1.0; rflags = f.1.1.0; attrset = f.1.1.1.0.0; delegation = f.1.1.1.1.0 };
      trimmed = f.1.1.1.0.1;
    }) (
    record_item (
    field_part (λ (o : OpenOk). o.stateid) _ (λ _. stateid_item) (
    field_part (λ (o : OpenOk). o.cinfo) _ (λ _. atomic_item) (
    field_part (λ (o : OpenOk). o.rflags) _ (λ _. word_item) (
    field_part (λ (o : OpenOk). o.attrset) _ (λ _. trimmed_item) (
    field_part (λ (o : OpenOk). o.delegation) _ (λ _. kept_delegation_item) (
    made_part _ (λ _. refl) (λ _. refl))))))))

pub opened_item : IsItem opened_at opened IsOpened
unfolding opened_at opened
opened_item =
    fits_as IsOpened (λ o f. (f.ok, (f.file, tt))) (λ o f. record { ok = f.0; file = f.1.0 }) (
    record_item (
    field_part (λ (o : Opened). o.ok) _ (λ _. kept_open_item) (
    field_part (λ (o : Opened). o.file) _ (λ _. hyper_item) (
    made_part _ (λ _. refl) (λ _. refl)))))
