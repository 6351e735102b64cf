-- A loop over operations: each step leaves fewer of them to read.
use Rattle.std.proofs.Common.{◌≡◌, ℕ, suc, ◌+◌, ◌-◌, ◌≤◌, ◌<◌, List, [], ◌∷◌, ◌++◌, length, Result, Ok, Err, refl, sym, ap, subst, ◌∙◌, arith}
use Rattle.nm_xdr.specs.declared.fault.XdrFault.{XdrFault}
use Rattle.nm_xdr.specs.declared.fault.XdrFault.TheVariants.{Short, Padding, Bool, TooLong, Enum}
use Rattle.nm_xdr.specs.Fields.{Fault, ended}
use Rattle.nm_xdr.specs.Places.{Spot, end_of, fault_of, place_of}
use Rattle.nm_items.specs.declared.fault.ReadFault.{ReadFault}
use Rattle.nm_items.specs.declared.fault.ReadFault.TheVariants as item
use Rattle.nm_args.specs.declared.op.Op.{Op}
use Rattle.nm_args.specs.declared.compound.CompoundEnd.{CompoundEnd}
use Rattle.nm_args.specs.declared.compound.CompoundEnd.TheVariants.{Clean}
use Rattle.nm_args.specs.Compounds.{Next, one, none_as, next_at, then_by, ops_at, as_garbage, IsGarbage, IsRefused}
use Rattle.nm_args.specs.Steps.{IsMissing}

abbrev Read : Type 0
Read = Result (List Op × CompoundEnd) Fault

-- What is left to read behind what was read is what is read of all.
abbrev pub OpsLeft : ℕ → ℕ → List Op → Spot → Spot → Type 0
OpsLeft count i ops here from = (ops_at (count - i) ops here.rest ≡ ops_at count [] from.rest) × (end_of here ≡ end_of from)

by_next : (count i : ℕ) (ops : List Op) (bytes : List ℕ) → i < count
    → ops_at (count - i) ops bytes ≡ then_by (λ o rest. ops_at (count - (i + 1)) (ops ++ o ∷ []) rest) ops (next_at bytes)
unfolding ops_at
by_next count i ops bytes lt =
    let k : count - i ≡ suc (count - (i + 1)) = omega arith in
    rw k refl

-- One more was read.
pub op_taken : (count i : ℕ) (before after : List Op) (here to from : Spot) (o : Op) → i < count → after ≡ before ++ o ∷ []
    → (next_at here.rest ≡ one o to.rest) × (end_of to ≡ end_of here) → OpsLeft count i before here from → OpsLeft count (i + 1) after to from
op_taken count i before after here to from o lt is read left = (
  rw is (sym (by_next count i before here.rest lt ∙ ap (λ (n : Next). then_by (λ x rest. ops_at (count - (i + 1)) (before ++ x ∷ []) rest) before n) read.0) ∙ left.0),
  read.1 ∙ left.1,
)

-- There is no further one.
pub ops_end : (count i : ℕ) (ops : List Op) (here from : Spot) (end : CompoundEnd) → i < count → next_at here.rest ≡ none_as end → OpsLeft count i ops here from
    → ops_at count [] from.rest ≡ Ok (ops, end)
ops_end count i ops here from end lt read left =
    sym left.0 ∙ by_next count i ops here.rest lt ∙ ap (λ (n : Next). then_by (λ x rest. ops_at (count - (i + 1)) (ops ++ x ∷ []) rest) ops n) read

-- The place of a fault, and how many bytes are left there.
pub fault_place : (total : ℕ) (e : XdrFault) → place_of e ≤ total → place_of e + (fault_of total e).left ≡ total
fault_place total (Short at) le = omega arith
fault_place total (Padding at) le = omega arith
fault_place total (Bool at got) le = omega arith
fault_place total (TooLong at got max) le = omega arith
fault_place total (Enum at got) le = omega arith

-- A number isn't read.
pub op_missing : (count i : ℕ) (ops : List Op) (here from : Spot) (e : ReadFault) → i < count → IsMissing here e → OpsLeft count i ops here from
    → IsRefused (end_of from) (as_garbage e) (ops_at count [] from.rest)
op_missing count i ops here from (item.Xdr e) lt read left =
    let given : ops_at count [] from.rest ≡ Err (fault_of (end_of here) e) =
    sym left.0 ∙ by_next count i ops here.rest lt ∙ ap (λ (n : Next). then_by (λ x rest. ops_at (count - (i + 1)) (ops ++ x ∷ []) rest) ops n) read.0 in
    subst (λ (r : Read). IsGarbage (end_of from) (place_of e) r) (sym given) (fault_place (end_of here) e read.1 ∙ left.1)
op_missing count i ops here from item.Memory lt read left = tt

-- All were read: nothing may be left.
pub ops_done : (count i : ℕ) (ops : List Op) (here from : Spot) → count ≤ i → OpsLeft count i ops here from
    → ops_at count [] from.rest ≡ ended {X = List Op × CompoundEnd} (ops, Clean) here.rest
unfolding ops_at
ops_done count i ops here from le left =
    let k : count - i ≡ 0 = omega arith in
    sym left.0 ∙ rw k refl

garbage_left : (ops : List Op) (place : ℕ) (rest : List ℕ) → 0 < length rest → IsGarbage {X = List Op × CompoundEnd} (place + length rest) place (ended {X = List Op × CompoundEnd} (ops, Clean) rest)
garbage_left ops place [] h = absurd (omega arith)
garbage_left ops place (b ∷ rest) h = refl

clean_end : (ops : List Op) (rest : List ℕ) → length rest ≤ 0 → ended {X = List Op × CompoundEnd} (ops, Clean) rest ≡ Ok (ops, Clean)
clean_end ops [] h = refl
clean_end ops (b ∷ rest) h = absurd (omega arith)

pub ops_left_over : (count i : ℕ) (ops : List Op) (here from : Spot) → count ≤ i → 0 < length here.rest → OpsLeft count i ops here from
    → IsGarbage (end_of from) here.place (ops_at count [] from.rest)
ops_left_over count i ops here from le some left =
    subst (λ (n : ℕ). IsGarbage n here.place (ops_at count [] from.rest)) left.1
    (subst (λ (r : Read). IsGarbage (end_of here) here.place r) (sym (ops_done count i ops here from le left)) (garbage_left ops here.place here.rest some))

pub ops_clean : (count i : ℕ) (ops : List Op) (here from : Spot) → count ≤ i → length here.rest ≤ 0 → OpsLeft count i ops here from
    → ops_at count [] from.rest ≡ Ok (ops, Clean)
ops_clean count i ops here from le none left = ops_done count i ops here from le left ∙ clean_end ops here.rest none
