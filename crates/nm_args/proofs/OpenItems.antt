-- The reading and the spelling of the arguments of operations on opens belong together, one line a field.
use Rattle.std.proofs.Common.{◌≡◌, ℕ, ◌^◌, ◌<◌, List, [], ◌∷◌, ◌++◌, Some, Ok, refl, sym, ap, subst, arith}
use Rattle.std.proofs.lemmas.List.{append-nil}
use Rattle.nm_xdr.specs.Fields.{field, made, IsBytes, IsItem}
use Rattle.nm_xdr.specs.Items.{word, opaque, enum_at}
use Rattle.nm_xdr.proofs.FieldLaws.{field_part, made_part, record_item, fits_as, spelled_as, union_item, same_value}
use Rattle.nm_xdr.proofs.ItemLaws.{word_item, hyper_item, enum_item}
use Rattle.nm_types.specs.declared.calls.StateRef.{StateRef}
use Rattle.nm_types.specs.declared.args.CloseArgs.{CloseArgs}
use Rattle.nm_types.specs.declared.args.OpenType.{OpenType}
use Rattle.nm_types.specs.declared.args.OpenType.TheVariants.{NoCreate, Unchecked, Guarded, Exclusive}
use Rattle.nm_types.specs.declared.args.Claim.{Claim}
use Rattle.nm_types.specs.declared.args.Claim.TheVariants.{Null, Previous, DelegateCur, DelegatePrev}
use Rattle.nm_types.specs.declared.args.OpenConfirmArgs.{OpenConfirmArgs}
use Rattle.nm_types.specs.declared.args.OpenDowngradeArgs.{OpenDowngradeArgs}
use Rattle.nm_types.specs.Wire.{stateid_bytes}
use Rattle.nm_xdr.proofs.MadeLaws.{made_found, made_again}
use Rattle.nm_items.specs.Parts.{IsStateRef}
use Rattle.nm_items.proofs.PartItems.{fattr_item, ref_item}
use Rattle.nm_args.specs.declared.op.OwnedOpen.{OwnedOpen}
use Rattle.nm_args.specs.Parts.{IsName}
use Rattle.nm_args.specs.declared.parts.Clientids.{Clientids}
use Rattle.nm_args.specs.Opens.{close, close_at, IsClose, Mode, unchecked, guarded, exclusive, mode_number, mode_of, mode, how, how_at, Making, not_made, is_made, making_number, making_of, making, made_how, made_how_at, open_type, open_type_at, IsOpenType, Claiming, by_name, by_previous, by_delegation, by_earlier_delegation, claiming_number, claiming_of, claiming, claimed, claimed_at, delegated_at, claim, claim_at, IsClaim, how_and_what, how_and_what_at, opening, opening_at, IsOpening, confirm, confirm_at, IsConfirm, downgrade, downgrade_at, IsDowngrade}
use Rattle.nm_args.proofs.PartItems.{name_item, owner_item, number_found}

-- ---- Opens

pub close_item : IsItem close_at close IsClose
unfolding close_at close
close_item =
    fits_as IsClose (λ a f. (f.0, (f.1, tt))) (λ a f. (f.0, f.1.0)) (
    spelled_as close (λ a _. ap (λ (b : List ℕ). word a.seqid ++ b) refl) (
    record_item (
    field_part (λ (a : CloseArgs). a.seqid) _ (λ _. word_item) (
    field_part (λ (a : CloseArgs). a.stateid) _ (λ _. ref_item) (
    made_part _ (λ _. refl) (λ _. refl))))))

pub confirm_item : IsItem confirm_at confirm IsConfirm
unfolding confirm_at confirm
confirm_item =
    fits_as IsConfirm (λ a f. (f.0, (f.1, tt))) (λ a f. (f.0, f.1.0)) (
    record_item (
    field_part (λ (a : OpenConfirmArgs). a.stateid) _ (λ _. ref_item) (
    field_part (λ (a : OpenConfirmArgs). a.seqid) _ (λ _. word_item) (
    made_part _ (λ _. refl) (λ _. refl)))))

pub downgrade_item : IsItem downgrade_at downgrade IsDowngrade
unfolding downgrade_at downgrade
downgrade_item =
    fits_as IsDowngrade (λ a f. (f.0, (f.1, (f.2, (f.3, tt))))) (λ a f. (f.0, f.1.0, f.1.1.0, f.1.1.1.0)) (
    record_item (
    field_part (λ (a : OpenDowngradeArgs). a.stateid) _ (λ _. ref_item) (
    field_part (λ (a : OpenDowngradeArgs). a.seqid) _ (λ _. word_item) (
    field_part (λ (a : OpenDowngradeArgs). a.access) _ (λ _. word_item) (
    field_part (λ (a : OpenDowngradeArgs). a.deny) _ (λ _. word_item) (
    made_part _ (λ _. refl) (λ _. refl)))))))

-- whether and how a file is made

mode_small : (m : Mode) → mode_number m < 2 ^ 32
unfolding mode_number
mode_small unchecked = omega arith
mode_small guarded = omega arith
mode_small exclusive = omega arith

mode_back : (m : Mode) → mode_of (mode_number m) ≡ Some m
unfolding mode_of mode_number
mode_back unchecked = refl
mode_back guarded = refl
mode_back exclusive = refl

mode_item : IsItem (enum_at mode_of) (λ m. word (mode_number m)) (λ _. Unit {0})
unfolding mode_of
mode_item = enum_item mode_number mode_of mode_small mode_back (λ n m e. number_found mode_number n (unchecked ∷ guarded ∷ exclusive ∷ []) m e)

-- a file is made, and how
IsMade : OpenType → Type 0
IsMade t = IsOpenType t × (making t ≡ is_made)

how_item : (m : Mode) → IsItem (how_at m) how (λ t. IsMade t × (mode t ≡ m))
unfolding how_at IsMade
how_item m = record { found = how_found m; again = λ t rest f. how_again m t rest f }
  where
    how_found : (m : Mode) (bytes : List ℕ) (t : OpenType) (rest : List ℕ) → IsBytes bytes → how_at m bytes ≡ Ok (t, rest)
        → (bytes ≡ how t ++ rest) × ((IsOpenType t × (making t ≡ is_made)) × (mode t ≡ m))
    how_found unchecked bytes t rest fits e =
        made_found (λ f. Unchecked f) how (λ x. (IsOpenType x × (making x ≡ is_made)) × (mode x ≡ unchecked)) (λ f p. (((p, refl), refl), refl)) fattr_item bytes t rest fits e
    how_found guarded bytes t rest fits e =
        made_found (λ f. Guarded f) how (λ x. (IsOpenType x × (making x ≡ is_made)) × (mode x ≡ guarded)) (λ f p. (((p, refl), refl), refl)) fattr_item bytes t rest fits e
    how_found exclusive bytes t rest fits e =
        made_found (λ v. Exclusive v) how (λ x. (IsOpenType x × (making x ≡ is_made)) × (mode x ≡ exclusive)) (λ v p. (((p, refl), refl), refl)) hyper_item bytes t rest fits e

    by_kind : (t : OpenType) (rest : List ℕ) → IsOpenType t × (making t ≡ is_made) → how_at (mode t) (how t ++ rest) ≡ Ok (t, rest)
    by_kind NoCreate rest f = absurd (let e : not_made ≡ is_made = f.1 in cc)
    by_kind (Unchecked f) rest p = made_again (λ x. Unchecked x) fattr_item f rest p.0
    by_kind (Guarded f) rest p = made_again (λ x. Guarded x) fattr_item f rest p.0
    by_kind (Exclusive v) rest p = made_again (λ x. Exclusive x) hyper_item v rest p.0

    how_again : (m : Mode) (t : OpenType) (rest : List ℕ) → (IsOpenType t × (making t ≡ is_made)) × (mode t ≡ m) → how_at m (how t ++ rest) ≡ Ok (t, rest)
    how_again m t rest f = subst (λ (x : Mode). how_at x (how t ++ rest) ≡ Ok (t, rest)) f.1 (by_kind t rest f.0)

made_item : IsItem (field (enum_at mode_of) how_at) (λ t. word (mode_number (mode t)) ++ how t) IsMade
made_item = union_item mode IsMade (λ _ _. tt) mode_item (λ m _. how_item m)

making_small : (m : Making) → making_number m < 2 ^ 32
unfolding making_number
making_small not_made = omega arith
making_small is_made = omega arith

making_back : (m : Making) → making_of (making_number m) ≡ Some m
unfolding making_of making_number
making_back not_made = refl
making_back is_made = refl

making_item : IsItem (enum_at making_of) (λ m. word (making_number m)) (λ _. Unit {0})
unfolding making_of
making_item = enum_item making_number making_of making_small making_back (λ n m e. number_found making_number n (not_made ∷ is_made ∷ []) m e)

-- what is made is spelled by its mode
made_spelled : (t : OpenType) → making t ≡ is_made → made_how t ≡ word (mode_number (mode t)) ++ how t
unfolding mode_number
made_spelled NoCreate e = absurd cc
made_spelled (Unchecked f) e = refl
made_spelled (Guarded f) e = refl
made_spelled (Exclusive v) e = refl

open_arm_item : (m : Making) → IsItem (made_how_at m) made_how (λ t. IsOpenType t × (making t ≡ m))
unfolding made_how_at IsMade
open_arm_item not_made = record { found = none_found; again = none_again }
  where
    none_found : (bytes : List ℕ) (t : OpenType) (rest : List ℕ) → IsBytes bytes → made NoCreate bytes ≡ Ok (t, rest)
        → (bytes ≡ made_how t ++ rest) × (IsOpenType t × (making t ≡ not_made))
    none_found bytes t rest fits e =
        let same = same_value NoCreate t bytes rest e in
        subst (λ (x : OpenType). (bytes ≡ made_how x ++ rest) × (IsOpenType x × (making x ≡ not_made))) same.0 (same.1, (tt, refl))

    none_again : (t : OpenType) (rest : List ℕ) → IsOpenType t × (making t ≡ not_made) → made NoCreate (made_how t ++ rest) ≡ Ok (t, rest)
    none_again NoCreate rest f = refl
    none_again (Unchecked x) rest f = absurd (let e : is_made ≡ not_made = f.1 in cc)
    none_again (Guarded x) rest f = absurd (let e : is_made ≡ not_made = f.1 in cc)
    none_again (Exclusive x) rest f = absurd (let e : is_made ≡ not_made = f.1 in cc)
open_arm_item is_made = spelled_as made_how (λ t f. made_spelled t f.1) made_item

pub open_type_item : IsItem open_type_at open_type IsOpenType
unfolding open_type_at open_type
open_type_item = union_item making IsOpenType (λ _ _. tt) making_item (λ m _. open_arm_item m)

-- claims

claiming_small : (c : Claiming) → claiming_number c < 2 ^ 32
unfolding claiming_number
claiming_small by_name = omega arith
claiming_small by_previous = omega arith
claiming_small by_delegation = omega arith
claiming_small by_earlier_delegation = omega arith

claiming_back : (c : Claiming) → claiming_of (claiming_number c) ≡ Some c
unfolding claiming_of claiming_number
claiming_back by_name = refl
claiming_back by_previous = refl
claiming_back by_delegation = refl
claiming_back by_earlier_delegation = refl

claiming_item : IsItem (enum_at claiming_of) (λ c. word (claiming_number c)) (λ _. Unit {0})
unfolding claiming_of
claiming_item =
    enum_item claiming_number claiming_of claiming_small claiming_back
    (λ n c e. number_found claiming_number n (by_name ∷ by_previous ∷ by_delegation ∷ by_earlier_delegation ∷ []) c e)

delegated_item : IsItem delegated_at (λ d. stateid_bytes d.0 ++ opaque d.1) (λ d. IsStateRef d.0 × IsName d.1)
unfolding delegated_at
delegated_item =
    fits_as (λ d. IsStateRef d.0 × IsName d.1) (λ d f. (f.0, (f.1, tt))) (λ d f. (f.0, f.1.0)) (
    spelled_as (λ d. stateid_bytes d.0 ++ opaque d.1) (λ d _. ap (λ (b : List ℕ). stateid_bytes d.0 ++ b) (sym (append-nil (opaque d.1)))) (
    record_item (
    field_part (λ (d : StateRef × List ℕ). d.0) _ (λ _. ref_item) (
    field_part (λ (d : StateRef × List ℕ). d.1) _ (λ _. name_item) (
    made_part _ (λ _. refl) (λ _. refl))))))

claimed_found : (c : Claiming) (bytes : List ℕ) (x : Claim) (rest : List ℕ) → IsBytes bytes → claimed_at c bytes ≡ Ok (x, rest)
    → (bytes ≡ claimed x ++ rest) × (IsClaim x × (claiming x ≡ c))
unfolding claimed_at
claimed_found by_name bytes x rest fits e =
    made_found (λ n. Null n) claimed (λ y. IsClaim y × (claiming y ≡ by_name)) (λ n f. ((f, refl), refl)) name_item bytes x rest fits e
claimed_found by_previous bytes x rest fits e =
    made_found (λ k. Previous k) claimed (λ y. IsClaim y × (claiming y ≡ by_previous)) (λ k f. ((f, refl), refl)) word_item bytes x rest fits e
claimed_found by_delegation bytes x rest fits e =
    made_found (λ d. DelegateCur d.0 d.1) claimed (λ y. IsClaim y × (claiming y ≡ by_delegation)) (λ d f. ((f, refl), refl)) delegated_item bytes x rest fits e
claimed_found by_earlier_delegation bytes x rest fits e =
    made_found (λ n. DelegatePrev n) claimed (λ y. IsClaim y × (claiming y ≡ by_earlier_delegation)) (λ n f. ((f, refl), refl)) name_item bytes x rest fits e

claimed_again : (x : Claim) (rest : List ℕ) → IsClaim x → claimed_at (claiming x) (claimed x ++ rest) ≡ Ok (x, rest)
unfolding claimed_at
claimed_again (Null name) rest f = made_again (λ n. Null n) name_item name rest f
claimed_again (Previous kind) rest f = made_again (λ k. Previous k) word_item kind rest f
claimed_again (DelegateCur stateid name) rest f = made_again (λ d. DelegateCur d.0 d.1) delegated_item (stateid, name) rest f
claimed_again (DelegatePrev name) rest f = made_again (λ n. DelegatePrev n) name_item name rest f

claimed_item : (c : Claiming) → IsItem (claimed_at c) claimed (λ x. IsClaim x × (claiming x ≡ c))
claimed_item c = record {
  found = claimed_found c;
  again = λ x rest f. subst (λ (k : Claiming). claimed_at k (claimed x ++ rest) ≡ Ok (x, rest)) f.1 (claimed_again x rest f.0);
}

pub claim_item : IsItem claim_at claim IsClaim
unfolding claim_at claim
claim_item = union_item claiming IsClaim (λ _ _. tt) claiming_item (λ c _. claimed_item c)

how_and_what_item : IsItem how_and_what_at how_and_what (λ h. IsOpenType h.0 × IsClaim h.1)
unfolding how_and_what_at how_and_what
how_and_what_item =
    fits_as (λ h. IsOpenType h.0 × IsClaim h.1) (λ h f. (f.0, (f.1, tt))) (λ h f. (f.0, f.1.0)) (
    record_item (
    field_part (λ (h : OpenType × Claim). h.0) _ (λ _. open_type_item) (
    field_part (λ (h : OpenType × Claim). h.1) _ (λ _. claim_item) (
    made_part _ (λ _. refl) (λ _. refl)))))

pub opening_item : (which : Clientids) → IsItem (opening_at which) opening (IsOpening which)
unfolding opening_at opening
opening_item which =
    fits_as (IsOpening which)
    (λ o f. (f.1.seqid, (f.1.access, (f.1.deny, ((f.0, f.1.owner), ((f.1.opentype, f.1.claim), tt))))))
    (λ o f. (f.1.1.1.0.0, record { seqid = f.0; access = f.1.0; deny = f.1.1.0; owner = f.1.1.1.0.1; opentype = f.1.1.1.1.0.0; claim = f.1.1.1.1.0.1 })) (
    record_item (
    field_part (λ (o : OwnedOpen). o.args.seqid) _ (λ _. word_item) (
    field_part (λ (o : OwnedOpen). o.args.access) _ (λ _. word_item) (
    field_part (λ (o : OwnedOpen). o.args.deny) _ (λ _. word_item) (
    field_part (λ (o : OwnedOpen). (o.clientid, o.args.owner)) _ (λ _. owner_item which) (
    field_part (λ (o : OwnedOpen). (o.args.opentype, o.args.claim)) _ (λ _. how_and_what_item) (
    made_part _ (λ _. refl) (λ _. refl))))))))
