-- The reading and the spelling of a kept reply belong together.
use Rattle.std.proofs.Common.{◌≡◌, ℕ, ◌^◌, ◌<◌, Bool, true, false, cond, not, ◌&&◌, eqb, List, [], ◌∷◌, ◌++◌, length, Option, Some, None, Ok, Err, refl, sym, ap, subst, ◌∙◌, arith}
use Rattle.std.proofs.lemmas.Bool.{eqb-true}
use Rattle.std.proofs.lemmas.List.{append-nil}
use Rattle.std.specs.Prelude.{IfSome}
use Rattle.std.specs.List.Sorted.{IsStrictlySortedBy}
use Rattle.nm_xdr.specs.Fields.{Reading, field, made, IsItem, IsBytes}
use Rattle.nm_xdr.specs.Items.{word, enum_at}
use Rattle.nm_xdr.specs.Places.{Spot, end_of}
use Rattle.nm_xdr.proofs.FieldLaws.{field_part, tail_part, made_item, record_item, spelled_as, fits_as, same_value}
use Rattle.nm_xdr.proofs.ItemLaws.{enum_item}
use Rattle.nm_items.specs.declared.fault.ReadFault.{ReadFault}
use Rattle.nm_items.specs.declared.fault.ReadFault.TheVariants as item
use Rattle.nm_items.specs.Parts.{stateid_at, IsStateId}
use Rattle.nm_items.specs.Takes.{Fails}
use Rattle.nm_items.proofs.PartItems.{stateid_item}
use Rattle.nm_types.specs.Parties.{Party, party_cmp}
use Rattle.nm_types.specs.Statuses.{is_done, number_of}
use Rattle.nm_types.specs.declared.calls.Recall.{Recall}
use Rattle.nm_types.specs.declared.calls.Reply.{Reply}
use Rattle.nm_types.specs.declared.calls.ReplyValue.{ReplyValue}
use Rattle.nm_types.specs.declared.calls.ReplyValue.TheVariants as value
use Rattle.nm_types.specs.declared.calls.StateId.{StateId}
use Rattle.nm_types.specs.declared.results.Denied.{Denied}
use Rattle.nm_types.specs.declared.results.LockOutcome.{LockOutcome}
use Rattle.nm_types.specs.declared.results.LockOutcome.TheVariants.{Locked, Denied as InTheWay}
use Rattle.nm_types.specs.declared.results.Opened.{Opened}
use Rattle.nm_types.specs.declared.status.OpStatus.{OpStatus}
use Rattle.nm_types.specs.declared.status.OpStatus.TheVariants.{Nfs4Ok}
use Rattle.nm_results.specs.declared.kept_values.KeptOp.{KeptOp}
use Rattle.nm_results.specs.declared.kept_values.KeptOp.TheVariants as op
use Rattle.nm_results.specs.Kept.{where_at, where_there, is_there, is_denied, outcome_at, outcome, IsOutcome, outcome_suits, number_of_op, kept_op, op_with, number_by, kept_value_at, kept_value, IsKeptValue, suits, kept_bytes, kept_at, IsKeptReply, TakesKept}
use Rattle.nm_results.specs.KeptLocks.{kept_denied_at, IsKeptDenied}
use Rattle.nm_results.specs.KeptOpens.{IsOpened}
use Rattle.nm_results.specs.Results.{as_results_fault}
use Rattle.nm_results.proofs.KeptLockLaws.{kept_denied_item}
use Rattle.nm_results.proofs.KeptOpenLaws.{opened_item}
use Rattle.nm_results.proofs.PlaceLaws.{place_back}
use Rattle.nm_results.proofs.StatusLaws.{find_true, status_item}

-- ---- A value that is there with one status alone

-- There is none.
absent_item : {X : Type 0} (spell : Option X → List ℕ) (Fits : Option X → Type 0) → spell None ≡ [] → Fits None → ((o : Option X) → Fits o → None ≡ o)
    → IsItem (made None) spell Fits
absent_item {X} spell Fits empty fits_none only = record {
  found = λ bytes o rest fits e.
      let same = same_value None o bytes rest e in (
        same.1 ∙ ap (λ (s : List ℕ). s ++ rest) (sym empty) ∙ ap (λ (v : Option X). spell v ++ rest) same.0,
        subst Fits same.0 fits_none,
      );
  again = λ o rest fits. ap (λ (v : Option X). made None (spell v ++ rest)) (sym (only o fits)) ∙ ap (λ (s : List ℕ). made None (s ++ rest)) empty ∙ ap (λ (v : Option X). Ok (v, rest)) (only o fits);
}

abbrev There : {X : Type 0} → (X → Type 0) → Bool → Option X → Type 0
There Fits b o = IfSome o Fits × (is_there b o ≡ true)

there_from : {X : Type 0} (Fits : X → Type 0) (o : Option X) → There Fits true o → (x : X) × Fits x × (Some x ≡ o)
there_from Fits None f = absurd cc
there_from Fits (Some x) f = (x, f.0, refl)

none_there : {X : Type 0} (Fits : X → Type 0) (o : Option X) → There Fits false o → None ≡ o
none_there Fits None f = refl
none_there Fits (Some x) f = absurd cc

where_item : {X : Type 0} {read : Reading X} {spell : X → List ℕ} {Fits : X → Type 0} (b : Bool) → IsItem read spell Fits → IsItem (where_at b read) (where_there spell) (There Fits b)
where_item {X} {read} {spell} {Fits} true i = made_item (λ (x : X). Some x) (where_there spell) (There Fits true) (λ x f. ((f, refl), refl)) (there_from Fits) i
where_item {X} {read} {spell} {Fits} false i = absent_item (where_there spell) (There Fits false) refl (tt, refl) (none_there Fits)

-- ---- What LOCK tells

abbrev Told : List Party → OpStatus → Option LockOutcome → Type 0
Told holders status o = IsOutcome holders o × (outcome_suits status o ≡ true)

-- an OK isn't DENIED
apart : (s : OpStatus) → is_done s ≡ true → is_denied s ≡ false
unfolding is_done
apart Nfs4Ok e = refl
apart _ e = absurd cc

not_none : (a b : Bool) → a ≡ true → (not a && not b) ≡ true → ⊥
not_none true b e f = cc
not_none false b e f = cc

locked_from : (holders : List Party) (status : OpStatus) → is_done status ≡ true → (o : Option LockOutcome) → Told holders status o → (s : StateId) × IsStateId s × (Some (Locked s) ≡ o)
locked_from holders status done None f = absurd (not_none (is_done status) (is_denied status) done f.1)
locked_from holders status done (Some (Locked s)) f = (s, f.0, refl)
locked_from holders status done (Some (InTheWay d)) f = let no = apart status done in absurd cc

in_way_from : (holders : List Party) (status : OpStatus) → is_done status ≡ false → is_denied status ≡ true → (o : Option LockOutcome) → Told holders status o
    → (d : Denied) × IsKeptDenied holders d × (Some (InTheWay d) ≡ o)
in_way_from holders status done denied None f = absurd cc
in_way_from holders status done denied (Some (Locked s)) f = absurd cc
in_way_from holders status done denied (Some (InTheWay d)) f = (d, f.0, refl)

nothing_told : (holders : List Party) (status : OpStatus) → is_done status ≡ false → is_denied status ≡ false → (o : Option LockOutcome) → Told holders status o → None ≡ o
nothing_told holders status done denied None f = refl
nothing_told holders status done denied (Some (Locked s)) f = absurd cc
nothing_told holders status done denied (Some (InTheWay d)) f = absurd cc

none_suits : (a b : Bool) → a ≡ false → b ≡ false → (not a && not b) ≡ true
none_suits a b e f = rw (e, f) refl

outcome_by : (holders : List Party) (status : OpStatus) → IsStrictlySortedBy party_cmp holders → length holders < 2 ^ 64 → (done denied : Bool) → is_done status ≡ done → is_denied status ≡ denied
    → IsItem (cond done (field stateid_at (λ s. made (Some (Locked s)))) (cond denied (field (kept_denied_at holders) (λ d. made (Some (InTheWay d)))) (made None))) (outcome holders) (Told holders status)
outcome_by holders status rises few true denied e f =
    made_item (λ (s : StateId). Some (Locked s)) (outcome holders) (Told holders status) (λ s g. ((g, e), refl)) (locked_from holders status e) stateid_item
outcome_by holders status rises few false true e f =
    made_item (λ (d : Denied). Some (InTheWay d)) (outcome holders) (Told holders status) (λ d g. ((g, f), refl)) (in_way_from holders status e f) (kept_denied_item holders rises few)
outcome_by holders status rises few false false e f =
    absent_item (outcome holders) (Told holders status) refl (tt, none_suits (is_done status) (is_denied status) e f) (nothing_told holders status e f)

outcome_item : (holders : List Party) (status : OpStatus) → IsStrictlySortedBy party_cmp holders → length holders < 2 ^ 64 → IsItem (outcome_at holders status) (outcome holders) (Told holders status)
unfolding outcome_at
outcome_item holders status rises few = outcome_by holders status rises few (is_done status) (is_denied status) refl refl

-- ---- The operations

op_small : (o : KeptOp) → number_of_op o < 2 ^ 32
unfolding number_of_op
op_small op.Close = omega arith
op_small op.Lock = omega arith
op_small op.LockU = omega arith
op_small op.Open = omega arith
op_small op.OpenConfirm = omega arith
op_small op.OpenDowngrade = omega arith

op_back : (o : KeptOp) → kept_op (number_of_op o) ≡ Some o
unfolding kept_op number_of_op
op_back op.Close = refl
op_back op.Lock = refl
op_back op.LockU = refl
op_back op.Open = refl
op_back op.OpenConfirm = refl
op_back op.OpenDowngrade = refl

op_forth : (n : ℕ) (o : KeptOp) → kept_op n ≡ Some o → number_of_op o ≡ n
unfolding kept_op
op_forth n o e =
    eqb-true (number_of_op o) n
    (find_true (λ p. eqb (number_of_op p) n) (op.Close ∷ op.Lock ∷ op.LockU ∷ op.Open ∷ op.OpenConfirm ∷ op.OpenDowngrade ∷ []) o e)

kept_op_item : IsItem (enum_at kept_op) (λ o. word (number_of_op o)) (λ _. Unit {0})
kept_op_item = enum_item number_of_op kept_op op_small op_back op_forth

-- ---- The value

-- A value that can be spelled, of this operation with this status.
abbrev IsOf : List Party → KeptOp → OpStatus → ReplyValue → Type 0
IsOf holders o status v = IsKeptValue holders v × ((suits status v ≡ true) × (op_with v ≡ Some o))

close_from : (holders : List Party) (status : OpStatus) (v : ReplyValue) → IsOf holders op.Close status v → (o : Option StateId) × There IsStateId (is_done status) o × (value.Close o ≡ v)
unfolding IsKeptValue suits op_with
close_from holders status (value.Close o) f = (o, (f.0, f.1.0), refl)
close_from holders status _ f = absurd cc

lock_from : (holders : List Party) (status : OpStatus) (v : ReplyValue) → IsOf holders op.Lock status v → (o : Option LockOutcome) × Told holders status o × (value.Lock o ≡ v)
unfolding IsKeptValue suits op_with
lock_from holders status (value.Lock o) f = (o, (f.0, f.1.0), refl)
lock_from holders status _ f = absurd cc

unlock_from : (holders : List Party) (status : OpStatus) (v : ReplyValue) → IsOf holders op.LockU status v → (o : Option StateId) × There IsStateId (is_done status) o × (value.Unlock o ≡ v)
unfolding IsKeptValue suits op_with
unlock_from holders status (value.Unlock o) f = (o, (f.0, f.1.0), refl)
unlock_from holders status _ f = absurd cc

open_from : (holders : List Party) (status : OpStatus) (v : ReplyValue) → IsOf holders op.Open status v → (o : Option Opened) × There IsOpened (is_done status) o × (value.Open o ≡ v)
unfolding IsKeptValue suits op_with
open_from holders status (value.Open o) f = (o, (f.0, f.1.0), refl)
open_from holders status _ f = absurd cc

confirm_from : (holders : List Party) (status : OpStatus) (v : ReplyValue) → IsOf holders op.OpenConfirm status v → (o : Option StateId) × There IsStateId (is_done status) o × (value.OpenConfirm o ≡ v)
unfolding IsKeptValue suits op_with
confirm_from holders status (value.OpenConfirm o) f = (o, (f.0, f.1.0), refl)
confirm_from holders status _ f = absurd cc

downgrade_from : (holders : List Party) (status : OpStatus) (v : ReplyValue) → IsOf holders op.OpenDowngrade status v → (o : Option StateId) × There IsStateId (is_done status) o × (value.OpenDowngrade o ≡ v)
unfolding IsKeptValue suits op_with
downgrade_from holders status (value.OpenDowngrade o) f = (o, (f.0, f.1.0), refl)
downgrade_from holders status _ f = absurd cc

value_item : (holders : List Party) (o : KeptOp) (status : OpStatus) → IsStrictlySortedBy party_cmp holders → length holders < 2 ^ 64
    → IsItem (kept_value_at holders o status) (kept_value holders) (IsOf holders o status)
unfolding kept_value_at kept_value IsKeptValue suits op_with
value_item holders op.Close status rises few =
    made_item (λ v. value.Close v) (kept_value holders) (IsOf holders op.Close status) (λ v f. ((f.0, (f.1, refl)), refl)) (close_from holders status) (where_item (is_done status) stateid_item)
value_item holders op.Lock status rises few =
    made_item (λ v. value.Lock v) (kept_value holders) (IsOf holders op.Lock status) (λ v f. ((f.0, (f.1, refl)), refl)) (lock_from holders status) (outcome_item holders status rises few)
value_item holders op.LockU status rises few =
    made_item (λ v. value.Unlock v) (kept_value holders) (IsOf holders op.LockU status) (λ v f. ((f.0, (f.1, refl)), refl)) (unlock_from holders status) (where_item (is_done status) stateid_item)
value_item holders op.Open status rises few =
    made_item (λ v. value.Open v) (kept_value holders) (IsOf holders op.Open status) (λ v f. ((f.0, (f.1, refl)), refl)) (open_from holders status) (where_item (is_done status) opened_item)
value_item holders op.OpenConfirm status rises few =
    made_item (λ v. value.OpenConfirm v) (kept_value holders) (IsOf holders op.OpenConfirm status) (λ v f. ((f.0, (f.1, refl)), refl)) (confirm_from holders status) (where_item (is_done status) stateid_item)
value_item holders op.OpenDowngrade status rises few =
    made_item (λ v. value.OpenDowngrade v) (kept_value holders) (IsOf holders op.OpenDowngrade status) (λ v f. ((f.0, (f.1, refl)), refl)) (downgrade_from holders status) (where_item (is_done status) stateid_item)

-- ---- The whole

-- which operation it is, where it is one of these
abbrev op_by : Option KeptOp → KeptOp
op_by None = op.Close
op_by (Some o) = o

some_op : (holders : List Party) (v : ReplyValue) → IsKeptValue holders v → op_with v ≡ Some (op_by (op_with v))
unfolding IsKeptValue op_with
some_op holders (value.Close o) f = refl
some_op holders (value.Lock o) f = refl
some_op holders (value.Unlock o) f = refl
some_op holders (value.Open o) f = refl
some_op holders (value.OpenConfirm o) f = refl
some_op holders (value.OpenDowngrade o) f = refl
some_op holders _ f = absurd f

-- A reply with this status whose value is of this operation.
abbrev IsReplyOf : List Party → KeptOp → OpStatus → Reply → Type 0
IsReplyOf holders o status r = IsOf holders o status r.value × ((r.status ≡ status) × (r.recalls ≡ []))

same_reply : (status told : OpStatus) (v : ReplyValue) (recalls : List Recall) → told ≡ status → recalls ≡ []
    → ◌≡◌ {A = Reply} (record { status = status; value = v; recalls = [] }) (record { status = told; value = v; recalls = recalls })
same_reply status told v recalls e f = rw (e, f) refl

reply_item : (holders : List Party) (o : KeptOp) (status : OpStatus) → IsStrictlySortedBy party_cmp holders → length holders < 2 ^ 64
    → IsItem (field (kept_value_at holders o status) (λ v. made (record { status = status; value = v; recalls = [] }))) (λ r. kept_value holders r.value) (IsReplyOf holders o status)
reply_item holders o status rises few =
    made_item (λ (v : ReplyValue). record { status = status; value = v; recalls = [] }) (λ (r : Reply). kept_value holders r.value) (IsReplyOf holders o status)
    (λ v f. ((f, (refl, refl)), refl))
    (λ r f. (r.value, f.0, same_reply status r.status r.value r.recalls f.1.0 f.1.1)) (value_item holders o status rises few)

same_head : (a b : KeptOp) (s t : OpStatus) → a ≡ b → s ≡ t → ◌≡◌ {A = (Unit {0} × KeptOp) × OpStatus} ((tt, a), s) ((tt, b), t)
same_head a b s t e f = rw (e, f) refl

tells : (holders : List Party) (o : KeptOp) (status : OpStatus) (r : Reply) → IsReplyOf holders o status r
    → IsKeptReply holders r × (◌≡◌ {A = (Unit {0} × KeptOp) × OpStatus} ((tt, op_by (op_with r.value)), r.status) ((tt, o), status))
tells holders o status r f =
    let is : op_by (op_with r.value) ≡ o = ap op_by f.0.1.1 in (
      record { value = f.0.0; status = ap (λ (s : OpStatus). suits s r.value) f.1.0 ∙ f.0.1.0; recalls = f.1.1 },
      same_head (op_by (op_with r.value)) o r.status status is f.1.0,
    )

again_of : (holders : List Party) (r : Reply) → IsKeptReply holders r → IsReplyOf holders (op_by (op_with r.value)) r.status r
again_of holders r f = ((f.value, (f.status, some_op holders r.value f.value)), (refl, f.recalls))

kept_spelled : (holders : List Party) (r : Reply) → IsKeptReply holders r
    → kept_bytes holders r ≡ word (number_of_op (op_by (op_with r.value))) ++ (word (number_of r.status) ++ kept_value holders r.value)
unfolding kept_bytes
kept_spelled holders r f =
    ap (λ (n : ℕ). word n ++ (word (number_of r.status) ++ (kept_value holders r.value ++ []))) (ap number_by (some_op holders r.value f.value))
    ∙ ap (λ (b : List ℕ). word (number_of_op (op_by (op_with r.value))) ++ (word (number_of r.status) ++ b)) (append-nil (kept_value holders r.value))

pub kept_item : (holders : List Party) → IsStrictlySortedBy party_cmp holders → length holders < 2 ^ 64 → IsItem (kept_at holders) (kept_bytes holders) (IsKeptReply holders)
unfolding kept_at
kept_item holders rises few =
    spelled_as (kept_bytes holders) (λ r f. kept_spelled holders r f) (
    fits_as (IsKeptReply holders) (λ r f. (tt, (tt, f))) (λ r f. f.1.1) (
    record_item (
    field_part (λ (r : Reply). op_by (op_with r.value)) _ (λ _. kept_op_item) (
    field_part (λ (r : Reply). r.status) _ (λ _. status_item) (
    tail_part (IsKeptReply holders) (λ s r f. tells holders s.0.1 s.1 r f) (λ r f. again_of holders r f) (λ s. reply_item holders s.0.1 s.1 rises few))))))

-- ---- An item that isn't read

pub refused : (holders : List Party) (from to : Spot) (e : ReadFault) → Fails (end_of from) e (kept_at holders from.rest) → TakesKept holders from (Err (as_results_fault e)) to
refused holders from to (item.Xdr e) f = rw f.0 (ap (λ (n : ℕ). Some n) (place_back (end_of from) e f.1))
refused holders from to item.Memory f = tt

-- A kept reply that was read can be written.
pub kept_read_fits : (holders : List Party) (bytes : List ℕ) (r : Reply) (rest : List ℕ) → IsStrictlySortedBy party_cmp holders → length holders < 2 ^ 64 → IsBytes bytes
    → kept_at holders bytes ≡ Ok (r, rest) → IsKeptReply holders r
kept_read_fits holders bytes r rest rises few fits e = ((kept_item holders rises few).found bytes r rest fits e).1
