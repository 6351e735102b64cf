-- The classes of refusal: what nothing stops, no class stops.
use Rattle.std.proofs.Common.{◌≡◌, Bool, true, false, Option, Some, None, refl}
use Rattle.std.specs.Option.{option_or}
use Rattle.nm_rules.specs.Checks.{Checks, Stop, first, refusal, behind_seqid, refuse_if}
use Rattle.nm_rules.specs.Checks.Stop.{Repeat}
use Rattle.nm_types.specs.declared.calls.Reply.{Reply}
use Rattle.nm_types.specs.declared.status.OpStatus.{OpStatus}

pub or_none : {A : Type 0} (a b : Option A) → option_or a b ≡ None → (a ≡ None) × (b ≡ None)
or_none None b none = (refl, none)
or_none (Some x) b none = cc

pub refusal_none : (o : Option OpStatus) → refusal o ≡ None → o ≡ None
refusal_none None none = refl
refusal_none (Some status) none = cc

pub refuse_if-none : (test : Bool) (status : OpStatus) → refuse_if test status ≡ None → test ≡ false
refuse_if-none true status none = cc
refuse_if-none false status none = refl

-- no class applies
pub record IsFree (c : Checks) : Type 0 where
  pub unresolved : c.unresolved ≡ None
  pub seqid : c.seqid ≡ None
  pub lease : c.lease ≡ None
  pub missing : c.missing ≡ None
  pub kind : c.kind ≡ None
  pub arguments : c.arguments ≡ None
  pub stale : c.stale ≡ None
  pub name : c.name ≡ None
  pub recall : c.recall ≡ None
  pub conflict : c.conflict ≡ None
  pub limit : c.limit ≡ None

pub all_free : (c : Checks) → first c ≡ None → IsFree c
all_free c none =
    let one = or_none (refusal c.unresolved) (option_or c.seqid (refusal (behind_seqid c))) none in
    let two = or_none c.seqid (refusal (behind_seqid c)) one.1 in
    let three = or_none c.lease _ (refusal_none (behind_seqid c) two.1) in
    let four = or_none c.missing _ three.1 in
    let five = or_none c.kind _ four.1 in
    let six = or_none c.arguments _ five.1 in
    let seven = or_none c.stale _ six.1 in
    let eight = or_none c.name _ seven.1 in
    let nine = or_none c.recall _ eight.1 in
    let ten = or_none c.conflict c.limit nine.1 in
    record {
      unresolved = refusal_none c.unresolved one.0;
      seqid = two.0;
      lease = three.0;
      missing = four.0;
      kind = five.0;
      arguments = six.0;
      stale = seven.0;
      name = eight.0;
      recall = nine.0;
      conflict = ten.0;
      limit = ten.1;
    }

-- where a kept reply is given, it is the seqid that says so
pub first_repeats : (c : Checks) (kept : Reply) → first c ≡ Some (Repeat kept) → (c.unresolved ≡ None) × (c.seqid ≡ Some (Repeat kept))
first_repeats c kept repeats = by_classes c.unresolved c.seqid (behind_seqid c) repeats
  where
    by_classes : (unresolved : Option OpStatus) (seqid : Option Stop) (more : Option OpStatus)
        → option_or (refusal unresolved) (option_or seqid (refusal more)) ≡ Some (Repeat kept) → (unresolved ≡ None) × (seqid ≡ Some (Repeat kept))
    by_classes (Some status) seqid more h = cc
    by_classes None (Some stop) more h = (refl, h)
    by_classes None None (Some status) h = cc
    by_classes None None None h = cc
