-- The tables after an answer are those that the code leaves.
use Rattle.std.proofs.Common.{◌≡◌, ℕ, ◌+◌, Bool, true, false, cond, Option, Some, None, refl, ap, sym, subst, ◌∙◌, arith}
use Rattle.std.specs.Prelude.{is_none, unwrap_or, ◌&&◌, ◌||◌, ◌<◌, ◌≤◌, ◌-◌, ◌^◌, nat_le, nat_lt}
use Rattle.std.proofs.lemmas.Bool.{true≢false, or_parts}
use Rattle.std.proofs.lemmas.Bool.Decides.{nat_tests}
use Rattle.nm_types.specs.Parties.{Party}
use Rattle.nm_rules.specs.Attributes.{asked_size}
use Rattle.nm_rules.specs.Contents.{tree_after, size_limit, total_limit, total_size}
use Rattle.nm_rules.specs.Shares.{open_of}
use Rattle.nm_rules.specs.Past.{Now, words, no_words, with_owners, deed_words, judgement_for, noted, owner_word, seqid_owner, started_by, opener, open_tree, opentype_asks, cuts}
use Rattle.nm_types.specs.Statuses.{is_done, advances}
use Rattle.nm_rules.specs.Seqids.{OwnerWord, closed_after, owners_after}
use Rattle.nm_rules.specs.Seqids.OwnerWord.{Stays}
use Rattle.nm_rules.specs.Seen.{Seen, look, after, after_words, empty}
use Rattle.nm_rules.specs.Opens.{GoesOpen, file_to_open, target, tree_limit}
use Rattle.nm_rules.specs.Answer.{answer_to, reply_by, reply_with, refused_value, refusal_value, denied_value, is_denial, ok_value, checks}
use Rattle.nm_rules.specs.Checks.{Stop, first, refuse_if}
use Rattle.nm_rules.specs.Files.{changes_past_end, sized_limit}
use Rattle.nm_rules.proofs.Classes.{or_none, refuse_if-none}
use Rattle.nm_rules.specs.Checks.Stop.{Refuse}
use Rattle.nm_rules.specs.Sound.{IsSound}
use Rattle.nm_types.specs.declared.calls.Call.{Call}
use Rattle.nm_types.specs.declared.calls.Deed.{Deed}
use Rattle.nm_types.specs.declared.calls.Deed.TheVariants as deed
use Rattle.nm_types.specs.declared.args.OpenArgs.{OpenArgs}
use Rattle.nm_types.specs.declared.args.OpenType.{OpenType}
use Rattle.nm_types.specs.declared.calls.Verdict.{Verdict}
use Rattle.nm_types.specs.declared.calls.Event.TheVariants.{Asked, Ended}
use Rattle.nm_types.specs.declared.calls.Event.{Event}
use Rattle.nm_types.specs.declared.calls.Reply.{Reply}
use Rattle.nm_types.specs.declared.calls.ReplyValue.TheVariants as told
use Rattle.nm_types.specs.declared.calls.ReplyValue.{ReplyValue}
use Rattle.nm_types.specs.declared.status.OpStatus.{OpStatus}
use Rattle.nm_types.specs.declared.status.OpStatus.TheVariants.{Nfs4Ok, FBig, NoSpc, Resource, Denied as DeniedStatus}
use Rattle.nm_rules.proofs.Legal.{words-refused, sound-after, either_way}
use Rattle.nm_rules.proofs.OwnerLaws.{same-after}
use Rattle.nm_state.specs.State.{StateNow, ended}
use Rattle.nm_state.specs.Opening.{open_word, after_word, after_end, Applied, HasRoom}

-- what a call is answered, by what stops it
pub stopped_answer : (s : Seen) (call : Call) (verdict : Verdict) (x : Option Stop) → first (checks s call.caller call.file verdict call.deed) ≡ x
    → reply_by s call x ≡ answer_to s (Asked call verdict)
unfolding answer_to
stopped_answer s call verdict x stops = ap (reply_by s call) (sym stops)

-- what a call that nothing stops is answered
pub answered : (s : Seen) (call : Call) (verdict : Verdict) (value : ReplyValue) → None ≡ first (checks s call.caller call.file verdict call.deed)
    → value ≡ ok_value s call.caller call.file call.deed
    → reply_with Nfs4Ok value ≡ answer_to s (Asked call verdict)
answered s call verdict value goes it = ap (reply_with Nfs4Ok) it ∙ stopped_answer s call verdict None (sym goes)

-- ---- what a refusal tells

-- an operation whose refusals tell nothing of what is in the way
abbrev pub is_plain : Deed → Bool
is_plain (deed.Lock _) = false
is_plain (deed.LockTest _) = false
is_plain _ = true

pub plain_refusal : (s : Seen) (caller : Option Party) (file : ℕ) (d : Deed) (status : OpStatus) → is_plain d ≡ true → refusal_value s caller file d status ≡ refused_value d
plain_refusal s caller file (deed.Access args) status plain = either_way (is_denial status) _
plain_refusal s caller file (deed.Close args) status plain = either_way (is_denial status) _
plain_refusal s caller file (deed.Commit args) status plain = either_way (is_denial status) _
plain_refusal s caller file (deed.Create args) status plain = either_way (is_denial status) _
plain_refusal s caller file (deed.GetAttr args) status plain = either_way (is_denial status) _
plain_refusal s caller file (deed.Lock args) status plain = absurd (true≢false (sym plain))
plain_refusal s caller file (deed.LockTest args) status plain = absurd (true≢false (sym plain))
plain_refusal s caller file (deed.Lookup args) status plain = either_way (is_denial status) _
plain_refusal s caller file deed.LookupP status plain = either_way (is_denial status) _
plain_refusal s caller file (deed.Open args) status plain = either_way (is_denial status) _
plain_refusal s caller file (deed.OpenConfirm args) status plain = either_way (is_denial status) _
plain_refusal s caller file (deed.OpenDowngrade args) status plain = either_way (is_denial status) _
plain_refusal s caller file (deed.Read args) status plain = either_way (is_denial status) _
plain_refusal s caller file (deed.ReadDir args) status plain = either_way (is_denial status) _
plain_refusal s caller file (deed.ReleaseLockOwner args) status plain = either_way (is_denial status) _
plain_refusal s caller file (deed.Remove args) status plain = either_way (is_denial status) _
plain_refusal s caller file (deed.SetAttr args) status plain = either_way (is_denial status) _
plain_refusal s caller file (deed.Unlock args) status plain = either_way (is_denial status) _
plain_refusal s caller file (deed.Write args) status plain = either_way (is_denial status) _

-- no status but DENIED does
pub other_refusal : (s : Seen) (caller : Option Party) (file : ℕ) (d : Deed) (status : OpStatus) → is_denial status ≡ false → refusal_value s caller file d status ≡ refused_value d
other_refusal s caller file d status other = ap (λ b. cond b (denied_value s caller file d) (refused_value d)) other

-- one whose owner stays
pub stays_other : (status : OpStatus) → advances status ≡ false → is_denial status ≡ false
unfolding advances is_denial
stays_other DeniedStatus stays = absurd (true≢false stays)
stays_other _ stays = refl

-- ---- what starts a lock owner, or ends it

abbrev pub starts_none : Deed → Bool
starts_none (deed.Lock _) = false
starts_none (deed.ReleaseLockOwner _) = false
starts_none _ = true

pub no_start : (n : Now) (call : Call) (r : Reply) (d : Deed) (value : ReplyValue) → starts_none d ≡ true → Stays ≡ started_by n call r d value
unfolding started_by
no_start n call r (deed.Access args) value none = refl
no_start n call r (deed.Close args) value none = refl
no_start n call r (deed.Commit args) value none = refl
no_start n call r (deed.Create args) value none = refl
no_start n call r (deed.GetAttr args) value none = refl
no_start n call r (deed.Lock args) value none = absurd (true≢false (sym none))
no_start n call r (deed.LockTest args) value none = refl
no_start n call r (deed.Lookup args) value none = refl
no_start n call r deed.LookupP value none = refl
no_start n call r (deed.Open args) value none = refl
no_start n call r (deed.OpenConfirm args) value none = refl
no_start n call r (deed.OpenDowngrade args) value none = refl
no_start n call r (deed.Read args) value none = refl
no_start n call r (deed.ReadDir args) value none = refl
no_start n call r (deed.ReleaseLockOwner args) value none = absurd (true≢false (sym none))
no_start n call r (deed.Remove args) value none = refl
no_start n call r (deed.SetAttr args) value none = refl
no_start n call r (deed.Unlock args) value none = refl
no_start n call r (deed.Write args) value none = refl

-- ---- operations without a seqid

abbrev pub HasNone : Seen → Call → Type 0
HasNone s call = seqid_owner (look s) call.caller call.deed ≡ None

-- Nobody moves on by such an operation, and it acts where it is done.
no_owner : (s : Seen) (call : Call) (verdict : Verdict) (r : Reply) → HasNone s call
    → words (look s) (Asked call verdict) r
    ≡ with_owners (cond (is_done r.status) (deed_words (look s) call.caller call.file call.deed r.value) no_words) Stays
    (cond (is_done r.status) (started_by (look s) call r call.deed r.value) Stays)
unfolding words judgement_for noted
no_owner s call verdict r none = rw none refl

stays_put : (s : Seen) (call : Call) (r : Reply) → HasNone s call → owner_word (look s) call r ≡ Stays
unfolding judgement_for noted
stays_put s call r none = rw none refl

-- a refusal leaves all as it was, where no owner moves on by it
pub applied_stopped : (s : Seen) (call : Call) (verdict : Verdict) (status : OpStatus)
    → first (checks s call.caller call.file verdict call.deed) ≡ Some (Refuse status)
    → owner_word (look s) call (reply_by s call (Some (Refuse status))) ≡ Stays
    → Applied s (Asked call verdict) (reply_by s call (Some (Refuse status))) s
applied_stopped s call verdict status stops stays = record {
  answer = stopped_answer s call verdict (Some (Refuse status)) stops;
  tables = sym (ap (after_words s) (words-refused s call verdict status ∙ ap (λ w. with_owners no_words w Stays) stays) ∙ same-after s);
}

-- a call that is refused
pub applied_refused : (s : Seen) (call : Call) (verdict : Verdict) (status : OpStatus) → HasNone s call → is_plain call.deed ≡ true
    → Some (Refuse status) ≡ first (checks s call.caller call.file verdict call.deed)
    → Applied s (Asked call verdict) (reply_with status (refused_value call.deed)) s
applied_refused s call verdict status none plain stops =
    subst (λ v. Applied s (Asked call verdict) (reply_with status v) s) (plain_refusal s call.caller call.file call.deed status plain)
    (applied_stopped s call verdict status (sym stops) (stays_put s call (reply_by s call (Some (Refuse status))) none))

-- and what one leaves that nothing stops, by its words
pub applied_starting : (s : Seen) (call : Call) (verdict : Verdict) (value : ReplyValue) (start : OwnerWord) (new : Seen) → HasNone s call
    → None ≡ first (checks s call.caller call.file verdict call.deed)
    → value ≡ ok_value s call.caller call.file call.deed
    → start ≡ started_by (look s) call (reply_with Nfs4Ok value) call.deed value
    → new ≡ after_words s (with_owners (deed_words (look s) call.caller call.file call.deed value) Stays start)
    → Applied s (Asked call verdict) (reply_with Nfs4Ok value) new
unfolding is_done
applied_starting s call verdict value start new none goes it starts leaves = record {
  answer = answered s call verdict value goes it;
  tables = leaves
      ∙ ap (λ x. after_words s (with_owners (deed_words (look s) call.caller call.file call.deed value) Stays x)) starts
      ∙ ap (after_words s) (sym (no_owner s call verdict (reply_with Nfs4Ok value) none));
}

pub applied : (s : Seen) (call : Call) (verdict : Verdict) (value : ReplyValue) (new : Seen) → HasNone s call → starts_none call.deed ≡ true
    → None ≡ first (checks s call.caller call.file verdict call.deed)
    → value ≡ ok_value s call.caller call.file call.deed
    → new ≡ after_words s (with_owners (deed_words (look s) call.caller call.file call.deed (ok_value s call.caller call.file call.deed)) Stays Stays)
    → Applied s (Asked call verdict) (reply_with Nfs4Ok value) new
applied s call verdict value new none plain goes it leaves =
    applied_starting s call verdict value Stays new none goes it (no_start (look s) call (reply_with Nfs4Ok value) call.deed value plain)
    (leaves ∙ ap (λ v. after_words s (with_owners (deed_words (look s) call.caller call.file call.deed v) Stays Stays)) (sym it))

-- with its end all that an instance holds goes
pub applied_end : (s : Seen) (party : Party) → Applied s (Ended party) (reply_with Nfs4Ok told.Nothing) (after_end s party)
unfolding answer_to words after_words tree_after after_end owners_after closed_after
applied_end s party = record { answer = refl; tables = refl }

nothing_said : (b : Bool) → with_owners (cond b no_words no_words) Stays (cond b Stays Stays) ≡ no_words
nothing_said true = refl
nothing_said false = refl

-- a call that never changes anything
abbrev pub no_change : Deed → Bool
no_change (deed.Access _) = true
no_change (deed.Close _) = false
no_change (deed.Commit _) = true
no_change (deed.Create _) = false
no_change (deed.GetAttr _) = true
no_change (deed.Lock _) = false
no_change (deed.LockTest _) = true
no_change (deed.Lookup _) = true
no_change deed.LookupP = true
no_change (deed.Open _) = false
no_change (deed.OpenConfirm _) = false
no_change (deed.OpenDowngrade _) = false
no_change (deed.Read _) = true
no_change (deed.ReadDir _) = true
no_change (deed.ReleaseLockOwner _) = false
no_change (deed.Remove _) = false
no_change (deed.SetAttr _) = false
no_change (deed.Unlock _) = false
no_change (deed.Write _) = false

unchanged : (s : Seen) (caller : Option Party) (file : ℕ) (d : Deed) (verdict : Verdict) (r : Reply) → no_change d ≡ true
    → words (look s) (Asked (record { caller = caller; file = file; deed = d }) verdict) r ≡ no_words
unfolding seqid_owner started_by
unchanged s caller file (deed.Access args) verdict r h = no_owner s (record { caller = caller; file = file; deed = deed.Access args }) verdict r refl ∙ nothing_said (is_done r.status)
unchanged s caller file (deed.Close _) verdict r h = absurd (true≢false (sym h))
unchanged s caller file (deed.Commit args) verdict r h = no_owner s (record { caller = caller; file = file; deed = deed.Commit args }) verdict r refl ∙ nothing_said (is_done r.status)
unchanged s caller file (deed.Create _) verdict r h = absurd (true≢false (sym h))
unchanged s caller file (deed.GetAttr args) verdict r h = no_owner s (record { caller = caller; file = file; deed = deed.GetAttr args }) verdict r refl ∙ nothing_said (is_done r.status)
unchanged s caller file (deed.Lock _) verdict r h = absurd (true≢false (sym h))
unchanged s caller file (deed.LockTest args) verdict r h = no_owner s (record { caller = caller; file = file; deed = deed.LockTest args }) verdict r refl ∙ nothing_said (is_done r.status)
unchanged s caller file (deed.Lookup args) verdict r h = no_owner s (record { caller = caller; file = file; deed = deed.Lookup args }) verdict r refl ∙ nothing_said (is_done r.status)
unchanged s caller file deed.LookupP verdict r h = no_owner s (record { caller = caller; file = file; deed = deed.LookupP }) verdict r refl ∙ nothing_said (is_done r.status)
unchanged s caller file (deed.Open _) verdict r h = absurd (true≢false (sym h))
unchanged s caller file (deed.OpenConfirm _) verdict r h = absurd (true≢false (sym h))
unchanged s caller file (deed.OpenDowngrade _) verdict r h = absurd (true≢false (sym h))
unchanged s caller file (deed.Read args) verdict r h = no_owner s (record { caller = caller; file = file; deed = deed.Read args }) verdict r refl ∙ nothing_said (is_done r.status)
unchanged s caller file (deed.ReadDir args) verdict r h = no_owner s (record { caller = caller; file = file; deed = deed.ReadDir args }) verdict r refl ∙ nothing_said (is_done r.status)
unchanged s caller file (deed.ReleaseLockOwner _) verdict r h = absurd (true≢false (sym h))
unchanged s caller file (deed.Remove _) verdict r h = absurd (true≢false (sym h))
unchanged s caller file (deed.SetAttr _) verdict r h = absurd (true≢false (sym h))
unchanged s caller file (deed.Unlock _) verdict r h = absurd (true≢false (sym h))
unchanged s caller file (deed.Write _) verdict r h = absurd (true≢false (sym h))

pub applied_same : (s : Seen) (caller : Option Party) (file : ℕ) (d : Deed) (verdict : Verdict) (r : Reply) → no_change d ≡ true
    → r ≡ answer_to s (Asked (record { caller = caller; file = file; deed = d }) verdict)
    → Applied s (Asked (record { caller = caller; file = file; deed = d }) verdict) r s
applied_same s caller file d verdict r same it = record {
  answer = it;
  tables = sym (ap (after_words s) (unchanged s caller file d verdict r same) ∙ same-after s);
}

pub applied_as : (s : Seen) (call : Call) (d : Deed) (verdict : Verdict) (r : Reply) → no_change d ≡ true → call.deed ≡ d
    → r ≡ answer_to s (Asked (record { caller = call.caller; file = call.file; deed = d }) verdict)
    → Applied s (Asked call verdict) r s
applied_as s call d verdict r same it told =
    subst (λ x. Applied s (Asked (record { caller = call.caller; file = call.file; deed = x }) verdict) r s) (sym it)
    (applied_same s call.caller call.file d verdict r same told)

-- at first there is the root alone and nothing is held, so the tables are sound
pub empty_sound : (fs : ℕ) (grants : Bool) → IsSound (empty fs grants)
empty_sound fs grants = record { rising = refl; apart = refl; numbers = refl; names = refl }

-- and an event that is answered keeps them so
pub applied_sound : (before : Seen) (event : Event) (reply : Reply) (new : Seen) → IsSound before → Applied before event reply new → IsSound new
applied_sound before event reply new sound applied =
    rw (applied.tables, applied.answer) (sound-after before event sound)

-- its end by itself
ends : (s : Seen) (party : Party) (new : Seen) → new ≡ after_end s party → new ≡ after s (Ended party) (answer_to s (Ended party))
ends s party new it =
    let applied : Applied s (Ended party) (reply_with Nfs4Ok told.Nothing) (after_end s party) = applied_end s party in
    it ∙ applied.tables ∙ ap (after s (Ended party)) applied.answer

pub ended_is : (before : Seen) (spent : Bool) (now : StateNow) (party : Party) (new : Seen) → record { seen = before; spent = spent } ≡ now → new ≡ after_end before party
    → record { seen = new; spent = spent } ≡ ended now party
ended_is before spent now party new is it =
    subst (λ (n : StateNow). record { seen = new; spent = spent } ≡ ended n party) is (ap (λ (s : Seen). record { seen = s; spent = spent }) (ends before party new it))

pub ends_sound : (s : Seen) (party : Party) (new : Seen) → IsSound s → new ≡ after_end s party → IsSound new
ends_sound s party new sound it =
    subst (λ x. IsSound x) (sym it) (applied_sound s (Ended party) (reply_with Nfs4Ok told.Nothing) (after_end s party) sound (applied_end s party))

-- ---- what an OPEN that nothing stops needs

-- where a counter is drawn there is one
below : (a : Bool) (n : ℕ) → (a && nat_le (2 ^ 63) n) ≡ false → a ≡ true → n < 2 ^ 63
below true n h it = grind (arith, nat_tests)
below false n h it = cc

pub room_to_take : (s : Seen) (party : Party) (file : ℕ) (args : OpenArgs) → GoesOpen s party file args
    → is_none (open_of (opener party args) (file_to_open s file args) s.opens) ≡ true → s.last < 2 ^ 63
room_to_take s party file args goes = below (is_none (open_of (opener party args) (file_to_open s file args) s.opens)) s.last goes.counter

pub room_to_make : (s : Seen) (opentype : OpenType) → tree_limit s None opentype ≡ None
    → HasRoom s.tree (unwrap_or (asked_size (opentype_asks opentype)) 0)
unfolding tree_limit sized_limit
room_to_make s opentype free =
    let limits = or_none (sized_limit s None (asked_size (opentype_asks opentype))) _ free in
    let ends = or_parts (changes_past_end s || nat_le (2 ^ 63) s.tree.last_file) _ (refuse_if-none _ Resource limits.1) in
    let numbers = or_parts (changes_past_end s) _ ends.0 in
    let sizes = by_size (asked_size (opentype_asks opentype)) limits.0 in
    record { changes = under _ numbers.0; files = under _ numbers.1; fits = sizes.0; room = sizes.1 }
  where
    under : (n : ℕ) → nat_le (2 ^ 63) n ≡ false → n < 2 ^ 63
    under n h = grind (arith, nat_tests)

    by_size : (size : Option ℕ) → sized_limit s None size ≡ None
        → (unwrap_or size 0 ≤ size_limit) × (unwrap_or size 0 ≤ total_limit - total_size s.tree.table)
    by_size None free = (omega arith, omega arith)
    by_size (Some size) free =
        let both = or_none (refuse_if (nat_lt size_limit size) FBig) _ free in
        let small : nat_lt size_limit size ≡ false = refuse_if-none _ FBig both.0 in
        let fits : nat_lt total_limit (total_size s.tree.table + (size - 0)) ≡ false = refuse_if-none _ NoSpc both.1 in
        (grind (arith, nat_tests, small), grind (arith, nat_tests, fits))

-- a cut is a change
pub room_to_cut : (s : Seen) (file : ℕ) (opentype : OpenType) → tree_limit s (Some file) opentype ≡ None → cuts opentype ≡ true → s.tree.change < 2 ^ 63
unfolding tree_limit
room_to_cut s file opentype free cut = below (cuts opentype) s.tree.change (refuse_if-none _ Resource free) cut

-- an OPEN that neither makes nor cuts its file leaves the tree
pub leaves_uncut : (s : Seen) (file : ℕ) (args : OpenArgs) (number : ℕ) → target s file args ≡ Some number → cuts args.opentype ≡ false
    → s ≡ after_word (open_word s file args) s
unfolding open_word open_tree after_word tree_after
leaves_uncut s file args number named uncut = rw (named, uncut) refl
