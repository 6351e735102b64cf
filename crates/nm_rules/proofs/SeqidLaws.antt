-- An owner comes back to a seqid only after all others: each is the next one of the one before it.
use Rattle.std.proofs.Common.{◌≡◌, ◌<◌, ◌≤◌, ◌+◌, ℕ, zero, suc, Bool, true, false, cond, List, [], ◌∷◌, Option, Some, None, refl, ap, sym, ◌∙◌, inl, inr, arith, eqb-true}
use Rattle.std.specs.Prelude.{◌==◌, ◌&&◌, ◌⊎◌, option_map, slice_get}
use Rattle.std.proofs.lemmas.Bool.{not-false, or_parts}
use Rattle.nm_types.specs.Parties.{Party, same_party}
use Rattle.nm_rules.specs.LockAsks.{lock_owner}
use Rattle.nm_rules.specs.LockOps.{lock_checks, lock_value, newcomer_stop, is_out_of_turn}
use Rattle.nm_rules.specs.Checks.{Stop, first}
use Rattle.nm_rules.specs.Checks.Stop.{Refuse, Repeat}
use Rattle.nm_types.specs.Owners.{same_owner}
use Rattle.nm_rules.specs.Repeats.{same_call}
use Rattle.nm_rules.specs.Shares.{next_seqid}
use Rattle.nm_rules.specs.Seqids.{judged, is_fresh, owner_at}
use Rattle.nm_types.specs.Statuses.{advances}
use Rattle.nm_types.specs.Calls.{seqid_of}
use Rattle.nm_rules.specs.OwnerReadings.{is_owner, moves_on, first_of, first_seqid, started_with, released_by, or_started, or_first, confirmed_by, was_confirmed, owner_now, seqids_of}
use Rattle.nm_rules.specs.Past.{Past, Now, now, acts, is_locked, judgement_for, seqid_owner}
use Rattle.nm_rules.specs.Seen.{Seen, seen, look}
use Rattle.nm_rules.specs.Answer.{answer_to, reply_by, refused_value, refusal_value, ok_value, checks, IsLegal}
use Rattle.nm_types.specs.declared.args.LockArgs.{LockArgs}
use Rattle.nm_types.specs.declared.args.LockTestArgs.{LockTestArgs}
use Rattle.nm_types.specs.declared.args.Locker.{Locker}
use Rattle.nm_types.specs.declared.args.Locker.TheVariants.{New, Known}
use Rattle.nm_types.specs.declared.calls.Call.{Call}
use Rattle.nm_types.specs.declared.calls.Deed.{Deed}
use Rattle.nm_types.specs.declared.calls.Deed.TheVariants as deed
use Rattle.nm_types.specs.declared.calls.Event.{Event}
use Rattle.nm_types.specs.declared.calls.Event.TheVariants.{Asked, Ended}
use Rattle.nm_types.specs.declared.calls.Owner.{Owner}
use Rattle.nm_types.specs.declared.calls.Reply.{Reply}
use Rattle.nm_types.specs.declared.calls.ReplyValue.TheVariants as told
use Rattle.nm_types.specs.declared.calls.Verdict.{Verdict}
use Rattle.nm_types.specs.declared.results.Denied.{Denied}
use Rattle.nm_types.specs.declared.results.LockOutcome.TheVariants.{Denied as IsDenied}
use Rattle.nm_types.specs.declared.status.OpStatus.TheVariants.{BadSeqid}
use Rattle.nm_types.specs.declared.owners.Judgement.TheVariants as judged_as
use Rattle.nm_types.specs.declared.owners.OwnerRow.{OwnerRow}
use Rattle.nm_rules.proofs.OwnerLemmas.{same_owner-Decides}
use Rattle.nm_rules.proofs.Classes.{IsFree, all_free, or_none, refusal_none, refuse_if-none}
use Rattle.nm_rules.proofs.Legal.{repeat_is_old, look-seen}
use Rattle.nm_rules.proofs.OwnerLaws.{read_row, start_row, owner-now, owner-seen}
use Rattle.nm_rules.proofs.Refusals.{by_refusal}

-- each is the next one of the one behind it
abbrev IsChain : List ℕ → Type 0
IsChain [] = Unit {0}
IsChain (n ∷ []) = Unit {0}
IsChain (n ∷ m ∷ more) = (n ≡ next_seqid m) × IsChain (m ∷ more)

-- So many steps on, a number has grown by them all, or by a whole round less at least.
abbrev IsStepsOn : ℕ → ℕ → ℕ → Type 0
IsStepsOn a b steps = (a ≡ b + steps) ⊎ (a + 4294967295 ≤ b + steps)

one_on : (a b steps : ℕ) → IsStepsOn a b steps → IsStepsOn (next_seqid a) b (suc steps)
one_on a b steps on = by_test (a == 4294967295) refl on
  where
    by_test : (t : Bool) → (a == 4294967295) ≡ t → IsStepsOn a b steps → IsStepsOn (cond t 1 (a + 1)) b (suc steps)
    by_test true last (inl e) = inr (omega (arith, e, eqb-true a 4294967295 last))
    by_test true last (inr le) = inr (omega (arith, le, eqb-true a 4294967295 last))
    by_test false within (inl e) = inl (omega (arith, e))
    by_test false within (inr le) = inr (omega (arith, le))

chain_steps : (n : ℕ) (more : List ℕ) (steps m : ℕ) → IsChain (n ∷ more) → slice_get (n ∷ more) steps ≡ Some m → IsStepsOn n m steps
chain_steps n more zero m chain there =
    let e : n ≡ m = cc in
    inl (omega (arith, e))
chain_steps n [] (suc steps) m chain there = cc
chain_steps n (k ∷ more) (suc steps) m chain there = rw chain.0 (one_on k m steps (chain_steps k more steps m chain.1 there))

round : (n steps : ℕ) → 0 < steps → IsStepsOn n n steps → 4294967295 ≤ steps
round n steps some (inl e) = absurd (omega (arith, e, some))
round n steps some (inr le) = omega (arith, le)

tail_chain : (n : ℕ) (more : List ℕ) → IsChain (n ∷ more) → IsChain more
tail_chain n [] chain = tt
tail_chain n (m ∷ more) chain = chain.1

-- two equal numbers of a chain stand a whole round apart
pub chain_apart : (xs : List ℕ) (i j n : ℕ) → IsChain xs → slice_get xs i ≡ Some n → slice_get xs j ≡ Some n → i < j → i + 4294967295 ≤ j
chain_apart [] i j n chain at_i at_j less = cc
chain_apart (x ∷ xs) zero j n chain at_i at_j less =
    let here : x ≡ n = cc in
    round n j less (rw (← here) (chain_steps x xs j x chain (at_j ∙ ap (λ k. Some k) (sym here))))
chain_apart (x ∷ xs) (suc i) zero n chain at_i at_j less = absurd (omega (arith, less))
chain_apart (x ∷ xs) (suc i) (suc j) n chain at_i at_j less =
    let le : i + 4294967295 ≤ j = chain_apart xs i j n (tail_chain x xs chain) at_i at_j (omega (arith, less)) in
    omega (arith, le)

-- the newest is the one that is kept; none is kept where there is none
abbrev IsNewest : Option OwnerRow → List ℕ → Type 0
IsNewest None xs = xs ≡ []
IsNewest (Some row) [] = ⊥
IsNewest (Some row) (n ∷ more) = n ≡ row.seqid

record Chained (o : Option OwnerRow) (xs : List ℕ) : Type 0 where
  chain : IsChain xs
  newest : IsNewest o xs

-- A fresh seqid goes on with the chain.
fresh_chain : (o : Option OwnerRow) (xs : List ℕ) (call : Call) → Chained o xs
    → is_fresh (judged o (seqid_of call.deed) call.caller call.file call.deed) ≡ true → IsChain (seqid_of call.deed ∷ xs)
unfolding judged
fresh_chain None xs call chained fresh = rw chained.newest tt
fresh_chain (Some row) [] call chained fresh = tt
fresh_chain (Some row) (n ∷ more) call chained fresh = (next ∙ ap next_seqid (sym chained.newest), chained.chain)
  where
    by_tests : (b c : Bool) → (seqid_of call.deed == next_seqid row.seqid) ≡ b
        → is_fresh (cond b judged_as.Fresh (cond c judged_as.Again judged_as.Bad)) ≡ true → seqid_of call.deed ≡ next_seqid row.seqid
    by_tests true c same holds = eqb-true (seqid_of call.deed) (next_seqid row.seqid) same
    by_tests false true other holds = cc
    by_tests false false other holds = cc

    next : seqid_of call.deed ≡ next_seqid row.seqid
    next = by_tests (seqid_of call.deed == next_seqid row.seqid) ((seqid_of call.deed == row.seqid) && same_call call.caller call.file call.deed row.call) refl fresh

-- what moves the owner on is fresh by what is kept of it
moves_fresh : (n : Now) (owner : Owner) (call : Call) (r : Reply) → moves_on n owner call r ≡ true
    → is_fresh (judged (n.owner_by owner) (seqid_of call.deed) call.caller call.file call.deed) ≡ true
unfolding moves_on judgement_for
moves_fresh n owner call r moves = by_owner (seqid_owner n call.caller call.deed) moves
  where
    by_test : (o : Owner) (b same : Bool) → is_fresh (judged (n.owner_by o) (seqid_of call.deed) call.caller call.file call.deed) ≡ b
        → same_owner owner o ≡ same → cond b (cond same (advances r.status) false) false ≡ true
        → is_fresh (judged (n.owner_by owner) (seqid_of call.deed) call.caller call.file call.deed) ≡ true
    by_test o true true fresh its holds = ap (λ q. is_fresh (judged (n.owner_by q) (seqid_of call.deed) call.caller call.file call.deed)) ((same_owner-Decides owner o).0 its) ∙ fresh
    by_test o true false fresh other holds = cc
    by_test o false same old it holds = cc

    by_owner : (o : Option Owner) → cond (is_fresh (judgement_for n call o)) (cond (is_owner owner o) (advances r.status) false) false ≡ true
        → is_fresh (judged (n.owner_by owner) (seqid_of call.deed) call.caller call.file call.deed) ≡ true
    by_owner None holds = cc
    by_owner (Some o) holds = by_test o (is_fresh (judged (n.owner_by o) (seqid_of call.deed) call.caller call.file call.deed)) (same_owner owner o) refl refl holds

-- ---- a new lock owner comes in turn

refused_none : (owner : Owner) (caller : Option Party) (d : Deed) → first_seqid owner caller d (refused_value d) ≡ None
unfolding first_seqid
refused_none owner caller (deed.Access _) = refl
refused_none owner caller (deed.Close _) = refl
refused_none owner caller (deed.Commit _) = refl
refused_none owner caller (deed.Create _) = refl
refused_none owner caller (deed.GetAttr _) = refl
refused_none owner caller (deed.Lock _) = refl
refused_none owner caller (deed.LockTest _) = refl
refused_none owner caller (deed.Lookup _) = refl
refused_none owner caller deed.LookupP = refl
refused_none owner caller (deed.Open _) = refl
refused_none owner caller (deed.OpenConfirm _) = refl
refused_none owner caller (deed.OpenDowngrade _) = refl
refused_none owner caller (deed.Read _) = refl
refused_none owner caller (deed.ReadDir _) = refl
refused_none owner caller (deed.ReleaseLockOwner _) = refl
refused_none owner caller (deed.Remove _) = refl
refused_none owner caller (deed.SetAttr _) = refl
refused_none owner caller (deed.Unlock _) = refl
refused_none owner caller (deed.Write _) = refl

denied_none : (owner : Owner) (caller : Option Party) (args : LockArgs) (o : Option Denied) → first_seqid owner caller (deed.Lock args) (told.Lock (option_map IsDenied o)) ≡ None
unfolding first_seqid
denied_none owner caller args None = refl
denied_none owner caller args (Some denied) = refl

test_none : (owner : Owner) (caller : Option Party) (args : LockTestArgs) (o : Option Denied) → first_seqid owner caller (deed.LockTest args) (told.LockTest o) ≡ None
unfolding first_seqid
test_none owner caller args o = refl

-- a LOCK that nothing stops and that starts an owner starts it in turn
newcomer_turn : (s : Seen) (owner : Owner) (caller : Option Party) (file : ℕ) (args : LockArgs) (verdict : Verdict) (locker : Locker) (seqid : ℕ)
    → first (lock_checks s caller file args locker verdict) ≡ None → first_of owner caller locker ≡ Some seqid → is_out_of_turn (owner_at owner s.owners) seqid ≡ false
unfolding lock_checks newcomer_stop
newcomer_turn s owner None file args verdict locker seqid goes starts = cc
newcomer_turn s owner (Some party) file args verdict (Known stateid lock_seqid) seqid goes starts = cc
newcomer_turn s owner (Some party) file args verdict (New open_seqid stateid lock_seqid text) seqid goes starts =
    let free : IsFree (lock_checks s (Some party) file args (New open_seqid stateid lock_seqid text) verdict) = all_free _ goes in
    let comes : newcomer_stop s (lock_owner party text) file lock_seqid ≡ None = refusal_none _ (or_none _ _ free.seqid).1 in
    by_test (same_owner owner (lock_owner party text)) refl starts (or_parts _ _ (refuse_if-none _ BadSeqid comes)).1
  where
    by_test : (b : Bool) → same_owner owner (lock_owner party text) ≡ b → cond b (Some lock_seqid) None ≡ Some seqid
        → is_out_of_turn (owner_at (lock_owner party text) s.owners) lock_seqid ≡ false → is_out_of_turn (owner_at owner s.owners) seqid ≡ false
    by_test false other starts turn = cc
    by_test true same starts turn =
        let its : lock_seqid ≡ seqid = cc in
        ap (λ (o : Owner). is_out_of_turn (owner_at o s.owners) seqid) ((same_owner-Decides owner (lock_owner party text)).0 same)
        ∙ ap (λ k. is_out_of_turn (owner_at (lock_owner party text) s.owners) k) (sym its) ∙ turn

goes_turn : (s : Seen) (owner : Owner) (caller : Option Party) (file : ℕ) (verdict : Verdict) (d : Deed) (seqid : ℕ) → first (checks s caller file verdict d) ≡ None
    → first_seqid owner caller d (ok_value s caller file d) ≡ Some seqid → is_out_of_turn (owner_at owner s.owners) seqid ≡ false
unfolding first_seqid
goes_turn s owner caller file verdict (deed.Lock args) seqid goes starts = newcomer_turn s owner caller file args verdict args.locker seqid goes (by_locked (is_locked (told.Lock (lock_value s args))) starts)
  where
    by_locked : (b : Bool) → cond b (first_of owner caller args.locker) None ≡ Some seqid → first_of owner caller args.locker ≡ Some seqid
    by_locked true e = e
    by_locked false e = cc
goes_turn s owner caller file verdict (deed.Access _) seqid goes starts = cc
goes_turn s owner caller file verdict (deed.Close _) seqid goes starts = cc
goes_turn s owner caller file verdict (deed.Commit _) seqid goes starts = cc
goes_turn s owner caller file verdict (deed.Create _) seqid goes starts = cc
goes_turn s owner caller file verdict (deed.GetAttr _) seqid goes starts = cc
goes_turn s owner caller file verdict (deed.LockTest _) seqid goes starts = cc
goes_turn s owner caller file verdict (deed.Lookup _) seqid goes starts = cc
goes_turn s owner caller file verdict deed.LookupP seqid goes starts = cc
goes_turn s owner caller file verdict (deed.Open _) seqid goes starts = cc
goes_turn s owner caller file verdict (deed.OpenConfirm _) seqid goes starts = cc
goes_turn s owner caller file verdict (deed.OpenDowngrade _) seqid goes starts = cc
goes_turn s owner caller file verdict (deed.Read _) seqid goes starts = cc
goes_turn s owner caller file verdict (deed.ReadDir _) seqid goes starts = cc
goes_turn s owner caller file verdict (deed.ReleaseLockOwner _) seqid goes starts = cc
goes_turn s owner caller file verdict (deed.Remove _) seqid goes starts = cc
goes_turn s owner caller file verdict (deed.SetAttr _) seqid goes starts = cc
goes_turn s owner caller file verdict (deed.Unlock _) seqid goes starts = cc
goes_turn s owner caller file verdict (deed.Write _) seqid goes starts = cc

-- an entry that is answered starts an owner in turn
start_turn : (s : Seen) (owner : Owner) (call : Call) (verdict : Verdict) (seqid : ℕ) → started_with (look s) owner call (answer_to s (Asked call verdict)) ≡ Some seqid
    → is_out_of_turn (owner_at owner s.owners) seqid ≡ false
unfolding answer_to
start_turn s owner call verdict seqid starts = by_stop (first (checks s call.caller call.file verdict call.deed)) refl starts
  where
    by_acts : (b : Bool) (o : Option ℕ) → cond b o None ≡ Some seqid → o ≡ Some seqid
    by_acts true o e = e
    by_acts false o e = cc

    never : {A : Type 0} (o : Option ℕ) → o ≡ None → o ≡ Some seqid → A
    never None none some = cc
    never (Some k) none some = cc

    by_stop : (x : Option Stop) → first (checks s call.caller call.file verdict call.deed) ≡ x
        → started_with (look s) owner call (reply_by s call x) ≡ Some seqid → is_out_of_turn (owner_at owner s.owners) seqid ≡ false
    by_stop (Some (Refuse status)) refused it =
        never (first_seqid owner call.caller call.deed (refusal_value s call.caller call.file call.deed status))
        (by_refusal (λ d value. first_seqid owner call.caller d value ≡ None) (refused_none owner call.caller) (denied_none owner call.caller) (test_none owner call.caller)
        s call.caller call.file call.deed status)
        (by_acts (acts (look s) call (reply_by s call (Some (Refuse status)))) _ it)
    by_stop (Some (Repeat kept)) repeats it =
        never (cond (acts (look s) call kept) (first_seqid owner call.caller call.deed kept.value) None) (rw (repeat_is_old s call verdict kept repeats) refl) it
    by_stop None goes it = goes_turn s owner call.caller call.file verdict call.deed seqid goes (by_acts (acts (look s) call (reply_by s call None)) _ it)

-- A seqid in turn goes on with the chain.
turn_chain : (o : Option OwnerRow) (xs : List ℕ) (seqid : ℕ) → Chained o xs → is_out_of_turn o seqid ≡ false → IsChain (seqid ∷ xs)
unfolding is_out_of_turn
turn_chain None xs seqid chained turn = rw chained.newest tt
turn_chain (Some row) [] seqid chained turn = tt
turn_chain (Some row) (n ∷ more) seqid chained turn =
    (eqb-true seqid (next_seqid row.seqid) (not-false (seqid == next_seqid row.seqid) turn) ∙ ap next_seqid (sym chained.newest), chained.chain)

chained-now : (fs : ℕ) (grants : Bool) (es : Past) (owner : Owner) → IsLegal fs grants es → Chained (owner_now es owner) (seqids_of es owner)
unfolding owner_now seqids_of
chained-now fs grants [] owner legal = record { chain = tt; newest = refl }
chained-now fs grants (x ∷ earlier) owner legal = by_event x.event refl (chained-now fs grants earlier owner legal.1)
  where
    by_end : (b : Bool) → Chained (owner_now earlier owner) (seqids_of earlier owner)
        → Chained (cond b None (owner_now earlier owner)) (cond b [] (seqids_of earlier owner))
    by_end true before = record { chain = tt; newest = refl }
    by_end false before = before

    by_event : (event : Event) → x.event ≡ event → Chained (owner_now earlier owner) (seqids_of earlier owner)
        → Chained (owner_now (record x { event = event } ∷ earlier) owner) (seqids_of (record x { event = event } ∷ earlier) owner)
    by_event (Ended party) its before = by_end (same_party party owner.instance) before
    by_event (Asked call verdict) its before = by_start_of (started_with (now earlier) owner call x.reply) refl
      where
        by_release : (b : Bool) → {o : Option OwnerRow} {ks : List ℕ} → Chained o ks → Chained (cond b None o) (cond b [] ks)
        by_release true more = record { chain = tt; newest = refl }
        by_release false more = more

        by_move : (b : Bool) → moves_on (now earlier) owner call x.reply ≡ b
            → Chained (cond b (Some (read_row (cond (confirmed_by (now earlier) call x.reply) true (was_confirmed earlier owner)) owner call x.reply)) (owner_now earlier owner))
            (cond b (seqid_of call.deed ∷ seqids_of earlier owner) (seqids_of earlier owner))
        by_move true moves = record {
          chain = fresh_chain (owner_now earlier owner) (seqids_of earlier owner) call before
              (ap (λ o. is_fresh (judged o (seqid_of call.deed) call.caller call.file call.deed)) (sym (owner-now earlier owner)) ∙ moves_fresh (now earlier) owner call x.reply moves);
          newest = refl;
        }
        by_move false stays = before

        in_turn : (seqid : ℕ) → started_with (now earlier) owner call x.reply ≡ Some seqid → is_out_of_turn (owner_now earlier owner) seqid ≡ false
        in_turn seqid starts =
            ap (λ o. is_out_of_turn o seqid) (sym (owner-seen fs grants earlier owner legal.1))
            ∙ start_turn (seen fs grants earlier) owner call verdict seqid
            (ap (λ n. started_with n owner call (answer_to (seen fs grants earlier) (Asked call verdict))) (look-seen fs grants earlier legal.1)
            ∙ ap (λ e. started_with (now earlier) owner call (answer_to (seen fs grants earlier) e)) (sym its)
            ∙ ap (started_with (now earlier) owner call) (sym legal.0) ∙ starts)

        by_start_of : (o : Option ℕ) → started_with (now earlier) owner call x.reply ≡ o
            → Chained
            (or_started o (start_row (was_confirmed earlier owner) owner call x.reply)
            (cond (released_by (now earlier) owner call x.reply) None
            (cond (moves_on (now earlier) owner call x.reply)
            (Some (read_row (cond (confirmed_by (now earlier) call x.reply) true (was_confirmed earlier owner)) owner call x.reply)) (owner_now earlier owner))))
            (or_first o (seqids_of earlier owner)
            (cond (released_by (now earlier) owner call x.reply) []
            (cond (moves_on (now earlier) owner call x.reply) (seqid_of call.deed ∷ seqids_of earlier owner) (seqids_of earlier owner))))
        by_start_of None none = by_release (released_by (now earlier) owner call x.reply) (by_move (moves_on (now earlier) owner call x.reply) refl)
        by_start_of (Some seqid) starts = record { chain = turn_chain (owner_now earlier owner) (seqids_of earlier owner) seqid before (in_turn seqid starts); newest = refl }

-- Two operations of an owner with one seqid, both of which moved it on, have all other seqids between them.
pub seqids_apart : (fs : ℕ) (grants : Bool) (es : Past) (owner : Owner) (i j n : ℕ) → IsLegal fs grants es
    → slice_get (seqids_of es owner) i ≡ Some n → slice_get (seqids_of es owner) j ≡ Some n → i < j → i + 4294967295 ≤ j
seqids_apart fs grants es owner i j n legal at_i at_j less = chain_apart (seqids_of es owner) i j n (chained-now fs grants es owner legal).chain at_i at_j less
