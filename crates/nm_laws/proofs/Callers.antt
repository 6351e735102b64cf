-- An answer makes rows of its caller's instance alone.
use Rattle.std.proofs.Common.{◌≡◌, ℕ, Bool, true, false, cond, List, [], ◌∷◌, Option, Some, None, refl, ap, sym, subst, ◌∙◌, inl, inr}
use Rattle.std.specs.Prelude.{◌==◌, ◌||◌, ◌⊎◌, not, is_none, find, filter, option_map}
use Rattle.std.specs.List.{list_any}
use Rattle.std.specs.Option.{option_or}
use Rattle.std.proofs.lemmas.Bool.{false≢true}
use Rattle.nm_types.specs.Calls.{seqid_of}
use Rattle.nm_types.specs.Owners.{same_owner}
use Rattle.nm_types.specs.Parties.{Party, same_party}
use Rattle.nm_types.specs.Statuses.{advances}
use Rattle.nm_rules.specs.Answer.{IsLegal, answer_to, ok_value, reply_by}
use Rattle.nm_rules.specs.Checks.Stop.{Refuse}
use Rattle.nm_rules.specs.Data.{write_value}
use Rattle.nm_rules.specs.Files.{create_value}
use Rattle.nm_rules.specs.Holders.{has_row, is_opener_of, is_owner_of}
use Rattle.nm_rules.specs.LockOps.{changed_lock, lock_value, next_lock_stateid}
use Rattle.nm_rules.specs.LockRows.{lock_at}
use Rattle.nm_rules.specs.Opens.{changed_stateid, next_stateid, open_value}
use Rattle.nm_rules.specs.Past.{Now, Past, Words, closed_by, deed_words, ended, is_locked, is_released, judgement, lock_named_by, lock_owner_named, locker_owner, named_by, no_words, noted, noted_row, opener, owner_named, owner_word, seqid_owner, started, started_by}
use Rattle.nm_rules.specs.Seen.{Seen, after, after_words, look, seen}
use Rattle.nm_rules.specs.Seqids.{OwnerWord, is_fresh, owner_at, owners_after, put_owner}
use Rattle.nm_rules.specs.Seqids.OwnerWord.{Gone, GoneOf, Noted, Stays}
use Rattle.nm_rules.specs.Shares.{OpenWord, narrowed_row, open_at, opened_row, opens_after, put_if, put_open, renewed_row}
use Rattle.nm_rules.specs.Shares.OpenWord.{Drop, DropOf, Keep, Put}
use Rattle.nm_rules.specs.Sound.{OwnersAreKnown, is_known, is_locker}
use Rattle.nm_rules.specs.Stateids.{lock_named, open_named}
use Rattle.nm_types.specs.declared.args.Locker.{Locker}
use Rattle.nm_types.specs.declared.args.Locker.TheVariants as locker
use Rattle.nm_types.specs.declared.args.OpenArgs.{OpenArgs}
use Rattle.nm_types.specs.declared.calls.Call.{Call}
use Rattle.nm_types.specs.declared.calls.Deed.{Deed}
use Rattle.nm_types.specs.declared.calls.Deed.TheVariants as deed
use Rattle.nm_types.specs.declared.calls.Event.TheVariants.{Asked}
use Rattle.nm_types.specs.declared.calls.Owner.{Owner}
use Rattle.nm_types.specs.declared.calls.Reply.{Reply}
use Rattle.nm_types.specs.declared.calls.ReplyValue.{ReplyValue}
use Rattle.nm_types.specs.declared.calls.ReplyValue.TheVariants as told
use Rattle.nm_types.specs.declared.calls.StateId.{StateId}
use Rattle.nm_types.specs.declared.calls.StateRef.{StateRef}
use Rattle.nm_types.specs.declared.calls.StateRef.TheVariants.{Named, Ones, Zeros}
use Rattle.nm_types.specs.declared.calls.Verdict.{Verdict}
use Rattle.nm_types.specs.declared.owners.OwnerRow.{OwnerRow}
use Rattle.nm_types.specs.declared.rows.LockRow.{LockRow}
use Rattle.nm_types.specs.declared.rows.OpenRow.{OpenRow}
use Rattle.nm_rules.proofs.KnownLaws.{all_at, lock_all_at, known-seen}
use Rattle.nm_rules.proofs.OwnerLemmas.{same_owner-Decides, same_party-Decides}
use Rattle.nm_rules.proofs.Refusals.{lock_keeps, unlock_keeps}
use Rattle.nm_laws.proofs.AnswerWords.{by_answer}

-- ---- lists

-- a row that a filter leaves was there
any_filtered : {A : Type 0} (q p : A → Bool) (rows : List A) → list_any q (filter p rows) ≡ true → list_any q rows ≡ true
any_filtered q p [] any = any
any_filtered q p (x ∷ xs) any = by_tests (p x) (q x) any (any_filtered q p xs) refl
  where
    by_tests : (b c : Bool) → list_any q (cond b (x ∷ filter p xs) (filter p xs)) ≡ true → (list_any q (filter p xs) ≡ true → list_any q xs ≡ true)
        → q x ≡ c → (c || list_any q xs) ≡ true
    by_tests b true any later = λ it. refl
    by_tests false false any later = λ it. later any
    by_tests true false any later = λ it. later (sym (ap (λ y. y || list_any q (filter p xs)) it) ∙ any)

-- a row of a list that has one more in some place is that one, or was there
any_put : {A : Type 0} (q test : A → Bool) (row : A) (put : List A → List A) → put [] ≡ row ∷ []
    → ((x : A) (xs : List A) → put (x ∷ xs) ≡ cond (test x) (row ∷ xs) (x ∷ put xs))
    → (rows : List A) → list_any q (put rows) ≡ true → (q row ≡ true) ⊎ (list_any q rows ≡ true)
any_put q test row put last place [] any = inl (last_one (q row) (sym (ap (list_any q) last) ∙ any))
  where
    last_one : (b : Bool) → (b || false) ≡ true → b ≡ true
    last_one true h = refl
    last_one false h = h
any_put q test row put last place (x ∷ xs) any =
    by_test (test x) (sym (ap (list_any q) (place x xs)) ∙ any) (any_put q test row put last place xs)
  where
    either : (b c : Bool) → (b || c) ≡ true → (b ≡ true) ⊎ (c ≡ true)
    either true c h = inl refl
    either false c h = inr h

    behind : (b c : Bool) → c ≡ true → (b || c) ≡ true
    behind true c h = refl
    behind false c h = h

    before : (b c : Bool) → b ≡ true → (b || c) ≡ true
    before true c h = refl
    before false c h = absurd (false≢true h)

    replaced : (q row ≡ true) ⊎ (list_any q xs ≡ true) → (q row ≡ true) ⊎ ((q x || list_any q xs) ≡ true)
    replaced (inl here) = inl here
    replaced (inr there) = inr (behind (q x) (list_any q xs) there)

    stayed : (list_any q (put xs) ≡ true → (q row ≡ true) ⊎ (list_any q xs ≡ true)) → (q x ≡ true) ⊎ (list_any q (put xs) ≡ true)
        → (q row ≡ true) ⊎ ((q x || list_any q xs) ≡ true)
    stayed later (inl here) = inr (before (q x) (list_any q xs) here)
    stayed later (inr there) = replaced (later there)

    by_test : (b : Bool) → list_any q (cond b (row ∷ xs) (x ∷ put xs)) ≡ true → (list_any q (put xs) ≡ true → (q row ≡ true) ⊎ (list_any q xs ≡ true))
        → (q row ≡ true) ⊎ ((q x || list_any q xs) ≡ true)
    by_test true any later = replaced (either (q row) (list_any q xs) any)
    by_test false any later = stayed later (either (q x) (list_any q (put xs)) any)

-- ---- words

-- what an instance that is the party's own has to come to
abbrev Leads : Party → Type 0 → Party → Type 0
Leads party R its = same_party party its ≡ true → R

abbrev OwnersLead : Party → Type 0 → OwnerWord → Type 0
OwnersLead party R Stays = Unit {0}
OwnersLead party R (Noted row closed) = Leads party R row.owner.instance
OwnersLead party R (Gone owner) = Unit {0}
OwnersLead party R (GoneOf its) = Unit {0}

abbrev OpensLead : Party → Type 0 → OpenWord → Type 0
OpensLead party R Keep = Unit {0}
OpensLead party R (Put row) = Leads party R row.owner.instance
OpensLead party R (Drop counter) = Unit {0}
OpensLead party R (DropOf its) = Unit {0}

one_of : {A B R : Type 0} → (A → R) → (B → R) → A ⊎ B → R
one_of f g (inl a) = f a
one_of f g (inr b) = g b

owners_lead : (party : Party) (R : Type 0) (word : OwnerWord) (rows : List OwnerRow) → OwnersLead party R word → (list_any (is_owner_of party) rows ≡ true → R)
    → list_any (is_owner_of party) (owners_after word rows) ≡ true → R
unfolding owners_after
owners_lead party R Stays rows leads before any = before any
owners_lead party R (Noted row closed) rows leads before any =
    one_of leads before (any_put (is_owner_of party) (λ x. same_owner row.owner x.owner) row (put_owner row) refl (λ x xs. refl) rows any)
owners_lead party R (Gone owner) rows leads before any = before (any_filtered (is_owner_of party) (λ x. not (same_owner owner x.owner)) rows any)
owners_lead party R (GoneOf its) rows leads before any = before (any_filtered (is_owner_of party) (λ x. not (same_party its x.owner.instance)) rows any)

opens_lead : (party : Party) (R : Type 0) (word : OpenWord) (rows : List OpenRow) → OpensLead party R word → (list_any (is_opener_of party) rows ≡ true → R)
    → list_any (is_opener_of party) (opens_after word rows) ≡ true → R
unfolding opens_after
opens_lead party R Keep rows leads before any = before any
opens_lead party R (Put row) rows leads before any =
    one_of leads before (any_put (is_opener_of party) (λ x. x.counter == row.counter) row (put_open row) refl (λ x xs. refl) rows any)
opens_lead party R (Drop counter) rows leads before any = before (any_filtered (is_opener_of party) (λ x. not (x.counter == counter)) rows any)
opens_lead party R (DropOf its) rows leads before any = before (any_filtered (is_opener_of party) (λ x. not (same_party its x.owner.instance)) rows any)

-- the party had a row, or calls
abbrev IsCallers : Party → Seen → Option Party → Type 0
IsCallers party s caller = (has_row party s ≡ true) ⊎ (caller ≡ Some party)

or_left : (b c : Bool) → b ≡ true → (b || c) ≡ true
or_left true c h = refl
or_left false c h = absurd (false≢true h)

or_right : (b c : Bool) → c ≡ true → (b || c) ≡ true
or_right true c h = refl
or_right false c h = h

or_either : (b c : Bool) → (b || c) ≡ true → (b ≡ true) ⊎ (c ≡ true)
or_either true c h = inl refl
or_either false c h = inr h

had_open : (party : Party) (s : Seen) (caller : Option Party) → list_any (is_opener_of party) s.opens ≡ true → IsCallers party s caller
had_open party s caller any = inl (or_left _ _ any)

had_owner : (party : Party) (s : Seen) (caller : Option Party) → list_any (is_owner_of party) s.owners ≡ true → IsCallers party s caller
had_owner party s caller any = inl (or_right _ _ any)

words_lead : (party : Party) (s : Seen) (caller : Option Party) (w : Words) → OpensLead party (IsCallers party s caller) w.opens
    → OwnersLead party (IsCallers party s caller) w.owners → OwnersLead party (IsCallers party s caller) w.starts
    → has_row party (after_words s w) ≡ true → IsCallers party s caller
unfolding after_words
words_lead party s caller w opens owners starts has =
    one_of
    (opens_lead party (IsCallers party s caller) w.opens s.opens opens (had_open party s caller))
    (owners_lead party (IsCallers party s caller) w.starts (owners_after w.owners s.owners) starts
    (owners_lead party (IsCallers party s caller) w.owners s.owners owners (had_owner party s caller)))
    (or_either _ _ has)

-- ---- owners

-- an owner that is known has a row
known_leads : (party : Party) (s : Seen) (caller : Option Party) (owner : Owner) → not (is_none (owner_at owner s.owners)) ≡ true
    → Leads party (IsCallers party s caller) owner.instance
unfolding owner_at
known_leads party s caller owner known same = had_owner party s caller (there s.owners known)
  where
    there : (rows : List OwnerRow) → not (is_none (find (λ row. same_owner owner row.owner) rows)) ≡ true → list_any (is_owner_of party) rows ≡ true
    there [] known = absurd (false≢true known)
    there (x ∷ xs) known = by_test (same_owner owner x.owner) refl known (there xs)
      where
        by_test : (b : Bool) → same_owner owner x.owner ≡ b → not (is_none (cond b (Some x) (find (λ row. same_owner owner row.owner) xs))) ≡ true
            → (not (is_none (find (λ row. same_owner owner row.owner) xs)) ≡ true → list_any (is_owner_of party) xs ≡ true)
            → (is_owner_of party x || list_any (is_owner_of party) xs) ≡ true
        by_test true its known later =
            or_left _ _ (ap (λ (o : Owner). same_party party o.instance) (sym ((same_owner-Decides owner x.owner).0 its)) ∙ same)
        by_test false other known later = or_right _ _ (later known)

-- an open that is live has one
live_leads : (party : Party) (s : Seen) (caller : Option Party) (k : ℕ) (row : OpenRow) → open_at k s.opens ≡ Some row
    → Leads party (IsCallers party s caller) row.owner.instance
unfolding open_at
live_leads party s caller k row live same = had_open party s caller (there s.opens live)
  where
    some_is : {a b : OpenRow} → Some a ≡ Some b → a ≡ b
    some_is e = cc

    there : (rows : List OpenRow) → find (λ x. x.counter == k) rows ≡ Some row → list_any (is_opener_of party) rows ≡ true
    there [] found = cc
    there (x ∷ xs) found = by_test (x.counter == k) found (there xs)
      where
        by_test : (b : Bool) → cond b (Some x) (find (λ y. y.counter == k) xs) ≡ Some row → (find (λ y. y.counter == k) xs ≡ Some row → list_any (is_opener_of party) xs ≡ true)
            → (is_opener_of party x || list_any (is_opener_of party) xs) ≡ true
        by_test true here later = or_left _ _ (ap (λ (y : OpenRow). same_party party y.owner.instance) (some_is here) ∙ same)
        by_test false there later = or_right _ _ (later there)

-- an owner that the caller names is the caller's
own_leads : (party : Party) (s : Seen) (caller : Option Party) (its : Party) → caller ≡ Some its → Leads party (IsCallers party s caller) its
own_leads party s caller its calls same = inr (calls ∙ ap Some (sym ((same_party-Decides party its).0 same)))

-- the owner for which a call is asked
abbrev OwnerLeads : Party → Type 0 → Option Owner → Type 0
OwnerLeads party R None = Unit {0}
OwnerLeads party R (Some owner) = Leads party R owner.instance

named_leads : (party : Party) (s : Seen) (caller : Option Party) (stateid : StateRef) → OwnersAreKnown s → OwnerLeads party (IsCallers party s caller) (owner_named (look s) stateid)
unfolding named_by look
named_leads party s caller Zeros known = tt
named_leads party s caller Ones known = tt
named_leads party s caller (Named id) known = by_open (open_at id.counter s.opens) refl (open_at id.counter s.closed) refl
  where
    by_open : (o : Option OpenRow) → open_at id.counter s.opens ≡ o → (c : Option OpenRow) → open_at id.counter s.closed ≡ c
        → OwnerLeads party (IsCallers party s caller) (option_map (λ row. row.owner) (option_or o c))
    by_open (Some row) live c closed = known_leads party s caller row.owner (all_at (is_known s.owners) id.counter s.opens row known.opens live)
    by_open None none (Some row) closed = known_leads party s caller row.owner (all_at (is_known s.owners) id.counter s.closed row known.closed closed)
    by_open None none None nowhere = tt

lock_leads : (party : Party) (s : Seen) (caller : Option Party) (stateid : StateRef) → OwnersAreKnown s → OwnerLeads party (IsCallers party s caller) (lock_owner_named (look s) stateid)
unfolding lock_named_by look
lock_leads party s caller Zeros known = tt
lock_leads party s caller Ones known = tt
lock_leads party s caller (Named id) known = by_lock (lock_at id.counter s.locks) refl
  where
    by_lock : (o : Option LockRow) → lock_at id.counter s.locks ≡ o → OwnerLeads party (IsCallers party s caller) (option_map (λ row. row.owner) o)
    by_lock None none = tt
    by_lock (Some row) found = known_leads party s caller row.owner (lock_all_at (is_locker s.owners) id.counter s.locks row known.locks found)

asked_leads : (party : Party) (s : Seen) (caller : Option Party) (d : Deed) → OwnersAreKnown s → OwnerLeads party (IsCallers party s caller) (seqid_owner (look s) caller d)
unfolding seqid_owner
asked_leads party s caller (deed.Close args) known = named_leads party s caller args.stateid known
asked_leads party s caller (deed.Lock args) known = by_locker args.locker
  where
    by_locker : (its : Locker) → OwnerLeads party (IsCallers party s caller) (locker_owner (look s) its)
    by_locker (locker.New open_seqid stateid lock_seqid text) = named_leads party s caller stateid known
    by_locker (locker.Known stateid lock_seqid) = lock_leads party s caller stateid known
asked_leads party s None (deed.Open args) known = tt
asked_leads party s (Some its) (deed.Open args) known = own_leads party s (Some its) its refl
asked_leads party s caller (deed.OpenConfirm args) known = named_leads party s caller args.stateid known
asked_leads party s caller (deed.OpenDowngrade args) known = named_leads party s caller args.stateid known
asked_leads party s caller (deed.Unlock args) known = lock_leads party s caller args.stateid known
asked_leads party s caller _ known = tt

noted_leads : (party : Party) (R : Type 0) (n : Now) (call : Call) (r : Reply) (o : Option Owner) → OwnerLeads party R o → OwnersLead party R (noted n call r o)
unfolding noted
noted_leads party R n call r None leads = tt
noted_leads party R n call r (Some owner) leads = by_test (advances r.status)
  where
    by_test : (b : Bool) → OwnersLead party R (cond b (Noted (noted_row (n.owner_by owner) owner (seqid_of call.deed) call r) (closed_by n call.deed r.value)) Stays)
    by_test true = leads
    by_test false = tt

word_leads : (party : Party) (s : Seen) (call : Call) (r : Reply) → OwnersAreKnown s → OwnersLead party (IsCallers party s call.caller) (owner_word (look s) call r)
word_leads party s call r known = by_test (is_fresh (judgement (look s) call))
  where
    by_test : (b : Bool) → OwnersLead party (IsCallers party s call.caller) (cond b (noted (look s) call r (seqid_owner (look s) call.caller call.deed)) Stays)
    by_test true = noted_leads party (IsCallers party s call.caller) (look s) call r _ (asked_leads party s call.caller call.deed known)
    by_test false = tt

-- a lock owner that starts is the caller's
start_leads : (party : Party) (s : Seen) (call : Call) (r : Reply) (d : Deed) (value : ReplyValue) → OwnersLead party (IsCallers party s call.caller) (started_by (look s) call r d value)
unfolding started_by
start_leads party s call r (deed.Lock args) value = by_lock (is_locked value) call.caller refl args.locker
  where
    by_lock : (b : Bool) (c : Option Party) → call.caller ≡ c → (its : Locker) → OwnersLead party (IsCallers party s call.caller) (cond b (started (look s) call r c its) Stays)
    by_lock false c calls its = tt
    by_lock true None calls (locker.New open_seqid stateid lock_seqid text) = tt
    by_lock true None calls (locker.Known stateid lock_seqid) = tt
    by_lock true (Some it) calls (locker.New open_seqid stateid lock_seqid text) = own_leads party s call.caller it calls
    by_lock true (Some it) calls (locker.Known stateid lock_seqid) = tt
start_leads party s call r (deed.ReleaseLockOwner args) value = by_release (is_released value) call.caller
  where
    by_release : (b : Bool) (c : Option Party) → OwnersLead party (IsCallers party s call.caller) (cond b (ended c args.owner) Stays)
    by_release false c = tt
    by_release true None = tt
    by_release true (Some it) = tt
start_leads party s call r _ value = tt

-- ---- opens

-- a change in its place keeps the owner
changed_leads : (party : Party) (s : Seen) (caller : Option Party) (change : OpenRow → OpenRow) → ((x : OpenRow) → (change x).owner ≡ x.owner) → (k : ℕ)
    → OpensLead party (IsCallers party s caller) (put_if (option_map change (open_at k s.opens)))
changed_leads party s caller change keeps k = by_row (open_at k s.opens) refl
  where
    by_row : (o : Option OpenRow) → open_at k s.opens ≡ o → OpensLead party (IsCallers party s caller) (put_if (option_map change o))
    by_row None none = tt
    by_row (Some row) live = λ same. live_leads party s caller k row live (sym (ap (λ (o : Owner). same_party party o.instance) (keeps row)) ∙ same)

opened_leads : (party : Party) (s : Seen) (caller : Option Party) (its : Party) (args : OpenArgs) (k file : ℕ) → caller ≡ Some its
    → Leads party (IsCallers party s caller) (opened_row (open_at k s.opens) k file (opener its args) args.access args.deny).owner.instance
unfolding opened_row
opened_leads party s caller its args k file calls = by_row (open_at k s.opens) refl
  where
    by_row : (o : Option OpenRow) → open_at k s.opens ≡ o
        → Leads party (IsCallers party s caller) (opened_row o k file (opener its args) args.access args.deny).owner.instance
    by_row None none = own_leads party s caller its calls
    by_row (Some row) live = live_leads party s caller k row live

deed_leads : (party : Party) (s : Seen) (caller : Option Party) (file : ℕ) (d : Deed)
    → OpensLead party (IsCallers party s caller) (deed_words (look s) caller file d (ok_value s caller file d)).opens
unfolding create_value write_value changed_stateid changed_lock open_value look
deed_leads party s caller file (deed.Close args) = by_told (option_map (next_stateid s.fs) (open_named s args.stateid))
  where
    by_told : (o : Option StateId) → OpensLead party (IsCallers party s caller) (deed_words (look s) caller file (deed.Close args) (told.Close o)).opens
    by_told None = tt
    by_told (Some id) = tt
deed_leads party s caller file (deed.Lock args) =
    subst (OpensLead party (IsCallers party s caller)) (sym (lock_keeps (look s) caller file args (lock_value s args)).opens) tt
deed_leads party s None file (deed.Open args) = tt
deed_leads party s (Some its) file (deed.Open args) = opened_leads party s (Some its) its args _ _ refl
deed_leads party s caller file (deed.OpenConfirm args) = by_told (option_map (next_stateid s.fs) (open_named s args.stateid))
  where
    by_told : (o : Option StateId) → OpensLead party (IsCallers party s caller) (deed_words (look s) caller file (deed.OpenConfirm args) (told.OpenConfirm o)).opens
    by_told None = tt
    by_told (Some id) = changed_leads party s caller renewed_row (λ x. refl) id.counter
deed_leads party s caller file (deed.OpenDowngrade args) = by_told (option_map (next_stateid s.fs) (open_named s args.stateid))
  where
    by_told : (o : Option StateId) → OpensLead party (IsCallers party s caller) (deed_words (look s) caller file (deed.OpenDowngrade args) (told.OpenDowngrade o)).opens
    by_told None = tt
    by_told (Some id) = changed_leads party s caller (narrowed_row args.access args.deny) (λ x. refl) id.counter
deed_leads party s None file (deed.ReleaseLockOwner args) = tt
deed_leads party s (Some its) file (deed.ReleaseLockOwner args) = tt
deed_leads party s caller file (deed.Unlock args) =
    subst (OpensLead party (IsCallers party s caller)) (sym (unlock_keeps (look s) args (option_map (next_lock_stateid s.fs) (lock_named s args.stateid))).opens) tt
deed_leads party s caller file (deed.Access _) = tt
deed_leads party s caller file (deed.Commit _) = tt
deed_leads party s caller file (deed.Create _) = tt
deed_leads party s caller file (deed.GetAttr _) = tt
deed_leads party s caller file (deed.LockTest _) = tt
deed_leads party s caller file (deed.Lookup _) = tt
deed_leads party s caller file deed.LookupP = tt
deed_leads party s caller file (deed.Read _) = tt
deed_leads party s caller file (deed.ReadDir _) = tt
deed_leads party s caller file (deed.Remove _) = tt
deed_leads party s caller file (deed.SetAttr _) = tt
deed_leads party s caller file (deed.Write _) = tt

-- ---- the law

pub callers-seen : (fs : ℕ) (grants : Bool) (es : Past) (call : Call) (verdict : Verdict) (party : Party) → IsLegal fs grants es
    → has_row party (after (seen fs grants es) (Asked call verdict) (answer_to (seen fs grants es) (Asked call verdict))) ≡ true
    → IsCallers party (seen fs grants es) call.caller
callers-seen fs grants es call verdict party legal =
    by_answer (λ w. has_row party (after_words s w) ≡ true → IsCallers party s call.caller) s call verdict
    (λ status refused. words_lead party s call.caller _ tt (word_leads party s call (reply_by s call (Some (Refuse status))) known) tt)
    (words_lead party s call.caller no_words tt tt tt)
    (λ goes. words_lead party s call.caller _ (deed_leads party s call.caller call.file call.deed)
    (noted_leads party (IsCallers party s call.caller) (look s) call (reply_by s call None) _ (asked_leads party s call.caller call.deed known))
    (start_leads party s call (reply_by s call None) call.deed (ok_value s call.caller call.file call.deed)))
  where
    s : Seen
    s = seen fs grants es

    known : OwnersAreKnown s
    known = known-seen fs grants es legal
