-- A closed open stays in its table exactly while its CLOSE is its owner's kept call.
use Rattle.std.proofs.Common.{◌≡◌, Bool, true, false, cond, List, [], ◌∷◌, ◌++◌, Option, Some, None, refl, ap, sym, subst, ◌∙◌, ℕ}
use Rattle.std.specs.Prelude.{◌==◌, not, map, filter, option_map}
use Rattle.std.specs.Option.{option_or}
use Rattle.std.proofs.lemmas.Bool.{both_ways}
use Rattle.nm_types.specs.Parties.{Party, same_party}
use Rattle.nm_types.specs.Owners.{same_owner}
use Rattle.nm_rules.specs.Shares.{open_at}
use Rattle.nm_rules.specs.Seqids.{OwnerWord, is_fresh, owner_at, owners_after, owner_left, closed_after, listed}
use Rattle.nm_types.specs.Statuses.{advances}
use Rattle.nm_types.specs.Calls.{seqid_of}
use Rattle.nm_rules.specs.Seqids.OwnerWord.{Stays, Noted, Gone, GoneOf}
use Rattle.nm_rules.specs.OwnerReadings.{closed_by_call, kept_close, counter_list, closed_of}
use Rattle.nm_rules.specs.Past.{Past, Now, Words, words, judgement, seqid_owner, named_by, noted, noted_row, closed_by, started_by}
use Rattle.nm_rules.specs.Seen.{Seen, seen, look, after, after_words}
use Rattle.nm_rules.specs.Checks.{Stop, first}
use Rattle.nm_rules.specs.Checks.Stop.{Refuse, Repeat}
use Rattle.nm_rules.specs.Opens.{changed_stateid, next_stateid}
use Rattle.nm_rules.specs.Stateids.{open_named}
use Rattle.nm_rules.specs.Answer.{answer_to, reply_by, refused_value, refusal_value, ok_value, checks, IsLegal}
use Rattle.nm_types.specs.declared.calls.Call.{Call}
use Rattle.nm_types.specs.declared.calls.Deed.{Deed}
use Rattle.nm_types.specs.declared.calls.Deed.TheVariants as deed
use Rattle.nm_types.specs.declared.calls.Event.{Event}
use Rattle.nm_types.specs.declared.calls.Event.TheVariants.{Asked, Ended}
use Rattle.nm_types.specs.declared.calls.Owner.{Owner}
use Rattle.nm_types.specs.declared.calls.Reply.{Reply}
use Rattle.nm_types.specs.declared.calls.ReplyValue.TheVariants as told
use Rattle.nm_types.specs.declared.calls.StateRef.{StateRef}
use Rattle.nm_types.specs.declared.calls.StateRef.TheVariants.{Zeros, Ones, Named}
use Rattle.nm_types.specs.declared.owners.OwnerRow.{OwnerRow}
use Rattle.nm_types.specs.declared.rows.OpenRow.{OpenRow}
use Rattle.nm_types.specs.declared.status.OpStatus.{OpStatus}
use Rattle.nm_rules.proofs.OwnerLemmas.{same_owner-Decides}
use Rattle.nm_rules.proofs.OwnerRows.{owner_by-after}
use Rattle.nm_rules.proofs.Legal.{words-free, words-old, words-refused, repeat_is_old, named_is_live}
use Rattle.nm_rules.proofs.Refusals.{by_refusal, by_start}

-- ---- one table after a word

-- What is told of an open that a call closed: it is its owner's, and its counter is this one.
abbrev pub ClosesOwn : Owner → Option OpenRow → Option ℕ → Type 0
ClosesOwn owner None k = k ≡ None
ClosesOwn owner (Some row) k = (row.owner ≡ owner) × (k ≡ Some row.counter)

swept_own : (owner : Owner) (rows : List OpenRow) → closed_of owner (filter (λ x. not (same_owner owner x.owner)) rows) ≡ []
unfolding closed_of
swept_own owner [] = refl
swept_own owner (x ∷ xs) = by_test (same_owner owner x.owner) refl (swept_own owner xs)
  where
    kept : List OpenRow
    kept = filter (λ y. not (same_owner owner y.owner)) xs

    by_test : (b : Bool) → same_owner owner x.owner ≡ b → closed_of owner kept ≡ []
        → map (λ r. r.counter) (filter (λ r. same_owner owner r.owner) (cond (not b) (x ∷ kept) kept)) ≡ []
    by_test true its later = later
    by_test false other later = rw other later

swept_other : (owner mine : Owner) (rows : List OpenRow) → same_owner owner mine ≡ false
    → closed_of owner (filter (λ x. not (same_owner mine x.owner)) rows) ≡ closed_of owner rows
unfolding closed_of
swept_other owner mine [] other = refl
swept_other owner mine (x ∷ xs) other = by_tests (same_owner mine x.owner) (same_owner owner x.owner) refl refl (swept_other owner mine xs other)
  where
    kept : List OpenRow
    kept = filter (λ y. not (same_owner mine y.owner)) xs

    by_tests : (b c : Bool) → same_owner mine x.owner ≡ b → same_owner owner x.owner ≡ c → closed_of owner kept ≡ closed_of owner xs
        → map (λ r. r.counter) (filter (λ r. same_owner owner r.owner) (cond (not b) (x ∷ kept) kept))
        ≡ map (λ r. r.counter) (cond c (x ∷ filter (λ r. same_owner owner r.owner) xs) (filter (λ r. same_owner owner r.owner) xs))
    by_tests true true its is_x later =
        absurd (both_ways (same_owner owner mine) other (rw ((same_owner-Decides mine x.owner).0 its) is_x))
    by_tests true false its not_x later = later
    by_tests false true not_its is_x later = rw is_x (ap (λ ks. x.counter ∷ ks) later)
    by_tests false false not_its not_x later = rw not_x later

ended_closed : (party : Party) (owner : Owner) (rows : List OpenRow)
    → closed_of owner (filter (λ x. not (same_party party x.owner.instance)) rows) ≡ cond (same_party party owner.instance) [] (closed_of owner rows)
unfolding closed_of
ended_closed party owner [] = by_test (same_party party owner.instance)
  where
    none : List ℕ
    none = []

    by_test : (b : Bool) → none ≡ cond b none none
    by_test true = refl
    by_test false = refl
ended_closed party owner (x ∷ xs) =
    by_tests (same_party party x.owner.instance) (same_owner owner x.owner) (same_party party owner.instance) refl refl refl (ended_closed party owner xs)
  where
    kept : List OpenRow
    kept = filter (λ y. not (same_party party y.owner.instance)) xs

    by_tests : (b c d : Bool) → same_party party x.owner.instance ≡ b → same_owner owner x.owner ≡ c → same_party party owner.instance ≡ d
        → closed_of owner kept ≡ cond d [] (closed_of owner xs)
        → map (λ r. r.counter) (filter (λ r. same_owner owner r.owner) (cond (not b) (x ∷ kept) kept))
        ≡ cond d [] (map (λ r. r.counter) (cond c (x ∷ filter (λ r. same_owner owner r.owner) xs) (filter (λ r. same_owner owner r.owner) xs)))
    by_tests true true true its is_x gone later = later
    by_tests true true false its is_x gone later =
        absurd (both_ways (same_party party owner.instance) gone (rw ((same_owner-Decides owner x.owner).0 is_x) its))
    by_tests true false d its not_x gone later = later
    by_tests false true true other is_x gone later =
        absurd (both_ways (same_party party x.owner.instance) other (rw (← (same_owner-Decides owner x.owner).0 is_x) gone))
    by_tests false true false other is_x gone later = rw is_x (ap (λ ks. x.counter ∷ ks) later)
    by_tests false false d other not_x gone later = rw not_x later

closed-append : (owner : Owner) (xs ys : List OpenRow) → closed_of owner (xs ++ ys) ≡ closed_of owner xs ++ closed_of owner ys
unfolding closed_of
closed-append owner [] ys = refl
closed-append owner (x ∷ xs) ys = by_test (same_owner owner x.owner) (closed-append owner xs ys)
  where
    its : List OpenRow → List OpenRow
    its = filter (λ r. same_owner owner r.owner)

    by_test : (b : Bool) → map (λ r. r.counter) (its (xs ++ ys)) ≡ map (λ r. r.counter) (its xs) ++ map (λ r. r.counter) (its ys)
        → map (λ r. r.counter) (cond b (x ∷ its (xs ++ ys)) (its (xs ++ ys)))
        ≡ map (λ r. r.counter) (cond b (x ∷ its xs) (its xs)) ++ map (λ r. r.counter) (its ys)
    by_test true later = ap (λ ks. x.counter ∷ ks) later
    by_test false later = later

nothing_more : (xs : List ℕ) → xs ++ [] ≡ xs
nothing_more [] = refl
nothing_more (x ∷ xs) = ap (λ ys. x ∷ ys) (nothing_more xs)

-- the open that a call closed, in the table of an owner
closed_listed : (owner mine : Owner) (o : Option OpenRow) (k : Option ℕ) → ClosesOwn mine o k
    → closed_of owner (listed o) ≡ cond (same_owner owner mine) (counter_list k) []
unfolding closed_of
closed_listed owner mine None k none = rw none (by_test (same_owner owner mine))
  where
    nothing : List ℕ
    nothing = []

    by_test : (b : Bool) → nothing ≡ cond b nothing nothing
    by_test true = refl
    by_test false = refl
closed_listed owner mine (Some row) k its =
    ap (λ o. map (λ r. r.counter) (cond (same_owner owner o) (row ∷ []) [])) its.0
    ∙ by_test (same_owner owner mine)
    ∙ ap (λ x. cond (same_owner owner mine) (counter_list x) []) (sym its.1)
  where
    by_test : (b : Bool) → map (λ r. r.counter) (cond b (row ∷ []) []) ≡ cond b (row.counter ∷ []) []
    by_test true = refl
    by_test false = refl

-- what a note leaves of an owner's closed opens
closed-noted : (owner : Owner) (row : OwnerRow) (closed : Option OpenRow) (rows : List OpenRow)
    → ClosesOwn row.owner closed (closed_by_call row.call.deed row.reply.value)
    → closed_of owner (filter (λ x. not (same_owner row.owner x.owner)) rows ++ listed closed)
    ≡ cond (same_owner owner row.owner) (counter_list (closed_by_call row.call.deed row.reply.value)) (closed_of owner rows)
closed-noted owner row closed rows its =
    closed-append owner (filter (λ x. not (same_owner row.owner x.owner)) rows) (listed closed)
    ∙ ap (λ ks. closed_of owner (filter (λ x. not (same_owner row.owner x.owner)) rows) ++ ks)
    (closed_listed owner row.owner closed (closed_by_call row.call.deed row.reply.value) its)
    ∙ by_test (same_owner owner row.owner) refl
  where
    by_test : (b : Bool) → same_owner owner row.owner ≡ b
        → closed_of owner (filter (λ x. not (same_owner row.owner x.owner)) rows) ++ cond b (counter_list (closed_by_call row.call.deed row.reply.value)) []
        ≡ cond b (counter_list (closed_by_call row.call.deed row.reply.value)) (closed_of owner rows)
    by_test true same =
        ap (λ ks. ks ++ counter_list (closed_by_call row.call.deed row.reply.value))
        (ap (λ o. closed_of owner (filter (λ x. not (same_owner o x.owner)) rows)) (sym ((same_owner-Decides owner row.owner).0 same)) ∙ swept_own owner rows)
    by_test false other = nothing_more _ ∙ swept_other owner row.owner rows other

-- ---- what each word leaves of the law

-- the closed opens of each owner are those that its kept call closed: one or none
abbrev pub AreKept : List OwnerRow → List OpenRow → Type 0
AreKept owners closed = (owner : Owner) → closed_of owner closed ≡ counter_list (kept_close (owner_at owner owners))

-- the word notes what its call closed
abbrev pub NotesClosed : OwnerWord → Type 0
NotesClosed Stays = Unit {0}
NotesClosed (Noted row closed) = ClosesOwn row.owner closed (closed_by_call row.call.deed row.reply.value)
NotesClosed (Gone owner) = Unit {0}
NotesClosed (GoneOf party) = Unit {0}

pub kept-after : (word : OwnerWord) (owners : List OwnerRow) (closed : List OpenRow) → NotesClosed word → AreKept owners closed
    → AreKept (owners_after word owners) (closed_after word closed)
unfolding closed_after owner_left
kept-after Stays owners closed notes kept owner = kept owner ∙ ap (λ o. counter_list (kept_close o)) (sym (owner_by-after Stays owners owner))
kept-after (Noted row gone) owners closed notes kept owner =
    closed-noted owner row gone closed notes
    ∙ by_test (same_owner owner row.owner)
    ∙ ap (λ o. counter_list (kept_close o)) (sym (owner_by-after (Noted row gone) owners owner))
  where
    by_test : (b : Bool) → cond b (counter_list (closed_by_call row.call.deed row.reply.value)) (closed_of owner closed)
        ≡ counter_list (kept_close (cond b (Some row) (owner_at owner owners)))
    by_test true = refl
    by_test false = kept owner
kept-after (Gone its) owners closed notes kept owner =
    by_test (same_owner owner its) refl ∙ ap (λ o. counter_list (kept_close o)) (sym (owner_by-after (Gone its) owners owner))
  where
    by_test : (b : Bool) → same_owner owner its ≡ b
        → closed_of owner (filter (λ x. not (same_owner its x.owner)) closed) ≡ counter_list (kept_close (cond b None (owner_at owner owners)))
    by_test true same =
        ap (λ (o : Owner). closed_of owner (filter (λ x. not (same_owner o x.owner)) closed)) (sym ((same_owner-Decides owner its).0 same)) ∙ swept_own owner closed
    by_test false other = swept_other owner its closed other ∙ kept owner
kept-after (GoneOf party) owners closed notes kept owner =
    ended_closed party owner closed
    ∙ by_test (same_party party owner.instance)
    ∙ ap (λ o. counter_list (kept_close o)) (sym (owner_by-after (GoneOf party) owners owner))
  where
    by_test : (b : Bool) → cond b [] (closed_of owner closed) ≡ counter_list (kept_close (cond b None (owner_at owner owners)))
    by_test true = refl
    by_test false = kept owner

-- ---- what a call notes

notes_by : (n : Now) (call : Call) (r : Reply) (o : Option Owner)
    → ((owner : Owner) → o ≡ Some owner → ClosesOwn owner (closed_by n call.deed r.value) (closed_by_call call.deed r.value)) → NotesClosed (noted n call r o)
unfolding noted
notes_by n call r None closes = tt
notes_by n call r (Some owner) closes = by_status (advances r.status)
  where
    by_status : (b : Bool) → NotesClosed (cond b (Noted (noted_row (n.owner_by owner) owner (seqid_of call.deed) call r) (closed_by n call.deed r.value)) Stays)
    by_status true = closes owner refl
    by_status false = tt

-- a refusal closes nothing
refused_closes : (n : Now) (owner : Owner) (d : Deed) → ClosesOwn owner (closed_by n d (refused_value d)) (closed_by_call d (refused_value d))
unfolding closed_by closed_by_call
refused_closes n owner (deed.Access _) = refl
refused_closes n owner (deed.Close _) = refl
refused_closes n owner (deed.Commit _) = refl
refused_closes n owner (deed.Create _) = refl
refused_closes n owner (deed.GetAttr _) = refl
refused_closes n owner (deed.Lock _) = refl
refused_closes n owner (deed.LockTest _) = refl
refused_closes n owner (deed.Lookup _) = refl
refused_closes n owner deed.LookupP = refl
refused_closes n owner (deed.Open _) = refl
refused_closes n owner (deed.OpenConfirm _) = refl
refused_closes n owner (deed.OpenDowngrade _) = refl
refused_closes n owner (deed.Read _) = refl
refused_closes n owner (deed.ReadDir _) = refl
refused_closes n owner (deed.ReleaseLockOwner _) = refl
refused_closes n owner (deed.Remove _) = refl
refused_closes n owner (deed.SetAttr _) = refl
refused_closes n owner (deed.Unlock _) = refl
refused_closes n owner (deed.Write _) = refl

refusal_closes : (s : Seen) (owner : Owner) (caller : Option Party) (file : ℕ) (d : Deed) (status : OpStatus)
    → ClosesOwn owner (closed_by (look s) d (refusal_value s caller file d status)) (closed_by_call d (refusal_value s caller file d status))
unfolding closed_by closed_by_call
refusal_closes s owner caller file d status =
    by_refusal (λ its_deed value. ClosesOwn owner (closed_by (look s) its_deed value) (closed_by_call its_deed value))
    (refused_closes (look s) owner) (λ args o. refl) (λ args o. refl) s caller file d status

-- what starts or releases a lock owner closes nothing
start_notes : (s : Seen) (call : Call) (r : Reply) (caller : Option Party) (file : ℕ) → NotesClosed (started_by (look s) call r call.deed (ok_value s caller file call.deed))
unfolding closed_by_call
start_notes s call r caller file =
    by_start NotesClosed s call r tt (λ party text seqid args it. rw it refl) (λ party text. tt) caller file call.deed refl

-- a live open's owner is the one for whom its stateid is used
pub live_named : (s : Seen) (stateid : StateRef) (row : OpenRow) → open_named s stateid ≡ Some row → named_by (look s) stateid ≡ Some row
unfolding open_named named_by look
live_named s Zeros row found = cc
live_named s Ones row found = cc
live_named s (Named id) row found = by_fs (id.fs == s.fs) found
  where
    by_fs : (b : Bool) → cond b (open_at id.counter s.opens) None ≡ Some row → option_or (open_at id.counter s.opens) (open_at id.counter s.closed) ≡ Some row
    by_fs true here = rw here refl
    by_fs false elsewhere = cc

free_closes : (s : Seen) (caller : Option Party) (file : ℕ) (d : Deed) (owner : Owner) → seqid_owner (look s) caller d ≡ Some owner
    → ClosesOwn owner (closed_by (look s) d (ok_value s caller file d)) (closed_by_call d (ok_value s caller file d))
unfolding closed_by closed_by_call changed_stateid seqid_owner look
free_closes s caller file (deed.Access _) owner its = refl
free_closes s caller file (deed.Close args) owner its = by_open (open_named s args.stateid) refl
  where
    by_open : (o : Option OpenRow) → open_named s args.stateid ≡ o
        → ClosesOwn owner (closed_by (look s) (deed.Close args) (told.Close (option_map (next_stateid s.fs) o)))
        (closed_by_call (deed.Close args) (told.Close (option_map (next_stateid s.fs) o)))
    by_open None none = refl
    by_open (Some row) found =
        let same : Some row.owner ≡ Some owner = ap (option_map (λ r. r.owner)) (sym (live_named s args.stateid row found)) ∙ its in
        let live : open_at row.counter s.opens ≡ Some row = named_is_live s args.stateid row found in
        rw live (cc, refl)
free_closes s caller file (deed.Commit _) owner its = refl
free_closes s caller file (deed.Create _) owner its = refl
free_closes s caller file (deed.GetAttr _) owner its = refl
free_closes s caller file (deed.Lock _) owner its = refl
free_closes s caller file (deed.LockTest _) owner its = refl
free_closes s caller file (deed.Lookup _) owner its = refl
free_closes s caller file deed.LookupP owner its = refl
free_closes s caller file (deed.Open _) owner its = refl
free_closes s caller file (deed.OpenConfirm _) owner its = refl
free_closes s caller file (deed.OpenDowngrade _) owner its = refl
free_closes s caller file (deed.Read _) owner its = refl
free_closes s caller file (deed.ReadDir _) owner its = refl
free_closes s caller file (deed.ReleaseLockOwner _) owner its = refl
free_closes s caller file (deed.Remove _) owner its = refl
free_closes s caller file (deed.SetAttr _) owner its = refl
free_closes s caller file (deed.Unlock _) owner its = refl
free_closes s caller file (deed.Write _) owner its = refl

either_notes : (b : Bool) (word : OwnerWord) → NotesClosed word → NotesClosed (cond b word Stays)
either_notes true word notes = notes
either_notes false word notes = tt

-- both words of an entry
pub record BothNote (w : Words) : Type 0 where
  pub owners : NotesClosed w.owners
  pub starts : NotesClosed w.starts

event_notes : (s : Seen) (event : Event) → BothNote (words (look s) event (answer_to s event))
unfolding answer_to words
event_notes s (Ended party) = record { owners = tt; starts = tt }
event_notes s (Asked call verdict) = by_stop (first (checks s call.caller call.file verdict call.deed)) refl
  where
    by_stop : (x : Option Stop) → first (checks s call.caller call.file verdict call.deed) ≡ x
        → BothNote (words (look s) (Asked call verdict) (reply_by s call x))
    by_stop (Some (Refuse status)) refused = subst BothNote (sym (words-refused s call verdict status)) (record {
      owners = either_notes (is_fresh (judgement (look s) call)) _
          (notes_by (look s) call (reply_by s call (Some (Refuse status))) (seqid_owner (look s) call.caller call.deed)
          (λ owner its. refusal_closes s owner call.caller call.file call.deed status));
      starts = tt;
    })
    by_stop (Some (Repeat kept)) repeats =
        subst BothNote (sym (words-old (look s) call verdict kept (repeat_is_old s call verdict kept repeats))) (record { owners = tt; starts = tt })
    by_stop None goes = subst BothNote (sym (words-free s call verdict goes)) (record {
      owners = notes_by (look s) call (reply_by s call None) (seqid_owner (look s) call.caller call.deed)
          (λ owner its. free_closes s call.caller call.file call.deed owner its);
      starts = start_notes s call (reply_by s call None) call.caller call.file;
    })

kept-words : (s : Seen) (w : Words) → BothNote w → AreKept s.owners s.closed → AreKept (after_words s w).owners (after_words s w).closed
unfolding after_words
kept-words s w notes kept =
    kept-after w.starts (owners_after w.owners s.owners) (closed_after w.owners s.closed) notes.starts (kept-after w.owners s.owners s.closed notes.owners kept)

-- Of a legal list the closed opens of each owner are those that its kept call closed.
pub closed-seen : (fs : ℕ) (grants : Bool) (es : Past) → IsLegal fs grants es → AreKept (seen fs grants es).owners (seen fs grants es).closed
unfolding seen owner_at closed_of
closed-seen fs grants [] legal owner = refl
closed-seen fs grants (x ∷ earlier) legal owner =
    let s : Seen = seen fs grants earlier in
    subst (λ r. closed_of owner (after s x.event r).closed ≡ counter_list (kept_close (owner_at owner (after s x.event r).owners))) (sym legal.0)
    (kept-words s (words (look s) x.event (answer_to s x.event)) (event_notes s x.event) (closed-seen fs grants earlier legal.1) owner)
