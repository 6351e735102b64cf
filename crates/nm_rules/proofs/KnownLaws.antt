-- The owner of each open is known.
use Rattle.std.proofs.Common.{◌≡◌, ℕ, Bool, true, false, cond, List, [], ◌∷◌, ◌++◌, Option, Some, None, refl, ap, sym, subst, ◌∙◌}
use Rattle.std.specs.Prelude.{not, is_none, find, filter, option_map, ◌==◌}
use Rattle.std.specs.List.{list_all}
use Rattle.std.proofs.lemmas.Bool.{false≢true, both_ways, and_parts}
use Rattle.nm_rules.proofs.Apart.{all_put}
use Rattle.nm_types.specs.Parties.{Party, same_party}
use Rattle.nm_types.specs.Owners.{same_kind, same_owner}
use Rattle.nm_rules.specs.LockAsks.{lock_owner}
use Rattle.nm_rules.specs.LockOps.{lock_value, locked_stateid, changed_lock, next_lock_stateid}
use Rattle.nm_rules.specs.LockRows.{LockWord, lock_at, renewed_lock, claim_if, clear_if, locks_after}
use Rattle.nm_rules.specs.LockRows.LockWord.{AsIs, Claimed, Cleared, ClosedWith, Released, EndedOf}
use Rattle.nm_rules.specs.Seqids.{OwnerWord, is_fresh, owner_at, put_owner, owners_after, closed_after, listed}
use Rattle.nm_types.specs.Statuses.{advances}
use Rattle.nm_types.specs.Calls.{seqid_of}
use Rattle.nm_rules.specs.Seqids.OwnerWord.{Stays, Noted, Gone, GoneOf}
use Rattle.nm_rules.specs.Shares.{OpenWord, open_at, opened_row, renewed_row, narrowed_row, put_if, put_open, opens_after}
use Rattle.nm_rules.specs.Shares.OpenWord.{Keep, Put, Drop, DropOf}
use Rattle.nm_rules.specs.Past.{Past, Now, Words, no_words, deed_words, noted, noted_row, closed_by, owner_word, judgement, seqid_owner, with_owners, words, started_by, lock_starts, ended, released_words, lock_words, unlock_words, opener, open_words, close_words, confirm_words, downgrade_words}
use Rattle.nm_rules.specs.Seen.{Seen, seen, look, after, after_words}
use Rattle.nm_rules.specs.Checks.{Stop, first}
use Rattle.nm_rules.specs.Checks.Stop.{Refuse, Repeat}
use Rattle.nm_rules.specs.Data.{write_value}
use Rattle.nm_rules.specs.Files.{create_value}
use Rattle.nm_rules.specs.Opens.{changed_stateid, next_stateid, open_value}
use Rattle.nm_rules.specs.Stateids.{open_named, lock_named}
use Rattle.nm_rules.specs.Answer.{answer_to, reply_by, refused_value, refusal_value, ok_value, checks, IsLegal}
use Rattle.nm_rules.specs.Sound.{is_known, is_opener, is_locker, OwnersAreKnown}
use Rattle.nm_types.specs.declared.args.Locker.{Locker}
use Rattle.nm_types.specs.declared.args.Locker.TheVariants as locker
use Rattle.nm_types.specs.declared.args.OpenArgs.{OpenArgs}
use Rattle.nm_types.specs.declared.args.OpenDowngradeArgs.{OpenDowngradeArgs}
use Rattle.nm_types.specs.declared.calls.Call.{Call}
use Rattle.nm_types.specs.declared.calls.StateId.{StateId}
use Rattle.nm_types.specs.declared.calls.Deed.{Deed}
use Rattle.nm_types.specs.declared.calls.Deed.TheVariants as deed
use Rattle.nm_types.specs.declared.calls.Event.{Event}
use Rattle.nm_types.specs.declared.calls.Event.TheVariants.{Asked, Ended}
use Rattle.nm_types.specs.declared.calls.Owner.{Owner}
use Rattle.nm_types.specs.declared.calls.OwnerKind.TheVariants.{Opens}
use Rattle.nm_types.specs.declared.calls.Reply.{Reply}
use Rattle.nm_types.specs.declared.calls.ReplyValue.TheVariants as told
use Rattle.nm_types.specs.declared.calls.StateRef.{StateRef}
use Rattle.nm_types.specs.declared.owners.OwnerRow.{OwnerRow}
use Rattle.nm_types.specs.declared.results.LockKind.{LockKind}
use Rattle.nm_types.specs.declared.results.LockOutcome.TheVariants.{Locked}
use Rattle.nm_types.specs.declared.rows.LockRow.{LockRow}
use Rattle.nm_types.specs.declared.rows.OpenRow.{OpenRow}
use Rattle.nm_types.specs.declared.status.OpStatus.{OpStatus}
use Rattle.nm_types.specs.declared.status.OpStatus.TheVariants.{Nfs4Ok}
use Rattle.nm_rules.proofs.Legal.{words-free, words-old, words-refused, repeat_is_old}
use Rattle.nm_rules.proofs.LockRowLaws.{list_all-filter, list_all-put}
use Rattle.nm_rules.proofs.OwnerLemmas.{same_owner-Decides}
use Rattle.nm_rules.proofs.OwnerRows.{owner_at-put, owner_at-gone, owner_at-without}
use Rattle.nm_rules.proofs.Refusals.{by_refusal, by_start, lock_keeps, unlock_keeps, release_keeps}

-- ---- owners that move on

-- a word by which an owner moves on, or none
abbrev Remains : OwnerWord → Type 0
Remains Stays = Unit {0}
Remains (Noted row closed) = Unit {0}
Remains (Gone owner) = ⊥
Remains (GoneOf party) = ⊥

-- who is known stays known
known-after : (word : OwnerWord) (owners : List OwnerRow) (x : OpenRow) → Remains word → is_known owners x ≡ true → is_known (owners_after word owners) x ≡ true
unfolding owners_after
known-after Stays owners x remains known = known
known-after (Noted row closed) owners x remains known = rw (owner_at-put row owners x.owner) (by_test (same_owner x.owner row.owner))
  where
    by_test : (b : Bool) → not (is_none (cond b (Some row) (owner_at x.owner owners))) ≡ true
    by_test true = refl
    by_test false = known
known-after (Gone owner) owners x remains known = absurd remains
known-after (GoneOf party) owners x remains known = absurd remains

-- who moves on is known
known-now : (row : OwnerRow) (owners : List OwnerRow) (x : OpenRow) → x.owner ≡ row.owner → is_known (put_owner row owners) x ≡ true
known-now row owners x same = rw (owner_at-put row owners x.owner, (same_owner-Decides x.owner row.owner).1 same) refl

all_known : (word : OwnerWord) (owners : List OwnerRow) (rows : List OpenRow) → Remains word → list_all (is_known owners) rows ≡ true
    → list_all (is_known (owners_after word owners)) rows ≡ true
all_known word owners [] remains known = refl
all_known word owners (x ∷ xs) remains known =
    let parts = and_parts (is_known owners x) (list_all (is_known owners) xs) known in
    rw (known-after word owners x remains parts.0, all_known word owners xs remains parts.1) refl

-- ---- opens

pub all_at : (p : OpenRow → Bool) (k : ℕ) (rows : List OpenRow) (x : OpenRow) → list_all p rows ≡ true → open_at k rows ≡ Some x → p x ≡ true
unfolding open_at
all_at p k [] x all found = cc
all_at p k (y ∷ ys) x all found =
    by_test (y.counter == k) found (and_parts (p y) (list_all p ys) all).0 (λ there. all_at p k ys x (and_parts (p y) (list_all p ys) all).1 there)
  where
    by_test : (b : Bool) → cond b (Some y) (find (λ row. row.counter == k) ys) ≡ Some x → p y ≡ true
        → (find (λ row. row.counter == k) ys ≡ Some x → p x ≡ true) → p x ≡ true
    by_test true here passes later = ap p (sym (some_same here)) ∙ passes
      where
        some_same : {a b : OpenRow} → Some a ≡ Some b → a ≡ b
        some_same e = cc
    by_test false there passes later = later there

all_appended : (p : OpenRow → Bool) (xs ys : List OpenRow) → list_all p xs ≡ true → list_all p ys ≡ true → list_all p (xs ++ ys) ≡ true
all_appended p [] ys one two = two
all_appended p (x ∷ xs) ys one two =
    let parts = and_parts (p x) (list_all p xs) one in
    rw (parts.0, all_appended p xs ys parts.1 two) refl

-- the open that a word puts has a known owner
abbrev OpenFits : OpenWord → List OwnerRow → Type 0
OpenFits Keep owners = Unit {0}
OpenFits (Put row) owners = is_known owners row ≡ true
OpenFits (Drop counter) owners = Unit {0}
OpenFits (DropOf party) owners = Unit {0}

-- and so has the one that a call closes
abbrev ClosedFits : OwnerWord → List OwnerRow → Type 0
ClosedFits Stays owners = Unit {0}
ClosedFits (Noted row None) owners = Unit {0}
ClosedFits (Noted row (Some closed)) owners = is_known (put_owner row owners) closed ≡ true
ClosedFits (Gone owner) owners = Unit {0}
ClosedFits (GoneOf party) owners = Unit {0}

opens_known : (word : OpenWord) (owners : List OwnerRow) (rows : List OpenRow) → list_all (is_known owners) rows ≡ true → OpenFits word owners
    → list_all (is_known owners) (opens_after word rows) ≡ true
unfolding opens_after
opens_known Keep owners rows known fits = known
opens_known (Put row) owners rows known fits = all_put (is_known owners) row rows known fits
opens_known (Drop counter) owners rows known fits = list_all-filter (is_known owners) (λ x. not (x.counter == counter)) rows known
opens_known (DropOf party) owners rows known fits = list_all-filter (is_known owners) (λ x. not (same_party party x.owner.instance)) rows known

closed_known : (word : OwnerWord) (owners : List OwnerRow) (rows : List OpenRow) → Remains word → list_all (is_known owners) rows ≡ true → ClosedFits word owners
    → list_all (is_known (owners_after word owners)) (closed_after word rows) ≡ true
unfolding owners_after closed_after
closed_known Stays owners rows remains known fits = known
closed_known (Noted row closed) owners rows remains known fits =
    all_appended (is_known (put_owner row owners)) (filter (λ x. not (same_owner row.owner x.owner)) rows) (listed closed)
    (list_all-filter (is_known (put_owner row owners)) (λ x. not (same_owner row.owner x.owner)) rows (noted_known rows known))
    (new_known closed fits)
  where
    noted_known : (xs : List OpenRow) → list_all (is_known owners) xs ≡ true → list_all (is_known (put_owner row owners)) xs ≡ true
    noted_known xs known = all_known (Noted row closed) owners xs tt known

    new_known : (o : Option OpenRow) → ClosedFits (Noted row o) owners → list_all (is_known (put_owner row owners)) (listed o) ≡ true
    new_known None fits = refl
    new_known (Some x) fits = rw fits refl
closed_known (Gone owner) owners rows remains known fits = absurd remains
closed_known (GoneOf party) owners rows remains known fits = absurd remains

-- ---- lock owners that start, or are released

-- a lock owner is no owner of opens
apart_owner : (owner its : Owner) → same_kind owner.kind Opens ≡ false → same_kind its.kind Opens ≡ true → same_owner its owner ≡ false
apart_owner owner its locks opens = by_test (same_owner its owner) refl
  where
    by_test : (b : Bool) → same_owner its owner ≡ b → b ≡ false
    by_test false other = refl
    by_test true same = absurd (both_ways (same_kind owner.kind Opens) locks (subst (λ (o : Owner). same_kind o.kind Opens ≡ true) ((same_owner-Decides its owner).0 same) opens))

-- the word by which one starts or is released
abbrev StartFits : OwnerWord → Type 0
StartFits Stays = Unit {0}
StartFits (Noted row None) = Unit {0}
StartFits (Noted row (Some closed)) = ⊥
StartFits (Gone owner) = same_kind owner.kind Opens ≡ false
StartFits (GoneOf party) = ⊥

without_known : (owner : Owner) (owners : List OwnerRow) (rows : List OpenRow) → same_kind owner.kind Opens ≡ false → list_all is_opener rows ≡ true
    → list_all (is_known owners) rows ≡ true → list_all (is_known (filter (λ o. not (same_owner owner o.owner)) owners)) rows ≡ true
without_known owner owners [] locks kinds known = refl
without_known owner owners (x ∷ xs) locks kinds known =
    let kind = and_parts (is_opener x) (list_all is_opener xs) kinds in
    let parts = and_parts (is_known owners x) (list_all (is_known owners) xs) known in
    let stays : is_known (filter (λ o. not (same_owner owner o.owner)) owners) x ≡ true =
    rw (owner_at-without owner owners x.owner, apart_owner owner x.owner locks kind.0) parts.0 in
    rw (stays, without_known owner owners xs locks kind.1 parts.1) refl

swept_known : (owner : Owner) (owners : List OwnerRow) (rows : List OpenRow) → list_all (is_known owners) rows ≡ true
    → list_all (is_known (filter (λ o. not (same_owner owner o.owner)) owners)) (filter (λ x. not (same_owner owner x.owner)) rows) ≡ true
swept_known owner owners [] known = refl
swept_known owner owners (x ∷ xs) known =
    by_test (same_owner owner x.owner) (same_owner x.owner owner) refl refl (swept_known owner owners xs (and_parts (is_known owners x) (list_all (is_known owners) xs) known).1)
  where
    left : List OwnerRow
    left = filter (λ o. not (same_owner owner o.owner)) owners

    rest : List OpenRow
    rest = filter (λ y. not (same_owner owner y.owner)) xs

    by_test : (b c : Bool) → same_owner owner x.owner ≡ b → same_owner x.owner owner ≡ c → list_all (is_known left) rest ≡ true
        → list_all (is_known left) (cond (not b) (x ∷ rest) rest) ≡ true
    by_test true c its same later = later
    by_test false true other same later =
        absurd (both_ways (same_owner owner x.owner) other ((same_owner-Decides owner x.owner).1 (sym ((same_owner-Decides x.owner owner).0 same))))
    by_test false false other not_same later = rw (stays_known, later) refl
      where
        stays_known : is_known left x ≡ true
        stays_known = rw (owner_at-without owner owners x.owner, not_same) (and_parts (is_known owners x) (list_all (is_known owners) xs) known).0

start_opens : (word : OwnerWord) (owners : List OwnerRow) (rows : List OpenRow) → StartFits word → list_all is_opener rows ≡ true
    → list_all (is_known owners) rows ≡ true → list_all (is_known (owners_after word owners)) rows ≡ true
unfolding owners_after
start_opens Stays owners rows fits kinds known = known
start_opens (Noted row None) owners rows fits kinds known = all_known (Noted row None) owners rows tt known
start_opens (Noted row (Some closed)) owners rows fits kinds known = absurd fits
start_opens (Gone owner) owners rows fits kinds known = without_known owner owners rows fits kinds known
start_opens (GoneOf party) owners rows fits kinds known = absurd fits

start_closed : (word : OwnerWord) (owners : List OwnerRow) (rows : List OpenRow) → StartFits word
    → list_all (is_known owners) rows ≡ true → list_all (is_known (owners_after word owners)) (closed_after word rows) ≡ true
unfolding owners_after closed_after
start_closed Stays owners rows fits known = known
start_closed (Noted row None) owners rows fits known = closed_known (Noted row None) owners rows tt known tt
start_closed (Noted row (Some closed)) owners rows fits known = absurd fits
start_closed (Gone owner) owners rows fits known = swept_known owner owners rows known
start_closed (GoneOf party) owners rows fits known = absurd fits

-- ---- lock stateids

-- an owner as that of an open, whatever open it is
abbrev as_open : Owner → OpenRow
as_open owner = record { counter = 0; seqid = 0; owner = owner; file = 0; access = 0; deny = 0 }

-- what a lock word puts has a known owner, and with an owner that is released its stateids go
abbrev LocksFit : LockWord → OwnerWord → List OwnerRow → Type 0
LocksFit AsIs start owners = Remains start
LocksFit (Claimed row kind from to) start owners = Remains start × (is_locker (owners_after start owners) row ≡ true)
LocksFit (Cleared row from to) start owners = Remains start × (is_locker (owners_after start owners) row ≡ true)
LocksFit (ClosedWith counter) start owners = Remains start
LocksFit (Released owner) start owners = start ≡ Gone owner
LocksFit (EndedOf party) start owners = ⊥

lockers_after : (word : OwnerWord) (owners : List OwnerRow) (rows : List LockRow) → Remains word → list_all (is_locker owners) rows ≡ true
    → list_all (is_locker (owners_after word owners)) rows ≡ true
lockers_after word owners [] remains known = refl
lockers_after word owners (x ∷ xs) remains known =
    let parts = and_parts (is_locker owners x) (list_all (is_locker owners) xs) known in
    rw (known-after word owners (as_open x.owner) remains parts.0, lockers_after word owners xs remains parts.1) refl

lockers_left : (owner : Owner) (owners : List OwnerRow) (rows : List LockRow) → list_all (is_locker owners) rows ≡ true
    → list_all (is_locker (filter (λ o. not (same_owner owner o.owner)) owners)) (filter (λ x. not (same_owner owner x.owner)) rows) ≡ true
lockers_left owner owners [] known = refl
lockers_left owner owners (x ∷ xs) known =
    by_test (same_owner owner x.owner) (same_owner x.owner owner) refl refl (lockers_left owner owners xs (and_parts (is_locker owners x) (list_all (is_locker owners) xs) known).1)
  where
    left : List OwnerRow
    left = filter (λ o. not (same_owner owner o.owner)) owners

    rest : List LockRow
    rest = filter (λ y. not (same_owner owner y.owner)) xs

    by_test : (b c : Bool) → same_owner owner x.owner ≡ b → same_owner x.owner owner ≡ c → list_all (is_locker left) rest ≡ true
        → list_all (is_locker left) (cond (not b) (x ∷ rest) rest) ≡ true
    by_test true c its same later = later
    by_test false true other same later =
        absurd (both_ways (same_owner owner x.owner) other ((same_owner-Decides owner x.owner).1 (sym ((same_owner-Decides x.owner owner).0 same))))
    by_test false false other not_same later = rw (stays_known, later) refl
      where
        stays_known : is_locker left x ≡ true
        stays_known = rw (owner_at-without owner owners x.owner, not_same) (and_parts (is_locker owners x) (list_all (is_locker owners) xs) known).0

lockers_gone : (party : Party) (owners : List OwnerRow) (rows : List LockRow) → list_all (is_locker owners) rows ≡ true
    → list_all (is_locker (filter (λ o. not (same_party party o.owner.instance)) owners)) (filter (λ x. not (same_party party x.owner.instance)) rows) ≡ true
lockers_gone party owners [] known = refl
lockers_gone party owners (x ∷ xs) known =
    by_test (same_party party x.owner.instance) refl (lockers_gone party owners xs (and_parts (is_locker owners x) (list_all (is_locker owners) xs) known).1)
  where
    left : List OwnerRow
    left = filter (λ o. not (same_party party o.owner.instance)) owners

    rest : List LockRow
    rest = filter (λ y. not (same_party party y.owner.instance)) xs

    by_test : (b : Bool) → same_party party x.owner.instance ≡ b → list_all (is_locker left) rest ≡ true
        → list_all (is_locker left) (cond (not b) (x ∷ rest) rest) ≡ true
    by_test true theirs later = later
    by_test false other later = rw (stays_known, later) refl
      where
        stays_known : is_locker left x ≡ true
        stays_known = rw (owner_at-gone party owners x.owner, other) (and_parts (is_locker owners x) (list_all (is_locker owners) xs) known).0

lockers_known : (word : LockWord) (start : OwnerWord) (owners : List OwnerRow) (rows : List LockRow) → LocksFit word start owners
    → list_all (is_locker owners) rows ≡ true → list_all (is_locker (owners_after start owners)) (locks_after word rows) ≡ true
unfolding locks_after owners_after
lockers_known AsIs start owners rows fits known = lockers_after start owners rows fits known
lockers_known (Claimed row kind from to) start owners rows fits known =
    list_all-put (is_locker (owners_after start owners)) row rows (lockers_after start owners rows fits.0 known) fits.1
lockers_known (Cleared row from to) start owners rows fits known =
    list_all-put (is_locker (owners_after start owners)) row rows (lockers_after start owners rows fits.0 known) fits.1
lockers_known (ClosedWith counter) start owners rows fits known =
    list_all-filter (is_locker (owners_after start owners)) (λ x. not (x.opened == counter)) rows (lockers_after start owners rows fits known)
lockers_known (Released owner) start owners rows fits known = rw fits (lockers_left owner owners rows known)
lockers_known (EndedOf party) start owners rows fits known = absurd fits

pub lock_all_at : (p : LockRow → Bool) (k : ℕ) (rows : List LockRow) (x : LockRow) → list_all p rows ≡ true → lock_at k rows ≡ Some x → p x ≡ true
unfolding lock_at
lock_all_at p k [] x all found = cc
lock_all_at p k (y ∷ ys) x all found =
    by_test (y.counter == k) found (and_parts (p y) (list_all p ys) all).0 (λ there. lock_all_at p k ys x (and_parts (p y) (list_all p ys) all).1 there)
  where
    by_test : (b : Bool) → cond b (Some y) (find (λ row. row.counter == k) ys) ≡ Some x → p y ≡ true
        → (find (λ row. row.counter == k) ys ≡ Some x → p x ≡ true) → p x ≡ true
    by_test true here passes later = ap p (sym (some_same here)) ∙ passes
      where
        some_same : {a b : LockRow} → Some a ≡ Some b → a ≡ b
        some_same e = cc
    by_test false there passes later = later there

-- what words leave whose owner moves on, or doesn't, and by which a lock owner starts or is released
known-words : (s : Seen) (w : Words) → OwnersAreKnown s → Remains w.owners → OpenFits w.opens (owners_after w.owners s.owners) → ClosedFits w.owners s.owners
    → StartFits w.starts → list_all is_opener (opens_after w.opens s.opens) ≡ true → LocksFit w.locks w.starts (owners_after w.owners s.owners)
    → OwnersAreKnown (after_words s w)
unfolding after_words
known-words s w known remains fits closed start kinds locks = record {
  kinds = kinds;
  opens = start_opens w.starts (owners_after w.owners s.owners) (opens_after w.opens s.opens) start kinds
      (opens_known w.opens (owners_after w.owners s.owners) s.opens (all_known w.owners s.owners s.opens remains known.opens) fits);
  closed = start_closed w.starts (owners_after w.owners s.owners) (closed_after w.owners s.closed) start
      (closed_known w.owners s.owners s.closed remains known.closed closed);
  locks = lockers_known w.locks w.starts (owners_after w.owners s.owners) s.locks locks (lockers_after w.owners s.owners s.locks remains known.locks);
}

-- ---- an instance's end

gone_known : (party : Party) (owners : List OwnerRow) (rows : List OpenRow) → list_all (is_known owners) rows ≡ true
    → list_all (is_known (filter (λ o. not (same_party party o.owner.instance)) owners)) (filter (λ x. not (same_party party x.owner.instance)) rows) ≡ true
gone_known party owners [] known = refl
gone_known party owners (x ∷ xs) known =
    by_test (same_party party x.owner.instance) refl (gone_known party owners xs (and_parts (is_known owners x) (list_all (is_known owners) xs) known).1)
  where
    left : List OwnerRow
    left = filter (λ o. not (same_party party o.owner.instance)) owners

    rest : List OpenRow
    rest = filter (λ y. not (same_party party y.owner.instance)) xs

    by_test : (b : Bool) → same_party party x.owner.instance ≡ b → list_all (is_known left) rest ≡ true
        → list_all (is_known left) (cond (not b) (x ∷ rest) rest) ≡ true
    by_test true theirs later = later
    by_test false other later =
        rw (stays_known, later) refl
      where
        stays_known : is_known left x ≡ true
        stays_known = rw (owner_at-gone party owners x.owner, other) (and_parts (is_known owners x) (list_all (is_known owners) xs) known).0

-- ---- events

pub noted_remains : (n : Now) (call : Call) (r : Reply) (o : Option Owner) → Remains (noted n call r o)
unfolding noted
noted_remains n call r None = tt
noted_remains n call r (Some owner) = by_test (advances r.status)
  where
    by_test : (b : Bool) → Remains (cond b (Noted (noted_row (n.owner_by owner) owner (seqid_of call.deed) call r) (closed_by n call.deed r.value)) Stays)
    by_test true = tt
    by_test false = tt

word_remains : (n : Now) (call : Call) (r : Reply) → Remains (owner_word n call r)
word_remains n call r = by_test (is_fresh (judgement n call))
  where
    by_test : (b : Bool) → Remains (cond b (noted n call r (seqid_owner n call.caller call.deed)) Stays)
    by_test true = noted_remains n call r (seqid_owner n call.caller call.deed)
    by_test false = tt

-- a call that is refused closes nothing
pub refused_closes : (n : Now) (d : Deed) → closed_by n d (refused_value d) ≡ None
unfolding closed_by
refused_closes n (deed.Access _) = refl
refused_closes n (deed.Close _) = refl
refused_closes n (deed.Commit _) = refl
refused_closes n (deed.Create _) = refl
refused_closes n (deed.GetAttr _) = refl
refused_closes n (deed.Lock _) = refl
refused_closes n (deed.LockTest _) = refl
refused_closes n (deed.Lookup _) = refl
refused_closes n deed.LookupP = refl
refused_closes n (deed.Open _) = refl
refused_closes n (deed.OpenConfirm _) = refl
refused_closes n (deed.OpenDowngrade _) = refl
refused_closes n (deed.Read _) = refl
refused_closes n (deed.ReadDir _) = refl
refused_closes n (deed.ReleaseLockOwner _) = refl
refused_closes n (deed.Remove _) = refl
refused_closes n (deed.SetAttr _) = refl
refused_closes n (deed.Unlock _) = refl
refused_closes n (deed.Write _) = refl

pub refusal_closes : (s : Seen) (caller : Option Party) (file : ℕ) (d : Deed) (status : OpStatus) → closed_by (look s) d (refusal_value s caller file d status) ≡ None
unfolding closed_by
refusal_closes s caller file d status =
    by_refusal (λ its_deed value. closed_by (look s) its_deed value ≡ None) (refused_closes (look s)) (λ args o. refl) (λ args o. refl) s caller file d status

-- what an owner's word closes is known where the open that the call names is
noted_closes : (n : Now) (call : Call) (r : Reply) (owners : List OwnerRow) (o : Option Owner)
    → ((x : OpenRow) → closed_by n call.deed r.value ≡ Some x → is_known owners x ≡ true) → ClosedFits (noted n call r o) owners
unfolding noted
noted_closes n call r owners None each = tt
noted_closes n call r owners (Some owner) each = by_test (advances r.status)
  where
    row : OwnerRow
    row = noted_row (n.owner_by owner) owner (seqid_of call.deed) call r

    by_closed : (c : Option OpenRow) → closed_by n call.deed r.value ≡ c → ClosedFits (Noted row c) owners
    by_closed None none = tt
    by_closed (Some x) found = known_put x (each x found)
      where
        known_put : (x : OpenRow) → is_known owners x ≡ true → is_known (put_owner row owners) x ≡ true
        known_put x known = rw (owner_at-put row owners x.owner) (by_same (same_owner x.owner row.owner))
          where
            by_same : (b : Bool) → not (is_none (cond b (Some row) (owner_at x.owner owners))) ≡ true
            by_same true = refl
            by_same false = known

    by_test : (b : Bool) → ClosedFits (cond b (Noted row (closed_by n call.deed r.value)) Stays) owners
    by_test true = by_closed (closed_by n call.deed r.value) refl
    by_test false = tt

refused_fits : (s : Seen) (call : Call) (status : OpStatus) → ClosedFits (owner_word (look s) call (reply_by s call (Some (Refuse status)))) s.owners
refused_fits s call status = by_test (is_fresh (judgement (look s) call))
  where
    r : Reply
    r = reply_by s call (Some (Refuse status))

    none_closed : (x : OpenRow) → closed_by (look s) call.deed r.value ≡ Some x → is_known s.owners x ≡ true
    none_closed x found = absurd (never (sym (refusal_closes s call.caller call.file call.deed status) ∙ found))
      where
        never : {a : OpenRow} → None ≡ Some a → ⊥
        never e = cc

    by_test : (b : Bool) → ClosedFits (cond b (noted (look s) call r (seqid_owner (look s) call.caller call.deed)) Stays) s.owners
    by_test true = noted_closes (look s) call r s.owners (seqid_owner (look s) call.caller call.deed) none_closed
    by_test false = tt

-- the open that an operation on an open puts or closes is one that is there, with another seqid or share
put_fits_of : (change : OpenRow → OpenRow) → ((x : OpenRow) → (change x).owner ≡ x.owner) → (s : Seen) → OwnersAreKnown s → (word : OwnerWord) → Remains word
    → (k : ℕ) → OpenFits (put_if (option_map change (open_at k s.opens))) (owners_after word s.owners)
put_fits_of change keeps s known word remains k = by_row (open_at k s.opens) refl
  where
    by_row : (o : Option OpenRow) → open_at k s.opens ≡ o → OpenFits (put_if (option_map change o)) (owners_after word s.owners)
    by_row None none = tt
    by_row (Some x) found =
        subst (λ o. not (is_none (owner_at o (owners_after word s.owners))) ≡ true) (sym (keeps x))
        (known-after word s.owners x remains (all_at (is_known s.owners) k s.opens x known.opens found))

confirm_fits : (s : Seen) → OwnersAreKnown s → (word : OwnerWord) → Remains word → (o : Option OpenRow)
    → OpenFits (confirm_words (look s) (told.OpenConfirm (option_map (next_stateid s.fs) o))).opens (owners_after word s.owners)
unfolding look
confirm_fits s known word remains None = tt
confirm_fits s known word remains (Some x) = put_fits_of renewed_row (λ x. refl) s known word remains x.counter

downgrade_fits : (s : Seen) → OwnersAreKnown s → (word : OwnerWord) → Remains word → (args : OpenDowngradeArgs) (o : Option OpenRow)
    → OpenFits (downgrade_words (look s) args (told.OpenDowngrade (option_map (next_stateid s.fs) o))).opens (owners_after word s.owners)
unfolding look
downgrade_fits s known word remains args None = tt
downgrade_fits s known word remains args (Some x) = put_fits_of (narrowed_row args.access args.deny) (λ x. refl) s known word remains x.counter

close_fits : (n : Now) (owners : List OwnerRow) (o : Option StateId) → OpenFits (close_words (told.Close o)).opens owners
close_fits n owners None = tt
close_fits n owners (Some id) = tt

-- an OPEN puts its owner's open, and its owner moves on
opened_fits : (s : Seen) (owner : Owner) (row : OwnerRow) → row.owner ≡ owner → OwnersAreKnown s → (k file access deny : ℕ)
    → is_known (put_owner row s.owners) (opened_row (open_at k s.opens) k file owner access deny) ≡ true
unfolding opened_row owners_after
opened_fits s owner row same known k file access deny = by_row (open_at k s.opens) refl
  where
    by_row : (o : Option OpenRow) → open_at k s.opens ≡ o → is_known (put_owner row s.owners) (opened_row o k file owner access deny) ≡ true
    by_row None none = known-now row s.owners (record { counter = k; seqid = 1; owner = owner; file = file; access = access; deny = deny }) (sym same)
    by_row (Some x) found = known-after (Noted row None) s.owners x tt (all_at (is_known s.owners) k s.opens x known.opens found)

pub noted_done : (n : Now) (call : Call) (r : Reply) (owner : Owner) → r.status ≡ Nfs4Ok
    → noted n call r (Some owner) ≡ Noted (noted_row (n.owner_by owner) owner (seqid_of call.deed) call r) (closed_by n call.deed r.value)
unfolding noted advances
noted_done n call r owner done = by_test (advances r.status) (ap advances done)
  where
    by_test : (b : Bool) → b ≡ true
        → cond b (Noted (noted_row (n.owner_by owner) owner (seqid_of call.deed) call r) (closed_by n call.deed r.value)) Stays
        ≡ Noted (noted_row (n.owner_by owner) owner (seqid_of call.deed) call r) (closed_by n call.deed r.value)
    by_test true on = refl
    by_test false on = absurd (false≢true on)

open_fits : (s : Seen) (party : Party) (file : ℕ) (args : OpenArgs) (call : Call) (r : Reply) → OwnersAreKnown s → r.status ≡ Nfs4Ok
    → OpenFits (open_words (look s) (Some party) file args (told.Open (open_value s (Some party) file args))).opens
    (owners_after (noted (look s) call r (seqid_owner (look s) (Some party) (deed.Open args))) s.owners)
unfolding open_value look seqid_owner owners_after
open_fits s party file args call r known done =
    subst (λ w. OpenFits (open_words (look s) (Some party) file args (told.Open (open_value s (Some party) file args))).opens (owners_after w s.owners))
    (sym (noted_done (look s) call r (opener party args) done))
    (opened_fits s (opener party args) (noted_row ((look s).owner_by (opener party args)) (opener party args) (seqid_of call.deed) call r) refl known _ _ args.access args.deny)

open_as : (word its : OpenWord) (owners : List OwnerRow) → word ≡ its → OpenFits its owners → OpenFits word owners
open_as word its owners same fits = subst (λ (w : OpenWord). OpenFits w owners) (sym same) fits

-- The words of a call that nothing stops.
goes_fits : (s : Seen) (caller : Option Party) (file : ℕ) (d : Deed) (call : Call) (r : Reply) → OwnersAreKnown s → r.status ≡ Nfs4Ok
    → OpenFits (deed_words (look s) caller file d (ok_value s caller file d)).opens (owners_after (noted (look s) call r (seqid_owner (look s) caller d)) s.owners)
unfolding create_value write_value changed_stateid
goes_fits s caller file (deed.Access _) call r known done = tt
goes_fits s caller file (deed.Close args) call r known done = close_fits (look s) _ (option_map (next_stateid s.fs) (open_named s args.stateid))
goes_fits s caller file (deed.Commit _) call r known done = tt
goes_fits s caller file (deed.Create args) call r known done = tt
goes_fits s caller file (deed.GetAttr _) call r known done = tt
goes_fits s caller file (deed.Lock args) call r known done =
    open_as _ Keep (owners_after (noted (look s) call r (seqid_owner (look s) caller (deed.Lock args))) s.owners) (lock_keeps (look s) caller file args (lock_value s args)).opens tt
goes_fits s caller file (deed.LockTest _) call r known done = tt
goes_fits s caller file (deed.Lookup _) call r known done = tt
goes_fits s caller file deed.LookupP call r known done = tt
goes_fits s None file (deed.Open args) call r known done = tt
goes_fits s (Some party) file (deed.Open args) call r known done = open_fits s party file args call r known done
goes_fits s caller file (deed.OpenConfirm args) call r known done =
    confirm_fits s known (noted (look s) call r (seqid_owner (look s) caller (deed.OpenConfirm args))) (noted_remains (look s) call r _) (open_named s args.stateid)
goes_fits s caller file (deed.OpenDowngrade args) call r known done =
    downgrade_fits s known (noted (look s) call r (seqid_owner (look s) caller (deed.OpenDowngrade args))) (noted_remains (look s) call r _) args (open_named s args.stateid)
goes_fits s caller file (deed.Read _) call r known done = tt
goes_fits s caller file (deed.ReadDir _) call r known done = tt
goes_fits s caller file (deed.ReleaseLockOwner args) call r known done =
    open_as _ Keep (owners_after (noted (look s) call r (seqid_owner (look s) caller (deed.ReleaseLockOwner args))) s.owners) (release_keeps caller args.owner true).opens tt
goes_fits s caller file (deed.Remove args) call r known done = tt
goes_fits s caller file (deed.SetAttr args) call r known done = tt
goes_fits s caller file (deed.Unlock args) call r known done =
    open_as _ Keep (owners_after (noted (look s) call r (seqid_owner (look s) caller (deed.Unlock args))) s.owners) (unlock_keeps (look s) args (changed_lock s args.stateid)).opens tt
goes_fits s caller file (deed.Write args) call r known done = tt

-- an open that is put has an owner of opens
abbrev KindFits : OpenWord → Type 0
KindFits Keep = Unit {0}
KindFits (Put row) = is_opener row ≡ true
KindFits (Drop counter) = Unit {0}
KindFits (DropOf party) = Unit {0}

kinds_known : (word : OpenWord) (rows : List OpenRow) → list_all is_opener rows ≡ true → KindFits word → list_all is_opener (opens_after word rows) ≡ true
unfolding opens_after
kinds_known Keep rows kinds fits = kinds
kinds_known (Put row) rows kinds fits = all_put is_opener row rows kinds fits
kinds_known (Drop counter) rows kinds fits = list_all-filter is_opener (λ x. not (x.counter == counter)) rows kinds
kinds_known (DropOf party) rows kinds fits = list_all-filter is_opener (λ x. not (same_party party x.owner.instance)) rows kinds

put_kind : (change : OpenRow → OpenRow) → ((x : OpenRow) → (change x).owner ≡ x.owner) → (rows : List OpenRow) → list_all is_opener rows ≡ true
    → (k : ℕ) → KindFits (put_if (option_map change (open_at k rows)))
put_kind change keeps rows kinds k = by_row (open_at k rows) refl
  where
    by_row : (o : Option OpenRow) → open_at k rows ≡ o → KindFits (put_if (option_map change o))
    by_row None none = tt
    by_row (Some x) found = subst (λ (o : Owner). same_kind o.kind Opens ≡ true) (sym (keeps x)) (all_at is_opener k rows x kinds found)

opened_kind : (rows : List OpenRow) (owner : Owner) → same_kind owner.kind Opens ≡ true → list_all is_opener rows ≡ true → (k file access deny : ℕ)
    → is_opener (opened_row (open_at k rows) k file owner access deny) ≡ true
unfolding opened_row
opened_kind rows owner its kinds k file access deny = by_row (open_at k rows) refl
  where
    by_row : (o : Option OpenRow) → open_at k rows ≡ o → is_opener (opened_row o k file owner access deny) ≡ true
    by_row None none = its
    by_row (Some x) found = all_at is_opener k rows x kinds found

goes_kind : (s : Seen) (caller : Option Party) (file : ℕ) (d : Deed) → list_all is_opener s.opens ≡ true → KindFits (deed_words (look s) caller file d (ok_value s caller file d)).opens
unfolding create_value write_value changed_stateid open_value look
goes_kind s caller file (deed.Access _) kinds = tt
goes_kind s caller file (deed.Close args) kinds = by_told (option_map (next_stateid s.fs) (open_named s args.stateid))
  where
    by_told : (o : Option StateId) → KindFits (close_words (told.Close o)).opens
    by_told None = tt
    by_told (Some id) = tt
goes_kind s caller file (deed.Commit _) kinds = tt
goes_kind s caller file (deed.Create args) kinds = tt
goes_kind s caller file (deed.GetAttr _) kinds = tt
goes_kind s caller file (deed.Lock args) kinds = subst KindFits (sym (lock_keeps (look s) caller file args (lock_value s args)).opens) tt
goes_kind s caller file (deed.LockTest _) kinds = tt
goes_kind s caller file (deed.Lookup _) kinds = tt
goes_kind s caller file deed.LookupP kinds = tt
goes_kind s None file (deed.Open args) kinds = tt
goes_kind s (Some party) file (deed.Open args) kinds = opened_kind s.opens (opener party args) refl kinds _ _ args.access args.deny
goes_kind s caller file (deed.OpenConfirm args) kinds = by_row (open_named s args.stateid)
  where
    by_row : (o : Option OpenRow) → KindFits (confirm_words (look s) (told.OpenConfirm (option_map (next_stateid s.fs) o))).opens
    by_row None = tt
    by_row (Some x) = put_kind renewed_row (λ y. refl) s.opens kinds x.counter
goes_kind s caller file (deed.OpenDowngrade args) kinds = by_row (open_named s args.stateid)
  where
    by_row : (o : Option OpenRow) → KindFits (downgrade_words (look s) args (told.OpenDowngrade (option_map (next_stateid s.fs) o))).opens
    by_row None = tt
    by_row (Some x) = put_kind (narrowed_row args.access args.deny) (λ y. refl) s.opens kinds x.counter
goes_kind s caller file (deed.Read _) kinds = tt
goes_kind s caller file (deed.ReadDir _) kinds = tt
goes_kind s caller file (deed.ReleaseLockOwner args) kinds = subst KindFits (sym (release_keeps caller args.owner true).opens) tt
goes_kind s caller file (deed.Remove args) kinds = tt
goes_kind s caller file (deed.SetAttr args) kinds = tt
goes_kind s caller file (deed.Unlock args) kinds = subst KindFits (sym (unlock_keeps (look s) args (changed_lock s args.stateid)).opens) tt
goes_kind s caller file (deed.Write args) kinds = tt

-- what it closes was there
goes_closes : (s : Seen) (caller : Option Party) (file : ℕ) (d : Deed) → OwnersAreKnown s → (x : OpenRow)
    → closed_by (look s) d (ok_value s caller file d) ≡ Some x → is_known s.owners x ≡ true
unfolding closed_by changed_stateid look
goes_closes s caller file (deed.Access _) known x found = cc
goes_closes s caller file (deed.Close args) known x found = by_row (open_named s args.stateid) found
  where
    by_live : (k : ℕ) (o : Option OpenRow) → open_at k s.opens ≡ o → option_map renewed_row o ≡ Some x → is_known s.owners x ≡ true
    by_live k None none found = cc
    by_live k (Some old) at found =
        subst (λ y. is_known s.owners y ≡ true) (some_same found) (all_at (is_known s.owners) k s.opens old known.opens at)
      where
        some_same : {a b : OpenRow} → Some a ≡ Some b → a ≡ b
        some_same e = cc

    by_row : (o : Option OpenRow) → closed_by (look s) (deed.Close args) (told.Close (option_map (next_stateid s.fs) o)) ≡ Some x → is_known s.owners x ≡ true
    by_row None found = cc
    by_row (Some row) found = by_live row.counter (open_at row.counter s.opens) refl found
goes_closes s caller file (deed.Commit _) known x found = cc
goes_closes s caller file (deed.Create args) known x found = cc
goes_closes s caller file (deed.GetAttr _) known x found = cc
goes_closes s caller file (deed.Lock _) known x found = cc
goes_closes s caller file (deed.LockTest _) known x found = cc
goes_closes s caller file (deed.Lookup _) known x found = cc
goes_closes s caller file deed.LookupP known x found = cc
goes_closes s caller file (deed.Open args) known x found = cc
goes_closes s caller file (deed.OpenConfirm args) known x found = cc
goes_closes s caller file (deed.OpenDowngrade args) known x found = cc
goes_closes s caller file (deed.Read _) known x found = cc
goes_closes s caller file (deed.ReadDir _) known x found = cc
goes_closes s caller file (deed.ReleaseLockOwner args) known x found = cc
goes_closes s caller file (deed.Remove args) known x found = cc
goes_closes s caller file (deed.SetAttr args) known x found = cc
goes_closes s caller file (deed.Unlock args) known x found = cc
goes_closes s caller file (deed.Write args) known x found = cc

-- the words of a call that nothing stops put lock stateids of known owners
renewed_locker : (s : Seen) → OwnersAreKnown s → (owners : List OwnerRow) → ((x : LockRow) → is_locker s.owners x ≡ true → is_locker owners x ≡ true) → (k : ℕ) (x : LockRow)
    → lock_at k s.locks ≡ Some x → is_locker owners (renewed_lock x) ≡ true
renewed_locker s known owners stays k x found = stays (renewed_lock x) (lock_all_at (is_locker s.owners) k s.locks x known.locks found)

claimed_fits : (s : Seen) → OwnersAreKnown s → (owners : List OwnerRow) → ((x : LockRow) → is_locker s.owners x ≡ true → is_locker owners x ≡ true) → (k : ℕ) (kind : LockKind) (from to : ℕ)
    → LocksFit (claim_if (option_map renewed_lock (lock_at k s.locks)) kind from to) Stays owners
unfolding owners_after
claimed_fits s known owners stays k kind from to = by_row (lock_at k s.locks) refl
  where
    by_row : (o : Option LockRow) → lock_at k s.locks ≡ o → LocksFit (claim_if (option_map renewed_lock o) kind from to) Stays owners
    by_row None none = tt
    by_row (Some x) found = (tt, renewed_locker s known owners stays k x found)

cleared_fits : (s : Seen) → OwnersAreKnown s → (owners : List OwnerRow) → ((x : LockRow) → is_locker s.owners x ≡ true → is_locker owners x ≡ true) → (k from to : ℕ)
    → LocksFit (clear_if (option_map renewed_lock (lock_at k s.locks)) from to) Stays owners
unfolding owners_after
cleared_fits s known owners stays k from to = by_row (lock_at k s.locks) refl
  where
    by_row : (o : Option LockRow) → lock_at k s.locks ≡ o → LocksFit (clear_if (option_map renewed_lock o) from to) Stays owners
    by_row None none = tt
    by_row (Some x) found = (tt, renewed_locker s known owners stays k x found)

goes_locks : (s : Seen) (call : Call) (r : Reply) (file : ℕ) (d : Deed) → OwnersAreKnown s → (owners : List OwnerRow)
    → ((x : LockRow) → is_locker s.owners x ≡ true → is_locker owners x ≡ true)
    → LocksFit (deed_words (look s) call.caller file d (ok_value s call.caller file d)).locks (started_by (look s) call r d (ok_value s call.caller file d)) owners
unfolding started_by create_value write_value changed_stateid changed_lock locked_stateid owners_after open_value look
goes_locks s call r file (deed.Access _) known owners stays = tt
goes_locks s call r file (deed.Close args) known owners stays = by_told (option_map (next_stateid s.fs) (open_named s args.stateid))
  where
    by_told : (o : Option StateId) → LocksFit (close_words (told.Close o)).locks Stays owners
    by_told None = tt
    by_told (Some id) = tt
goes_locks s call r file (deed.Commit _) known owners stays = tt
goes_locks s call r file (deed.Create args) known owners stays = tt
goes_locks s call r file (deed.GetAttr _) known owners stays = tt
goes_locks s call r file (deed.Lock args) known owners stays = by_locker call.caller args.locker
  where
    by_row : (caller : Option Party) (stateid : StateRef) (lock_seqid : ℕ) (o : Option LockRow)
        → LocksFit (lock_words (look s) caller file (record args { locker = locker.Known stateid lock_seqid }) (told.Lock (option_map Locked (option_map (next_lock_stateid s.fs) o)))).locks
        (lock_starts (look s) (record call { caller = caller }) r (locker.Known stateid lock_seqid) (told.Lock (option_map Locked (option_map (next_lock_stateid s.fs) o)))) owners
    by_row None stateid lock_seqid None = tt
    by_row (Some party) stateid lock_seqid None = tt
    by_row None stateid lock_seqid (Some row) = claimed_fits s known owners stays row.counter _ args.offset _
    by_row (Some party) stateid lock_seqid (Some row) = claimed_fits s known owners stays row.counter _ args.offset _

    by_locker : (caller : Option Party) (locker : Locker)
        → LocksFit (lock_words (look s) caller file (record args { locker = locker }) (told.Lock (lock_value s (record args { locker = locker })))).locks
        (lock_starts (look s) (record call { caller = caller }) r locker (told.Lock (lock_value s (record args { locker = locker })))) owners
    by_locker None (locker.New open_seqid stateid lock_seqid text) = tt
    by_locker (Some party) (locker.New open_seqid stateid lock_seqid text) = (tt, known-now _ owners (as_open (lock_owner party text)) refl)
    by_locker caller (locker.Known stateid lock_seqid) = by_row caller stateid lock_seqid (lock_named s stateid)
goes_locks s call r file (deed.LockTest _) known owners stays = tt
goes_locks s call r file (deed.Lookup _) known owners stays = tt
goes_locks s call r file deed.LookupP known owners stays = tt
goes_locks s call r file (deed.Open args) known owners stays = by_caller call.caller
  where
    by_caller : (caller : Option Party) → LocksFit (open_words (look s) caller file args (told.Open (open_value s caller file args))).locks Stays owners
    by_caller None = tt
    by_caller (Some party) = tt
goes_locks s call r file (deed.OpenConfirm args) known owners stays = by_told (option_map (next_stateid s.fs) (open_named s args.stateid))
  where
    by_told : (o : Option StateId) → LocksFit (confirm_words (look s) (told.OpenConfirm o)).locks Stays owners
    by_told None = tt
    by_told (Some id) = tt
goes_locks s call r file (deed.OpenDowngrade args) known owners stays = by_told (option_map (next_stateid s.fs) (open_named s args.stateid))
  where
    by_told : (o : Option StateId) → LocksFit (downgrade_words (look s) args (told.OpenDowngrade o)).locks Stays owners
    by_told None = tt
    by_told (Some id) = tt
goes_locks s call r file (deed.Read _) known owners stays = tt
goes_locks s call r file (deed.ReadDir _) known owners stays = tt
goes_locks s call r file (deed.ReleaseLockOwner args) known owners stays = by_caller call.caller
  where
    by_caller : (caller : Option Party) → LocksFit (released_words caller args.owner).locks (ended caller args.owner) owners
    by_caller None = tt
    by_caller (Some party) = refl
goes_locks s call r file (deed.Remove args) known owners stays = tt
goes_locks s call r file (deed.SetAttr args) known owners stays = tt
goes_locks s call r file (deed.Unlock args) known owners stays = by_row (lock_named s args.stateid)
  where
    by_row : (o : Option LockRow) → LocksFit (unlock_words (look s) args (told.Unlock (option_map (next_lock_stateid s.fs) o))).locks Stays owners
    by_row None = tt
    by_row (Some row) = cleared_fits s known owners stays row.counter args.offset _
goes_locks s call r file (deed.Write args) known owners stays = tt

known-event : (s : Seen) (event : Event) → OwnersAreKnown s → OwnersAreKnown (after s event (answer_to s event))
unfolding answer_to words after_words opens_after owners_after closed_after locks_after
known-event s (Ended party) known = record {
  kinds = list_all-filter is_opener (λ x. not (same_party party x.owner.instance)) s.opens known.kinds;
  opens = gone_known party s.owners s.opens known.opens;
  closed = gone_known party s.owners s.closed known.closed;
  locks = lockers_gone party s.owners s.locks known.locks;
}
known-event s (Asked call verdict) known = by_stop (first (checks s call.caller call.file verdict call.deed)) refl
  where
    by_stop : (x : Option Stop) → first (checks s call.caller call.file verdict call.deed) ≡ x → OwnersAreKnown (after s (Asked call verdict) (reply_by s call x))
    by_stop (Some (Refuse status)) refused = subst (λ w. OwnersAreKnown (after_words s w)) (sym (words-refused s call verdict status))
        (known-words s (with_owners no_words (owner_word (look s) call (reply_by s call (Some (Refuse status)))) Stays) known
        (word_remains (look s) call (reply_by s call (Some (Refuse status)))) tt (refused_fits s call status) tt known.kinds tt)
    by_stop (Some (Repeat kept)) repeats = subst (λ w. OwnersAreKnown (after_words s w)) (sym (words-old (look s) call verdict kept (repeat_is_old s call verdict kept repeats)))
        (known-words s no_words known tt tt tt tt known.kinds tt)
    by_stop None goes = subst (λ w. OwnersAreKnown (after_words s w)) (sym (words-free s call verdict goes))
        (known-words s (with_owners (deed_words (look s) call.caller call.file call.deed (ok_value s call.caller call.file call.deed))
        (noted (look s) call (reply_by s call None) (seqid_owner (look s) call.caller call.deed))
        (started_by (look s) call (reply_by s call None) call.deed (ok_value s call.caller call.file call.deed))) known
        (noted_remains (look s) call (reply_by s call None) (seqid_owner (look s) call.caller call.deed))
        (goes_fits s call.caller call.file call.deed call (reply_by s call None) known refl)
        (noted_closes (look s) call (reply_by s call None) s.owners (seqid_owner (look s) call.caller call.deed) (goes_closes s call.caller call.file call.deed known))
        (by_start StartFits s call (reply_by s call None) tt (λ party text seqid args it. tt) (λ party text. refl) call.caller call.file call.deed refl)
        (kinds_known (deed_words (look s) call.caller call.file call.deed (ok_value s call.caller call.file call.deed)).opens s.opens known.kinds
        (goes_kind s call.caller call.file call.deed known.kinds))
        (goes_locks s call (reply_by s call None) call.file call.deed known _
        (λ x its. known-after (noted (look s) call (reply_by s call None) (seqid_owner (look s) call.caller call.deed)) s.owners (as_open x.owner)
        (noted_remains (look s) call (reply_by s call None) (seqid_owner (look s) call.caller call.deed)) its)))

pub known-seen : (fs : ℕ) (grants : Bool) (es : Past) → IsLegal fs grants es → OwnersAreKnown (seen fs grants es)
unfolding seen
known-seen fs grants [] legal = record { kinds = refl; opens = refl; closed = refl; locks = refl }
known-seen fs grants (x ∷ earlier) legal =
    rw legal.0 (known-event (seen fs grants earlier) x.event (known-seen fs grants earlier legal.1))
