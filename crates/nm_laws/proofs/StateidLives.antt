-- How long stateids live: a closed one while its CLOSE is kept, and a lock owner's no longer than its open.
use Rattle.std.proofs.Common.{◌≡◌, ℕ, ◌+◌, Bool, true, false, cond, List, [], ◌∷◌, Option, Some, None, refl, ap, sym, ◌∙◌, eqb-true}
use Rattle.std.proofs.lemmas.Bool.{false≢true, and_parts}
use Rattle.std.proofs.Math.Bool.{or-false}
use Rattle.std.specs.Prelude.{not, ◌==◌, ◌&&◌, ◌||◌, filter, find, map}
use Rattle.std.specs.List.{list_all, list_any}
use Rattle.nm_types.specs.Owners.{same_owner}
use Rattle.nm_types.specs.Parties.{Party, same_party}
use Rattle.nm_rules.specs.Answer.{answer_to, IsLegal}
use Rattle.nm_rules.specs.LockRows.{lock_at, locks_after, new_lock, renewed_lock}
use Rattle.nm_rules.specs.OwnerReadings.{closed_of, counter_list, kept_close, owner_now}
use Rattle.nm_rules.specs.Past.{Past, Words, now, words}
use Rattle.nm_rules.specs.Seen.{Seen, seen, look, after, after_words}
use Rattle.nm_rules.specs.Shares.{open_at, open_of, put_open, opens_after, open_left}
use Rattle.nm_rules.specs.Shares.{OpenWord}
use Rattle.nm_rules.specs.Shares.OpenWord.{DropOf}
use Rattle.nm_rules.specs.Sound.{IsSound, rises}
use Rattle.nm_types.specs.declared.calls.Owner.{Owner}
use Rattle.nm_types.specs.declared.rows.LockRow.{LockRow}
use Rattle.nm_types.specs.declared.rows.OpenRow.{OpenRow}
use Rattle.nm_rules.proofs.Apart.{same_test}
use Rattle.nm_rules.proofs.ClosedLaws.{closed-seen}
use Rattle.nm_rules.proofs.Legal.{sound-seen}
use Rattle.nm_rules.proofs.LockRowLaws.{same_number, list_all-put, list_all-filter, some_is}
use Rattle.nm_rules.proofs.OpenRows.{open_at-put, open_at-drop, open_at-drop_of}
use Rattle.nm_rules.proofs.OwnerLaws.{owner-seen}
use Rattle.nm_rules.proofs.OwnerLemmas.{same_party-Decides}
use Rattle.nm_laws.specs.StateidNow.{StateidWord, event_word, is_counter, is_kept_close}
use Rattle.nm_laws.specs.StateidNow.StateidWord.{Nothing, OpenedFor, RenewedAt, ClosedAt, LockedFor, RelockedAt, ReleasedFor, EndedFor}
use Rattle.nm_laws.specs.StateidRows.{is_closed_of, is_opened_by, all_are_opened}
use Rattle.nm_laws.proofs.OpenStateids.{leaves_of, opened_at, renewed_at}
use Rattle.nm_laws.proofs.StateidTurns.{Leaves}

-- ---- closed opens

-- a closed open of the owner has the counter where the owner's counters have it
among_closed : (owner : Owner) (k : ℕ) (rows : List OpenRow) → is_closed_of owner k rows ≡ list_any (λ c. c == k) (closed_of owner rows)
unfolding is_closed_of closed_of
among_closed owner k [] = refl
among_closed owner k (x ∷ xs) = by_test (same_owner owner x.owner) (among_closed owner k xs)
  where
    by_test : (b : Bool) → list_any (λ (row : OpenRow). same_owner owner row.owner && (row.counter == k)) xs
        ≡ list_any (λ c. c == k) (map (λ (row : OpenRow). row.counter) (filter (λ (row : OpenRow). same_owner owner row.owner) xs))
        → ((b && (x.counter == k)) || list_any (λ (row : OpenRow). same_owner owner row.owner && (row.counter == k)) xs)
        ≡ list_any (λ c. c == k) (map (λ (row : OpenRow). row.counter) (cond b (x ∷ filter (λ (row : OpenRow). same_owner owner row.owner) xs) (filter (λ (row : OpenRow). same_owner owner row.owner) xs)))
    by_test true later = ap (λ b. (x.counter == k) || b) later
    by_test false later = later

one_counter : (k : ℕ) (o : Option ℕ) → list_any (λ c. c == k) (counter_list o) ≡ is_counter k o
one_counter k None = refl
one_counter k (Some counter) = or-false (counter == k)

pub closed_kept : (fs : ℕ) (grants : Bool) (es : Past) (owner : Owner) (k : ℕ) → IsLegal fs grants es
    → is_closed_of owner k (seen fs grants es).closed ≡ is_kept_close k (owner_now es owner)
unfolding is_kept_close
closed_kept fs grants es owner k legal =
    among_closed owner k (seen fs grants es).closed
    ∙ ap (list_any (λ c. c == k)) (closed-seen fs grants es legal owner)
    ∙ one_counter k _
    ∙ ap (λ row. is_counter k (kept_close row)) (owner-seen fs grants es owner legal)

-- ---- the open of a lock owner's stateid

-- each that stays keeps its open
all_opened-kept : (p : LockRow → Bool) (opens later : List OpenRow) (locks : List LockRow)
    → ((row : LockRow) → p row ≡ true → is_opened_by row (open_at row.opened opens) ≡ true → is_opened_by row (open_at row.opened later) ≡ true)
    → all_are_opened opens locks ≡ true → all_are_opened later (filter p locks) ≡ true
unfolding all_are_opened
all_opened-kept p opens later [] keeps all = refl
all_opened-kept p opens later (x ∷ xs) keeps all = by_test (p x) refl (all_opened-kept p opens later xs keeps parts.1)
  where
    parts : (is_opened_by x (open_at x.opened opens) ≡ true) × (list_all (λ (row : LockRow). is_opened_by row (open_at row.opened opens)) xs ≡ true)
    parts = and_parts _ _ all

    by_test : (b : Bool) → p x ≡ b → list_all (λ (row : LockRow). is_opened_by row (open_at row.opened later)) (filter p xs) ≡ true
        → list_all (λ (row : LockRow). is_opened_by row (open_at row.opened later)) (cond b (x ∷ filter p xs) (filter p xs)) ≡ true
    by_test true stays rest = rw (keeps x stays parts.0, rest) refl
    by_test false goes rest = rest

all_opened-put : (opens : List OpenRow) (new : OpenRow) (locks : List LockRow)
    → ((old : OpenRow) → open_at new.counter opens ≡ Some old → (old.owner ≡ new.owner) × (old.file ≡ new.file))
    → all_are_opened opens locks ≡ true → all_are_opened (put_open new opens) locks ≡ true
unfolding all_are_opened
all_opened-put opens new [] replaces all = refl
all_opened-put opens new (x ∷ xs) replaces all =
    rw (
      open_at-put new opens x.opened,
      by_test (new.counter == x.opened) refl (open_at x.opened opens) refl parts.0,
      all_opened-put opens new xs replaces parts.1,
    ) refl
  where
    parts : (is_opened_by x (open_at x.opened opens) ≡ true) × (list_all (λ (row : LockRow). is_opened_by row (open_at row.opened opens)) xs ≡ true)
    parts = and_parts _ _ all

    by_test : (b : Bool) → (new.counter == x.opened) ≡ b → (o : Option OpenRow) → open_at x.opened opens ≡ o → is_opened_by x o ≡ true
        → is_opened_by x (cond b (Some new) o) ≡ true
    by_test true same None at its = absurd (false≢true its)
    by_test true same (Some old) at its =
        let one = replaces old (ap (λ k. open_at k opens) (eqb-true new.counter x.opened same) ∙ at) in
        ap (λ f. (f == x.file) && same_party new.owner.instance x.owner.instance) (sym one.1)
        ∙ ap (λ (o : Owner). (old.file == x.file) && same_party o.instance x.owner.instance) (sym one.0)
        ∙ its
    by_test false other o at its = its

all_at : (q : LockRow → Bool) (k : ℕ) (rows : List LockRow) (x : LockRow) → list_all q rows ≡ true → lock_at k rows ≡ Some x → q x ≡ true
unfolding lock_at
all_at q k [] x all at = cc
all_at q k (y ∷ ys) x all at = by_test (y.counter == k) at (all_at q k ys x parts.1)
  where
    parts : (q y ≡ true) × (list_all q ys ≡ true)
    parts = and_parts _ _ all

    by_test : (b : Bool) → cond b (Some y) (find (λ (row : LockRow). row.counter == k) ys) ≡ Some x
        → (find (λ (row : LockRow). row.counter == k) ys ≡ Some x → q x ≡ true) → q x ≡ true
    by_test true here later = ap q (sym (some_is here)) ∙ parts.0
    by_test false there later = later there

all_opened-closed : (k : ℕ) (opens : List OpenRow) (locks : List LockRow) → all_are_opened opens locks ≡ true
    → all_are_opened (filter (λ x. not (x.counter == k)) opens) (filter (λ x. not (x.opened == k)) locks) ≡ true
all_opened-closed k opens locks all = all_opened-kept (λ x. not (x.opened == k)) opens (filter (λ x. not (x.counter == k)) opens) locks keeps all
  where
    by_test : (row : LockRow) (b : Bool) → (row.opened == k) ≡ b → not b ≡ true → (o : Option OpenRow) → is_opened_by row o ≡ true
        → is_opened_by row (cond b None o) ≡ true
    by_test row true same stays o its = absurd (false≢true stays)
    by_test row false other stays o its = its

    keeps : (row : LockRow) → not (row.opened == k) ≡ true → is_opened_by row (open_at row.opened opens) ≡ true
        → is_opened_by row (open_at row.opened (filter (λ x. not (x.counter == k)) opens)) ≡ true
    keeps row stays its =
        ap (is_opened_by row) (open_at-drop k opens row.opened ∙ ap (λ b. cond b None (open_at row.opened opens)) (same_test k row.opened))
        ∙ by_test row (row.opened == k) refl stays (open_at row.opened opens) its

all_opened-ended : (party : Party) (last : ℕ) (opens : List OpenRow) (locks : List LockRow) → rises 0 last opens ≡ true → all_are_opened opens locks ≡ true
    → all_are_opened (filter (λ x. not (same_party party x.owner.instance)) opens) (filter (λ x. not (same_party party x.owner.instance)) locks) ≡ true
unfolding open_left
all_opened-ended party last opens locks rising all =
    all_opened-kept (λ x. not (same_party party x.owner.instance)) opens (filter (λ x. not (same_party party x.owner.instance)) opens) locks keeps all
  where
    left : (row : LockRow) (o : Option OpenRow) → not (same_party party row.owner.instance) ≡ true → is_opened_by row o ≡ true
        → is_opened_by row (open_left (DropOf party) row.opened o) ≡ true
    left row None stays its = absurd (false≢true its)
    left row (Some x) stays its =
        let same : x.owner.instance ≡ row.owner.instance = (same_party-Decides x.owner.instance row.owner.instance).0 (and_parts (x.file == row.file) _ its).1 in
        by_test (same_party party x.owner.instance) (ap (λ p. not (same_party party p)) same ∙ stays)
      where
        by_test : (b : Bool) → not b ≡ true → is_opened_by row (cond b None (Some x)) ≡ true
        by_test true kept = absurd (false≢true kept)
        by_test false kept = its

    keeps : (row : LockRow) → not (same_party party row.owner.instance) ≡ true → is_opened_by row (open_at row.opened opens) ≡ true
        → is_opened_by row (open_at row.opened (filter (λ x. not (same_party party x.owner.instance)) opens)) ≡ true
    keeps row stays its =
        ap (is_opened_by row) (open_at-drop_of party 0 last opens row.opened rising) ∙ left row (open_at row.opened opens) stays its

-- what words leave, where they are known
as_left : (s : Seen) (w : Words) (opens : OpenWord) (locks : List LockRow) → w.opens ≡ opens → locks_after w.locks s.locks ≡ locks
    → all_are_opened (opens_after opens s.opens) locks ≡ true → all_are_opened (opens_after w.opens s.opens) (locks_after w.locks s.locks) ≡ true
as_left s w opens locks e f all = ap (λ x. all_are_opened (opens_after x s.opens) (locks_after w.locks s.locks)) e ∙ ap (all_are_opened (opens_after opens s.opens)) f ∙ all

new_is_opened : (opens : List OpenRow) (counter : ℕ) (its : Owner) (k file : ℕ) (row : OpenRow) → open_at k opens ≡ Some row → row.file ≡ file
    → row.owner.instance ≡ its.instance → is_opened_by (new_lock counter its k file) (open_at k opens) ≡ true
new_is_opened opens counter its k file row at files parties =
    ap (is_opened_by (new_lock counter its k file)) at
    ∙ rw (same_number row.file file files, (same_party-Decides row.owner.instance its.instance).1 parties) refl

opened_after : (s : Seen) (word : StateidWord) (w : Words) → Leaves s word w → rises 0 s.last s.opens ≡ true → all_are_opened s.opens s.locks ≡ true
    → all_are_opened (opens_after w.opens s.opens) (locks_after w.locks s.locks) ≡ true
unfolding opens_after locks_after all_are_opened
opened_after s Nothing w leaves rising all = as_left s w _ _ leaves.0 (ap (λ x. locks_after x s.locks) leaves.1) all
opened_after s (OpenedFor its its_file) w leaves rising all =
    as_left s w _ _ leaves.puts (ap (λ x. locks_after x s.locks) leaves.rest)
    (all_opened-put s.opens _ s.locks (opened_at s.last s.opens its_file leaves.access leaves.deny its rising (open_of its its_file s.opens) refl) all)
opened_after s (RenewedAt k) w leaves rising all =
    as_left s w _ _ leaves.puts (ap (λ x. locks_after x s.locks) leaves.rest)
    (all_opened-put s.opens leaves.new s.locks (renewed_at s.opens k leaves.old leaves.new leaves.live leaves.counter leaves.owner leaves.file) all)
opened_after s (ClosedAt k) w leaves rising all =
    as_left s w _ _ leaves.0 (ap (λ x. locks_after x s.locks) leaves.1) (all_opened-closed k s.opens s.locks all)
opened_after s (LockedFor its its_file counter) w leaves rising all =
    as_left s w _ _ leaves.rest leaves.puts
    (list_all-put (λ row. is_opened_by row (open_at row.opened s.opens)) (new_lock (s.last + 1) its counter its_file) s.locks all
    (new_is_opened s.opens (s.last + 1) its counter its_file leaves.opened leaves.live leaves.file leaves.party))
opened_after s (RelockedAt k) w leaves rising all =
    as_left s w _ _ leaves.rest leaves.puts
    (list_all-put (λ row. is_opened_by row (open_at row.opened s.opens)) (renewed_lock leaves.old) s.locks all
    (all_at (λ row. is_opened_by row (open_at row.opened s.opens)) k s.locks leaves.old all leaves.live))
opened_after s (ReleasedFor its) w leaves rising all =
    as_left s w _ _ leaves.1 (ap (λ x. locks_after x s.locks) leaves.2)
    (list_all-filter (λ row. is_opened_by row (open_at row.opened s.opens)) (λ x. not (same_owner its x.owner)) s.locks all)
opened_after s (EndedFor party) w leaves rising all =
    as_left s w _ _ leaves.0 (ap (λ x. locks_after x s.locks) leaves.1) (all_opened-ended party s.last s.opens s.locks rising all)

-- A lock owner's stateid lives no longer than its open.
pub locks_are_opened : (fs : ℕ) (grants : Bool) (es : Past) → IsLegal fs grants es → all_are_opened (seen fs grants es).opens (seen fs grants es).locks ≡ true
unfolding seen after_words all_are_opened
locks_are_opened fs grants [] legal = refl
locks_are_opened fs grants (x ∷ earlier) legal =
    let s : Seen = seen fs grants earlier in
    let r = answer_to s x.event in
    let sound : IsSound s = sound-seen fs grants earlier legal.1 in
    ap (λ y. all_are_opened (after s x.event y).opens (after s x.event y).locks) legal.0
    ∙ opened_after s (event_word (now earlier) x.event r) (words (look s) x.event r) (leaves_of fs grants earlier x.event legal.1) sound.rising
    (locks_are_opened fs grants earlier legal.1)
