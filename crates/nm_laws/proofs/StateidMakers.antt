-- The tables have a stateid with a counter exactly while the entries tell that it lives.
use Rattle.std.proofs.Common.{◌≡◌, ℕ, ◌+◌, Bool, true, false, cond, List, [], ◌∷◌, Option, Some, None, refl, ap, sym, ◌∙◌, arith, eqb-true}
use Rattle.std.proofs.lemmas.Bool.{true≢false}
use Rattle.std.specs.Prelude.{not, ◌==◌, ◌&&◌, ◌||◌, is_none, filter, option_map}
use Rattle.std.specs.List.{list_all}
use Rattle.std.specs.Option.{option_or}
use Rattle.nm_types.specs.Owners.{same_kind, same_owner}
use Rattle.nm_types.specs.Parties.{Party, same_party}
use Rattle.nm_rules.specs.Answer.{answer_to, IsLegal}
use Rattle.nm_rules.specs.LockRows.{lock_at, put_lock, locks_after, new_lock, renewed_lock, locks_rise}
use Rattle.nm_rules.specs.Past.{Past, Words, now, words}
use Rattle.nm_rules.specs.Seen.{Seen, seen, look, after, after_words}
use Rattle.nm_rules.specs.Shares.{open_at, open_of, opened_row, put_open, opens_after, open_left}
use Rattle.nm_rules.specs.Shares.OpenWord.{DropOf}
use Rattle.nm_rules.specs.Sound.{IsSound, rises, is_opener}
use Rattle.nm_rules.specs.StateidReadings.{stateids_made}
use Rattle.nm_types.specs.declared.calls.Owner.{Owner}
use Rattle.nm_types.specs.declared.calls.OwnerKind.TheVariants.{Opens as ForOpens, Locks as ForLocks}
use Rattle.nm_types.specs.declared.rows.LockRow.{LockRow}
use Rattle.nm_types.specs.declared.rows.OpenRow.{OpenRow}
use Rattle.nm_rules.proofs.Apart.{all_in, open_of-in, same_test}
use Rattle.nm_rules.proofs.KnownLaws.{known-seen}
use Rattle.nm_rules.proofs.Legal.{sound-seen}
use Rattle.nm_rules.proofs.LockRowLaws.{lock_at-counter, kept_by}
use Rattle.nm_rules.proofs.OpenRows.{open_at-past, open_at-put, open_at-drop, open_at-drop_of, open_at-in, in-open_at}
use Rattle.nm_rules.proofs.OwnerLemmas.{same_owner-Decides}
use Rattle.nm_rules.proofs.StateidLaws.{last-seen}
use Rattle.nm_laws.specs.StateidNow.{StateidWord, Maker, event_word, open_now, unless_closed, unless_of, unless_ended, live_after, live_at}
use Rattle.nm_laws.specs.StateidNow.StateidWord.{Nothing, OpenedFor, RenewedAt, ClosedAt, LockedFor, RelockedAt, ReleasedFor, EndedFor}
use Rattle.nm_laws.specs.StateidRows.{open_stateid, open_in, open_maker, lock_maker, stateid_in, is_one}
use Rattle.nm_laws.proofs.LockStateids.{locks_apart}
use Rattle.nm_laws.proofs.OpenStateids.{leaves_of, opens_told}
use Rattle.nm_laws.proofs.StateidOnce.{lock_at-put, lock_at-filter, as_tables, one_each}
use Rattle.nm_laws.proofs.StateidTurns.{Leaves}

-- ---- what goes

abbrev pub open_kept : (OpenRow → Bool) → Option OpenRow → Option OpenRow
open_kept p None = None
open_kept p (Some row) = cond (p row) (Some row) None

abbrev pub unless : (Maker → Bool) → Option Maker → Option Maker
unless gone None = None
unless gone (Some it) = cond (gone it) None (Some it)

kept_maker : (gone : Maker → Bool) (a : Option OpenRow) (b : Option LockRow) → (is_none a || is_none b) ≡ true
    → option_or (option_map open_maker (open_kept (λ row. not (gone (open_maker row))) a)) (option_map lock_maker (kept_by (λ x. not (gone (lock_maker x))) b))
    ≡ unless gone (option_or (option_map open_maker a) (option_map lock_maker b))
kept_maker gone None None one = refl
kept_maker gone None (Some x) one = by_test (gone (lock_maker x))
  where
    by_test : (b : Bool) → option_map lock_maker (cond (not b) (Some x) None) ≡ cond b None (Some (lock_maker x))
    by_test true = refl
    by_test false = refl
kept_maker gone (Some row) None one = by_test (gone (open_maker row))
  where
    by_test : (b : Bool) → option_or (option_map open_maker (cond (not b) (Some row) None)) (option_map lock_maker None) ≡ cond b None (Some (open_maker row))
    by_test true = refl
    by_test false = refl
kept_maker gone (Some row) (Some x) one = absurd (true≢false (sym one))

-- what tables have left, by what they keep of a counter
left_of : (k : ℕ) (gone : Maker → Bool) (opens later : List OpenRow) (locks later_locks : List LockRow) → is_one k opens locks ≡ true
    → open_at k later ≡ open_kept (λ row. not (gone (open_maker row))) (open_at k opens)
    → lock_at k later_locks ≡ kept_by (λ x. not (gone (lock_maker x))) (lock_at k locks)
    → stateid_in k later later_locks ≡ unless gone (stateid_in k opens locks)
unfolding stateid_in is_one
left_of k gone opens later locks later_locks one opens_left locks_left =
    ap (λ o. option_or (option_map open_maker o) (option_map lock_maker (lock_at k later_locks))) opens_left
    ∙ ap (λ o. option_or (option_map open_maker (open_kept (λ row. not (gone (open_maker row))) (open_at k opens))) (option_map lock_maker o)) locks_left
    ∙ kept_maker gone (open_at k opens) (lock_at k locks) one

closed_open : (k m : ℕ) (rows : List OpenRow) → open_at k (filter (λ x. not (x.counter == m)) rows) ≡ open_kept (λ row. not (row.counter == m)) (open_at k rows)
closed_open k m rows = open_at-drop m rows k ∙ by_open (open_at k rows) refl
  where
    none_too : (b : Bool) (o : Option OpenRow) → o ≡ None → cond b None o ≡ None
    none_too true o none = refl
    none_too false o none = none

    by_test : (row : OpenRow) (b : Bool) → cond b None (Some row) ≡ cond (not b) (Some row) None
    by_test row true = refl
    by_test row false = refl

    by_open : (o : Option OpenRow) → open_at k rows ≡ o → cond (m == k) None o ≡ open_kept (λ row. not (row.counter == m)) o
    by_open None none = none_too (m == k) None refl
    by_open (Some row) at =
        ap (λ b. cond b None (Some row)) (same_test m k ∙ ap (λ n. n == m) (sym (open_at-in k rows row at).1)) ∙ by_test row (row.counter == m)

ended_open : (k last : ℕ) (party : Party) (rows : List OpenRow) → rises 0 last rows ≡ true
    → open_at k (filter (λ x. not (same_party party x.owner.instance)) rows) ≡ open_kept (λ row. not (same_party party row.owner.instance)) (open_at k rows)
unfolding open_left
ended_open k last party rows rising = open_at-drop_of party 0 last rows k rising ∙ by_open (open_at k rows)
  where
    by_test : (row : OpenRow) (b : Bool) → cond b None (Some row) ≡ cond (not b) (Some row) None
    by_test row true = refl
    by_test row false = refl

    by_open : (o : Option OpenRow) → open_left (DropOf party) k o ≡ open_kept (λ row. not (same_party party row.owner.instance)) o
    by_open None = refl
    by_open (Some row) = by_test row (same_party party row.owner.instance)

-- a lock owner has no open
no_open_of : (its : Owner) (row : OpenRow) → its.kind ≡ ForLocks → is_opener row ≡ true → same_owner its row.owner ≡ false
no_open_of its row kind opener = by_test (same_owner its row.owner) refl
  where
    by_test : (b : Bool) → same_owner its row.owner ≡ b → b ≡ false
    by_test true same =
        let locks : row.owner.kind ≡ ForLocks = ap (λ (o : Owner). o.kind) (sym ((same_owner-Decides its row.owner).0 same)) ∙ kind in
        let other : same_kind ForLocks ForOpens ≡ true = ap (λ x. same_kind x ForOpens) (sym locks) ∙ opener in
        absurd (true≢false (sym other))
    by_test false other = refl

released_open : (k : ℕ) (its : Owner) (rows : List OpenRow) → its.kind ≡ ForLocks → list_all is_opener rows ≡ true
    → open_at k rows ≡ open_kept (λ row. not (same_owner its row.owner)) (open_at k rows)
released_open k its rows kind openers = by_open (open_at k rows) refl
  where
    by_open : (o : Option OpenRow) → open_at k rows ≡ o → o ≡ open_kept (λ row. not (same_owner its row.owner)) o
    by_open None none = refl
    by_open (Some row) at = rw (no_open_of its row kind (all_in is_opener rows row openers (open_at-in k rows row at).0)) refl

-- the three words by which stateids go
unless-closed : (m : ℕ) (o : Option Maker) → unless (λ it. it.opened == m) o ≡ unless_closed m o
unless-closed m None = refl
unless-closed m (Some it) = refl

unless-of : (its : Owner) (o : Option Maker) → unless (λ it. same_owner its it.owner) o ≡ unless_of its o
unless-of its None = refl
unless-of its (Some it) = refl

unless-ended : (party : Party) (o : Option Maker) → unless (λ it. same_party party it.owner.instance) o ≡ unless_ended party o
unless-ended party None = refl
unless-ended party (Some it) = refl

-- ---- what is put

-- a row in the place of one of the same counter, owner and file
open-replaced : (k : ℕ) (opens : List OpenRow) (new old : OpenRow) (locks : List LockRow) → open_at new.counter opens ≡ Some old → open_maker new ≡ open_maker old
    → stateid_in k (put_open new opens) locks ≡ stateid_in k opens locks
unfolding stateid_in
open-replaced k opens new old locks at same =
    ap (λ o. option_or (option_map open_maker o) (option_map lock_maker (lock_at k locks))) (open_at-put new opens k) ∙ by_test (new.counter == k) refl
  where
    by_test : (b : Bool) → (new.counter == k) ≡ b
        → option_or (option_map open_maker (cond b (Some new) (open_at k opens))) (option_map lock_maker (lock_at k locks))
        ≡ option_or (option_map open_maker (open_at k opens)) (option_map lock_maker (lock_at k locks))
    by_test true its =
        let here : open_at k opens ≡ Some old = ap (λ n. open_at n opens) (sym (eqb-true new.counter k its)) ∙ at in
        ap (λ m. Some m) same ∙ ap (λ o. option_or (option_map open_maker o) (option_map lock_maker (lock_at k locks))) (sym here)
    by_test false other = refl

lock-replaced : (k : ℕ) (opens : List OpenRow) (new old : LockRow) (locks : List LockRow) → lock_at new.counter locks ≡ Some old → lock_maker new ≡ lock_maker old
    → stateid_in k opens (put_lock new locks) ≡ stateid_in k opens locks
unfolding stateid_in
lock-replaced k opens new old locks at same =
    ap (λ o. option_or (option_map open_maker (open_at k opens)) (option_map lock_maker o)) (lock_at-put new locks k)
    ∙ ap (option_or (option_map open_maker (open_at k opens))) (by_test (new.counter == k) refl)
  where
    by_test : (b : Bool) → (new.counter == k) ≡ b → option_map lock_maker (cond b (Some new) (lock_at k locks)) ≡ option_map lock_maker (lock_at k locks)
    by_test true its =
        let here : lock_at k locks ≡ Some old = ap (λ n. lock_at n locks) (sym (eqb-true new.counter k its)) ∙ at in
        ap (λ m. Some m) same ∙ ap (option_map lock_maker) (sym here)
    by_test false other = refl

open-new : (k last : ℕ) (opens : List OpenRow) (its : Owner) (file access deny : ℕ) (locks : List LockRow) → rises 0 last opens ≡ true
    → (o : Option OpenRow) → open_of its file opens ≡ o
    → stateid_in k (put_open (opened_row o (last + 1) file its access deny) opens) locks
    ≡ cond (is_none (option_map open_stateid o) && (last + 1 == k)) (Some (record { owner = its; file = file; opened = k })) (stateid_in k opens locks)
unfolding opened_row stateid_in
open-new k last opens its file access deny locks rising None none =
    ap (λ o. option_or (option_map open_maker o) (option_map lock_maker (lock_at k locks))) (open_at-put new opens k) ∙ by_test (last + 1 == k) refl
  where
    new : OpenRow
    new = record { counter = last + 1; seqid = 1; owner = its; file = file; access = access; deny = deny }

    by_test : (b : Bool) → (last + 1 == k) ≡ b
        → option_or (option_map open_maker (cond b (Some new) (open_at k opens))) (option_map lock_maker (lock_at k locks))
        ≡ cond b (Some (record { owner = its; file = file; opened = k })) (option_or (option_map open_maker (open_at k opens)) (option_map lock_maker (lock_at k locks)))
    by_test true same = ap (λ n. Some (record { owner = its; file = file; opened = n })) (eqb-true (last + 1) k same)
    by_test false other = refl
open-new k last opens its file access deny locks rising (Some row) found =
    open-replaced k opens (opened_row (Some row) (last + 1) file its access deny) row locks
    (in-open_at 0 last opens row rising (open_of-in its file opens row found).0).0 refl

lock-new : (k last : ℕ) (opens : List OpenRow) (its : Owner) (file opened : ℕ) (locks : List LockRow) → rises 0 last opens ≡ true
    → stateid_in k opens (put_lock (new_lock (last + 1) its opened file) locks)
    ≡ cond (last + 1 == k) (Some (record { owner = its; file = file; opened = opened })) (stateid_in k opens locks)
unfolding stateid_in
lock-new k last opens its file opened locks rising =
    ap (λ o. option_or (option_map open_maker (open_at k opens)) (option_map lock_maker o)) (lock_at-put (new_lock (last + 1) its opened file) locks k)
    ∙ by_test (last + 1 == k) refl
  where
    by_test : (b : Bool) → (last + 1 == k) ≡ b
        → option_or (option_map open_maker (open_at k opens)) (option_map lock_maker (cond b (Some (new_lock (last + 1) its opened file)) (lock_at k locks)))
        ≡ cond b (Some (record { owner = its; file = file; opened = opened })) (option_or (option_map open_maker (open_at k opens)) (option_map lock_maker (lock_at k locks)))
    by_test true same =
        let none : open_at k opens ≡ None = ap (λ n. open_at n opens) (sym (eqb-true (last + 1) k same)) ∙ open_at-past 0 last opens (last + 1) rising (omega arith) in
        rw none refl
    by_test false other = refl

-- ---- each word

-- what holds of the tables, and what the entries tell of them
record Told (s : Seen) (earlier : Past) (k : ℕ) : Type 0 where
  rising : rises 0 s.last s.opens ≡ true
  locks_rising : locks_rise 0 s.last s.locks ≡ true
  openers : list_all is_opener s.opens ≡ true
  one : is_one k s.opens s.locks ≡ true
  opened : (owner : Owner) (file : ℕ) → open_in owner file s.opens ≡ open_now earlier owner file
  made : s.last ≡ stateids_made earlier

live_step : (s : Seen) (earlier : Past) (word : StateidWord) (w : Words) (k : ℕ) → Leaves s word w → Told s earlier k
    → stateid_in k (opens_after w.opens s.opens) (locks_after w.locks s.locks) ≡ live_after earlier word k (stateid_in k s.opens s.locks)
unfolding opens_after locks_after live_after open_in
live_step s earlier Nothing w k leaves it =
    as_tables (stateid_in k) _ _ _ _ (ap (λ x. opens_after x s.opens) leaves.0) (ap (λ x. locks_after x s.locks) leaves.1)
live_step s earlier (OpenedFor its file) w k leaves it =
    as_tables (stateid_in k) _ _ _ _ (ap (λ x. opens_after x s.opens) leaves.puts) (ap (λ x. locks_after x s.locks) leaves.rest)
    ∙ open-new k s.last s.opens its file leaves.access leaves.deny s.locks it.rising (open_of its file s.opens) refl
    ∙ ap (λ o. cond (is_none o && (s.last + 1 == k)) (Some (record { owner = its; file = file; opened = k })) (stateid_in k s.opens s.locks)) (it.opened its file)
    ∙ ap (λ n. cond (is_none (open_now earlier its file) && (n + 1 == k)) (Some (record { owner = its; file = file; opened = k })) (stateid_in k s.opens s.locks)) it.made
live_step s earlier (RenewedAt m) w k leaves it =
    as_tables (stateid_in k) _ _ _ _ (ap (λ x. opens_after x s.opens) leaves.puts) (ap (λ x. locks_after x s.locks) leaves.rest)
    ∙ open-replaced k s.opens leaves.new leaves.old s.locks
    (ap (λ n. open_at n s.opens) (leaves.counter ∙ (open_at-in m s.opens leaves.old leaves.live).1) ∙ leaves.live)
    (same_maker leaves.new leaves.old leaves.counter leaves.owner leaves.file)
  where
    same_maker : (a b : OpenRow) → a.counter ≡ b.counter → a.owner ≡ b.owner → a.file ≡ b.file → open_maker a ≡ open_maker b
    same_maker a b counters owners files = rw (counters, owners, files) refl
live_step s earlier (ClosedAt m) w k leaves it =
    as_tables (stateid_in k) _ _ _ _ (ap (λ x. opens_after x s.opens) leaves.0) (ap (λ x. locks_after x s.locks) leaves.1)
    ∙ left_of k (λ made. made.opened == m) s.opens (filter (λ x. not (x.counter == m)) s.opens) s.locks (filter (λ x. not (x.opened == m)) s.locks) it.one
    (closed_open k m s.opens) (lock_at-filter (λ x. not (x.opened == m)) 0 s.last s.locks k it.locks_rising)
    ∙ unless-closed m (stateid_in k s.opens s.locks)
live_step s earlier (LockedFor its file counter) w k leaves it =
    as_tables (stateid_in k) _ _ _ _ (ap (λ x. opens_after x s.opens) leaves.rest) leaves.puts
    ∙ lock-new k s.last s.opens its file counter s.locks it.rising
    ∙ ap (λ n. cond (n + 1 == k) (Some (record { owner = its; file = file; opened = counter })) (stateid_in k s.opens s.locks)) it.made
live_step s earlier (RelockedAt m) w k leaves it =
    as_tables (stateid_in k) _ _ _ _ (ap (λ x. opens_after x s.opens) leaves.rest) leaves.puts
    ∙ lock-replaced k s.opens (renewed_lock leaves.old) leaves.old s.locks
    (ap (λ n. lock_at n s.locks) (lock_at-counter m s.locks leaves.old leaves.live) ∙ leaves.live) refl
live_step s earlier (ReleasedFor its) w k leaves it =
    as_tables (stateid_in k) _ _ _ _ (ap (λ x. opens_after x s.opens) leaves.1) (ap (λ x. locks_after x s.locks) leaves.2)
    ∙ left_of k (λ made. same_owner its made.owner) s.opens s.opens s.locks (filter (λ x. not (same_owner its x.owner)) s.locks) it.one
    (released_open k its s.opens leaves.0 it.openers) (lock_at-filter (λ x. not (same_owner its x.owner)) 0 s.last s.locks k it.locks_rising)
    ∙ unless-of its (stateid_in k s.opens s.locks)
live_step s earlier (EndedFor party) w k leaves it =
    as_tables (stateid_in k) _ _ _ _ (ap (λ x. opens_after x s.opens) leaves.0) (ap (λ x. locks_after x s.locks) leaves.1)
    ∙ left_of k (λ made. same_party party made.owner.instance) s.opens (filter (λ x. not (same_party party x.owner.instance)) s.opens)
    s.locks (filter (λ x. not (same_party party x.owner.instance)) s.locks) it.one
    (ended_open k s.last party s.opens it.rising) (lock_at-filter (λ x. not (same_party party x.owner.instance)) 0 s.last s.locks k it.locks_rising)
    ∙ unless-ended party (stateid_in k s.opens s.locks)

-- The tables have a stateid with a counter exactly while the entries tell that it lives.
pub lives_told : (fs : ℕ) (grants : Bool) (es : Past) (k : ℕ) → IsLegal fs grants es
    → stateid_in k (seen fs grants es).opens (seen fs grants es).locks ≡ live_at es k
unfolding seen live_at after_words stateid_in open_at lock_at
lives_told fs grants [] k legal = refl
lives_told fs grants (x ∷ earlier) k legal =
    let s : Seen = seen fs grants earlier in
    let r = answer_to s x.event in
    let sound : IsSound s = sound-seen fs grants earlier legal.1 in
    let it : Told s earlier k = record {
      rising = sound.rising;
      locks_rising = (locks_apart fs grants earlier legal.1).rising;
      openers = (known-seen fs grants earlier legal.1).kinds;
      one = one_each fs grants earlier k legal.1;
      opened = λ owner file. opens_told fs grants earlier owner file legal.1;
      made = last-seen fs grants earlier legal.1;
    } in
    ap (λ y. stateid_in k (after s x.event y).opens (after s x.event y).locks) legal.0
    ∙ live_step s earlier (event_word (now earlier) x.event r) (words (look s) x.event r) k (leaves_of fs grants earlier x.event legal.1) it
    ∙ ap (λ y. live_after earlier (event_word (now earlier) x.event y) k (stateid_in k s.opens s.locks)) (sym legal.0)
    ∙ ap (live_after earlier (event_word (now earlier) x.event x.reply) k) (lives_told fs grants earlier k legal.1)
