-- No counter is a closed open's and a lock owner's.
use Rattle.std.proofs.Common.{◌≡◌, ◌≤◌, ◌<◌, ℕ, ◌+◌, Bool, true, false, cond, List, [], ◌∷◌, Option, Some, None, refl, ap, sym, subst, ◌∙◌, arith, eqb-true}
use Rattle.std.specs.Prelude.{◌==◌, ◌&&◌, ◌||◌, not, is_none, nat_le, nat_lt}
use Rattle.std.specs.List.{list_all}
use Rattle.std.proofs.lemmas.Bool.{and_from, and_parts, false≢true}
use Rattle.std.proofs.lemmas.Bool.Decides.{nat_tests}
use Rattle.nm_types.specs.Owners.{same_owner}
use Rattle.nm_types.specs.Parties.{same_party}
use Rattle.nm_rules.specs.Answer.{IsLegal, answer_to, ok_value, reply_by}
use Rattle.nm_rules.specs.Checks.Stop.{Refuse}
use Rattle.nm_rules.specs.LockRows.{lock_at, locks_after, locks_rise, new_lock, renewed_lock}
use Rattle.nm_rules.specs.Past.{Past, Words, now, seqid_owner, words}
use Rattle.nm_rules.specs.Seen.{Seen, after, after_words, look, seen}
use Rattle.nm_rules.specs.Seqids.{closed_after}
use Rattle.nm_rules.specs.Seqids.OwnerWord.{GoneOf}
use Rattle.nm_rules.specs.Shares.{open_at}
use Rattle.nm_rules.specs.Sound.{IsSound, rises}
use Rattle.nm_types.specs.declared.calls.Event.{Event}
use Rattle.nm_types.specs.declared.calls.Event.TheVariants.{Asked, Ended}
use Rattle.nm_types.specs.declared.rows.LockRow.{LockRow}
use Rattle.nm_types.specs.declared.rows.OpenRow.{OpenRow}
use Rattle.nm_rules.proofs.KnownLaws.{all_at}
use Rattle.nm_rules.proofs.Legal.{sound-seen}
use Rattle.nm_rules.proofs.LockRowLaws.{kept_by, lock_at-counter}
use Rattle.nm_rules.proofs.OpenRows.{open_at-in, open_at-past}
use Rattle.nm_laws.specs.StateidNow.{StateidWord, event_word}
use Rattle.nm_laws.specs.StateidNow.StateidWord.{Nothing, OpenedFor, RenewedAt, ClosedAt, LockedFor, RelockedAt, ReleasedFor, EndedFor}
use Rattle.nm_laws.specs.StateidRows.{is_one}
use Rattle.nm_laws.proofs.AnswerWords.{by_answer}
use Rattle.nm_laws.proofs.LockStateids.{locks_apart}
use Rattle.nm_laws.proofs.OpenStateids.{leaves_of}
use Rattle.nm_laws.proofs.OwnerKinds.{LiveAre, closed_kept, noted_closes, start_closes, word_closes}
use Rattle.nm_laws.proofs.StateidOnce.{lock_at-filter, lock_at-put, one_each}
use Rattle.nm_laws.proofs.StateidTurns.{Leaves}

-- a counter that was drawn, and is no lock owner's
abbrev is_free : ℕ → List LockRow → OpenRow → Bool
is_free last locks row = nat_le row.counter last && is_none (lock_at row.counter locks)

is_none-of : {A : Type 0} (o : Option A) → is_none o ≡ true → o ≡ None
is_none-of None none = refl
is_none-of (Some x) none = absurd (false≢true none)

within : (m n : ℕ) → nat_le m n ≡ true → m ≤ n
within m n h = grind (arith, nat_tests)

is_within : (m n : ℕ) → m ≤ n → nat_le m n ≡ true
is_within m n h = grind (arith, nat_tests)

-- ---- lock stateids that come have later counters

none_after : (s : Seen) (word : StateidWord) (w : Words) (k : ℕ) → Leaves s word w → locks_rise 0 s.last s.locks ≡ true → k ≤ s.last → lock_at k s.locks ≡ None
    → lock_at k (locks_after w.locks s.locks) ≡ None
unfolding locks_after
none_after s Nothing w k leaves rising low none = ap (λ x. lock_at k (locks_after x s.locks)) leaves.1 ∙ none
none_after s (OpenedFor its its_file) w k leaves rising low none = ap (λ x. lock_at k (locks_after x s.locks)) leaves.rest ∙ none
none_after s (RenewedAt m) w k leaves rising low none = ap (λ x. lock_at k (locks_after x s.locks)) leaves.rest ∙ none
none_after s (ClosedAt m) w k leaves rising low none =
    ap (λ x. lock_at k (locks_after x s.locks)) leaves.1
    ∙ lock_at-filter (λ x. not (x.opened == m)) 0 s.last s.locks k rising ∙ ap (kept_by (λ x. not (x.opened == m))) none
none_after s (LockedFor its its_file counter) w k leaves rising low none =
    ap (lock_at k) leaves.puts ∙ lock_at-put (new_lock (s.last + 1) its counter its_file) s.locks k ∙ by_test (s.last + 1 == k) refl
  where
    by_test : (b : Bool) → (s.last + 1 == k) ≡ b → cond b (Some (new_lock (s.last + 1) its counter its_file)) (lock_at k s.locks) ≡ None
    by_test true same = absurd (omega (arith, eqb-true (s.last + 1) k same, low))
    by_test false other = none
none_after s (RelockedAt m) w k leaves rising low none =
    ap (lock_at k) leaves.puts ∙ lock_at-put (renewed_lock leaves.old) s.locks k ∙ by_test (leaves.old.counter == k) refl
  where
    never : None ≡ Some leaves.old → ⊥
    never e = cc

    by_test : (b : Bool) → (leaves.old.counter == k) ≡ b → cond b (Some (renewed_lock leaves.old)) (lock_at k s.locks) ≡ None
    by_test true same =
        absurd (never (sym none ∙ ap (λ n. lock_at n s.locks) (sym (eqb-true leaves.old.counter k same) ∙ lock_at-counter m s.locks leaves.old leaves.live) ∙ leaves.live))
    by_test false other = none
none_after s (ReleasedFor its) w k leaves rising low none =
    ap (λ x. lock_at k (locks_after x s.locks)) leaves.2
    ∙ lock_at-filter (λ x. not (same_owner its x.owner)) 0 s.last s.locks k rising ∙ ap (kept_by (λ x. not (same_owner its x.owner))) none
none_after s (EndedFor party) w k leaves rising low none =
    ap (λ x. lock_at k (locks_after x s.locks)) leaves.1
    ∙ lock_at-filter (λ x. not (same_party party x.owner.instance)) 0 s.last s.locks k rising ∙ ap (kept_by (λ x. not (same_party party x.owner.instance))) none

last_later : (drew : Bool) (last : ℕ) → last ≤ cond drew (last + 1) last
last_later true last = omega arith
last_later false last = omega arith

-- what was free stays free
free_after : (s : Seen) (word : StateidWord) (w : Words) (row : OpenRow) → Leaves s word w → locks_rise 0 s.last s.locks ≡ true → is_free s.last s.locks row ≡ true
    → is_free (cond w.drew (s.last + 1) s.last) (locks_after w.locks s.locks) row ≡ true
free_after s word w row leaves rising free =
    let parts = and_parts (nat_le row.counter s.last) (is_none (lock_at row.counter s.locks)) free in
    let low : row.counter ≤ s.last = within row.counter s.last parts.0 in
    and_from _ _ (is_within row.counter (cond w.drew (s.last + 1) s.last) (omega (arith, low, last_later w.drew s.last)))
    (ap is_none (none_after s word w row.counter leaves rising low (is_none-of (lock_at row.counter s.locks) parts.1)))

all_turn : (q p : OpenRow → Bool) → ((x : OpenRow) → q x ≡ true → p x ≡ true) → (rows : List OpenRow) → list_all q rows ≡ true → list_all p rows ≡ true
all_turn q p turn [] all = refl
all_turn q p turn (x ∷ xs) all =
    let parts = and_parts (q x) (list_all q xs) all in
    and_from (p x) (list_all p xs) (turn x parts.0) (all_turn q p turn xs parts.1)

-- ---- what is closed was live

live_is_free : (s : Seen) → rises 0 s.last s.opens ≡ true → ((k : ℕ) → is_one k s.opens s.locks ≡ true) → LiveAre (is_free s.last s.locks) s
unfolding is_one
live_is_free s rising one k row found =
    let its : row.counter ≡ k = (open_at-in k s.opens row found).1 in
    subst (λ n. (nat_le n s.last && is_none (lock_at n s.locks)) ≡ true) (sym its)
    (and_from _ _ (low (nat_lt s.last k) refl) (there (open_at k s.opens) found (one k)))
  where
    never : None ≡ Some row → ⊥
    never e = cc

    past : nat_lt s.last k ≡ true → s.last < k
    past above = grind (arith, nat_tests)

    low : (b : Bool) → nat_lt s.last k ≡ b → nat_le k s.last ≡ true
    low true above = absurd (never (sym (open_at-past 0 s.last s.opens k rising (past above)) ∙ found))
    low false below = grind (arith, nat_tests)

    there : (o : Option OpenRow) → o ≡ Some row → (is_none o || is_none (lock_at k s.locks)) ≡ true → is_none (lock_at k s.locks) ≡ true
    there None e either = cc
    there (Some x) e either = either

closed_words : (s : Seen) (event : Event) → LiveAre (is_free s.last s.locks) s → list_all (is_free s.last s.locks) s.closed ≡ true
    → list_all (is_free s.last s.locks)
    (closed_after (words (look s) event (answer_to s event)).starts (closed_after (words (look s) event (answer_to s event)).owners s.closed)) ≡ true
unfolding words closed_after
closed_words s (Ended party) live all = closed_kept (is_free s.last s.locks) (GoneOf party) s.closed tt all
closed_words s (Asked call verdict) live all =
    by_answer (λ w. list_all q (closed_after w.starts (closed_after w.owners s.closed)) ≡ true) s call verdict
    (λ status refused. closed_kept q _ s.closed (word_closes q s call (reply_by s call (Some (Refuse status))) live) all)
    all
    (λ goes. closed_kept q _ _ (start_closes q (look s) call (reply_by s call None) call.deed (ok_value s call.caller call.file call.deed))
    (closed_kept q _ s.closed (noted_closes q s call (reply_by s call None) (seqid_owner (look s) call.caller call.deed) live) all))
  where
    q : OpenRow → Bool
    q = is_free s.last s.locks

closed_free : (fs : ℕ) (grants : Bool) (es : Past) → IsLegal fs grants es → list_all (is_free (seen fs grants es).last (seen fs grants es).locks) (seen fs grants es).closed ≡ true
unfolding seen after_words
closed_free fs grants [] legal = refl
closed_free fs grants (x ∷ earlier) legal =
    let s : Seen = seen fs grants earlier in
    let r = answer_to s x.event in
    let w : Words = words (look s) x.event r in
    let sound : IsSound s = sound-seen fs grants earlier legal.1 in
    ap (λ y. list_all (is_free (after s x.event y).last (after s x.event y).locks) (after s x.event y).closed) legal.0
    ∙ all_turn (is_free s.last s.locks) (is_free (cond w.drew (s.last + 1) s.last) (locks_after w.locks s.locks))
    (λ row free. free_after s (event_word (now earlier) x.event r) w row (leaves_of fs grants earlier x.event legal.1) (locks_apart fs grants earlier legal.1).rising free)
    (closed_after w.starts (closed_after w.owners s.closed))
    (closed_words s x.event (live_is_free s sound.rising (λ k. one_each fs grants earlier k legal.1)) (closed_free fs grants earlier legal.1))

-- a closed open's counter is no lock owner's
pub closed_is_no_lock : (fs : ℕ) (grants : Bool) (es : Past) (k : ℕ) (row : OpenRow) → IsLegal fs grants es → open_at k (seen fs grants es).closed ≡ Some row
    → lock_at k (seen fs grants es).locks ≡ None
closed_is_no_lock fs grants es k row legal found =
    let s : Seen = seen fs grants es in
    let free : is_free s.last s.locks row ≡ true = all_at (is_free s.last s.locks) k s.closed row (closed_free fs grants es legal) found in
    ap (λ n. lock_at n s.locks) (sym (open_at-in k s.closed row found).1)
    ∙ is_none-of (lock_at row.counter s.locks) (and_parts (nat_le row.counter s.last) (is_none (lock_at row.counter s.locks)) free).1

pub one_closed : (fs : ℕ) (grants : Bool) (es : Past) (k : ℕ) → IsLegal fs grants es → is_one k (seen fs grants es).closed (seen fs grants es).locks ≡ true
unfolding is_one
one_closed fs grants es k legal = by_row (open_at k (seen fs grants es).closed) refl
  where
    by_row : (o : Option OpenRow) → open_at k (seen fs grants es).closed ≡ o → (is_none o || is_none (lock_at k (seen fs grants es).locks)) ≡ true
    by_row None none = refl
    by_row (Some row) found = ap is_none (closed_is_no_lock fs grants es k row legal found)
