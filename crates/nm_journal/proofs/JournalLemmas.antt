-- Entries and what they leave.
use Rattle.std.proofs.Common.{◌≡◌, ◌≤◌, ◌<◌, ℕ, zero, suc, Bool, true, false, cond, List, [], ◌∷◌, ◌++◌, Ok, map, refl, sym, subst, ap, ◌∙◌, arith, length, take, drop, get_or}
use Rattle.std.specs.Prelude.{◌+◌, ◌-◌, ◌/◌, nat_le}
use Rattle.std.proofs.lemmas.Bool.Decides.{nat_tests}
use Rattle.nm_rules.specs.Answer.{answer_to, IsLegal}
use Rattle.nm_rules.specs.Past.{Past}
use Rattle.nm_rules.specs.Seen.{Seen, seen, after}
use Rattle.nm_types.specs.declared.calls.Entry.{Entry}
use Rattle.nm_types.specs.declared.calls.Reply.{Reply}
use Rattle.nm_state.specs.State.{StateNow, Applies}
use Rattle.nm_types.specs.Parties.{Party}
use Rattle.nm_journal.specs.Journals.{AreAnswered, after_entry, after_entries, with_entries, halved, end_of}

pub legal_with : (fs : ℕ) (grants : Bool) (es : Past) (xs : List Entry) → IsLegal fs grants es → AreAnswered (seen fs grants es) xs
    → IsLegal fs grants (with_entries xs es)
unfolding seen
legal_with fs grants es [] legal are = legal
legal_with fs grants es (x ∷ xs) legal are = legal_with fs grants (x ∷ es) xs (are.0, legal) are.1

pub seen_with : (fs : ℕ) (grants : Bool) (es : Past) (xs : List Entry) → after_entries (seen fs grants es) xs ≡ seen fs grants (with_entries xs es)
unfolding seen
seen_with fs grants es [] = refl
seen_with fs grants es (x ∷ xs) = seen_with fs grants (x ∷ es) xs

-- one entry more
pub answered_with : (tables : Seen) (xs : List Entry) (x : Entry) → AreAnswered tables xs → x.reply ≡ answer_to (after_entries tables xs) x.event
    → AreAnswered tables (xs ++ x ∷ [])
answered_with tables [] x are it = (it, tt)
answered_with tables (y ∷ ys) x are it = (are.0, answered_with (after_entry tables y) ys x are.1 it)

-- fewer entries, on top of what the others left
pub answered_rest : (n : ℕ) (tables : Seen) (xs : List Entry) → AreAnswered tables xs → AreAnswered (after_entries tables (take n xs)) (drop n xs)
answered_rest zero tables xs are = are
answered_rest (suc n) tables [] are = tt
answered_rest (suc n) tables (x ∷ xs) are = answered_rest n (after_entry tables x) xs are.1

-- the next one of those that go into the base
pub answered_at : (n : ℕ) (tables : Seen) (xs : List Entry) (d : Entry) → n < length xs → AreAnswered tables xs
    → (get_or xs n d).reply ≡ answer_to (after_entries tables (take n xs)) (get_or xs n d).event
answered_at n tables [] d below are = absurd (omega (arith, below))
answered_at zero tables (x ∷ xs) d below are = are.0
answered_at (suc n) tables (x ∷ xs) d below are = answered_at n (after_entry tables x) xs d (omega (arith, below)) are.1

pub after_next : (n : ℕ) (tables : Seen) (xs : List Entry) (d : Entry) → n < length xs
    → after_entries tables (take (suc n) xs) ≡ after_entry (after_entries tables (take n xs)) (get_or xs n d)
after_next n tables [] d below = absurd (omega (arith, below))
after_next zero tables (x ∷ xs) d below = refl
after_next (suc n) tables (x ∷ xs) d below = after_next n (after_entry tables x) xs d (omega (arith, below))

-- one entry more has gone into the base
pub folded_next : (n : ℕ) (tables : Seen) (xs : List Entry) (d : Entry) (old new : StateNow) (reply : Reply) → n < length xs → AreAnswered tables xs
    → old ≡ record { seen = after_entries tables (take n xs); spent = false } → Applies old (get_or xs n d).event (Ok reply) new
    → new ≡ record { seen = after_entries tables (take (n + 1) xs); spent = false }
folded_next n tables xs d old new reply below are is applies =
    let next : suc n ≡ n + 1 = omega arith in
    applies.2 ∙ ap (λ s. record { seen = s; spent = false }) (
    ap (λ (o : StateNow). after o.seen (get_or xs n d).event reply) is
    ∙ ap (λ r. after (after_entries tables (take n xs)) (get_or xs n d).event r) same
    ∙ sym (after_next n tables xs d below)
    ∙ ap (λ k. after_entries tables (take k xs)) next
    )
  where
    same : reply ≡ (get_or xs n d).reply
    same = applies.1 ∙ ap (λ (o : StateNow). answer_to o.seen (get_or xs n d).event) is ∙ sym (answered_at n tables xs d below are)

-- ends are entries
pub ends_answered : (parties : List Party) (tables : Seen) (xs : List Entry) → AreAnswered tables xs → AreAnswered tables (xs ++ map end_of parties)
unfolding answer_to
ends_answered [] tables [] are = tt
ends_answered (party ∷ parties) tables [] are = (refl, ends_answered parties (after_entry tables (end_of party)) [] tt)
ends_answered parties tables (x ∷ xs) are = (are.0, ends_answered parties (after_entry tables x) xs are.1)

none_left : (xs : List Entry) → length xs ≤ 0 → xs ≡ []
none_left [] few = refl
none_left (x ∷ xs) few = absurd (omega (arith, few))

-- where some ends go into the base at once, nothing else is kept
pub ends_kept : (over : ℕ) (tables now : Seen) (xs : List Entry) (first rest : List Party) → (over ≡ 0 → now ≡ tables) → (0 < over → length xs ≤ 0)
    → AreAnswered tables xs → AreAnswered now (xs ++ map end_of rest)
ends_kept zero tables now xs first rest same none are = subst (λ t. AreAnswered t (xs ++ map end_of rest)) (sym (same refl)) (ends_answered rest tables xs are)
ends_kept (suc n) tables now xs first rest same none are =
    subst (λ ys. AreAnswered now (ys ++ map end_of rest)) (sym (none_left xs (none (omega arith)))) (ends_answered rest now [] tt)

-- ---- how many

pub longer : (xs : List Entry) (x : Entry) (keep : ℕ) → length xs < keep → length (xs ++ x ∷ []) ≤ keep
longer [] x keep less = omega (arith, less)
longer (y ∷ ys) x zero less = absurd (omega (arith, less))
longer (y ∷ ys) x (suc keep) less = omega (arith, longer ys x keep (omega (arith, less)))

pub ends_longer : (xs : List Entry) (parties : List Party) (keep : ℕ) → length xs + length parties ≤ keep → length (xs ++ map end_of parties) ≤ keep
ends_longer [] [] keep few = omega arith
ends_longer [] (party ∷ parties) zero few = absurd (omega (arith, few))
ends_longer [] (party ∷ parties) (suc keep) few = omega (arith, ends_longer [] parties keep (omega (arith, few)))
ends_longer (x ∷ xs) parties zero few = absurd (omega (arith, few))
ends_longer (x ∷ xs) parties (suc keep) few = omega (arith, ends_longer xs parties keep (omega (arith, few)))

pub shorter : (n keep : ℕ) (xs : List Entry) → length xs ≤ keep → length (drop n xs) ≤ keep
shorter zero keep xs few = few
shorter (suc n) keep [] few = few
shorter (suc n) keep (x ∷ xs) few = shorter n keep xs (omega (arith, few))

-- ---- halves

-- so many halves are left before the last
pub halved_on : (time left most whole : ℕ) → time < 64 → most < left → halved (64 - time) left most ≡ whole → halved (64 - (time + 1)) (left / 2) most ≡ whole
halved_on time left most whole below over is =
    sym (ap (λ b. cond b left (halved (64 - (time + 1)) (left / 2) most)) more) ∙ ap (λ k. halved k left most) (sym next) ∙ is
  where
    more : nat_le left most ≡ false
    more = grind (arith, nat_tests, over)

    next : 64 - time ≡ suc (64 - (time + 1))
    next = omega (arith, below)

pub halved_done : (time left most whole : ℕ) → time < 64 → left ≤ most → halved (64 - time) left most ≡ whole → left ≡ whole
halved_done time left most whole below within is =
    sym (ap (λ b. cond b left (halved (64 - (time + 1)) (left / 2) most)) few) ∙ ap (λ k. halved k left most) (sym next) ∙ is
  where
    few : nat_le left most ≡ true
    few = grind (arith, nat_tests, within)

    next : 64 - time ≡ suc (64 - (time + 1))
    next = omega (arith, below)

pub halved_out : (time left most whole : ℕ) → 64 ≤ time → halved (64 - time) left most ≡ whole → 0 ≡ whole
halved_out time left most whole over is = ap (λ k. halved k left most) (sym none) ∙ is
  where
    none : 64 - time ≡ zero
    none = omega (arith, over)
