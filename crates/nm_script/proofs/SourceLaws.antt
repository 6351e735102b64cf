-- Where the lines of a source begin and end.
use Rattle.std.proofs.Common.{◌≡◌, ◌≢◌, ℕ, zero, suc, ◌+◌, ◌<◌, ◌≤◌, Bool, true, false, eqb, List, [], ◌∷◌, ◌++◌, length, get_or, take, drop, refl, ap, ◌∙◌, eq-eqb, ne_eqb, inl, inr, arith}
use Rattle.std.specs.Prelude.{◌||◌}
use Rattle.std.specs.List.{list_any, onto_first}
use Rattle.std.proofs.lemmas.Bool.Decides.{eqb_tells}
use Rattle.std.proofs.lemmas.Bool.{or_parts}
use Rattle.nm_script.specs.Grammar.{IsLines, no_line, last_line, next_line}
use Rattle.nm_script.specs.Reading.{lines_of, ended}

-- whether a byte is a line feed
abbrev pub is_feed : ℕ → Bool
is_feed b = eqb b 10

-- a line ends at its line feed
pub lines_of_ended : (line rest : List ℕ) → list_any is_feed line ≡ false → lines_of (line ++ 10 ∷ rest) ≡ line ∷ lines_of rest
lines_of_ended [] rest none = refl
lines_of_ended (b ∷ line) rest none = let p = or_parts (is_feed b) (list_any is_feed line) none in rw (p.0, lines_of_ended line rest p.1) refl

-- the last line may stand without one
pub lines_of_last : (b : ℕ) (line : List ℕ) → list_any is_feed (b ∷ line) ≡ false → lines_of (b ∷ line) ≡ (b ∷ line) ∷ []
lines_of_last b [] none = rw (or_parts (is_feed b) false none).0 refl
lines_of_last b (c ∷ line) none = let p = or_parts (is_feed b) (list_any is_feed (c ∷ line)) none in rw (p.0, lines_of_last c line p.1) refl

onto_lines : (b : ℕ) (bytes : List ℕ) (lines : List (List ℕ)) → is_feed b ≡ false → IsLines bytes lines → IsLines (b ∷ bytes) (onto_first b lines)
onto_lines b bytes lines plain no_line = last_line {line = b ∷ []} (omega arith) (rw plain refl)
onto_lines b bytes lines plain (last_line {line} some free) = last_line {line = b ∷ line} (omega arith) (rw (plain, free) refl)
onto_lines b bytes lines plain (next_line {line} {rest} {lines = others} free is) = next_line {line = b ∷ line} {rest = rest} {lines = others} (rw (plain, free) refl) is

-- the lines that are cut are those of the grammar
pub lines_are : (bytes : List ℕ) → IsLines bytes (lines_of bytes)
lines_are [] = no_line
lines_are (b ∷ bytes) =
    elim (eqb_tells b 10) [
      | inl h ↦ rw (h.0, h.1) (next_line {line = []} {rest = bytes} {lines = lines_of bytes} refl (lines_are bytes))
      | inr h ↦ rw h.0 (onto_lines b bytes (lines_of bytes) h.0 (lines_are bytes))
    ]

only_line : (line : List ℕ) → 0 < length line → list_any is_feed line ≡ false → lines_of line ≡ line ∷ []
only_line [] some free = absurd (omega arith)
only_line (b ∷ line) some free = lines_of_last b line free

-- and there are no others
pub lines_only : (bytes : List ℕ) (lines : List (List ℕ)) → IsLines bytes lines → lines_of bytes ≡ lines
lines_only bytes lines no_line = refl
lines_only bytes lines (last_line {line} some free) = only_line line some free
lines_only bytes lines (next_line {line} {rest} {lines = others} free is) = lines_of_ended line rest free ∙ ap (λ ls. line ∷ ls) (lines_only rest others is)

pub lines_of_first : (bytes : List ℕ) (i : ℕ) → i < length bytes → get_or bytes i 0 ≡ 10 → ((k : ℕ) → k < i → get_or bytes k 0 ≢ 10) → lines_of bytes ≡ take i bytes ∷ lines_of (drop (suc i) bytes)
lines_of_first [] i inside here before = absurd (omega arith)
lines_of_first (b ∷ bytes) zero inside here before = rw (eq-eqb b 10 here) refl
lines_of_first (b ∷ bytes) (suc i) inside here before =
    rw (ne_eqb b 10 (before 0 (omega arith)), lines_of_first bytes i (omega arith) here (λ k lt. before (suc k) (omega arith))) refl

pub lines_of_only : (bytes : List ℕ) → 0 < length bytes → ((k : ℕ) → k < length bytes → get_or bytes k 0 ≢ 10) → lines_of bytes ≡ bytes ∷ []
lines_of_only [] some none = absurd (omega arith)
lines_of_only (b ∷ []) some none = rw (ne_eqb b 10 (none 0 (omega arith))) refl
lines_of_only (b ∷ c ∷ bytes) some none =
    rw (ne_eqb b 10 (none 0 (omega arith)), lines_of_only (c ∷ bytes) (omega arith) (λ k lt. none (suc k) (omega arith))) refl

or_true : (b : Bool) → (b || true) ≡ true
or_true true = refl
or_true false = refl

feed_at : (bytes : List ℕ) (i : ℕ) → i < length bytes → get_or bytes i 0 ≡ 10 → list_any is_feed bytes ≡ true
feed_at [] i inside here = absurd (omega arith)
feed_at (b ∷ bytes) zero inside here = rw (eq-eqb b 10 here) refl
feed_at (b ∷ bytes) (suc i) inside here = rw (feed_at bytes i (omega arith) here) (or_true (is_feed b))

no_feed : (bytes : List ℕ) → ((k : ℕ) → k < length bytes → get_or bytes k 0 ≢ 10) → list_any is_feed bytes ≡ false
no_feed [] none = refl
no_feed (b ∷ bytes) none = rw (ne_eqb b 10 (none 0 (omega arith)), no_feed bytes (λ k lt. none (suc k) (omega arith))) refl

-- the front that ends with the last line feed ends there
pub ended_last : (bytes : List ℕ) (i : ℕ) → i < length bytes → get_or bytes i 0 ≡ 10 → ((k : ℕ) → i + 1 ≤ k → k < length bytes → get_or bytes k 0 ≢ 10) → take (suc i) bytes ≡ ended bytes
ended_last [] i inside here after = absurd (omega arith)
ended_last (b ∷ []) zero inside here after = rw (eq-eqb b 10 here) refl
ended_last (b ∷ c ∷ bytes) zero inside here after = rw (eq-eqb b 10 here, no_feed (c ∷ bytes) (λ k lt. after (suc k) (omega arith) (omega arith))) refl
ended_last (b ∷ bytes) (suc i) inside here after =
    rw (feed_at (b ∷ bytes) (suc i) inside here, ended_last bytes i (omega arith) here (λ k le lt. after (suc k) (omega arith) (omega arith))) refl

-- and is empty where there is none
pub ended_none : (bytes : List ℕ) → ((k : ℕ) → k < length bytes → get_or bytes k 0 ≢ 10) → [] ≡ ended bytes
ended_none [] none = refl
ended_none (b ∷ bytes) none = rw (no_feed (b ∷ bytes) none) refl
