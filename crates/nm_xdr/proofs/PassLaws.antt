-- Words that are passed over one by one are read all the same, and what is left over is a fault.
use Rattle.std.proofs.Common.{◌≡◌, ℕ, zero, suc, ◌+◌, ◌-◌, ◌≤◌, ◌<◌, List, [], ◌∷◌, ◌++◌, length, Result, Ok, Err, refl, ap, ◌∙◌, arith}
use Rattle.nm_xdr.specs.Fields.{too_long, Fault, Reading, ◌>>=◌, fault_at, rows_at, ended, passed, pass}
use Rattle.nm_xdr.specs.Items.{word_at}
use Rattle.nm_xdr.proofs.FieldLaws.{rows_next, rows_fault, rows_done}

passed_bound : {A X Y : Type 0} (r : Result (A × List ℕ) Fault) (more : A → Reading X) (other : A → Reading Y)
    → ((a : A) (bytes : List ℕ) → pass (more a) bytes ≡ pass (other a) bytes) → passed (r >>= λ a. more a.0 a.1) ≡ passed (r >>= λ a. other a.0 a.1)
passed_bound (Ok a) more other same = same a.0 a.1
passed_bound (Err f) more other same = refl

-- what came before doesn't matter
earlier_passed : (count : ℕ) (earlier other : List ℕ) (bytes : List ℕ)
    → pass (rows_at (λ _. word_at) count earlier) bytes ≡ pass (rows_at (λ _. word_at) count other) bytes
unfolding rows_at
earlier_passed zero earlier other bytes = refl
earlier_passed (suc count) earlier other bytes =
    passed_bound (word_at bytes) (λ n. rows_at (λ _. word_at) count (earlier ++ n ∷ [])) (λ n. rows_at (λ _. word_at) count (other ++ n ∷ []))
    (λ n rest. earlier_passed count (earlier ++ n ∷ []) (other ++ n ∷ []) rest)

pub word_passed : (count i : ℕ) (bytes : List ℕ) (x : ℕ) (rest : List ℕ) → i < count → word_at bytes ≡ Ok (x, rest)
    → pass (rows_at (λ _. word_at) (count - i) []) bytes ≡ pass (rows_at (λ _. word_at) (count - (i + 1)) []) rest
word_passed count i bytes x rest lt e =
    ap passed (rows_next (λ _. word_at) count i [] bytes x rest lt e) ∙ earlier_passed (count - (i + 1)) (x ∷ []) [] rest

pub word_missing : (count i : ℕ) (bytes : List ℕ) (f : Fault) → i < count → word_at bytes ≡ Err f
    → pass (rows_at (λ _. word_at) (count - i) []) bytes ≡ Err f
word_missing count i bytes f lt e = ap passed (rows_fault (λ _. word_at) count i [] bytes f lt e)

pub words_passed : (count i : ℕ) (bytes : List ℕ) → count ≤ i → pass (rows_at (λ _. word_at) (count - i) []) bytes ≡ Ok (tt, bytes)
words_passed count i bytes le = ap passed (rows_done (λ _. word_at) count i [] bytes le)

-- What is left over is a fault.
pub left_over : {X : Type 0} (x : X) (rest : List ℕ) → 0 < length rest → ended x rest ≡ fault_at (too_long (length rest) 0) rest
left_over x [] h = absurd (omega arith)
left_over x (b ∷ rest) h = refl

-- And nothing isn't.
pub nothing_left : {X : Type 0} (x : X) (rest : List ℕ) → rest ≡ [] → ended x rest ≡ Ok x
nothing_left x rest h = rw h refl
