-- Functions that change at one number.
use Rattle.std.proofs.Common.{◌≡◌, ◌≢◌, ℕ, Bool, true, false, cond, refl, sym, subst, ◌∙◌, eqb-true, eq-eqb, ne_eqb}
use Rattle.std.specs.Prelude.{◌==◌, if◌then◌else◌}
use Rattle.std.proofs.lemmas.Bool.{eqb-false}

-- the new one at that number, the old one elsewhere
abbrev pub put : {A : Type 0} → ℕ → (ℕ → A) → (ℕ → A) → ℕ → A
put k new old n = if k == n then new n else old n

-- What holds at the number, and of the old one elsewhere, holds everywhere.
pub by_place : {A : Type 0} (P : ℕ → A → Type 0) (k : ℕ) (new old : ℕ → A) → P k (new k) → ((n : ℕ) → k ≢ n → P n (old n))
    → (n : ℕ) → P n (put k new old n)
by_place P k new old there elsewhere n = by_test (k == n) refl
  where
    by_test : (b : Bool) → (k == n) ≡ b → P n (cond b (new n) (old n))
    by_test true e = subst (λ j. P j (new j)) (eqb-true k n e) there
    by_test false e = elsewhere n (eqb-false k n e)

pub put_there : {A : Type 0} (k : ℕ) (new old : ℕ → A) → put k new old k ≡ new k
put_there k new old = rw (eq-eqb k k refl) refl

pub put_elsewhere : {A : Type 0} (k n : ℕ) (new old : ℕ → A) → k ≢ n → put k new old n ≡ old n
put_elsewhere k n new old ne = rw (ne_eqb k n ne) refl

pub put_same : {A : Type 0} (k : ℕ) (old : ℕ → A) → put k old old ≡ old
put_same k old = λ i n. either_way (k == n) (old n) i
  where
    either_way : {B : Type 0} (b : Bool) (x : B) → cond b x x ≡ x
    either_way true x = refl
    either_way false x = refl

-- only what is new at the number counts
pub put_like : {A : Type 0} (k : ℕ) (new other old : ℕ → A) → new k ≡ other k → put k new old ≡ put k other old
put_like {A = A} k new other old e = λ i n. by_place (λ m x. x ≡ put k other old m) k new old
    (e ∙ sym (put_there k other old)) (λ m ne. sym (put_elsewhere k m other old ne)) n i

pub put_unchanged : {A : Type 0} (k : ℕ) (new old : ℕ → A) → new k ≡ old k → put k new old ≡ old
put_unchanged k new old e = put_like k new old old e ∙ put_same k old
