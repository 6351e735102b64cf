-- Items that are passed over are read all the same.
use Rattle.std.proofs.Common.{◌≡◌, ℕ, ◌<◌, List, [], ◌∷◌, length, Option, Some, None, Result, Ok, Err, refl, ap, ◌∙◌, arith}
use Rattle.nm_xdr.specs.Fields.{Fault, Reading, ◌>>=◌, made, ended, all_of, passed}
use Rattle.nm_xdr.specs.Items.{word_at, opaque_at}
use Rattle.nm_rpc.specs.Messages.{SysCredential, Caller, gids_at, sys_credential_at, sys_caller, sys_caller_at, sys_caller_of}

-- ---- What is kept of a structure

-- a value that was read, with another made of it
abbrev pub kept : {X Y : Type 0} → (X → Y) → Result (X × List ℕ) Fault → Result (Y × List ℕ) Fault
kept g (Ok x) = Ok (g x.0, x.1)
kept g (Err f) = Err f

kept_bound : {A X Y : Type 0} (g : X → Y) (r : Result (A × List ℕ) Fault) (more : A → Reading X) (other : A → Reading Y)
    → ((a : A) (bytes : List ℕ) → kept g (more a bytes) ≡ other a bytes) → kept g (r >>= λ a. more a.0 a.1) ≡ (r >>= λ a. other a.0 a.1)
kept_bound g (Ok a) more other same = same a.0 a.1
kept_bound g (Err f) more other same = refl

-- the last item is passed over
kept_passed : {A X Y : Type 0} (g : X → Y) (r : Result (A × List ℕ) Fault) (more : A → X) (y : Y)
    → ((a : A) → g (more a) ≡ y) → kept g (r >>= λ a. made (more a.0) a.1) ≡ (passed r >>= λ u. made y u.1)
kept_passed {A} {X} {Y} g (Ok a) more y same = ap (λ (v : Y). Ok (v, a.1)) (same a.0)
kept_passed g (Err f) more y same = refl

-- The caller is what is kept of a credential.
pub caller_kept : (bytes : List ℕ) → kept sys_caller (sys_credential_at bytes) ≡ sys_caller_at bytes
unfolding sys_credential_at sys_caller_at
caller_kept bytes =
    kept_bound sys_caller (word_at bytes) _ _ (λ stamp bytes.
    kept_bound sys_caller (opaque_at 255 bytes) _ _ (λ machine bytes.
    kept_bound sys_caller (word_at bytes) _ _ (λ uid bytes.
    kept_bound sys_caller (word_at bytes) _ _ (λ gid bytes.
    kept_passed sys_caller (gids_at bytes) _ (record { principal = record { flavor = 1; uid = uid }; machine = machine }) (λ gids. refl)))))

-- all of the bytes are a credential
whole : Result (Caller × List ℕ) Fault → Option Caller
whole (Ok (c, [])) = Some c
whole (Ok (c, b ∷ rest)) = None
whole (Err f) = None

by_caller : (bytes : List ℕ) → sys_caller_of (all_of sys_credential_at bytes) ≡ whole (sys_caller_at bytes)
unfolding whole
by_caller bytes = by_credential (sys_credential_at bytes) ∙ ap whole (caller_kept bytes)
  where
    by_rest : (s : SysCredential) (rest : List ℕ) → sys_caller_of (ended s rest) ≡ whole (Ok (sys_caller s, rest))
    by_rest s [] = refl
    by_rest s (b ∷ rest) = refl

    by_credential : (r : Result (SysCredential × List ℕ) Fault) → sys_caller_of (r >>= λ x. ended x.0 x.1) ≡ whole (kept sys_caller r)
    by_credential (Ok x) = by_rest x.0 x.1
    by_credential (Err f) = refl

pub whole_caller : (bytes : List ℕ) (c : Caller) (rest : List ℕ) → sys_caller_at bytes ≡ Ok (c, rest) → rest ≡ []
    → sys_caller_of (all_of sys_credential_at bytes) ≡ Some c
unfolding whole
whole_caller bytes c [] e none = by_caller bytes ∙ ap whole e
whole_caller bytes c (b ∷ rest) e none = absurd cc

pub longer_caller : (bytes : List ℕ) (c : Caller) (rest : List ℕ) → sys_caller_at bytes ≡ Ok (c, rest) → 0 < length rest
    → sys_caller_of (all_of sys_credential_at bytes) ≡ None
unfolding whole
longer_caller bytes c [] e len = absurd (omega arith)
longer_caller bytes c (b ∷ rest) e len = by_caller bytes ∙ ap whole e

pub no_caller : (bytes : List ℕ) (f : Fault) → sys_caller_at bytes ≡ Err f → sys_caller_of (all_of sys_credential_at bytes) ≡ None
unfolding whole
no_caller bytes f e = by_caller bytes ∙ ap whole e
