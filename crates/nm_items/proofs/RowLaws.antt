-- A loop over rows: each step leaves less of them to read.
use Rattle.std.proofs.Common.{◌≡◌, ℕ, ◌+◌, ◌-◌, ◌≤◌, ◌<◌, cond, leb, List, [], ◌∷◌, ◌++◌, length, Ok, Err, sym, ◌∙◌, ap, subst}
use Rattle.std.proofs.lemmas.Bool.{leb-true}
use Rattle.nm_xdr.specs.Fields.{Reading, rows_at, too_long}
use Rattle.nm_xdr.specs.Items.{word_at, length_at}
use Rattle.nm_xdr.specs.Places.{Spot, end_of, fault_of, place_of}
use Rattle.nm_xdr.proofs.FieldLaws.{bind_ok, guard_ok, rows_next, rows_fault, rows_done}
use Rattle.nm_items.specs.declared.fault.ReadFault.{ReadFault}
use Rattle.nm_items.specs.declared.fault.ReadFault.TheVariants.{Xdr, Memory}
use Rattle.nm_items.specs.Takes.{Fails}

-- What is left to read behind what was read is what is read of all.
abbrev pub RowsLeft : {X : Type 0} → Reading X → ℕ → ℕ → List X → Spot → Spot → Type 0
RowsLeft row count i earlier here from =
    (rows_at (λ _. row) (count - i) earlier here.rest ≡ rows_at (λ _. row) count [] from.rest) × (end_of here ≡ end_of from)

-- One more row was read.
pub row_taken : {X : Type 0} (row : Reading X) (count i : ℕ) (earlier after : List X) (here to from : Spot) (x : X) → i < count
    → after ≡ earlier ++ x ∷ [] → (row here.rest ≡ Ok (x, to.rest)) × (end_of to ≡ end_of here) → RowsLeft row count i earlier here from
    → RowsLeft row count (i + 1) after to from
row_taken row count i earlier after here to from x lt is read left = (
  rw is (sym (rows_next (λ _. row) count i earlier here.rest x to.rest lt read.0) ∙ left.0),
  read.1 ∙ left.1,
)

-- All rows were read.
pub rows_taken : {X : Type 0} (row : Reading X) (count i : ℕ) (earlier : List X) (here from : Spot) → count ≤ i → RowsLeft row count i earlier here from
    → (rows_at (λ _. row) count [] from.rest ≡ Ok (earlier, here.rest)) × (end_of here ≡ end_of from)
rows_taken row count i earlier here from le left =
    (sym left.0 ∙ rows_done (λ _. row) count i earlier here.rest le, left.1)

-- A row isn't read: it is the fault of all of them.
pub row_missing : {X : Type 0} (row : Reading X) (count i : ℕ) (earlier : List X) (here from : Spot) (e : ReadFault) → i < count
    → Fails (end_of here) e (row here.rest) → RowsLeft row count i earlier here from → Fails (end_of from) e (rows_at (λ _. row) count [] from.rest)
row_missing row count i earlier here from (Xdr e) lt tells left =
    let same : rows_at (λ _. row) count [] from.rest ≡ Err (fault_of (end_of here) e) =
    sym left.0 ∙ rows_fault (λ _. row) count i earlier here.rest (fault_of (end_of here) e) lt tells.0 in
    (same ∙ ap (λ (n : ℕ). Err (fault_of n e)) left.1, subst (λ (n : ℕ). place_of e ≤ n) left.1 tells.1)
row_missing row count i earlier here from Memory lt tells left = tt

-- A count that was read is within its limit.
pub count_within : (max : ℕ) (bytes rest : List ℕ) (n : ℕ) → length_at max bytes ≡ Ok (n, rest) → n ≤ max
unfolding length_at
count_within max bytes rest n e =
    let b = bind_ok (word_at bytes) (λ (v : ℕ × List ℕ). cond (leb v.0 max) (Ok v) (Err (record { flaw = too_long v.0 max; left = length bytes }))) (n, rest) e in
    let g = guard_ok (leb b.0.0 max) (record { flaw = too_long b.0.0 max; left = length bytes }) b.0 (n, rest) b.2 in
    subst (λ (v : ℕ × List ℕ). v.0 ≤ max) g.1 (leb-true b.0.0 max g.0)
