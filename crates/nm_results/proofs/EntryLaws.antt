-- A loop over entries: each step leaves fewer of them to read.
use Rattle.std.proofs.Common.{◌≡◌, ℕ, suc, ◌+◌, ◌-◌, ◌≤◌, ◌<◌, List, [], ◌∷◌, ◌++◌, length, Option, Some, None, Ok, Err, refl, sym, ap, subst, ◌∙◌, arith}
use Rattle.nm_xdr.specs.Fields.{short, Fault, fault_at}
use Rattle.nm_xdr.specs.Items.{optional_at}
use Rattle.nm_xdr.specs.Places.{Spot, end_of, fault_of, place_of}
use Rattle.nm_items.specs.declared.fault.ReadFault.{ReadFault}
use Rattle.nm_items.specs.declared.fault.ReadFault.TheVariants.{Xdr, Memory}
use Rattle.nm_items.specs.Takes.{Fails}
use Rattle.nm_results.specs.declared.values.DirEntry.{DirEntry}
use Rattle.nm_results.specs.Directories.{entry_at, entries_at}

-- What is left to read behind what was read is what is read of all.
abbrev pub EntriesLeft : ℕ → ℕ → List DirEntry → Spot → Spot → Type 0
EntriesLeft number i earlier here from =
    (entries_at (number - i) earlier here.rest ≡ entries_at number [] from.rest) × (end_of here ≡ end_of from)

next_entry : (number i : ℕ) (earlier : List DirEntry) (bytes : List ℕ) (e : DirEntry) (rest : List ℕ) → i < number
    → optional_at entry_at bytes ≡ Ok (Some e, rest) → entries_at (number - i) earlier bytes ≡ entries_at (number - (i + 1)) (earlier ++ e ∷ []) rest
unfolding entries_at
next_entry number i earlier bytes e rest lt is =
    let k : number - i ≡ suc (number - (i + 1)) = omega arith in
    rw (k, is) refl

no_entry : (number i : ℕ) (earlier : List DirEntry) (bytes rest : List ℕ) → i < number
    → optional_at entry_at bytes ≡ Ok (None, rest) → entries_at (number - i) earlier bytes ≡ Ok (earlier, rest)
unfolding entries_at
no_entry number i earlier bytes rest lt is =
    let k : number - i ≡ suc (number - (i + 1)) = omega arith in
    rw (k, is) refl

bad_entry : (number i : ℕ) (earlier : List DirEntry) (bytes : List ℕ) (f : Fault) → i < number
    → optional_at entry_at bytes ≡ Err f → entries_at (number - i) earlier bytes ≡ Err f
unfolding entries_at
bad_entry number i earlier bytes f lt is =
    let k : number - i ≡ suc (number - (i + 1)) = omega arith in
    rw (k, is) refl

too_many : (number i : ℕ) (earlier : List DirEntry) (bytes : List ℕ) → number ≤ i → entries_at (number - i) earlier bytes ≡ fault_at short bytes
unfolding entries_at
too_many number i earlier bytes le =
    let k : number - i ≡ 0 = omega arith in
    rw k refl

-- One more entry was read.
pub entry_taken : (number i : ℕ) (earlier after : List DirEntry) (here to from : Spot) (e : DirEntry) (o : Option DirEntry) → i < number → o ≡ Some e
    → after ≡ earlier ++ e ∷ [] → (optional_at entry_at here.rest ≡ Ok (o, to.rest)) × (end_of to ≡ end_of here) → EntriesLeft number i earlier here from
    → EntriesLeft number (i + 1) after to from
entry_taken number i earlier after here to from e o lt some is read left =
    let got : optional_at entry_at here.rest ≡ Ok (Some e, to.rest) = read.0 ∙ ap (λ (v : Option DirEntry). Ok (v, to.rest)) some in (
      rw is (sym (next_entry number i earlier here.rest e to.rest lt got) ∙ left.0),
      read.1 ∙ left.1,
    )

-- The mark of their end was read.
pub entries_ended : (number i : ℕ) (earlier : List DirEntry) (here to from : Spot) (o : Option DirEntry) → i < number → o ≡ None
    → (optional_at entry_at here.rest ≡ Ok (o, to.rest)) × (end_of to ≡ end_of here) → EntriesLeft number i earlier here from
    → (entries_at number [] from.rest ≡ Ok (earlier, to.rest)) × (end_of to ≡ end_of from)
entries_ended number i earlier here to from o lt none read left =
    let got : optional_at entry_at here.rest ≡ Ok (None, to.rest) = read.0 ∙ ap (λ (v : Option DirEntry). Ok (v, to.rest)) none in (
      sym left.0 ∙ no_entry number i earlier here.rest to.rest lt got,
      read.1 ∙ left.1,
    )

-- An entry isn't read: it is the fault of all of them.
pub entry_missing : (number i : ℕ) (earlier : List DirEntry) (here from : Spot) (e : ReadFault) → i < number
    → Fails (end_of here) e (optional_at entry_at here.rest) → EntriesLeft number i earlier here from → Fails (end_of from) e (entries_at number [] from.rest)
entry_missing number i earlier here from (Xdr e) lt tells left =
    let same : entries_at number [] from.rest ≡ Err (fault_of (end_of here) e) =
    sym left.0 ∙ bad_entry number i earlier here.rest (fault_of (end_of here) e) lt tells.0 in
    (same ∙ ap (λ (n : ℕ). Err (fault_of n e)) left.1, subst (λ (n : ℕ). place_of e ≤ n) left.1 tells.1)
entry_missing number i earlier here from Memory lt tells left = tt

-- There are too many of them.
pub entries_past : (number i : ℕ) (earlier : List DirEntry) (here from : Spot) (place : ℕ) → number ≤ i → place ≡ here.place → EntriesLeft number i earlier here from
    → (entries_at number [] from.rest ≡ Err (record { flaw = short; left = end_of from - place })) × (place ≤ end_of from)
entries_past number i earlier here from place le is left =
    let long : length here.rest ≡ end_of from - place = omega (arith, is, left.1) in (
      sym left.0 ∙ too_many number i earlier here.rest le ∙ ap (λ (n : ℕ). Err (record { flaw = short; left = n })) long,
      omega (arith, is, left.1),
    )
