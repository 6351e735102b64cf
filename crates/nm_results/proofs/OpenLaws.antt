-- The reading and the spellings of the value of OPEN belong together.
use Rattle.std.proofs.Common.{◌≡◌, ℕ, zero, suc, ◌^◌, ◌≤◌, ◌<◌, Bool, leb, List, [], ◌++◌, Result, Ok, refl, sym, ap, subst, ◌∙◌, append_assoc, arith}
use Rattle.std.proofs.lemmas.Bool.{leb-true, le-leb}
use Rattle.std.proofs.lemmas.List.{append-nil}
use Rattle.nm_xdr.specs.Fields.{enum, Fault, ◌>>=◌, IsBytes, IsItem}
use Rattle.nm_xdr.specs.Items.{word, hyper, flag}
use Rattle.nm_xdr.proofs.FieldLaws.{IsBytes-behind, bind_ok, same_value, tested_item, fits_as}
use Rattle.nm_xdr.proofs.ByteLaws.{bytes_item, only_item}
use Rattle.nm_xdr.proofs.ItemLaws.{word_item, hyper_item, flag_item}
use Rattle.nm_items.proofs.PartItems.{stateid_item, bitmap_item}
use Rattle.nm_types.specs.declared.calls.StateId.{StateId}
use Rattle.nm_types.specs.declared.results.OpenDelegation.{OpenDelegation}
use Rattle.nm_types.specs.declared.results.OpenDelegation.TheVariants as delegation
use Rattle.nm_items.specs.Parts.{stateid, IsStateId}
use Rattle.nm_results.specs.Opens.{Ace, ace, IsAce, ace_behind, AnyDelegation, none, reads, writes, delegation_bytes, IsAnyDelegation, delegation_of, reads_at, writes_at, kind_at, delegation_as, delegation_at, AnyOpen, open_bytes, open_at, open_of, IsAnyOpen}
use Rattle.nm_results.proofs.KeepLaws.{KeepsItem, keeps_made, keeps_field, keeps_item, keeps_record, keeps_as}
use Rattle.nm_results.proofs.PartLaws.{change_item}

-- ---- Delegations

-- what stands of a delegation for reading, and of one for writing
abbrev Reads : Type 0
Reads = StateId × Bool × Ace

-- with its limit
abbrev Writes : Type 0
Writes = StateId × Bool × ℕ × ℕ × Ace

abbrev reads_bytes : Reads → List ℕ
reads_bytes r = stateid r.0 ++ (flag r.1 ++ (ace r.2 ++ []))

abbrev writes_bytes : Writes → List ℕ
writes_bytes w = stateid w.0 ++ (flag w.1 ++ (word w.2 ++ (hyper w.3 ++ (ace w.4 ++ []))))

reads_item : KeepsItem (λ (r : Reads). delegation.Read r.0) reads_at reads_bytes (λ r. IsStateId r.0 × IsAce r.2)
unfolding reads_at ace_behind ace
reads_item =
    keeps_as reads_bytes (λ (r : Reads). IsStateId r.0 × IsAce r.2) (λ r. ap (λ (z : List ℕ). stateid r.0 ++ (flag r.1 ++ z)) (append-nil (ace r.2)))
    (λ r f. (f.0, (tt, (f.1.kind, (f.1.flags, (f.1.mask, (f.1.who, tt)))))))
    (λ r f. (f.0, record { kind = f.1.1.0; flags = f.1.1.1.0; mask = f.1.1.1.1.0; who = f.1.1.1.1.1.0 })) (
    keeps_record (
    keeps_item (λ (r : Reads). r.0) _ stateid_item (
    keeps_item (λ (r : Reads). r.1) _ flag_item (
    keeps_item (λ (r : Reads). r.2.kind) _ word_item (
    keeps_item (λ (r : Reads). r.2.flags) _ word_item (
    keeps_item (λ (r : Reads). r.2.mask) _ word_item (
    keeps_item (λ (r : Reads). r.2.who) _ (bytes_item 1024 (omega arith)) (
    keeps_made (λ s. (s.0.0.0.0.0.1, s.0.0.0.0.1, record { kind = s.0.0.0.1; flags = s.0.0.1; mask = s.0.1; who = s.1 })) _ (λ _. refl) (λ _. refl) (λ _. refl)))))))))

abbrev AreWrites : Writes → Type 0
AreWrites w = IsStateId w.0 × (w.2 ≡ 1) × (w.3 < 2 ^ 64) × IsAce w.4

writes_item : KeepsItem (λ (w : Writes). delegation.Write w.0) writes_at writes_bytes AreWrites
unfolding writes_at ace_behind ace
writes_item =
    keeps_as writes_bytes AreWrites (λ w. ap (λ (z : List ℕ). stateid w.0 ++ (flag w.1 ++ (word w.2 ++ (hyper w.3 ++ z)))) (append-nil (ace w.4)))
    (λ w f. (f.0, (tt, (f.1, (f.2, (f.3.kind, (f.3.flags, (f.3.mask, (f.3.who, tt)))))))))
    (λ w f. (f.0, f.1.1.0, f.1.1.1.0, record { kind = f.1.1.1.1.0; flags = f.1.1.1.1.1.0; mask = f.1.1.1.1.1.1.0; who = f.1.1.1.1.1.1.1.0 })) (
    keeps_record (
    keeps_item (λ (w : Writes). w.0) _ stateid_item (
    keeps_item (λ (w : Writes). w.1) _ flag_item (
    keeps_item (λ (w : Writes). w.2) _ (only_item 1 (omega arith)) (
    keeps_item (λ (w : Writes). w.3) _ hyper_item (
    keeps_item (λ (w : Writes). w.4.kind) _ word_item (
    keeps_item (λ (w : Writes). w.4.flags) _ word_item (
    keeps_item (λ (w : Writes). w.4.mask) _ word_item (
    keeps_item (λ (w : Writes). w.4.who) _ (bytes_item 1024 (omega arith)) (
    keeps_made (λ s. (s.0.0.0.0.0.0.0.1, s.0.0.0.0.0.0.1, s.0.0.0.0.0.1, s.0.0.0.0.1, record { kind = s.0.0.0.1; flags = s.0.0.1; mask = s.0.1; who = s.1 })) _ (λ _. refl) (λ _. refl) (λ _. refl)))))))))))

-- What a number chooses.
abbrev Chosen : ℕ → List ℕ → OpenDelegation → List ℕ → Type 0
Chosen n bytes d rest = (a : AnyDelegation) × (word n ++ bytes ≡ delegation_bytes a ++ rest) × IsAnyDelegation a × (delegation_of a ≡ d)

chosen : (n : ℕ) → n ≤ 2 → (bytes : List ℕ) (d : OpenDelegation) (rest : List ℕ) → IsBytes bytes → delegation_as n bytes ≡ Ok (d, rest) → Chosen n bytes d rest
unfolding delegation_as delegation_bytes
chosen zero le bytes d rest fits e =
    let same = same_value delegation.None d bytes rest e in
    (none, ap (λ (r : List ℕ). word 0 ++ r) same.1 ∙ ap (λ (z : List ℕ). z ++ rest) (sym (append-nil (word 0))), tt, same.0)
chosen (suc zero) le bytes d rest fits e =
    let p = reads_item.found bytes d rest fits e in
    (reads p.0.0 p.0.1 p.0.2, ap (λ (r : List ℕ). word 1 ++ r) p.1 ∙ sym (append_assoc (word 1) (reads_bytes p.0) rest), p.2, p.3)
chosen (suc (suc zero)) le bytes d rest fits e =
    let p = writes_item.found bytes d rest fits e in
    let w : Writes = p.0 in
    let one : writes_bytes w ≡ stateid w.0 ++ (flag w.1 ++ (word 1 ++ (hyper w.3 ++ (ace w.4 ++ [])))) =
    ap (λ (n : ℕ). stateid w.0 ++ (flag w.1 ++ (word n ++ (hyper w.3 ++ (ace w.4 ++ []))))) p.2.1 in (
      writes w.0 w.1 w.3 w.4,
      ap (λ (r : List ℕ). word 2 ++ r) (p.1 ∙ ap (λ (z : List ℕ). z ++ rest) one)
          ∙ sym (append_assoc (word 2) (stateid w.0 ++ (flag w.1 ++ (word 1 ++ (hyper w.3 ++ (ace w.4 ++ []))))) rest),
      (p.2.0, p.2.2, p.2.3),
      p.3,
    )
chosen (suc (suc (suc n))) le bytes d rest fits e = absurd (omega (arith, le))

pub kind_item : IsItem kind_at word (λ n. n ≤ 2)
unfolding kind_at
kind_item =
    fits_as (λ n. n ≤ 2) (λ n le. (omega (arith, le), le-leb n 2 le)) (λ n f. leb-true n 2 f.1)
    (tested_item (λ n. leb n 2) enum word_item)

-- a number, and what it chooses
number_then : (n : ℕ) (bytes : List ℕ) → n ≤ 2 → delegation_at (word n ++ bytes) ≡ delegation_as n bytes
unfolding delegation_at
number_then n bytes le = ap (λ (r : Result (ℕ × List ℕ) Fault). r >>= λ x. delegation_as x.0 x.1) (kind_item.again n bytes le)

chosen_again : (a : AnyDelegation) (rest : List ℕ) → IsAnyDelegation a → delegation_at (delegation_bytes a ++ rest) ≡ Ok (delegation_of a, rest)
unfolding delegation_bytes delegation_as
chosen_again none rest f =
    ap (λ (z : List ℕ). delegation_at (z ++ rest)) (append-nil (word 0)) ∙ number_then 0 rest (omega arith)
chosen_again (reads s recall a) rest f =
    let r : Reads = (s, recall, a) in
    ap delegation_at (append_assoc (word 1) (reads_bytes r) rest) ∙ number_then 1 (reads_bytes r ++ rest) (omega arith) ∙ reads_item.again r rest f
chosen_again (writes s recall size a) rest f =
    let w : Writes = (s, recall, 1, size, a) in
    ap delegation_at (append_assoc (word 2) (writes_bytes w) rest) ∙ number_then 2 (writes_bytes w ++ rest) (omega arith) ∙ writes_item.again w rest (f.0, refl, f.1, f.2)

pub delegation_item : KeepsItem delegation_of delegation_at delegation_bytes IsAnyDelegation
unfolding delegation_at
delegation_item = record {
  found = λ bytes d rest fits e.
      let b = bind_ok (kind_at bytes) (λ (n : ℕ × List ℕ). delegation_as n.0 n.1) (d, rest) e in
      let first = kind_item.found bytes b.0.0 b.0.1 fits b.1 in
      let behind : IsBytes b.0.1 = IsBytes-behind (word b.0.0) b.0.1 (subst IsBytes first.0 fits) in
      let p = chosen b.0.0 first.1 b.0.1 d rest behind b.2 in
      (p.0, first.0 ∙ p.1, p.2, p.3);
  again = λ a rest fits. chosen_again a rest fits;
}

-- ---- OPEN

pub open_item : KeepsItem open_of open_at open_bytes IsAnyOpen
unfolding open_at open_bytes
open_item =
    keeps_as (λ o. open_bytes o) IsAnyOpen (λ _. refl) (λ o f. (f.stateid, (f.cinfo, (f.rflags, (f.attrset, (f.delegation, tt))))))
    (λ o f. record { stateid = f.0; cinfo = f.1.0; rflags = f.1.1.0; attrset = f.1.1.1.0; delegation = f.1.1.1.1.0 }) (
    keeps_record (
    keeps_item (λ (o : AnyOpen). o.stateid) _ stateid_item (
    keeps_field (λ (o : AnyOpen). o.cinfo) (λ c. c.info) _ change_item (
    keeps_item (λ (o : AnyOpen). o.rflags) _ word_item (
    keeps_item (λ (o : AnyOpen). o.attrset) _ bitmap_item (
    keeps_field (λ (o : AnyOpen). o.delegation) delegation_of _ delegation_item (
    keeps_made (λ s. record { stateid = s.0.0.0.0.1; cinfo = s.0.0.0.1; rflags = s.0.0.1; attrset = s.0.1; delegation = s.1 }) _ (λ _. refl) (λ _. refl) (λ _. refl))))))))
