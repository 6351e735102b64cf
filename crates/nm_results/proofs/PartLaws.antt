-- The reading and the spelling of the change of a directory, and of the values that have one spelling, belong together.
use Rattle.std.proofs.Common.{◌≡◌, ℕ, zero, suc, ◌≤◌, ◌<◌, List, ◌++◌, length, Option, Some, None, Ok, refl, ap, ◌∙◌, arith}
use Rattle.std.proofs.lemmas.Bool.Decides.{nat_tests}
use Rattle.nm_xdr.specs.Fields.{IsItem}
use Rattle.nm_xdr.specs.Items.{word, word_at, named, enum_at}
use Rattle.nm_xdr.proofs.FieldLaws.{field_part, made_part, record_item, fits_as, bind_ok, same_value}
use Rattle.nm_xdr.proofs.ByteLaws.{bytes_item}
use Rattle.nm_xdr.proofs.ItemLaws.{word_item, hyper_item, flag_item}
use Rattle.nm_types.specs.declared.results.AccessOk.{AccessOk}
use Rattle.nm_types.specs.declared.results.ReadOk.{ReadOk}
use Rattle.nm_types.specs.declared.results.WriteOk.{WriteOk}
use Rattle.nm_types.specs.declared.results.LockKind.{LockKind}
use Rattle.nm_results.specs.declared.values.SetClientIdOk.{SetClientIdOk}
use Rattle.nm_results.specs.declared.values.ClientAddress.{ClientAddress}
use Rattle.nm_results.specs.Parts.{AnyChange, change, change_at, IsChange}
use Rattle.nm_results.specs.Contents.{access, access_at, IsAccess, read_bytes, read_at, IsRead, write_bytes, write_at, IsWrite}
use Rattle.nm_results.specs.Clients.{client, client_at, IsClient, address, address_at, IsAddress}
use Rattle.nm_results.specs.Locks.{kind_numbered, lock_kind_at, kind_of_number, AnyDenied, denied, denied_at, denied_of, IsAnyDenied}
use Rattle.nm_results.proofs.KeepLaws.{KeepsItem, keeps_made, keeps_field, keeps_item, keeps_record, keeps_as}

pub word_length : (n : ℕ) → length (word n) ≡ 4
unfolding word
word_length n = refl

-- ---- The change of a directory

pub change_item : KeepsItem (λ (c : AnyChange). c.info) change_at change (λ c. IsChange c.info)
unfolding change_at change
change_item =
    keeps_as (λ c. change c) (λ (c : AnyChange). IsChange c.info) (λ _. refl) (λ c f. (tt, (f.before, (f.after, tt)))) (λ c f. record { before = f.1.0; after = f.1.1.0 }) (
    keeps_record (
    keeps_item (λ (c : AnyChange). c.atomic) _ flag_item (
    keeps_item (λ (c : AnyChange). c.info.before) _ hyper_item (
    keeps_item (λ (c : AnyChange). c.info.after) _ hyper_item (
    keeps_made (λ s. record { atomic = s.0.0.1; info = record { before = s.0.1; after = s.1 } }) _ (λ _. refl) (λ _. refl) (λ _. refl))))))

-- ---- Values with one spelling

pub access_item : IsItem access_at access IsAccess
unfolding access_at access
access_item =
    fits_as IsAccess (λ a f. (f.supported, (f.access, tt))) (λ a f. record { supported = f.0; access = f.1.0 }) (
    record_item (
    field_part (λ (a : AccessOk). a.supported) _ (λ _. word_item) (
    field_part (λ (a : AccessOk). a.access) _ (λ _. word_item) (
    made_part _ (λ _. refl) (λ _. refl)))))

pub read_item : IsItem read_at read_bytes IsRead
unfolding read_at read_bytes
read_item =
    fits_as IsRead (λ r f. (tt, (f, tt))) (λ r f. f.1.0) (
    record_item (
    field_part (λ (r : ReadOk). r.eof) _ (λ _. flag_item) (
    field_part (λ (r : ReadOk). r.«data») _ (λ _. bytes_item 65536 (omega arith)) (
    made_part _ (λ _. refl) (λ _. refl)))))

pub write_item : IsItem write_at write_bytes IsWrite
unfolding write_at write_bytes
write_item =
    fits_as IsWrite (λ w f. (f.count, (f.committed, (f.writeverf, tt)))) (λ w f. record { count = f.0; committed = f.1.0; writeverf = f.1.1.0 }) (
    record_item (
    field_part (λ (w : WriteOk). w.count) _ (λ _. word_item) (
    field_part (λ (w : WriteOk). w.committed) _ (λ _. word_item) (
    field_part (λ (w : WriteOk). w.writeverf) _ (λ _. hyper_item) (
    made_part _ (λ _. refl) (λ _. refl))))))

pub client_item : IsItem client_at client IsClient
unfolding client_at client
client_item =
    fits_as IsClient (λ c f. (f.clientid, (f.confirm, tt))) (λ c f. record { clientid = f.0; confirm = f.1.0 }) (
    record_item (
    field_part (λ (c : SetClientIdOk). c.clientid) _ (λ _. hyper_item) (
    field_part (λ (c : SetClientIdOk). c.confirm) _ (λ _. hyper_item) (
    made_part _ (λ _. refl) (λ _. refl)))))

pub address_item : IsItem address_at address IsAddress
unfolding address_at address
address_item =
    fits_as IsAddress (λ a f. (f.netid, (f.addr, tt))) (λ a f. record { netid = f.0; addr = f.1.0 }) (
    record_item (
    field_part (λ (a : ClientAddress). a.netid) _ (λ _. bytes_item 1024 (omega arith)) (
    field_part (λ (a : ClientAddress). a.addr) _ (λ _. bytes_item 1024 (omega arith)) (
    made_part _ (λ _. refl) (λ _. refl)))))

-- ---- The lock that is in the way

named_found : {X : Type 0} (o : Option X) (n : ℕ) (bytes after : List ℕ) (x : X) (rest : List ℕ) → named o n bytes after ≡ Ok (x, rest) → (o ≡ Some x) × (after ≡ rest)
named_found None n bytes after x rest e = absurd cc
named_found (Some y) n bytes after x rest e = let same = same_value y x after rest e in (ap (λ v. Some v) same.0, same.1)

-- a number past 4 is none of a kind
past_four : (n : ℕ) → 4 < n → kind_numbered n ≡ None
unfolding kind_numbered
past_four n far = grind (arith, nat_tests)

numbered : (n : ℕ) (k : LockKind) → kind_numbered n ≡ Some k → ((1 ≤ n) × (n ≤ 4)) × (kind_of_number n ≡ k)
unfolding kind_numbered
numbered zero k e = absurd cc
numbered (suc zero) k e = ((omega arith, omega arith), cc)
numbered (suc (suc zero)) k e = ((omega arith, omega arith), cc)
numbered (suc (suc (suc zero))) k e = ((omega arith, omega arith), cc)
numbered (suc (suc (suc (suc zero)))) k e = ((omega arith, omega arith), cc)
numbered (suc (suc (suc (suc (suc n))))) k e =
    let none : kind_numbered (suc (suc (suc (suc (suc n))))) ≡ None = past_four (suc (suc (suc (suc (suc n))))) (omega arith) in
    absurd cc

numbered_again : (n : ℕ) → 1 ≤ n → n ≤ 4 → kind_numbered n ≡ Some (kind_of_number n)
unfolding kind_numbered
numbered_again zero from to = absurd (omega (arith, from))
numbered_again (suc zero) from to = refl
numbered_again (suc (suc zero)) from to = refl
numbered_again (suc (suc (suc zero))) from to = refl
numbered_again (suc (suc (suc (suc zero)))) from to = refl
numbered_again (suc (suc (suc (suc (suc n))))) from to = absurd (omega (arith, to))

lock_kind_item : KeepsItem kind_of_number lock_kind_at word (λ n. (1 ≤ n) × (n ≤ 4))
unfolding lock_kind_at enum_at
lock_kind_item = record {
  found = λ bytes k rest fits e.
      let b = bind_ok (word_at bytes) (λ (n : ℕ × List ℕ). named (kind_numbered n.0) n.0 bytes n.1) (k, rest) e in
      let first = word_item.found bytes b.0.0 b.0.1 fits b.1 in
      let p = named_found (kind_numbered b.0.0) b.0.0 bytes b.0.1 k rest b.2 in
      let q = numbered b.0.0 k p.0 in
      (b.0.0, first.0 ∙ ap (λ (r : List ℕ). word b.0.0 ++ r) p.1, q.0, q.1);
  again = λ n rest fits. rw (word_item.again n rest (omega (arith, fits.1)), numbered_again n fits.0 fits.1) refl;
}

pub denied_item : KeepsItem denied_of denied_at denied IsAnyDenied
unfolding denied_at denied
denied_item =
    keeps_as (λ d. denied d) IsAnyDenied (λ _. refl) (λ d f. (f.offset, (f.extent, ((f.from_one, f.to_four), (f.clientid, (f.owner, tt))))))
    (λ d f. record { offset = f.0; extent = f.1.0; from_one = f.1.1.0.0; to_four = f.1.1.0.1; clientid = f.1.1.1.0; owner = f.1.1.1.1.0 }) (
    keeps_record (
    keeps_item (λ (d : AnyDenied). d.offset) _ hyper_item (
    keeps_item (λ (d : AnyDenied). d.length) _ hyper_item (
    keeps_field (λ (d : AnyDenied). d.locktype) kind_of_number _ lock_kind_item (
    keeps_item (λ (d : AnyDenied). d.clientid) _ hyper_item (
    keeps_item (λ (d : AnyDenied). d.owner) _ (bytes_item 1024 (omega arith)) (
    keeps_made (λ s. record { offset = s.0.0.0.0.1; length = s.0.0.0.1; locktype = s.0.0.1; clientid = s.0.1; owner = s.1 }) _ (λ _. refl) (λ _. refl) (λ _. refl))))))))
