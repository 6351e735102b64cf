-- The header of a callback: what is kept of it, and all that stands in it.
use Rattle.std.proofs.Common.{◌≡◌, ℕ, ◌^◌, ◌≤◌, ◌<◌, List, ◌++◌, length, Result, Ok, Err, refl, sym, ap, ◌∙◌, arith}
use Rattle.nm_xdr.specs.Fields.{Fault, Reading, ◌>>=◌, field, made, IsBytes, IsItem}
use Rattle.nm_xdr.specs.Items.{word_at}
use Rattle.nm_xdr.proofs.FieldLaws.{field_part, made_part, record_item, fits_as}
use Rattle.nm_xdr.proofs.ItemLaws.{word_item}
use Rattle.nm_rpc.specs.Messages.{CallHeader, header, IsHeader, auth_at}
use Rattle.nm_xdr.specs.Items.{only_at, choice_at}
use Rattle.nm_rpc.proofs.HeaderLaws.{auth_item}
use Rattle.nm_rpc.proofs.Passing.{kept}
use Rattle.nm_callback.specs.Callbacks.{opening_at}
use Rattle.nm_xdr.proofs.ByteLaws.{only_item, choice_item}

-- all items of the header of a callback
items_at : Reading CallHeader
items_at =
    field word_at (λ xid. field (only_at 0) (λ kind. field (only_at 2) (λ rpc_version. field word_at (λ program. field (only_at 1) (λ version. field choice_at (λ procedure.
    field word_at (λ flavor. field auth_at (λ credential. field word_at (λ verifier_flavor. field auth_at (λ verifier.
    made (record {
      xid = xid;
      kind = kind;
      rpc_version = rpc_version;
      program = program;
      version = version;
      procedure = procedure;
      flavor = flavor;
      credential = credential;
      verifier_flavor = verifier_flavor;
      verifier = verifier;
    })))))))))))

-- A header of a callback: the numbers are words, and some of them have to have one value.
pub record IsOpening (h : CallHeader) : Type 0 where
  pub fits : IsHeader h
  pub kind : h.kind ≡ 0
  pub rpc_version : h.rpc_version ≡ 2
  pub version : h.version ≡ 1
  pub procedure : h.procedure ≤ 1

items_item : IsItem items_at header IsOpening
unfolding items_at header
items_item =
    fits_as IsOpening
    (λ h f. (f.fits.xid, (f.kind, (f.rpc_version, (f.fits.program, (f.version, (f.procedure, (f.fits.flavor, (f.fits.credential, (f.fits.verifier_flavor, (f.fits.verifier, tt)))))))))))
    (λ h f. record {
      fits = record {
        xid = f.0;
        kind = omega (arith, f.1.0);
        rpc_version = omega (arith, f.1.1.0);
        program = f.1.1.1.0;
        version = omega (arith, f.1.1.1.1.0);
        procedure = omega (arith, f.1.1.1.1.1.0);
        flavor = f.1.1.1.1.1.1.0;
        credential = f.1.1.1.1.1.1.1.0;
        verifier_flavor = f.1.1.1.1.1.1.1.1.0;
        verifier = f.1.1.1.1.1.1.1.1.1.0;
      };
      kind = f.1.0;
      rpc_version = f.1.1.0;
      version = f.1.1.1.1.0;
      procedure = f.1.1.1.1.1.0;
    }) (
    record_item (
    field_part (λ (h : CallHeader). h.xid) _ (λ _. word_item) (
    field_part (λ (h : CallHeader). h.kind) _ (λ _. only_item 0 (omega arith)) (
    field_part (λ (h : CallHeader). h.rpc_version) _ (λ _. only_item 2 (omega arith)) (
    field_part (λ (h : CallHeader). h.program) _ (λ _. word_item) (
    field_part (λ (h : CallHeader). h.version) _ (λ _. only_item 1 (omega arith)) (
    field_part (λ (h : CallHeader). h.procedure) _ (λ _. choice_item) (
    field_part (λ (h : CallHeader). h.flavor) _ (λ _. word_item) (
    field_part (λ (h : CallHeader). h.credential) _ (λ _. auth_item) (
    field_part (λ (h : CallHeader). h.verifier_flavor) _ (λ _. word_item) (
    field_part (λ (h : CallHeader). h.verifier) _ (λ _. auth_item) (
    made_part _ (λ _. refl) (λ _. refl)))))))))))))

-- ---- What is kept

abbrev pub opened : CallHeader → ℕ × ℕ
opened h = (h.xid, h.procedure)

kept_bound : {A : Type 0} (r : Result (A × List ℕ) Fault) (more : A → Reading CallHeader) (other : A → Reading (ℕ × ℕ))
    → ((a : A) (bytes : List ℕ) → kept opened (more a bytes) ≡ other a bytes) → kept opened (r >>= λ a. more a.0 a.1) ≡ (r >>= λ a. other a.0 a.1)
kept_bound (Ok a) more other same = same a.0 a.1
kept_bound (Err f) more other same = refl

opening_kept : (bytes : List ℕ) → kept opened (items_at bytes) ≡ opening_at bytes
unfolding items_at opening_at
opening_kept bytes =
    kept_bound (word_at bytes) _ _ (λ xid bytes.
    kept_bound (only_at 0 bytes) _ _ (λ kind bytes.
    kept_bound (only_at 2 bytes) _ _ (λ rpc_version bytes.
    kept_bound (word_at bytes) _ _ (λ program bytes.
    kept_bound (only_at 1 bytes) _ _ (λ version bytes.
    kept_bound (choice_at bytes) _ _ (λ procedure bytes.
    kept_bound (word_at bytes) _ _ (λ flavor bytes.
    kept_bound (auth_at bytes) _ _ (λ credential bytes.
    kept_bound (word_at bytes) _ _ (λ verifier_flavor bytes.
    kept_bound (auth_at bytes) _ _ (λ verifier bytes. refl))))))))))

kept_found : (r : Result (CallHeader × List ℕ) Fault) (o : ℕ × ℕ) (rest : List ℕ) → kept opened r ≡ Ok (o, rest)
    → (h : CallHeader) × (r ≡ Ok (h, rest)) × (opened h ≡ o)
kept_found (Ok x) o rest e =
    let both : (opened x.0, x.1) ≡ (o, rest) = cc in
    (x.0, ap (λ (b : List ℕ). Ok (x.0, b)) (ap (λ (p : (ℕ × ℕ) × List ℕ). p.1) both), ap (λ (p : (ℕ × ℕ) × List ℕ). p.0) both)
kept_found (Err f) o rest e = absurd cc

-- What is read of a header stands in one.
pub opening_found : (bytes : List ℕ) (o : ℕ × ℕ) (rest : List ℕ) → IsBytes bytes → opening_at bytes ≡ Ok (o, rest)
    → (h : CallHeader) × (bytes ≡ header h ++ rest) × IsOpening h × (opened h ≡ o)
opening_found bytes o rest are e =
    let k = kept_found (items_at bytes) o rest (opening_kept bytes ∙ e) in
    let p = items_item.found bytes k.0 rest are k.1 in
    (k.0, p.0, p.1, k.2)

-- And what stands in a header is read.
pub opening_again : (h : CallHeader) (rest : List ℕ) → IsOpening h → opening_at (header h ++ rest) ≡ Ok (opened h, rest)
opening_again h rest fits = sym (opening_kept (header h ++ rest)) ∙ ap (kept opened) (items_item.again h rest fits)
