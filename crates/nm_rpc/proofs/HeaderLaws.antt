-- The reading and the spelling of credentials and headers belong together.
use Rattle.std.proofs.Common.{◌≡◌, ℕ, ◌+◌, ◌^◌, ◌≤◌, ◌<◌, List, ◌++◌, length, drop, Some, refl, sym, ap, ◌∙◌, append_assoc, arith}
use Rattle.std.proofs.lemmas.List.{drop_at, drop-drop}
use Rattle.nm_xdr.specs.Fields.{IsItem}
use Rattle.nm_xdr.specs.Items.{word, opaque, word_at}
use Rattle.nm_xdr.proofs.FieldLaws.{field_part, made_part, record_item, fits_as}
use Rattle.nm_xdr.proofs.ItemLaws.{word_item, opaque_item}
use Rattle.nm_xdr.proofs.ByteLaws.{bytes_item, words_item}
use Rattle.nm_rpc.proofs.Lengths.{word_length}
use Rattle.nm_rpc.specs.Messages.{SysCredential, sys_credential, sys_credential_at, IsSysCredential, CallHeader, header, auth_at, header_at, value_of, word_from, auth_from, IsHeader}

-- ---- Credentials

pub sys_credential_item : IsItem sys_credential_at sys_credential IsSysCredential
unfolding sys_credential_at sys_credential
sys_credential_item =
    fits_as IsSysCredential
    (λ s f. (f.stamp, (f.machine, (f.uid, (f.gid, ((f.count, f.gids), tt))))))
    (λ s f. record {
      stamp = f.0;
      machine = f.1.0;
      uid = f.1.1.0;
      gid = f.1.1.1.0;
      count = f.1.1.1.1.0.0;
      gids = f.1.1.1.1.0.1;
    }) (
    record_item (
    field_part (λ (s : SysCredential). s.stamp) _ (λ _. word_item) (
    field_part (λ s. s.machine) _ (λ _. opaque_item 255 (omega arith)) (
    field_part (λ s. s.uid) _ (λ _. word_item) (
    field_part (λ s. s.gid) _ (λ _. word_item) (
    field_part (λ s. s.gids) _ (λ _. words_item 16 (omega arith)) (
    made_part _ (λ _. refl) (λ _. refl))))))))

-- ---- Headers

pub auth_item : IsItem auth_at opaque (λ bytes. length bytes ≤ 400)
auth_item = bytes_item 400 (omega arith)

pub header_item : IsItem header_at header IsHeader
unfolding header_at header
header_item =
    fits_as IsHeader
    (λ h f. (f.xid, (f.kind, (f.rpc_version, (f.program, (f.version, (f.procedure, (f.flavor, (f.credential, (f.verifier_flavor, (f.verifier, tt)))))))))))
    (λ h f. record {
      xid = f.0;
      kind = f.1.0;
      rpc_version = f.1.1.0;
      program = f.1.1.1.0;
      version = f.1.1.1.1.0;
      procedure = f.1.1.1.1.1.0;
      flavor = f.1.1.1.1.1.1.0;
      credential = f.1.1.1.1.1.1.1.0;
      verifier_flavor = f.1.1.1.1.1.1.1.1.0;
      verifier = f.1.1.1.1.1.1.1.1.1.0;
    }) (
    record_item (
    field_part (λ (h : CallHeader). h.xid) _ (λ _. word_item) (
    field_part (λ (h : CallHeader). h.kind) _ (λ _. word_item) (
    field_part (λ (h : CallHeader). h.rpc_version) _ (λ _. word_item) (
    field_part (λ (h : CallHeader). h.program) _ (λ _. word_item) (
    field_part (λ (h : CallHeader). h.version) _ (λ _. word_item) (
    field_part (λ (h : CallHeader). h.procedure) _ (λ _. word_item) (
    field_part (λ (h : CallHeader). h.flavor) _ (λ _. word_item) (
    field_part (λ (h : CallHeader). h.credential) _ (λ _. auth_item) (
    field_part (λ (h : CallHeader). h.verifier_flavor) _ (λ _. word_item) (
    field_part (λ (h : CallHeader). h.verifier) _ (λ _. auth_item) (
    made_part _ (λ _. refl) (λ _. refl)))))))))))))

-- ---- Items at their places

-- the word at a place, and what is behind it
word_found : (place n : ℕ) (more rest bytes : List ℕ) → n < 2 ^ 32 → drop place bytes ≡ (word n ++ more) ++ rest → word_from place bytes ≡ Some n
unfolding word_from
word_found place n more rest bytes small is =
    ap (λ (b : List ℕ). value_of (word_at b)) (is ∙ append_assoc (word n) more rest) ∙ ap value_of (word_item.again n (more ++ rest) small)

behind_word : (place n : ℕ) (more rest bytes : List ℕ) → drop place bytes ≡ (word n ++ more) ++ rest → drop (place + 4) bytes ≡ more ++ rest
behind_word place n more rest bytes is =
    sym (drop-drop 4 place bytes) ∙ ap (drop 4) (is ∙ append_assoc (word n) more rest) ∙ drop_at (word n) (more ++ rest) 4 (word_length n)

auth_found : (place : ℕ) (auth more rest bytes : List ℕ) → length auth ≤ 400 → drop place bytes ≡ (opaque auth ++ more) ++ rest → auth_from place bytes ≡ Some auth
unfolding auth_from
auth_found place auth more rest bytes small is =
    ap (λ (b : List ℕ). value_of (auth_at b)) (is ∙ append_assoc (opaque auth) more rest) ∙ ap value_of (auth_item.again auth (more ++ rest) small)

-- What stands at each place of a header.
pub record Stands (h : CallHeader) (bytes : List ℕ) : Type 0 where
  pub xid : word_from 0 bytes ≡ Some h.xid
  pub kind : word_from 4 bytes ≡ Some h.kind
  pub rpc_version : word_from 8 bytes ≡ Some h.rpc_version
  pub program : word_from 12 bytes ≡ Some h.program
  pub version : word_from 16 bytes ≡ Some h.version
  pub procedure : word_from 20 bytes ≡ Some h.procedure
  pub flavor : word_from 24 bytes ≡ Some h.flavor
  pub credential : auth_from 28 bytes ≡ Some h.credential

pub items_stand : (h : CallHeader) (rest : List ℕ) → IsHeader h → Stands h (header h ++ rest)
unfolding header
items_stand h rest f =
    let bytes : List ℕ = header h ++ rest in
    let from_0 : drop 0 bytes ≡ header h ++ rest = refl in
    let from_4 = behind_word 0 h.xid _ rest bytes from_0 in
    let from_8 = behind_word 4 h.kind _ rest bytes from_4 in
    let from_12 = behind_word 8 h.rpc_version _ rest bytes from_8 in
    let from_16 = behind_word 12 h.program _ rest bytes from_12 in
    let from_20 = behind_word 16 h.version _ rest bytes from_16 in
    let from_24 = behind_word 20 h.procedure _ rest bytes from_20 in
    let from_28 = behind_word 24 h.flavor _ rest bytes from_24 in
    record {
      xid = word_found 0 h.xid _ rest bytes f.xid from_0;
      kind = word_found 4 h.kind _ rest bytes f.kind from_4;
      rpc_version = word_found 8 h.rpc_version _ rest bytes f.rpc_version from_8;
      program = word_found 12 h.program _ rest bytes f.program from_12;
      version = word_found 16 h.version _ rest bytes f.version from_16;
      procedure = word_found 20 h.procedure _ rest bytes f.procedure from_20;
      flavor = word_found 24 h.flavor _ rest bytes f.flavor from_24;
      credential = auth_found 28 h.credential _ rest bytes f.credential from_28;
    }
